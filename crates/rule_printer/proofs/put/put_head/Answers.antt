use mathlib.Core.Logic.{⊎_elim}
use Rattle.rule_printer.proofs.Putting.{none_put, head_put_lem, said_false, said_true, said_atom, said_and, said_or, said_not, said_implies, said_hist, said_once, said_since}
use Rattle.rule_printer.proofs.put.put_head.Goals as goal

pub returns-in-False : goal.returns-in-False
returns-in-False c =
    ⊎_elim
    (λ e. head_put_lem _ _ _ _ _ e (said_false _ _ _) c.put_word-next.ensures (none_put _ _))
    (λ e. head_put_lem _ _ _ _ _ e (said_true _ _ _) c.put_word-next.ensures (none_put _ _))
    c.in-False.is

pub returns-in-Atom : goal.returns-in-Atom
returns-in-Atom c = head_put_lem _ _ _ _ _ c.in-Atom.is (said_atom _ _ _) c.put_word-next.ensures c.put_number.ensures

pub returns-in-And : goal.returns-in-And
returns-in-And c =
    ⊎_elim
    (λ e. head_put_lem _ _ _ _ _ e (said_and _ _ _) c.put_word-next.ensures c.put_bytes.ensures)
    (⊎_elim
    (λ e. head_put_lem _ _ _ _ _ e (said_or _ _ _) c.put_word-next.ensures c.put_bytes.ensures)
    (⊎_elim
    (λ e. head_put_lem _ _ _ _ _ e (said_not _ _ _) c.put_word-next.ensures c.put_bytes.ensures)
    (λ e. head_put_lem _ _ _ _ _ e (said_implies _ _ _) c.put_word-next.ensures c.put_bytes.ensures)))
    c.in-And.is

pub returns-in-Historically : goal.returns-in-Historically
returns-in-Historically c =
    ⊎_elim
    (λ e. head_put_lem _ _ _ _ _ e (said_hist _ _ _) c.put_word-next.ensures c.put_range.ensures)
    (⊎_elim
    (λ e. head_put_lem _ _ _ _ _ e (said_once _ _ _) c.put_word-next.ensures c.put_range.ensures)
    (λ e. head_put_lem _ _ _ _ _ e (said_since _ _ _) c.put_word-next.ensures c.put_range.ensures))
    c.in-Historically.is
