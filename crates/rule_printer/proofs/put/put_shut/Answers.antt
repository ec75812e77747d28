use mathlib.Core.Logic.{⊎_elim}
use Rattle.rule_printer.proofs.Putting.{none_put}
use Rattle.rule_scanner.specs.Writing.{shut}
use Rattle.rule_printer.specs.Printing.{spell, spelled}
use Rattle.rule_printer.proofs.put.put_shut.Goals as goal

pub returns-in-False : goal.returns-in-False
unfolding spelled shut
returns-in-False c =
    ⊎_elim
    (λ e. rw e (none_put _ _))
    (⊎_elim
    (λ e. rw e (none_put _ _))
    (λ e. rw e (none_put _ _)))
    c.in-False.is

pub returns-in-And : goal.returns-in-And
unfolding spelled spell shut
returns-in-And c =
    ⊎_elim
    (λ e. rw e c.put_bytes.ensures)
    (⊎_elim
    (λ e. rw e c.put_bytes.ensures)
    (⊎_elim
    (λ e. rw e c.put_bytes.ensures)
    (⊎_elim
    (λ e. rw e c.put_bytes.ensures)
    (⊎_elim
    (λ e. rw e c.put_bytes.ensures)
    (⊎_elim
    (λ e. rw e c.put_bytes.ensures)
    (λ e. rw e c.put_bytes.ensures))))))
    c.in-And.is
