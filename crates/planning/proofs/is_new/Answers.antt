-- `planning::is_new` meets its contract: an atom by its byte, another row by the lowest below it. Assumes nothing.
use mathlib.Core.Path.{sym, ◌∙◌}
use Rattle.planning.proofs.Spared.{atom_word, new_byte, new_below}
use Rattle.planning.proofs.is_new.Goals as goal

pub atom_at-requires : goal.atom_at-requires
atom_at-requires c = let e = c.arg_at.ensures in rw e (c.requires.1.inside (atom_word _ (sym c.row_kind.ensures.0 ∙ c.in-Atom.is)))

pub returns-in-Atom : goal.returns-in-Atom
returns-in-Atom c = new_byte c.args.monitor.now c.args.atoms.now c.args.row c.args.changed c.row_kind.ensures.0 c.in-Atom.is c.holds.ensures c.arg_at.ensures c.atom_at.ensures

pub returns-in_default : goal.returns-in_default
returns-in_default c = new_below c.args.monitor.now c.args.atoms.now c.args.row c.args.changed c.row_kind.ensures.0 c.in_default.not-Atom c.lowest_at.ensures
