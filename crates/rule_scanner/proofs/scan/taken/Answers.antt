use Rattle.rule_scanner.proofs.Passing.{step_leaf, step_open, step_part, step_close, step_counted, part_some, close_some}
use native.Mathlib.Omega.{arith}
use Rattle.rule_scanner.specs.Scanning.{form_byte}
use Rattle.rule_scanner.specs.Reading.{parted}
use mathlib.Core.Path.{refl, ap, ◌∙◌}
use Rattle.rule_scanner.proofs.scan.taken.Goals as goal

pub returns-in-Leaf : goal.returns-in-Leaf
returns-in-Leaf c = rw c.in-Leaf.is (step_leaf _ _ _ _ _ c.completed.ensures)

pub returns-in-Open : goal.returns-in-Open
returns-in-Open c = rw c.in-Open.is (step_open _ _ _ _ _ _ _ c.requires.0 (rw (c.first_mode.ensures, c.form_of-form.ensures)) (c.form_byte.ensures ∙ ap form_byte c.form_of-form.ensures))

pub returns-in-Part : goal.returns-in-Part
returns-in-Part c = rw c.in-Part.is (step_part _ _ _ refl (part_some _ _ c.requires.3 c.in-Part.is) _ _ (omega arith) refl (c.form_byte-in-Part.ensures ∙ ap form_byte (c.parted.ensures ∙ ap parted c.byte_form.ensures)))

pub returns-in-Close : goal.returns-in-Close
returns-in-Close c = rw c.in-Close.is (step_close _ _ _ refl (close_some _ _ c.requires.3 c.in-Close.is) _ c.completed-in-Close.ensures)

pub returns-in-Counted : goal.returns-in-Counted
returns-in-Counted c = rw c.in-Counted.is (step_counted _ _ _ _ c.between.ensures)
