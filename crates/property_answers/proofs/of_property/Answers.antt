-- `property_answers::of_property` meets its contract: a property that is not there, or a look at the tables. Assumes nothing.
use native.Mathlib.Omega.{arith}
use mathlib.Core.Path.{sym}
use Rattle.property_answers.proofs.Bridge.{verdict_out}
use Rattle.property_answers.proofs.of_property.Goals as goal

pub returns-then-property_count-i : goal.returns-then-property_count-i
returns-then-property_count-i c = sym (verdict_out c.args.monitor.now c.requires c.args.i (omega arith))
