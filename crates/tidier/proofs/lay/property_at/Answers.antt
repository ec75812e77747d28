use native.Mathlib.Omega.{arith}
use Rattle.tidier.proofs.Booked.{first_property, second_property}
use Rattle.tidier.proofs.lay.property_at.Goals as goal

-- src/lay.rt:254:9
pub returns-then-i-before : goal.returns-then-i-before
returns-then-i-before c = first_property c.args.assumes.now c.args.guarantees.now c.args.i c.if-i-before.true

-- src/lay.rt:248:1
pub returns : goal.returns
returns c = second_property c.args.assumes.now c.args.guarantees.now c.args.i (omega (arith, c.if-i-before.false))
