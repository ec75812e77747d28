use Rattle.rule_reader.proofs.Making.{Maker}
use mathlib.Core.Path.{◌≡◌}
use lib.ListN.{length}
use Prim.Native.Nat.{◌-◌}
use Rattle.rule_reader.proofs.make.make.Given as goal

abbrev pub invariant-loop-p : goal.invariant-loop-p
invariant-loop-p l =
    Maker l.input l.at l.p l.initial.forms l.forms l.laid l.frames l.rows l.operands l.tops × (length l.frames ≡ length l.initial.frames) × (length l.rows ≡ length l.initial.rows) × (length l.operands ≡ length l.initial.operands) × (length l.tops ≡ length l.initial.tops)

abbrev pub decreases-loop-p : goal.decreases-loop-p
decreases-loop-p l =
    length l.input - l.at
