-- `report::lines::put_call` meets its contract. Assumes nothing.
use native.Mathlib.Omega.{arith}
use Rattle.report.proofs.Lasting.{as_accepted}
use Rattle.report.proofs.lines.put_call.Goals as goal

pub lay_call-requires : goal.lay_call-requires
lay_call-requires c =
    record { kept = c.requires; at_in_bounds = omega (arith, c.before_last.ensures, c.if-at-before_last.true) }

pub returns-then-at-before_last : goal.returns-then-at-before_last
returns-then-at-before_last c = as_accepted _ _ c.if-refusal-eq-ACCEPTED.true c.lay_call.ensures

pub put_parts-requires : goal.put_parts-requires
put_parts-requires c = (c.requires.0, c.requires.1)
