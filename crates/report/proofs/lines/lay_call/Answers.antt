-- `report::lines::lay_call` meets its contract. Assumes nothing.
use native.Mathlib.Omega.{arith}
use lib.ListN.{length-drop}
use Rattle.report.proofs.Lasting.{line_laid}
use Rattle.report.proofs.lines.lay_call.Goals as goal

pub lay_bytes-b-requires : goal.lay_bytes-b-requires
lay_bytes-b-requires c =
    omega (arith, c.lay_digits-a.ensures.after, length-drop c.args.first c.args.digits.now)

pub lay_rest-requires : goal.lay_rest-requires
lay_rest-requires c =
    (c.requires.kept.0, omega (arith, c.lay_digits-a.ensures.after, c.lay_bytes-b.ensures.after, length-drop c.args.first c.args.digits.now))

pub returns : goal.returns
returns c =
    line_laid _ _ c.lay_digits-a.ensures c.lay_bytes-b.ensures c.lay_rest.ensures
