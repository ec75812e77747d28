use native.Mathlib.Omega.{arith}
use mathlib.Core.Path.{sym, ◌∙◌}
use Rattle.std.proofs.Common.{length-drop}
use Rattle.rule_scanner.proofs.Scanning.{rest_is, run_some, run_none}
use Rattle.rule_scanner.proofs.symbols.run_end.Goals as goal

pub returns-in-Some : goal.returns-in-Some
returns-in-Some c =
    let k = run_some _ _ (rw (rest_is c.args.input.now c.args.at) at (sym c.in-Some.is ∙ c.first_other.ensures)) in
    (omega (arith, k.0), omega (arith, k.1, length-drop c.args.at c.args.input.now))

pub returns-in-None : goal.returns-in-None
returns-in-None c =
    let k = run_none _ _ (rw (rest_is c.args.input.now c.args.at) at (sym c.first_other.ensures ∙ c.in-None.is)) in
    (omega (arith, k, c.requires, length-drop c.args.at c.args.input.now), omega arith)
