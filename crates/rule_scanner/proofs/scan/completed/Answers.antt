use Rattle.rule_scanner.proofs.Passing.{less_is}
use mathlib.Core.Path.{◌∙◌}
use Rattle.rule_scanner.proofs.scan.completed.Goals as goal

pub returns-then-depth-eq0 : goal.returns-then-depth-eq0
returns-then-depth-eq0 c = rw (c.if-depth-eq0.true, ← less_is c.args.p.left, ← c.saturating_sub.ensures) c.between.ensures
