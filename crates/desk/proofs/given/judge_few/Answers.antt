use Rattle.desk.proofs.Kits.{given_twice, window_long, all_right}
use Rattle.desk.proofs.given.judge_few.Goals as goal

pub returns-then-any_repeated : goal.returns-then-any_repeated
returns-then-any_repeated c = given_twice _ _ c.requires.0 c.requires.1 c.any_repeated.ensures c.if-any_repeated.true

pub returns-then-any_too_long : goal.returns-then-any_too_long
returns-then-any_too_long c = window_long _ _ c.requires.0 c.requires.1 c.any_repeated.ensures c.if-any_repeated.false c.any_too_long.ensures c.if-any_too_long.true

pub returns-else-any_too_long : goal.returns-else-any_too_long
returns-else-any_too_long c = all_right _ _ c.requires.0 c.requires.1 c.any_repeated.ensures c.if-any_repeated.false c.any_too_long.ensures c.if-any_too_long.false
