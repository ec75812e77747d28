use Rattle.rule_printer.proofs.Walking.{comma_none, comma_put}
use Rattle.rule_printer.proofs.walk.put_comma.Goals as goal

-- src/walk.rt:79:9
pub returns-then-left-count : goal.returns-then-left-count
returns-then-left-count c = comma_none _ _ c.if-left-count.true

-- src/walk.rt:75:1
pub returns : goal.returns
returns c = comma_put _ _ c.if-left-count.false c.put_bytes.ensures
