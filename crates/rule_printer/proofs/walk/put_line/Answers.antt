use Rattle.rule_printer.proofs.Walking.{line_put}
use Rattle.rule_printer.proofs.walk.put_line.Goals as goal

-- src/walk.rt:107:1
pub returns : goal.returns
returns c = line_put c.requires c.count_at.ensures c.put_begin-inner.ensures c.put_rest-end.ensures c.put_bytes.ensures
