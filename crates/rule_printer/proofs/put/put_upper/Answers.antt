use Rattle.rule_printer.proofs.Putting.{upper_star, upper_number}
use Rattle.rule_printer.proofs.put.put_upper.Goals as goal

-- src/put.rt:35:9
pub returns-then-upper-eq-MAX : goal.returns-then-upper-eq-MAX
returns-then-upper-eq-MAX c = rw (upper_star _ c.if-upper-eq-MAX.true) c.put_bytes.ensures

-- src/put.rt:31:1
pub returns : goal.returns
returns c = rw (upper_number _ c.if-upper-eq-MAX.false) c.put_number.ensures
