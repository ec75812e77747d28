-- `desk_lines::writes::put_scan` meets its contract. Assumes nothing.
use Rattle.desk_lines.proofs.Bytes.{scan_wrote, refused_wrote}
use Rattle.desk_lines.proofs.writes.put_scan.Goals as goal

pub returns-then-number-eq-ACCEPTED : goal.returns-then-number-eq-ACCEPTED
returns-then-number-eq-ACCEPTED c = scan_wrote _ _ _ c.put_number-a.ensures c.put_bytes-b.ensures c.put_number-c.ensures c.if-number-eq-ACCEPTED.true c.put_kits-d.ensures c.put_bytes.ensures

pub returns-else-number-eq-ACCEPTED : goal.returns-else-number-eq-ACCEPTED
returns-else-number-eq-ACCEPTED c = refused_wrote _ _ _ c.put_number-a.ensures c.put_bytes-b.ensures c.put_number-c.ensures c.if-number-eq-ACCEPTED.false c.put_bytes-else-number-eq-ACCEPTED.ensures
