-- `desk_lines::writes::put_event` meets its contract. Assumes nothing.
use Rattle.desk_lines.proofs.Bytes.{said_nothing, said_desk, said_scan, said_slip}
use Rattle.desk_lines.proofs.writes.put_event.Goals as goal

pub returns-in-Nothing : goal.returns-in-Nothing
returns-in-Nothing c = said_nothing _ _ c.in-Nothing.is

pub returns-in-Desk : goal.returns-in-Desk
returns-in-Desk c = said_desk _ _ c.in-Desk.is c.put_numbered.ensures

pub returns-in-Some : goal.returns-in-Some
returns-in-Some c = said_slip _ _ c.in-Scan.is c.put_scan-a.ensures c.in-Some.is c.put_numbered-in-Some.ensures

pub returns-in-None : goal.returns-in-None
returns-in-None c = said_scan _ _ c.in-Scan.is c.put_scan-a.ensures c.in-None.is
