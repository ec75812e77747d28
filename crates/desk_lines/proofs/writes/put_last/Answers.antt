-- `desk_lines::writes::put_last` meets its contract. Assumes nothing.
use mathlib.Core.Logic.{⊎_elim}
use Rattle.desk_lines.proofs.Bytes.{last_awaited, last_giving, last_opened, last_closed}
use Rattle.desk_lines.proofs.writes.put_last.Goals as goal

pub returns-in-Awaited : goal.returns-in-Awaited
returns-in-Awaited c =
    let w = rw c.number.ensures at c.put_numbered.ensures in
    ⊎_elim (λ e. last_awaited _ e w) (λ p. last_giving _ p.2 w) c.in-Awaited.is

pub returns-in-Opened : goal.returns-in-Opened
returns-in-Opened c = last_opened _ c.in-Opened.is c.put_bytes.ensures

pub returns-in-Closed : goal.returns-in-Closed
returns-in-Closed c = last_closed _ c.in-Closed.is
