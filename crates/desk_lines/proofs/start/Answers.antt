-- `desk_lines::start` meets its contract. Assumes nothing.
use mathlib.Core.Path.{refl}
use Rattle.desk_lines.proofs.start.Goals as goal

pub returns : goal.returns
returns c = (refl, record { counts = tt; stands = c.«open».ensures.stands })
