-- `desk_lines::last` meets its contract. Assumes nothing.
use Rattle.desk_lines.proofs.last.Goals as goal

pub returns : goal.returns
returns c = c.last.ensures
