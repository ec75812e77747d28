use Rattle.desk_lines.proofs.Steps.{next_number}
use Rattle.desk_lines.proofs.next_number.Goals as goal

pub returns : goal.returns
returns c = next_number _ _ c.saturating_add.ensures
