use Rattle.book.proofs.Excess.{over_start}
use Rattle.book.proofs.strict.excess_in.Goals as goal

pub loop-row-init : goal.loop-row-init
loop-row-init c = over_start _
