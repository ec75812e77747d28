use Rattle.std.proofs.Common.{sym, arith}
use Rattle.text.proofs.Supplies.{word}
use Rattle.replay.proofs.show_all.Goals as goal

pub loop-at-smaller : goal.loop-at-smaller
loop-at-smaller g c = let taken = word _ _ (sym c.in-Ok.ensures) in omega (arith, taken.further)
