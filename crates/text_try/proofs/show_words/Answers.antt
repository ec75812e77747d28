use Rattle.std.proofs.Common.{sym, arith}
use Rattle.text.proofs.Supplies.{word}
use Rattle.text_try.proofs.show_words.Goals as goal

pub loop-word-smaller : goal.loop-word-smaller
loop-word-smaller g c = let t = word _ _ (sym c.in-Ok.ensures) in omega (arith, t.further, t.within)

pub loop-word-preserved : goal.loop-word-preserved
loop-word-preserved g c = let t = word _ _ (sym c.in-Ok.ensures) in omega (arith, t.further, t.within)
