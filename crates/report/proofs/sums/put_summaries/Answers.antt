use native.Mathlib.Omega.{arith}
use Rattle.report.proofs.Summing.{sum_start, sum_more, sum_done}
use Rattle.report.proofs.sums.put_summaries.Goals as goal

pub property_count-count-requires : goal.property_count-count-requires
property_count-count-requires c = c.requires.sound.book

pub loop-i-init : goal.loop-i-init
loop-i-init c = (c.property_count-count.ensures, sum_start _ _ _ _)

pub put_summary-p-requires : goal.put_summary-p-requires
put_summary-p-requires c = let book = c.requires.sound.book in let e = c.loop-i.invariant.0 in omega (arith, book.assumes_few, book.guarantees_few)

pub loop-i-preserved : goal.loop-i-preserved
loop-i-preserved c = let l = c.loop-i in (l.invariant.0, sum_more l.invariant.1 c.loop-i-test.true c.put_summary-p.ensures c.put_summary-p.auto.out)

pub returns : goal.returns
returns c = let l = c.loop-i in rw l.invariant.0 at (sum_done l.invariant.1 c.loop-i-test.false)
