use native.Mathlib.Omega.{arith}
use Rattle.report.proofs.Lasting.{lay_start, lay_more, lay_done}
use Rattle.report.proofs.lines.lay_from.Goals as goal

pub loop-i-init : goal.loop-i-init
loop-i-init c = lay_start _ _ _ _ _ c.requires.first_le_count.0

pub lay_word-requires : goal.lay_word-requires
lay_word-requires c = record { kept = c.requires.kept; i_bound = (omega arith, omega arith) }

pub loop-i-preserved : goal.loop-i-preserved
loop-i-preserved c = lay_more c.loop-i.invariant c.loop-i-test.true c.lay_word.ensures c.lay_word.auto.out

pub returns : goal.returns
returns c = lay_done c.loop-i.invariant c.loop-i-test.false
