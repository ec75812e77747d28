use Rattle.std.proofs.Common.{sym}
use Rattle.std.proofs.lemmas.Result.{err_from_is_err_and}
use Rattle.text_reader.specs.Reads.{WordsRead}
use Rattle.text_reader.proofs.Taking.{stand_start, stand_more, stand_stop, stand_done}
use Rattle.text_reader.proofs.words_into.Goals as goal

pub loop-i-init : goal.loop-i-init
loop-i-init c = stand_start _ _ _ _ _

pub returns-in_err-word : goal.returns-in_err-word
unfolding WordsRead
returns-in_err-word c =
    let p = err_from_is_err_and c.from_residual.result c.from_residual.ensures.1 in
    rw (p.1, p.2) (stand_stop c.loop-i.invariant (sym c.in_err-word.ensures) c.loop-i-test.true)

pub loop-i-preserved : goal.loop-i-preserved
loop-i-preserved c = stand_more c.loop-i.invariant (sym c.in_ok-word.ensures) c.loop-i-test.true c.requires

pub returns : goal.returns
unfolding WordsRead
returns c = stand_done c.loop-i.invariant c.loop-i-test.false
