-- `text_reader::state` meets its contract. Assumes nothing.
use Rattle.std.proofs.Common.{sym}
use Rattle.std.proofs.lemmas.Result.{err_from_is_err_and}
use Rattle.text_reader.specs.Reads.{StateRead}
use Rattle.text_reader.proofs.Taking.{section_none, section_over, state_read}
use Rattle.text_reader.proofs.state.Goals as goal

pub returns-in_err-width : goal.returns-in_err-width
unfolding StateRead
returns-in_err-width c =
    let p = err_from_is_err_and c.from_residual.result c.from_residual.ensures.1 in
    rw (p.1, p.2) (section_none _ _ _ _ (sym c.in_err-width.ensures))

pub returns-then-width : goal.returns-then-width
unfolding StateRead
returns-then-width c = section_over _ _ _ _ (sym c.in_ok-width.ensures) c.if-width.true

pub returns : goal.returns
returns c = state_read _ _ _ _ (sym c.in_ok-width.ensures) c.if-width.false c.bytes_into.ensures
