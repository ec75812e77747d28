-- `buffer_writer::finished` meets its contract. Assumes nothing.
use Rattle.buffer_writer.proofs.Writes.{done_short, done_right}
use Rattle.buffer_writer.proofs.finished.Goals as goal

pub returns-then-out-at : goal.returns-then-out-at
returns-then-out-at c = done_short _ _ _ (c.fill.ensures.after (λ _ e. e)) c.if-out-at.true

pub returns : goal.returns
returns c = done_right _ _ c.if-out-at.false
