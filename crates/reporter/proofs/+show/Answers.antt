use Rattle.std.proofs.Common.{sym, ◌∙◌}
use Rattle.reporter.proofs.Rooms.{only_short, long_too}
use Rattle.reporter.proofs.+show.Goals as goal

pub returns-then-room-eq-SHORT : goal.returns-then-room-eq-SHORT
returns-then-room-eq-SHORT g t c = c.show_short.ensures ∙ sym (only_short _ _ _ c.if-room-eq-SHORT.true)

pub returns-then-show : goal.returns-then-show
returns-then-show g t c = c.if-show.true ∙ sym (long_too _ _ _ c.if-room-eq-SHORT.false)

pub returns-else-show : goal.returns-else-show
returns-else-show g t c = c.show_long.ensures ∙ sym (long_too _ _ _ c.if-room-eq-SHORT.false)
