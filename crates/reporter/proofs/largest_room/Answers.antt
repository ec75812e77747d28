use Rattle.std.proofs.Common.{refl, ◌∙◌, arith}
use Rattle.reporter.proofs.Rooms.{short_holds, only_short, long_too}
use Rattle.reporter.proofs.largest_room.Goals as goal

pub returns-then-input-le-SHORT_INPUT : goal.returns-then-input-le-SHORT_INPUT
returns-then-input-le-SHORT_INPUT c = only_short _ _ _ refl ∙ short_holds _ _ c.if-input-le-SHORT_INPUT.true

pub returns-else-input-le-SHORT_INPUT : goal.returns-else-input-le-SHORT_INPUT
returns-else-input-le-SHORT_INPUT c = long_too _ _ _ (λ e. omega (arith, e))
