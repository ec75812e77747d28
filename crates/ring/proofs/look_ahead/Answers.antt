-- `ring::look_ahead` meets its contract. Assumes nothing.
use mathlib.Core.Path.{sym, ◌∙◌}
use Rattle.ring.proofs.Ahead.{here_in, here_out, room_kept, room_still}
use Rattle.ring.proofs.look_ahead.Goals as goal

pub returns-then-comes : goal.returns-then-comes
returns-then-comes c = (c.if-comes.true ∙ here_in _ _ c.args.t c.requires c.inside-comes.ensures c.if-comes.true, room_kept c.args.set.now c.args.t c.args.lower c.args.upper c.requires (sym c.oldest_lapsed.ensures ∙ c.if-oldest_lapsed.true))

pub returns-else-comes : goal.returns-else-comes
returns-else-comes c = (here_out _ _ c.args.t c.requires c.inside-comes.ensures c.if-comes.false c.newer_has.ensures, room_kept c.args.set.now c.args.t c.args.lower c.args.upper c.requires (sym c.oldest_lapsed.ensures ∙ c.if-oldest_lapsed.true))

pub returns-then-comes-2 : goal.returns-then-comes-2
returns-then-comes-2 c = (c.if-comes-2.true ∙ here_in _ _ c.args.t c.requires c.inside-comes.ensures c.if-comes-2.true, room_still c.args.set.now c.args.t c.args.lower c.args.upper c.requires (sym c.oldest_lapsed.ensures ∙ c.if-oldest_lapsed.false) c.has_room-room.ensures)

pub returns-else-comes-2 : goal.returns-else-comes-2
returns-else-comes-2 c = (here_out _ _ c.args.t c.requires c.inside-comes.ensures c.if-comes-2.false c.oldest_has.ensures, room_still c.args.set.now c.args.t c.args.lower c.args.upper c.requires (sym c.oldest_lapsed.ensures ∙ c.if-oldest_lapsed.false) c.has_room-room.ensures)
