-- `ring::has_room` meets its contract. Assumes nothing.
use Rattle.ring.proofs.Adds.{room_by_words}
use Rattle.ring.proofs.has_room.Goals as goal

pub returns : goal.returns
returns c = room_by_words c.args.set.now c.args.lower c.args.upper c.has_room.ensures
