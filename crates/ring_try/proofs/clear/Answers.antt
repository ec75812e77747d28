use Rattle.ring.proofs.Again.{bare_ring}
use Rattle.ring_try.proofs.clear.Goals as goal

pub look-requires : goal.look-requires
look-requires g c = bare_ring c.requires c.clear.ensures

pub returns : goal.returns
returns g c = bare_ring c.requires c.clear.ensures
