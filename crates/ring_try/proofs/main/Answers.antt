-- Words that are all 0 are a ring.
use Rattle.ring.proofs.Again.{zeros_ring}
use Rattle.ring_try.proofs.main.Goals as goal

pub show_all-requires : goal.show_all-requires
show_all-requires c = zeros_ring
