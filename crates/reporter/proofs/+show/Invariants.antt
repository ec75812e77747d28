-- It calls itself with a smaller room.
use Rattle.reporter.proofs.+show.Given as goal

abbrev pub decreases-show : goal.decreases-show
decreases-show g l = l.room
