use Rattle.std.proofs.Common.{sym, ℕ}
use Rattle.std.proofs.lemmas.List.{length-replicate}
use Rattle.reporter.proofs.Rooms.{in_room}
use Rattle.reporter.proofs.show_short.Goals as goal

pub slice_bounds-shown-end : goal.slice_bounds-shown-end
slice_bounds-shown-end g c = sym (length-replicate {0} {A = ℕ} 65536 0)

pub returns : goal.returns
returns g c = in_room _ 65536 c.args.input.now c.shown.result c.shown.ensures
