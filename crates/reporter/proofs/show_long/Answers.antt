use Rattle.std.proofs.Common.{◌∙◌, sym, ℕ}
use Rattle.std.proofs.lemmas.List.{length-replicate}
use Rattle.reporter.proofs.Rooms.{in_room, long_holds}
use Rattle.reporter.proofs.show_long.Goals as goal

pub slice_bounds-shown-end : goal.slice_bounds-shown-end
slice_bounds-shown-end g c = sym (length-replicate {0} {A = ℕ} 2300000 0)

pub returns : goal.returns
returns g c = in_room _ 2300000 c.args.input.now c.shown.result c.shown.ensures ∙ long_holds _ c.args.input.now
