-- `calls::change_set` meets its contract: the set's part of the memory is changed. Assumes nothing.
use Rattle.calls.proofs.Commits.{put_as, roomy_good, roomy_room, roomy_done}
use Rattle.memory.specs.Layout.{SETS, SET}
use Rattle.lists.proofs.Parts.{part_to}
use mathlib.Core.Path.{refl}
use Prim.Native.Nat.{ℕ, ◌+◌, ◌*◌}
use Rattle.calls.proofs.change_set.Goals as goal

pub change-requires : goal.change-requires
change-requires c = let a : ℕ = SETS + SET * c.args.slot in let q = part_to a (a + SET) SET c.args.words.now refl in record { rolling = roomy_good c.requires q; set_value = roomy_room c.requires q }

pub returns : goal.returns
returns c = let a : ℕ = SETS + SET * c.args.slot in put_as a (a + SET) c.args.words.now refl (roomy_done c.requires (part_to a (a + SET) SET c.args.words.now refl) c.change.ensures)
