-- `calls::drop_from` meets its contract: what is over is dropped from the set's part of the memory. Assumes nothing.
use Rattle.calls.proofs.Commits.{put_as, held_good, held_done}
use Rattle.memory.specs.Layout.{SETS, SET}
use Rattle.lists.proofs.Parts.{part_to}
use mathlib.Core.Path.{refl}
use Prim.Native.Nat.{ℕ, ◌+◌, ◌*◌}
use Rattle.calls.proofs.drop_from.Goals as goal

pub drop_before-requires : goal.drop_before-requires
drop_before-requires c = let a : ℕ = SETS + SET * c.args.slot in let q = part_to a (a + SET) SET c.args.words.now refl in held_good c.requires q

pub returns : goal.returns
returns c = let a : ℕ = SETS + SET * c.args.slot in put_as a (a + SET) c.args.words.now refl (held_done c.requires (part_to a (a + SET) SET c.args.words.now refl) c.args.clock c.drop_before.ensures)
