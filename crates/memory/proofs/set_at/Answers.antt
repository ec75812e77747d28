-- `memory::set_at` meets its contract. Assumes nothing.
use Prim.Native.Nat.{◌+◌}
use mathlib.Core.Path.{refl}
use Rattle.memory.specs.Layout.{SET}
use Rattle.memory.specs.Memory.{set_start}
use Rattle.lists.proofs.Parts.{part_to}
use Rattle.memory.proofs.set_at.Goals as goal

pub returns : goal.returns
returns c = part_to (set_start c.args.slot) (set_start c.args.slot + SET) SET c.args.monitor.now refl
