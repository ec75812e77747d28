-- `notes::count_taken` meets its contract. Assumes nothing.
use Prim.Native.Nat.{◌+◌}
use mathlib.Core.Path.{ap}
use lib.ListN.{set}
use Rattle.memory.specs.Layout.{TAKEN}
use Rattle.notes.proofs.count_taken.Goals as goal

pub returns : goal.returns
returns c = ap (λ x. set c.args.monitor.now TAKEN (x + 1)) c.taken.ensures
