-- `tables::fill_until` meets its contract. Assumes nothing.
use Prim.Native.Nat.{ℕ}
use mathlib.Core.Path.{ap}
use native.Mathlib.Omega.{arith}
use lib.ListN.{set}
use Rattle.memory.specs.Layout.{UNTIL}
use Rattle.tables.proofs.fill_until.Goals as goal

pub bounds-monitor-5865 : goal.bounds-monitor-5865
bounds-monitor-5865 c = let long = c.requires.book.long in omega arith

pub returns : goal.returns
returns c = ap (λ (u : ℕ). set c.args.monitor.now UNTIL u) c.least_until-until.ensures
