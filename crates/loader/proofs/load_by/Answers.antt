-- `loader::load_by` meets its contract. Assumes nothing.
use mathlib.Core.Path.{◌≡◌}
use lib.ListN.{length, replicate}
use Rattle.memory.specs.Layout.{SIZE}
use borrow.Author.Rules.{rules}
use Rattle.loader.proofs.load_by.Goals as goal

pub load_in_zeros-requires : goal.load_in_zeros-requires
load_in_zeros-requires c =
    let long : length c.args.monitor.now ≡ SIZE = search rules in
    let zeros : c.fill.new.self ≡ replicate (length c.args.monitor.now) 0 = search rules in
    rw long at zeros
