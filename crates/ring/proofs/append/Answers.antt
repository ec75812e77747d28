-- `ring::append` meets its contract. Assumes nothing.
use mathlib.Core.Path.{◌∙◌}
use native.Mathlib.Omega.{arith}
use Rattle.ring.proofs.Adds.{place_free, appended}
use Rattle.ring.proofs.append.Goals as goal

pub overflow_add-n : goal.overflow_add-n
overflow_add-n c = let m = c.args.set.now in let h = place_free m c.args.lower c.args.upper c.requires.rolling.0 c.requires.rolling.1 c.requires.rolling.2 c.requires.set_value in omega arith

pub store-requires : goal.store-requires
store-requires c = let m = c.args.set.now in (c.requires.rolling.0, place_free m c.args.lower c.args.upper c.requires.rolling.0 c.requires.rolling.1 c.requires.rolling.2 c.requires.set_value)

pub returns : goal.returns
returns c = let m = c.args.set.now in let t = c.store in appended m c.args.lower c.args.upper c.requires.rolling.0 c.requires.rolling.1 c.requires.rolling.2 c.requires.set_value _ (t.auto.set ∙ c.requires.rolling.0.long) t.ensures.1 (omega arith) t.ensures.0
