-- A set by value is a set.
use Rattle.numset.proofs.Changes.{one_good}
use Rattle.numset.proofs.Packs.{good_none}
use Rattle.std.proofs.Common.{lit<, lit≤}
use Rattle.numset_try.proofs.by_value.Goals as goal

pub add_value-requires : goal.add_value-requires
add_value-requires g c = rw c.empty.ensures (good_none 129 (lit< tt))

pub add_value-requires-2 : goal.add_value-requires-2
add_value-requires-2 g c = rw c.from_interval.ensures (one_good 129 _ _ (lit≤ tt) (lit≤ tt))

pub add_value-requires-3 : goal.add_value-requires-3
add_value-requires-3 g c = rw c.from_interval-2.ensures (one_good 129 _ _ (lit≤ tt) (lit≤ tt))

pub add_value-requires-4 : goal.add_value-requires-4
add_value-requires-4 g c = rw c.from_interval-3.ensures (one_good 129 _ _ (lit≤ tt) (lit≤ tt))

pub ask_value-requires : goal.ask_value-requires
ask_value-requires g c = rw c.from_interval-4.ensures (one_good 129 _ _ (lit≤ tt) (lit≤ tt))

pub ask_value-requires-2 : goal.ask_value-requires-2
ask_value-requires-2 g c = rw c.from_interval-5.ensures (one_good 129 _ _ (lit≤ tt) (lit≤ tt))

pub drop_value-requires : goal.drop_value-requires
drop_value-requires g c = rw c.from_interval-6.ensures (one_good 129 _ _ (lit≤ tt) (lit≤ tt))

pub drop_value-requires-2 : goal.drop_value-requires-2
drop_value-requires-2 g c = rw c.from_interval-7.ensures (one_good 129 _ _ (lit≤ tt) (lit≤ tt))
