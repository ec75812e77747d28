use Rattle.numset.proofs.Resets.{empty_good}
use Rattle.std.proofs.Common.{rules}
use Rattle.numset_try.proofs.show_all.Goals as goal

pub examples-requires : goal.examples-requires
examples-requires g c = empty_good c.args.set.now c.empty.ensures.1 (search rules)
