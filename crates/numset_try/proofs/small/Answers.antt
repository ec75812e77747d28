-- Words that are all 0 are a set.
use Rattle.numset.proofs.Packs.{good_zeros}
use Rattle.std.proofs.Common.{lit<}
use Rattle.numset_try.proofs.small.Goals as goal

pub no_run-requires : goal.no_run-requires
no_run-requires g c = good_zeros 1 (lit< tt)

pub one_run-requires : goal.one_run-requires
one_run-requires g c = good_zeros 3 (lit< tt)

pub two_runs-requires : goal.two_runs-requires
two_runs-requires g c = good_zeros 5 (lit< tt)
