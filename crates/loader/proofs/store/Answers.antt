-- `loader::store` meets its contract. Assumes nothing.
use Rattle.loader.proofs.Holds.{rowed, store_holds}
use Rattle.book.specs.Placing.{sections_of}
use Rattle.book.specs.Loading.{way_in}
use native.Mathlib.Omega.{arith}
use Rattle.loader.proofs.store.Goals as goal

pub put_rows-totals-requires : goal.put_rows-totals-requires
put_rows-totals-requires c =
    let l = c.requires.zeroed.long in
    let k₂ = c.copy.auto in
    let k₃ = c.copy-2.auto in
    let k₄ = c.copy-3.auto in
    record { rowed = rowed (sections_of c.args.given.now c.args.operands.now c.args.assumes.now c.args.guarantees.now) c.requires.accepted; monitor_len = omega arith }

pub returns : goal.returns
returns c =
    let n = c.put_rows-totals.ensures in
    store_holds (way_in c.args.way) (sections_of c.args.given.now c.args.operands.now c.args.assumes.now c.args.guarantees.now) c.requires.accepted c.requires.zeroed.zeros c.copy.ensures c.copy-2.ensures c.copy-3.ensures n.2 n.0 n.1 c.put_head.ensures
