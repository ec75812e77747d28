use native.Mathlib.Omega.{arith}
use mathlib.Core.Path.{◌≡◌}
use lib.ListN.{length}
use borrow.Author.Rules.{rules}
use Rattle.calls.proofs.Most.{greatest_start, greatest_more}
use Rattle.calls.proofs.greatest.Goals as goal

pub loop-byte-init : goal.loop-byte-init
loop-byte-init c = greatest_start _

pub loop-byte-preserved : goal.loop-byte-preserved
loop-byte-preserved c = greatest_more c.loop-byte.invariant (search rules)

pub returns : goal.returns
returns c =
    let l = c.loop-byte in
    let e : l.byte-index ≡ length c.args.bytes.now = let t = c.loop-byte-test.false in let b = l.auto.byte-index-end in omega arith in
    rw e at l.invariant
