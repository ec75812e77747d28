use native.Mathlib.Omega.{arith}
use mathlib.Core.Path.{◌≡◌, sym}
use Rattle.desk.proofs.Kits.{Short, short_start, short_more, long_found}
use Rattle.desk.proofs.given.any_too_long.Goals as goal

pub loop-k-init : goal.loop-k-init
loop-k-init c = short_start _

pub returns-then-window_at-gt-LAST_TIME : goal.returns-then-window_at-gt-LAST_TIME
returns-then-window_at-gt-LAST_TIME c = long_found _ _ _ _ c.loop-k.invariant c.window_at.ensures c.if-window_at-gt-LAST_TIME.true c.loop-k-test.true

pub loop-k-preserved : goal.loop-k-preserved
loop-k-preserved c = short_more _ _ _ c.loop-k.invariant c.window_at.ensures c.if-window_at-gt-LAST_TIME.false

pub returns : goal.returns
returns c =
    let s : Short c.args.kits.now c.loop-k.k = c.loop-k.invariant in
    let e : c.loop-k.k ≡ c.args.count = omega arith in
    sym (rw e at s.none)
