-- `tables::until_of` meets its contract. Assumes nothing.
use mathlib.Core.Path.{sym, ◌∙◌}
use native.Mathlib.Omega.{arith}
use Rattle.tables.proofs.Sets.{some_runs}
use Rattle.tables.proofs.Until.{until_none, unbounded_rests, unbounded_now, bounded_rests, bounded_now}
use Rattle.tables.proofs.until_of.Goals as goal

pub returns-then-count-eq0 : goal.returns-then-count-eq0
returns-then-count-eq0 c = until_none _ _ _ _ (sym c.count.ensures ∙ c.if-count-eq0.true)

pub newest_lower-requires : goal.newest_lower-requires
newest_lower-requires c = (c.requires.rolling.0, some_runs c.args.set.now c.count.ensures c.if-count-eq0.false)

pub returns-then-newest_lower-clock : goal.returns-then-newest_lower-clock
returns-then-newest_lower-clock c = unbounded_rests c.args.set.now c.args.clock c.args.lower c.args.upper (some_runs c.args.set.now c.count.ensures c.if-count-eq0.false) c.if-upper-eq-MAX.true c.newest_lower.ensures c.if-newest_lower-clock.true c.rests_until.ensures

pub returns-then-upper-eq-MAX : goal.returns-then-upper-eq-MAX
returns-then-upper-eq-MAX c = unbounded_now c.args.set.now c.args.clock c.args.lower c.args.upper (some_runs c.args.set.now c.count.ensures c.if-count-eq0.false) c.if-upper-eq-MAX.true c.newest_lower.ensures c.if-newest_lower-clock.false

pub newest_upper-requires : goal.newest_upper-requires
newest_upper-requires c = (c.requires.rolling.0, some_runs c.args.set.now c.count.ensures c.if-count-eq0.false)

pub overflow_add-clock-2 : goal.overflow_add-clock-2
overflow_add-clock-2 c = let u = c.requires.upper_bound c.if-upper-eq-MAX.false in omega arith

pub returns-then-newest_upper-clock : goal.returns-then-newest_upper-clock
returns-then-newest_upper-clock c = bounded_rests c.args.set.now c.args.clock c.args.lower c.args.upper (some_runs c.args.set.now c.count.ensures c.if-count-eq0.false) c.if-upper-eq-MAX.false c.newest_upper.ensures c.if-newest_upper-clock.true c.rests_until-then-newest_upper-clock.ensures

pub returns : goal.returns
returns c = bounded_now c.args.set.now c.args.clock c.args.lower c.args.upper (some_runs c.args.set.now c.count.ensures c.if-count-eq0.false) c.if-upper-eq-MAX.false c.newest_upper.ensures c.if-newest_upper-clock.false
