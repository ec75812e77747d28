-- `tables::gone` meets its contract. Assumes nothing.
use mathlib.Core.Path.{sym, ◌∙◌}
use borrow.Author.Tests.{eq-eqb}
use Rattle.tables.proofs.Sets.{some_runs, gone_empty, gone_some}
use Rattle.tables.proofs.gone.Goals as goal

pub newest_upper-requires : goal.newest_upper-requires
newest_upper-requires c = (c.requires, some_runs c.args.set.now c.count.ensures c.if-count-eq0.false)

pub returns-then-count-eq0 : goal.returns-then-count-eq0
returns-then-count-eq0 c = eq-eqb _ _ c.if-count-eq0.true ∙ gone_empty _ _ (sym c.count.ensures ∙ c.if-count-eq0.true)

pub returns-else-count-eq0 : goal.returns-else-count-eq0
returns-else-count-eq0 c = let ws = c.args.set.now in gone_some _ ws (some_runs ws c.count.ensures c.if-count-eq0.false) c.newest_upper.ensures
