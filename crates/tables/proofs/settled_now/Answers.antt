-- `tables::settled_now` meets its contract. Assumes nothing.
use mathlib.Core.Path.{ap, sym, ◌∙◌}
use mathlib.Core.Bool.{cond}
use borrow.Author.Tests.{eq-eqb, ne_eqb}
use Rattle.pmtl.specs.declared.Answer.TheVariants.{Open}
use Rattle.row_answers.specs.Told.{settled_told}
use Rattle.tables.proofs.settled_now.Goals as goal

pub returns-then-begun-eq1 : goal.returns-then-begun-eq1
returns-then-begun-eq1 c = c.settled.ensures ∙ ap (λ b. cond b (settled_told c.args.monitor.now c.args.row) Open) (sym (eq-eqb _ 1 (sym c.begun.ensures ∙ c.if-begun-eq1.true)))

pub returns : goal.returns
returns c = ap (λ b. cond b (settled_told c.args.monitor.now c.args.row) Open) (sym (ne_eqb _ 1 (λ e. c.if-begun-eq1.false (c.begun.ensures ∙ e))))
