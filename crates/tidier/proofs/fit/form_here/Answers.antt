use Rattle.tidier.proofs.Fitness.{form_named, form_other}
use Rattle.tidier.proofs.fit.form_here.Goals as goal

-- src/fit.rt:90:9
pub returns-then-row-step : goal.returns-then-row-step
returns-then-row-step c = form_named _ _ c.if-row-step.true

-- src/fit.rt:86:1
pub returns : goal.returns
returns c = form_other _ _ c.if-row-step.false
