-- `calls::quiet_at` meets its contract. Assumes nothing.
use mathlib.Core.Bool.{true≢false}
use mathlib.Core.Path.{sym, ◌∙◌}
use Rattle.calls.proofs.Quiet.{quiet_until_lem}
use Rattle.calls.proofs.quiet_at.Goals as goal

pub returns-then-begun-ne1 : goal.returns-then-begun-ne1
returns-then-begun-ne1 c = λ e. absurd (true≢false (sym e))

pub returns : goal.returns
returns c = quiet_until_lem (sym c.begun.ensures ∙ c.if-begun-ne1.false) c.until.ensures
