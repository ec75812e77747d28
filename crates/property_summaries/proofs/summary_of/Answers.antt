-- `property_summaries::summary_of` meets its contract: a property that is not there, or a look at the ledger. Assumes nothing.
use native.Mathlib.Omega.{arith}
use mathlib.Core.Path.{sym, ◌∙◌}
use Rattle.property_summaries.proofs.Bridge.{summary_out}
use Rattle.property_summaries.proofs.summary_of.Goals as goal

pub returns-then-property_count-i : goal.returns-then-property_count-i
returns-then-property_count-i c = c.absent.ensures ∙ sym (summary_out c.args.monitor.now c.args.i (omega arith))
