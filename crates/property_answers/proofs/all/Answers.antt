-- `property_answers::all` meets its contract. Assumes nothing.
use native.Mathlib.Omega.{arith}
use mathlib.Core.Path.{sym, ◌∙◌}
use Rattle.lists.proofs.Filled.{filled_start, filled_more, filled_all}
use Rattle.memory.proofs.Properties.{properties_length}
use Rattle.property_answers.specs.Verdict.{verdict_of}
use Rattle.property_answers.proofs.Bridge.{absent, verdict_out, few_count}
use Rattle.property_answers.proofs.all.Goals as goal

pub loop-i-init : goal.loop-i-init
loop-i-init c = filled_start _ absent 32

pub bounds-list-i : goal.bounds-list-i
bounds-list-i c = let h = few_count {i = c.loop-i.i} c.requires (omega arith) in omega arith

pub loop-i-preserved : goal.loop-i-preserved
loop-i-preserved c = let h = few_count {i = c.loop-i.i} c.requires (omega arith) in filled_more _ absent 32 c.loop-i.invariant (omega arith) c.verdict_at.ensures

pub returns : goal.returns
returns c = (c.property_count-count.ensures ∙ sym (properties_length c.args.monitor.now c.requires.sound.book), filled_all (verdict_of c.args.monitor.now) absent 32 c.loop-i.invariant (λ k h few. verdict_out c.args.monitor.now c.requires k (omega arith)))
