-- The verdicts passed are written, the others those of no property.
use Rattle.lists.proofs.Filled.{Filled}
use Rattle.property_answers.specs.Verdict.{verdict_of}
use Rattle.property_answers.proofs.Bridge.{absent}
use Rattle.property_answers.proofs.all.Given as goal

abbrev pub invariant-loop-i : goal.invariant-loop-i
invariant-loop-i l = Filled (verdict_of l.monitor) absent 32 l.list l.i
