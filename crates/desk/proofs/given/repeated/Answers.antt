use Rattle.desk.proofs.Kits.{apart_start, apart_found, apart_more, apart_end}
use Rattle.desk.proofs.given.repeated.Goals as goal

pub loop-i-init : goal.loop-i-init
loop-i-init c = apart_start _

pub returns-then-contains : goal.returns-then-contains
returns-then-contains c = apart_found _ _ c.loop-i.invariant c.loop-i-test.true c.contains.ensures.value c.if-contains.true

pub loop-i-preserved : goal.loop-i-preserved
loop-i-preserved c = apart_more _ _ c.loop-i.invariant c.loop-i-test.true c.contains.ensures.value c.if-contains.false

pub returns : goal.returns
returns c = apart_end _ _ c.loop-i.invariant c.loop-i-test.false
