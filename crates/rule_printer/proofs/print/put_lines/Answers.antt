use Rattle.rule_printer.proofs.Booking.{lined_start, lined_more, lined_all}
use Rattle.trees.proofs.Walking.{property_walk}
use mathlib.Core.Path.{refl}
use Rattle.rule_printer.proofs.print.put_lines.Goals as goal

pub loop-property-init : goal.loop-property-init
loop-property-init c = lined_start _ _ _ _

pub put_line-end-requires : goal.put_line-end-requires
put_line-end-requires c = property_walk _ _ c.requires c.loop-property-test.true refl

pub loop-property-preserved : goal.loop-property-preserved
loop-property-preserved c = lined_more c.loop-property.invariant c.loop-property-test.true refl c.put_line-end.ensures c.put_line-end.auto.out

pub returns : goal.returns
returns c = lined_all c.loop-property.invariant c.loop-property-test.false
