-- `desk_lines::hear` meets its contract. Assumes nothing.
use Rattle.desk_lines.proofs.Steps.{passed, count_said, given_so, scan_said, closed_said, as_given}
use Rattle.desk_lines.proofs.hear.Goals as goal

pub returns-then-is_blank : goal.returns-then-is_blank
returns-then-is_blank c = passed c.args.stage c.args.line.now c.args.kits.now c.args.table.now c.args.monitor.now c.is_blank.ensures c.if-is_blank.true c.requires

pub returns-in-Awaited : goal.returns-in-Awaited
returns-in-Awaited c = count_said c.args.stage c.args.line.now c.args.kits.now c.args.table.now c.args.monitor.now c.is_blank.ensures c.if-is_blank.false c.in-Awaited.is c.requires.stands c.count_line.ensures

pub kit_line-requires : goal.kit_line-requires
kit_line-requires c = as_given c.in-Giving.is c.requires

pub returns-in-Giving : goal.returns-in-Giving
returns-in-Giving c = given_so c.args.stage c.args.line.now c.args.kits.now c.args.table.now c.args.monitor.now c.is_blank.ensures c.if-is_blank.false c.in-Giving.is c.kit_line.ensures

pub returns-in-Opened : goal.returns-in-Opened
returns-in-Opened c = scan_said c.args.stage c.args.line.now c.args.kits.now c.args.table.now c.args.monitor.now c.is_blank.ensures c.if-is_blank.false c.in-Opened.is (c.scan_line.ensures c.args.kits.now)

pub returns-in-Closed : goal.returns-in-Closed
returns-in-Closed c = closed_said c.args.stage c.args.line.now c.args.kits.now c.args.table.now c.args.monitor.now c.is_blank.ensures c.if-is_blank.false c.in-Closed.is c.requires.stands
