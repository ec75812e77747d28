-- `desk_lines::kit_line` meets its contract. Assumes nothing.
use native.Mathlib.Omega.{arith}
use Rattle.line_words.specs.Line.{line_supply}
use Rattle.desk_lines.proofs.Steps.{kit_refused, kit_more, kit_last}
use Rattle.desk_lines.proofs.kit_line.Goals as goal

pub returns-in-Err : goal.returns-in-Err
returns-in-Err c = kit_refused c.args.count c.args.given (line_supply c.args.line.now) c.args.kits.now c.requires _ _ c.in-Err.ensures c.closed_by.ensures

pub put_kit-requires : goal.put_kit-requires
put_kit-requires c = let p = c.requires.counts.0 in let q = c.requires.counts.1 in omega arith

pub overflow_add-given : goal.overflow_add-given
overflow_add-given c = let p = c.requires.counts.0 in let q = c.requires.counts.1 in record { fits = omega arith }

pub returns-then-given-count : goal.returns-then-given-count
returns-then-given-count c = kit_more c.args.count c.args.given (line_supply c.args.line.now) c.args.kits.now c.requires c.in_default.ensures c.put_kit.ensures c.if-given-count.true

pub returns-else-given-count : goal.returns-else-given-count
returns-else-given-count c = kit_last c.args.count c.args.given (line_supply c.args.line.now) c.args.kits.now c.requires c.in_default.ensures c.put_kit.ensures c.if-given-count.false c.«open».ensures c.open_heard.ensures
