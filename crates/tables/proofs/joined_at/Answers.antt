-- `tables::joined_at` meets its contract. Assumes nothing.
use mathlib.Core.Path.{ap}
use lib.Dec.{eqb}
use native.Mathlib.Omega.{arith}
use Rattle.row_answers.specs.Private.{joined}
use Rattle.row_answers.proofs.Answers.{walking_at, walking_start, walking_below, walking_more, walking_stop, walking_done}
use Rattle.row_answers.proofs.Values.{joined_nil, joined_stop, joined_on}
use Rattle.tables.specs.Puts.{bit_in}
use Rattle.tables.proofs.joined_at.Goals as goal

pub loop-i-init : goal.loop-i-init
loop-i-init c = walking_at (omega arith) (walking_start (bit_in c.args.monitor.now c.args.table) (joined c.args.stop) c.requires.span (omega arith))

pub overflow_add-table : goal.overflow_add-table
overflow_add-table c = let low = walking_below c.loop-i.invariant (omega arith) c.operand_at.ensures in let few = c.requires.book_kept.0.few in let t = c.requires.book_kept.1 in omega arith

pub word-requires : goal.word-requires
word-requires c = let low = walking_below c.loop-i.invariant (omega arith) c.operand_at.ensures in let few = c.requires.book_kept.0.few in let t = c.requires.book_kept.1 in omega arith

pub returns-then-word-stop : goal.returns-then-word-stop
returns-then-word-stop c =
    walking_stop c.loop-i.invariant c.requires.book_kept.0.long (omega arith) c.operand_at.ensures (ap (λ x. eqb x 1) c.word.ensures) (λ vs. joined_stop c.args.stop _ vs c.if-word-stop.true)

pub loop-i-preserved : goal.loop-i-preserved
loop-i-preserved c =
    walking_at (omega arith) (walking_more c.loop-i.invariant c.requires.book_kept.0.long (omega arith) c.operand_at.ensures (ap (λ x. eqb x 1) c.word.ensures) (joined c.args.stop) (λ vs. joined_on c.args.stop _ vs c.if-word-stop.false) (omega arith))

pub returns : goal.returns
returns c = walking_done c.loop-i.invariant (omega arith) (joined_nil c.args.stop)
