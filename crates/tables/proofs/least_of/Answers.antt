-- `tables::least_of` meets its contract. Assumes nothing.
use Prim.Native.Nat.{ℕ}
use mathlib.Core.Path.{refl, ap}
use native.Mathlib.Omega.{arith}
use Rattle.pmtl.specs.Book.{least_of}
use Rattle.memory.specs.Layout.{LOWEST}
use Rattle.row_answers.proofs.Answers.{walking_start, walking_below, walking_more, walking_done}
use Rattle.tables.specs.Puts.{word_in}
use Rattle.tables.proofs.least_of.Goals as goal

pub loop-at-init : goal.loop-at-init
loop-at-init c = walking_start (word_in c.args.monitor.now LOWEST) (least_of c.args.from) c.requires.1 (omega arith)

pub overflow_add-operand_at : goal.overflow_add-operand_at
overflow_add-operand_at c = let low = walking_below c.loop-at.invariant (omega arith) c.operand_at.ensures in let few = c.requires.0.few in omega arith

pub word-requires : goal.word-requires
word-requires c = let low = walking_below c.loop-at.invariant (omega arith) c.operand_at.ensures in let few = c.requires.0.few in omega arith

pub loop-at-preserved : goal.loop-at-preserved
unfolding least_of
loop-at-preserved c =
    walking_more c.loop-at.invariant c.requires.0.long (omega arith) c.operand_at.ensures c.word.ensures (least_of c.min-least.result) (λ vs. ap (λ (n : ℕ). least_of n vs) c.min-least.ensures) (omega arith)

pub returns : goal.returns
unfolding least_of
returns c = walking_done c.loop-at.invariant (omega arith) refl
