use Rattle.desk.proofs.Writing.{operands_start, operands_more, operands_end}
use native.Mathlib.Omega.{arith}
use Prim.Native.Nat.{◌+◌, ◌*◌}
use mathlib.Core.Path.{ap, ◌∙◌}
use Rattle.lists.specs.Lists.{put}
use Rattle.desk.proofs.book_words.put_operands.Goals as goal

pub loop-k-init : goal.loop-k-init
loop-k-init c = operands_start _ _

pub loop-k-preserved : goal.loop-k-preserved
loop-k-preserved c = let l = c.loop-k in operands_more _ _ _ _ l.k l.invariant (omega arith) (c.copy.ensures ∙ ap (put l.words (c.args.at + 6 * l.k)) c.kit_operands.ensures)

pub returns : goal.returns
returns c = let l = c.loop-k in operands_end _ _ _ l.k _ l.invariant (omega arith)
