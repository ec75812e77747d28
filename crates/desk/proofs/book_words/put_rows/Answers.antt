use Rattle.desk.proofs.Writing.{rows_start, rows_more, rows_end}
use native.Mathlib.Omega.{arith}
use Prim.Native.Nat.{◌+◌, ◌*◌}
use mathlib.Core.Path.{ap, ◌∙◌}
use Rattle.lists.specs.Lists.{put}
use Rattle.desk.proofs.book_words.put_rows.Goals as goal

pub loop-k-init : goal.loop-k-init
loop-k-init c = rows_start _ _ _

pub loop-k-preserved : goal.loop-k-preserved
loop-k-preserved c = let l = c.loop-k in rows_more _ _ _ _ _ l.k _ l.invariant (omega arith) c.window_at.ensures (c.copy.ensures ∙ ap (put l.words (c.args.at + 28 * l.k)) c.kit_words-rows.ensures)

pub returns : goal.returns
returns c = let l = c.loop-k in rows_end _ _ _ _ l.k _ l.invariant (omega arith)
