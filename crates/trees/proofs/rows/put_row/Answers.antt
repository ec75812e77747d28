use Prim.Native.Nat.{ℕ, ◌+◌, ◌≤◌}
use mathlib.Core.Path.{◌≡◌, sym, ◌∙◌}
use mathlib.Core.List.{List, [], ◌∷◌}
use lib.ListN.{length, take, drop}
use lib.Seq.{drop-drop}
use Rattle.std.proofs.Common.{append_assoc}
use native.Mathlib.Omega.{arith}
use borrow.Rule.Slice.PartMut.{put_mid}
use Rattle.std.proofs.lemmas.List.Edits.{sets, sets-eq}
use Rattle.trees.proofs.rows.put_row.Goals as goal

row_put : (m : List ℕ) (at k : ℕ) (ys vs : List ℕ) → k ≡ length vs → ys ≡ vs → at + length vs ≤ length m → put_mid at k m ys ≡ sets m at vs
row_put m at k ys vs e f fits = rw (e, f, drop-drop (length vs) at m) (sym (append_assoc (take at m) vs (drop (at + length vs) m)) ∙ sym (sets-eq vs m at fits))

pub returns : goal.returns
returns c = let w = c.args.words in row_put _ _ _ _ (w.kind ∷ w.arg ∷ w.lower ∷ w.upper ∷ []) (omega arith) c.copy_from_slice.ensures.after (omega (arith, c.requires))
