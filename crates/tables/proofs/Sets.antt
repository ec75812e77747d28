-- What is so of one set, as the code finds it. Assumes nothing.
use Prim.Native.Nat.{ℕ, zero, suc, ◌-◌, ◌≤◌, ◌<◌}
use native.Mathlib.Omega.{arith}
use mathlib.Core.Path.{◌≡◌, sym, ◌∙◌}
use mathlib.Core.Bool.{Bool, true, false}
use mathlib.Core.Logic.{◌↔◌}
use mathlib.Core.List.{List, [], ◌∷◌}
use lib.ListN.{length, get_or}
use lib.Dec.{ltb}
use Rattle.numbers.specs.Limits.{MAX}
use Rattle.numset.specs.Runs.{Runs, lo, hi, runs_to, covers, Covers}
use Rattle.numset.proofs.Laws.{good_canonical}
use Rattle.numset.proofs.Covering.{covers_test}
use Rattle.ring.specs.Ring.{unrolled, ringed, Rolling}
use Rattle.ring.proofs.Rolls.{unrolled_count, ringed_length}
use Rattle.pmtl.specs.Sets.{gone}
use Rattle.pmtl.proofs.Seams.{gone_none, gone_newest}
use Rattle.memory.specs.Tables.{COVERS, GONE, NEITHER, standing}

-- the word for it says so where there is a run
pub some_runs : (words : List ℕ) {n : ℕ} → n ≡ length (ringed words) → (n ≡ 0 → ⊥) → 0 < get_or words 0 0
some_runs words e h = let l = ringed_length words in omega arith

pub gone_empty : (c : ℕ) (s : Runs) → length s ≡ 0 → true ≡ gone c s
gone_empty c [] e = sym (gone_none c)
gone_empty c (r ∷ rs) e = absurd (omega arith)

newest_gone : (c : ℕ) (w : List ℕ) (n : ℕ) → 0 < n → ltb (hi w (n - 1)) c ≡ gone c (runs_to w n)
unfolding runs_to
newest_gone c w zero h = absurd (omega arith)
newest_gone c w (suc j) h = let e : suc j - 1 ≡ j = omega arith in rw e (gone_newest c (lo w j) (hi w j) (runs_to w j))

pub gone_some : (c : ℕ) (words : List ℕ) → 0 < get_or words 0 0 → {u : ℕ} → u ≡ hi (unrolled words) (get_or words 0 0 - 1) → ltb u c ≡ gone c (ringed words)
gone_some c words h e = rw (e, unrolled_count words) (newest_gone c (unrolled words) (get_or words 0 0) h)

-- it covers, it is gone, or neither
module _ {words : List ℕ} {clock : ℕ} {covered : Bool} (rolling : Rolling words) (small : clock ≤ MAX) (covered-is : (covered ≡ true) ↔ Covers clock (ringed words)) where
  covers_is : covered ≡ covers clock (ringed words)
  covers_is = covers_test clock (ringed words) covered (good_canonical rolling.good) small covered-is

  pub stands_covering : covered ≡ true → COVERS ≡ standing clock (ringed words)
  unfolding standing
  stands_covering e = sym (rw (sym covers_is ∙ e))

  pub stands_gone : covered ≡ false → {none : Bool} → none ≡ gone clock (ringed words) → none ≡ true → GONE ≡ standing clock (ringed words)
  unfolding standing
  stands_gone e en e' = sym (rw (sym covers_is ∙ e, sym en ∙ e'))

  pub stands_open : covered ≡ false → {none : Bool} → none ≡ gone clock (ringed words) → none ≡ false → NEITHER ≡ standing clock (ringed words)
  unfolding standing
  stands_open e en e' = sym (rw (sym covers_is ∙ e, sym en ∙ e'))
