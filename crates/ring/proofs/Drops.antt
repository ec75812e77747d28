-- What dropping the oldest runs leaves of a ring, and what wiping it does. Assumes nothing.
use Prim.Native.Nat.{ℕ, zero, suc, ◌+◌, ◌*◌, ◌-◌, ◌%◌, ◌^◌, ◌≤◌, ◌<◌}
use mathlib.Core.Path.{◌≡◌, refl, sym, ap, ap₂, ◌∙◌, subst}
use mathlib.Core.Logic.{⊎_elim}
use mathlib.Core.Bool.{true, false, cond}
use mathlib.Core.List.{List, [], ◌∷◌}
use native.Mathlib.Omega.{arith}
use lib.ListN.{length, get_or, set, replicate, length-set, length-replicate, get_or-eq_default}
use lib.Seq.{ext_get_or, get_or-set_same, get_or-set_other}
use lib.Dec.{ltb}
use Rattle.lists.proofs.Parts.{word_at, get_or_zeros}
use Rattle.lists.proofs.Tests.{lt_or_ge}
use Rattle.numset.specs.Runs.{Run, run, Runs, lo, hi, runs_to, Under, kept}
use Rattle.numset.specs.Private.{Cleared, Dropped, oldest_lapsed}
use Rattle.numset.proofs.Words.{runs_none}
use Rattle.numset.proofs.Packs.{zeros_pack}
use Rattle.numset.proofs.Kept.{kept_out, kept_length, none_lapses, kept_all}
use Rattle.ring.specs.Ring.{turn_of, unrolled, ringed, Rolling, rolled, turn_after}
use Rattle.ring.proofs.Rolls.{unrolled_length, unrolled_count, unrolled_at, is_rolled, rolls_again, ringed_length, few}
use Rattle.ring.proofs.Oldest.{lapsed_there, lapsed_ends}

-- ---- the stores of `drop_oldest`
module _ (m : List ℕ) (g : Rolling m) (h : 0 < get_or m 0 0) where
  abbrev wiped : List ℕ
  wiped = set (set m (2 + 2 * turn_of m) 0) (2 + 2 * turn_of m + 1) 0

  abbrev gone : List ℕ
  gone = set (set (set (set m (2 + 2 * turn_of m) 0) (2 + 2 * turn_of m + 1) 0) 0 (get_or m 0 0 - 1)) 1 ((turn_of m + 1) % 64)

  gone_turn : turn_of gone ≡ (turn_of m + 1) % 64
  gone_turn = get_or-set_same (set wiped 0 (get_or m 0 0 - 1)) 1 ((turn_of m + 1) % 64) 0 (let l = g.long in simp length-set (omega arith))

  gone_count : get_or (unrolled gone) 0 0 ≡ get_or m 0 0 - 1
  gone_count =
      unrolled_count gone
      ∙ get_or-set_other (set wiped 0 (get_or m 0 0 - 1)) 1 0 ((turn_of m + 1) % 64) 0 (omega arith)
      ∙ get_or-set_same wiped 0 (get_or m 0 0 - 1) 0 (let l = g.long in simp length-set (omega arith))

  -- a place that is not the oldest run's
  gone_other : (p : ℕ) → 2 ≤ p → (p ≡ 2 + 2 * turn_of m → ⊥) → (p ≡ 2 + 2 * turn_of m + 1 → ⊥) → get_or gone p 0 ≡ get_or m p 0
  gone_other p b x y =
      get_or-set_other (set wiped 0 (get_or m 0 0 - 1)) 1 p ((turn_of m + 1) % 64) 0 (omega arith)
      ∙ get_or-set_other wiped 0 p (get_or m 0 0 - 1) 0 (omega arith)
      ∙ get_or-set_other (set m (2 + 2 * turn_of m) 0) (2 + 2 * turn_of m + 1) p 0 0 y
      ∙ get_or-set_other m (2 + 2 * turn_of m) p 0 0 x

  gone_first : get_or gone (2 + 2 * turn_of m) 0 ≡ 0
  gone_first =
      get_or-set_other (set wiped 0 (get_or m 0 0 - 1)) 1 (2 + 2 * turn_of m) ((turn_of m + 1) % 64) 0 (omega arith)
      ∙ get_or-set_other wiped 0 (2 + 2 * turn_of m) (get_or m 0 0 - 1) 0 (omega arith)
      ∙ get_or-set_other (set m (2 + 2 * turn_of m) 0) (2 + 2 * turn_of m + 1) (2 + 2 * turn_of m) 0 0 (omega arith)
      ∙ get_or-set_same m (2 + 2 * turn_of m) 0 0 (let l = g.long in let t = g.turn in omega arith)

  gone_second : get_or gone (2 + 2 * turn_of m + 1) 0 ≡ 0
  gone_second =
      get_or-set_other (set wiped 0 (get_or m 0 0 - 1)) 1 (2 + 2 * turn_of m + 1) ((turn_of m + 1) % 64) 0 (omega arith)
      ∙ get_or-set_other wiped 0 (2 + 2 * turn_of m + 1) (get_or m 0 0 - 1) 0 (omega arith)
      ∙ get_or-set_same (set m (2 + 2 * turn_of m) 0) (2 + 2 * turn_of m + 1) 0 0 (let l = g.long in let t = g.turn in simp length-set (omega arith))

  -- the words of the set move down by a run
  gone_at : (d : ℕ) → d < 126 → get_or (unrolled gone) (suc d) 0 ≡ get_or (unrolled m) (suc (d + 2)) 0
  gone_at d b =
      let t = gone_turn in
      let r = g.turn in
      unrolled_at gone d (omega arith)
      ∙ word_at gone (2 + (2 * turn_of gone + d) % 128) (2 + (2 * turn_of m + (d + 2)) % 128) (omega arith)
      ∙ gone_other (2 + (2 * turn_of m + (d + 2)) % 128) (omega arith) (omega arith) (omega arith)
      ∙ sym (unrolled_at m (d + 2) (omega arith))

  gone_last : (d : ℕ) → 126 ≤ d → d < 128 → get_or (unrolled gone) (suc d) 0 ≡ 0
  gone_last d b q =
      let t = gone_turn in
      let r = g.turn in
      unrolled_at gone d q
      ∙ ⊎_elim
      (λ x. word_at gone (2 + (2 * turn_of gone + d) % 128) (2 + 2 * turn_of m) (omega arith) ∙ gone_first)
      (λ x. word_at gone (2 + (2 * turn_of gone + d) % 128) (2 + 2 * turn_of m + 1) (omega arith) ∙ gone_second)
      (lt_or_ge d 127)

  gone_zeros : (i : ℕ) → 2 * (get_or m 0 0 - 1) < i → get_or (unrolled gone) i 0 ≡ 0
  gone_zeros i b =
      let l = unrolled_length gone in
      let c = unrolled_count m in
      ⊎_elim
      (λ x. word_at (unrolled gone) i (suc (i - 1)) (omega arith) ∙ gone_at (i - 1) (omega arith) ∙ g.good.rest (suc (i - 1 + 2)) (omega arith))
      (λ x. ⊎_elim
      (λ y. word_at (unrolled gone) i (suc (i - 1)) (omega arith) ∙ gone_last (i - 1) (omega arith) (omega arith))
      (λ y. get_or-eq_default (unrolled gone) 0 (omega arith))
      (lt_or_ge i 129))
      (lt_or_ge i 127)

  -- the count is read once the words are wiped
  pub count_there : get_or wiped 0 0 ≡ get_or m 0 0
  count_there = get_or-set_other (set m (2 + 2 * turn_of m) 0) (2 + 2 * turn_of m + 1) 0 0 0 (omega arith) ∙ get_or-set_other m (2 + 2 * turn_of m) 0 0 0 (omega arith)

  pub oldest_gone : {m' : List ℕ} → m' ≡ set (set (set (set m (2 + 2 * turn_of m) 0) (2 + 2 * turn_of m + 1) 0) 0 (get_or m 0 0 - 1)) 1 ((turn_of m + 1) % 64)
      → Dropped (unrolled m) (unrolled m') 1 (get_or m 0 0) × (turn_of m' ≡ (turn_of m + 1) % 64)
  oldest_gone e =
      let f = few m g in
      rw e (
        record {
          count = gone_count;
          moved = λ d b. word_at (unrolled gone) (1 + d) (suc d) (omega arith) ∙ gone_at d (omega arith) ∙ word_at (unrolled m) (suc (d + 2)) (2 * 1 + 1 + d) (omega arith);
          zeros = gone_zeros;
        },
        gone_turn,
      )

-- ---- the runs without the oldest, where m' has those of m but for it
module _ {m m' : List ℕ} {n : ℕ} (z : Dropped m m' 1 n) where
  lower_next : (d : ℕ) → d + 1 < n → lo m' d ≡ lo m (d + 1)
  lower_next d h = word_at m' (2 * d + 1) (1 + 2 * d) (omega arith) ∙ z.moved (2 * d) (omega arith) ∙ word_at m (2 * 1 + 1 + 2 * d) (2 * (d + 1) + 1) (omega arith)

  upper_next : (d : ℕ) → d + 1 < n → hi m' d ≡ hi m (d + 1)
  upper_next d h = word_at m' (2 * d + 2) (1 + (2 * d + 1)) (omega arith) ∙ z.moved (2 * d + 1) (omega arith) ∙ word_at m (2 * 1 + 1 + (2 * d + 1)) (2 * (d + 1) + 2) (omega arith)

  lower_suc : (d : ℕ) → d + 1 < n → lo m' d ≡ lo m (suc d)
  lower_suc d h = lower_next d h ∙ ap (λ (j : ℕ). lo m j) (let e : d + 1 ≡ suc d = omega arith in e)

  upper_suc : (d : ℕ) → d + 1 < n → hi m' d ≡ hi m (suc d)
  upper_suc d h = upper_next d h ∙ ap (λ (j : ℕ). hi m j) (let e : d + 1 ≡ suc d = omega arith in e)

  younger_under : (d i top : ℕ) → i ≡ suc d → i ≤ n → Under top (runs_to m i) → Under top (runs_to m' d)
  unfolding runs_to Under
  younger_under zero i top e h w = tt
  younger_under (suc d) i top e h w =
      let v : Under top (runs_to m (suc (suc d))) = subst (λ (k : ℕ). Under top (runs_to m k)) e w in
      rw (lower_suc d (omega arith), upper_suc d (omega arith)) (v.0, v.1, younger_under d (suc d) (lo m (suc d)) refl (omega arith) v.2)

  -- an oldest run that ends before t is kept by neither
  younger_kept : (t d i : ℕ) → i ≡ suc d → i ≤ n → hi m 0 < t → kept t (runs_to m i) ≡ kept t (runs_to m' d)
  unfolding runs_to kept
  younger_kept t zero i e h p = ap (λ (k : ℕ). kept t (runs_to m k)) e ∙ kept_out t (lo m 0) (hi m 0) [] p
  younger_kept t (suc d) i e h p =
      ap (λ (k : ℕ). kept t (runs_to m k)) e
      ∙ ap (λ (rs : Runs). cond (ltb (hi m (suc d)) t) rs (run (lo m (suc d)) (hi m (suc d)) ∷ rs)) (younger_kept t d (suc d) refl (omega arith) p)
      ∙ ap₂ (λ (l u : ℕ). cond (ltb u t) (kept t (runs_to m' d)) (run l u ∷ kept t (runs_to m' d))) (sym (lower_suc d (omega arith))) (sym (upper_suc d (omega arith)))

-- ---- what the loop of `drop_before` knows: what is kept, and where the oldest of it will stand, are what they were at the start
pub record Dropping (m₀ m : List ℕ) (t : ℕ) : Type 0 where
  pub ring : Rolling m
  pub same : kept t (ringed m) ≡ kept t (ringed m₀)
  pub turn : turn_after t m ≡ turn_after t m₀

pub dropping_start : (m : List ℕ) (t : ℕ) → Rolling m → Dropping m m t
dropping_start m t g = record { ring = g; same = refl; turn = refl }

-- the oldest run is there where it lapsed
pub some_there : (m : List ℕ) (t : ℕ) → oldest_lapsed (unrolled m) t ≡ true → 0 < get_or m 0 0
some_there m t e = let h = lapsed_there (unrolled m) t e in let n = unrolled_count m in omega arith

module _ {m₀ m : List ℕ} (m' : List ℕ) {t : ℕ} (w : Dropping m₀ m t) (e : oldest_lapsed (unrolled m) t ≡ true) (z : Dropped (unrolled m) (unrolled m') 1 (get_or m 0 0)) (k : turn_of m' ≡ (turn_of m + 1) % 64) (l : length m' ≡ 130) where
  fewer : get_or m' 0 0 ≡ get_or m 0 0 - 1
  fewer = sym (unrolled_count m') ∙ z.count

  one_more : get_or m 0 0 ≡ suc (get_or m' 0 0)
  one_more = let h = some_there m t e in let f = fewer in omega arith

  keeps : kept t (ringed m') ≡ kept t (ringed m)
  keeps =
      sym (ap (λ (n : ℕ). kept t (runs_to (unrolled m) n)) (unrolled_count m)
      ∙ younger_kept z t (get_or m' 0 0) (get_or m 0 0) one_more (omega arith) (lapsed_ends (unrolled m) t e)
      ∙ ap (λ (n : ℕ). kept t (runs_to (unrolled m') n)) (sym (unrolled_count m')))

  still_ring : Rolling m'
  still_ring =
      let n = few m w.ring in
      let c = unrolled_count m' in
      let d = unrolled_length m' in
      let f = fewer in
      record {
        long = l;
        turn = omega arith;
        good = record {
          room = omega arith;
          apart = rw c (younger_under z (get_or m' 0 0) (get_or m 0 0) (2 ^ 64 + 1) one_more (omega arith) (rw (unrolled_count m) at w.ring.good.apart));
          rest = λ i h. z.zeros i (omega arith);
        };
      }

  pub dropping_more : Dropping m₀ m' t
  dropping_more =
      let a = ap (length {A = Run}) keeps in
      let b = ringed_length m in
      let c = ringed_length m' in
      let d = one_more in
      let f = kept_length t (ringed m') in
      let s = w.turn in
      record {
        ring = still_ring;
        same = keeps ∙ w.same;
        turn = omega arith;
      }

  pub fewer_left : get_or m' 0 0 < get_or m 0 0
  fewer_left = let d = one_more in omega arith

module _ {m₀ m : List ℕ} {t : ℕ} (w : Dropping m₀ m t) (e : oldest_lapsed (unrolled m) t ≡ false) where
  all_kept : kept t (ringed m) ≡ ringed m
  all_kept = kept_all (none_lapses w.ring.good e) refl

  pub dropping_stop : m ≡ rolled (turn_after t m₀) (kept t (ringed m₀))
  dropping_stop =
      let a = ap (length {A = Run}) all_kept in
      let b = w.turn in
      let c = w.ring.turn in
      let d : turn_of m ≡ turn_after t m₀ = omega arith in
      rolls_again m w.ring ∙ ap₂ rolled d (sym all_kept ∙ w.same)

-- ---- a ring with no run, and one whose places are wiped
pub cleared_none : (m : List ℕ) → Rolling m → get_or m 0 0 ≡ 0 → m ≡ rolled (turn_of m) []
cleared_none m g z = rolls_again m g ∙ ap (rolled (turn_of m)) (runs_none (unrolled m) (get_or (unrolled m) 0 0) (unrolled_count m ∙ z))

module _ {m m₁ : List ℕ} (g : Rolling m) (w : Cleared m m₁ 2 130) (l : length m₁ ≡ 130) where
  abbrev bare : List ℕ
  bare = set m₁ 0 0

  bare_turn : turn_of bare ≡ turn_of m
  bare_turn = get_or-set_other m₁ 0 1 0 0 (omega arith) ∙ w.below 1 (omega arith)

  bare_zeros : unrolled bare ≡ replicate 129 0
  bare_zeros =
      ext_get_or 0 (unrolled bare) (replicate 129 0) (unrolled_length bare ∙ sym (length-replicate {A = ℕ} 129 0))
      (λ i q.
      let d = unrolled_length bare in
      ⊎_elim
      (λ h. word_at (unrolled bare) i 0 (omega arith) ∙ unrolled_count bare ∙ get_or-set_same m₁ 0 0 0 (omega arith))
      (λ h.
      word_at (unrolled bare) i (suc (i - 1)) (omega arith)
      ∙ unrolled_at bare (i - 1) (omega arith)
      ∙ get_or-set_other m₁ 0 (2 + (2 * turn_of bare + (i - 1)) % 128) 0 0 (omega arith)
      ∙ w.zeros (2 + (2 * turn_of bare + (i - 1)) % 128) (omega arith) (omega arith))
      (lt_or_ge i 1)
      ∙ sym (get_or_zeros 129 i))

  pub cleared_some : {m' : List ℕ} → m' ≡ set m₁ 0 0 → m' ≡ rolled (turn_of m) []
  cleared_some e =
      e ∙ is_rolled (turn_of m) [] g.turn (omega arith) (length-set m₁ 0 0 ∙ l) bare_turn (bare_zeros ∙ zeros_pack 129 (omega arith))
