-- What is kept of a set from an instant on, and what it takes to drop the rest. Assumes nothing.
use Prim.Native.Nat.{ℕ, zero, suc, ◌+◌, ◌*◌, ◌-◌, ◌^◌, ◌≤◌, ◌<◌}
use mathlib.Core.Path.{◌≡◌, refl, sym, ap, ◌∙◌, subst}
use mathlib.Core.Logic.{⊎_elim}
use mathlib.Core.Bool.{Bool, false, ◌||◌}
use mathlib.Core.List.{List, [], ◌∷◌}
use native.Mathlib.Omega.{arith}
use lib.ListN.{length, get_or}
use lib.Dec.{ltb}
use borrow.Author.Tests.{lt-ltb, le-ltb, ltb-false}
use Rattle.numset.specs.Runs.{run, Runs, Under, Canonical, within, has, lo, hi, runs_to, runs, Good, kept, pack}
use Rattle.numset.specs.Private.{oldest_lapsed, Lapsed, Dropped}
use Rattle.lists.proofs.Tests.{lt_or_ge}
use Rattle.numset.proofs.Laws.{outside_below, under_mono, canonical, top_of, under_top_of}
use Rattle.numset.proofs.Words.{at, runs_suc, length_runs}
use Rattle.numset.proofs.Packs.{packed, good_pack}

-- ---- one run: it goes if it ends before t, else it stays
module _ (t l u : ℕ) (rs : Runs) where
  pub kept_out : u < t → kept t (run l u ∷ rs) ≡ kept t rs
  unfolding kept
  kept_out h = rw (lt-ltb u t h)

  pub kept_in : t ≤ u → kept t (run l u ∷ rs) ≡ run l u ∷ kept t rs
  unfolding kept
  kept_in h = rw (le-ltb u t h)

-- ---- what is kept is canonical, and has the same instants from t on
pub kept_under : (t top : ℕ) (rs : Runs) → Under top rs → Under top (kept t rs)
unfolding kept Under
kept_under t top [] w = tt
kept_under t top (run l u ∷ rs) w =
    ⊎_elim
    (λ p. rw (kept_out t l u rs p) (under_mono l top (kept t rs) (omega arith) (kept_under t l rs w.2)))
    (λ p. rw (kept_in t l u rs p) (w.0, w.1, kept_under t l rs w.2))
    (lt_or_ge u t)

pub kept_canonical : (t : ℕ) (rs : Runs) → Canonical rs → Canonical (kept t rs)
kept_canonical t rs w = canonical (top_of rs) (kept t rs) (kept_under t (top_of rs) rs (under_top_of rs w))

pub kept_has : (t i : ℕ) (rs : Runs) → t ≤ i → has (kept t rs) i ≡ has rs i
unfolding kept has
kept_has t i [] h = refl
kept_has t i (run l u ∷ rs) h =
    ⊎_elim
    (λ p. rw (kept_out t l u rs p, outside_below l u i (omega arith)) (kept_has t i rs h))
    (λ p. rw (kept_in t l u rs p) (ap (λ (x : Bool). within l u i || x) (kept_has t i rs h)))
    (lt_or_ge u t)

-- there are not more of them
pub kept_length : (t : ℕ) (rs : Runs) → length (kept t rs) ≤ length rs
unfolding kept
kept_length t [] = omega arith
kept_length t (run l u ∷ rs) =
    let k = kept_length t rs in
    ⊎_elim
    (λ p. rw (kept_out t l u rs p) (omega arith))
    (λ p. rw (kept_in t l u rs p) (omega arith))
    (lt_or_ge u t)

-- ---- upper ends rise
pub upper_below : (top : ℕ) (m : List ℕ) (n j : ℕ) → Under top (runs_to m n) → j < n → hi m j + 1 < top
unfolding Under runs_to
upper_below top m zero j w h = absurd (omega arith)
upper_below top m (suc n) j w h =
    ⊎_elim
    (λ p. let k = upper_below (lo m n) m n j w.2 p in omega (arith, w.0, w.1))
    (λ p. let e : j ≡ n = omega arith in rw e w.1)
    (lt_or_ge j n)

uppers_rise : (top : ℕ) (m : List ℕ) (n i j : ℕ) → Under top (runs_to m n) → i ≤ j → j < n → hi m i ≤ hi m j
unfolding Under runs_to
uppers_rise top m zero i j w h k = absurd (omega arith)
uppers_rise top m (suc n) i j w h k =
    ⊎_elim
    (λ p. uppers_rise (lo m n) m n i j w.2 h p)
    (λ p. let e : j ≡ n = omega arith in
    rw e (⊎_elim (λ q. let b = upper_below (lo m n) m n i w.2 q in omega (arith, w.0)) (λ q. let f : i ≡ n = omega arith in omega (arith, ap (λ (x : ℕ). hi m x) f)) (lt_or_ge i n)))
    (lt_or_ge j n)

-- ---- the look from the oldest run on: the runs before k end before t
pub record Lapsing (m : List ℕ) (t k : ℕ) : Type 0 where
  pub few : k ≤ get_or m 0 0
  pub before : (j : ℕ) → j < k → hi m j < t

pub lapsing_start : (m : List ℕ) (t : ℕ) → Lapsing m t 0
lapsing_start m t = record { few = omega arith; before = λ j h. absurd (omega arith) }

module _ {m : List ℕ} {t k : ℕ} (w : Lapsing m t k) where
  pub lapsing_more : k < get_or m 0 0 → hi m k < t → Lapsing m t (k + 1)
  lapsing_more h p =
      record {
        few = omega arith;
        before = λ j q. ⊎_elim (λ x. w.before j x) (λ x. let e : j ≡ k = omega arith in rw e p) (lt_or_ge j k);
      }

  pub lapsing_stop : Good m → t ≤ hi m k → Lapsed m t k
  lapsing_stop g p =
      record {
        few = w.few;
        before = w.before;
        after = λ j h q. let r = uppers_rise (2 ^ 64 + 1) m (get_or m 0 0) k j g.apart h q in omega arith;
      }

  pub lapsing_end : get_or m 0 0 ≤ k → Lapsed m t k
  lapsing_end h = record { few = w.few; before = w.before; after = λ j p q. absurd (omega arith) }

-- ---- the oldest run alone
module _ (m : List ℕ) (t : ℕ) where
  pub oldest_missing : get_or m 0 0 ≡ 0 → false ≡ oldest_lapsed m t
  unfolding oldest_lapsed
  oldest_missing z = rw (le-ltb 0 (get_or m 0 0) (omega arith))

  pub oldest_is : 0 < get_or m 0 0 → ltb (hi m 0) t ≡ oldest_lapsed m t
  unfolding oldest_lapsed
  oldest_is h = rw (lt-ltb 0 (get_or m 0 0) h)

-- where it did not, none did
pub none_lapses : {m : List ℕ} {t : ℕ} → Good m → oldest_lapsed m t ≡ false → Lapsed m t 0
none_lapses {m} {t} g e =
    ⊎_elim
    (λ h. lapsing_stop (lapsing_start m t) g (ltb-false _ _ (oldest_is m t h ∙ e)))
    (λ h. lapsing_end (lapsing_start m t) h)
    (lt_or_ge 0 (get_or m 0 0))

-- ---- what is kept where the k oldest runs lapsed
module _ {m : List ℕ} {t k : ℕ} (w : Lapsed m t k) where
  pub oldest_out : (i : ℕ) → i ≤ k → kept t (runs_to m i) ≡ []
  unfolding kept runs_to
  oldest_out zero h = refl
  oldest_out (suc i) h = kept_out t (lo m i) (hi m i) (runs_to m i) (w.before i (omega arith)) ∙ oldest_out i (omega arith)

  kept_step : (d i : ℕ) → i ≡ k + d + 1 → k + d < get_or m 0 0 → kept t (runs_to m i) ≡ run (lo m (k + d)) (hi m (k + d)) ∷ kept t (runs_to m (k + d))
  kept_step d i e h =
      ap (kept t) (runs_suc m (k + d) i e) ∙ kept_in t (lo m (k + d)) (hi m (k + d)) (runs_to m (k + d)) (w.after (k + d) (omega arith) h)

  kept_moved : {m' : List ℕ} → Dropped m m' k (get_or m 0 0) → (d i : ℕ) → i ≡ k + d → i ≤ get_or m 0 0 → runs_to m' d ≡ kept t (runs_to m i)
  unfolding runs_to
  kept_moved z zero i e h = let f : i ≡ k = omega arith in rw (f, oldest_out k (omega arith))
  kept_moved {m'} z (suc d) i e h =
      let a : lo m' d ≡ lo m (k + d) = at m' _ (1 + 2 * d) (omega arith) ∙ z.moved (2 * d) (omega arith) ∙ at m _ _ (omega arith) in
      let b : hi m' d ≡ hi m (k + d) = at m' _ (1 + (2 * d + 1)) (omega arith) ∙ z.moved (2 * d + 1) (omega arith) ∙ at m _ _ (omega arith) in
      rw (a, b, kept_moved z d (k + d) refl (omega arith), kept_step d i (omega arith) (omega arith))

  -- all of it, where none lapsed
  module _ (z : k ≡ 0) where
    all_to_lem : (i : ℕ) → i ≤ get_or m 0 0 → kept t (runs_to m i) ≡ runs_to m i
    unfolding kept runs_to
    all_to_lem zero h = refl
    all_to_lem (suc i) h = kept_in t (lo m i) (hi m i) (runs_to m i) (w.after i (omega arith) (omega arith)) ∙ ap (λ (rs : Runs). run (lo m i) (hi m i) ∷ rs) (all_to_lem i (omega arith))

    pub kept_all : kept t (runs m) ≡ runs m
    kept_all = all_to_lem (get_or m 0 0) (omega arith)

module _ {m : List ℕ} {t k : ℕ} (w : Lapsed m t k) (g : Good m) where
  pub none_lapsed : k ≡ 0 → m ≡ pack (length m) (kept t (runs m))
  none_lapsed z = packed m g ∙ ap (pack (length m)) (sym (kept_all w z))

  module _ {m' : List ℕ} (z : Dropped m m' k (get_or m 0 0)) (e : length m' ≡ length m) where
    runs_left : runs m' ≡ kept t (runs m)
    runs_left = ap (runs_to m') z.count ∙ kept_moved w z (get_or m 0 0 - k) (get_or m 0 0) (omega (arith, w.few)) (omega arith)

    good_left : Good m'
    good_left =
        record {
          room = rw (z.count, e) (let r = g.room in omega arith);
          apart = subst (Under (2 ^ 64 + 1)) (sym runs_left) (kept_under t (2 ^ 64 + 1) (runs m) g.apart);
          rest = λ i p. z.zeros i (rw z.count at p);
        }

    pub some_lapsed : m' ≡ pack (length m) (kept t (runs m))
    some_lapsed = packed m' good_left ∙ rw (e, runs_left)

-- ---- a set again
pub kept_good : {m : List ℕ} (t : ℕ) → Good m → Good (pack (length m) (kept t (runs m)))
kept_good {m} t g =
    let a = kept_length t (runs m) in
    let b = length_runs m (get_or m 0 0) in
    good_pack (length m) (kept t (runs m)) (omega (arith, g.room)) (kept_under t (2 ^ 64 + 1) (runs m) g.apart)
