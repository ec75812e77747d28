-- What the stores of `add` make of the words, and of the runs that they hold. Assumes nothing.
use Prim.Native.Nat.{ℕ, zero, suc, ◌+◌, ◌*◌, ◌-◌, ◌^◌, ◌≤◌, ◌<◌}
use mathlib.Core.Path.{◌≡◌, refl, sym, ap, ◌∙◌, subst}
use mathlib.Core.Logic.{⊎_elim}
use mathlib.Core.Bool.{true, false}
use mathlib.Core.List.{List, ◌∷◌}
use native.Mathlib.Omega.{arith}
use lib.ListN.{length, get_or, set, length-set}
use lib.Seq.{get_or-set_other}
use lib.Dec.{ltb}
use borrow.Author.Tests.{lt-ltb, le-ltb}
use Rattle.numset.specs.Runs.{run, lo, hi, runs_to, runs, Under, Good, insert, union, fits, pack, add_number, add_words}
use Rattle.numset.specs.Private.{Shifted, Cleared, Replaced, Spanned, with_run}
use Rattle.lists.proofs.Tests.{lt_or_ge}
use Rattle.numset.proofs.Words.{at, runs_suc, length_runs, same_runs}
use Rattle.numset.proofs.Packs.{packed}
use Rattle.numset.proofs.Union.{insert_over, insert_under, union_none, union_some, most_one}
use Rattle.numset.proofs.Moves.{put_here}

-- ---- the words
module _ (m : List ℕ) (s l u n : ℕ) (room : 2 * s + 2 < length m) where
  abbrev once : List ℕ
  once = set m (2 * s + 1) l

  abbrev twice : List ℕ
  twice = set once (2 * s + 2) u

  stored_other : (k : ℕ) → 0 < k → (k ≡ 2 * s + 1 → ⊥) → (k ≡ 2 * s + 2 → ⊥) → get_or (with_run m s l u n) k 0 ≡ get_or m k 0
  stored_other k h p q = get_or-set_other twice 0 k n 0 (omega arith) ∙ get_or-set_other once (2 * s + 2) k u 0 q ∙ get_or-set_other m (2 * s + 1) k l 0 p

  stored_count : get_or (with_run m s l u n) 0 0 ≡ n
  stored_count = put_here twice 0 0 n refl (simp length-set (omega arith))

  stored_lower : lo (with_run m s l u n) s ≡ l
  stored_lower =
      get_or-set_other twice 0 (2 * s + 1) n 0 (omega arith)
      ∙ get_or-set_other once (2 * s + 2) (2 * s + 1) u 0 (omega arith)
      ∙ put_here m (2 * s + 1) (2 * s + 1) l refl (omega arith)

  stored_upper : hi (with_run m s l u n) s ≡ u
  stored_upper = get_or-set_other twice 0 (2 * s + 2) n 0 (omega arith) ∙ put_here once (2 * s + 2) (2 * s + 2) u refl (simp length-set room)

  stored_below : (k : ℕ) → 0 < k → k < 2 * s + 1 → get_or (with_run m s l u n) k 0 ≡ get_or m k 0
  stored_below k h p = stored_other k h (omega arith) (omega arith)

  stored_above : (k : ℕ) → 2 * s + 2 < k → get_or (with_run m s l u n) k 0 ≡ get_or m k 0
  stored_above k p = stored_other k (omega arith) (omega arith) (omega arith)

module _ {m m₁ m' : List ℕ} {s l u : ℕ} where
  pub place_up : Shifted m m₁ (2 * s + 1) (2 * s + 3) (2 * (get_or m 0 0 - s)) → m' ≡ with_run m₁ s l u (s + 1 + (get_or m 0 0 - s)) → Good m → s ≤ get_or m 0 0 → 2 * s + 2 < length m₁ → Replaced m m' s s (get_or m 0 0) l u
  place_up w e g o r =
      let n = get_or m 0 0 in
      rw e
      (record {
        count = stored_count m₁ s l u _ r;
        below = λ k h p. stored_below m₁ s l u _ r k h p ∙ w.below k (omega arith);
        lower = stored_lower m₁ s l u _ r;
        upper = stored_upper m₁ s l u _ r;
        moved = λ d h. stored_above m₁ s l u _ r _ (omega arith) ∙ w.moved d h;
        zeros = λ k h. stored_above m₁ s l u _ r k (omega arith) ∙ w.above k (omega arith) ∙ g.rest k (omega arith);
      })

module _ {m m₁ m₂ m' : List ℕ} {s e l u : ℕ} where
  pub place_down : Shifted m m₁ (2 * e + 1) (2 * s + 3) (2 * (get_or m 0 0 - e)) → Cleared m₁ m₂ (2 * (s + 1 + (get_or m 0 0 - e)) + 1) (2 * get_or m 0 0 + 1) → m' ≡ with_run m₂ s l u (s + 1 + (get_or m 0 0 - e)) → Good m → s < e → e ≤ get_or m 0 0 → 2 * s + 2 < length m₂ → Replaced m m' s e (get_or m 0 0) l u
  place_down w v q g o p r =
      let n = get_or m 0 0 in
      rw q
      (record {
        count = stored_count m₂ s l u _ r;
        below = λ k h p. stored_below m₂ s l u _ r k h p ∙ v.below k (omega arith) ∙ w.below k (omega arith);
        lower = stored_lower m₂ s l u _ r;
        upper = stored_upper m₂ s l u _ r;
        moved = λ d h. stored_above m₂ s l u _ r _ (omega arith) ∙ v.below _ (omega arith) ∙ w.moved d h;
        zeros = λ k h.
            stored_above m₂ s l u _ r k (omega arith)
            ∙ ⊎_elim (λ x. v.zeros k (omega arith) x) (λ x. v.above k (omega arith) ∙ w.above k (omega arith) ∙ g.rest k (omega arith)) (lt_or_ge k (2 * n + 1));
      })

-- ---- the runs
module _ {m : List ℕ} {s e l u low up : ℕ} (x : Spanned m l u s e low up) where
  insert_step : (d i : ℕ) → i ≡ e + d + 1 → e + d < get_or m 0 0 → insert l u (runs_to m i) ≡ run (lo m (e + d)) (hi m (e + d)) ∷ insert l u (runs_to m (e + d))
  insert_step d i q h =
      ap (insert l u) (runs_suc m (e + d) i q) ∙ insert_over l u (lo m (e + d)) (hi m (e + d)) (runs_to m (e + d)) (x.ended.over (e + d) (omega arith) h)

  insert_length : (d : ℕ) → e + d ≤ get_or m 0 0 → length (insert l u (runs_to m (e + d))) ≡ s + 1 + d
  insert_length zero h =
      let q : e + 0 ≡ e = omega arith in
      rw (q, x.met.joined, length_runs m s) (omega arith)
  insert_length (suc d) h =
      rw (insert_step d (e + suc d) (omega arith) (omega arith), insert_length d (omega arith)) (omega arith)

  module _ {m' : List ℕ} (z : Replaced m m' s e (get_or m 0 0) low up) where
    placed_runs : (d : ℕ) → e + d ≤ get_or m 0 0 → runs_to m' (s + 1 + d) ≡ insert l u (runs_to m (e + d))
    placed_runs zero h =
        let q : e + 0 ≡ e = omega arith in
        runs_suc m' s (s + 1 + 0) (omega arith) ∙ rw (q, x.met.joined, z.lower, z.upper, same_runs m m' s z.below)
    placed_runs (suc d) h =
        let a : lo m' (s + 1 + d) ≡ lo m (e + d) = at m' _ (2 * s + 3 + 2 * d) (omega arith) ∙ z.moved (2 * d) (omega arith) ∙ at m _ _ (omega arith) in
        let b : hi m' (s + 1 + d) ≡ hi m (e + d) = at m' _ (2 * s + 3 + (2 * d + 1)) (omega arith) ∙ z.moved (2 * d + 1) (omega arith) ∙ at m _ _ (omega arith) in
        runs_suc m' (s + 1 + d) (s + 1 + suc d) (omega arith) ∙ rw (a, b, placed_runs d (omega arith), insert_step d (e + suc d) (omega arith) (omega arith))

-- ---- what `add` answers and leaves
abbrev pub Adds : List ℕ → List ℕ → ℕ → ℕ → ℕ → Type 0
Adds m m' l u r = (r ≡ add_number m l u) × (m' ≡ add_words m l u)

module _ (m : List ℕ) (l u : ℕ) where
  adds_room : {m' : List ℕ} → fits (length m) (union l u (runs m)) ≡ true → m' ≡ pack (length m) (union l u (runs m)) → Adds m m' l u 0
  unfolding add_number add_words
  adds_room f e = (rw f, e ∙ rw f)

  adds_full : fits (length m) (union l u (runs m)) ≡ false → Adds m m l u 11
  unfolding add_number add_words
  adds_full f = (rw f, rw f)

-- a free place is room for any, since an interval adds at most one run
pub fits_free : (m : List ℕ) (l u : ℕ) → 2 * get_or m 0 0 + 2 < length m → fits (length m) (union l u (runs m)) ≡ true
fits_free m l u h = let k = most_one l u (runs m) in let n = length_runs m (get_or m 0 0) in lt-ltb _ _ (omega arith)

module _ {m : List ℕ} {l u : ℕ} (g : Good m) where
  pub fits_none : u < l → fits (length m) (union l u (runs m)) ≡ true
  fits_none h = rw (union_none l u (runs m) h, length_runs m (get_or m 0 0), lt-ltb _ _ g.room)

  pub added_none : u < l → Adds m m l u 0
  added_none h = adds_room m l u (fits_none h) (packed m g ∙ rw (union_none l u (runs m) h))

module _ {m : List ℕ} {s e l u low up : ℕ} (x : Spanned m l u s e low up) (o : l ≤ u) where
  union_length : length (union l u (runs m)) ≡ s + 1 + (get_or m 0 0 - e)
  union_length =
      let q : e + (get_or m 0 0 - e) ≡ get_or m 0 0 = omega (arith, x.ended.few) in
      ap length (union_some l u (runs m) o) ∙ ap (λ (k : ℕ). length (insert l u (runs_to m k))) (sym q) ∙ insert_length x (get_or m 0 0 - e) (omega arith)

  pub room_there : 2 * (s + 1 + (get_or m 0 0 - e)) < length m → fits (length m) (union l u (runs m)) ≡ true
  room_there h = rw (union_length, lt-ltb _ _ h)

  pub room_lacks : length m ≤ 2 * (s + 1 + (get_or m 0 0 - e)) → fits (length m) (union l u (runs m)) ≡ false
  room_lacks h = rw (union_length, le-ltb _ _ h)

  -- with no place free there is room where a run is joined
  pub room_joined : Good m → length m ≤ 2 * get_or m 0 0 + 2 → ltb s e ≡ fits (length m) (union l u (runs m))
  room_joined g h =
      ⊎_elim
      (λ p. lt-ltb s e p ∙ sym (room_there (omega (arith, x.ended.few, g.room))))
      (λ p. le-ltb s e p ∙ sym (room_lacks (omega (arith, x.ended.few, x.met.few))))
      (lt_or_ge s e)

  pub added_full : length m ≤ 2 * (s + 1 + (get_or m 0 0 - e)) → Adds m m l u 11
  added_full h = adds_full m l u (room_lacks h)

  module _ {m' : List ℕ} (g : Good m) (z : Replaced m m' s e (get_or m 0 0) low up) (k : length m' ≡ length m) (f : u < 2 ^ 64) (h : 2 * (s + 1 + (get_or m 0 0 - e)) < length m) where
    runs_now : runs m' ≡ insert l u (runs m)
    runs_now =
        let q : e + (get_or m 0 0 - e) ≡ get_or m 0 0 = omega (arith, x.ended.few) in
        ap (runs_to m') z.count ∙ placed_runs x z (get_or m 0 0 - e) (omega arith) ∙ ap (λ (i : ℕ). insert l u (runs_to m i)) q

    good_now : Good m'
    good_now =
        record {
          room = rw (z.count, k) h;
          apart = subst (Under (2 ^ 64 + 1)) (sym runs_now) (insert_under (2 ^ 64 + 1) l u (runs m) g.apart o (omega arith));
          rest = λ i p. z.zeros i (rw z.count at p);
        }

    pub added : Adds m m' l u 0
    added = adds_room m l u (room_there h) (packed m' good_now ∙ rw (k, runs_now, union_some l u (runs m) o))

pub placed_eq : {m m' : List ℕ} {s e n l u : ℕ} → Replaced m m' s s n l u → s ≡ e → Replaced m m' s e n l u
placed_eq {m} {m'} {s} {e} {n} {l} {u} z q = subst (λ (k : ℕ). Replaced m m' s k n l u) q z
