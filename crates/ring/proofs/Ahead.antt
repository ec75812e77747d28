-- What will become of a ring that loses what ends before an instant and gains an interval: whether it holds the instant, and whether there is room. Assumes nothing.
use Prim.Native.Nat.{ℕ, zero, suc, ◌*◌, ◌-◌, ◌≤◌, ◌<◌}
use mathlib.Core.Path.{◌≡◌, refl, sym, ap, ◌∙◌}
use mathlib.Core.Logic.{⊎_elim}
use mathlib.Core.Bool.{Bool, true, false, ◌||◌}
use mathlib.Core.List.{List}
use native.Mathlib.Omega.{arith}
use lib.ListN.{length, get_or}
use borrow.Author.Tests.{lt-ltb}
use Rattle.lists.proofs.Tests.{lt_or_ge}
use Rattle.numset.specs.Runs.{Runs, Canonical, within, has, lo, hi, runs_to, kept, union, fits}
use Rattle.numset.specs.Private.{oldest_lapsed}
use Rattle.numset.proofs.Laws.{good_canonical}
use Rattle.numset.proofs.Union.{union_has, most_one}
use Rattle.numset.proofs.Kept.{kept_out, kept_in, kept_canonical, kept_has, kept_length, kept_all, none_lapses}
use Rattle.ring.specs.Ring.{unrolled, ringed, Rolling}
use Rattle.ring.proofs.Rolls.{unrolled_count, few}
use Rattle.ring.proofs.Oldest.{lapsed_there, lapsed_ends}

-- ---- the instant: it is in the interval, or in what is kept
joined_has : (l u t : ℕ) (rs : Runs) → Canonical rs → has (union l u (kept t rs)) t ≡ within l u t || has rs t
joined_has l u t rs w = union_has l u (kept t rs) t (kept_canonical t rs w) ∙ rw (kept_has t t rs (omega arith))

module _ {m : List ℕ} (l u t : ℕ) (g : Rolling m) where
  pub here_in : {b : Bool} → b ≡ within l u t → b ≡ true → true ≡ has (union l u (kept t (ringed m))) t
  here_in e y = sym (joined_has l u t (ringed m) (good_canonical g.good) ∙ rw (← e, y))

  pub here_out : {b d : Bool} → b ≡ within l u t → b ≡ false → d ≡ has (ringed m) t → d ≡ has (union l u (kept t (ringed m))) t
  here_out e y f = f ∙ sym (joined_has l u t (ringed m) (good_canonical g.good) ∙ rw (← e, y))

-- ---- the room: where the oldest run lapsed, there are fewer left
fewer_left : (t : ℕ) (m : List ℕ) (i : ℕ) → hi m 0 < t → length (kept t (runs_to m (suc i))) ≤ i
unfolding runs_to
fewer_left t m zero h = rw (kept_out t (lo m 0) (hi m 0) (runs_to m 0) h) (kept_length t (runs_to m 0))
fewer_left t m (suc i) h =
    let k = fewer_left t m i h in
    ⊎_elim
    (λ p. rw (kept_out t (lo m (suc i)) (hi m (suc i)) (runs_to m (suc i)) p) (omega arith))
    (λ p. rw (kept_in t (lo m (suc i)) (hi m (suc i)) (runs_to m (suc i)) p) (omega arith))
    (lt_or_ge (hi m (suc i)) t)

module _ (m : List ℕ) (t l u : ℕ) (g : Rolling m) where
  pub room_kept : oldest_lapsed (unrolled m) t ≡ true → true ≡ fits 129 (union l u (kept t (ringed m)))
  room_kept e =
      let M = unrolled m in
      let h = lapsed_there M t e in
      let n : get_or M 0 0 ≡ suc (get_or M 0 0 - 1) = omega arith in
      let c : length (kept t (ringed m)) ≤ get_or M 0 0 - 1 = rw (ap (runs_to M) n) (fewer_left t M (get_or M 0 0 - 1) (lapsed_ends M t e)) in
      let k = most_one l u (kept t (ringed m)) in
      let f = few m g in
      sym (lt-ltb (2 * length (union l u (kept t (ringed m)))) 129 (omega (arith, unrolled_count m)))

  pub room_still : {r : Bool} → oldest_lapsed (unrolled m) t ≡ false → r ≡ fits 129 (union l u (ringed m)) → r ≡ fits 129 (union l u (kept t (ringed m)))
  room_still o e = rw (kept_all (none_lapses g.good o) refl) e
