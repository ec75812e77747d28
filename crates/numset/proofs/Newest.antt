-- What the newest run tells of an interval that begins at l: whether it takes it in, and the words if it does. Assumes nothing.
use Prim.Native.Nat.{ℕ, ◌+◌, ◌*◌, ◌-◌, ◌^◌, ◌≤◌, ◌<◌, max}
use mathlib.Core.Path.{◌≡◌, sym}
use mathlib.Core.Bool.{true, false, ◌&&◌}
use mathlib.Core.List.{List}
use native.Mathlib.Omega.{arith}
use lib.ListN.{length, get_or}
use lib.Dec.{leb, ltb}
use borrow.Author.Tests.{lt-ltb, le-ltb, lt-leb, le-leb, ltb-true, leb-true}
use Rattle.lists.proofs.Tests.{and_left, and_right}
use Rattle.numset.specs.Runs.{Good, lo, hi, runs, union, fits}
use Rattle.numset.specs.Private.{takes_in, Spanned, with_run}
use Rattle.numset.proofs.Moves.{moved_none, cleared_none, cleared_eq}
use Rattle.numset.proofs.Walk.{span_last}
use Rattle.numset.proofs.Place.{Adds, place_down, added, room_there}

module _ (m : List ℕ) (l : ℕ) where
  pub takes_none : get_or m 0 0 ≡ 0 → false ≡ takes_in m l
  unfolding takes_in
  takes_none z = rw (le-ltb 0 (get_or m 0 0) (omega arith))

  module _ (h : 0 < get_or m 0 0) where
    pub takes_later : l < lo m (get_or m 0 0 - 1) → false ≡ takes_in m l
    unfolding takes_in
    takes_later p = rw (lt-ltb 0 (get_or m 0 0) h, lt-leb (lo m (get_or m 0 0 - 1)) l p)

    pub takes_is : lo m (get_or m 0 0 - 1) ≤ l → leb (l - hi m (get_or m 0 0 - 1)) 1 ≡ takes_in m l
    unfolding takes_in
    takes_is p = rw (lt-ltb 0 (get_or m 0 0) h, le-leb (lo m (get_or m 0 0 - 1)) l p)

-- ---- an interval that it takes in
module _ (m : List ℕ) (l : ℕ) (t : takes_in m l ≡ true) where
  pub takes_some : 0 < get_or m 0 0
  unfolding takes_in
  takes_some = ltb-true _ _ (and_left (ltb 0 (get_or m 0 0)) (leb (lo m (get_or m 0 0 - 1)) l && leb (l - hi m (get_or m 0 0 - 1)) 1) t)

  module _ {u : ℕ} (g : Good m) (o : l ≤ u) where
    pub takes_span : Spanned m l u (get_or m 0 0 - 1) (get_or m 0 0) (lo m (get_or m 0 0 - 1)) (max u (hi m (get_or m 0 0 - 1)))
    unfolding takes_in
    takes_span =
        let n = get_or m 0 0 in
        let first = leb (lo m (n - 1)) l in
        let second = leb (l - hi m (n - 1)) 1 in
        let both = and_right (ltb 0 n) (first && second) t in
        let p : lo m (n - 1) ≤ l = leb-true _ _ (and_left first second both) in
        let q : l - hi m (n - 1) ≤ 1 = leb-true _ _ (and_right first second both) in
        span_last g o n (omega arith) takes_some p (omega (arith, q)) (omega arith) (omega arith)

    pub takes_room : true ≡ fits (length m) (union l u (runs m))
    takes_room = sym (room_there takes_span o (omega (arith, g.room, takes_some)))

    pub lengthened : {m' : List ℕ} → m' ≡ with_run m (get_or m 0 0 - 1) (lo m (get_or m 0 0 - 1)) (max u (hi m (get_or m 0 0 - 1))) (get_or m 0 0) → length m' ≡ length m → u < 2 ^ 64 → Adds m m' l u 0
    lengthened e k f =
        let n = get_or m 0 0 in
        let a : n - 1 + 1 + (n - n) ≡ n = omega (arith, takes_some) in
        added takes_span o g
        (place_down (moved_none m _ _ _ (omega arith)) (cleared_eq (cleared_none m (2 * (n - 1 + 1 + (n - n)) + 1)) (omega (arith, takes_some))) (rw a e) g (omega (arith, takes_some)) (omega arith) (omega (arith, g.room, takes_some)))
        k f (omega (arith, g.room, takes_some))
