-- What stores leave of a ring, and what the newest run tells of an interval that is added. Assumes nothing.
use Prim.Native.Nat.{ℕ, suc, ◌+◌, ◌*◌, ◌-◌, ◌%◌, ◌^◌, ◌≤◌, ◌<◌, max}
use mathlib.Core.Path.{◌≡◌, refl, sym, ap, ◌∙◌}
use mathlib.Core.Logic.{⊎_elim}
use mathlib.Core.Bool.{Bool, true, false}
use mathlib.Core.List.{List}
use native.Mathlib.Omega.{arith}
use lib.ListN.{length, get_or, set, length-set}
use lib.Seq.{ext_get_or, get_or-set_same, get_or-set_other}
use lib.Dec.{ltb}
use borrow.Author.Tests.{le-leb, ltb-true, ltb-false, eq-eqb, ne_eqb}
use Rattle.lists.specs.Lists.{filled_from}
use Rattle.lists.proofs.Filled.{filled_from_at, filled_from_more, filled_from_length}
use Rattle.lists.proofs.Parts.{word_at}
use Rattle.lists.proofs.Tests.{lt_or_ge, clash}
use Rattle.numset.specs.Runs.{lo, hi, Good, union, fits, pack, add_words}
use Rattle.numset.specs.Private.{Spanned, takes_in, with_run}
use Rattle.numset.proofs.Words.{newest}
use Rattle.numset.proofs.Union.{union_none}
use Rattle.numset.proofs.Moves.{moved_none}
use Rattle.numset.proofs.Walk.{span_first, span_after}
use Rattle.numset.proofs.Place.{place_up, added, room_lacks}
use Rattle.numset.proofs.Changes.{added_words}
use Rattle.numset.proofs.Newest.{takes_is, takes_some, takes_room, lengthened}
use Rattle.ring.specs.Ring.{turn_of, unrolled, ringed, Rolling, rolled}
use Rattle.ring.specs.Private.{follows}
use Rattle.ring.proofs.Rolls.{unrolled_length, unrolled_count, unrolled_at, unrolled_set, unrolled_recount, is_rolled, rolls_again, flat}

-- ---- stores
module _ (m : List ℕ) (l : length m ≡ 130) where
  pub set_placed : (j x p q : ℕ) → j < 128 → p ≡ 2 + (2 * turn_of m + j) % 128 → q ≡ suc j → unrolled (set m p x) ≡ set (unrolled m) q x
  set_placed j x p q h e f = rw (e, f) (unrolled_set m l j x h)

pub turn_stays : (m : List ℕ) (p x : ℕ) → (1 ≡ p → ⊥) → turn_of (set m p x) ≡ turn_of m
turn_stays m p x h = get_or-set_other m p 1 x 0 h

module _ (m : List ℕ) (k : length m ≡ 130) (j l u n a : ℕ) (h : j < 64) (e : a ≡ 2 + 2 * ((turn_of m + j) % 64)) where
  once_turn : turn_of (set m a l) ≡ turn_of m
  once_turn = turn_stays m a l (omega arith)

  twice_turn : turn_of (set (set m a l) (a + 1) u) ≡ turn_of m
  twice_turn = turn_stays (set m a l) (a + 1) u (omega arith) ∙ once_turn

  pub stored_turn : turn_of (set (set (set m a l) (a + 1) u) 0 n) ≡ turn_of m
  stored_turn = turn_stays (set (set m a l) (a + 1) u) 0 n (omega arith) ∙ twice_turn

  pub stored : unrolled (set (set (set m a l) (a + 1) u) 0 n) ≡ with_run (unrolled m) j l u n
  stored =
      unrolled_recount (set (set m a l) (a + 1) u) (simp length-set k) n
      ∙ ap (λ (w : List ℕ). set w 0 n)
      (set_placed (set m a l) (simp length-set k) (2 * j + 1) u (a + 1) (2 * j + 2) (omega arith) (let t = once_turn in omega arith) (omega arith)
      ∙ ap (λ (w : List ℕ). set w (2 * j + 2) u) (set_placed m k (2 * j) l a (2 * j + 1) (omega arith) (omega arith) (omega arith)))

-- ---- what an addition leaves, where the words of the set are those of the union
added_rolled : (m m' : List ℕ) (l u : ℕ) → Rolling m → length m' ≡ 130 → turn_of m' ≡ turn_of m → 2 * length (union l u (ringed m)) < 129 → unrolled m' ≡ add_words (unrolled m) l u
    → m' ≡ rolled (turn_of m) (union l u (ringed m))
added_rolled m m' l u g k t f e =
    let n = unrolled_length m in
    is_rolled (turn_of m) (union l u (ringed m)) g.turn f k t
    (e ∙ added_words (unrolled m) l u (omega arith) ∙ ap (λ (n : ℕ). pack n (union l u (ringed m))) (unrolled_length m))

pub added_laid : (m m' f : List ℕ) (l u : ℕ) → Rolling m → length m' ≡ 130 → turn_of m' ≡ turn_of m → fits 129 (union l u (ringed m)) ≡ true → unrolled m' ≡ f → f ≡ add_words (unrolled m) l u
    → m' ≡ rolled (turn_of m) (union l u (ringed m))
added_laid m m' f l u g k t r e a = added_rolled m m' l u g k t (ltb-true _ _ r) (e ∙ a)

-- nothing is added
pub added_nothing : (m : List ℕ) (l u : ℕ) → Rolling m → u < l → m ≡ rolled (turn_of m) (union l u (ringed m))
added_nothing m l u g h = rw (union_none l u (ringed m) h) (rolls_again m g)

-- ---- whether an interval follows the newest run
module _ (m : List ℕ) (l : ℕ) where
  pub follows_none : get_or m 0 0 ≡ 0 → true ≡ follows m l
  unfolding follows
  follows_none z = rw (eq-eqb (get_or m 0 0) 0 z)

  pub follows_is : (get_or m 0 0 ≡ 0 → ⊥) → ltb 1 (l - hi m (get_or m 0 0 - 1)) ≡ follows m l
  unfolding follows
  follows_is h = rw (ne_eqb (get_or m 0 0) 0 h)

  module _ (e : follows m l ≡ false) where
    pub not_none : 0 < get_or m 0 0
    not_none = ⊎_elim (λ h. h) (λ h. absurd (clash (sym (follows_none (omega arith))) e)) (lt_or_ge 0 (get_or m 0 0))

    pub reached : l - hi m (get_or m 0 0 - 1) ≤ 1
    reached = let h = not_none in ltb-false _ _ (follows_is (omega arith) ∙ e)

    pub then_taken : lo m (get_or m 0 0 - 1) ≤ l → takes_in m l ≡ true
    then_taken p = sym (takes_is m l not_none p) ∙ le-leb _ _ reached

  follows_span : {u : ℕ} → Good m → l ≤ u → follows m l ≡ true → Spanned m l u (get_or m 0 0) (get_or m 0 0) l u
  follows_span {u} g o e =
      ⊎_elim
      (λ h.
      let w = newest (2 ^ 64 + 1) m (get_or m 0 0) h g.apart in
      let p = ltb-true 1 (l - hi m (get_or m 0 0 - 1)) (follows_is (omega arith) ∙ e) in
      span_after g o (get_or m 0 0) refl h (omega (arith, w.order)) (omega arith))
      (λ h. span_first g o (get_or m 0 0) refl (omega arith))
      (lt_or_ge 0 (get_or m 0 0))

-- ---- a run behind the newest
module _ (m : List ℕ) (l u : ℕ) (g : Rolling m) (o : l ≤ u) (e : follows (unrolled m) l ≡ true) (f : fits 129 (union l u (ringed m)) ≡ true) where
  pub place_free : get_or m 0 0 < 64
  place_free =
      ⊎_elim (λ h. h)
      (λ h.
      let n = unrolled_count m in
      let d = unrolled_length m in
      let lacks = room_lacks (follows_span (unrolled m) l g.good o e) o (omega arith) in
      absurd (clash f (ap (λ (k : ℕ). fits k (union l u (ringed m))) (sym d) ∙ lacks)))
      (lt_or_ge (get_or m 0 0) 64)

  pub appended : (m' : List ℕ) → length m' ≡ 130 → turn_of m' ≡ turn_of m → u < 2 ^ 64 → unrolled m' ≡ with_run (unrolled m) (get_or m 0 0) l u (get_or m 0 0 + 1)
      → m' ≡ rolled (turn_of m) (union l u (ringed m))
  appended m' k t b q =
      let M = unrolled m in
      let n = unrolled_count m in
      let d = unrolled_length m in
      let h = place_free in
      let z : get_or M 0 0 + 1 + (get_or M 0 0 - get_or M 0 0) ≡ get_or m 0 0 + 1 = omega arith in
      let p : unrolled m' ≡ with_run M (get_or M 0 0) l u (get_or M 0 0 + 1 + (get_or M 0 0 - get_or M 0 0)) = rw (z, n) q in
      added_rolled m m' l u g k t (ltb-true _ _ f)
      (added (follows_span M l g.good o e) o g.good
      (place_up (moved_none M _ _ _ (omega arith)) p g.good (omega arith) (omega arith))
      (unrolled_length m' ∙ sym d) b (omega arith)).1

-- ---- the newest run made longer
module _ (m : List ℕ) (l u : ℕ) (g : Rolling m) (o : l ≤ u) (e : takes_in (unrolled m) l ≡ true) where
  pub some_run : 0 < get_or m 0 0
  some_run = let h = takes_some (unrolled m) l e in let n = unrolled_count m in omega arith

  pub longer : (m' : List ℕ) → length m' ≡ 130 → turn_of m' ≡ turn_of m → u < 2 ^ 64
      → unrolled m' ≡ with_run (unrolled m) (get_or m 0 0 - 1) (lo (unrolled m) (get_or m 0 0 - 1)) (max u (hi (unrolled m) (get_or m 0 0 - 1))) (get_or m 0 0)
      → m' ≡ rolled (turn_of m) (union l u (ringed m))
  longer m' k t b q =
      let M = unrolled m in
      let d = unrolled_length m in
      let r = takes_room M l e g.good o in
      added_rolled m m' l u g k t (let f : 2 * length (union l u (ringed m)) < length M = ltb-true _ _ (sym r) in omega arith)
      (lengthened M l e g.good o (rw (unrolled_count m) q) (unrolled_length m' ∙ sym d) b).1

-- ---- room
module _ (m : List ℕ) (l u : ℕ) where
  -- the words of the set decide
  pub room_by_words : {b : Bool} → b ≡ fits (length (unrolled m)) (union l u (ringed m)) → b ≡ fits 129 (union l u (ringed m))
  room_by_words e = e ∙ ap (λ (k : ℕ). fits k (union l u (ringed m))) (unrolled_length m)

-- ---- words filled one by one after the first, and the first at last
pub filled_words : (g : ℕ → ℕ) (old new : List ℕ) (x : ℕ) → length old ≡ 129 → length new ≡ 129 → get_or new 0 0 ≡ x → ((i : ℕ) → i < 128 → get_or new (1 + i) 0 ≡ g i)
    → set (filled_from 1 g old 128) 0 x ≡ new
filled_words g old new x k l e f =
    ext_get_or 0 (set (filled_from 1 g old 128) 0 x) new (length-set (filled_from 1 g old 128) 0 x ∙ filled_from_length 1 g old 128 ∙ k ∙ sym l)
    (λ i q.
    let a = length-set (filled_from 1 g old 128) 0 x in
    let b = filled_from_length 1 g old 128 in
    ⊎_elim
    (λ h. word_at (set (filled_from 1 g old 128) 0 x) i 0 (omega arith) ∙ get_or-set_same (filled_from 1 g old 128) 0 x 0 (omega arith) ∙ sym e ∙ word_at new 0 i (omega arith))
    (λ h.
    get_or-set_other (filled_from 1 g old 128) 0 i x 0 (omega arith)
    ∙ word_at (filled_from 1 g old 128) i (1 + (i - 1)) (omega arith)
    ∙ filled_from_at 1 g old 0 128 (i - 1) (omega arith) (omega arith)
    ∙ sym (f (i - 1) (omega arith))
    ∙ word_at new (1 + (i - 1)) i (omega arith))
    (lt_or_ge i 1))

-- the words that `unroll` makes, and those that `lay` leaves
pub unroll_done : (m old flat : List ℕ) (i : ℕ) → length old ≡ 129 → i ≡ 128 → flat ≡ filled_from 1 (λ k. get_or m (2 + (2 * turn_of m + k) % 128) 0) old i → set flat 0 (get_or m 0 0) ≡ unrolled m
unroll_done m old flat i k e f =
    let all : ℕ → ℕ = λ k. get_or m (2 + (2 * turn_of m + k) % 128) 0 in
    ap (λ (w : List ℕ). set w 0 (get_or m 0 0)) (f ∙ ap (filled_from 1 all old) e)
    ∙ filled_words all old (unrolled m) (get_or m 0 0) k (unrolled_length m) (unrolled_count m) (λ i h. word_at (unrolled m) (1 + i) (suc i) (omega arith) ∙ unrolled_at m i h)

pub lay_more : (m f old : List ℕ) (i x : ℕ) → length m ≡ 130 → i < 128 → unrolled m ≡ filled_from 1 (λ k. get_or f (1 + k) 0) old i → x ≡ get_or f (1 + i) 0
    → unrolled (set m (2 + (2 * turn_of m + i) % 128) x) ≡ filled_from 1 (λ k. get_or f (1 + k) 0) old (i + 1)
lay_more m f old i x k h e q =
    set_placed m k i x (2 + (2 * turn_of m + i) % 128) (1 + i) h refl (omega arith) ∙ filled_from_more 1 (λ k. get_or f (1 + k) 0) old e q

pub lay_done : (m f old : List ℕ) (i : ℕ) → length m ≡ 130 → length old ≡ 129 → length f ≡ 129 → i ≡ 128 → unrolled m ≡ filled_from 1 (λ k. get_or f (1 + k) 0) old i
    → unrolled (set m 0 (get_or f 0 0)) ≡ f
lay_done m f old i k o l e q =
    unrolled_recount m k (get_or f 0 0) ∙ ap (λ (w : List ℕ). set w 0 (get_or f 0 0)) (q ∙ ap (filled_from 1 (λ k. get_or f (1 + k) 0) old) e)
    ∙ filled_words (λ k. get_or f (1 + k) 0) old f (get_or f 0 0) o l refl (λ i h. refl)
