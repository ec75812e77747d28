-- A ring and the set that it holds: what stands at each place, and what a store does to the set. Assumes nothing.
use Prim.Native.Nat.{ℕ, suc, ◌+◌, ◌*◌, ◌-◌, ◌%◌, ◌^◌, ◌≤◌, ◌<◌}
use mathlib.Core.Path.{◌≡◌, refl, sym, ap, ◌∙◌}
use mathlib.Core.Logic.{⊎_elim}
use mathlib.Core.List.{List, []}
use native.Mathlib.Omega.{arith}
use lib.ListN.{length, get_or, set, replicate, length-set, length-replicate}
use lib.Seq.{ext_get_or, get_or-set_same, get_or-set_other}
use Rattle.lists.proofs.Listed.{listed_length, listed_at}
use Rattle.lists.proofs.Parts.{word_at, get_or_zeros}
use Rattle.lists.proofs.Tests.{lt_or_ge}
use Rattle.numset.specs.Runs.{Runs, lo, hi, runs, Under, pack}
use Rattle.numset.proofs.Words.{length_runs}
use Rattle.numset.proofs.Packs.{length_pack, runs_pack, good_pack, packed, zeros_pack}
use Rattle.ring.specs.Ring.{turn_of, unrolled, ringed, Rolling, rolled}

-- ---- the words of the set, one by one
pub unrolled_length : (m : List ℕ) → length (unrolled m) ≡ 129
unfolding unrolled
unrolled_length m = ap suc (listed_length (λ i. get_or m (2 + (2 * turn_of m + i) % 128) 0) 128)

pub unrolled_count : (m : List ℕ) → get_or (unrolled m) 0 0 ≡ get_or m 0 0
unfolding unrolled
unrolled_count m = refl

pub unrolled_at : (m : List ℕ) (i : ℕ) → i < 128 → get_or (unrolled m) (suc i) 0 ≡ get_or m (2 + (2 * turn_of m + i) % 128) 0
unfolding unrolled
unrolled_at m i h = listed_at (λ i. get_or m (2 + (2 * turn_of m + i) % 128) 0) 0 128 i h

-- the word at a place, by the words of the set
place_at : (m : List ℕ) (p : ℕ) → turn_of m < 64 → p < 128 → get_or m (2 + p) 0 ≡ get_or (unrolled m) (suc ((p + 2 * (64 - turn_of m)) % 128)) 0
place_at m p h l =
    word_at m (2 + p) (2 + (2 * turn_of m + (p + 2 * (64 - turn_of m)) % 128) % 128) (omega arith)
    ∙ sym (unrolled_at m ((p + 2 * (64 - turn_of m)) % 128) (omega arith))

-- ---- a ring is told by its set and by the place of the oldest run
pub same_rings : (m m' : List ℕ) → length m ≡ 130 → length m' ≡ 130 → turn_of m < 64 → turn_of m ≡ turn_of m' → unrolled m ≡ unrolled m' → m ≡ m'
same_rings m m' l l' h t e =
    ext_get_or 0 m m' (l ∙ sym l')
    (λ i q.
    ⊎_elim
    (λ z. word_at m i 0 (omega arith) ∙ sym (unrolled_count m) ∙ ap (λ (w : List ℕ). get_or w 0 0) e ∙ unrolled_count m' ∙ word_at m' 0 i (omega arith))
    (λ z. ⊎_elim
    (λ y. word_at m i 1 (omega arith) ∙ t ∙ word_at m' 1 i (omega arith))
    (λ y.
    word_at m i (2 + (i - 2)) (omega arith)
    ∙ place_at m (i - 2) h (omega arith)
    ∙ ap (λ (w : List ℕ). get_or w (suc ((i - 2 + 2 * (64 - turn_of m)) % 128)) 0) e
    ∙ word_at (unrolled m') (suc ((i - 2 + 2 * (64 - turn_of m)) % 128)) (suc ((i - 2 + 2 * (64 - turn_of m')) % 128)) (omega arith)
    ∙ sym (place_at m' (i - 2) (omega arith) (omega arith))
    ∙ word_at m' (2 + (i - 2)) i (omega arith))
    (lt_or_ge i 2))
    (lt_or_ge i 1))

-- ---- what `rolled` makes
module _ (k : ℕ) (rs : Runs) where
  pub rolled_length : length (rolled k rs) ≡ 130
  unfolding rolled
  rolled_length = ap (λ (n : ℕ). suc (suc n)) (listed_length (λ i. get_or (pack 129 rs) (1 + (i + 2 * (64 - k)) % 128) 0) 128)

  pub rolled_count : get_or (rolled k rs) 0 0 ≡ length rs
  unfolding rolled
  rolled_count = refl

  pub rolled_turn : turn_of (rolled k rs) ≡ k
  unfolding rolled
  rolled_turn = refl

  pack_count : length rs ≡ get_or (pack 129 rs) 0 0
  unfolding pack
  pack_count = refl

  rolled_at : (i : ℕ) → i < 128 → get_or (rolled k rs) (suc (suc i)) 0 ≡ get_or (pack 129 rs) (1 + (i + 2 * (64 - k)) % 128) 0
  unfolding rolled
  rolled_at i h = listed_at (λ i. get_or (pack 129 rs) (1 + (i + 2 * (64 - k)) % 128) 0) 0 128 i h

  module _ (h : k < 64) (f : 2 * length rs < 129) where
    pub unrolled_rolled : unrolled (rolled k rs) ≡ pack 129 rs
    unrolled_rolled =
        let t = rolled_turn in
        ext_get_or 0 (unrolled (rolled k rs)) (pack 129 rs) (unrolled_length (rolled k rs) ∙ sym (length_pack 129 rs f))
        (λ i q.
        let l = unrolled_length (rolled k rs) in
        ⊎_elim
        (λ z. word_at (unrolled (rolled k rs)) i 0 (omega arith) ∙ unrolled_count (rolled k rs) ∙ rolled_count ∙ pack_count ∙ word_at (pack 129 rs) 0 i (omega arith))
        (λ z.
        word_at (unrolled (rolled k rs)) i (suc (i - 1)) (omega arith)
        ∙ unrolled_at (rolled k rs) (i - 1) (omega arith)
        ∙ word_at (rolled k rs) (2 + (2 * turn_of (rolled k rs) + (i - 1)) % 128) (suc (suc ((2 * k + (i - 1)) % 128))) (omega arith)
        ∙ rolled_at ((2 * k + (i - 1)) % 128) (omega arith)
        ∙ word_at (pack 129 rs) (1 + ((2 * k + (i - 1)) % 128 + 2 * (64 - k)) % 128) i (omega arith))
        (lt_or_ge i 1))

    pub ringed_rolled : ringed (rolled k rs) ≡ rs
    ringed_rolled = ap (λ (w : List ℕ). runs w) unrolled_rolled ∙ runs_pack 129 rs

    pub rolling : Under (2 ^ 64 + 1) rs → Rolling (rolled k rs)
    rolling w =
        record {
          long = rolled_length;
          turn = rw rolled_turn h;
          good = rw unrolled_rolled (good_pack 129 rs f w);
        }

    -- words that hold the set, its oldest run at that place, are these
    pub is_rolled : {m : List ℕ} → length m ≡ 130 → turn_of m ≡ k → unrolled m ≡ pack 129 rs → m ≡ rolled k rs
    is_rolled {m} l t e = same_rings m (rolled k rs) l rolled_length (omega arith) (t ∙ sym rolled_turn) (e ∙ sym unrolled_rolled)

-- ---- a ring is the one that its set and its turn make
pub ringed_length : (m : List ℕ) → length (ringed m) ≡ get_or m 0 0
ringed_length m = length_runs (unrolled m) (get_or (unrolled m) 0 0) ∙ unrolled_count m

pub few : (m : List ℕ) → Rolling m → get_or m 0 0 ≤ 64
few m g = let r = g.good.room in omega (arith, unrolled_length m, unrolled_count m)

pub flat : (m : List ℕ) → Rolling m → unrolled m ≡ pack 129 (ringed m)
flat m g = packed (unrolled m) g.good ∙ ap (λ (n : ℕ). pack n (ringed m)) (unrolled_length m)

pub rolls_again : (m : List ℕ) → Rolling m → m ≡ rolled (turn_of m) (ringed m)
rolls_again m g = is_rolled (turn_of m) (ringed m) g.turn (omega (arith, ringed_length m, few m g)) g.long refl (flat m g)

-- the empty set at the first place
pub zeros_rolled : replicate 130 0 ≡ rolled 0 []
zeros_rolled =
    is_rolled 0 [] (omega arith) (omega arith) (length-replicate {A = ℕ} 130 0) refl
    (ext_get_or 0 (unrolled (replicate 130 0)) (pack 129 []) (unrolled_length (replicate 130 0) ∙ sym (length_pack 129 [] (omega arith)))
    (λ i q.
    let l = unrolled_length (replicate 130 0) in
    ⊎_elim
    (λ z. word_at (unrolled (replicate 130 0)) i 0 (omega arith) ∙ unrolled_count (replicate 130 0))
    (λ z. word_at (unrolled (replicate 130 0)) i (suc (i - 1)) (omega arith) ∙ unrolled_at (replicate 130 0) (i - 1) (omega arith) ∙ get_or_zeros 130 (2 + (2 * turn_of (replicate 130 0) + (i - 1)) % 128))
    (lt_or_ge i 1)
    ∙ sym (ap (λ (w : List ℕ). get_or w i 0) (sym (zeros_pack 129 (omega arith))) ∙ get_or_zeros 129 i)))

-- ---- stores
module _ (m : List ℕ) (l : length m ≡ 130) where
  pub unrolled_recount : (n : ℕ) → unrolled (set m 0 n) ≡ set (unrolled m) 0 n
  unrolled_recount n =
      let t : turn_of (set m 0 n) ≡ turn_of m = get_or-set_other m 0 1 n 0 (omega arith) in
      ext_get_or 0 (unrolled (set m 0 n)) (set (unrolled m) 0 n) (unrolled_length (set m 0 n) ∙ sym (length-set (unrolled m) 0 n ∙ unrolled_length m))
      (λ i q.
      let k = unrolled_length (set m 0 n) in
      let k' = unrolled_length m in
      ⊎_elim
      (λ z. word_at (unrolled (set m 0 n)) i 0 (omega arith) ∙ unrolled_count (set m 0 n) ∙ get_or-set_same m 0 n 0 (omega arith) ∙ sym (word_at (set (unrolled m) 0 n) i 0 (omega arith) ∙ get_or-set_same (unrolled m) 0 n 0 (omega arith)))
      (λ z.
      word_at (unrolled (set m 0 n)) i (suc (i - 1)) (omega arith)
      ∙ unrolled_at (set m 0 n) (i - 1) (omega arith)
      ∙ get_or-set_other m 0 _ n 0 (omega arith)
      ∙ word_at m _ (2 + (2 * turn_of m + (i - 1)) % 128) (omega arith)
      ∙ sym (get_or-set_other (unrolled m) 0 i n 0 (omega arith) ∙ word_at (unrolled m) i (suc (i - 1)) (omega arith) ∙ unrolled_at m (i - 1) (omega arith)))
      (lt_or_ge i 1))

  pub unrolled_set : (j x : ℕ) → j < 128 → unrolled (set m (2 + (2 * turn_of m + j) % 128) x) ≡ set (unrolled m) (suc j) x
  unrolled_set j x h =
      let p : ℕ = 2 + (2 * turn_of m + j) % 128 in
      let m' : List ℕ = set m p x in
      let t : turn_of m' ≡ turn_of m = get_or-set_other m p 1 x 0 (omega arith) in
      ext_get_or 0 (unrolled m') (set (unrolled m) (suc j) x) (unrolled_length m' ∙ sym (length-set (unrolled m) (suc j) x ∙ unrolled_length m))
      (λ i q.
      let k = unrolled_length m' in
      let k' = unrolled_length m in
      ⊎_elim
      (λ z. word_at (unrolled m') i 0 (omega arith) ∙ unrolled_count m' ∙ get_or-set_other m p 0 x 0 (omega arith) ∙ sym (get_or-set_other (unrolled m) (suc j) i x 0 (omega arith) ∙ word_at (unrolled m) i 0 (omega arith) ∙ unrolled_count m))
      (λ z.
      word_at (unrolled m') i (suc (i - 1)) (omega arith)
      ∙ unrolled_at m' (i - 1) (omega arith)
      ∙ word_at m' _ (2 + (2 * turn_of m + (i - 1)) % 128) (omega arith)
      ∙ same_store i z (omega arith))
      (lt_or_ge i 1))
    where
      apart : (i : ℕ) → 1 ≤ i → i ≤ 128 → (i ≡ suc j → ⊥) → 2 + (2 * turn_of m + (i - 1)) % 128 ≡ 2 + (2 * turn_of m + j) % 128 → ⊥
      apart i a b n e = n (omega arith)

      elsewhere : (i : ℕ) → 1 ≤ i → i ≤ 128 → (i ≡ suc j → ⊥) → get_or (set m (2 + (2 * turn_of m + j) % 128) x) (2 + (2 * turn_of m + (i - 1)) % 128) 0 ≡ get_or (set (unrolled m) (suc j) x) i 0
      elsewhere i a b n =
          get_or-set_other m (2 + (2 * turn_of m + j) % 128) _ x 0 (apart i a b n)
          ∙ sym (get_or-set_other (unrolled m) (suc j) i x 0 n ∙ word_at (unrolled m) i (suc (i - 1)) (omega arith) ∙ unrolled_at m (i - 1) (omega arith))

      same_store : (i : ℕ) → 1 ≤ i → i ≤ 128 → get_or (set m (2 + (2 * turn_of m + j) % 128) x) (2 + (2 * turn_of m + (i - 1)) % 128) 0 ≡ get_or (set (unrolled m) (suc j) x) i 0
      same_store i a b =
          let p : ℕ = 2 + (2 * turn_of m + j) % 128 in
          let k = unrolled_length m in
          ⊎_elim
          (λ y. elsewhere i a b (omega arith))
          (λ y. ⊎_elim
          (λ z. elsewhere i a b (omega arith))
          (λ z.
          word_at (set m p x) (2 + (2 * turn_of m + (i - 1)) % 128) p (omega arith)
          ∙ get_or-set_same m p x 0 (omega arith)
          ∙ sym (word_at (set (unrolled m) (suc j) x) i (suc j) (omega arith) ∙ get_or-set_same (unrolled m) (suc j) x 0 (omega arith)))
          (lt_or_ge (suc j) i))
          (lt_or_ge i (suc j))

-- ---- the runs by their places
module _ (m : List ℕ) (j : ℕ) (h : j < 64) where
  pub lower_placed : get_or m (2 + 2 * ((turn_of m + j) % 64)) 0 ≡ lo (unrolled m) j
  lower_placed = sym (word_at (unrolled m) (2 * j + 1) (suc (2 * j)) (omega arith) ∙ unrolled_at m (2 * j) (omega arith) ∙ word_at m _ (2 + 2 * ((turn_of m + j) % 64)) (omega arith))

  pub upper_placed : get_or m (2 + 2 * ((turn_of m + j) % 64) + 1) 0 ≡ hi (unrolled m) j
  upper_placed = sym (word_at (unrolled m) (2 * j + 2) (suc (2 * j + 1)) (omega arith) ∙ unrolled_at m (2 * j + 1) (omega arith) ∙ word_at m _ (2 + 2 * ((turn_of m + j) % 64) + 1) (omega arith))
