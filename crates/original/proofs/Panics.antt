-- Where the original panics: a time below the clock, our 7, and a state shorter than the largest atom plus 1, our 9. Assumes nothing.
use Prim.Native.Nat.{ℕ, zero, suc, ◌+◌, ◌≤◌, ◌<◌}
use native.Mathlib.Omega.{arith}
use native.Mathlib.Nat.{not-suc-le-zero, le_of_suc-le-suc}
use mathlib.Core.Path.{◌≡◌, refl, ap, ◌∙◌}
use mathlib.Core.Logic.{⊎_elim, ◌⊎◌, inl, inr, ◌↔◌}
use mathlib.Core.Bool.{Bool}
use mathlib.Core.List.{List, [], ◌∷◌, map}
use lib.ListN.{length, get_or, length-map}
use borrow.Author.Tests.{lt-leb}
use Rattle.lists.proofs.Tests.{lt_or_ge}
use Rattle.numbers.specs.Limits.{LAST_TIME}
use Rattle.pmtl.specs.Book.{Row, map_row, Rows, row_at, Book, AllBelow, Below, Ordered, atom_width, width_of}
use Rattle.pmtl.specs.Book.Row.{never, always, atom, conj, disj, neg, implies, historically, once, since}
use Rattle.pmtl.specs.Calls.{time, state, stamped, timed, History, now_of}
use Rattle.original.specs.Rust.{Ran, ◌>>=◌, index, each}
use Rattle.original.specs.NumSet.{NumSet}
use Rattle.original.specs.ValPmtl.{ValPmtl, output, update_state as update-state-of, update_states}
use Rattle.original.specs.PmtlOracle.{PmtlOracle, update_state, update_time}
use Rattle.original.specs.Proper.{Fits, In, operands_in, UsedIn, Used}
use Rattle.original.specs.Replay.{made}
use Rattle.original.specs.Agrees.{vals, tree_rule}
use Rattle.original.specs.Rust.Ran.{panic, done}
use Rattle.original.specs.Proper.UsedIn.{assume, guarantee, operand}
use Rattle.original.proofs.Fulls.{Clocks}
use Rattle.original.proofs.Grown.{set_of, grown, grown_fix}
use Rattle.original.proofs.Replays.{is_one, oracle_at, time_at, state_at, stamped_at}

-- a panic later on
then_panic : {A B : Type 0} (x : Ran A) (f : A → Ran B) → ((a : A) → f a ≡ panic) → (x >>= f) ≡ panic
then_panic panic f e = refl
then_panic (done a) f e = e a

index_out : {A : Type 0} (xs : List A) (i : ℕ) → length xs ≤ i → index xs i ≡ panic
unfolding index
index_out [] i h = refl
index_out (x ∷ xs) zero h = absurd (not-suc-le-zero h)
index_out (x ∷ xs) (suc i) h = index_out xs i (le_of_suc-le-suc h)

-- ---- a tree
module _ (bits : List Bool) (c : ℕ) (tree : ℕ → ValPmtl) where
  up : ValPmtl → Ran ValPmtl
  up v = update-state-of v bits c

  atom_panics : (atoms : List Bool) (set : NumSet) (row : Row ℕ) → length bits < atom_width row → up (tree_rule atoms set (map_row tree row)) ≡ panic
  unfolding up update-state-of tree_rule
  atom_panics atoms set never h = absurd (not-suc-le-zero h)
  atom_panics atoms set always h = absurd (not-suc-le-zero h)
  atom_panics atoms set (atom a) h = rw (index_out bits a (le_of_suc-le-suc h))
  atom_panics atoms set (conj os) h = absurd (not-suc-le-zero h)
  atom_panics atoms set (disj os) h = absurd (not-suc-le-zero h)
  atom_panics atoms set (neg o) h = absurd (not-suc-le-zero h)
  atom_panics atoms set (implies x y) h = absurd (not-suc-le-zero h)
  atom_panics atoms set (historically g o) h = absurd (not-suc-le-zero h)
  atom_panics atoms set (once g o) h = absurd (not-suc-le-zero h)
  atom_panics atoms set (since g x y) h = absurd (not-suc-le-zero h)

  -- an operand panics
  module _ (o : ℕ) (e : up (tree o) ≡ panic) where
    is : (x : ℕ) → x ≡ o → up (tree x) ≡ panic
    is x p = ap (λ y. up (tree y)) p ∙ e

    vals_panic : (os : List ℕ) (i : ℕ) → i < length os → get_or os i 0 ≡ o → update_states (vals (map tree os)) bits c ≡ panic
    unfolding up update_states vals
    vals_panic [] i h p = absurd (not-suc-le-zero h)
    vals_panic (x ∷ os) zero h p = rw (is x p)
    vals_panic (x ∷ os) (suc i) h p = then_panic (update-state-of (tree x) bits c) _ (λ v. rw (vals_panic os i (le_of_suc-le-suc h) p))

    one : (x i : ℕ) → i < 1 → get_or (x ∷ []) i 0 ≡ o → x ≡ o
    one x zero h p = p
    one x (suc i) h p = absurd (not-suc-le-zero (le_of_suc-le-suc h))

    two : (x y i : ℕ) → i < 2 → get_or (x ∷ y ∷ []) i 0 ≡ o → (x ≡ o) ⊎ (y ≡ o)
    two x y zero h p = inl p
    two x y (suc zero) h p = inr p
    two x y (suc (suc i)) h p = absurd (not-suc-le-zero (le_of_suc-le-suc (le_of_suc-le-suc h)))

    operand_panics : (atoms : List Bool) (set : NumSet) (row : Row ℕ) → In o (operands_in row) → up (tree_rule atoms set (map_row tree row)) ≡ panic
    unfolding up update-state-of tree_rule
    operand_panics atoms set never w = absurd (not-suc-le-zero w.1)
    operand_panics atoms set always w = absurd (not-suc-le-zero w.1)
    operand_panics atoms set (atom a) w = absurd (not-suc-le-zero w.1)
    operand_panics atoms set (conj os) w = rw (vals_panic os w.0 w.1 w.2)
    operand_panics atoms set (disj os) w = rw (vals_panic os w.0 w.1 w.2)
    operand_panics atoms set (neg x) w = rw (is x (one x w.0 w.1 w.2))
    operand_panics atoms set (implies x y) w = ⊎_elim (λ p. rw (is x p)) (λ p. then_panic (update-state-of (tree x) bits c) _ (λ v. rw (is y p))) (two x y w.0 w.1 w.2)
    operand_panics atoms set (historically g x) w = rw (is x (one x w.0 w.1 w.2))
    operand_panics atoms set (once g x) w = rw (is x (one x w.0 w.1 w.2))
    operand_panics atoms set (since g x y) w =
        ⊎_elim
        (λ p. rw (is x p))
        (λ p. rw (is y p) (then_panic (update-state-of (tree x) bits c) _ (λ v. then_panic (output v c) _ (λ z. refl))))
        (two x y w.0 w.1 w.2)

-- ---- from the atom up to a property
all_below_lem : (r : ℕ) (os : List ℕ) → AllBelow r os → (i : ℕ) → i < length os → get_or os i 0 < r
all_below_lem r [] w i h = absurd (not-suc-le-zero h)
all_below_lem r (o ∷ os) w zero h = w.0
all_below_lem r (o ∷ os) w (suc i) h = all_below_lem r os w.1 i (le_of_suc-le-suc h)

below_all : (r : ℕ) (row : Row ℕ) → Below r row → AllBelow r (operands_in row)
below_all r never w = tt
below_all r always w = tt
below_all r (atom a) w = tt
below_all r (conj os) w = w
below_all r (disj os) w = w
below_all r (neg o) w = (w, tt)
below_all r (implies x y) w = (w.0, (w.1, tt))
below_all r (historically g o) w = (w, tt)
below_all r (once g o) w = (w, tt)
below_all r (since g x y) w = (w.0, (w.1, tt))

-- a row whose atom needs more than n
widest : (b : Rows) (n : ℕ) → n < width_of b → (r : ℕ) × (r < length b) × (n < atom_width (row_at b r))
unfolding width_of
widest [] n h = absurd (not-suc-le-zero h)
widest (x ∷ b) n h =
    ⊎_elim
    (λ p. (0, omega arith, p))
    (λ p. let m = widest b n (omega arith) in (suc m.0, omega (arith, m.1), m.2))
    (lt_or_ge n (atom_width x))

each_panics : (f : ValPmtl → Ran ValPmtl) (v : ℕ → ValPmtl) (p : ℕ) → f (v p) ≡ panic → (ps : List ℕ) (i : ℕ) → i < length ps → get_or ps i 0 ≡ p → each f (map v ps) ≡ panic
unfolding each
each_panics f v p e [] i h q = absurd (not-suc-le-zero h)
each_panics f v p e (x ∷ ps) zero h q = rw (ap (λ y. f (v y)) q ∙ e)
each_panics f v p e (x ∷ ps) (suc i) h q = then_panic (f (v x)) _ (λ y. rw (each_panics f v p e ps i (le_of_suc-le-suc h) q))

module _ (b : Book) (w : Ordered b.rows) (used : Used b) (h : History) (bits : List Bool) where
  walk : ValPmtl → Ran ValPmtl
  walk v = update-state-of v bits (now_of b.rows h).clock

  tree : ℕ → ValPmtl
  tree = grown b.rows h

  in_assumes : (r : ℕ) → walk (tree r) ≡ panic → In r b.assumes → update_state (oracle_at b h) bits ≡ panic
  unfolding walk tree update_state
  in_assumes r e i = rw (each_panics walk tree r e b.assumes i.0 i.1 i.2, update_state)

  in_guarantees : (r : ℕ) → walk (tree r) ≡ panic → In r b.guarantees → update_state (oracle_at b h) bits ≡ panic
  unfolding walk tree update_state
  in_guarantees r e i = then_panic (each walk (map tree b.assumes)) _ (λ x. rw (each_panics walk tree r e b.guarantees i.0 i.1 i.2))

  climb : (n r : ℕ) → length b.rows ≤ r + n → r < length b.rows → walk (tree r) ≡ panic → update_state (oracle_at b h) bits ≡ panic
  unfolding walk tree up
  climb zero r k l e = absurd (omega arith)
  climb (suc n) r k l e = go (used r l) (λ q. climb n q)
    where
      go : UsedIn b r → ((q : ℕ) → length b.rows ≤ q + n → q < length b.rows → walk (tree q) ≡ panic → update_state (oracle_at b h) bits ≡ panic)
          → update_state (oracle_at b h) bits ≡ panic
      go (assume i) ih = in_assumes r e i
      go (guarantee i) ih = in_guarantees r e i
      go (operand q m i) ih =
          let below : get_or (operands_in (row_at b.rows q)) i.0 0 < q = all_below_lem q (operands_in (row_at b.rows q)) (below_all q (row_at b.rows q) (w q)) i.0 i.1 in
          ih q (omega (arith, i.2)) m
          (ap walk (grown_fix b.rows w h q) ∙ operand_panics bits (now_of b.rows h).clock tree r e (now_of b.rows h).atoms (set_of b.rows h q) (row_at b.rows q) i)

  pub short_panics : length bits < width_of b.rows → update_state (oracle_at b h) bits ≡ panic
  unfolding walk tree up
  short_panics s =
      let m = widest b.rows (length bits) s in
      climb (length b.rows) m.0 (omega arith) m.1
      (ap walk (grown_fix b.rows w h m.0) ∙ atom_panics bits (now_of b.rows h).clock tree (now_of b.rows h).atoms (set_of b.rows h m.0) (row_at b.rows m.0) m.2)

pub late : (o : PmtlOracle) (t : ℕ) → t < o.time → update_time o t ≡ panic
unfolding update_time
late o t h = rw (lt-leb o.time t h, update_time)

-- the original at a history of legal clocks: exactly there
module _ (b : Book) (w : Ordered b.rows) (fit : Fits b.rows) (h : History) (l : Clocks b.rows h) where
  done_not_panic : (o : Ran PmtlOracle) (p : PmtlOracle) → o ≡ done p → o ≡ panic → ⊥
  done_not_panic o p e f = let z : ◌≡◌ {A = ℕ} 0 1 = cc in omega arith

  -- 7: the assertion on time
  pub time_panics : (t : ℕ) → t ≤ LAST_TIME → (made (oracle_at b h) (time t) ≡ panic) ↔ (t < (now_of b.rows h).clock)
  unfolding made
  time_panics t k = (λ e. ⊎_elim (λ p. p) (λ p. absurd (done_not_panic _ _ (time_at b w fit h l t p k).is e)) (lt_or_ge t (now_of b.rows h).clock), late (oracle_at b h) t)

  -- 9: `state[*atom]`
  pub state_panics : Used b → (bytes : List ℕ) → (made (oracle_at b h) (state bytes) ≡ panic) ↔ (length bytes < width_of b.rows)
  unfolding made
  state_panics used bytes = (
    λ e. ⊎_elim (λ p. p) (λ p. absurd (done_not_panic _ _ (state_at b w fit h l bytes p).is e)) (lt_or_ge (length bytes) (width_of b.rows)),
    λ p. short_panics b w used h (map is_one bytes) (omega (arith, length-map bytes is_one)),
  )

-- either, in a stamped call
module _ (b : Book) (w : Ordered b.rows) (fit : Fits b.rows) (h : History) (l : Clocks b.rows h) (used : Used b) (t : ℕ) (k : t ≤ LAST_TIME) (bytes : List ℕ) where
  early_panics : t < (now_of b.rows h).clock → made (oracle_at b h) (stamped t bytes) ≡ panic
  unfolding made
  early_panics p = rw (late (oracle_at b h) t p)

  narrow_panics : (now_of b.rows h).clock ≤ t → length bytes < width_of b.rows → made (oracle_at b h) (stamped t bytes) ≡ panic
  unfolding made
  narrow_panics p q =
      let first = time_at b w fit h l t p k in
      rw first.is ((state_panics b w fit (timed (now_of b.rows h) t ∷ h) first.clocks used bytes).1 q)

  pub stamped_panics : (made (oracle_at b h) (stamped t bytes) ≡ panic) ↔ ((t < (now_of b.rows h).clock) ⊎ (length bytes < width_of b.rows))
  stamped_panics = (
    λ e. ⊎_elim inl (λ p. ⊎_elim inr (λ q. absurd (done_not_panic b w fit h l _ _ (stamped_at b w fit h l t bytes p k q).is e)) (lt_or_ge (length bytes) (width_of b.rows)))
        (lt_or_ge t (now_of b.rows h).clock),
    λ e. ⊎_elim early_panics (λ p. narrow_panics p (⊎_elim (λ q. absurd (omega arith)) (λ q. q) e)) (lt_or_ge t (now_of b.rows h).clock),
  )
