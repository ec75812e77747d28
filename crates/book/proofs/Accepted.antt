-- What an accepted book has: the facts that `judged s ≡ 0` says, each by its own name. Assumes nothing.
use mathlib.Core.Path.{◌≡◌}
use mathlib.Core.Bool.{Bool, true, false, cond, not, ◌&&◌, ◌||◌}
use mathlib.Core.Logic.{⊎_elim}
use mathlib.Core.List.{List, [], ◌∷◌, ◌++◌}
use Prim.Native.Nat.{ℕ, zero, suc, ◌+◌, ◌-◌, ◌≤◌, ◌<◌}
use native.Mathlib.Nat.{le_of_suc-le-suc, not-suc-le-zero, eq-or-lt_of_le}
use native.Mathlib.Omega.{arith}
use lib.ListN.{length, get_or, length-append, get_or-append}
use lib.Seq.{get_or-append-add}
use lib.Dec.{leb, ltb, eqb, lit<}
use borrow.Author.Tests.{ltb-true, leb-true, leb-false, eqb-true, lt-leb, ne_eqb}
use Rattle.lists.proofs.Tests.{lt_or_ge, and_left, and_right}
use Rattle.numbers.specs.Limits.{MAX, LAST_TIME}
use Rattle.pmtl.specs.Book.{every}
use Rattle.pmtl.specs.Answer.{bit_of}
use Rattle.book.specs.Rows.{temporal, count_of}
use Rattle.book.specs.Reading.{Sections}
use Rattle.book.specs.Judging.{kind_in, arg_in, lower_in, upper_in, rows_in, temporals_in, start_in, first_to, all_to, arg_good, form_good, range_good, row_number, operands_good, links_good, times_in, uses_of, used_once, judged}
use Rattle.book.proofs.Tests.{passed, after_passed, not_held, first_none, then_none}

-- ---- what a number or a test over all rows says of each
pub first_each : (f : ℕ → ℕ) (n : ℕ) → first_to f n ≡ 0 → (r : ℕ) → r < n → f r ≡ 0
unfolding first_to
first_each f zero h r l = absurd (not-suc-le-zero l)
first_each f (suc n) h r l =
    ⊎_elim (λ e. rw e (then_none (first_to f n) (f n) h)) (first_each f n (first_none (first_to f n) (f n) h) r) (eq-or-lt_of_le (le_of_suc-le-suc l))

pub all_each : (f : ℕ → Bool) (n : ℕ) → all_to f n ≡ true → (r : ℕ) → r < n → f r ≡ true
unfolding all_to
all_each f zero h r l = absurd (not-suc-le-zero l)
all_each f (suc n) h r l =
    ⊎_elim (λ e. rw e (and_right (all_to f n) (f n) h)) (all_each f n (and_left (all_to f n) (f n) h) r) (eq-or-lt_of_le (le_of_suc-le-suc l))

pub every_each : (p : ℕ → Bool) (xs : List ℕ) → every p xs ≡ true → (i : ℕ) → i < length xs → p (get_or xs i 0) ≡ true
unfolding every
every_each p [] h i l = absurd (not-suc-le-zero l)
every_each p (x ∷ xs) h zero l = and_left (p x) (every p xs) h
every_each p (x ∷ xs) h (suc i) l = every_each p xs (and_right (p x) (every p xs) h) i (le_of_suc-le-suc l)

-- ---- what a good form says
-- the kind is one of the ten
past_none : (bs : List Bool) (i : ℕ) → get_or bs i false ≡ true → i < length bs
past_none [] i h = absurd (let z : ◌≡◌ {A = ℕ} 0 1 = cc in omega arith)
past_none (b ∷ bs) zero h = omega arith
past_none (b ∷ bs) (suc i) h = omega (arith, past_none bs i h)

pub arg_kind : (kind arg : ℕ) → arg_good kind arg ≡ true → kind ≤ 9
unfolding arg_good
arg_kind kind arg h =
    let good : List Bool =
    eqb arg 0 ∷ eqb arg 0 ∷ leb arg 255 ∷ leb arg 128 ∷ leb arg 128 ∷ eqb arg 1 ∷ eqb arg 2 ∷ eqb arg 1 ∷ eqb arg 1 ∷ eqb arg 2 ∷ [] in
    omega (arith, past_none good kind h)

pub form_arg : (kind arg lower upper : ℕ) → form_good kind arg lower upper ≡ true → arg_good kind arg ≡ true
unfolding form_good
form_arg kind arg lower upper h = and_left (arg_good kind arg) _ h

pub form_kind : (kind arg lower upper : ℕ) → form_good kind arg lower upper ≡ true → kind ≤ 9
form_kind kind arg lower upper h = arg_kind kind arg (form_arg kind arg lower upper h)

-- an atom's number is at most 255
pub atom_small : (kind arg lower upper : ℕ) → kind ≡ 2 → form_good kind arg lower upper ≡ true → arg ≤ 255
unfolding arg_good
atom_small kind arg lower upper e h = leb-true arg 255 (rw e at (form_arg kind arg lower upper h))

-- kinds 0 to 6 have lower and upper 0
pub bounds_none : (kind arg lower upper : ℕ) → kind < 7 → form_good kind arg lower upper ≡ true → (lower ≡ 0) × (upper ≡ 0)
unfolding form_good
bounds_none kind arg lower upper l h =
    let b : (eqb lower 0 && eqb upper 0) ≡ true = rw (lt-leb 7 kind l) at (and_right (arg_good kind arg) _ h) in
    (eqb-true _ _ (and_left (eqb lower 0) _ b), eqb-true _ _ (and_right (eqb lower 0) _ b))

-- ---- what a good range says
pub range_ordered : (lower upper : ℕ) → range_good lower upper ≡ true → lower ≤ upper
unfolding range_good
range_ordered lower upper h = leb-true _ _ (and_left _ _ (and_left (leb lower upper && leb lower LAST_TIME) _ h))

pub lower_small : (lower upper : ℕ) → range_good lower upper ≡ true → lower ≤ LAST_TIME
unfolding range_good
lower_small lower upper h = leb-true _ _ (and_right (leb lower upper) _ (and_left (leb lower upper && leb lower LAST_TIME) _ h))

pub upper_small : (lower upper : ℕ) → range_good lower upper ≡ true → (upper ≡ MAX → ⊥) → upper ≤ LAST_TIME
unfolding range_good
upper_small lower upper h finite = leb-true _ _ (other _ _ finite (and_right (leb lower upper && leb lower LAST_TIME) _ h))
  where
    other : (a b : ℕ) → (a ≡ b → ⊥) → (eqb a b || leb a LAST_TIME) ≡ true → leb a LAST_TIME ≡ true
    other a b differ h = rw (ne_eqb a b differ) at h

-- ---- the first operands of a row are those after the rows' before it
pub start_mono : (ws : List ℕ) (r n : ℕ) → r < n → start_in ws r + count_of (kind_in ws r) (arg_in ws r) ≤ start_in ws n
unfolding start_in
start_mono ws r zero l = absurd (not-suc-le-zero l)
start_mono ws r (suc n) l =
    ⊎_elim
    (λ e. rw e (omega arith))
    (λ k. omega (arith, start_mono ws r n k))
    (eq-or-lt_of_le (le_of_suc-le-suc l))

-- a row's number says that its form and range are good, and that it is no 33rd temporal row
pub row_form : (ws : List ℕ) (r : ℕ) → row_number ws r ≡ 0 → form_good (kind_in ws r) (arg_in ws r) (lower_in ws r) (upper_in ws r) ≡ true
unfolding row_number
row_form ws r h = passed _ 3 _ (lit< tt) h

pub row_range : (ws : List ℕ) (r : ℕ) → row_number ws r ≡ 0 → range_good (lower_in ws r) (upper_in ws r) ≡ true
unfolding row_number
row_range ws r h = passed _ 4 _ (lit< tt) (after_passed (form_good (kind_in ws r) (arg_in ws r) (lower_in ws r) (upper_in ws r)) 3 _ (lit< tt) h)

pub row_room : (ws : List ℕ) (r : ℕ) → row_number ws r ≡ 0 → (temporal (kind_in ws r) && leb 32 (temporals_in ws r)) ≡ false
unfolding row_number
row_room ws r h =
    not_held _ 2 0 (lit< tt)
    (after_passed (range_good (lower_in ws r) (upper_in ws r)) 4 _ (lit< tt)
    (after_passed (form_good (kind_in ws r) (arg_in ws r) (lower_in ws r) (upper_in ws r)) 3 _ (lit< tt) h))

one_more : (b : Bool) (t : ℕ) → t ≤ 32 → (b && leb 32 t) ≡ false → t + bit_of b ≤ 32
one_more true t l h = omega (arith, leb-false 32 t h)
one_more false t l h = omega arith

pub temporals_few : (ws : List ℕ) (n : ℕ) → first_to (row_number ws) n ≡ 0 → temporals_in ws n ≤ 32
unfolding temporals_in first_to
temporals_few ws zero h = omega arith
temporals_few ws (suc n) h =
    one_more (temporal (kind_in ws n)) (temporals_in ws n) (temporals_few ws n (first_none (first_to (row_number ws) n) (row_number ws n) h)) (row_room ws n (then_none (first_to (row_number ws) n) (row_number ws n) h))

-- ---- rows that are linked as they should be
operand_owned : (s : Sections) (r : ℕ) → operands_good s r ≡ true → (k : ℕ) → k < count_of (kind_in s.rows r) (arg_in s.rows r)
    → get_or s.operands (start_in s.rows r + k) 0 < r
unfolding operands_good
operand_owned s r h k l = ltb-true _ _ (all_each _ _ h k l)

operand_under : (s : Sections) (n : ℕ) → all_to (operands_good s) n ≡ true → (i : ℕ) → i < start_in s.rows n → get_or s.operands i 0 < n
unfolding all_to start_in
operand_under s zero h i l = absurd (not-suc-le-zero l)
operand_under s (suc n) h i l =
    ⊎_elim
    (λ p. omega (arith, operand_under s n (and_left (all_to (operands_good s) n) (operands_good s n) h) i p))
    (λ p.
    let owned = operand_owned s n (and_right (all_to (operands_good s) n) (operands_good s n) h) (i - start_in s.rows n) (omega arith) in
    omega (arith, rw (back (start_in s.rows n) i p) at owned))
    (lt_or_ge i (start_in s.rows n))
  where
    back : (a b : ℕ) → a ≤ b → a + (b - a) ≡ b
    back a b p = omega arith

module _ (s : Sections) (linked : links_good s ≡ true) where
  abbrev operand_count : Bool
  operand_count = eqb (start_in s.rows (rows_in s)) (length s.operands)

  -- the rows take all operands
  pub linked_taken : start_in s.rows (rows_in s) ≡ length s.operands
  unfolding links_good
  linked_taken = eqb-true _ _ (and_left operand_count _ (and_left (operand_count && all_to (operands_good s) (rows_in s)) _ linked))

  -- where a row's operands stand there are operands
  pub linked_there : (r : ℕ) → r < rows_in s → start_in s.rows r + count_of (kind_in s.rows r) (arg_in s.rows r) ≤ length s.operands
  linked_there r l = omega (arith, linked_taken, start_mono s.rows r (rows_in s) l)

  -- an operand's number is below its owner's
  pub linked_below : (r : ℕ) → r < rows_in s → (k : ℕ) → k < count_of (kind_in s.rows r) (arg_in s.rows r)
      → get_or s.operands (start_in s.rows r + k) 0 < r
  unfolding links_good
  linked_below r l =
      operand_owned s r (all_each (operands_good s) (rows_in s) (and_right operand_count _ (and_left (operand_count && all_to (operands_good s) (rows_in s)) _ linked)) r l)

  linked_property : (i : ℕ) → i < length (s.assumes ++ s.guarantees) → get_or (s.assumes ++ s.guarantees) i 0 < rows_in s
  unfolding links_good
  linked_property i l =
      ltb-true _ _
      (every_each (λ p. ltb p (rows_in s)) (s.assumes ++ s.guarantees) (and_right (operand_count && all_to (operands_good s) (rows_in s)) _ linked) i l)

  -- a property's number is below the row count
  pub linked_assume : (i : ℕ) → i < length s.assumes → get_or s.assumes i 0 < rows_in s
  linked_assume i l = rw (get_or-append s.assumes s.guarantees 0 i l) at (linked_property i (omega (arith, length-append s.assumes s.guarantees)))

  pub linked_guarantee : (i : ℕ) → i < length s.guarantees → get_or s.guarantees i 0 < rows_in s
  linked_guarantee i l =
      rw (get_or-append-add s.assumes s.guarantees i 0) at (linked_property (length s.assumes + i) (omega (arith, length-append s.assumes s.guarantees)))

  -- so all operands are below the row count
  pub linked_operand : (i : ℕ) → i < length s.operands → get_or s.operands i 0 < rows_in s
  unfolding links_good
  linked_operand i l =
      operand_under s (rows_in s) (and_right operand_count _ (and_left (operand_count && all_to (operands_good s) (rows_in s)) _ linked)) i (omega (arith, linked_taken))

-- ---- an accepted book, all its rows r below rowsIn s
module _ (s : Sections) (ok : judged s ≡ 0) where
  abbrev after_rows : ℕ
  after_rows = cond (not (links_good s)) 5 (cond (not (used_once s)) 6 0)

  pub rows_good : first_to (row_number s.rows) (rows_in s) ≡ 0
  unfolding judged
  rows_good = first_none (first_to (row_number s.rows) (rows_in s)) after_rows ok

  nothing_after : after_rows ≡ 0
  unfolding judged
  nothing_after = then_none (first_to (row_number s.rows) (rows_in s)) after_rows ok

  row_good : (r : ℕ) → r < rows_in s → row_number s.rows r ≡ 0
  row_good = first_each (row_number s.rows) (rows_in s) rows_good

  pub links : links_good s ≡ true
  links = passed (links_good s) 5 _ (lit< tt) nothing_after

  pub uses : used_once s ≡ true
  uses = passed (used_once s) 6 0 (lit< tt) (after_passed (links_good s) 5 _ (lit< tt) nothing_after)

  pub form : (r : ℕ) → r < rows_in s → form_good (kind_in s.rows r) (arg_in s.rows r) (lower_in s.rows r) (upper_in s.rows r) ≡ true
  form r l = row_form s.rows r (row_good r l)

  pub range : (r : ℕ) → r < rows_in s → range_good (lower_in s.rows r) (upper_in s.rows r) ≡ true
  range r l = row_range s.rows r (row_good r l)

  pub temporals_fit : temporals_in s.rows (rows_in s) ≤ 32
  temporals_fit = temporals_few s.rows (rows_in s) rows_good

  -- the rows take all operands, and where a row's stand there are some
  pub operands_taken : start_in s.rows (rows_in s) ≡ length s.operands
  operands_taken = linked_taken s links

  pub operands_there : (r : ℕ) → r < rows_in s → start_in s.rows r + count_of (kind_in s.rows r) (arg_in s.rows r) ≤ length s.operands
  operands_there = linked_there s links

  -- an operand's number is below its owner's, a property's below the row count
  pub operand_below : (r : ℕ) → r < rows_in s → (k : ℕ) → k < count_of (kind_in s.rows r) (arg_in s.rows r)
      → get_or s.operands (start_in s.rows r + k) 0 < r
  operand_below = linked_below s links

  pub assume_below : (i : ℕ) → i < length s.assumes → get_or s.assumes i 0 < rows_in s
  assume_below = linked_assume s links

  pub guarantee_below : (i : ℕ) → i < length s.guarantees → get_or s.guarantees i 0 < rows_in s
  guarantee_below = linked_guarantee s links

  -- each row is used exactly once
  pub used : (r : ℕ) → r < rows_in s → times_in r (uses_of s) ≡ 1
  unfolding used_once
  used r l = eqb-true _ _ (all_each (λ q. eqb (times_in q (uses_of s)) 1) (rows_in s) uses r l)
