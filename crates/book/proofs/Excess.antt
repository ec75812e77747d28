-- What strict loading finds in the words of rows is what it finds in the book that they say. Assumes nothing.
use mathlib.Core.Path.{◌≡◌, refl, sym, ap, ◌∙◌}
use mathlib.Core.Bool.{Bool, true, false, cond}
use mathlib.Core.Logic.{◌⊎◌, inl, inr, ⊎_elim}
use mathlib.Core.List.{List}
use Prim.Native.Nat.{ℕ, zero, suc, ◌+◌, ◌-◌, ◌/◌, ◌≤◌, ◌<◌}
use native.Mathlib.Nat.{div-le_self}
use native.Mathlib.Decide.{ℕ_discrete}
use native.Mathlib.Omega.{arith}
use lib.ListN.{length}
use borrow.Author.Tests.{eq-eqb, ne_eqb, lt-ltb, le-ltb, ltb-true}
use Rattle.std.specs.Prelude.{Option, Some, None}
use Rattle.numbers.specs.Limits.{MAX, LAST_TIME, MOST_RUNS}
use Rattle.numbers.specs.Refusals.{number_of}
use Rattle.numbers.specs.declared.Refusal.{Refusal}
use Rattle.numbers.proofs.Refused.{never_0}
use Rattle.lists.proofs.Tests.{either, lt_or_ge}
use Rattle.lists.proofs.Listed.{listed_length, listed_at}
use Rattle.pmtl.specs.Book.{Rows, row_at}
use Rattle.pmtl.specs.Book.Row.{never}
use Rattle.pmtl.specs.Strict.{needed, needed_by, Strict as IsStrict, first_over, any_over}
use Rattle.pmtl.proofs.Strict.{first_over_lem, none_strict, some_not_strict}
use Rattle.book.specs.declared.loading.Loading.{Loading}
use Rattle.book.specs.declared.strict.Excess.{Excess}
use Rattle.book.specs.Rows.{row_from, temporal}
use Rattle.book.specs.Reading.{Sections}
use Rattle.book.specs.Judging.{Loaded, refused_with, kind_in, arg_in, lower_in, upper_in, rows_in, first_to, range_good, row_number, row_in, judged, book_in, loaded_from, loaded}
use Rattle.book.specs.Placing.{parts_of, Counted}
use Rattle.book.specs.Private.{range_in, needed_in, NoneOver, Surplus}
use Rattle.book.specs.Strict.{over, excess_in, strictly, excess_by, unless, roomed}
use Rattle.book.proofs.Tests.{first_none}
use Rattle.book.proofs.Accepted.{first_each, form_kind, upper_small, row_form, row_range}
use Rattle.book.proofs.Placing.{book_judged, refused_judged, placed, accepted, accepted_book, refused_empty}

-- ---- a range
pub needed_endless : (lower upper : ℕ) → upper ≡ MAX → ◌≡◌ {A = ℕ} 1 (needed (range_in lower upper))
unfolding needed
needed_endless lower upper e = rw (eq-eqb upper MAX e)

pub needed_finite : (lower upper : ℕ) → (upper ≡ MAX → ⊥) → upper / (upper - lower + 2) + 1 ≡ needed (range_in lower upper)
unfolding needed
needed_finite lower upper n = rw (ne_eqb upper MAX n)

-- ---- a row, by its words and as the book has it
pub plain_needs : (ws : List ℕ) (r : ℕ) {b : Bool} → b ≡ temporal (kind_in ws r) → b ≡ false → ◌≡◌ {A = ℕ} 0 (needed_in ws r)
unfolding needed_in
plain_needs ws r e f = rw (← e, f)

pub temporal_needs : (ws : List ℕ) (r lower upper n : ℕ) {b : Bool} → b ≡ temporal (kind_in ws r) → b ≡ true → lower ≡ lower_in ws r → upper ≡ upper_in ws r
    → n ≡ needed (range_in lower upper) → n ≡ needed_in ws r
unfolding needed_in
temporal_needs ws r lower upper n e t el eu en = rw (← e, t, ← el, ← eu) en

row_needs : (kind arg lower upper : ℕ) (os : List ℕ) → kind ≤ 9
    → needed_by (row_from kind arg lower upper os) ≡ cond (temporal kind) (needed (range_in lower upper)) 0
unfolding row_from needed_by
row_needs zero arg lower upper os l = refl
row_needs (suc zero) arg lower upper os l = refl
row_needs (suc (suc zero)) arg lower upper os l = refl
row_needs (suc (suc (suc zero))) arg lower upper os l = refl
row_needs (suc (suc (suc (suc zero)))) arg lower upper os l = refl
row_needs (suc (suc (suc (suc (suc zero))))) arg lower upper os l = refl
row_needs (suc (suc (suc (suc (suc (suc zero)))))) arg lower upper os l = refl
row_needs (suc (suc (suc (suc (suc (suc (suc zero))))))) arg lower upper os l = refl
row_needs (suc (suc (suc (suc (suc (suc (suc (suc zero)))))))) arg lower upper os l = refl
row_needs (suc (suc (suc (suc (suc (suc (suc (suc (suc zero))))))))) arg lower upper os l = refl
row_needs (suc (suc (suc (suc (suc (suc (suc (suc (suc (suc k)))))))))) arg lower upper os l = absurd (omega arith)

-- ---- the walk over the rows
pub over_start : (ws : List ℕ) → NoneOver ws 0
over_start ws i h = absurd (omega arith)

pub over_more : (ws : List ℕ) (r n : ℕ) → NoneOver ws r → n ≡ needed_in ws r → n ≤ MOST_RUNS → NoneOver ws (r + 1)
over_more ws r n h e l i k = ⊎_elim (h i) (λ g. let q : i ≡ r = omega arith in rw q (rw e at l)) (lt_or_ge i r)

-- ---- the rows of sections that are in order
module _ (s : Sections) (ok : first_to (row_number s.rows) (rows_in s) ≡ 0) where
  abbrev b : Rows
  b = (book_in s).rows

  count : length b ≡ rows_in s
  unfolding book_in
  count = listed_length (row_in s) (rows_in s)

  same_needs : (i : ℕ) → i < rows_in s → needed_by (row_at b i) ≡ needed_in s.rows i
  unfolding book_in row_in needed_in
  same_needs i l =
      ap needed_by (listed_at (row_in s) never (rows_in s) i l)
      ∙ row_needs (kind_in s.rows i) (arg_in s.rows i) (lower_in s.rows i) (upper_in s.rows i) _
      (form_kind (kind_in s.rows i) (arg_in s.rows i) (lower_in s.rows i) (upper_in s.rows i)
      (row_form s.rows i (first_each (row_number s.rows) (rows_in s) ok i l)))

  first_is : (r : ℕ) → r ≤ rows_in s → NoneOver s.rows r → (r < rows_in s → MOST_RUNS < needed_in s.rows r) → first_over b ≡ r
  first_is r inside none over =
      first_over_lem b r (rw count inside)
      (λ i h. le-ltb MOST_RUNS (needed_by (row_at b i)) (rw (same_needs i (omega arith)) (none i h)))
      (λ h. let l : r < rows_in s = rw count at h in lt-ltb MOST_RUNS (needed_by (row_at b r)) (rw (same_needs r l) (over l)))

  pub surplus_is : (e : Option Excess) → Surplus s.rows e → e ≡ excess_in b
  unfolding excess_in
  surplus_is None h =
      let f = first_is (rows_in s) (omega arith) h (λ l. absurd (omega arith)) in
      rw (le-ltb (first_over b) (length b) (omega (arith, f, count)))
  surplus_is (Some e) h =
      let f = first_is e.row (omega (arith, h.0.inside)) h.0.none_before (λ l. h.0.over) in
      rw (lt-ltb (first_over b) (length b) (omega (arith, f, count, h.0.inside)), f) (ap (λ n. Some (over e.row n)) (h.1 ∙ sym (same_needs e.row h.0.inside)))

-- ---- an accepted book whose sections stand where places tell
module _ {words : List ℕ} {n o a g : ℕ} (z : (loaded words).number ≡ 0) (c : Counted words n o a g) where
  pub rows_in_order : first_to (row_number (parts_of words n o a g).rows) (rows_in (parts_of words n o a g)) ≡ 0
  unfolding judged
  rows_in_order = first_none _ _ (accepted words 0 n o a g (placed (sym z) c) refl)

  pub excess_accepted : (way : Loading) (e : Option Excess) → strictly way ≡ true → Surplus (parts_of words n o a g).rows e → e ≡ excess_by way (loaded words).book.rows
  excess_accepted way e w h = rw (w, accepted_book words 0 n o a g (placed (sym z) c) refl) (surplus_is (parts_of words n o a g) rows_in_order e h)

-- ---- in each way of loading
module _ (way : Loading) (words : List ℕ) where
  -- refused already: the book is empty
  pub excess_refused : ((loaded words).number ≡ 0 → ⊥) → None ≡ excess_by way (loaded words).book.rows
  unfolding excess_in first_over
  excess_refused no-0 = go (strictly way)
    where
      go : (w : Bool) → None ≡ cond w (excess_in (loaded words).book.rows) None
      go true = sym (ap (λ (l : Loaded). excess_in l.book.rows) (refused_empty words no-0))
      go false = refl

  pub refused_so : (r : Refusal) → number_of r ≡ (loaded words).number → number_of r ≡ (roomed way (loaded words)).number
  refused_so r e = e ∙ ap (λ (x : Option Excess). (unless x (loaded words)).number) (excess_refused (λ z. never_0 r (e ∙ z)))

-- ---- what strict loading leaves
accepted_unless : (e : Option Excess) (l : Loaded) → (unless e l).number ≡ 0 → unless e l ≡ l
accepted_unless None l h = refl
accepted_unless (Some x) l h = absurd (omega arith)

-- a book that is left is the one that was judged
pub accepted_roomed : (way : Loading) (l : Loaded) → (roomed way l).number ≡ 0 → roomed way l ≡ l
accepted_roomed way l = accepted_unless (excess_by way l.book.rows) l

refused_unless : (e : Option Excess) (l : Loaded) → ((l.number ≡ 0 → ⊥) → l ≡ refused_with l.number) → ((unless e l).number ≡ 0 → ⊥) → unless e l ≡ refused_with (unless e l).number
refused_unless None l empty h = empty h
refused_unless (Some x) l empty h = refl

-- a refused book gives an empty one
pub refused_roomed : (way : Loading) (words : List ℕ) → ((roomed way (loaded words)).number ≡ 0 → ⊥) → roomed way (loaded words) ≡ refused_with (roomed way (loaded words)).number
refused_roomed way words = refused_unless (excess_by way (loaded words).book.rows) (loaded words) (refused_empty words)

-- what strict loading leaves, accepted or empty, has no row that can need more runs than a set may have
strict_unless : (l : Loaded) (e : Option Excess) → e ≡ excess_in l.book.rows → any_over (unless e l).book.rows ≡ false
unfolding excess_in first_over
strict_unless l (Some x) h = refl
strict_unless l None h = go (any_over l.book.rows) refl h
  where
    go : (z : Bool) → any_over l.book.rows ≡ z → None ≡ cond z (Some (over (first_over l.book.rows) (needed_by (row_at l.book.rows (first_over l.book.rows))))) None
        → any_over l.book.rows ≡ false
    go true z h = absurd (let x : ◌≡◌ {A = ℕ} 0 1 = cc in omega arith)
    go false z h = z

pub roomed_strict : (way : Loading) → strictly way ≡ true → (l : Loaded) → IsStrict (roomed way l).book.rows
roomed_strict way w l = rw w (none_strict _ (strict_unless l (excess_in l.book.rows) refl))

-- and a book that has none, where loading is strict, is left as it is
pub strict_roomed : (way : Loading) (l : Loaded) → (strictly way ≡ true → IsStrict l.book.rows) → roomed way l ≡ l
unfolding excess_in
strict_roomed way l s = go (strictly way) refl (any_over l.book.rows) refl
  where
    go : (w : Bool) → strictly way ≡ w → (z : Bool) → any_over l.book.rows ≡ z
        → unless (cond w (cond z (Some (over (first_over l.book.rows) (needed_by (row_at l.book.rows (first_over l.book.rows))))) None) None) l ≡ l
    go true e true z = absurd (some_not_strict l.book.rows z (s e))
    go true e false z = refl
    go false e z y = refl

within_unless : (e : Option Excess) (l : Loaded) → (unless e l).number ≡ 0 → e ≡ None
within_unless None l h = refl
within_unless (Some x) l h = absurd (omega arith)

-- a book that is left has no such row
pub roomed_within : (way : Loading) (l : Loaded) → (roomed way l).number ≡ 0 → excess_by way l.book.rows ≡ None
roomed_within way l = within_unless (excess_by way l.book.rows) l

-- ---- how large the numbers get
needed_small : (lower upper : ℕ) → range_good lower upper ≡ true → needed (range_in lower upper) ≤ LAST_TIME + 1
unfolding needed
needed_small lower upper good = go (ℕ_discrete upper MAX)
  where
    go : Dec (upper ≡ MAX) → needed (range_in lower upper) ≤ LAST_TIME + 1
    go (yes e) = rw (eq-eqb upper MAX e) (omega arith)
    go (no n) = rw (ne_eqb upper MAX n) (omega (arith, div-le_self upper (upper - lower + 2), upper_small lower upper good n))

row_small : (z : Bool) (n : ℕ) → n ≤ LAST_TIME + 1 → cond z n 0 ≤ LAST_TIME + 1
row_small true n h = h
row_small false n h = omega arith

-- the row is one of those that there are, and what it needs has 64 bits
pub record SmallExcess (s : Sections) (r n : ℕ) : Type 0 where
  pub row : r < rows_in s
  pub count : n ≤ LAST_TIME + 1

abbrev row_of : Option Excess → ℕ
row_of None = 0
row_of (Some e) = e.row

abbrev needed_of : Option Excess → ℕ
needed_of None = 0
needed_of (Some e) = e.count

over_is : (s : Sections) {r n : ℕ} → judged s ≡ 0 → excess_in (book_in s).rows ≡ Some (over r n) → SmallExcess s r n
unfolding excess_in judged needed_in
over_is s {r} {n} ok = go (either (any_over (book_in s).rows))
  where
    rows_ok : first_to (row_number s.rows) (rows_in s) ≡ 0
    rows_ok = first_none _ _ ok

    named : first_over (book_in s).rows < rows_in s → Some (over (first_over (book_in s).rows) (needed_by (row_at (book_in s).rows (first_over (book_in s).rows)))) ≡ Some (over r n) → SmallExcess s r n
    named l e =
        let first = first_over (book_in s).rows in
        let is_row : first ≡ r = ap row_of e in
        let is-count : needed_by (row_at (book_in s).rows first) ≡ n = ap needed_of e in
        let good = row_range s.rows first (first_each (row_number s.rows) (rows_in s) rows_ok first l) in
        let small = row_small (temporal (kind_in s.rows first)) (needed (range_in (lower_in s.rows first) (upper_in s.rows first))) (needed_small (lower_in s.rows first) (upper_in s.rows first) good) in
        record { row = rw is_row at l; count = omega (arith, same_needs s rows_ok first l, small) }

    go : (any_over (book_in s).rows ≡ true) ⊎ (any_over (book_in s).rows ≡ false)
        → cond (any_over (book_in s).rows) (Some (over (first_over (book_in s).rows) (needed_by (row_at (book_in s).rows (first_over (book_in s).rows))))) None ≡ Some (over r n) → SmallExcess s r n
    go (inl t) e = named (omega (arith, ltb-true (first_over (book_in s).rows) (length (book_in s).rows) t, count s rows_ok)) (rw t at e)
    go (inr f) e = absurd (let h = rw f at e in let z : ◌≡◌ {A = ℕ} 0 1 = cc in omega arith)

pub excess_small : (way : Loading) (s : Sections) {r n : ℕ} → excess_by way (loaded_from s).book.rows ≡ Some (over r n) → SmallExcess s r n
unfolding excess_in first_over
excess_small way s {r} {n} h = go (either (strictly way)) (ℕ_discrete (judged s) 0) h
  where
    go : (strictly way ≡ true) ⊎ (strictly way ≡ false) → Dec (judged s ≡ 0) → excess_by way (loaded_from s).book.rows ≡ Some (over r n) → SmallExcess s r n
    go (inl w) (yes z) h = over_is s z (rw (w, book_judged s z) at h)
    go (inl w) (no wrong) h = absurd (let e = rw (w, refused_judged s wrong) at h in let z : ◌≡◌ {A = ℕ} 0 1 = cc in omega arith)
    go (inr w) d h = absurd (let e = rw w at h in let z : ◌≡◌ {A = ℕ} 0 1 = cc in omega arith)
