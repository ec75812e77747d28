-- What the functions that write rows leave, as the definitions have it. Assumes nothing.
use Prim.Native.Nat.{ℕ, zero, suc, ◌+◌, ◌*◌, ◌/◌, ◌≤◌, ◌<◌, max}
use mathlib.Core.Path.{◌≡◌, refl, sym, ap, ◌∙◌}
use mathlib.Core.Bool.{true}
use mathlib.Core.Logic.{⊎_elim}
use mathlib.Core.List.{List, [], ◌∷◌}
use native.Mathlib.Omega.{arith}
use native.Mathlib.Nat.{add-zero}
use native.Mathlib.Numerals.{add-one, add-two, add-three, add-four, add_five}
use lib.ListN.{length, set}
use lib.Seq.{paste, sets-eq}
use borrow.Author.Tests.{le-leb, lt-leb}
use Rattle.lists.proofs.Tests.{lt_or_ge}
use Rattle.pmtl.specs.Answer.{bit_of}
use Rattle.memory.specs.Layout.{ROWS, ROW, OWNERS}
use Rattle.book.specs.Rows.{count_of, temporal}
use Rattle.numbers.specs.Limits.{ROW_WORDS}
use Rattle.book.specs.Judging.{kind_in, arg_in, lower_in, upper_in, temporals_in, start_in, arg_good}
use Rattle.book.proofs.Accepted.{start_mono}
use Rattle.loader.specs.Private.{reach, width_in, words_with, slot_in, owner_put, row_put, rows_put, Rowed}

-- ---- one row more
module _ (ws : List ℕ) (r : ℕ) where
  pub temporals_next : temporals_in ws (r + 1) ≡ temporals_in ws r + bit_of (temporal (kind_in ws r))
  unfolding temporals_in
  temporals_next = rw (add-one r)

  pub start_next : start_in ws (r + 1) ≡ start_in ws r + count_of (kind_in ws r) (arg_in ws r)
  unfolding start_in
  start_next = rw (add-one r)

  pub width_next : width_in ws (r + 1) ≡ max (width_in ws r) (reach (kind_in ws r) (arg_in ws r))
  unfolding width_in
  width_next = rw (add-one r)

  pub rows_next : (m : List ℕ) → rows_put ws m (r + 1) ≡ row_put ws (rows_put ws m r) r
  unfolding rows_put
  rows_next m = rw (add-one r)

  pub temporals_same : kind_in ws r < 7 → temporals_in ws (r + 1) ≡ temporals_in ws r
  temporals_same h = temporals_next ∙ rw (lt-leb 7 (kind_in ws r) h) (add-zero (temporals_in ws r))

  pub temporals_more : 7 ≤ kind_in ws r → temporals_in ws (r + 1) ≡ temporals_in ws r + 1
  temporals_more h = temporals_next ∙ rw (le-leb 7 (kind_in ws r) h)

-- ---- what a row may take
pub temporals_mono : (ws : List ℕ) (r n : ℕ) → r ≤ n → temporals_in ws r ≤ temporals_in ws n
unfolding temporals_in
temporals_mono ws r zero h = let e : r ≡ 0 = omega arith in rw e (omega arith)
temporals_mono ws r (suc n) h =
    ⊎_elim (λ p. omega (arith, temporals_mono ws r n (omega arith))) (λ (p : suc n ≤ r). let e : r ≡ suc n = omega arith in rw e (omega arith)) (lt_or_ge r (suc n))

pub slot_fits : (ws : List ℕ) (r n : ℕ) → r < n → 7 ≤ kind_in ws r → temporals_in ws r < temporals_in ws n
slot_fits ws r n h k = omega (arith, temporals_more ws r k, temporals_mono ws (r + 1) n (omega arith))

-- ---- the six words of a row
six_words : (m : List ℕ) (at a b c d e f : ℕ) → at + 6 ≤ length m
    → set (set (set (set (set (set m at a) (at + 1) b) (at + 2) c) (at + 3) d) (at + 4) e) (at + 5) f ≡ paste m at (a ∷ b ∷ c ∷ d ∷ e ∷ f ∷ []) 6
six_words m at a b c d e f h =
    rw (add-one at, add-two at, add-three at, add-four at, add_five at) (sets-eq (a ∷ b ∷ c ∷ d ∷ e ∷ f ∷ []) m at h)

module _ (ws m : List ℕ) (r start slot : ℕ) where
  pub words_put : (k a l u : ℕ) → k ≡ kind_in ws r → a ≡ arg_in ws r → l ≡ lower_in ws r → u ≡ upper_in ws r
      → ROWS + ROW * r + 6 ≤ length m
      → set (set (set (set (set (set m (ROWS + ROW * r) k) (ROWS + ROW * r + 1) a) (ROWS + ROW * r + 2) l) (ROWS + ROW * r + 3) u) (ROWS + ROW * r + 4) start) (ROWS + ROW * r + 5) slot
      ≡ paste m (ROWS + ROW * r) (words_with ws r start slot) ROW
  words_put k a l u ek ea el eu h = rw (ek, ea, el, eu) (six_words m (ROWS + ROW * r) (kind_in ws r) (arg_in ws r) (lower_in ws r) (upper_in ws r) start slot h)

module _ (ws m m' : List ℕ) (r start : ℕ) (es : start ≡ start_in ws r) where
  pub row_plain : kind_in ws r < 7 → m' ≡ paste m (ROWS + ROW * r) (words_with ws r start 0) ROW → m' ≡ row_put ws m r
  unfolding owner_put slot_in
  row_plain k e = e ∙ rw (es, lt-leb 7 (kind_in ws r) k)

  pub row_temporal : (slot : ℕ) → slot ≡ temporals_in ws r → 7 ≤ kind_in ws r → m' ≡ paste m (ROWS + ROW * r) (words_with ws r start slot) ROW
      → set m' (OWNERS + slot) r ≡ row_put ws m r
  unfolding owner_put slot_in
  row_temporal slot el k e = rw (e, es, el, le-leb 7 (kind_in ws r) k)

-- ---- the loop over the rows: where it stands before row r
pub record Put (ws m m' : List ℕ) (r start slot width : ℕ) : Type 0 where
  pub start_is : start ≡ start_in ws r
  pub slot_is : slot ≡ temporals_in ws r
  pub width_is : width ≡ width_in ws r
  pub memory : m' ≡ rows_put ws m r

pub put_none : (ws m : List ℕ) → Put ws m m 0 0 0 0
unfolding start_in temporals_in width_in rows_put
put_none ws m = record { start_is = refl; slot_is = refl; width_is = refl; memory = refl }

pub put_more : {ws m m' m'' : List ℕ} {r start slot width slot' : ℕ} (kind arg count width' : ℕ) → Put ws m m' r start slot width
    → kind ≡ kind_in ws r → arg ≡ arg_in ws r → slot' ≡ temporals_in ws (r + 1) → m'' ≡ row_put ws m' r
    → count ≡ count_of kind arg → width' ≡ max width (reach kind arg) → Put ws m m'' (r + 1) (start + count) slot' width'
put_more {ws} {m} {r} kind arg count width' p ek ea es em ec ew =
    record {
      start_is = cc (start_next ws r, p.start_is, ec, ek, ea);
      slot_is = es;
      width_is = cc (width_next ws r, p.width_is, ew, ek, ea);
      memory = em ∙ ap (λ (x : List ℕ). row_put ws x r) p.memory ∙ sym (rows_next ws r m);
    }

module _ {ws m m' : List ℕ} {r start slot width : ℕ} (kind arg : ℕ) (rowed : Rowed ws) (p : Put ws m m' r start slot width) (h : r < length ws / ROW_WORDS)
    (ek : kind ≡ kind_in ws r) (ea : arg ≡ arg_in ws r) where
  pub arg_good_lem : arg_good kind arg ≡ true
  arg_good_lem = rw (ek, ea) (rowed.args r h)

  pub start_fits : (count : ℕ) → count ≡ count_of kind arg → start + count ≤ 128
  start_fits count e =
      let q : count ≡ count_of (kind_in ws r) (arg_in ws r) = e ∙ rw (ek, ea) in
      omega (arith, start_mono ws r (length ws / ROW_WORDS) h, p.start_is, rowed.operands_few)
