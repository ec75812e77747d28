-- The rows that are put into a memory, word by word, and the temporal rows among them. Assumes nothing.
use Prim.Native.Nat.{ℕ, zero, suc, ◌+◌, ◌*◌, ◌≤◌, ◌<◌}
use mathlib.Core.Path.{◌≡◌, refl, ap, ◌∙◌}
use mathlib.Core.Logic.{⊎_elim}
use mathlib.Core.List.{List}
use native.Mathlib.Omega.{arith}
use native.Mathlib.Numerals.{add-one}
use lib.ListN.{length, get_or, set, length-set}
use lib.Seq.{paste, length-paste, get_or-set_same, get_or-set_other}
use borrow.Author.Tests.{le-leb, lt-leb}
use Rattle.lists.proofs.Tests.{lt_or_ge}
use Rattle.memory.specs.Layout.{ROWS, ROW, OWNERS, SIZE}
use Rattle.book.specs.Judging.{kind_in, temporals_in}
use Rattle.loader.specs.Private.{row_words, owner_put, rows_put}
use Rattle.lists.proofs.Parts.{word_at}
use Rattle.lists.proofs.Pastes.{paste_below, paste_at, paste_above}
use Rattle.loader.proofs.Puts.{temporals_same, temporals_more, temporals_mono, slot_fits}

-- ---- the owner of a set
module _ (ws m : List ℕ) (r : ℕ) where
  owner_none : kind_in ws r < 7 → owner_put ws m r ≡ m
  unfolding owner_put
  owner_none k = rw (lt-leb 7 (kind_in ws r) k)

  owner_some : 7 ≤ kind_in ws r → owner_put ws m r ≡ set m (OWNERS + temporals_in ws r) r
  unfolding owner_put
  owner_some k = rw (le-leb 7 (kind_in ws r) k)

  owner_length : length (owner_put ws m r) ≡ length m
  owner_length =
      ⊎_elim
      (λ k. ap (length {A = ℕ}) (owner_none k))
      (λ k. ap (length {A = ℕ}) (owner_some k) ∙ length-set m (OWNERS + temporals_in ws r) r)
      (lt_or_ge (kind_in ws r) 7)

  owner_off : (i : ℕ) → (7 ≤ kind_in ws r → i ≡ OWNERS + temporals_in ws r → ⊥) → get_or (owner_put ws m r) i 0 ≡ get_or m i 0
  owner_off i off =
      ⊎_elim
      (λ k. ap (λ (x : List ℕ). get_or x i 0) (owner_none k))
      (λ k. ap (λ (x : List ℕ). get_or x i 0) (owner_some k) ∙ get_or-set_other m (OWNERS + temporals_in ws r) i r 0 (off k))
      (lt_or_ge (kind_in ws r) 7)

  owner_here : 7 ≤ kind_in ws r → OWNERS + temporals_in ws r < length m → get_or (owner_put ws m r) (OWNERS + temporals_in ws r) 0 ≡ r
  owner_here k h =
      ap (λ (x : List ℕ). get_or x (OWNERS + temporals_in ws r) 0) (owner_some k) ∙ get_or-set_same m (OWNERS + temporals_in ws r) r 0 h

-- ---- the rows below n, of at most top
module _ (ws m : List ℕ) (long : length m ≡ SIZE) (top : ℕ) (few : top ≤ 128) (room : temporals_in ws top ≤ 32) where
  pub rows_length : (n : ℕ) → n ≤ top → length (rows_put ws m n) ≡ SIZE
  unfolding rows_put
  rows_length zero h = long
  rows_length (suc r) h =
      let e = rows_length r (omega arith) in
      owner_length ws (paste (rows_put ws m r) (ROWS + ROW * r) (row_words ws r) ROW) r
      ∙ length-paste (rows_put ws m r) (ROWS + ROW * r) (row_words ws r) ROW (omega arith) (omega arith) ∙ e

  module _ (r : ℕ) (h : r < top) where
    fits : ROWS + ROW * r + ROW ≤ length (rows_put ws m r)
    fits = let e = rows_length r (omega arith) in omega arith

    abbrev worded : List ℕ
    worded = paste (rows_put ws m r) (ROWS + ROW * r) (row_words ws r) ROW

    off_words : (i : ℕ) → (7 ≤ kind_in ws r → i ≡ OWNERS + temporals_in ws r → ⊥) → get_or (rows_put ws m (suc r)) i 0 ≡ get_or worded i 0
    unfolding rows_put
    off_words i off = owner_off ws worded r i off

    words_below : (i : ℕ) → i < ROWS + ROW * r → get_or worded i 0 ≡ get_or (rows_put ws m r) i 0
    words_below i l = paste_below (rows_put ws m r) (ROWS + ROW * r) (row_words ws r) ROW fits (omega arith) i l

    words_at_lem : (j : ℕ) → j < ROW → get_or worded (ROWS + ROW * r + j) 0 ≡ get_or (row_words ws r) j 0
    words_at_lem j l = paste_at (rows_put ws m r) (ROWS + ROW * r) (row_words ws r) ROW fits (omega arith) j l

    words_above : (i : ℕ) → ROWS + ROW * r + ROW ≤ i → get_or worded i 0 ≡ get_or (rows_put ws m r) i 0
    words_above i l = paste_above (rows_put ws m r) (ROWS + ROW * r) (row_words ws r) ROW fits (omega arith) i l

    worded_long : length worded ≡ SIZE
    worded_long = let e = rows_length r (omega arith) in length-paste (rows_put ws m r) (ROWS + ROW * r) (row_words ws r) ROW fits (omega arith) ∙ e

  pub rows_before : (n : ℕ) → n ≤ top → (i : ℕ) → i < ROWS → get_or (rows_put ws m n) i 0 ≡ get_or m i 0
  unfolding rows_put
  rows_before zero h i l = refl
  rows_before (suc r) h i l =
      off_words r h i (λ k e. omega arith) ∙ words_below r h i (omega arith) ∙ rows_before r (omega arith) i l

  pub rows_after : (n : ℕ) → n ≤ top → (i : ℕ) → ROWS + ROW * n ≤ i → i < OWNERS → get_or (rows_put ws m n) i 0 ≡ get_or m i 0
  unfolding rows_put
  rows_after zero h i l u = refl
  rows_after (suc r) h i l u =
      off_words r h i (λ k e. omega arith) ∙ words_above r h i (omega arith) ∙ rows_after r (omega arith) i (omega arith) u

  pub owners_after : (n : ℕ) → n ≤ top → (i : ℕ) → OWNERS + temporals_in ws n ≤ i → get_or (rows_put ws m n) i 0 ≡ get_or m i 0
  unfolding rows_put
  owners_after zero h i l = refl
  owners_after (suc r) h i l =
      let t = temporals_mono ws r (suc r) (omega arith) in
      off_words r h i (λ k e. let q = slot_fits ws r (suc r) (omega arith) k in omega arith)
      ∙ words_above r h i (omega arith) ∙ owners_after r (omega arith) i (omega arith)

  pub row_word : (n : ℕ) → n ≤ top → (r j : ℕ) → r < n → j < ROW → get_or (rows_put ws m n) (ROWS + ROW * r + j) 0 ≡ get_or (row_words ws r) j 0
  unfolding rows_put
  row_word zero h r j l u = absurd (omega arith)
  row_word (suc n) h r j l u =
      off_words n h (ROWS + ROW * r + j) (λ k e. omega arith)
      ∙ ⊎_elim
      (λ p. words_below n h (ROWS + ROW * r + j) (omega arith) ∙ row_word n (omega arith) r j p u)
      (λ p.
      let e : n ≡ r = omega arith in
      word_at (worded n h) (ROWS + ROW * r + j) (ROWS + ROW * n + j) (omega arith)
      ∙ words_at_lem n h j u ∙ ap (λ (k : ℕ). get_or (row_words ws k) j 0) e)
      (lt_or_ge r n)

  pub row_owner : (n : ℕ) → n ≤ top → (r : ℕ) → r < n → 7 ≤ kind_in ws r → get_or (rows_put ws m n) (OWNERS + temporals_in ws r) 0 ≡ r
  unfolding rows_put
  row_owner zero h r l k = absurd (omega arith)
  row_owner (suc n) h r l k =
      ⊎_elim
      (λ p.
      let q = slot_fits ws r n p k in
      off_words n h (OWNERS + temporals_in ws r) (λ kn e. omega arith)
      ∙ words_above n h (OWNERS + temporals_in ws r) (omega arith) ∙ row_owner n (omega arith) r p k)
      (λ p.
      let e : r ≡ n = omega arith in
      let kn : 7 ≤ kind_in ws n = rw e at k in
      let q = slot_fits ws n top h kn in
      let w = worded_long n h in
      rw e (owner_here ws (worded n h) n kn (omega arith)))
      (lt_or_ge r n)

-- ---- each set has its row
pub record Temporal (ws : List ℕ) (n j : ℕ) : Type 0 where
  pub row : ℕ
  pub below : row < n
  pub kind : 7 ≤ kind_in ws row
  pub slot : temporals_in ws row ≡ j

pub temporal_of : (ws : List ℕ) (n j : ℕ) → j < temporals_in ws n → Temporal ws n j
unfolding temporals_in
temporal_of ws zero j h = absurd (omega arith)
temporal_of ws (suc n) j h =
    ⊎_elim
    (λ p. let t = temporal_of ws n j p in record { row = t.row; below = omega (arith, t.below); kind = t.kind; slot = t.slot })
    (λ p.
    ⊎_elim
    (λ k. absurd (let q = rw (add-one n) at (temporals_same ws n k) in omega arith))
    (λ k. let q = rw (add-one n) at (temporals_more ws n k) in record { row = n; below = omega arith; kind = k; slot = omega arith })
    (lt_or_ge (kind_in ws n) 7))
    (lt_or_ge j (temporals_in ws n))
