-- Laws of walking the rows of an accepted book, in its words. Assumes nothing.
use Prim.Native.Nat.{ℕ, suc, ◌+◌, ◌-◌, ◌/◌, ◌≤◌, ◌<◌}
use mathlib.Core.Path.{◌≡◌, refl, ap, ◌∙◌}
use mathlib.Core.Bool.{true}
use mathlib.Core.List.{List}
use native.Mathlib.Omega.{arith}
use lib.ListN.{length, get_or}
use lib.Seq.{take-length}
use Rattle.numbers.specs.Limits.{ROW_WORDS, MOST_OPERANDS}
use Rattle.numbers.specs.Refusals.{ACCEPTED}
use Rattle.lists.specs.Lists.{part}
use Rattle.lists.proofs.Parts.{part_length, part_at}
use Rattle.pmtl.specs.Book.{Rows, row_at, Ordered, AllBelow}
use Rattle.book.specs.Reading.{Sections}
use Rattle.book.specs.Rows.{count_of}
use Rattle.book.specs.Judging.{kind_in, arg_in, lower_in, upper_in, start_in, arg_good, judged, row_in, book_in}
use Rattle.book.specs.Placing.{parts_of, sections_of, Placed}
use Rattle.book.proofs.Accepted.{form, form_arg, operands_there, operand_below, assume_below, guarantee_below}
use Rattle.book.proofs.Placing.{parts_few, accepted}
use Rattle.book.proofs.Sections.{sections_are}
use Rattle.trees.specs.Books.{head_in, parts_in}
use Rattle.trees.specs.Walking.{Held, HeldRow, Walk, Properties, rows_said}
use Rattle.trees.proofs.Sections.{all_below_lem, rows_there, parts_are, head_are, head_with, book_ordered}

-- ---- what is known of the rows
module _ {rows : List ℕ} {row : ℕ} (x : HeldRow rows row) where
  abbrev whole : Sections
  whole = sections_of rows x.operands x.held.assumes x.held.guarantees

  pub held_arg : (k a : ℕ) → k ≡ kind_in rows row → a ≡ arg_in rows row → arg_good k a ≡ true
  held_arg k a ek ea = rw (ek, ea) (form_arg (kind_in rows row) (arg_in rows row) (lower_in rows row) (upper_in rows row) (form whole x.held.ok row x.inside))

  pub start_few : start_in rows row + count_of (kind_in rows row) (arg_in rows row) ≤ MOST_OPERANDS
  start_few = omega (arith, operands_there whole x.held.ok row x.inside, x.held.few.operands)

  pub lower_row : (i : ℕ) → i < row → HeldRow rows i
  lower_row i h = record { operands = x.operands; held = x.held; inside = omega (arith, x.inside) }

pub start_zero : (rows : List ℕ) → ◌≡◌ {A = ℕ} 0 (start_in rows 0)
unfolding start_in
start_zero rows = refl

pub start_next : (rows : List ℕ) (start count i : ℕ) → start ≡ start_in rows i → count ≡ count_of (kind_in rows i) (arg_in rows i) → start + count ≡ start_in rows (i + 1)
unfolding start_in
start_next rows start count i es ec = let e : i + 1 ≡ suc i = omega arith in rw (es, ec, e)

-- ---- a row that is walked
module _ {rows operands : List ℕ} {row left : ℕ} (x : Walk rows operands row left) where
  abbrev book : Sections
  book = sections_of rows operands x.held.assumes x.held.guarantees

  abbrev count : ℕ
  count = count_of (kind_in rows row) (arg_in rows row)

  pub walk_row : HeldRow rows row
  walk_row = record { operands = operands; held = x.held; inside = x.inside }

  there : start_in rows row + count ≤ length operands
  there = operands_there book x.held.ok row x.inside

  module _ (some : 0 < left) where
    pub part_inside : start_in rows row + (count - left) < length operands
    part_inside = omega (arith, there, x.some)

    part_below : get_or operands (start_in rows row + (count - left)) 0 < row
    part_below = operand_below book x.held.ok row x.inside (count - left) (omega (arith, x.some))

    pub part_row : (o : ℕ) → o ≡ get_or operands (start_in rows row + (count - left)) 0 → o < row
    part_row o e = rw e part_below

    pub part_walk : (o : ℕ) → o ≡ get_or operands (start_in rows row + (count - left)) 0 → HeldRow rows o
    part_walk o e = record { operands = operands; held = x.held; inside = omega (arith, part_row o e, x.inside) }

-- ---- by the book's words
module _ {rows operands : List ℕ} (x : Held rows operands) where
  abbrev pub all : Sections
  all = sections_of rows operands x.assumes x.guarantees

  abbrev said : Rows
  said = rows_said rows operands

  pub said_is : rows_said rows operands ≡ (book_in all).rows
  unfolding rows_said book_in row_in
  said_is = refl

  pub said_ordered : Ordered said
  said_ordered = rw said_is (book_ordered all x.ok)

  pub said_long : length said ≡ length rows / ROW_WORDS
  said_long = rw said_is (rows_there all x.ok)

  module _ (r : ℕ) (h : r < length rows / ROW_WORDS) where
    pub said_parts : parts_in (row_at said r) ≡ part (start_in rows r) (count_of (kind_in rows r) (arg_in rows r)) operands
    said_parts = rw said_is (parts_are all x.ok r h)

    pub said_head : head_in (row_at said r) ≡ head_with (kind_in rows r) (arg_in rows r) (lower_in rows r) (upper_in rows r)
    said_head = rw said_is (head_are all x.ok r h)

    pub said_count : length (parts_in (row_at said r)) ≡ count_of (kind_in rows r) (arg_in rows r)
    said_count = ap length said_parts ∙ part_length (start_in rows r) (count_of (kind_in rows r) (arg_in rows r)) operands (operands_there all x.ok r h)

    -- its k-th operand
    pub said_part : (k : ℕ) → k < count_of (kind_in rows r) (arg_in rows r) → get_or (parts_in (row_at said r)) k 0 ≡ get_or operands (start_in rows r + k) 0
    said_part k l = ap (λ (z : List ℕ). get_or z k 0) said_parts ∙ part_at (start_in rows r) (count_of (kind_in rows r) (arg_in rows r)) operands k l

-- ---- properties
pub property_walk : {rows operands ps : List ℕ} (i r : ℕ) → Properties rows operands ps → i < length ps → r ≡ get_or ps i 0 → Walk rows operands r 0
property_walk i r x h e = record { held = x.held; inside = rw e (x.inside i h); some = omega arith }

pub properties_below : {rows operands ps : List ℕ} → Properties rows operands ps → AllBelow (length (rows_said rows operands)) ps
properties_below {rows} {operands} {ps} x = rw (take-length ps) at (all_below_lem (length (rows_said rows operands)) (length ps) ps (omega arith) (λ k h. rw (said_long x.held) (x.inside k h)))

-- ---- the book
module _ {words rs os : List ℕ} {number n o a g : ℕ} (p : Placed words number n o a g) (ok : number ≡ ACCEPTED) (er : rs ≡ (parts_of words n o a g).rows) (eo : os ≡ (parts_of words n o a g).operands) where
  abbrev parts : Sections
  parts = parts_of words n o a g

  all_are : sections_of rs os parts.assumes parts.guarantees ≡ parts
  all_are = sections_are er eo refl refl

  all_ok : judged (sections_of rs os parts.assumes parts.guarantees) ≡ ACCEPTED
  all_ok = rw all_are (accepted words number n o a g p ok)

  pub all_held : Held rs os
  all_held = record { assumes = parts.assumes; guarantees = parts.guarantees; few = rw all_are (parts_few words n o a g (p.counted ok)); ok = all_ok }

  pub assumes_there : (xs : List ℕ) → xs ≡ parts.assumes → Properties rs os xs
  assumes_there xs e = rw e (record { held = all_held; inside = assume_below (sections_of rs os parts.assumes parts.guarantees) all_ok })

  pub guarantees_there : (xs : List ℕ) → xs ≡ parts.guarantees → Properties rs os xs
  guarantees_there xs e = rw e (record { held = all_held; inside = guarantee_below (sections_of rs os parts.assumes parts.guarantees) all_ok })

  pub rows_are : rows_said rs os ≡ (book_in parts).rows
  unfolding rows_said book_in row_in
  rows_are = rw (er, eo)

  assumes_are : (book_in parts).assumes ≡ parts.assumes
  unfolding book_in
  assumes_are = refl

  guarantees_are : (book_in parts).guarantees ≡ parts.guarantees
  unfolding book_in
  guarantees_are = refl
