-- Whether a temporal row lies below another, as the code finds it: by the table of the rows that move. Assumes nothing.
use Prim.Native.Nat.{ℕ, zero, suc, ◌+◌, ◌-◌, ◌≤◌, ◌<◌}
use native.Mathlib.Omega.{arith}
use mathlib.Core.Path.{◌≡◌, refl, sym, ap, ◌∙◌, subst⁻¹}
use mathlib.Core.Bool.{Bool, true, false, not, ◌||◌}
use mathlib.Core.Logic.{⊎_elim}
use mathlib.Core.List.{List, map}
use lib.ListN.{length, get_or, take, drop, length-drop}
use Rattle.lists.proofs.Tests.{lt_or_ge}
use Rattle.lists.proofs.Parts.{part_length}
use Rattle.pmtl.specs.Book.{Row, map_row, row_at, Below, some, itself, moves}
use Rattle.pmtl.specs.Flat.{flat_rule, flat}
use Rattle.pmtl.proofs.Table.{map_row_local}
use Rattle.pmtl.proofs.Flat.{flat_by_rows, nested_by}
use Rattle.book.specs.Kinds.{word_of_kind}
use Rattle.book.specs.Rows.{row_from, count_of}
use Rattle.book.specs.Loading.{takes}
use Rattle.memory.specs.declared.RowSaid.{RowSaid}
use Rattle.memory.specs.Layout.{OPERANDS, MOVES}
use Rattle.memory.specs.Memory.{row_count, kind_at, arg_at, lower_at, upper_at, start_at, row_said, operands_of, operands_from, way_word, way_of, is_one, row_of, rows_of}
use Rattle.memory.specs.Kept.{Sound}
use Rattle.memory.specs.Tables.{Moving}
use Rattle.memory.proofs.Bits.{bit_back}
use Rattle.memory.proofs.Rows.{Read, rows_length, row_at_lem, kept_ordered}
use Rattle.row_answers.specs.Private.{joined}
use Rattle.row_answers.proofs.Answers.{read_words}
use Rattle.tables.specs.Puts.{bit_in}
use Rattle.tables.proofs.Joins.{one_list, two_list, moves_span}

not_not : (b : Bool) → b ≡ not (not b)
not_not true = refl
not_not false = refl

not-false : {v : Bool} (b : Bool) → v ≡ not b → v ≡ false → b ≡ true
not-false true e h = refl
not-false false e h = sym h ∙ e

not-true : {v : Bool} (b : Bool) → v ≡ not b → v ≡ true → b ≡ false
not-true true e h = sym h ∙ e
not-true false e h = refl

-- ---- a row, by its words
plain_flat : (f : ℕ → Bool) (kind arg lower upper : ℕ) (os : List ℕ) → kind < 7 → false ≡ not (flat_rule (map_row f (row_from kind arg lower upper os)))
unfolding row_from flat_rule
plain_flat f zero arg lower upper os h = refl
plain_flat f (suc zero) arg lower upper os h = refl
plain_flat f (suc (suc zero)) arg lower upper os h = refl
plain_flat f (suc (suc (suc zero))) arg lower upper os h = refl
plain_flat f (suc (suc (suc (suc zero)))) arg lower upper os h = refl
plain_flat f (suc (suc (suc (suc (suc zero))))) arg lower upper os h = refl
plain_flat f (suc (suc (suc (suc (suc (suc zero)))))) arg lower upper os h = refl
plain_flat f (suc (suc (suc (suc (suc (suc (suc k))))))) arg lower upper os h = absurd (omega arith)

-- some operand moves
abbrev Found : (ℕ → Bool) → ℕ → ℕ → ℕ → ℕ → List ℕ → Type 0
Found f kind arg lower upper os = count_of kind arg ≤ length os → some itself (map f (take (count_of kind arg) os)) ≡ not (flat_rule (map_row f (row_from kind arg lower upper os)))

from_seven : (f : ℕ → Bool) (k arg lower upper : ℕ) (os : List ℕ) → k ≤ 2 → Found f (suc (suc (suc (suc (suc (suc (suc k))))))) arg lower upper os
unfolding row_from count_of flat_rule
from_seven f zero arg lower upper os h l = sym (one_list f os l) ∙ not_not (f (get_or os 0 0))
from_seven f (suc zero) arg lower upper os h l = sym (one_list f os l) ∙ not_not (f (get_or os 0 0))
from_seven f (suc (suc zero)) arg lower upper os h l = sym (two_list f os l) ∙ not_not (f (get_or os 0 0) || f (get_or os 1 0))
from_seven f (suc (suc (suc k))) arg lower upper os h l = absurd (omega arith)

temporal_flat : (f : ℕ → Bool) (kind arg lower upper : ℕ) (os : List ℕ) → 7 ≤ kind → kind ≤ 9 → Found f kind arg lower upper os
temporal_flat f kind arg lower upper os h most =
    let e : kind ≡ suc (suc (suc (suc (suc (suc (suc (kind - 7))))))) = omega arith in
    subst⁻¹ (λ (k : ℕ). Found f k arg lower upper os) e (from_seven f (kind - 7) arg lower upper os (omega arith))

module _ {m : List ℕ} {r : ℕ} {words : RowSaid} (sound : Sound m) (moving : Moving m) (inside : r < row_count m) (ew : words ≡ row_said m r) where
  read : Read m r (word_of_kind words.kind) words.arg words.start
  read = read_words m r sound.book inside ew

  -- the table says which rows move
  by_table : flat_rule (map_row (bit_in m MOVES) (row_of m r)) ≡ flat_rule (map_row (moves (rows_of m)) (row_of m r))
  by_table =
      let low : Below r (row_of m r) = rw (row_at_lem m r inside) at (kept_ordered sound.book r) in
      let right : (o : ℕ) → o < r → bit_in m MOVES o ≡ moves (rows_of m) o =
      λ o l. ap is_one (moving.right o (omega arith)) ∙ bit_back (moves (rows_of m) o) in
      ap flat_rule (map_row_local r (bit_in m MOVES) (moves (rows_of m)) right (row_of m r) low)

  pub nested_plain : word_of_kind words.kind < 7 → false ≡ not (flat_rule (map_row (moves (rows_of m)) (row_of m r)))
  unfolding row_of
  nested_plain h = plain_flat (moves (rows_of m)) (kind_at m r) (arg_at m r) (lower_at m r) (upper_at m r) (drop (start_at m r) (operands_of m)) (rw read.kind_is at h)

  pub nested_temporal : 7 ≤ word_of_kind words.kind → {n : ℕ} → n ≡ count_of (word_of_kind words.kind) words.arg → {v : Bool} → v ≡ joined true (map (bit_in m MOVES) (operands_from m words.start n))
      → v ≡ not (flat_rule (map_row (moves (rows_of m)) (row_of m r)))
  unfolding row_of
  nested_temporal h en ev =
      let long : length (operands_of m) ≡ 128 = let l = sound.book.long in part_length OPERANDS 128 m (omega arith) in
      let room = (moves_span sound inside ew).inside in
      let most = (sound.book.rows r inside).kind in
      ev ∙ ap (λ (n : ℕ). joined true (map (bit_in m MOVES) (operands_from m words.start n))) en
      ∙ rw (← read.kind_is, ← read.arg_is, ← read.start_is)
      (temporal_flat (bit_in m MOVES) (word_of_kind words.kind) words.arg (lower_at m r) (upper_at m r) (drop words.start (operands_of m)) h (omega (arith, read.kind_is)) (omega (arith, length-drop words.start (operands_of m))))
      ∙ ap not by_table

-- ---- the walk over the rows: none so far is nested
abbrev pub FlatTo : List ℕ → ℕ → Type 0
FlatTo m r = (i : ℕ) → i < r → flat_rule (map_row (moves (rows_of m)) (row_at (rows_of m) i)) ≡ true

pub flat_start : (m : List ℕ) → FlatTo m 0
flat_start m i h = absurd (omega arith)

module _ (m : List ℕ) (r : ℕ) (inside : r < row_count m) {v : Bool} (ev : v ≡ not (flat_rule (map_row (moves (rows_of m)) (row_of m r)))) where
  as_row : {b : Bool} → flat_rule (map_row (moves (rows_of m)) (row_of m r)) ≡ b → flat_rule (map_row (moves (rows_of m)) (row_at (rows_of m) r)) ≡ b
  as_row e = ap (λ (row : Row ℕ). flat_rule (map_row (moves (rows_of m)) row)) (row_at_lem m r inside) ∙ e

  pub flat_more : v ≡ false → FlatTo m r → FlatTo m (r + 1)
  flat_more h f i l =
      ⊎_elim
      (f i)
      (λ g. let e : i ≡ r = omega arith in rw e (as_row (not-false _ ev h)))
      (lt_or_ge i r)

  pub flat_stop : v ≡ true → false ≡ flat (rows_of m)
  flat_stop h = sym (nested_by (rows_of m) r (as_row (not-true _ ev h)))

pub flat_done : (m : List ℕ) {r : ℕ} → row_count m ≤ r → FlatTo m r → true ≡ flat (rows_of m)
flat_done m h f = sym (flat_by_rows (rows_of m) (λ i l. f i (omega (arith, rows_length m))))

-- ---- whether the way takes the book
module _ (m : List ℕ) {t : Bool} (et : t ≡ is_one (way_word m)) where
  pub taken_lasting : t ≡ true → {v : Bool} → v ≡ flat (rows_of m) → v ≡ takes (way_of m) (rows_of m)
  unfolding way_of
  taken_lasting h ev = rw (sym et ∙ h) ev

  pub taken_ordinary : t ≡ false → true ≡ takes (way_of m) (rows_of m)
  unfolding way_of
  taken_ordinary h = rw (sym et ∙ h)
