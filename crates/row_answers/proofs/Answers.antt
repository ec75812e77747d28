-- A row's answer from its words: one law for every kind of answer; and what a walk over rows needs. Assumes nothing.
use Prim.Native.Nat.{ℕ, zero, suc, ◌+◌, ◌-◌, ◌*◌, ◌^◌, ◌<◌, ◌≤◌, max}
use native.Mathlib.Omega.{arith}
use native.Mathlib.Nat.{add-zero, lt_trans}
use mathlib.Core.Path.{◌≡◌, refl, sym, ap, ap₂, ◌∙◌}
use mathlib.Core.Bool.{Bool}
use mathlib.Core.List.{List, [], ◌∷◌, map}
use lib.ListN.{length, get_or, drop}
use lib.Dec.{eqb}
use denote.Enum.Bare.{sameb}
use Rattle.pmtl.specs.declared.Answer.{Answer}
use Rattle.pmtl.specs.declared.Answer.TheVariants.{False, True, Open}
use Rattle.pmtl.specs.contracts.Answer.{the_type}
use Rattle.pmtl.specs.Answer.{is_true, is_false, is_open}
use Rattle.pmtl.specs.Book.{Row, map_row, answer}
use Rattle.pmtl.specs.Early.{from_now}
use Rattle.pmtl.proofs.Table.{answer_in}
use Rattle.memory.specs.declared.RowSaid.{RowSaid}
use Rattle.memory.specs.Layout.{OPERANDS, SIZE}
use Rattle.memory.specs.Memory.{row_count, width_word, kind_at, lower_at, upper_at, slot_at, row_said, operand_at, operands_of, operands_from, range_at, rows_of}
use Rattle.book.specs.Rows.{row_from, count_of}
use Rattle.book.specs.declared.kind.Kind.{Kind}
use Rattle.book.specs.Kinds.{word_of_kind}
use Rattle.memory.proofs.KindWords.{word_back}
use Rattle.memory.specs.Kept.{BookKept, Span}
use Rattle.memory.proofs.Rows.{Read, rows_length, row_read, span_read, first_is, second_is, first_below, span_rest, walk_cons, kept_ordered, below_128}

-- ---- a row's answer from its words, by any rule
module _ {A : Type 0} (none : A) (rule : ℕ → Row A → A) {m : List ℕ} {r kind arg start : ℕ} (e : Read m r kind arg start) where
  pub answer_read : {k : ℕ} → kind ≡ k
      → answer (rows_of m) none rule r ≡ rule r (map_row (answer (rows_of m) none rule) (row_from k arg (lower_at m r) (upper_at m r) (drop start (operands_of m))))
  answer_read ek =
      answer_in (rows_of m) none rule (kept_ordered e.kept) r (rw rows_length e.inside)
      ∙ ap (λ row. rule r (map_row (answer (rows_of m) none rule) row)) (row_read e)
      ∙ ap (λ k. rule r (map_row (answer (rows_of m) none rule) (row_from k arg (lower_at m r) (upper_at m r) (drop start (operands_of m))))) ek

  -- of one operand, of two, whose answers the code has
  pub answer_one : {k : ℕ} → kind ≡ k → (shape : A → Row A)
      → ((os : List ℕ) → map_row (answer (rows_of m) none rule) (row_from k arg (lower_at m r) (upper_at m r) os) ≡ shape (answer (rows_of m) none rule (get_or os 0 0)))
      → 0 < count_of k arg → {x : ℕ} → x ≡ get_or m (OPERANDS + start) 0 → {v : A} → v ≡ answer (rows_of m) none rule x
      → answer (rows_of m) none rule r ≡ rule r (shape v)
  answer_one ek shape es some ex ev =
      let s = rw ek at (span_read e) in
      answer_read ek ∙ ap (rule r) (es _ ∙ ap (λ x. shape (answer (rows_of m) none rule x)) (first_is s some ex) ∙ ap shape (sym ev))

  pub answer_two : {k : ℕ} → kind ≡ k → (shape : A → A → Row A)
      → ((os : List ℕ) → map_row (answer (rows_of m) none rule) (row_from k arg (lower_at m r) (upper_at m r) os) ≡ shape (answer (rows_of m) none rule (get_or os 0 0)) (answer (rows_of m) none rule (get_or os 1 0)))
      → 1 < count_of k arg → {x : ℕ} → x ≡ get_or m (OPERANDS + start) 0 → {v : A} → v ≡ answer (rows_of m) none rule x
      → {y : ℕ} → y ≡ get_or m (OPERANDS + (start + 1)) 0 → {w : A} → w ≡ answer (rows_of m) none rule y
      → answer (rows_of m) none rule r ≡ rule r (shape v w)
  answer_two ek shape es two ex ev ey ew =
      let s = rw ek at (span_read e) in
      answer_read ek
      ∙ ap (rule r) (es _ ∙ ap₂ (λ x y. shape (answer (rows_of m) none rule x) (answer (rows_of m) none rule y)) (first_is s (omega arith) ex) (second_is s two ey) ∙ ap₂ shape (sym ev) (sym ew))

-- ---- what the code has read of a row, from its words
pub read_words : (m : List ℕ) (r : ℕ) {words : RowSaid} → BookKept m → r < row_count m → words ≡ row_said m r → Read m r (word_of_kind words.kind) words.arg words.start
read_words m r kept h e = record { kept = kept; inside = h; kind_is = ap (λ w. word_of_kind w.kind) e ∙ word_back (kind_at m r) (let k = (kept.rows r h).kind in omega arith); arg_is = ap (λ w. w.arg) e; start_is = ap (λ w. w.start) e }

pub zero_words : (m : List ℕ) (r : ℕ) {words : RowSaid} → words ≡ row_said m r → {z : Bool} → z ≡ eqb words.lower 0 → z ≡ from_now (range_at m r)
zero_words m r e ez = ez ∙ ap (λ w. eqb w.lower 0) e

-- ---- the measures: a row's is above those of its walk, and a walk's, which has operands, above their rows'
pub walk_falls : {row above left t : ℕ} → (row + 1) * 2 ^ 64 ≡ t → above ≤ row → left ≤ 128 → above * 2 ^ 64 + left < t
walk_falls e h l = omega arith

pub row_falls : {row x t : ℕ} → (row + 1) * 2 ^ 64 ≡ t → x < row → (x + 1) * 2 ^ 64 < t
row_falls e h = omega arith

pub operand_falls : {above left x t : ℕ} → above * 2 ^ 64 + left ≡ t → x < above → 0 < left → (x + 1) * 2 ^ 64 < t
operand_falls e h p = omega arith

-- ---- a walk's measure needs its owner's row only to be above it: one more than the highest of the operands that are left
unfoldable pub above : List ℕ → (place left : ℕ) → ℕ
above m place zero = 0
above m place (suc n) = max (operand_at m place + 1) (above m (place + 1) n)

pub above_most : {m : List ℕ} {r place : ℕ} (n : ℕ) → Span m r place n → above m place n ≤ r
unfolding above
above_most zero s = omega arith
above_most {m} {r} {place} (suc n) s =
    let one : suc n - 1 ≡ n = omega arith in
    let rest = above_most {place = place + 1} n (rw one at (span_rest s (omega arith))) in
    let first : operand_at m place < r = first_below s (omega arith) refl in
    omega arith

above_at : (m : List ℕ) (place n k : ℕ) → k < n → operand_at m (place + k) < above m place n
unfolding above
above_at m place zero k h = absurd (omega arith)
above_at m place (suc n) zero h = rw add-zero (omega arith)
above_at m place (suc n) (suc k) h =
    let e : place + suc k ≡ place + 1 + k = omega arith in
    let low = above_at m (place + 1) n k (omega arith) in
    rw e (omega arith)

pub above_there : (m : List ℕ) (place n at : ℕ) → place ≤ at → at < place + n → {x : ℕ} → x ≡ operand_at m at → x < above m place n
above_there m place n at h l e =
    let is : place + (at - place) ≡ at = omega arith in
    rw e (rw is at (above_at m place n (at - place) (omega arith)))

-- ---- how far a walk over operands has come: what is said of those that are left is what is said of all
pub record Walking {A B : Type 0} (m : List ℕ) (f : ℕ → A) (said : List A → B) (whole : B) (at rest : ℕ) : Type 0 where
  pub span : Span m (row_count m) at rest
  pub same : whole ≡ said (map f (operands_from m at rest))

module _ {A B : Type 0} {m : List ℕ} {f : ℕ → A} {said : List A → B} {whole : B} {at rest : ℕ} (w : Walking m f said whole at rest) where
  pub walking_below : 0 < rest → {x : ℕ} → x ≡ operand_at m at → x < row_count m
  walking_below some e = first_below w.span some e

  -- none is left
  pub walking_done : rest ≡ 0 → {nothing : B} → nothing ≡ said [] → nothing ≡ whole
  walking_done e z = z ∙ sym (w.same ∙ ap (λ (n : ℕ). said (map f (operands_from m at n))) e)

  module _ (long : length m ≡ SIZE) (some : 0 < rest) {x : ℕ} (ex : x ≡ operand_at m at) {v : A} (ev : v ≡ f x) where
    -- one says what all say
    pub walking_stop : {r : B} → ((vs : List A) → r ≡ said (v ∷ vs)) → r ≡ whole
    walking_stop stops = stops _ ∙ sym (w.same ∙ ap said (walk_cons f long w.span some ex ev))

    -- one is passed
    pub walking_more : (left : List A → B) → ((vs : List A) → left vs ≡ said (v ∷ vs)) → {rest' : ℕ} → rest' ≡ rest - 1 → Walking m f left whole (at + 1) rest'
    walking_more left goes e =
        rw e record { span = span_rest w.span some; same = w.same ∙ ap said (walk_cons f long w.span some ex ev) ∙ sym (goes _) }

pub walking_start : {A B : Type 0} {m : List ℕ} (f : ℕ → A) (said : List A → B) {place left rest : ℕ} → Span m (row_count m) place left → rest ≡ left
    → Walking m f said (said (map f (operands_from m place left))) place rest
walking_start f said span e = rw e record { span = span; same = refl }

-- a place under another name
pub walking_at : {A B : Type 0} {m : List ℕ} {f : ℕ → A} {said : List A → B} {whole : B} {at at' rest : ℕ} → at' ≡ at → Walking m f said whole at rest → Walking m f said whole at' rest
walking_at e w = rw e w

-- the operands of a row are rows of the book
pub span_book : {m : List ℕ} {r place n : ℕ} → Span m r place n → r < row_count m → Span m (row_count m) place n
span_book s h = record { inside = s.inside; below = λ k l. lt_trans (s.below k l) h }

-- ---- the arms of a `match` on a kind
pub span_as : {m : List ℕ} {r kind arg start : ℕ} → Read m r kind arg start → {k : ℕ} → kind ≡ k → Span m r start (count_of k arg)
span_as e ek = rw ek at (span_read e)

-- ---- whether an answer is the one that the code compares it with
pub said_true : (x : Answer) {b v : Bool} → b ≡ sameb the_type x True → b ≡ v → is_true x ≡ v
said_true False e k = sym e ∙ k
said_true True e k = sym e ∙ k
said_true Open e k = sym e ∙ k

pub said_false : (x : Answer) {b v : Bool} → b ≡ sameb the_type x False → b ≡ v → is_false x ≡ v
said_false False e k = sym e ∙ k
said_false True e k = sym e ∙ k
said_false Open e k = sym e ∙ k

pub said_open : (x : Answer) {b v : Bool} → b ≡ sameb the_type x Open → b ≡ v → is_open x ≡ v
said_open False e k = sym e ∙ k
said_open True e k = sym e ∙ k
said_open Open e k = sym e ∙ k

-- ---- a kind's word
pub word_said : {kind k : Kind} → kind ≡ k → word_of_kind kind ≡ word_of_kind k
word_said e = ap word_of_kind e

-- an atom's number is below the width
pub atom_named : {m : List ℕ} {r kind arg start : ℕ} → Read m r kind arg start → kind ≡ 2 → arg < width_word m
atom_named {m} {r} e ek = rw e.arg_is ((e.kept.rows r e.inside).atoms (sym e.kind_is ∙ ek))

pub atom_as : {m : List ℕ} {r kind arg start : ℕ} → Read m r kind arg start → kind ≡ 2 → arg < 256
atom_as e ek = omega (arith, atom_named e ek, e.kept.narrow)

-- ---- what the accessors ask
pub first_inside : {m : List ℕ} {r kind arg start : ℕ} → Read m r kind arg start → {k : ℕ} → kind ≡ k → 0 < count_of k arg → start < 128
first_inside e ek h = omega (arith, (span_as e ek).inside)

pub second_inside : {m : List ℕ} {r kind arg start : ℕ} → Read m r kind arg start → {k : ℕ} → kind ≡ k → 1 < count_of k arg → start + 1 < 128
second_inside e ek h = omega (arith, (span_as e ek).inside)

-- ---- a temporal row has a slot
pub temporal_as : {m : List ℕ} {r kind arg start : ℕ} → Read m r kind arg start → {k : ℕ} → kind ≡ k → 7 ≤ k → 7 ≤ kind_at m r
temporal_as e ek h = omega (arith, e.kind_is)

pub slot_as : {m : List ℕ} {r kind arg start : ℕ} → Read m r kind arg start → {k : ℕ} → kind ≡ k → 7 ≤ k → (r < 128) × (slot_at m r < 32)
slot_as {m} {r} e ek h =
    let inside = (e.kept.rows r e.inside).slot (temporal_as e ek h) in
    (below_128 e.kept e.inside, omega (arith, e.kept.temporal_few))
