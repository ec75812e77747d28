-- The value of a row that is not temporal, by the table. Assumes nothing.
use Prim.Native.Nat.{ℕ, ◌+◌, ◌<◌}
use native.Mathlib.Omega.{arith}
use mathlib.Core.Path.{◌≡◌, refl, sym, ap, ◌∙◌}
use mathlib.Core.Bool.{Bool, true, false, not}
use mathlib.Core.List.{List, map}
use lib.ListN.{length, get_or, drop, get_or-map}
use lib.Dec.{lit<}
use Rattle.pmtl.specs.Book.{map_row}
use Rattle.pmtl.specs.Monitor.{value_rule}
use Rattle.book.specs.declared.kind.Kind.{Kind}
use Rattle.book.specs.declared.kind.Kind.TheVariants.{False, True, Atom, And, Or, Not, Implies, Historically, Once, Since}
use Rattle.book.specs.Kinds.{word_of_kind}
use Rattle.memory.proofs.KindWords.{word_back}
use Rattle.memory.specs.declared.RowSaid.{RowSaid}
use Rattle.memory.specs.Memory.{row_count, kind_at, lower_at, upper_at, row_said, operand_at, operands_of, operands_from, row_of, is_one}
use Rattle.memory.specs.Kept.{BookKept, Span}
use Rattle.memory.proofs.Rows.{Read, first_is, first_below, second_is, second_below}
use Rattle.book.specs.Rows.{row_from, count_of}
use Rattle.row_answers.specs.Private.{joined}
use Rattle.row_answers.proofs.Answers.{span_as, span_book, first_inside, second_inside}
use Rattle.planning.specs.Plan.{held_in, Named}

-- Implies is what is left of the kinds that are not temporal
left_kind : (k : Kind) → word_of_kind k < 7 → (k ≡ False → ⊥) → (k ≡ True → ⊥) → (k ≡ Atom → ⊥) → (k ≡ And → ⊥) → (k ≡ Or → ⊥) → (k ≡ Not → ⊥) → k ≡ Implies
left_kind False h n0 n1 n2 n3 n4 n5 = absurd (n0 refl)
left_kind True h n0 n1 n2 n3 n4 n5 = absurd (n1 refl)
left_kind Atom h n0 n1 n2 n3 n4 n5 = absurd (n2 refl)
left_kind And h n0 n1 n2 n3 n4 n5 = absurd (n3 refl)
left_kind Or h n0 n1 n2 n3 n4 n5 = absurd (n4 refl)
left_kind Not h n0 n1 n2 n3 n4 n5 = absurd (n5 refl)
left_kind Implies h n0 n1 n2 n3 n4 n5 = refl
left_kind Historically h n0 n1 n2 n3 n4 n5 = absurd (omega arith)
left_kind Once h n0 n1 n2 n3 n4 n5 = absurd (omega arith)
left_kind Since h n0 n1 n2 n3 n4 n5 = absurd (omega arith)

-- ---- the value of a row that is not temporal, from its words
module _ {m : List ℕ} {r : ℕ} {words : RowSaid} (kept : BookKept m) (inside : r < row_count m) (ew : words ≡ row_said m r) (atoms : List ℕ) where
  pub read : Read m r (word_of_kind words.kind) words.arg words.start
  read =
      record {
        kept = kept;
        inside = inside;
        kind_is = ap (λ (w : RowSaid). word_of_kind w.kind) ew ∙ word_back (kind_at m r) (omega (arith, (kept.rows r inside).kind));
        arg_is = ap (λ (w : RowSaid). w.arg) ew;
        start_is = ap (λ (w : RowSaid). w.start) ew;
      }

  abbrev value : Bool
  value = value_rule (map is_one atoms) false (map_row (held_in m) (row_of m r))

  pub value_as : {k : Kind} → words.kind ≡ k → value ≡ value_rule (map is_one atoms) false (map_row (held_in m) (row_from (word_of_kind k) words.arg (lower_at m r) (upper_at m r) (drop words.start (operands_of m))))
  unfolding row_of
  value_as ek = rw (← read.kind_is, ← read.arg_is, ← read.start_is, ek)

  -- what the code asks where it looks an operand up
  pub and_span : words.kind ≡ And → Span m (row_count m) words.start words.arg
  unfolding count_of
  and_span ek = span_book (span_as read (ap word_of_kind ek)) inside

  pub or_span : words.kind ≡ Or → Span m (row_count m) words.start words.arg
  unfolding count_of
  or_span ek = span_book (span_as read (ap word_of_kind ek)) inside

  looked : {k : Kind} → words.kind ≡ k → 0 < count_of (word_of_kind k) words.arg → (words.start < 128) × ((x : ℕ) → x ≡ operand_at m words.start → x < 128)
  looked ek some =
      let few = kept.few in
      (first_inside read (ap word_of_kind ek) some, λ x e. let low = first_below (span_as read (ap word_of_kind ek)) some e in omega arith)

  pub not_looked : words.kind ≡ Not → (words.start < 128) × ((x : ℕ) → x ≡ operand_at m words.start → x < 128)
  unfolding count_of
  not_looked ek = looked ek (lit< tt)

  pub left_looked : words.kind ≡ Implies → (words.start < 128) × ((x : ℕ) → x ≡ operand_at m words.start → x < 128)
  unfolding count_of
  left_looked ek = looked ek (lit< tt)

  pub right_looked : words.kind ≡ Implies → (words.start + 1 < 128) × ((x : ℕ) → x ≡ operand_at m (words.start + 1) → x < 128)
  unfolding count_of
  right_looked ek =
      let few = kept.few in
      (second_inside read (ap word_of_kind ek) (lit< tt), λ x e. let low = second_below (span_as read (ap word_of_kind ek)) (lit< tt) e in omega arith)

  -- False, True
  pub value_false : words.kind ≡ False → false ≡ value
  unfolding row_from value_rule
  value_false ek = sym (value_as ek)

  pub value_true : words.kind ≡ True → true ≡ value
  unfolding row_from value_rule
  value_true ek = sym (value_as ek)

  -- And, Or
  pub value_and : words.kind ≡ And → {v : Bool} → v ≡ joined false (map (held_in m) (operands_from m words.start words.arg)) → v ≡ value
  unfolding row_from value_rule
  value_and ek ev = ev ∙ sym (value_as ek)

  pub value_or : words.kind ≡ Or → {v : Bool} → v ≡ joined true (map (held_in m) (operands_from m words.start words.arg)) → v ≡ value
  unfolding row_from value_rule
  value_or ek ev = ev ∙ sym (value_as ek)

  -- an atom
  pub value_atom : words.kind ≡ Atom → {v : Bool} → v ≡ is_one (get_or atoms words.arg 0) → v ≡ value
  unfolding row_from value_rule
  value_atom ek ev = ev ∙ sym (value_as ek ∙ get_or-map is_one atoms words.arg 0)

  -- of one operand, of two, whose values the code has
  pub value_not : words.kind ≡ Not → {x : ℕ} → x ≡ operand_at m words.start → {v : Bool} → v ≡ held_in m x → not v ≡ value
  unfolding row_from count_of value_rule
  value_not ek ex ev = ap not (ev ∙ ap (held_in m) (sym (first_is (span_as read (ap word_of_kind ek)) (lit< tt) ex))) ∙ sym (value_as ek)

  module _ (ek : words.kind ≡ Implies) {x : ℕ} (ex : x ≡ operand_at m words.start) {v : Bool} (ev : v ≡ held_in m x) where
    left_is : held_in m (get_or (drop words.start (operands_of m)) 0 0) ≡ v
    unfolding count_of
    left_is = ap (held_in m) (first_is (span_as read (ap word_of_kind ek)) (lit< tt) ex) ∙ sym ev

    pub value_implied : v ≡ true → {y : ℕ} → y ≡ operand_at m (words.start + 1) → {w : Bool} → w ≡ held_in m y → w ≡ value
    unfolding row_from count_of value_rule
    value_implied e ey ew' =
        sym (value_as ek ∙ rw (left_is ∙ e) (ap (held_in m) (second_is (span_as read (ap word_of_kind ek)) (lit< tt) ey) ∙ sym ew'))

    pub value_implies : v ≡ false → true ≡ value
    unfolding row_from count_of value_rule
    value_implies e = sym (value_as ek ∙ rw (left_is ∙ e))

  -- a kind that is neither temporal nor one of the others
  pub is_implies : kind_at m r < 7 → (words.kind ≡ False → ⊥) → (words.kind ≡ True → ⊥) → (words.kind ≡ Atom → ⊥) → (words.kind ≡ And → ⊥) → (words.kind ≡ Or → ⊥) → (words.kind ≡ Not → ⊥) → words.kind ≡ Implies
  is_implies low = left_kind words.kind (rw read.kind_is low)

-- an atom has its byte
pub named_inside : {m bytes : List ℕ} {r : ℕ} {words : RowSaid} → Named m bytes r → kind_at m r < 10 → words ≡ row_said m r → words.kind ≡ Atom → words.arg < length bytes
named_inside {m} {bytes} {r} {words} n few ew k =
    rw (ap (λ (w : RowSaid). w.arg) ew) (n.inside (sym (word_back (kind_at m r) few) ∙ sym (ap (λ (w : RowSaid). word_of_kind w.kind) ew) ∙ ap word_of_kind k))
