-- The change of a temporal row's set as the code finds it: by the row's kind and its operands' values. Assumes nothing.
use Prim.Native.Nat.{ℕ, zero, suc, ◌+◌, ◌-◌, ◌≤◌, ◌<◌, min}
use mathlib.Core.Path.{◌≡◌, refl, sym, ap, ap₂, ◌∙◌, subst⁻¹}
use mathlib.Core.Logic.{⊎_elim}
use mathlib.Core.Bool.{Bool, true, false, not}
use mathlib.Core.List.{List}
use native.Mathlib.Omega.{arith}
use lib.ListN.{get_or, drop}
use lib.Dec.{lit<}
use borrow.Author.Tests.{eq-eqb, ne_eqb}
use Rattle.numbers.specs.Limits.{MAX}
use Rattle.lists.proofs.Tests.{lt_or_ge}
use Rattle.pmtl.specs.Book.{Row, map_row, Range, stop}
use Rattle.memory.specs.Layout.{OPERANDS}
use Rattle.memory.specs.Memory.{row_count, clock_of, way_word, kind_at, arg_at, lower_at, upper_at, start_at, operands_of, row_of, is_one}
use Rattle.book.specs.declared.kind.Kind.{Kind}
use Rattle.book.specs.declared.kind.Kind.TheVariants.{False, True, Atom, And, Or, Not, Implies, Historically, Once, Since}
use Rattle.book.specs.Kinds.{word_of_kind, kind_of_word}
use Rattle.book.specs.Rows.{row_from, count_of}
use Rattle.memory.specs.Kept.{BookKept, Span}
use Rattle.memory.proofs.Rows.{Read, span_read, first_is, second_is, first_below, second_below}
use Rattle.row_answers.proofs.Answers.{span_as, first_inside, second_inside}
use Rattle.set_change.specs.Change.{mode_of, mode_in}
use Rattle.set_change.proofs.AsOne.{small_from, large_from}
use Rattle.planning.specs.Plan.{spans_in, counts_from}

-- another kind has another word
kind_back : (k : Kind) → kind_of_word (word_of_kind k) ≡ k
unfolding kind_of_word
kind_back False = refl
kind_back True = refl
kind_back Atom = refl
kind_back And = refl
kind_back Or = refl
kind_back Not = refl
kind_back Implies = refl
kind_back Historically = refl
kind_back Once = refl
kind_back Since = refl

pub other_word : {k : Kind} (j : Kind) → (k ≡ j → ⊥) → word_of_kind k ≡ word_of_kind j → ⊥
other_word {k} j n e = n (sym (kind_back k) ∙ ap kind_of_word e ∙ kind_back j)

-- a temporal row has an operand
some_operand : (k arg : ℕ) → 7 ≤ k → k ≤ 9 → 0 < count_of k arg
unfolding count_of
some_operand k arg h l =
    let e : k ≡ suc (suc (suc (suc (suc (suc (suc (k - 7))))))) = omega arith in
    subst⁻¹ (λ (j : ℕ). 0 < count_of j arg) e (go (k - 7) (omega arith))
  where
    go : (j : ℕ) → j ≤ 2 → 0 < count_of (suc (suc (suc (suc (suc (suc (suc j))))))) arg
    go zero h = lit< tt
    go (suc zero) h = lit< tt
    go (suc (suc zero)) h = lit< tt
    go (suc (suc (suc j))) h = absurd (omega arith)

-- a row whose kind and place of operands the code has read
module _ {m : List ℕ} {r kind start : ℕ} (kept : BookKept m) (inside : r < row_count m) (temporal : 7 ≤ kind_at m r) (told : kind_at m r < 10 → kind ≡ kind_at m r) (es : start ≡ start_at m r) where
  ek : kind ≡ kind_at m r
  ek = told (omega (arith, (kept.rows r inside).kind))

  pub read : Read m r kind (arg_at m r) start
  read = record { kept = kept; inside = inside; kind_is = ek; arg_is = refl; start_is = es }

  few : kind_at m r ≤ 9
  few = (kept.rows r inside).kind

  one : 0 < count_of kind (arg_at m r)
  one = some_operand kind (arg_at m r) (omega (arith, ek)) (omega (arith, ek, few))

  pub first_place : start < 128
  first_place = first_inside read refl one

  pub first_row : {x : ℕ} → x ≡ get_or m (OPERANDS + start) 0 → x < 128
  first_row e = omega (arith, first_below (span_read read) one e, kept.few)

  -- neither Historically nor Once
  past : (kind ≡ 7 → ⊥) → (kind ≡ 8 → ⊥) → kind ≡ 9
  past p q = omega (arith, ek, few)

  two : (kind ≡ 7 → ⊥) → (kind ≡ 8 → ⊥) → Span m r start 2
  unfolding count_of
  two p q = span_as read (past p q)

  pub second_place : (kind ≡ 7 → ⊥) → (kind ≡ 8 → ⊥) → start + 1 < 128
  unfolding count_of
  second_place p q = second_inside read (past p q) (lit< tt)

  pub second_row : (kind ≡ 7 → ⊥) → (kind ≡ 8 → ⊥) → {x : ℕ} → x ≡ get_or m (OPERANDS + (start + 1)) 0 → x < 128
  second_row p q e = omega (arith, second_below (two p q) (lit< tt) e, kept.few)

  module _ (f : ℕ → Bool) where
    row_as : {k : ℕ} → kind ≡ k → row_of m r ≡ row_from k (arg_at m r) (lower_at m r) (upper_at m r) (drop start (operands_of m))
    unfolding row_of
    row_as e = rw (← ek, ← es, e)

    module _ {x : ℕ} (ex : x ≡ get_or m (OPERANDS + start) 0) {v : Bool} (ev : v ≡ f x) where
      pub mode_historically : {k : ℕ} → k ≡ mode_of true (not v) → kind ≡ 7 → k ≡ mode_in (map_row f (row_of m r))
      unfolding row_from mode_in
      mode_historically e p =
          e ∙ sym (ap (λ (row : Row ℕ). mode_in (map_row f row)) (row_as p) ∙ ap (λ (o : ℕ). mode_of true (not (f o))) (first_is (span_read read) one ex) ∙ ap (λ (b : Bool). mode_of true (not b)) (sym ev))

      pub mode_once : {k : ℕ} → k ≡ mode_of true v → kind ≡ 8 → k ≡ mode_in (map_row f (row_of m r))
      unfolding row_from mode_in
      mode_once e p =
          e ∙ sym (ap (λ (row : Row ℕ). mode_in (map_row f row)) (row_as p) ∙ ap (λ (o : ℕ). mode_of true (f o)) (first_is (span_read read) one ex) ∙ ap (mode_of true) (sym ev))

      pub mode_since : {y : ℕ} → y ≡ get_or m (OPERANDS + (start + 1)) 0 → {w : Bool} → w ≡ f y → {k : ℕ} → k ≡ mode_of v w → (kind ≡ 7 → ⊥) → (kind ≡ 8 → ⊥) → k ≡ mode_in (map_row f (row_of m r))
      unfolding row_from mode_in
      mode_since ey ew e p q =
          e ∙ sym (ap (λ (row : Row ℕ). mode_in (map_row f row)) (row_as (past p q))
          ∙ ap₂ (λ (o u : ℕ). mode_of (f o) (f u)) (first_is (span_read read) one ex) (second_is (two p q) (lit< tt) ey) ∙ ap₂ mode_of (sym ev) (sym ew))

-- ---- where a range ends
pub stop_last : (g : Range) (c : ℕ) {u : ℕ} → u ≡ g.upper → u ≡ MAX → MAX ≡ stop g c
unfolding stop
stop_last g c e h = sym (rw (eq-eqb g.upper MAX (sym e ∙ h)))

pub stop_sum : (g : Range) (c : ℕ) {u : ℕ} → u ≡ g.upper → (u ≡ MAX → ⊥) → c + u ≡ stop g c
unfolding stop
stop_sum g c e h = sym (rw (ne_eqb g.upper MAX (λ q. h (e ∙ q)), e))

-- ---- the first instant that a change counts from, by its mode
module _ (m : List ℕ) (c k : ℕ) where
  pub counts_clock : k < 4 → c ≡ counts_from m c k
  counts_clock h = sym (small_from (min (clock_of m + 1) c) c k h)

  pub counts_next : 4 ≤ k → {before : ℕ} → before ≡ clock_of m → before < c → before + 1 ≡ counts_from m c k
  counts_next h e l = sym (large_from (min (clock_of m + 1) c) c k h ∙ omega arith)

  pub counts_still : 4 ≤ k → {before : ℕ} → before ≡ clock_of m → c ≤ before → c ≡ counts_from m c k
  counts_still h e l = sym (large_from (min (clock_of m + 1) c) c k h ∙ omega arith)

  pub counts_small : counts_from m c k ≤ c
  counts_small =
      ⊎_elim
      (λ (h : k < 4). omega (arith, small_from (min (clock_of m + 1) c) c k h))
      (λ (h : 4 ≤ k). omega (arith, large_from (min (clock_of m + 1) c) c k h))
      (lt_or_ge k 4)

-- ---- whether a step counts a stretch
pub stretch_else : (m : List ℕ) {fresh lasts : Bool} → fresh ≡ false → lasts ≡ is_one (way_word m) → lasts ≡ spans_in m fresh
stretch_else m f e = rw f e
