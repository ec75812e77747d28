-- From the tables to the answers of the monitor that a memory holds. Assumes nothing.
use Prim.Native.Nat.{ℕ, ◌+◌, ◌≤◌, ◌<◌}
use native.Mathlib.Omega.{arith}
use mathlib.Core.Path.{◌≡◌, refl, sym, ap, ◌∙◌}
use mathlib.Core.Bool.{Bool, false}
use mathlib.Core.List.{List}
use lib.ListN.{length, get_or-eq_default}
use borrow.Author.Tests.{lt-ltb, le-ltb}
use Rattle.lists.specs.Lists.{filled_to}
use Rattle.lists.proofs.Filled.{filled_to_is}
use Rattle.pmtl.specs.declared.Answer.{Answer}
use Rattle.pmtl.specs.declared.Answer.TheVariants.{False, True, Open}
use Rattle.pmtl.specs.Answer.{digit_of}
use Rattle.pmtl.specs.Book.{properties, property_at}
use Rattle.pmtl.specs.Monitor.{value}
use Rattle.pmtl.specs.Early.{early}
use Rattle.pmtl.specs.Settled.{settled}
use Rattle.pmtl.proofs.Answers.{value_out, early_out, settled_out}
use Rattle.memory.specs.Memory.{row_count, assume_count, guarantee_count, property_row, value_at, early_at, settled_at, is_one, rows_of, book_of, state_of}
use Rattle.memory.specs.Tables.{property_count}
use Rattle.memory.specs.Kept.{Kept}
use Rattle.memory.proofs.Bits.{bit_back}
use Rattle.memory.proofs.Properties.{properties_length, property_is}
use Rattle.property_answers.specs.declared.Verdict.{Verdict}
use Rattle.property_answers.specs.Verdict.{verdict_in, verdict_of, properties_in, answers_number, records_list}
use Rattle.property_answers.specs.Private.{answer_of}

-- a verdict is its three answers
together : {v v' : Bool} {e e' s s' : Answer} → v ≡ v' → e ≡ e' → s ≡ s'
    → ◌≡◌ {A = Verdict} (record { value = v; early = e; settled = s }) (record { value = v'; early = e'; settled = s' })
together ev ee es = cc

-- the answers of a property that is not there
abbrev pub absent : Verdict
absent = record { value = false; early = Open; settled = Open }

-- ---- the properties of a memory's book
module _ (m : List ℕ) where
  property_out : Kept m → (i : ℕ) → assume_count m + guarantee_count m ≤ i → property_at (book_of m) i ≡ length (book_of m).rows
  property_out kept i h = let long = properties_length m kept.sound.book in get_or-eq_default (properties (book_of m)) _ (omega arith)

  pub verdict_out : Kept m → (i : ℕ) → assume_count m + guarantee_count m ≤ i → verdict_of m i ≡ absent
  unfolding verdict_in
  verdict_out kept i h =
      let b = (book_of m).rows in
      let far : length b ≤ property_at (book_of m) i = let e = property_out kept i h in omega arith in
      together (value_out b (state_of m) _ far) (early_out b (state_of m) _ far) (settled_out b (state_of m) _ far)

-- a digit is that of one answer
answer_back : (x : Answer) → answer_of (digit_of x) ≡ x
answer_back False = refl
answer_back True = refl
answer_back Open = refl

-- and of one that is: what the tables say
pub verdict_in_lem : {m : List ℕ} → Kept m → (i : ℕ) → i < property_count m → {row : ℕ} → row ≡ property_row m i → {v : Bool} {e s : Answer} {de ds : ℕ} → v ≡ is_one (value_at m row) → de ≡ early_at m i → e ≡ answer_of de
    → ds ≡ settled_at m i → s ≡ answer_of ds → verdict_of m i ≡ record { value = v; early = e; settled = s }
unfolding verdict_in book_of
verdict_in_lem {m} kept i h {row} is ev ede ee eds es =
    let p : property_at (book_of m) i ≡ property_row m i = property_is m kept.sound.book i h in
    let inside : property_row m i < row_count m = kept.sound.book.properties i h in
    together
    (ap (value (rows_of m) (state_of m)) p ∙ sym (ev ∙ ap (λ (r : ℕ). is_one (value_at m r)) is ∙ ap is_one (kept.tables.valued.right (property_row m i) inside) ∙ bit_back _))
    (ap (early (rows_of m) (state_of m)) p ∙ sym (ee ∙ ap answer_of (ede ∙ kept.tables.answered.early i h) ∙ answer_back _))
    (ap (settled (rows_of m) (state_of m)) p ∙ sym (es ∙ ap answer_of (eds ∙ kept.tables.answered.settled i h) ∙ answer_back _))

-- ---- a record for each property into a lent list: it is too short, or not
module _ {A : Type 0} (m : List ℕ) (f : ℕ → A) (out : List A) where
  pub list_short : length out < properties_in m → (12 ≡ answers_number m (length out)) × (out ≡ records_list m f out)
  unfolding answers_number
  list_short h = rw (lt-ltb (length out) (properties_in m) h) (refl, refl)

  pub list_filled : properties_in m ≤ length out → (0 ≡ answers_number m (length out)) × (filled_to f out (properties_in m) ≡ records_list m f out)
  unfolding answers_number
  list_filled h = rw (le-ltb (length out) (properties_in m) h) (refl, filled_to_is f out (properties_in m) h)

-- a property's place is inside its part
pub few_count : {m : List ℕ} {i : ℕ} → Kept m → i < property_count m → i < 32
few_count kept h = let a = kept.sound.book.assumes_few in let g = kept.sound.book.guarantees_few in omega arith
