-- A call is noted: the properties one after the other, and then its number. Assumes nothing.
use Prim.Native.Nat.{ℕ, suc, ◌+◌, ◌≤◌, ◌<◌, min, max}
use native.Mathlib.Omega.{arith}
use native.Mathlib.Numerals.{add-one}
use mathlib.Core.Path.{◌≡◌, refl, sym, ap, ap₂, ◌∙◌}
use mathlib.Core.Logic.{⊎_elim}
use mathlib.Core.Bool.{Bool, true, false}
use mathlib.Core.List.{List}
use lib.ListN.{length, get_or, set, length-set}
use lib.Seq.{get_or-set_same, get_or-set_other, set-get_or}
use lib.Dec.{eqb}
use Rattle.lists.specs.Lists.{listed}
use Rattle.lists.proofs.Tests.{lt_or_ge}
use Rattle.lists.proofs.Listed.{listed_agree}
use Rattle.pmtl.specs.declared.Answer.{Answer}
use Rattle.pmtl.specs.declared.Answer.TheVariants.{False, True, Open}
use Rattle.pmtl.specs.Answer.{digit_of, is_open}
use Rattle.pmtl.specs.Book.{properties, property_at}
use Rattle.pmtl.specs.Monitor.{value}
use Rattle.pmtl.specs.Quiet.{quiet_until}
use Rattle.pmtl.specs.Settled.{settled}
use Rattle.pmtl.specs.Calls.{Outcome}
use Rattle.ledger.specs.Ledger.{LAST_COUNTED, Entry, noted, next}
use Rattle.ledger.proofs.Noted.{noted_at, next_accepted, next_refused, next_past, next_counts}
use Rattle.memory.specs.Layout.{PROPERTIES, VALUES, SETTLED, UNTIL, LEDGER, TAKEN}
use Rattle.memory.specs.Memory.{property_row, value_at, number_word, taken_word, entry_start, rows_of, book_of, is_one, state_of, entry_of, ledger_of}
use Rattle.memory.specs.Tables.{property_count}
use Rattle.memory.specs.Kept.{Kept}
use Rattle.memory.specs.Alike.{Alike}
use Rattle.memory.proofs.Alike.{alike_rows, alike_sound, alike_book, alike_state}
use Rattle.memory.proofs.Bits.{bit_back}
use Rattle.memory.proofs.Ledger.{ledger_entry}
use Rattle.memory.proofs.Properties.{properties_length, property_is}
use Rattle.tables.proofs.Puts.{tables_same}
use Rattle.notes.specs.Noting.{numbered, CallNoted}
use Rattle.notes.specs.Private.{with_stretch, settled_noted, false_noted, EntryPut, Countable, holds_now, open_now, noted_in, EntriesNoted}
use Rattle.notes.proofs.Entries.{entry_as, entry_then, entry_same}

-- ---- one property: settled, and then whether it holds
module _ (n : ℕ) {m m₁ : List ℕ} {p : ℕ} (c : Countable m p) (a : EntryPut m p (settled_noted n (open_now m p) (entry_of m p)) m₁) where
  row_stays : property_row m₁ p ≡ property_row m p
  row_stays = let h = c.inside in a.before (PROPERTIES + p) (omega arith)

  pub row_inside : {row : ℕ} → row ≡ property_row m₁ p → row < 128
  row_inside e = let r = c.row in let s = row_stays in omega arith

  pub still_countable : Countable m₁ p
  still_countable = record {
    long = a.long ∙ c.long;
    inside = c.inside;
    row = rw row_stays c.row;
    failed = rw a.new c.failed;
    stretch = rw a.new c.stretch;
  }

  -- what is noted where it holds, and where not
  holds_as : {row : ℕ} {z held : Bool} → row ≡ property_row m₁ p → held ≡ is_one (value_at m₁ row) → held ≡ z → holds_now m p ≡ z
  holds_as {row} er eh e =
      let l = row_inside er in
      let same : value_at m₁ row ≡ value_at m row = a.before (VALUES + row) (omega arith) in
      ap (λ (r : ℕ). is_one (value_at m r)) (sym (er ∙ row_stays)) ∙ ap is_one (sym same) ∙ sym eh ∙ e

  true_entry : with_stretch 0 (settled_noted n (open_now m p) (entry_of m p)) ≡ noted n true (open_now m p) (entry_of m p)
  unfolding noted
  true_entry = let none : (entry_of m p).longest ≡ max (entry_of m p).longest 0 = omega arith in rw (← none)

  pub noted_true : {m₂ : List ℕ} {row : ℕ} {held : Bool} → row ≡ property_row m₁ p → held ≡ is_one (value_at m₁ row) → held ≡ true → EntryPut m₁ p (with_stretch 0 (entry_of m₁ p)) m₂ → EntryPut m p (noted_in m n p) m₂
  noted_true er eh e b = rw (holds_as er eh e) (entry_as true_entry (entry_then a (entry_as (ap (with_stretch 0) a.new) b)))

  false_entry : false_noted n (settled_noted n (open_now m p) (entry_of m p)) ≡ noted n false (open_now m p) (entry_of m p)
  unfolding noted
  false_entry = refl

  pub noted_false : {m₂ : List ℕ} {row : ℕ} {held : Bool} → row ≡ property_row m₁ p → held ≡ is_one (value_at m₁ row) → held ≡ false → EntryPut m₁ p (false_noted n (entry_of m₁ p)) m₂ → EntryPut m p (noted_in m n p) m₂
  noted_false er eh e b = rw (holds_as er eh e) (entry_as false_entry (entry_then a (entry_as (ap (false_noted n) a.new) b)))

-- ---- one after the other
pub notes_start : (m : List ℕ) (n : ℕ) → EntriesNoted m n 0 m
notes_start m n = record { long = refl; below = λ i h. refl; new = λ p h. absurd (omega arith); old = λ i h. refl }

module _ {m : List ℕ} (kept : Kept m) where
  few : property_count m ≤ 32
  few = let a = kept.sound.book.assumes_few in let g = kept.sound.book.guarantees_few in omega arith

  property_row_lem : (p : ℕ) → p < property_count m → property_row m p < 128
  property_row_lem p h = let r = kept.sound.book.properties p h in let f = kept.sound.book.few in omega arith

  module _ {n k : ℕ} {m' : List ℕ} (e : EntriesNoted m n k m') (h : k < property_count m) where
    same_row : property_row m' k ≡ property_row m k
    same_row = let f = few in e.below (PROPERTIES + k) (omega arith)

    same_entry : entry_of m' k ≡ entry_of m k
    same_entry = entry_same m m' k (λ j l. e.old (entry_start k + j) (omega arith))

    same_noted : noted_in m' n k ≡ noted_in m n k
    same_noted =
        let f = few in
        let r = property_row_lem k h in
        rw (same_row, e.below (VALUES + property_row m k) (omega arith), e.below (SETTLED + k) (omega arith), same_entry)

    pub notes_countable : number_word m < LAST_COUNTED → Countable m' k
    unfolding ledger_of
    notes_countable counted =
        let f = few in
        let b = kept.ledger.bounds in
        let i = rw (ledger_entry m k h) at (b.entries k h) in
        record {
          long = e.long ∙ kept.sound.book.long;
          inside = omega arith;
          row = rw same_row (property_row_lem k h);
          failed = rw same_entry (omega (arith, i.failed, b.accepted));
          stretch = rw same_entry (omega (arith, i.failed, i.longest, i.stretch, b.accepted));
        }

    pub notes_more : {m'' : List ℕ} → EntryPut m' k (noted_in m' n k) m'' → EntriesNoted m n (k + 1) m''
    notes_more {m''} a = record {
      long = a.long ∙ e.long;
      below = λ i l. a.before i (omega arith) ∙ e.below i l;
      new = λ p l. ⊎_elim
          (λ (q : p < k). entry_same m' m'' p (λ j u. a.before (entry_start p + j) (omega arith)) ∙ e.new p q)
          (λ (q : k ≤ p). let is : p ≡ k = omega arith in rw is (a.new ∙ same_noted))
          (lt_or_ge p k);
      old = λ i l. a.after i (omega arith) ∙ e.old i (omega arith);
    }

-- ---- all of it, in the ledger that the memory then holds
pub ledger_by : (m : List ℕ) {n a c : ℕ} (f : ℕ → Entry) → number_word m ≡ n → taken_word m ≡ a → property_count m ≡ c → ((p : ℕ) → p < c → entry_of m p ≡ f p)
    → ledger_of m ≡ record { number = n; accepted = a; entries = listed f c }
unfolding ledger_of
ledger_by m {n} {a} {c} f en ea ec each = rw (en, ea, ec, listed_agree (entry_of m) f c each)

digit_open : (a : Answer) → eqb (digit_of a) (digit_of Open) ≡ is_open a
digit_open False = refl
digit_open True = refl
digit_open Open = refl

noted_same : {n n' : ℕ} {h h' u u' : Bool} {e e' : Entry} → n ≡ n' → h ≡ h' → u ≡ u' → e ≡ e' → noted n h u e ≡ noted n' h' u' e'
noted_same en eh eu ee = cc

module _ {m : List ℕ} (kept : Kept m) where
  -- the call that handed back r and left the state that the memory holds
  abbrev outcome : ℕ → Outcome
  outcome r = record { number = r; state = state_of m }

  holds_is : (p : ℕ) → p < property_count m → holds_now m p ≡ value (book_of m).rows (state_of m) (property_at (book_of m) p)
  unfolding book_of
  holds_is p h =
      ap is_one (kept.tables.valued.right (property_row m p) (kept.sound.book.properties p h)) ∙ bit_back (value (rows_of m) (state_of m) (property_row m p))
      ∙ ap (value (rows_of m) (state_of m)) (sym (property_is m kept.sound.book p h))

  open_is : (p : ℕ) → p < property_count m → open_now m p ≡ is_open (settled (book_of m).rows (state_of m) (property_at (book_of m) p))
  unfolding book_of
  open_is p h =
      ap (λ (d : ℕ). eqb d (digit_of Open)) (kept.tables.answered.settled p h) ∙ digit_open (settled (rows_of m) (state_of m) (property_row m p))
      ∙ ap (λ (r : ℕ). is_open (settled (rows_of m) (state_of m) r)) (sym (property_is m kept.sound.book p h))

  number_is : number_word m ≡ (ledger_of m).number
  unfolding ledger_of
  number_is = refl

  accepted_is : taken_word m ≡ (ledger_of m).accepted
  unfolding ledger_of
  accepted_is = refl

  pub number_most : number_word m ≤ LAST_COUNTED
  number_most = omega (arith, number_is, kept.ledger.bounds.number)

  pub taken_most : taken_word m ≤ LAST_COUNTED
  taken_most = omega (arith, number_is, accepted_is, kept.ledger.bounds.number, kept.ledger.bounds.accepted)

  noted_is : (p : ℕ) → p < property_count m → noted_in m (suc (number_word m)) p ≡ noted_at (book_of m) (outcome 0) (ledger_of m) p
  noted_is p h = noted_same (ap suc number_is) (holds_is p h) (open_is p h) (sym (ledger_entry m p h))

  -- a memory that differs in its ledger alone, and has the one after the call
  module _ (m' : List ℕ) (long : length m' ≡ length m) (same : (i : ℕ) → i < LEDGER → get_or m' i 0 ≡ get_or m i 0)
      (rest : (i : ℕ) → entry_start (property_count m) ≤ i → get_or m' i 0 ≡ get_or m i 0) where
    alike : Alike m m'
    alike = record { long = long; below = λ i h. same i (omega arith) }

    same_count : property_count m' ≡ property_count m
    same_count = ap₂ (λ (a g : ℕ). a + g) (alike.below 5 (omega arith)) (alike.below 6 (omega arith))

    call_noted : (r : ℕ) → ledger_of m' ≡ next (book_of m) (outcome r) (ledger_of m) → ((r ≡ 0 → ⊥) → m' ≡ numbered m) → CallNoted m r m'
    call_noted r is refused =
        let count = properties_length m kept.sound.book in
        let bounds = next_counts (book_of m) (outcome r) (ledger_of m) (rw count kept.ledger.bounds) in
        record {
          ledger = is;
          alike = alike;
          state = alike_state kept.sound alike;
          book = alike_book kept.sound alike;
          refused = refused;
          kept = record {
            sound = alike_sound kept.sound alike;
            tables = tables_same kept.sound alike (λ i h. same i (omega arith)) kept.tables;
            ledger = record { bounds = rw (is, same_count, ← count) bounds; rest = rw same_count (λ i p h. rest i p ∙ kept.ledger.rest i p h) };
            rests = rw (alike_rows kept.sound alike, alike_state kept.sound alike) kept.rests;
            awaited = record { right = same UNTIL (omega arith) ∙ kept.awaited.right ∙ sym (ap₂ quiet_until (alike_rows kept.sound alike) (alike_state kept.sound alike)) };
          };
        }

  -- ---- after the last call that is counted
  pub noted_past : {last : ℕ} → last ≡ number_word m → LAST_COUNTED ≤ last → (r : ℕ) → CallNoted m r m
  noted_past el h r =
      let most = number_most in
      let stays : number_word m ≡ min (suc (number_word m)) LAST_COUNTED = omega arith in
      call_noted m refl (λ i l. refl) (λ i l. refl) r
      (sym (next_past (book_of m) (outcome r) (ledger_of m) (omega (arith, number_is))))
      (λ ne. sym (set-get_or m LEDGER 0) ∙ ap (set m LEDGER) stays)

  module _ {last : ℕ} (el : last ≡ number_word m) (counted : last < LAST_COUNTED) where
    number_low : (ledger_of m).number < LAST_COUNTED
    number_low = omega (arith, number_is)

    -- ---- a refused call
    pub noted_refused : {r : ℕ} {m' : List ℕ} → (r ≡ 0 → ⊥) → m' ≡ set m LEDGER (last + 1) → CallNoted m r m'
    unfolding ledger_of
    noted_refused {r} {m'} ne is =
        let long = kept.sound.book.long in
        let new : last + 1 ≡ suc (number_word m) = omega arith in
        let capped : last + 1 ≡ min (suc (number_word m)) LAST_COUNTED = omega arith in
        let other : (i : ℕ) → (i ≡ LEDGER → ⊥) → get_or m' i 0 ≡ get_or m i 0 = λ i d. ap (λ (x : List ℕ). get_or x i 0) is ∙ get_or-set_other m LEDGER i (last + 1) 0 d in
        let number : number_word m' ≡ suc (number_word m) = ap (λ (x : List ℕ). number_word x) is ∙ get_or-set_same m LEDGER (last + 1) 0 (omega arith) ∙ new in
        let low : (i : ℕ) → i < LEDGER → get_or m' i 0 ≡ get_or m i 0 = λ i h. other i (omega arith) in
        let high : (i : ℕ) → LEDGER < i → get_or m' i 0 ≡ get_or m i 0 = λ i h. other i (omega arith) in
        let same : (p : ℕ) → entry_of m' p ≡ entry_of m p = λ p. entry_same m m' p (λ j u. high (entry_start p + j) (omega arith)) in
        call_noted m' (ap length is ∙ length-set m LEDGER (last + 1)) low (λ i h. high i (omega arith)) r
        (ledger_by m' (entry_of m) number (high TAKEN (omega arith)) (ap₂ (λ (a g : ℕ). a + g) (low 5 (omega arith)) (low 6 (omega arith))) (λ p h. same p)
        ∙ sym (next_refused (book_of m) (outcome r) (ledger_of m) number_low ne))
        (λ _. is ∙ ap (set m LEDGER) capped)

    -- ---- an accepted call
    pub noted_accepted : {m₁ m₂ m₃ : List ℕ} → EntriesNoted m (last + 1) (property_count m) m₁ → m₂ ≡ set m₁ TAKEN (taken_word m₁ + 1) → m₃ ≡ set m₂ LEDGER (last + 1) → CallNoted m 0 m₃
    noted_accepted {m₁} {m₂} {m₃} e e₂ e₃ =
        let long = kept.sound.book.long in
        let long₁ = e.long in
        let long₂ : length m₂ ≡ length m₁ = ap length e₂ ∙ length-set m₁ TAKEN (taken_word m₁ + 1) in
        let new : last + 1 ≡ suc (number_word m) = omega arith in
        let other₂ : (i : ℕ) → (i ≡ TAKEN → ⊥) → get_or m₂ i 0 ≡ get_or m₁ i 0 = λ i d. ap (λ (x : List ℕ). get_or x i 0) e₂ ∙ get_or-set_other m₁ TAKEN i (taken_word m₁ + 1) 0 d in
        let other₃ : (i : ℕ) → (i ≡ LEDGER → ⊥) → get_or m₃ i 0 ≡ get_or m₂ i 0 = λ i d. ap (λ (x : List ℕ). get_or x i 0) e₃ ∙ get_or-set_other m₂ LEDGER i (last + 1) 0 d in
        let number : number_word m₃ ≡ suc (ledger_of m).number =
        ap (λ (x : List ℕ). number_word x) e₃ ∙ get_or-set_same m₂ LEDGER (last + 1) 0 (omega arith) ∙ new ∙ ap suc number_is in
        let taken : taken_word m₃ ≡ suc (ledger_of m).accepted =
        other₃ TAKEN (omega arith) ∙ ap (λ (x : List ℕ). taken_word x) e₂ ∙ get_or-set_same m₁ TAKEN (taken_word m₁ + 1) 0 (omega arith) ∙ add-one (taken_word m₁) ∙ ap suc (e.below TAKEN (omega arith) ∙ accepted_is) in
        let low : (i : ℕ) → i < LEDGER → get_or m₃ i 0 ≡ get_or m i 0 = λ i h. other₃ i (omega arith) ∙ other₂ i (omega arith) ∙ e.below i (omega arith) in
        let high : (i : ℕ) → TAKEN < i → get_or m₃ i 0 ≡ get_or m₁ i 0 = λ i h. other₃ i (omega arith) ∙ other₂ i (omega arith) in
        let count : property_count m₃ ≡ length (properties (book_of m)) =
        ap₂ (λ (a g : ℕ). a + g) (low 5 (omega arith)) (low 6 (omega arith)) ∙ sym (properties_length m kept.sound.book) in
        let each : (p : ℕ) → p < length (properties (book_of m)) → entry_of m₃ p ≡ noted_at (book_of m) (outcome 0) (ledger_of m) p =
        λ p h.
        let h' : p < property_count m = rw (← properties_length m kept.sound.book) h in
        entry_same m₁ m₃ p (λ j u. high (entry_start p + j) (omega arith)) ∙ e.new p h' ∙ ap (λ (n : ℕ). noted_in m n p) new ∙ noted_is p h' in
        call_noted m₃ (ap length e₃ ∙ length-set m₂ LEDGER (last + 1) ∙ long₂ ∙ long₁) low (λ i h. high i (omega arith) ∙ e.old i h) 0
        (ledger_by m₃ (noted_at (book_of m) (outcome 0) (ledger_of m)) number taken count each ∙ sym (next_accepted (book_of m) (outcome 0) (ledger_of m) number_low refl))
        (λ ne. absurd (ne refl))
