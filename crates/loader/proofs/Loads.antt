-- What loading leaves, accepted and refused. Assumes nothing.
use Prim.Native.Nat.{ℕ, ◌≤◌}
use mathlib.Core.Path.{◌≡◌, refl, sym, ap, ap₂, ◌∙◌}
use mathlib.Core.Bool.{Bool, true, false, true≢false}
use mathlib.Core.List.{List}
use lib.ListN.{get_or}
use Rattle.pmtl.specs.Book.{Book, empty_book}
use Rattle.pmtl.specs.Sets.{Way}
use Rattle.pmtl.specs.Monitor.{State, initial_in}
use Rattle.ring.specs.Ring.{turn_of}
use Rattle.pmtl.specs.Again.{Rests}
use Rattle.memory.specs.Layout.{LEDGER}
use Rattle.memory.specs.Memory.{rows_of, book_of, way_of, state_of}
use Rattle.memory.specs.Kept.{Sound, Awaited}
use Rattle.memory.specs.Tables.{Tables}
use Rattle.memory.specs.Alike.{Alike, SameLedger}
use Rattle.memory.proofs.Alike.{alike_sound, alike_book, alike_set, alike_state}
use Rattle.ledger.specs.Ledger.{blank_ledger}
use Rattle.book.specs.declared.loading.Loading.{Loading}
use Rattle.book.specs.Judging.{Loaded, book_in, loaded}
use Rattle.book.specs.Placing.{parts_of, Counted, Placed}
use Rattle.book.specs.Strict.{roomed}
use Rattle.book.specs.Loading.{way_in, takes, loaded_by}
use Rattle.book.proofs.Placing.{parts_few, accepted, accepted_book}
use Rattle.book.proofs.Excess.{accepted_roomed, refused_roomed}
use Rattle.book.proofs.Admitted.{taken_stays, nested_refused}
use Rattle.loader.specs.Loading.{Loads}
use Rattle.loader.specs.Private.{Accepted, Holds, Stored}
use Rattle.loader.proofs.Blank.{ledger_blank, kept_blank}

module _ (way : Loading) (words : List ℕ) where
  -- a book that is accepted is accepted in ordinary loading, as the same book
  module _ {n o a g : ℕ} (en : ◌≡◌ {A = ℕ} 0 (roomed way (loaded words)).number) (counted : Counted words n o a g) where
    same_book : roomed way (loaded words) ≡ loaded words
    same_book = accepted_roomed way (loaded words) (sym en)

    placed : Placed words 0 n o a g
    placed = record { number_is = en ∙ ap (λ (l : Loaded). l.number) same_book; counted = λ z. counted; none = λ ne. absurd (ne refl) }

    pub placed_accepted : Accepted (parts_of words n o a g)
    placed_accepted = record { few = parts_few words n o a g counted; good = accepted words 0 n o a g placed refl }

    pub stored_accepted : {m : List ℕ} → Holds (way_in way) (book_in (parts_of words n o a g)) m → Stored way words m 0
    stored_accepted h = record { number = en; held = rw (same_book ∙ accepted_book words 0 n o a g placed refl) h }

  pub stored_refused : {number : ℕ} → number ≡ (roomed way (loaded words)).number → (number ≡ 0 → ⊥) → {m : List ℕ} → Holds (way_in way) empty_book m → Stored way words m number
  stored_refused en no-0 h = record { number = en; held = rw (refused_roomed way words (λ e. no-0 (en ∙ e))) h }

-- ---- once the tables are worked out, too
module _ {w : Way} {b : Book} {m m' : List ℕ} (h : Holds w b m) (alike : Alike m m') where
  pub worked_sound : Sound m'
  worked_sound = alike_sound h.sound alike

  worked_book : book_of m' ≡ b
  worked_book = alike_book h.sound alike ∙ h.book

  worked_state : state_of m' ≡ initial_in w b.rows
  worked_state = alike_state h.sound alike ∙ h.state

  -- whether the monitor's way takes its book
  worked_taken : takes (way_of m') (rows_of m') ≡ takes w b.rows
  unfolding state_of initial_in book_of
  worked_taken = ap₂ takes (ap (λ (st : State). st.way) worked_state) (ap (λ (x : Book). x.rows) worked_book)

  -- no call was accepted yet
  worked_rests : Rests (rows_of m') (state_of m')
  unfolding initial_in
  worked_rests begun = absurd (true≢false (sym begun ∙ ap (λ (st : State). st.begun) worked_state))

worked : (way : Loading) {b : Book} {m m' : List ℕ} → Holds (way_in way) b m → Alike m m' → Tables m' → SameLedger m m' → Awaited m' → (words : List ℕ) {l : Loaded} {r : ℕ} → loaded_by way words ≡ l → b ≡ l.book
    → r ≡ l.number → Loads way words m' r
worked way {m' = m'} h alike tables same awaited words is eb er =
    let sound = worked_sound h alike in
    let blank : (i : ℕ) → LEDGER ≤ i → get_or m' i 0 ≡ 0 = λ i p. same.words i p ∙ h.blank i p in
    record {
      number = rw is er;
      book = rw is (worked_book h alike ∙ eb);
      state = rw is (worked_state h alike ∙ ap (λ (x : Book). initial_in (way_in way) x.rows) eb);
      turns = λ j p. ap turn_of (alike_set h.sound alike j p) ∙ h.turns j p;
      ledger = rw is (ledger_blank sound.book blank ∙ ap blank_ledger (worked_book h alike ∙ eb));
      kept = record { sound = sound; tables = tables; ledger = kept_blank sound.book blank; rests = worked_rests h alike; awaited = awaited };
    }

module _ {way : Loading} {words m m' : List ℕ} {r : ℕ} (st : Stored way words m r) (alike : Alike m m') {t : Bool} (et : t ≡ takes (way_of m') (rows_of m')) where
  judged_so : {z : Bool} → t ≡ z → takes (way_in way) (roomed way (loaded words)).book.rows ≡ z
  judged_so e = sym (et ∙ worked_taken st.held alike) ∙ e

  pub loads_taken : Tables m' → SameLedger m m' → Awaited m' → t ≡ true → Loads way words m' r
  loads_taken tables same awaited e = worked way st.held alike tables same awaited words (taken_stays (way_in way) (roomed way (loaded words)) (judged_so e)) refl st.number

  pub loads_nested : {m₁ m₂ : List ℕ} → t ≡ false → Holds (way_in way) empty_book m₁ → Alike m₁ m₂ → Tables m₂ → SameLedger m₁ m₂ → Awaited m₂ → Loads way words m₂ 17
  loads_nested e empty alike₂ tables same awaited = worked way empty alike₂ tables same awaited words (nested_refused (way_in way) (roomed way (loaded words)) (judged_so e)) refl refl
