-- Laws of a call that is read and made. Assumes nothing.
use Prim.Native.Nat.{ℕ, ◌<◌}
use mathlib.Core.Path.{◌≡◌}
use mathlib.Core.List.{List, ◌∷◌}
use native.Mathlib.Omega.{arith}
use lib.ListN.{take}
use borrow.Author.Tests.{ne_eqb}
use Rattle.std.proofs.Common.{Option, Some, None, Result, Ok, Err}
use Rattle.numbers.specs.declared.Refusal.{Refusal}
use Rattle.numbers.specs.Refusals.{number_of, BAD_WORD}
use Rattle.text.specs.Words.{read, next_word, supply_from}
use Rattle.text.specs.declared.words.Word.{Word}
use Rattle.text.proofs.Supplies.{same, word, refused as ended}
use Rattle.pmtl.specs.Calls.{Call}
use Rattle.pmtl.specs.Calls.Call.{time}
use Rattle.book.specs.Reading.{Read, refused, next as andNext}
use Rattle.calls.specs.Called.{Called}
use Rattle.text_reader.specs.declared.Part.{Part}
use Rattle.text_reader.specs.Reads.{StateTook, StateRead}
use Rattle.report.specs.declared.text_calls.Turn.{Turn}
use Rattle.report.specs.declared.text_calls.Kind.{Kind}
use Rattle.report.specs.declared.text_calls.Kind.TheVariants.{Time, State, Stamped}
use Rattle.report.specs.Lines.{time_from, state_from, stamped_from, call_from}
use Rattle.report.specs.Private.{word_of_kind, CallMade, Turned, with_stamp, time_word}
use Rattle.report.proofs.Alike.{Bytewise, as_words, state_bytewise, stamped_bytewise}

-- ---- the bytes of a state, whichever call has them
pub with_bytewise : (stamp : Option ℕ) → Bytewise (with_stamp stamp)
unfolding with_stamp
with_bytewise (Some t) = stamped_bytewise t
with_bytewise None = state_bytewise

module _ (input : List ℕ) (at : ℕ) where
  -- ---- a state, and the call that has it
  pub no_state : (asCall : List ℕ → Call) (m' : List ℕ) (r : Refusal) → StateRead input at m' (Err r) → state_from asCall (supply_from input at).ending (supply_from input at).words ≡ refused (number_of r)
  unfolding state_from andNext StateRead
  no_state asCall m' r k = rw k

  pub state_there : (m' : List ℕ) {p : Part} → StateRead input at m' (Ok p) → StateTook input at m' p.end p.next
  unfolding StateRead
  state_there m' k = k

  pub stated : (asCall : List ℕ → Call) → Bytewise asCall → {bytes : List ℕ} {width next : ℕ} {m m' : List ℕ} {r : ℕ} → StateTook input at bytes width next → Called (asCall (take width bytes)) m m' r → CallMade input (supply_from input at).ending (state_from asCall (supply_from input at).ending (supply_from input at).words) m m' r next
  unfolding state_from andNext
  stated asCall same k c =
      record {
        what = asCall k.words;
        read = rw k.read;
        ending_on = k.ending;
        called = as_words asCall same k.words (rw k.stand at c);
      }

  -- ---- a word, and what is read after it
  module _ {word_read : Word} (e : next_word input at ≡ Ok word_read) where
    ending_kept : (supply_from input word_read.next).ending ≡ (supply_from input at).ending
    ending_kept = rw (word input at e).gave

    turned : {asked asked' : Read Call} (m m' : List ℕ) (t : Result Turn Refusal) → asked ≡ asked' → Turned input (supply_from input word_read.next).ending asked m m' t → Turned input (supply_from input at).ending asked' m m' t
    unfolding Turned
    turned m m' t f k = rw (← f, ← ending_kept) k

  -- ---- the rest of a call by its kind: its time, if it has one
  pub no_time : (kind : Kind) {r : Refusal} → time_word kind input at ≡ Err r → call_from (supply_from input at).ending (word_of_kind kind ∷ (supply_from input at).words) ≡ refused (number_of r)
  unfolding time_word call_from time_from stamped_from
  no_time Time e = rw (ended input at e)
  no_time State e = let z : ◌≡◌ {A = ℕ} 0 1 = cc in absurd (omega arith)
  no_time Stamped e = rw (ended input at e)

  pub timed : {t : Word} {m m' : List ℕ} {r : ℕ} → next_word input at ≡ Ok t → Called (time t.number) m m' r → CallMade input (supply_from input at).ending (call_from (supply_from input at).ending (0 ∷ (supply_from input at).words)) m m' r t.next
  unfolding call_from time_from
  timed {t} e c =
      record {
        what = time t.number;
        read = rw (word input at e).gave;
        ending_on = rw (word input at e).gave;
        called = c;
      }

  -- and its state
  pub with_none : {t : Word} → read 0 at ≡ Ok t → (m m' : List ℕ) (turn : Result Turn Refusal) → Turned input (supply_from input t.next).ending (state_from (with_stamp None) (supply_from input t.next).ending (supply_from input t.next).words) m m' turn → Turned input (supply_from input at).ending (call_from (supply_from input at).ending (1 ∷ (supply_from input at).words)) m m' turn
  unfolding call_from with_stamp
  with_none {t} e m m' turn k = let z : at ≡ t.next = (same e).1 in rw z k

  pub with_some : {t : Word} → next_word input at ≡ Ok t → (m m' : List ℕ) (turn : Result Turn Refusal) → Turned input (supply_from input t.next).ending (state_from (with_stamp (Some t.number)) (supply_from input t.next).ending (supply_from input t.next).words) m m' turn → Turned input (supply_from input at).ending (call_from (supply_from input at).ending (2 ∷ (supply_from input at).words)) m m' turn
  unfolding call_from stamped_from with_stamp
  with_some e m m' turn k = turned e m m' turn (rw (word input at e).gave) k

  -- ---- calls
  pub no_kind : {r : Refusal} → next_word input at ≡ Err r → call_from (supply_from input at).ending (supply_from input at).words ≡ refused (number_of r)
  unfolding call_from
  no_kind e = rw (ended input at e)

  module _ {kind : Word} (e : next_word input at ≡ Ok kind) where
    pub other_kind : 2 < kind.number → call_from (supply_from input at).ending (supply_from input at).words ≡ refused BAD_WORD
    unfolding call_from
    other_kind h = rw ((word input at e).gave, ne_eqb kind.number 0 (λ x. omega arith), ne_eqb kind.number 1 (λ x. omega arith), ne_eqb kind.number 2 (λ x. omega arith))

    pub turned_kind : {n : ℕ} → n ≡ kind.number → (m m' : List ℕ) (t : Result Turn Refusal) → Turned input (supply_from input kind.next).ending (call_from (supply_from input kind.next).ending (n ∷ (supply_from input kind.next).words)) m m' t → Turned input (supply_from input at).ending (call_from (supply_from input at).ending (supply_from input at).words) m m' t
    turned_kind f m m' t k = turned e m m' t (rw (f, (word input at e).gave)) k
