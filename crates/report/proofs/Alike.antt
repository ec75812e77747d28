-- A state's words and the bytes that stand for them are one call. Assumes nothing.
use Prim.Native.Nat.{ℕ}
use mathlib.Core.Path.{◌≡◌, refl, sym, ap, ap₂, ◌∙◌}
use mathlib.Core.Bool.{Bool, true, false}
use mathlib.Core.List.{List, [], ◌∷◌, map}
use native.Mathlib.Omega.{arith}
use lib.ListN.{length-map}
use lib.Dec.{ltb, eqb}
use borrow.Author.Tests.{ltb-true, ne_eqb}
use Rattle.pmtl.specs.Book.{Rows, some}
use Rattle.pmtl.specs.Monitor.{Snap, State}
use Rattle.pmtl.specs.Calls.{Call, Outcome, time_refusal, state_refusal, first_of, turns, refusal, play, call}
use Rattle.pmtl.specs.Calls.Call.{state, stamped}
use Rattle.ledger.specs.Ledger.{next}
use Rattle.memory.specs.Memory.{book_of, state_of, ledger_of}
use Rattle.calls.specs.Called.{Called}
use Rattle.text_reader.specs.Reads.{byte_of}

same_over : (w : ℕ) → ltb 1 (byte_of w) ≡ ltb 1 w
same_over w = by_size (ltb 1 w) refl
  where
    by_size : (t : Bool) → ltb 1 w ≡ t → ltb 1 (byte_of w) ≡ ltb 1 w
    by_size true e = rw e
    by_size false e = rw e e

same_bit : (w : ℕ) → eqb (byte_of w) 1 ≡ eqb w 1
same_bit w = by_size (ltb 1 w) refl
  where
    by_size : (t : Bool) → ltb 1 w ≡ t → eqb (byte_of w) 1 ≡ eqb w 1
    by_size true e = let h = ltb-true 1 w e in rw (e, ne_eqb w 1 (λ z. omega arith))
    by_size false e = rw e

same_some : (ws : List ℕ) → some (ltb 1) (map byte_of ws) ≡ some (ltb 1) ws
unfolding some
same_some [] = refl
same_some (w ∷ ws) = rw (same_over w, same_some ws)

same_bits : (ws : List ℕ) → map (λ x. eqb x 1) (map byte_of ws) ≡ map (λ x. eqb x 1) ws
same_bits [] = refl
same_bits (w ∷ ws) = rw (same_bit w, same_bits ws)

-- a call, by what is wrong with it and by what it leaves
abbrev outcome : Rows → State → ℕ → List Snap → Outcome
outcome b st n ts = elim (eqb n 0) [ true ↦ play b st st ts | false ↦ record { number = n; state = st } ]

by_outcome : (b : Rows) (st : State) (k : Call) → call b st k ≡ outcome b st (refusal b st.now k) (turns st.now k)
unfolding call
by_outcome b st k = refl

-- a call that has a state is the same with its words and with their bytes
abbrev pub Bytewise : (List ℕ → Call) → Type 0
Bytewise asCall = (b : Rows) (st : State) (ws : List ℕ) → call b st (asCall (map byte_of ws)) ≡ call b st (asCall ws)

by_parts : (asCall : List ℕ → Call) → ((b : Rows) (now : Snap) (ws : List ℕ) → refusal b now (asCall (map byte_of ws)) ≡ refusal b now (asCall ws))
    → ((now : Snap) (ws : List ℕ) → turns now (asCall (map byte_of ws)) ≡ turns now (asCall ws)) → Bytewise asCall
by_parts asCall e f b st ws =
    by_outcome b st (asCall (map byte_of ws)) ∙ ap₂ (outcome b st) (e b st.now ws) (f st.now ws) ∙ sym (by_outcome b st (asCall ws))

same_wrong : (b : Rows) (ws : List ℕ) → state_refusal b (map byte_of ws) ≡ state_refusal b ws
same_wrong b ws = rw (length-map ws byte_of, same_some ws)

pub state_bytewise : Bytewise state
unfolding refusal
state_bytewise = by_parts state (λ b now ws. same_wrong b ws) (λ now ws. rw (same_bits ws))

pub stamped_bytewise : (t : ℕ) → Bytewise (stamped t)
unfolding refusal
stamped_bytewise t = by_parts (stamped t) (λ b now ws. ap (first_of (time_refusal now t)) (same_wrong b ws)) (λ now ws. rw (same_bits ws))

pub as_words : (asCall : List ℕ → Call) → Bytewise asCall → (ws : List ℕ) {m m' : List ℕ} {r : ℕ} → Called (asCall (map byte_of ws)) m m' r → Called (asCall ws) m m' r
as_words asCall same ws {m} c =
    record {
      number = c.number ∙ ap (λ (o : Outcome). o.number) (same _ _ ws);
      state = c.state ∙ ap (λ (o : Outcome). o.state) (same _ _ ws);
      book = c.book;
      ledger = c.ledger ∙ ap (λ (o : Outcome). next (book_of m) o (ledger_of m)) (same (book_of m).rows (state_of m) ws);
      turned = c.turned;
      refused = c.refused;
      kept = c.kept;
    }
