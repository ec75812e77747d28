-- The calls that words say, one after the other. Assumes nothing.
use Prim.Native.Nat.{ℕ, zero, suc, ◌+◌, ◌*◌, ◌-◌, ◌≤◌, ◌<◌}
use native.Mathlib.Omega.{arith}
use native.Mathlib.Nat.{zero-add}
use mathlib.Core.Path.{◌≡◌, refl, sym, ap, ◌∙◌}
use mathlib.Core.Bool.{Bool, true, false, cond}
use mathlib.Core.List.{List, [], ◌∷◌, ◌++◌, append_assoc}
use lib.Dec.{eqb}
use lib.ListN.{length, length-append}
use Rattle.numbers.specs.Refusals.{BAD_WORD}
use Rattle.pmtl.specs.Calls.{Call, time, state, stamped}
use Rattle.text.specs.Words.{supply}
use Rattle.book.specs.Reading.{Read, got, refused, Sections}
use Rattle.report.specs.Lines.{Ending, end, stop, call_from, CallsRead, call_then, or_stop, ending_of, calls_from, calls_after}
use Rattle.slip.specs.Says.{sections_said}
use Rattle.slip.specs.Longest.{BOOK_BYTES}
use Rattle.slip.specs.TakenOut.{call_words, all_words, Fits, AllFit}
use Rattle.text.proofs.Few.{Small, few_words, small_ending}
use Rattle.slip.proofs.Words.{ReadCall, call_read, call_back, sections_got}

-- ---- words of calls
pub all_words_lem : (xs ys : List Call) → all_words (xs ++ ys) ≡ all_words xs ++ all_words ys
unfolding all_words
all_words_lem [] ys = refl
all_words_lem (k ∷ xs) ys = ap (λ l. call_words k ++ l) (all_words_lem xs ys) ∙ sym (append_assoc (call_words k) (all_words xs) (all_words ys))

-- a call takes two words at least
two_words : (k : Call) → 2 ≤ length (call_words k)
two_words (time t) = omega arith
two_words (state bytes) = omega arith
two_words (stamped t bytes) = omega arith

pub two_words_each : (ks : List Call) → 2 * length ks ≤ length (all_words ks)
unfolding all_words
two_words_each [] = omega arith
two_words_each (k ∷ ks) = omega (arith, two_words k, two_words_each ks, length-append (call_words k) (all_words ks))

-- ---- what is read
-- how the reading ended, with a number of at most two digits
unfoldable pub EndsSmall : Ending → Type 0
EndsSmall end = Unit {0}
EndsSmall (stop n) = n < 100

ends_small : (ending : ℕ) (ws : List ℕ) → EndsSmall (ending_of ending ws)
unfolding EndsSmall ending_of
ends_small ending [] = go (eqb ending BAD_WORD)
  where
    go : (z : Bool) → EndsSmall (cond z (stop BAD_WORD) end)
    go true = omega arith
    go false = tt
ends_small ending (w ∷ ws) = omega arith

-- the calls read of words, at most n, and the words that are left
pub record Heard (n : ℕ) (ws : List ℕ) (r : CallsRead) : Type 0 where
  pub left : List ℕ
  pub are : ws ≡ all_words r.calls ++ left
  pub fit : AllFit r.calls
  pub counted : length r.calls ≤ n
  pub ends : EndsSmall r.ends

module _ (ending : ℕ) (small : Small ending) where
  pub calls_read : (n : ℕ) (ws : List ℕ) → Heard n ws (calls_from ending n ws)
  unfolding calls_from or_stop all_words EndsSmall ReadCall
  calls_read zero ws = record { left = ws; are = refl; fit = tt; counted = omega arith; ends = ends_small ending ws }
  calls_read (suc n) ws = go (call_from ending ws) (call_read ending small ws) (calls_read n)
    where
      go : (r : Read Call) → ReadCall ws r → ((rest : List ℕ) → Heard n rest (calls_from ending n rest)) → Heard (suc n) ws (or_stop r λ k rest. call_then k (calls_from ending n rest))
      go (got k rest) c ih =
          let h = ih rest in
          record {
            left = h.left;
            are = c.0 ∙ ap (λ l. call_words k ++ l) h.are ∙ sym (append_assoc (call_words k) (all_words (calls_from ending n rest).calls) h.left);
            fit = (c.1, h.fit);
            counted = omega (arith, h.counted);
            ends = h.ends;
          }
      go (refused m) c ih = record { left = ws; are = refl; fit = tt; counted = omega arith; ends = c.1 }

-- the calls after their count
pub after_read : (ending : ℕ) → Small ending → (ws : List ℕ) → EndsSmall (calls_after ending ws).ends × (2 * length (calls_after ending ws).calls ≤ length ws - 1)
unfolding calls_after EndsSmall
after_read ending small [] = (small.1, omega arith)
after_read ending small (count ∷ ws) =
    let h = calls_read ending small count ws in
    let ks = (calls_from ending count ws).calls in
    (h.ends, omega (arith, two_words_each ks, length-append (all_words ks) h.left, ap length h.are))

-- of an input: each takes four bytes at least, and the book nine
pub few_calls : (input : List ℕ) {s : Sections} {ws : List ℕ} → sections_said input ≡ got s ws → 4 * length (calls_after (supply input).ending ws).calls ≤ length input - BOOK_BYTES
few_calls input {s} {ws} e =
    let ending = (supply input).ending in
    let g = sections_got ending (small_ending input) (supply input).words e in
    let c = after_read ending (small_ending input) ws in
    omega (arith, g.1, c.1, few_words input)

-- ---- calls that words begin with are read first
abbrev pub calls_then : List Call → CallsRead → CallsRead
calls_then ks r = record { calls = ks ++ r.calls; ends = r.ends }

pub first_call : (ending m : ℕ) (k : Call) (rest : List ℕ) → Fits k → calls_from ending (suc m) (call_words k ++ rest) ≡ call_then k (calls_from ending m rest)
unfolding calls_from or_stop
first_call ending m k rest f = rw (call_back ending k rest f)

pub first_calls_lem : (ending : ℕ) (ks : List Call) → AllFit ks → (n : ℕ) (ws : List ℕ) → calls_from ending (length ks + n) (all_words ks ++ ws) ≡ calls_then ks (calls_from ending n ws)
unfolding all_words
first_calls_lem ending [] f n ws = rw zero-add
first_calls_lem ending (k ∷ ks) f n ws =
    let e : suc (length ks) + n ≡ suc (length ks + n) = omega arith in
    rw (e, append_assoc (call_words k) (all_words ks) ws) (first_call ending (length ks + n) k (all_words ks ++ ws) f.0 ∙ ap (call_then k) (first_calls_lem ending ks f.1 n ws))
