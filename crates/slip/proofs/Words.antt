-- What is read from words: how many they are, how many are left, and the numbers that end a reading. Assumes nothing.
use Prim.Native.Nat.{ℕ, ◌+◌, ◌*◌, ◌≤◌}
use native.Mathlib.Omega.{arith}
use native.Mathlib.Nat.{mul-le-mul_left}
use mathlib.Core.Path.{◌≡◌, refl, sym, ap, ap₂, ◌∙◌}
use mathlib.Core.Bool.{Bool, true, false, cond}
use mathlib.Core.List.{List, [], ◌∷◌, ◌++◌, append_assoc}
use lib.Dec.{ltb, eqb}
use lib.ListN.{length, take, drop, length-append, length-drop, take-append-drop}
use lib.Seq.{length-take-le, take-append_seam, drop-append_seam}
use borrow.Author.Tests.{ltb-false, eqb-true, le-ltb}
use Rattle.numbers.specs.Limits.{MOST_ATOMS}
use Rattle.text.proofs.Few.{Small}
use Rattle.pmtl.specs.Calls.{Call, time, state, stamped}
use Rattle.book.specs.Reading.{Read, got, refused, section, next, Sections, sections}
use Rattle.report.specs.Lines.{time_from, state_from, stamped_from, call_from}
use Rattle.slip.specs.TakenOut.{call_words, Fits}

-- ---- sections
-- what is so of what is read of words, and of how many are left
unfoldable Sized : {A : Type 0} → (A → ℕ → Type 0) → Read A → Type 0
Sized P (got x rest) = P x (length rest)
Sized P (refused n) = Small n

then_sized : {A B : Type 0} (P : A → ℕ → Type 0) (Q : B → ℕ → Type 0) (r : Read A) (f : A → List ℕ → Read B) → Sized P r
    → ((x : A) (rest : List ℕ) → P x (length rest) → Sized Q (f x rest)) → Sized Q (next r f)
unfolding next Sized
then_sized P Q (refused n) f s g = s
then_sized P Q (got x rest) f s g = g x rest s

-- at most so many items, which are of the words, as their count is
abbrev Items : ℕ → ℕ → ℕ → List ℕ → ℕ → Type 0
Items all limit size items left = (length items ≤ size * limit) × (1 + length items + left ≤ all)

-- the properties of a book are not too many
abbrev pub Few : Sections → Type 0
Few s = (length s.assumes ≤ 16) × (length s.guarantees ≤ 16)

-- a call that is read: its words, and what is left
unfoldable pub ReadCall : List ℕ → Read Call → Type 0
ReadCall ws (got k rest) = (ws ≡ call_words k ++ rest) × Fits k
ReadCall ws (refused n) = Small n

module _ (ending : ℕ) (small : Small ending) where
  section_sized : (limit size : ℕ) (ws : List ℕ) → Sized (Items (length ws) limit size) (section ending limit size ws)
  unfolding section Sized
  section_sized limit size [] = small
  section_sized limit size (n ∷ ws) = go (ltb limit n) refl (ltb (length ws) (size * n)) refl
    where
      go : (y : Bool) → ltb limit n ≡ y → (z : Bool) → ltb (length ws) (size * n) ≡ z
          → Sized (Items (length (n ∷ ws)) limit size) (cond y (refused 2) (cond z (refused ending) (got (take (size * n) ws) (drop (size * n) ws))))
      go true e z f = (omega arith, omega arith)
      go false e true f = small
      go false e false f =
          let h = ltb-false (length ws) (size * n) f in
          let k = ltb-false limit n e in
          (rw (length-take-le (size * n) ws h) (mul-le-mul_left size k), omega (arith, length-take-le (size * n) ws h, length-drop (size * n) ws))

  -- the properties of a book that is read are not too many
  sections_sized : (ws : List ℕ) → Sized (λ s left. Few s × (4 + length s.rows + left ≤ length ws)) (sections ending ws)
  unfolding sections Sized
  sections_sized ws =
      let Read-so : Sections → ℕ → Type 0 = λ s left. Few s × (4 + length s.rows + left ≤ length ws) in
      then_sized (Items (length ws) 128 4) Read-so (section ending 128 4 ws) _ (section_sized 128 4 ws) λ rows ws₁ r.
      then_sized (Items (length ws₁) 128 1) Read-so (section ending 128 1 ws₁) _ (section_sized 128 1 ws₁) λ operands ws₂ o.
      then_sized (Items (length ws₂) 16 1) Read-so (section ending 16 1 ws₂) _ (section_sized 16 1 ws₂) λ assumes ws₃ a.
      then_sized (Items (length ws₃) 16 1) Read-so (section ending 16 1 ws₃) _ (section_sized 16 1 ws₃) λ guarantees ws₄ g.
      ((omega arith, omega arith), omega arith)

  pub sections_got : (ws : List ℕ) {s : Sections} {rest : List ℕ} → sections ending ws ≡ got s rest → Few s × (4 + length s.rows + length rest ≤ length ws)
  unfolding Sized
  sections_got ws e = rw e at (sections_sized ws)

  pub sections_refused : (ws : List ℕ) {n : ℕ} → sections ending ws ≡ refused n → Small n
  unfolding Sized
  sections_refused ws e = rw e at (sections_sized ws)

  -- ---- calls
  time_read : (ws : List ℕ) → ReadCall (0 ∷ ws) (time_from ending ws)
  unfolding ReadCall time_from
  time_read [] = small
  time_read (t ∷ ws) = (refl, tt)

  -- a call that has a state, whose words are those before it, the width and the state's
  module _ (asCall : List ℕ → Call) (head : List ℕ) (are : (bytes : List ℕ) → call_words (asCall bytes) ≡ head ++ length bytes ∷ bytes) (fit : (bytes : List ℕ) → length bytes ≤ MOST_ATOMS → Fits (asCall bytes)) where
    held_read : (ws : List ℕ) → ReadCall (head ++ ws) (state_from asCall ending ws)
    unfolding ReadCall state_from next section
    held_read [] = small
    held_read (n ∷ ws) = go (ltb MOST_ATOMS n) refl (ltb (length ws) (1 * n)) refl
      where
        go : (y : Bool) → ltb MOST_ATOMS n ≡ y → (z : Bool) → ltb (length ws) (1 * n) ≡ z
            → ReadCall (head ++ n ∷ ws) (next (cond y (refused 2) (cond z (refused ending) (got (take (1 * n) ws) (drop (1 * n) ws)))) λ bytes rest. got (asCall bytes) rest)
        go true e z f = (omega arith, omega arith)
        go false e true f = small
        go false e false f =
            let bytes : List ℕ = take (1 * n) ws in
            let l : length bytes ≡ n = length-take-le (1 * n) ws (ltb-false (length ws) (1 * n) f) ∙ omega arith in
            let k = ltb-false MOST_ATOMS n e in
            (ap₂ (λ m xs. head ++ m ∷ xs) (sym l) (sym (take-append-drop (1 * n) ws)) ∙ sym (append_assoc head (length bytes ∷ bytes) (drop (1 * n) ws)) ∙ ap (λ l. l ++ drop (1 * n) ws) (sym (are bytes)), fit bytes (omega arith))

  state_read : (ws : List ℕ) → ReadCall (1 ∷ ws) (state_from state ending ws)
  state_read = held_read state (1 ∷ []) (λ bytes. refl) (λ bytes h. h)

  stamped_read : (ws : List ℕ) → ReadCall (2 ∷ ws) (stamped_from ending ws)
  unfolding stamped_from ReadCall
  stamped_read [] = small
  stamped_read (t ∷ ws) = held_read (stamped t) (2 ∷ t ∷ []) (λ bytes. refl) (λ bytes h. h) ws

  pub call_read : (ws : List ℕ) → ReadCall ws (call_from ending ws)
  unfolding ReadCall call_from
  call_read [] = small
  call_read (kind ∷ ws) = go (eqb kind 0) refl (eqb kind 1) refl (eqb kind 2) refl
    where
      go : (y : Bool) → eqb kind 0 ≡ y → (z : Bool) → eqb kind 1 ≡ z → (x : Bool) → eqb kind 2 ≡ x
          → ReadCall (kind ∷ ws) (cond y (time_from ending ws) (cond z (state_from state ending ws) (cond x (stamped_from ending ws) (refused 13))))
      go true e z f x g = rw (eqb-true kind 0 e) (time_read ws)
      go false e true f x g = rw (eqb-true kind 1 f) (state_read ws)
      go false e false f true g = rw (eqb-true kind 2 g) (stamped_read ws)
      go false e false f false g = (omega arith, omega arith)

-- and the other way: a state's words are read as the call that has it, whatever follows them
held_back : (asCall : List ℕ → Call) (ending : ℕ) (bytes rest : List ℕ) → length bytes ≤ MOST_ATOMS → state_from asCall ending (length bytes ∷ bytes ++ rest) ≡ got (asCall bytes) rest
unfolding state_from next section
held_back asCall ending bytes rest f =
    let e : 1 * length bytes ≡ length bytes = omega arith in
    rw (le-ltb MOST_ATOMS (length bytes) f, e, le-ltb (length (bytes ++ rest)) (length bytes) (omega (arith, length-append bytes rest)), take-append_seam bytes rest, drop-append_seam bytes rest)

-- and so a call's
pub call_back : (ending : ℕ) (k : Call) (rest : List ℕ) → Fits k → call_from ending (call_words k ++ rest) ≡ got k rest
unfolding call_from time_from stamped_from
call_back ending (time t) rest f = refl
call_back ending (state bytes) rest f = held_back state ending bytes rest f
call_back ending (stamped t bytes) rest f = held_back (stamped t) ending bytes rest f
