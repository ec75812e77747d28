-- Laws of symbols, for the proofs of `symbols`. Assumes nothing.
use Prim.Native.Nat.{ℕ, suc, ◌+◌, ◌-◌, ◌≤◌, ◌<◌}
use mathlib.Core.Path.{◌≡◌, refl, sym, ap, ◌∙◌}
use mathlib.Core.Bool.{Bool, true, false, not, ◌&&◌, ◌||◌, and-false, false≢true}
use mathlib.Core.List.{List, [], ◌∷◌}
use native.Mathlib.Omega.{arith}
use native.Mathlib.Numerals.{add-one}
use lib.Dec.{leb, ltb, eqb}
use Rattle.std.proofs.Common.{add-zero}
use Rattle.std.proofs.Math.Seq.{take-length}
use Rattle.std.specs.Prelude.{cond, Result, Ok, Err, Some, None}
use Rattle.std.specs.List.{position, position_or_len}
use Rattle.std.proofs.lemmas.List.Recursion.{is_position_or_len}
use Rattle.std.proofs.lemmas.List.{get_or-drop, length-drop}
use lib.Pointwise.{pointwise}
use Rattle.std.specs.Char.{is_ascii_alphabetic, is_ascii_digit}
use lib.ListN.{length, get_or, take, drop, drop_of_length-le}
use lib.Seq.{drop-cons, drop-drop}
use Rattle.std.proofs.lemmas.Option.{none-some}
use borrow.Author.Tests.{le-leb, lt-leb, eq-eqb, ne_eqb, eqb-true, eqb-false, leb-true, ltb-true, ltb-false}
use Rattle.text.specs.Words.{pick, parts, digit, letters, all_digits, said, good, read, word_here, next_in, next_word}
use Rattle.numbers.specs.declared.Refusal.{Refusal}
use Rattle.numbers.specs.declared.Refusal.TheVariants.{BadWord}
use Rattle.text.specs.declared.words.Word.{Word}
use Rattle.rule_scanner.specs.Symbols.{letter, class_of, goes_on, run_of, same, name_of, number_of, mark_of, symbol_of, begins, symbols_after}
use Rattle.rule_scanner.specs.Steps.{symbols_from, Next}
use Rattle.rule_scanner.specs.declared.symbols.Symbol.{Symbol}
use Rattle.rule_scanner.specs.declared.symbols.Symbol.TheVariants.{Number, Bad, End}

-- ---- letters, classes
pub letter_is : (b : ℕ) → is_ascii_alphabetic b ≡ letter b
unfolding letter
letter_is b = refl

pub digit_is : (b : ℕ) → is_ascii_digit b ≡ digit b
unfolding digit
digit_is b = refl

is_digit : (b : ℕ) → class_of b ≡ 2 → digit b ≡ true
unfolding class_of pick
is_digit b = by_tests (parts b) (letter b) (digit b)
  where
    by_tests : (p l d : Bool) → ◌≡◌ {A = ℕ} (pick p 0 (pick l 1 (pick d 2 3))) 2 → d ≡ true
    by_tests true l d e = absurd (omega arith)
    by_tests false true d e = absurd (omega arith)
    by_tests false false true e = refl
    by_tests false false false e = absurd (omega arith)

-- ---- runs
at_place : (s : List ℕ) (i : ℕ) → i < length s → drop i s ≡ get_or s i 0 ∷ drop (i + 1) s
at_place s i h = drop-cons s i 0 h ∙ rw add-one

run_on : (c b : ℕ) (s : List ℕ) → class_of b ≡ c → run_of c (b ∷ s) ≡ b ∷ run_of c s
unfolding run_of pick
run_on c b s e = rw (eq-eqb (class_of b) c e)

run_off : (c b : ℕ) (s : List ℕ) → (class_of b ≡ c → ⊥) → run_of c (b ∷ s) ≡ []
unfolding run_of pick
run_off c b s e = rw (ne_eqb (class_of b) c e)

-- what a range to the end is
pub rest_is : (s : List ℕ) (at : ℕ) → take (length s - at) (drop at s) ≡ drop at s
rest_is s at = rw (← length-drop at s) (take-length (drop at s))

-- the first byte of another class stands where the run ends
abbrev pub other : ℕ → ℕ → Bool
other c b = not (eqb (class_of b) c)

run_first : (c : ℕ) (l : List ℕ) → length (run_of c l) ≡ position_or_len (other c) l
unfolding run_of pick
run_first c l = is_position_or_len (λ (l : List ℕ). length (run_of c l)) (other c) refl one_more l
  where
    by_test : (b : ℕ) (l : List ℕ) (t : Bool) → length (pick t (b ∷ run_of c l) []) ≡ cond (not t) 0 (1 + length (run_of c l))
    by_test b l true = omega arith
    by_test b l false = refl

    one_more : (b : ℕ) (l : List ℕ) → length (run_of c (b ∷ l)) ≡ cond (other c b) 0 (1 + length (run_of c l))
    one_more b l = by_test b l (eqb (class_of b) c)

run_short : (c : ℕ) (l : List ℕ) → length (run_of c l) ≤ length l
unfolding run_of pick
run_short c [] = omega arith
run_short c (b ∷ l) = by_test (eqb (class_of b) c) (run_short c l)
  where
    by_test : (t : Bool) → length (run_of c l) ≤ length l → length (pick t (b ∷ run_of c l) []) ≤ length (b ∷ l)
    by_test true h = omega arith
    by_test false h = omega arith

module _ (c : ℕ) (l : List ℕ) where
  pub run_some : {i : ℕ} → Some i ≡ position (other c) l → (i ≡ length (run_of c l)) × (i < length l)
  run_some {i} e = by_test (ltb (position_or_len (other c) l) (length l)) refl e
    where
      by_test : (t : Bool) → ltb (position_or_len (other c) l) (length l) ≡ t → Some i ≡ cond t (Some (position_or_len (other c) l)) None → (i ≡ length (run_of c l)) × (i < length l)
      by_test true f g = let v : i ≡ position_or_len (other c) l = cc in let k = ltb-true _ _ f in (omega (arith, run_first c l), omega arith)
      by_test false f g = absurd (none-some i (sym g))

  pub run_none : position (other c) l ≡ None → length l ≡ length (run_of c l)
  run_none e = by_test (ltb (position_or_len (other c) l) (length l)) refl e
    where
      by_test : (t : Bool) → ltb (position_or_len (other c) l) (length l) ≡ t → cond t (Some (position_or_len (other c) l)) None ≡ None → length l ≡ length (run_of c l)
      by_test true f g = absurd (none-some (position_or_len (other c) l) (sym g))
      by_test false f g = let k = ltb-false _ _ f in omega (arith, run_first c l, run_short c l)

-- a run stands at the start of what it is of
run_take : (c : ℕ) (l : List ℕ) → take (length (run_of c l)) l ≡ run_of c l
unfolding run_of pick
run_take c [] = refl
run_take c (b ∷ l) = by_test (eqb (class_of b) c) refl (run_take c l)
  where
    by_test : (t : Bool) → eqb (class_of b) c ≡ t → take (length (run_of c l)) l ≡ run_of c l → take (length (run_of c (b ∷ l))) (b ∷ l) ≡ run_of c (b ∷ l)
    by_test true e r = rw e (ap (λ (z : List ℕ). b ∷ z) r)
    by_test false e r = rw e

run_digits : (l : List ℕ) → all_digits (run_of 2 l) ≡ true
unfolding run_of pick all_digits
run_digits [] = refl
run_digits (b ∷ l) = by_test (eqb (class_of b) 2) refl (run_digits l)
  where
    by_test : (t : Bool) → eqb (class_of b) 2 ≡ t → all_digits (run_of 2 l) ≡ true → all_digits (run_of 2 (b ∷ l)) ≡ true
    by_test true e r = rw (e, is_digit b (eqb-true (class_of b) 2 e)) r
    by_test false e r = rw e

-- ---- the same bytes
pub same_is : (a b : List ℕ) → pointwise eqb a b ≡ same a b
unfolding same
same_is [] [] = refl
same_is [] (y ∷ b) = refl
same_is (x ∷ a) [] = refl
same_is (x ∷ a) (y ∷ b) = rw (same_is a b) refl

-- ---- numbers
digit_parts : (b : ℕ) → digit b ≡ true → parts b ≡ false
unfolding digit parts
digit_parts b e = let h = leb-true 48 b (first (leb 48 b) (leb b 57) e) in rw (ne_eqb b 32 (λ z. omega arith), ne_eqb b 10 (λ z. omega arith))
  where
    first : (x y : Bool) → (x && y) ≡ true → x ≡ true
    first true y e = refl
    first false y e = e

letters_digits : (w : List ℕ) → all_digits w ≡ true → letters w ≡ w
unfolding letters all_digits pick
letters_digits [] e = refl
letters_digits (b ∷ w) e = by_test (digit b) refl e (λ h. letters_digits w h)
  where
    by_test : (t : Bool) → digit b ≡ t → (t && all_digits w) ≡ true → (all_digits w ≡ true → letters w ≡ w) → letters (b ∷ w) ≡ b ∷ w
    by_test true d h r = rw (digit_parts b d) (ap (λ (z : List ℕ). b ∷ z) (r h))
    by_test false d h r = absurd (false≢true h)

first_digit : (b : ℕ) (w : List ℕ) → all_digits (b ∷ w) ≡ true → digit b ≡ true
unfolding all_digits
first_digit b w e = by_test (digit b) e
  where
    by_test : (t : Bool) → (t && all_digits w) ≡ true → t ≡ true
    by_test true h = refl
    by_test false h = h

number_word : (w : List ℕ) → 0 < length w → all_digits w ≡ true → next_word w 0 ≡ pick (good w) (read (said 0 w) (0 + length w)) (Err BadWord)
unfolding next_word next_in word_here pick
number_word [] h e = absurd (omega arith)
number_word (b ∷ w) h e = rw (digit_parts b (first_digit b w e), letters_digits (b ∷ w) e)

pub number_good : (w : List ℕ) {r : Result Word Refusal} {x : Word} → 0 < length w → all_digits w ≡ true → r ≡ next_word w 0 → r ≡ Ok x → Number x.number ≡ number_of w
unfolding number_of pick
number_good w {r} {x} h d e f = by_test (good w) refl (sym f ∙ e ∙ number_word w h d)
  where
    by_test : (t : Bool) → good w ≡ t → Ok x ≡ pick (good w) (read (said 0 w) (0 + length w)) (Err BadWord) → Number x.number ≡ number_of w
    by_test true g z = let y : Ok x ≡ read (said 0 w) (0 + length w) = rw g at z in let v : x ≡ record { number = said 0 w; next = 0 + length w } = cc in rw (g, v)
    by_test false g z = let y : Ok x ≡ Err BadWord = rw g at z in cc

pub number_bad : (w : List ℕ) {r : Result Word Refusal} {x : Refusal} → 0 < length w → all_digits w ≡ true → r ≡ next_word w 0 → r ≡ Err x → Bad ≡ number_of w
unfolding number_of pick
number_bad w {r} {x} h d e f = by_test (good w) refl (sym f ∙ e ∙ number_word w h d)
  where
    by_test : (t : Bool) → good w ≡ t → Err x ≡ pick (good w) (read (said 0 w) (0 + length w)) (Err BadWord) → Bad ≡ number_of w
    by_test true g z = let y : Err x ≡ read (said 0 w) (0 + length w) = rw g at z in cc
    by_test false g z = rw g

-- ---- the next symbol
begins_fresh : (c d : ℕ) → goes_on c d ≡ false → begins c d ≡ begins 0 d
unfolding begins goes_on
begins_fresh c d e = by_zero (eqb d 0) refl
  where
    by_zero : (t : Bool) → eqb d 0 ≡ t → (not (eqb d 0) && not (eqb c d && (eqb d 1 || eqb d 2))) ≡ (not (eqb d 0) && not (eqb 0 d && (eqb d 1 || eqb d 2)))
    by_zero true z = rw z
    by_zero false z = rw (z, ne_eqb 0 d (λ x. eqb-false d 0 z (sym x)), e)

on_1 : goes_on 1 1 ≡ true
unfolding goes_on
on_1 = refl

on_2 : goes_on 2 2 ≡ true
unfolding goes_on
on_2 = refl

-- a byte that begins a symbol
begins_here : (d : ℕ) → 0 < d → begins 0 d ≡ true
unfolding begins goes_on
begins_here d h = rw (ne_eqb d 0 (λ z. omega arith), ne_eqb 0 d (λ z. omega arith))

not_on : (c d : ℕ) → (c ≡ 1 → ⊥) → (c ≡ 2 → ⊥) → goes_on c d ≡ false
unfolding goes_on
not_on c d h k = by_test (eqb c d) refl
  where
    by_test : (t : Bool) → eqb c d ≡ t → (eqb c d && (eqb d 1 || eqb d 2)) ≡ false
    by_test true e = let v : c ≡ d = eqb-true c d e in rw (← v, ne_eqb c 1 h, ne_eqb c 2 k) (and-false (eqb c c))
    by_test false e = rw e

other_on : (c d : ℕ) → (d ≡ c → ⊥) → goes_on c d ≡ false
unfolding goes_on
other_on c d h = rw (ne_eqb c d (λ e. h (sym e)))

after_class : (c at : ℕ) (l : List ℕ) → (c ≡ 1 → ⊥) → (c ≡ 2 → ⊥) → symbols_after c at l ≡ symbols_after 0 at l
unfolding symbols_after
after_class c at [] h k = refl
after_class c at (b ∷ l) h k = rw (begins_fresh c (class_of b) (not_on c (class_of b) h k))

going : (c : ℕ) → goes_on c c ≡ true → begins c c ≡ false
unfolding begins
going c g = rw g (and-false (not (eqb c 0)))

after_run : (c at : ℕ) (l : List ℕ) → goes_on c c ≡ true → symbols_after c at l ≡ symbols_after 0 (at + length (run_of c l)) (drop (length (run_of c l)) l)
unfolding symbols_after run_of pick
after_run c at [] g = let e : at + 0 ≡ at = omega arith in rw e
after_run c at (b ∷ l) g = by_test (eqb (class_of b) c) refl (after_run c (suc at) l g)
  where
    by_test : (t : Bool) → eqb (class_of b) c ≡ t → symbols_after c (suc at) l ≡ symbols_after 0 (suc at + length (run_of c l)) (drop (length (run_of c l)) l) → symbols_after c at (b ∷ l) ≡ symbols_after 0 (at + length (run_of c (b ∷ l))) (drop (length (run_of c (b ∷ l))) (b ∷ l))
    by_test true e r =
        let v : class_of b ≡ c = eqb-true (class_of b) c e in
        let m : suc at + length (run_of c l) ≡ at + suc (length (run_of c l)) = omega arith in
        rw (e, v, going c g, ← m) r
    by_test false e r =
        let m : at + 0 ≡ at = omega arith in
        rw (e, m, begins_fresh c (class_of b) (other_on c (class_of b) (eqb-false (class_of b) c e)))

module _ (s : List ℕ) (at : ℕ) (h : at < length s) where
  abbrev byte : ℕ
  byte = get_or s at 0

  abbrev rest : List ℕ
  rest = drop (at + 1) s

  first_here : 0 < class_of byte → symbols_from s at ≡ record { symbol = symbol_of byte rest; at = at } ∷ symbols_after (class_of byte) (suc at) rest
  unfolding symbols_after pick
  first_here k = rw (at_place s at h, begins_here (class_of byte) k)

  next_run : (c end : ℕ) (y : Symbol) → class_of byte ≡ c → goes_on c c ≡ true → 0 < c → end ≡ at + length (run_of c (drop at s)) → end ≤ length s → y ≡ symbol_of byte rest → Next s at y at end
  next_run c end y v g p e l f =
      let n = ap length (ap (run_of c) (at_place s at h) ∙ run_on c byte rest v) in
      let m : end ≡ suc at + length (run_of c rest) = omega arith in
      let q : at + 1 + length (run_of c rest) ≡ end = omega arith in
      let d : drop (length (run_of c rest)) rest ≡ drop end s = drop-drop (length (run_of c rest)) (at + 1) s ∙ ap (λ (i : ℕ). drop i s) q in
      record {
        later = symbols_after c (suc at) rest;
        first = first_here (rw v p) ∙ rw (v, ← f);
        others = λ _. after_run c (suc at) rest g ∙ rw (d, ← m);
        further = λ _. omega arith;
        inside = l;
      }

  next_mark : (y : Symbol) → 0 < class_of byte → (class_of byte ≡ 1 → ⊥) → (class_of byte ≡ 2 → ⊥) → y ≡ symbol_of byte rest → Next s at y at (at + 1)
  next_mark y p j k f =
      let e : suc at ≡ at + 1 = omega arith in
      record {
        later = symbols_after (class_of byte) (suc at) rest;
        first = first_here p ∙ rw (← f);
        others = λ _. after_class (class_of byte) (suc at) rest j k ∙ rw e;
        further = λ _. omega arith;
        inside = omega arith;
      }

  letters_symbol : (end : ℕ) → class_of byte ≡ 1 → end ≡ at + length (run_of 1 (drop at s)) → name_of (take (end - at) (drop at s)) ≡ symbol_of byte rest
  unfolding symbol_of pick
  letters_symbol end v e =
      let m : end - at ≡ length (run_of 1 (drop at s)) = omega arith in
      rw (v, m, run_take 1 (drop at s)) (ap name_of (ap (run_of 1) (at_place s at h) ∙ run_on 1 byte rest v))

  digits_symbol : (end : ℕ) → class_of byte ≡ 2 → end ≡ at + length (run_of 2 (drop at s)) → number_of (take (end - at) (drop at s)) ≡ symbol_of byte rest
  unfolding symbol_of pick
  digits_symbol end v e =
      let m : end - at ≡ length (run_of 2 (drop at s)) = omega arith in
      rw (v, m, run_take 2 (drop at s)) (ap number_of (ap (run_of 2) (at_place s at h) ∙ run_on 2 byte rest v))

  mark_symbol : (class_of byte ≡ 1 → ⊥) → (class_of byte ≡ 2 → ⊥) → mark_of byte ≡ symbol_of byte rest
  unfolding symbol_of pick
  mark_symbol j k = rw (ne_eqb (class_of byte) 1 j, ne_eqb (class_of byte) 2 k)

  pub name_found : (end : ℕ) (y : Symbol) → class_of byte ≡ 1 → end ≡ at + length (run_of 1 (drop at s)) → end ≤ length s → y ≡ name_of (take (end - at) (drop at s)) → Next s at y at end
  name_found end y v e l f = next_run 1 end y v on_1 (omega arith) e l (f ∙ letters_symbol end v e)

  pub number_found : (end : ℕ) (y : Symbol) → class_of byte ≡ 2 → end ≡ at + length (run_of 2 (drop at s)) → end ≤ length s → y ≡ number_of (take (end - at) (drop at s)) → Next s at y at end
  number_found end y v e l f = next_run 2 end y v on_2 (omega arith) e l (f ∙ digits_symbol end v e)

  pub mark_found : (y : Symbol) → 0 < class_of byte → (class_of byte ≡ 1 → ⊥) → (class_of byte ≡ 2 → ⊥) → y ≡ mark_of byte → Next s at y at (at + 1)
  mark_found y p j k f = next_mark y p j k (f ∙ mark_symbol j k)

  -- what a run of digits is handed over as
  pub digits_there : (end : ℕ) → class_of byte ≡ 2 → end ≡ at + length (run_of 2 (drop at s)) → (0 < length (take (end - at) (drop at s))) × (all_digits (take (end - at) (drop at s)) ≡ true)
  digits_there end v e =
      let m : end - at ≡ length (run_of 2 (drop at s)) = omega arith in
      let n = ap length (ap (run_of 2) (at_place s at h) ∙ run_on 2 byte rest v) in
      rw (m, run_take 2 (drop at s)) (omega arith, run_digits (drop at s))

  pub blank_on : class_of byte ≡ 0 → symbols_from s at ≡ symbols_from s (at + 1)
  unfolding symbols_after pick begins
  blank_on v = let e : suc at ≡ at + 1 = omega arith in rw (at_place s at h, v, e)

-- ---- past blanks
stops : (b : ℕ) (l : List ℕ) (at : ℕ) → run_of 0 (b ∷ l) ≡ [] → symbols_after 0 at (b ∷ l) ≡ symbols_after 0 (at + length (run_of 0 (b ∷ l))) (drop (length (run_of 0 (b ∷ l))) (b ∷ l))
stops b l at e = rw (e, add-zero at)

blank_off : (l : List ℕ) (at : ℕ) → symbols_after 0 at l ≡ symbols_after 0 (at + length (run_of 0 l)) (drop (length (run_of 0 l)) l)
unfolding symbols_after run_of pick begins
blank_off [] at = let e : at + 0 ≡ at = omega arith in rw e
blank_off (b ∷ l) at = by_test (eqb (class_of b) 0) refl (blank_off l (suc at))
  where
    by_test : (t : Bool) → eqb (class_of b) 0 ≡ t → symbols_after 0 (suc at) l ≡ symbols_after 0 (suc at + length (run_of 0 l)) (drop (length (run_of 0 l)) l) → symbols_after 0 at (b ∷ l) ≡ symbols_after 0 (at + length (run_of 0 (b ∷ l))) (drop (length (run_of 0 (b ∷ l))) (b ∷ l))
    by_test true e r =
        let v : class_of b ≡ 0 = eqb-true (class_of b) 0 e in
        let m : suc at + length (run_of 0 l) ≡ at + suc (length (run_of 0 l)) = omega arith in
        rw (v, ← m) r
    by_test false e r = stops b l at (run_off 0 b l (eqb-false (class_of b) 0 e))

-- a run does not go on past its end
run_over : (c : ℕ) (l : List ℕ) → length (run_of c l) < length l → class_of (get_or l (length (run_of c l)) 0) ≡ c → ⊥
unfolding run_of pick
run_over c [] h e = absurd (omega arith)
run_over c (b ∷ l) h e = by_test (eqb (class_of b) c) refl (run_over c l) h e
  where
    by_test : (t : Bool) → eqb (class_of b) c ≡ t → (length (run_of c l) < length l → class_of (get_or l (length (run_of c l)) 0) ≡ c → ⊥) → length (run_of c (b ∷ l)) < length (b ∷ l) → class_of (get_or (b ∷ l) (length (run_of c (b ∷ l))) 0) ≡ c → ⊥
    by_test true f r k g = let j : suc (length (run_of c l)) < suc (length l) = rw f at k in r (omega arith) (rw f at g)
    by_test false f r k g = eqb-false (class_of b) c f (rw f at g)

module _ (s : List ℕ) (from at : ℕ) (e : at ≡ from + length (run_of 0 (drop from s))) where
  -- past the blanks from a place on, the symbols are the same
  past_blanks : symbols_from s from ≡ symbols_from s at
  past_blanks =
      let d : drop (length (run_of 0 (drop from s))) (drop from s) ≡ drop at s = drop-drop (length (run_of 0 (drop from s))) from s ∙ ap (λ (i : ℕ). drop i s) (sym e) in
      blank_off (drop from s) from ∙ rw (d, ← e)

  pub not_blank : at < length s → 0 < class_of (get_or s at 0)
  not_blank h =
      let k : length (run_of 0 (drop from s)) < length (drop from s) = omega (arith, length-drop from s) in
      let f : class_of (get_or s at 0) ≡ 0 → ⊥ = rw (e, ← get_or-drop from s (length (run_of 0 (drop from s))) 0) (run_over 0 (drop from s) k) in
      omega (arith, f)

  pub after_blanks : {next place : ℕ} {y : Symbol} → Next s at y place next → Next s from y place next
  after_blanks n = record { later = n.later; first = past_blanks ∙ n.first; others = n.others; further = λ x. omega (arith, e, n.further x); inside = n.inside }

  pub only_blanks : length s ≤ at → at ≤ length s → Next s from End at at
  unfolding symbols_after
  only_blanks h k = record { later = []; first = past_blanks ∙ rw (drop_of_length-le s h); others = λ x. absurd (x refl); further = λ x. absurd (x refl); inside = k }
