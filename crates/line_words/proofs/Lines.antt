-- Laws of the words of a line, as they are counted and looked up. Assumes nothing.
use Prim.Native.Nat.{ℕ, suc, ◌+◌, ◌-◌, ◌≤◌, ◌<◌}
use mathlib.Core.Path.{◌≡◌, refl, sym, ap, ◌∙◌}
use mathlib.Core.Bool.{true, false, and-true}
use mathlib.Core.List.{List, [], ◌∷◌}
use native.Mathlib.Omega.{arith}
use lib.ListN.{length, get_or, take, drop}
use lib.Seq.{drop-cons, drop-length}
use lib.Dec.{eqb}
use lib.Pointwise.{pointwise}
use denote.Bor.{Bor}
use Rattle.std.specs.Prelude.{Option, Some, None, Ok, Err, MatchOption}
use Rattle.std.specs.Option.{unwrap_or}
use Rattle.lists.proofs.Tests.{clash}
use Rattle.numbers.specs.declared.Refusal.{Refusal}
use Rattle.numbers.specs.Refusals.{number_of}
use Rattle.text.specs.Words.{Supply, next_word, supply, supply_from}
use Rattle.text.specs.declared.words.Word.{Word}
use Rattle.text.proofs.Supplies.{word, refused}
use Rattle.line_words.specs.Line.{carriage_return, without_return}

-- ---- counting
-- so many words were counted up to a place
pub record Counting (s : List ℕ) (at count : ℕ) : Type 0 where
  pub within : at ≤ length s
  pub few : count ≤ at
  pub words : length (supply s).words ≡ count + length (supply_from s at).words
  pub ending : (supply s).ending ≡ (supply_from s at).ending

pub count_start : (s : List ℕ) → Counting s 0 0
count_start s = record { within = omega arith; few = omega arith; words = omega arith; ending = refl }

module _ {s : List ℕ} {at count : ℕ} (g : Counting s at count) where
  pub count_more : {w : Word} → next_word s at ≡ Ok w → Counting s w.next (count + 1)
  count_more {w} e =
      let t = word s at e in
      let l : length (supply_from s at).words ≡ suc (length (supply_from s w.next).words) = ap (λ (x : Supply). length x.words) t.gave in
      record {
        within = t.within;
        few = omega (arith, t.further, g.few);
        words = omega (arith, g.words, l);
        ending = g.ending ∙ ap (λ (x : Supply). x.ending) t.gave;
      }

  pub count_less : {w : Word} → next_word s at ≡ Ok w → length s - w.next < length s - at
  count_less e = let t = word s at e in omega (arith, t.further, t.within)

  pub count_done : {r : Refusal} → next_word s at ≡ Err r → (count ≡ length (supply s).words) × (number_of r ≡ (supply s).ending)
  count_done {r} e =
      let t = refused s at e in
      let l : length (supply_from s at).words ≡ 0 = ap (λ (x : Supply). length x.words) t in
      (omega (arith, g.words, l), sym (g.ending ∙ ap (λ (x : Supply). x.ending) t))

-- ---- looking up
-- so many words were passed up to a place
pub record Seeking (s : List ℕ) (at passed : ℕ) : Type 0 where
  pub same : (i : ℕ) → get_or (supply s).words (passed + i) 0 ≡ get_or (supply_from s at).words i 0

pub seek_start : (s : List ℕ) → Seeking s 0 0
seek_start s = record { same = λ i. let z : 0 + i ≡ i = omega arith in rw z }

module _ {s : List ℕ} {at passed : ℕ} (g : Seeking s at passed) where
  -- no word is left, so none stands at a later place
  pub seek_none : {r : Refusal} (i : ℕ) → passed ≤ i → next_word s at ≡ Err r → 0 ≡ get_or (supply s).words i 0
  seek_none i h e =
      let z : passed + (i - passed) ≡ i = omega arith in
      sym (rw z at (g.same (i - passed)) ∙ ap (λ (x : Supply). get_or x.words (i - passed) 0) (refused s at e))

  pub seek_found : {w : Word} → next_word s at ≡ Ok w → w.number ≡ get_or (supply s).words passed 0
  seek_found {w} e =
      let z : passed + 0 ≡ passed = omega arith in
      sym (rw z at (g.same 0) ∙ ap (λ (x : Supply). get_or x.words 0 0) (word s at e).gave)

  pub seek_more : {w : Word} → next_word s at ≡ Ok w → Seeking s w.next (passed + 1)
  seek_more {w} e = record {
    same = λ i.
        let z : passed + 1 + i ≡ passed + suc i = omega arith in
        rw z (g.same (suc i)) ∙ ap (λ (x : Supply). get_or x.words (suc i) 0) (word s at e).gave;
  }

-- ---- the end of a line
-- the last byte of a line alone
last_alone : (s : List ℕ) → 0 < length s → drop (length s - 1) s ≡ get_or s (length s - 1) 0 ∷ []
last_alone s h =
    let e : suc (length s - 1) ≡ length s = omega arith in
    drop-cons s (length s - 1) 0 (omega arith) ∙ rw (e, drop-length s)

at_end : (s : List ℕ) → pointwise eqb (drop (length s - 1) s) (carriage_return ∷ []) ≡ true → eqb (get_or s (length s - 1) 0) carriage_return ≡ true
at_end [] p = absurd (clash p refl)
at_end (b ∷ s) p = sym (and-true (eqb (get_or (b ∷ s) (length (b ∷ s) - 1) 0) carriage_return)) ∙ (rw (last_alone (b ∷ s) (omega arith)) at p)

not_at_end : (s : List ℕ) → pointwise eqb (drop (length s - 1) s) (carriage_return ∷ []) ≡ false → eqb (get_or s (length s - 1) 0) carriage_return ≡ false
not_at_end [] p = refl
not_at_end (b ∷ s) p = sym (and-true (eqb (get_or (b ∷ s) (length (b ∷ s) - 1) 0) carriage_return)) ∙ (rw (last_alone (b ∷ s) (omega arith)) at p)

pub stripped : (s : List ℕ) (r : Option (Bor (List ℕ))) (u line : Bor (List ℕ))
    → MatchOption r (pointwise eqb (drop (length s - 1) s) (carriage_return ∷ []) ≡ false) (λ x. (pointwise eqb (drop (length s - 1) s) (carriage_return ∷ []) ≡ true) × (x.now ≡ take (length s - 1) s) × (length x.now + 1 ≡ length s))
    → u ≡ unwrap_or r line → line.now ≡ s → u.now ≡ without_return s
unfolding without_return
stripped s None u line p e f = rw (not_at_end s p) (ap (λ (b : Bor (List ℕ)). b.now) e ∙ f)
stripped s (Some x) u line p e f = rw (at_end s p.0) (ap (λ (b : Bor (List ℕ)). b.now) e ∙ p.1)
