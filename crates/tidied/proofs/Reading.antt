-- Laws of reading steps, and of the words of a book that was read. Assumes nothing.
use Prim.Native.Nat.{ℕ, ◌*◌, ◌/◌, ◌≤◌}
use mathlib.Core.Path.{◌≡◌, refl, sym, ap, ap₂, ◌∙◌}
use mathlib.Core.Bool.{Bool, true, false, cond}
use mathlib.Core.List.{List, [], ◌∷◌, ◌++◌, append-nil}
use native.Mathlib.Omega.{arith}
use lib.ListN.{length, take, drop, length-drop, take-append-drop}
use lib.Seq.{length-take-le}
use lib.Dec.{ltb}
use borrow.Author.Tests.{lt-ltb, le-ltb, ltb-false}
use Rattle.numbers.specs.Limits.{LONGEST_INPUT, MOST_ROWS, MOST_OPERANDS, MOST_ASSUMES, MOST_GUARANTEES, ROW_WORDS}
use Rattle.numbers.specs.Refusals.{PAST_LIMIT}
use Rattle.text.specs.Words.{next_word, supply_from}
use Rattle.text.specs.declared.words.Word.{Word}
use Rattle.std.specs.Prelude.{Result, Ok, Err}
use Rattle.numbers.specs.declared.Refusal.{Refusal}
use Rattle.text.proofs.Supplies.{word, refused as ended}
use Rattle.text.proofs.Few.{few_words}
use Rattle.text_reader.specs.Reads.{Ended, WordsTook, WordsRead}
use Rattle.text_reader.specs.declared.Part.{Part}
use Rattle.book.specs.Reading.{Read, got, refused, section, next, Sections, sections}
use Rattle.tidied.specs.Answers.{STEP_WORDS, steps_in, words_in}
use Rattle.tidied.specs.Private.{STEPS_ROOM, StepsTook, StepsRead}

-- ---- steps
module _ (input : List ℕ) (cursor : ℕ) where
  abbrev supplied : Read (List ℕ)
  supplied = steps_in (supply_from input cursor).ending (supply_from input cursor).words

  pub steps_none : {r : Refusal} (m : List ℕ) → next_word input cursor ≡ Err r → StepsRead input cursor m (Err r)
  unfolding StepsRead steps_in
  steps_none m e = rw (ended input cursor e)

  module _ {count : Word} (e : next_word input cursor ≡ Ok count) where
    steps_short : {r n : ℕ} → n ≤ STEP_WORDS * count.number → Ended input count.next n r → supplied ≡ refused r
    unfolding steps_in
    steps_short h k = rw ((word input cursor e).gave, lt-ltb (length (supply_from input count.next).words) (STEP_WORDS * count.number) (omega (arith, k.short, h)), k.ending)

    steps_whole : {m m' : List ℕ} {end next : ℕ} → STEP_WORDS * count.number ≤ length m' → WordsTook input count.next (STEP_WORDS * count.number) m 0 m' end next → StepsTook input cursor m' end next
    unfolding steps_in
    steps_whole h k = record {
      read = rw ((word input cursor e).gave, le-ltb (length (supply_from input count.next).words) (STEP_WORDS * count.number) k.took.enough, k.took.rest, k.stand);
      ending = rw ((word input cursor e).gave, k.took.rest);
      inside = omega (arith, k.place, h);
    }

    pub steps_read : (m m' : List ℕ) (r : Result Part Refusal) → STEP_WORDS * count.number ≤ length m' → WordsRead input count.next (STEP_WORDS * count.number) m 0 m' r → StepsRead input cursor m' r
    unfolding WordsRead StepsRead
    steps_read m m' (Ok part) h k = steps_whole h k
    steps_read m m' (Err r) h k = steps_short (omega arith) k

    -- more than any input holds
    pub steps_over : (m m' : List ℕ) (r : Result Part Refusal) → length input ≤ LONGEST_INPUT → STEPS_ROOM ≤ STEP_WORDS * count.number → WordsRead input count.next STEPS_ROOM m 0 m' r → StepsRead input cursor m' r
    unfolding WordsRead StepsRead
    steps_over m m' (Ok part) l h k = absurd (omega (arith, k.took.enough, few_words (drop count.next input), length-drop count.next input))
    steps_over m m' (Err r) l h k = steps_short h k

-- ---- the words of sections
section_words : (limit size : ℕ) (ws items rest : List ℕ) → section 1 limit size ws ≡ got items rest → (n : ℕ) × (length items ≡ size * n) × (ws ≡ n ∷ items ++ rest) × (n ≤ limit)
unfolding section
section_words limit size [] items rest e = let z : ◌≡◌ {A = ℕ} 0 1 = cc in absurd (omega arith)
section_words limit size (n ∷ ws) items rest e = by_tests (ltb limit n) refl (ltb (length ws) (size * n)) refl e
  where
    by_tests : (t : Bool) → ltb limit n ≡ t → (u : Bool) → ltb (length ws) (size * n) ≡ u → cond t (refused PAST_LIMIT) (cond u (refused 1) (got (take (size * n) ws) (drop (size * n) ws))) ≡ got items rest → (m : ℕ) × (length items ≡ size * m) × (n ∷ ws ≡ m ∷ items ++ rest) × (m ≤ limit)
    by_tests true g u f e = let z : ◌≡◌ {A = ℕ} 0 1 = cc in absurd (omega arith)
    by_tests false g true f e = let z : ◌≡◌ {A = ℕ} 0 1 = cc in absurd (omega arith)
    by_tests false g false f e =
        let x : take (size * n) ws ≡ items = cc in
        let y : drop (size * n) ws ≡ rest = cc in
        (n, ap length (sym x) ∙ length-take-le (size * n) ws (ltb-false (length ws) (size * n) f), ap (λ (z : List ℕ). n ∷ z) (sym (take-append-drop (size * n) ws) ∙ ap₂ ◌++◌ x y), ltb-false limit n g)

next_got : {A B : Type 0} (r : Read A) (f : A → List ℕ → Read B) {y : B} {zs : List ℕ} → next r f ≡ got y zs → (x : A) × (ws : List ℕ) × (r ≡ got x ws) × (f x ws ≡ got y zs)
unfolding next
next_got (got x ws) f e = (x, ws, refl, e)
next_got (refused n) f e = let z : ◌≡◌ {A = ℕ} 0 1 = cc in absurd (omega arith)

-- words that are read as sections and nothing more are those of the sections
pub sections_words : (x : List ℕ) (s : Sections) → sections 1 x ≡ got s [] → x ≡ words_in s
unfolding sections words_in
sections_words x s e =
    let a = next_got (section 1 MOST_ROWS ROW_WORDS x) _ e in
    let b = next_got (section 1 MOST_OPERANDS 1 a.1) _ a.3 in
    let c = next_got (section 1 MOST_ASSUMES 1 b.1) _ b.3 in
    let d = next_got (section 1 MOST_GUARANTEES 1 c.1) _ c.3 in
    let u : s ≡ record { rows = a.0; operands = b.0; assumes = c.0; guarantees = d.0 } = cc d.3 in
    let v : d.1 ≡ [] = cc d.3 in
    let p = section_words MOST_ROWS ROW_WORDS x a.0 a.1 a.2 in
    let q = section_words MOST_OPERANDS 1 a.1 b.0 b.1 b.2 in
    let r = section_words MOST_ASSUMES 1 b.1 c.0 c.1 c.2 in
    let t = section_words MOST_GUARANTEES 1 c.1 d.0 d.1 d.2 in
    let np : p.0 ≡ length a.0 / ROW_WORDS = omega (arith, p.1) in
    let nq : q.0 ≡ length b.0 = omega (arith, q.1) in
    let nr : r.0 ≡ length c.0 = omega (arith, r.1) in
    let nt : t.0 ≡ length d.0 = omega (arith, t.1) in
    let g : c.1 ≡ length d.0 ∷ d.0 = t.2 ∙ ap₂ (λ (n : ℕ) (z : List ℕ). n ∷ d.0 ++ z) nt v ∙ ap (λ (z : List ℕ). length d.0 ∷ z) (append-nil d.0) in
    let f : b.1 ≡ (length c.0 ∷ c.0) ++ (length d.0 ∷ d.0) = r.2 ∙ ap₂ (λ (n : ℕ) (z : List ℕ). n ∷ c.0 ++ z) nr g in
    let h : a.1 ≡ (length b.0 ∷ b.0) ++ ((length c.0 ∷ c.0) ++ (length d.0 ∷ d.0)) = q.2 ∙ ap₂ (λ (n : ℕ) (z : List ℕ). n ∷ b.0 ++ z) nq f in
    p.2 ∙ ap₂ (λ (n : ℕ) (z : List ℕ). n ∷ a.0 ++ z) np h
    ∙ ap (λ (k : Sections). (length k.rows / ROW_WORDS ∷ k.rows) ++ ((length k.operands ∷ k.operands) ++ ((length k.assumes ∷ k.assumes) ++ (length k.guarantees ∷ k.guarantees)))) (sym u)
