-- Laws of what a text gives its reader, word by word, for whoever reads words. Assumes nothing.
use Rattle.std.proofs.Common.{◌≡◌, ℕ, zero, suc, ◌+◌, ◌<◌, ◌≤◌, Bool, true, false, Ok, Err, leb, List, [], ◌∷◌, length, get_or, drop, sym, refl, ap, ◌∙◌, arith, length-drop, drop-drop, leb-true}
use Rattle.numbers.specs.Limits.{MAX}
use Rattle.text.specs.Words.{most_digits, pick, parts, letters, all_digits, said, plain, good, read, word_here, next_in, next_word, ends, gives, begun, written_words, supplied, supply, supply_from}
use Rattle.numbers.specs.Refusals.{number_of, BAD_WORD}
use Rattle.text.proofs.Letters.{both_hold}
use Rattle.text.specs.declared.words.Word.{Word}
use Rattle.numbers.specs.declared.Refusal.{Refusal}
use Rattle.numbers.specs.declared.Refusal.TheVariants.{WrongLength, BadWord}

-- after a word's letters the next one begins anew
after : (s : List ℕ) → written_words true s ≡ written_words false (drop (length (letters s)) s)
unfolding written_words letters pick begun
after [] = refl
after (b ∷ s) = by_part (parts b) refl (after s)
  where
    by_part : (t : Bool) → parts b ≡ t → written_words true s ≡ written_words false (drop (length (letters s)) s) → written_words true (b ∷ s) ≡ written_words false (drop (length (letters (b ∷ s))) (b ∷ s))
    by_part true e r = rw (e, e)
    by_part false e r = rw e r

letters_within : (s : List ℕ) → length (letters s) ≤ length s
unfolding letters pick
letters_within [] = omega arith
letters_within (b ∷ s) = by_part (parts b) refl (letters_within s)
  where
    by_part : (t : Bool) → parts b ≡ t → length (letters s) ≤ length s → length (letters (b ∷ s)) ≤ suc (length s)
    by_part true e r = rw e (omega arith)
    by_part false e r = rw e (omega arith)

-- what a good word says is at most MAX
good_fits : (w : List ℕ) → good w ≡ true → said 0 w ≤ MAX
unfolding good
good_fits w e =
    let a = both_hold (all_digits w) _ e in
    let b = both_hold (leb (length w) most_digits) _ a.1 in
    let c = both_hold (plain w) _ b.1 in
    leb-true (said 0 w) MAX c.1

-- ---- the bytes that are left, by the first of them
module _ (b : ℕ) (s : List ℕ) where
  passed : parts b ≡ true → supply (b ∷ s) ≡ supply s
  unfolding supply written_words begun
  passed p = rw p

  module _ (p : parts b ≡ false) where
    begins : letters (b ∷ s) ≡ b ∷ letters s
    unfolding letters pick
    begins = rw p

    written : written_words false (b ∷ s) ≡ letters (b ∷ s) ∷ written_words false (drop (length (letters (b ∷ s))) (b ∷ s))
    unfolding written_words begun
    written = rw (p, begins, after s)

    taken : good (letters (b ∷ s)) ≡ true → supply (b ∷ s) ≡ gives (said 0 (letters (b ∷ s))) (supply (drop (length (letters (b ∷ s))) (b ∷ s)))
    unfolding supply supplied pick
    taken e = rw (written, e)

    bad : good (letters (b ∷ s)) ≡ false → supply (b ∷ s) ≡ ends BAD_WORD
    unfolding supply supplied pick
    bad e = rw (written, e)

-- a word that is taken from the bytes left, with so many bytes
record TakenIn (l : List ℕ) (at w next : ℕ) : Type 0 where
  pub size : ℕ
  pub place : next ≡ at + size
  pub some : 0 < size
  pub within : size ≤ length l
  pub fits : w ≤ MAX
  pub gave : supply l ≡ gives w (supply (drop size l))

-- what was read is one number and one place
pub same : {n w at next : ℕ} → read n at ≡ read w next → (n ≡ w) × (at ≡ next)
same {n} {w} {at} {next} e =
    let r : ◌≡◌ {A = Word} (record { number = n; next = at }) (record { number = w; next = next }) = cc in
    (ap (λ (x : Word). x.number) r, ap (λ (x : Word). x.next) r)

word_here_lem : (b : ℕ) (s : List ℕ) (at w next : ℕ) → parts b ≡ false → (t : Bool) → good (letters (b ∷ s)) ≡ t → word_here (b ∷ s) at ≡ read w next → TakenIn (b ∷ s) at w next
unfolding word_here pick
word_here_lem b s at w next p true e f =
    let g : read (said 0 (letters (b ∷ s))) (at + length (letters (b ∷ s))) ≡ read w next = rw e at f in
    let v : said 0 (letters (b ∷ s)) ≡ w = (same g).0 in
    record {
      size = length (letters (b ∷ s));
      place = sym (same g).1;
      some = rw (begins b s p) (omega arith);
      within = letters_within (b ∷ s);
      fits = rw (← v) (good_fits (letters (b ∷ s)) e);
      gave = rw (← v) (taken b s p e);
    }
word_here_lem b s at w next p false e f = let g : Err BadWord ≡ read w next = rw e at f in let z : ◌≡◌ {A = ℕ} 0 1 = cc in absurd (omega arith)

word_in : (l : List ℕ) (at w next : ℕ) → next_in l at ≡ read w next → TakenIn l at w next
unfolding next_in pick
word_in [] at w next e = let z : ◌≡◌ {A = ℕ} 0 1 = cc in absurd (omega arith)
word_in (b ∷ s) at w next e = by_part (parts b) refl (λ h. word_in s (suc at) w next h)
  where
    by_part : (t : Bool) → parts b ≡ t → (next_in s (suc at) ≡ read w next → TakenIn s (suc at) w next) → TakenIn (b ∷ s) at w next
    by_part true p r =
        let k = r (rw p at e) in
        record {
          size = suc k.size;
          place = omega (arith, k.place);
          some = omega arith;
          within = omega (arith, k.within);
          fits = k.fits;
          gave = passed b s p ∙ k.gave;
        }
    by_part false p r = word_here_lem b s at w next p (good (letters (b ∷ s))) refl (rw p at e)

refused_here : (b : ℕ) (s : List ℕ) (at : ℕ) (r : Refusal) → parts b ≡ false → (t : Bool) → good (letters (b ∷ s)) ≡ t → word_here (b ∷ s) at ≡ Err r → supply (b ∷ s) ≡ ends (number_of r)
unfolding word_here pick
refused_here b s at r p true e f =
    let g : read (said 0 (letters (b ∷ s))) (at + length (letters (b ∷ s))) ≡ Err r = rw e at f in
    let z : ◌≡◌ {A = ℕ} 0 1 = cc in
    absurd (omega arith)
refused_here b s at r p false e f =
    let g : Err BadWord ≡ Err r = rw e at f in
    let v : BadWord ≡ r = cc in
    bad b s p e ∙ ap (λ (x : Refusal). ends (number_of x)) v

refused_in : (l : List ℕ) (at : ℕ) (r : Refusal) → next_in l at ≡ Err r → supply l ≡ ends (number_of r)
unfolding next_in pick supply supplied written_words
refused_in [] at r e = let v : WrongLength ≡ r = cc in ap (λ (x : Refusal). ends (number_of x)) v
refused_in (b ∷ s) at r e = by_part (parts b) refl (λ h. refused_in s (suc at) r h)
  where
    by_part : (t : Bool) → parts b ≡ t → (next_in s (suc at) ≡ Err r → supply s ≡ ends (number_of r)) → supply (b ∷ s) ≡ ends (number_of r)
    by_part true p h = passed b s p ∙ h (rw p at e)
    by_part false p h = refused_here b s at r p (good (letters (b ∷ s))) refl (rw p at e)

-- ---- what a reader cites, of a place in a text
-- a word that was read: what the text gives is that word and then what it gives from the place after it, which lies further on
pub record Taken (s : List ℕ) (at w next : ℕ) : Type 0 where
  pub gave : supply_from s at ≡ gives w (supply_from s next)
  pub further : at < next
  pub within : next ≤ length s
  pub fits : w ≤ MAX

pub word : (s : List ℕ) (at : ℕ) {w : Word} → next_word s at ≡ Ok w → Taken s at w.number w.next
unfolding next_word
word s at {w} e =
    let k = word_in (drop at s) at w.number w.next e in
    let d : drop k.size (drop at s) ≡ drop w.next s = drop-drop k.size at s ∙ ap (λ (i : ℕ). drop i s) (sym k.place) in
    let l = length-drop at s in
    record {
      gave = k.gave ∙ ap (λ (x : List ℕ). gives w.number (supply x)) d;
      further = omega (arith, k.place, k.some);
      within = omega (arith, k.place, k.some, k.within);
      fits = k.fits;
    }

-- a refusal ends the reading: no word is left
pub refused : (s : List ℕ) (at : ℕ) {r : Refusal} → next_word s at ≡ Err r → supply_from s at ≡ ends (number_of r)
unfolding next_word
refused s at {r} e = refused_in (drop at s) at r e

-- every word that a text gives is at most MAX
fits_all : (ws : List (List ℕ)) (i : ℕ) → get_or (supplied ws).words i 0 ≤ MAX
unfolding supplied pick
fits_all [] i = omega arith
fits_all (w ∷ ws) i = by_good (good w) refl i (fits_all ws)
  where
    by_good : (t : Bool) → good w ≡ t → (i : ℕ) → ((j : ℕ) → get_or (supplied ws).words j 0 ≤ MAX) → get_or (supplied (w ∷ ws)).words i 0 ≤ MAX
    by_good true e zero r = rw e (good_fits w e)
    by_good true e (suc j) r = rw e (r j)
    by_good false e j r = rw e (omega arith)

pub all_fit : (s : List ℕ) (i : ℕ) → get_or (supply s).words i 0 ≤ MAX
unfolding supply
all_fit s i = fits_all (written_words false s) i
