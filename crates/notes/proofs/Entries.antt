-- One entry of a memory's ledger anew, word by word. Assumes nothing.
use Prim.Native.Nat.{ℕ, suc, ◌+◌, ◌≤◌, ◌<◌, max}
use native.Mathlib.Omega.{arith}
use native.Mathlib.Decide.{ℕ_discrete}
use mathlib.Core.Path.{◌≡◌, refl, sym, ap, subst, ◌∙◌}
use mathlib.Core.Bool.{Bool, true, false, cond}
use mathlib.Core.List.{List}
use lib.ListN.{length, set, length-set}
use lib.Seq.{get_or-set_same, get_or-set_other}
use lib.Dec.{eqb}
use borrow.Author.Tests.{eq-eqb, ne_eqb}
use Rattle.ledger.specs.Ledger.{Entry, or_else}
use Rattle.memory.specs.Layout.{ENTRY, FAILED, FIRST, LAST, LONGEST, SETTLED_CALL, STRETCH, SIZE}
use Rattle.memory.specs.Memory.{settled_at, entry_start, entry_word, entry_of}
use Rattle.notes.specs.Private.{with_failed, with_first, with_last, with_longest, with_settled, with_stretch, first_noted, longest_noted, settled_noted, false_noted, EntryPut, open_now}

-- ---- put as another, or as it is; one after the other
pub entry_as : {m m' : List ℕ} {p : ℕ} {e e' : Entry} → e ≡ e' → EntryPut m p e m' → EntryPut m p e' m'
entry_as {m} {m'} {p} is put = subst (λ (x : Entry). EntryPut m p x m') is put

entry_self : (m : List ℕ) (p : ℕ) → EntryPut m p (entry_of m p) m
entry_self m p = record { long = refl; new = refl; before = λ i h. refl; after = λ i h. refl }

pub entry_then : {m m₁ m₂ : List ℕ} {p : ℕ} {e e' : Entry} → EntryPut m p e m₁ → EntryPut m₁ p e' m₂ → EntryPut m p e' m₂
entry_then a b = record {
  long = b.long ∙ a.long;
  new = b.new;
  before = λ i h. b.before i h ∙ a.before i h;
  after = λ i h. b.after i h ∙ a.after i h;
}

-- ---- an entry by its words
abbrev from_words : (ℕ → ℕ) → Entry
from_words w = record { failed = w FAILED; first = w FIRST; last = w LAST; longest = w LONGEST; settled = w SETTLED_CALL; stretch = w STRETCH }

by_words : (f g : ℕ → ℕ) → ((k : ℕ) → k < ENTRY → f k ≡ g k) → from_words f ≡ from_words g
by_words f g same =
    rw (same FAILED (omega arith), same FIRST (omega arith), same LAST (omega arith), same LONGEST (omega arith), same SETTLED_CALL (omega arith), same STRETCH (omega arith))

pub entry_same : (m m' : List ℕ) (p : ℕ) → ((k : ℕ) → k < ENTRY → entry_word m' p k ≡ entry_word m p k) → entry_of m' p ≡ entry_of m p
unfolding entry_of
entry_same m m' p same = by_words (entry_word m' p) (entry_word m p) same

-- ---- one word put
module _ (m : List ℕ) (p : ℕ) (inside : p < 32) (long : length m ≡ SIZE) (v : ℕ) where
  word_put : (j : ℕ) → j < ENTRY → EntryPut m p (from_words (λ k. cond (eqb k j) v (entry_word m p k))) (set m (entry_start p + j) v)
  unfolding entry_of
  word_put j h = record {
    long = length-set m (entry_start p + j) v;
    new = by_words (entry_word (set m (entry_start p + j) v) p) (λ k. cond (eqb k j) v (entry_word m p k)) (λ k l. go k (ℕ_discrete k j));
    before = λ i l. get_or-set_other m (entry_start p + j) i v 0 (omega arith);
    after = λ i l. get_or-set_other m (entry_start p + j) i v 0 (omega arith);
  }
    where
      go : (k : ℕ) → Dec (k ≡ j) → entry_word (set m (entry_start p + j) v) p k ≡ cond (eqb k j) v (entry_word m p k)
      go k (yes e) = rw (e, eq-eqb j j refl) (get_or-set_same m (entry_start p + j) v 0 (omega arith))
      go k (no e) = rw (ne_eqb k j e) (get_or-set_other m (entry_start p + j) (entry_start p + k) v 0 (λ z. e (omega arith)))

  pub failed_put : EntryPut m p (with_failed v (entry_of m p)) (set m (entry_start p + FAILED) v)
  unfolding entry_of
  failed_put = word_put FAILED (omega arith)

  pub first_put : EntryPut m p (with_first v (entry_of m p)) (set m (entry_start p + FIRST) v)
  unfolding entry_of
  first_put = word_put FIRST (omega arith)

  pub last_put : EntryPut m p (with_last v (entry_of m p)) (set m (entry_start p + LAST) v)
  unfolding entry_of
  last_put = word_put LAST (omega arith)

  pub longest_put : EntryPut m p (with_longest v (entry_of m p)) (set m (entry_start p + LONGEST) v)
  unfolding entry_of
  longest_put = word_put LONGEST (omega arith)

  pub settled_put_lem : EntryPut m p (with_settled v (entry_of m p)) (set m (entry_start p + SETTLED_CALL) v)
  unfolding entry_of
  settled_put_lem = word_put SETTLED_CALL (omega arith)

  pub stretch_put : EntryPut m p (with_stretch v (entry_of m p)) (set m (entry_start p + STRETCH) v)
  unfolding entry_of
  stretch_put = word_put STRETCH (omega arith)

-- ---- what is noted of one property: where a word is as it should be, nothing is stored
module _ {m : List ℕ} {p : ℕ} (inside : p < 32) (long : length m ≡ SIZE) (n : ℕ) {w : ℕ} where
  pub first_stands : w ≡ entry_word m p FIRST → (w ≡ 0 → ⊥) → EntryPut m p (first_noted n (entry_of m p)) m
  unfolding entry_of
  first_stands e some = entry_as (ap (λ (x : ℕ). with_first x (entry_of m p)) (sym (rw (ne_eqb (entry_word m p FIRST) 0 (λ z. some (e ∙ z)))))) (entry_self m p)

  pub first_new : {m' : List ℕ} → w ≡ entry_word m p FIRST → w ≡ 0 → m' ≡ set m (entry_start p + FIRST) n → EntryPut m p (first_noted n (entry_of m p)) m'
  unfolding entry_of
  first_new e none is = rw (is, eq-eqb (entry_word m p FIRST) 0 (sym e ∙ none)) (first_put m p inside long n)

  pub longest_stands : w ≡ entry_word m p LONGEST → n ≤ w → EntryPut m p (longest_noted n (entry_of m p)) m
  unfolding entry_of
  longest_stands e h = let same : max (entry_word m p LONGEST) n ≡ entry_word m p LONGEST = omega arith in rw same (entry_self m p)

  pub longest_new : {m' : List ℕ} → w ≡ entry_word m p LONGEST → w < n → m' ≡ set m (entry_start p + LONGEST) n → EntryPut m p (longest_noted n (entry_of m p)) m'
  unfolding entry_of
  longest_new e h is = let new : max (entry_word m p LONGEST) n ≡ n = omega arith in rw (is, new) (longest_put m p inside long n)

  pub unbroken_stands : w ≡ entry_word m p STRETCH → w ≡ 0 → EntryPut m p (with_stretch 0 (entry_of m p)) m
  unfolding entry_of
  unbroken_stands e none = entry_as (ap (λ (x : ℕ). with_stretch x (entry_of m p)) (sym e ∙ none)) (entry_self m p)

  pub settled_stands : w ≡ entry_word m p SETTLED_CALL → (w ≡ 0 → ⊥) → EntryPut m p (settled_noted n (open_now m p) (entry_of m p)) m
  unfolding entry_of
  settled_stands e some = entry_as (ap (λ (x : ℕ). with_settled x (entry_of m p)) (sym (go (open_now m p)))) (entry_self m p)
    where
      go : (z : Bool) → cond z (entry_word m p SETTLED_CALL) (or_else (entry_word m p SETTLED_CALL) n) ≡ entry_word m p SETTLED_CALL
      go true = refl
      go false = rw (ne_eqb (entry_word m p SETTLED_CALL) 0 (λ z. some (e ∙ z)))

  pub settled_new : {m' : List ℕ} → w ≡ entry_word m p SETTLED_CALL → w ≡ 0 → (settled_at m p ≡ 2 → ⊥) → m' ≡ set m (entry_start p + SETTLED_CALL) n → EntryPut m p (settled_noted n (open_now m p) (entry_of m p)) m'
  unfolding entry_of
  settled_new e none closed is = rw (is, ne_eqb (settled_at m p) 2 closed, eq-eqb (entry_word m p SETTLED_CALL) 0 (sym e ∙ none)) (settled_put_lem m p inside long n)

pub settled_open : {m : List ℕ} {p : ℕ} (n : ℕ) → settled_at m p ≡ 2 → EntryPut m p (settled_noted n (open_now m p) (entry_of m p)) m
settled_open {m} {p} n e = rw (eq-eqb (settled_at m p) 2 e) (entry_self m p)

-- a call that left it false
pub false_new : {m m₁ m₂ m₃ m₄ m₅ : List ℕ} {n p failed stretch : ℕ} → p < 32 → length m ≡ SIZE → failed ≡ suc (entry_of m p).failed → stretch ≡ suc (entry_of m p).stretch
    → m₁ ≡ set m (entry_start p + FAILED) failed → m₂ ≡ set m₁ (entry_start p + LAST) n → m₃ ≡ set m₂ (entry_start p + STRETCH) stretch
    → EntryPut m₃ p (first_noted n (entry_of m₃ p)) m₄ → EntryPut m₄ p (longest_noted stretch (entry_of m₄ p)) m₅ → EntryPut m p (false_noted n (entry_of m p)) m₅
false_new {m} {m₁} {m₂} {m₃} {n = n} {p} {failed} {stretch} inside long ef es e₁ e₂ e₃ first longest =
    let a : EntryPut m p (with_failed failed (entry_of m p)) m₁ = rw e₁ (failed_put m p inside long failed) in
    let b₂ : EntryPut m₁ p (with_last n (entry_of m₁ p)) m₂ = rw e₂ (last_put m₁ p inside (a.long ∙ long) n) in
    let b = entry_then a (entry_as (ap (with_last n) a.new) b₂) in
    let c₃ : EntryPut m₂ p (with_stretch stretch (entry_of m₂ p)) m₃ = rw e₃ (stretch_put m₂ p inside (b.long ∙ long) stretch) in
    let c = entry_then b (entry_as (ap (with_stretch stretch) b.new) c₃) in
    let d = entry_then c (entry_as (ap (first_noted n) c.new) first) in
    entry_as (rw (ef, es)) (entry_then d (entry_as (ap (longest_noted stretch) d.new) longest))
