-- Spelt symbols are found again. Assumes nothing.
use Prim.Native.Nat.{ℕ, suc, ◌≤◌, ◌<◌}
use mathlib.Core.Path.{◌≡◌, refl, sym, ap, ◌∙◌}
use mathlib.Core.Bool.{Bool, true, false, not, ◌&&◌, and-false, false≢true}
use mathlib.Core.List.{List, [], ◌∷◌, ◌++◌, append_assoc, map}
use native.Mathlib.Omega.{arith}
use lib.Dec.{eqb, leb}
use borrow.Author.Tests.{lt-leb, ne_eqb, leb-true, eqb-true}
use Rattle.numbers.specs.Limits.{MAX}
use Rattle.text.specs.Words.{pick, parts, digit, all_digits, said, good, plain, line_feed}
use Rattle.text.specs.Decimals.{decimal}
use Rattle.text.proofs.Back.{good_decimal}
use Rattle.rule_scanner.specs.Symbols.{letter, class_of, goes_on, run_of, same, name_of, number_of, mark_of, symbol_of, Placed, begins, symbols_after, symbols}
use Rattle.book.specs.declared.kind.Kind.{Kind}
use Rattle.book.specs.declared.kind.Kind.TheVariants.{False, True, Atom, And, Or, Not, Implies, Historically, Once, Since}
use Rattle.rule_scanner.specs.declared.symbols.Symbol.{Symbol}
use Rattle.rule_scanner.specs.declared.symbols.Symbol.TheVariants.{Name, Number, Left, Right, Opens, Closes, Comma, Star, Bad, End}
use Rattle.rule_printer.specs.Printing.{word_spelled, spell, spelled}

-- ---- symbols with no places
unfoldable pub found : ℕ → List ℕ → List Symbol
found c [] = End ∷ []
found c (b ∷ s) = pick (begins c (class_of b)) (symbol_of b s ∷ found (class_of b) s) (found (class_of b) s)

unplaced : (c at : ℕ) (s : List ℕ) → map (λ (p : Placed). p.symbol) (symbols_after c at s) ≡ found c s
unfolding symbols_after found pick
unplaced c at [] = refl
unplaced c at (b ∷ s) = by_test (begins c (class_of b)) (unplaced (class_of b) (suc at) s)
  where
    by_test : (t : Bool) → map (λ (p : Placed). p.symbol) (symbols_after (class_of b) (suc at) s) ≡ found (class_of b) s
        → map (λ (p : Placed). p.symbol) (pick t (record { symbol = symbol_of b s; at = at } ∷ symbols_after (class_of b) (suc at) s) (symbols_after (class_of b) (suc at) s)) ≡ pick t (symbol_of b s ∷ found (class_of b) s) (found (class_of b) s)
    by_test true e = ap (λ (z : List Symbol). symbol_of b s ∷ z) e
    by_test false e = e

pub symbols_found : (s : List ℕ) → map (λ (p : Placed). p.symbol) (symbols s) ≡ found 0 s
unfolding symbols
symbols_found s = unplaced 0 0 s

-- ---- a run
abbrev AllOf : ℕ → List ℕ → Type 0
AllOf d [] = Unit {0}
AllOf d (b ∷ w) = (class_of b ≡ d) × AllOf d w

-- letters or digits: one goes on with another
abbrev Runs : ℕ → Type 0
Runs d = (eqb d d ≡ true) × (goes_on d d ≡ true)

run_all : (d : ℕ) (w l : List ℕ) → Runs d → AllOf d w → run_of d l ≡ [] → run_of d (w ++ l) ≡ w
unfolding run_of pick
run_all d [] l r a e = e
run_all d (b ∷ w) l r a e = rw (a.0, r.0, run_all d w l r a.1 e)

goes_all : (d : ℕ) (w l : List ℕ) → Runs d → AllOf d w → found d (w ++ l) ≡ found d l
unfolding found pick begins
goes_all d [] l r a = refl
goes_all d (b ∷ w) l r a = rw (a.0, r.1, and-false (not (eqb d 0))) (goes_all d w l r a.1)

stops : (d b : ℕ) (l : List ℕ) → Runs d → goes_on d (class_of b) ≡ false → run_of d (b ∷ l) ≡ []
unfolding run_of pick
stops d b l r g = by_test (eqb (class_of b) d) refl
  where
    by_test : (t : Bool) → eqb (class_of b) d ≡ t → pick t (b ∷ run_of d l) [] ≡ []
    by_test true e = let k : class_of b ≡ d = eqb-true (class_of b) d e in absurd (false≢true (sym (rw k at g) ∙ r.1))
    by_test false e = refl

-- ---- a symbol's class
abbrev pub kind : Symbol → ℕ
kind (Name w) = 1
kind (Number n) = 2
kind Left = 3
kind Right = 3
kind Opens = 3
kind Closes = 3
kind Comma = 3
kind Star = 3
kind Bad = 3
kind End = 3

-- it can be spelt
abbrev pub Plain : Symbol → Type 0
Plain (Name w) = Unit {0}
Plain (Number n) = n ≤ MAX
Plain Left = Unit {0}
Plain Right = Unit {0}
Plain Opens = Unit {0}
Plain Closes = Unit {0}
Plain Comma = Unit {0}
Plain Star = Unit {0}
Plain Bad = ⊥
Plain End = ⊥

-- symbols that are found again, where they begin after a byte of class c
abbrev pub Apart : ℕ → List Symbol → Type 0
Apart c [] = Unit {0}
Apart c (y ∷ ys) = (goes_on c (kind y) ≡ false) × Plain y × Apart (kind y) ys

-- ---- digits
both_hold : (a b : Bool) → (a && b) ≡ true → (a ≡ true) × (b ≡ true)
both_hold true b e = (refl, e)
both_hold false b e = absurd (false≢true e)

no_part : (b : ℕ) → 48 ≤ b → parts b ≡ false
unfolding parts
no_part b h = rw (ne_eqb b 32 (λ e. omega arith), ne_eqb b 10 (λ e. omega arith))

within_digits : (b : ℕ) → digit b ≡ true → (48 ≤ b) × (b ≤ 57)
unfolding digit
within_digits b e = let k = both_hold (leb 48 b) (leb b 57) e in (leb-true 48 b k.0, leb-true b 57 k.1)

digit_class : (b : ℕ) → digit b ≡ true → class_of b ≡ 2
unfolding class_of pick letter
digit_class b e =
    let k = within_digits b e in
    let l : 48 ≤ b = k.0 in
    let m : b < 65 = omega (arith, k.1) in
    let n : b < 97 = omega (arith, k.1) in
    rw (no_part b l, lt-leb 65 b m, lt-leb 97 b n, e)

digits_class : (w : List ℕ) → all_digits w ≡ true → AllOf 2 w
unfolding all_digits
digits_class [] e = tt
digits_class (b ∷ w) e = let k = both_hold (digit b) (all_digits w) e in (digit_class b k.0, digits_class w k.1)

record Spelt (y : Symbol) : Type 0 where
  first : ℕ
  others : List ℕ
  bytes : spell y ≡ first ∷ others
  class : class_of first ≡ kind y
  finds : (c d : ℕ) (l : List ℕ) → goes_on c (kind y) ≡ false → goes_on (kind y) (class_of d) ≡ false → found c (spell y ++ (d ∷ l)) ≡ y ∷ found (kind y) (d ∷ l)

-- a run of bytes
module _ (y : Symbol) (b : ℕ) (w : List ℕ) (r : Runs (kind y)) (begins-it : eqb (kind y) 0 ≡ false) (e : spell y ≡ b ∷ w) (a : AllOf (kind y) (b ∷ w)) where
  run_spelt : ((l : List ℕ) → run_of (kind y) l ≡ w → symbol_of b l ≡ y) → Spelt y
  unfolding found pick begins
  run_spelt is-it = record {
    first = b;
    others = w;
    bytes = e;
    class = a.0;
    finds = λ c d l g s. rw (e, a.0, g, begins-it, is-it (w ++ (d ∷ l)) (run_all (kind y) w (d ∷ l) r a.1 (stops (kind y) d l r s))) (ap (λ (z : List Symbol). y ∷ z) (goes_all (kind y) w (d ∷ l) r a.1));
  }

first_digit : (w : List ℕ) → good w ≡ true → (b : ℕ) × (t : List ℕ) × (w ≡ b ∷ t) × (all_digits (b ∷ t) ≡ true)
unfolding good plain all_digits
first_digit [] e = absurd (false≢true e)
first_digit (b ∷ t) e = (b, t, refl, (both_hold (all_digits (b ∷ t)) _ e).0)

is_number : (n b : ℕ) (w l : List ℕ) → class_of b ≡ 2 → run_of 2 l ≡ w → good (b ∷ w) ≡ true → said 0 (b ∷ w) ≡ n → symbol_of b l ≡ Number n
unfolding symbol_of number_of pick
is_number n b w l c r g v = rw (c, r, g, v)

number_spelt : (n : ℕ) → n ≤ MAX → Spelt (Number n)
unfolding spell goes_on
number_spelt n h =
    let g = good_decimal n h in
    let f = first_digit (decimal n) g.0 in
    let b = f.0 in
    let w = f.1 in
    let e : decimal n ≡ b ∷ w = f.2 in
    let a = digits_class (b ∷ w) f.3 in
    run_spelt (Number n) b w (refl, refl) refl e a (λ l s. is_number n b w l a.0 s (rw e at g.0) (rw e at g.1))

word_spelt : (w : Kind) → Spelt (Name w)
unfolding spell word_spelled class_of goes_on pick letter parts digit symbol_of name_of same
word_spelt False = run_spelt (Name False) _ _ (refl, refl) refl refl (refl, (refl, (refl, (refl, (refl, tt))))) (λ l s. rw s)
word_spelt True = run_spelt (Name True) _ _ (refl, refl) refl refl (refl, (refl, (refl, (refl, tt)))) (λ l s. rw s)
word_spelt Atom = run_spelt (Name Atom) _ _ (refl, refl) refl refl (refl, tt) (λ l s. rw s)
word_spelt And = run_spelt (Name And) _ _ (refl, refl) refl refl (refl, (refl, (refl, tt))) (λ l s. rw s)
word_spelt Or = run_spelt (Name Or) _ _ (refl, refl) refl refl (refl, (refl, tt)) (λ l s. rw s)
word_spelt Not = run_spelt (Name Not) _ _ (refl, refl) refl refl (refl, (refl, (refl, tt))) (λ l s. rw s)
word_spelt Implies = run_spelt (Name Implies) _ _ (refl, refl) refl refl (refl, (refl, (refl, (refl, (refl, (refl, (refl, tt))))))) (λ l s. rw s)
word_spelt Historically = run_spelt (Name Historically) _ _ (refl, refl) refl refl (refl, (refl, (refl, (refl, tt)))) (λ l s. rw s)
word_spelt Once = run_spelt (Name Once) _ _ (refl, refl) refl refl (refl, (refl, (refl, (refl, tt)))) (λ l s. rw s)
word_spelt Since = run_spelt (Name Since) _ _ (refl, refl) refl refl (refl, (refl, (refl, (refl, (refl, tt))))) (λ l s. rw s)

mark_spelt : (y : Symbol) (b : ℕ) → spell y ≡ b ∷ [] → kind y ≡ 3 → class_of b ≡ 3 → mark_of b ≡ y → Spelt y
unfolding found pick begins symbol_of
mark_spelt y b e k c m = record {
  first = b;
  others = [];
  bytes = e;
  class = c ∙ sym k;
  finds = λ c d l g s. by_class c (d ∷ l) (rw k at g);
}
  where
    by_class : (d : ℕ) (l : List ℕ) → goes_on d 3 ≡ false → found d (spell y ++ l) ≡ y ∷ found (kind y) l
    by_class d l g = rw (e, c, g, m, k)

spelt : (y : Symbol) → Plain y → Spelt y
unfolding spell class_of pick letter parts digit mark_of
spelt (Name w) p = word_spelt w
spelt (Number n) p = number_spelt n p
spelt Left p = mark_spelt Left 91 refl refl refl refl
spelt Right p = mark_spelt Right 93 refl refl refl refl
spelt Opens p = mark_spelt Opens 40 refl refl refl refl
spelt Closes p = mark_spelt Closes 41 refl refl refl refl
spelt Comma p = mark_spelt Comma 44 refl refl refl refl
spelt Star p = mark_spelt Star 42 refl refl refl refl
spelt Bad p = absurd p
spelt End p = absurd p

-- ---- symbols before a line feed
parted : (c : ℕ) → goes_on c (class_of line_feed) ≡ false
unfolding goes_on class_of pick parts
parted c = and-false (eqb c 0)

line_over : (c : ℕ) (l : List ℕ) → found c (line_feed ∷ l) ≡ found 0 l
unfolding found pick begins class_of parts
line_over c l = refl

-- what follows a symbol does not go on with it
record Heads (c : ℕ) (s : List ℕ) : Type 0 where
  first : ℕ
  others : List ℕ
  bytes : s ≡ first ∷ others
  apart : goes_on c (class_of first) ≡ false

heads : (ys : List Symbol) (c : ℕ) (l : List ℕ) → Apart c ys → Heads c (spelled ys ++ (line_feed ∷ l))
unfolding spelled
heads [] c l a = record { first = line_feed; others = l; bytes = refl; apart = parted c }
heads (y ∷ ys) c l a =
    let s = spelt y a.1 in
    record { first = s.first; others = (s.others ++ spelled ys) ++ (line_feed ∷ l); bytes = rw s.bytes; apart = rw s.class a.0 }

pub found_spelled : (ys : List Symbol) (c : ℕ) (l : List ℕ) → Apart c ys → found c (spelled ys ++ (line_feed ∷ l)) ≡ ys ++ found 0 l
unfolding spelled
found_spelled [] c l a = line_over c l
found_spelled (y ∷ ys) c l a =
    let h = heads ys (kind y) l a.2 in
    ap (found c) (append_assoc (spell y) (spelled ys) (line_feed ∷ l))
    ∙ ap (λ (z : List ℕ). found c (spell y ++ z)) h.bytes
    ∙ (spelt y a.1).finds c h.first h.others a.0 h.apart
    ∙ ap (λ (z : List ℕ). y ∷ found (kind y) z) (sym h.bytes)
    ∙ ap (λ (z : List Symbol). y ∷ z) (found_spelled ys (kind y) l a.2)
