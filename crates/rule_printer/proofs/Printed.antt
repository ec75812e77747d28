-- What is printed is read back. Assumes nothing.
use Prim.Native.Nat.{ℕ, ◌≤◌}
use mathlib.Core.Path.{◌≡◌, refl, sym, ap, ◌∙◌}
use mathlib.Core.Bool.{Bool, true, false, and-false}
use mathlib.Core.List.{List, [], ◌∷◌, ◌++◌, append-nil, append_assoc, map}
use native.Mathlib.Omega.{arith}
use lib.Dec.{eqb}
use Rattle.numbers.specs.Limits.{MAX}
use Rattle.text.specs.Words.{pick, line_feed}
use Rattle.text.specs.Decimals.{decimal}
use Rattle.rule_scanner.specs.Symbols.{goes_on, Placed, symbols}
use Rattle.trees.specs.Forest.{Head, head_of, Forest, none, tree, count, Fit, Good}
use Rattle.rule_scanner.specs.Writing.{upper_said, range_said, head_said, shut, one_said, written, file_said}
use Rattle.rule_scanner.specs.Reading.{read, read_text}
use Rattle.rule_scanner.proofs.Theorems.{read_written}
use Rattle.book.specs.declared.kind.Kind.{Kind}
use Rattle.book.specs.declared.kind.Kind.TheVariants.{False, True, Atom, And, Or, Not, Implies, Historically, Once, Since}
use Rattle.rule_scanner.specs.declared.symbols.Symbol.{Symbol}
use Rattle.rule_scanner.specs.declared.symbols.Symbol.TheVariants.{Number, Right, Opens, Closes, Comma, Star}
use Rattle.rule_printer.specs.Printing.{spell, spelled, lines, section_printed, printed, printed_of, Ranged, Sayable}
use Rattle.rule_printer.proofs.Spelled.{found, symbols_found, kind, Plain, Apart, found_spelled}

-- symbols that may follow any
abbrev Free : List Symbol → Type 0
Free zs = (c : ℕ) → Apart c zs

free_mark : (y : Symbol) (zs : List Symbol) → kind y ≡ 3 → Plain y → Apart 3 zs → Free (y ∷ zs)
unfolding goes_on
free_mark y zs k p a c = (rw k (and-false (eqb c 3)), p, rw k a)

no_parts : (p : Forest) → count p ≡ 0 → p ≡ none
unfolding count
no_parts none e = refl
no_parts (tree h p s) e = absurd (omega arith)

upper_apart : (u : ℕ) (zs : List Symbol) → u ≤ MAX → Free (Right ∷ zs) → Apart 3 (upper_said u ∷ Right ∷ zs)
unfolding pick goes_on
upper_apart u zs h f = by_test (eqb u MAX)
  where
    by_test : (t : Bool) → Apart 3 (pick t Star (Number u) ∷ Right ∷ zs)
    by_test true = (refl, tt, f 3)
    by_test false = (refl, h, f 2)

-- one property, before symbols that may follow any
module _ (c : ℕ) (after : goes_on c 1 ≡ false) (zs : List Symbol) (free : Free zs) where
  abbrev Parts : Forest → Type 0
  Parts p = (ys : List Symbol) → Free ys → Apart 3 (written [] (Comma ∷ []) p ++ ys)

  abbrev insides : Forest → List Symbol
  insides p = (written [] (Comma ∷ []) p ++ (Closes ∷ [])) ++ zs

  shut_apart : (p : Forest) → Parts p → Apart 3 (insides p)
  shut_apart p i = rw append_assoc (i (Closes ∷ zs) (free_mark Closes zs refl tt (free 3)))

  opens_apart : (p : Forest) → Parts p → Free (Opens ∷ insides p)
  opens_apart p i = free_mark Opens (insides p) refl tt (shut_apart p i)

  range_apart : (l u : ℕ) (p : Forest) → l ≤ MAX → u ≤ MAX → Parts p → Apart 1 (range_said l u (Opens ∷ insides p))
  unfolding goes_on
  range_apart l u p hl hu i =
      (refl, tt, (refl, hl, (refl, tt, upper_apart u (Opens ∷ insides p) hu (free_mark Right (Opens ∷ insides p) refl tt (opens_apart p i 3)))))

  one_apart : (w : Kind) (a l u : ℕ) (p : Forest) → Fit w a l u (count p) → a ≤ MAX → l ≤ MAX → u ≤ MAX → Parts p → Apart c (one_said (head_of w a l u) (written [] (Comma ∷ []) p) ++ zs)
  unfolding one_said head_said shut written goes_on
  one_apart False a l u p t ha hl hu i = rw (no_parts p t.0) (after, tt, free 1)
  one_apart True a l u p t ha hl hu i = rw (no_parts p t.0) (after, tt, free 1)
  one_apart Atom a l u p t ha hl hu i = rw (no_parts p t.0) (after, tt, (refl, ha, free 2))
  one_apart And a l u p t ha hl hu i = (after, tt, opens_apart p i 1)
  one_apart Or a l u p t ha hl hu i = (after, tt, opens_apart p i 1)
  one_apart Not a l u p t ha hl hu i = (after, tt, opens_apart p i 1)
  one_apart Implies a l u p t ha hl hu i = (after, tt, opens_apart p i 1)
  one_apart Historically a l u p t ha hl hu i = (after, tt, range_apart l u p hl hu i)
  one_apart Once a l u p t ha hl hu i = (after, tt, range_apart l u p hl hu i)
  one_apart Since a l u p t ha hl hu i = (after, tt, range_apart l u p hl hu i)

parts_apart : (p : Forest) → Good p → Ranged p → (zs : List Symbol) → Free zs → Apart 3 (written [] (Comma ∷ []) p ++ zs) × Free (written (Comma ∷ []) (Comma ∷ []) p ++ zs)
unfolding written goes_on
parts_apart none g r zs f = (f 3, f)
parts_apart (tree h p s) g r zs f =
    let k = parts_apart s g.2 r.4 zs f in
    let rest = written (Comma ∷ []) (Comma ∷ []) s ++ zs in
    let o = one_apart 3 refl rest k.1 h.word h.atom h.lower h.upper p g.0 r.0 r.1 r.2 (λ ys fy. (parts_apart p g.1 r.3 ys fy).0) in
    let e = append_assoc (one_said h (written [] (Comma ∷ []) p)) (written (Comma ∷ []) (Comma ∷ []) s) zs in
    (rw e o, free_mark Comma (written [] (Comma ∷ []) (tree h p s) ++ zs) refl tt (rw e o))

-- ---- lines
line_apart : (h : Head) (p : Forest) → Good (tree h p none) → Ranged (tree h p none) → Apart 0 (one_said h (written [] (Comma ∷ []) p))
unfolding goes_on
line_apart h p g r =
    rw append-nil at (one_apart 0 refl [] (λ c. tt) h.word h.atom h.lower h.upper p g.0 r.0 r.1 r.2 (λ ys fy. (parts_apart p g.1 r.3 ys fy).0))

found_lines : (f : Forest) → Good f → Ranged f → (l : List ℕ) → found 0 (lines f ++ l) ≡ written [] [] f ++ found 0 l
unfolding lines written
found_lines none g r l = refl
found_lines (tree h p s) g r l =
    let x = one_said h (written [] (Comma ∷ []) p) in
    ap (found 0) (append_assoc (spelled x) (line_feed ∷ lines s) l)
    ∙ found_spelled x 0 (lines s ++ l) (line_apart h p (g.0, g.1, tt) (r.0, r.1, r.2, r.3, tt))
    ∙ ap (λ (z : List Symbol). x ++ z) (found_lines s g.2 r.4 l)
    ∙ sym (append_assoc x (written [] [] s) (found 0 l))

number_line_lem : (n : ℕ) (l : List ℕ) → n ≤ MAX → found 0 (decimal n ++ (line_feed ∷ l)) ≡ Number n ∷ found 0 l
unfolding spelled spell goes_on
number_line_lem n l h = rw append-nil at (found_spelled (Number n ∷ []) 0 l (refl, h, tt))

found_section : (f : Forest) → Good f → Sayable f → (l : List ℕ) → found 0 (section_printed f ++ l) ≡ (Number (count f) ∷ written [] [] f) ++ found 0 l
unfolding section_printed
found_section f g r l =
    ap (found 0) (append_assoc (decimal (count f)) (line_feed ∷ lines f) l)
    ∙ number_line_lem (count f) (lines f ++ l) r.number
    ∙ ap (λ (z : List Symbol). Number (count f) ∷ z) (found_lines f g r.numbers l)

-- the symbols of what is printed
pub printed_symbols : (a g : Forest) → Good a → Good g → Sayable a → Sayable g → map (λ (p : Placed). p.symbol) (symbols (printed a g)) ≡ file_said a g
unfolding printed file_said found
printed_symbols a g ga gg ra rg =
    symbols_found (printed a g)
    ∙ found_section a ga ra (section_printed g)
    ∙ ap (λ (z : List Symbol). (Number (count a) ∷ written [] [] a) ++ z) (ap (found 0) (sym (append-nil (section_printed g))) ∙ found_section g gg rg [])

-- what is printed is read back
pub printed_read : (a g : Forest) → Good a → Good g → Sayable a → Sayable g → read_text (printed a g) ≡ read a g
printed_read a g ga gg ra rg = read_written (printed a g) a g ga gg (printed_symbols a g ga gg ra rg)

-- and printed again it is the same text
pub printed_again : (a g : Forest) → Good a → Good g → Sayable a → Sayable g → printed_of (read_text (printed a g)) ≡ printed a g
unfolding printed_of
printed_again a g ga gg ra rg = rw (printed_read a g ga gg ra rg)
