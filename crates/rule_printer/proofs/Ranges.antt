-- The numbers of a text are in range, so that what is read can be printed. Assumes nothing.
use Prim.Native.Nat.{ℕ, ◌≤◌}
use mathlib.Core.Path.{◌≡◌, refl, sym, ap, ◌∙◌}
use mathlib.Core.Bool.{Bool, true, false, ◌&&◌, false≢true}
use mathlib.Core.List.{List, [], ◌∷◌, ◌++◌, map}
use native.Mathlib.Omega.{arith}
use lib.Dec.{eqb, leb}
use lib.ListN.{length}
use borrow.Author.Tests.{leb-true, eqb-true}
use Rattle.numbers.specs.Limits.{MAX}
use Rattle.text.specs.Words.{pick, all_digits, plain, said, good, most_digits}
use Rattle.rule_scanner.specs.Symbols.{class_of, run_of, name_of, number_of, mark_of, symbol_of, begins, Placed, symbols}
use Rattle.trees.specs.Forest.{head_of, Forest, none, tree, count, Fit, Good}
use Rattle.rule_scanner.specs.Writing.{upper_said, head_said, shut, one_said, written, file_said}
use Rattle.rule_scanner.specs.Starred.{is_comma, starred_one, starred}
use Rattle.rule_scanner.specs.Reading.{read, read_text}
use Rattle.rule_reader.specs.Rules.{result_of, read_book}
use Rattle.rule_scanner.proofs.Theorems.{read_is_written}
use Rattle.book.specs.declared.kind.Kind.{Kind}
use Rattle.book.specs.declared.kind.Kind.TheVariants.{False, True, Atom, And, Or, Not, Implies, Historically, Once, Since}
use Rattle.rule_scanner.specs.declared.symbols.Symbol.{Symbol}
use Rattle.rule_scanner.specs.declared.symbols.Symbol.TheVariants.{Name, Number, Left, Right, Opens, Closes, Comma, Star, Bad, End}
use Rattle.rule_printer.specs.Printing.{printed, Ranged, Sayable}
use Rattle.rule_printer.proofs.Spelled.{found, symbols_found}
use Rattle.rule_printer.proofs.Printed.{printed_read}

-- ---- symbols whose numbers are in range
abbrev In : Symbol → Type 0
In (Name w) = Unit {0}
In (Number n) = n ≤ MAX
In Left = Unit {0}
In Right = Unit {0}
In Opens = Unit {0}
In Closes = Unit {0}
In Comma = Unit {0}
In Star = Unit {0}
In Bad = Unit {0}
In End = Unit {0}

abbrev AllIn : List Symbol → Type 0
AllIn [] = Unit {0}
AllIn (y ∷ ys) = In y × AllIn ys

pick_in : (t : Bool) (x y : Symbol) → (t ≡ true → In x) → In y → In (pick t x y)
unfolding pick
pick_in true x y a b = a refl
pick_in false x y a b = b

name_in : (w : List ℕ) → In (name_of w)
unfolding name_of
name_in w =
    pick_in _ _ _ (λ e. tt) (pick_in _ _ _ (λ e. tt) (pick_in _ _ _ (λ e. tt) (pick_in _ _ _ (λ e. tt) (pick_in _ _ _ (λ e. tt) (pick_in _ _ _ (λ e. tt) (pick_in _ _ _ (λ e. tt) (pick_in _ _ _ (λ e. tt) (pick_in _ _ _ (λ e. tt) (pick_in _ _ _ (λ e. tt) tt)))))))))

mark_in : (b : ℕ) → In (mark_of b)
unfolding mark_of
mark_in b = pick_in _ _ _ (λ e. tt) (pick_in _ _ _ (λ e. tt) (pick_in _ _ _ (λ e. tt) (pick_in _ _ _ (λ e. tt) (pick_in _ _ _ (λ e. tt) (pick_in _ _ _ (λ e. tt) tt)))))

second : (a b : Bool) → (a && b) ≡ true → b ≡ true
second true b e = e
second false b e = absurd (false≢true e)

good_max : (w : List ℕ) → good w ≡ true → said 0 w ≤ MAX
unfolding good
good_max w e =
    leb-true (said 0 w) MAX (second (plain w) (leb (said 0 w) MAX) (second (leb (length w) most_digits) (plain w && leb (said 0 w) MAX) (second (all_digits w) (leb (length w) most_digits && (plain w && leb (said 0 w) MAX)) e)))

number_in : (w : List ℕ) → In (number_of w)
unfolding number_of
number_in w = pick_in (good w) (Number (said 0 w)) Bad (λ e. good_max w e) tt

symbol_in : (b : ℕ) (s : List ℕ) → In (symbol_of b s)
unfolding symbol_of
symbol_in b s = pick_in _ _ _ (λ e. name_in (b ∷ run_of 1 s)) (pick_in _ _ _ (λ e. number_in (b ∷ run_of 2 s)) (mark_in b))

found_in : (c : ℕ) (s : List ℕ) → AllIn (found c s)
unfolding found pick
found_in c [] = (tt, tt)
found_in c (b ∷ s) = by_test (begins c (class_of b)) (found_in (class_of b) s)
  where
    by_test : (t : Bool) → AllIn (found (class_of b) s) → AllIn (pick t (symbol_of b s ∷ found (class_of b) s) (found (class_of b) s))
    by_test true a = (symbol_in b s, a)
    by_test false a = a

starred_one_lem : (t : Bool) (y : Symbol) → In y → In (starred_one t y)
unfolding pick
starred_one_lem false y a = a
starred_one_lem true (Name w) a = tt
starred_one_lem true (Number n) a = pick_in (eqb n MAX) Star (Number n) (λ e. tt) a
starred_one_lem true Left a = tt
starred_one_lem true Right a = tt
starred_one_lem true Opens a = tt
starred_one_lem true Closes a = tt
starred_one_lem true Comma a = tt
starred_one_lem true Star a = tt
starred_one_lem true Bad a = tt
starred_one_lem true End a = tt

starred_in : (c : Symbol) (ys : List Symbol) → AllIn ys → AllIn (starred c ys)
unfolding starred
starred_in c [] a = tt
starred_in c (y ∷ ys) a = (starred_one_lem (is_comma c) y a.0, starred_in y ys a.1)

-- ---- properties whose symbols are in range
left_in : (x y : List Symbol) → AllIn (x ++ y) → AllIn x
left_in [] y a = tt
left_in (z ∷ x) y a = (a.0, left_in x y a.1)

right_in : (x y : List Symbol) → AllIn (x ++ y) → AllIn y
right_in [] y a = a
right_in (z ∷ x) y a = right_in x y a.1

upper_in : (u : ℕ) → In (upper_said u) → u ≤ MAX
unfolding pick
upper_in u a = by_test (eqb u MAX) refl a
  where
    by_test : (t : Bool) → eqb u MAX ≡ t → In (pick t Star (Number u)) → u ≤ MAX
    by_test true e a = omega (arith, eqb-true u MAX e)
    by_test false e a = a

head_in : (w : Kind) (a l u n : ℕ) → Fit w a l u n → AllIn (head_said (head_of w a l u)) → (a ≤ MAX) × (l ≤ MAX) × (u ≤ MAX)
unfolding head_said
head_in False a l u n t k = (omega (arith, t.1), omega (arith, t.2), omega (arith, t.3))
head_in True a l u n t k = (omega (arith, t.1), omega (arith, t.2), omega (arith, t.3))
head_in Atom a l u n t k = (k.0, omega (arith, t.1), omega (arith, t.2))
head_in And a l u n t k = (omega (arith, t.0), omega (arith, t.1), omega (arith, t.2))
head_in Or a l u n t k = (omega (arith, t.0), omega (arith, t.1), omega (arith, t.2))
head_in Not a l u n t k = (omega (arith, t.1), omega (arith, t.2), omega (arith, t.3))
head_in Implies a l u n t k = (omega (arith, t.1), omega (arith, t.2), omega (arith, t.3))
head_in Historically a l u n t k = (omega (arith, t.1), k.1.0, upper_in u k.1.1.1.0)
head_in Once a l u n t k = (omega (arith, t.1), k.1.0, upper_in u k.1.1.1.0)
head_in Since a l u n t k = (omega (arith, t.1), k.1.0, upper_in u k.1.1.1.0)

ranged : (f : Forest) (b c : List Symbol) → Good f → AllIn (written b c f) → Ranged f
unfolding written one_said
ranged none b c g a = tt
ranged (tree h p s) b c g a =
    let inner = written [] (Comma ∷ []) p in
    let x = right_in b (one_said h inner ++ written c c s) a in
    let o = left_in (one_said h inner) (written c c s) x in
    let k = head_in h.word h.atom h.lower h.upper (count p) g.0 (left_in (head_said h) (inner ++ shut h.word) o.1) in
    (k.0, k.1, k.2, ranged p [] (Comma ∷ []) g.1 (left_in inner (shut h.word) (right_in (head_said h) (inner ++ shut h.word) o.1)), ranged s c c g.2 (right_in (one_said h inner) (written c c s) x))

file_ranged : (a g : Forest) → Good a → Good g → AllIn (file_said a g) → Sayable a × Sayable g
unfolding file_said
file_ranged a g ga gg k =
    let l = left_in (Number (count a) ∷ written [] [] a) ((Number (count g) ∷ written [] [] g) ++ (End ∷ [])) k in
    let r = left_in (Number (count g) ∷ written [] [] g) (End ∷ []) (right_in (Number (count a) ∷ written [] [] a) ((Number (count g) ∷ written [] [] g) ++ (End ∷ [])) k) in
    (record { numbers = ranged a [] [] ga l.1; number = l.0 }, record { numbers = ranged g [] [] gg r.1; number = r.0 })

-- what a text is read as can be printed
pub text_sayable : (s : List ℕ) (a g : Forest) → read_text s ≡ read a g → Sayable a × Sayable g
text_sayable s a g e =
    let w = read_is_written s a g e in
    file_ranged a g w.assumes w.guarantees (rw w.said at (starred_in End (map (λ (p : Placed). p.symbol) (symbols s)) (rw (← symbols_found s) at (found_in 0 s))))

-- and printing it gives a text that is read as the same
pub text_printed : (s : List ℕ) (a g : Forest) → read_text s ≡ read a g → read_text (printed a g) ≡ read_text s
text_printed s a g e =
    let w = read_is_written s a g e in
    let k = text_sayable s a g e in
    printed_read a g w.assumes w.guarantees k.0 k.1 ∙ sym e

-- so it is read as the same book, or refused with the same number
pub book_printed_lem : (s : List ℕ) (a g : Forest) → read_text s ≡ read a g → read_book (printed a g) ≡ read_book s
unfolding read_book
book_printed_lem s a g e = ap result_of (text_printed s a g e)
