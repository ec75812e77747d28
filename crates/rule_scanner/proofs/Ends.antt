-- The end stands last among the symbols of a text, at its length, and nowhere else. Assumes nothing.
use Prim.Native.Nat.{ℕ, suc, ◌+◌}
use mathlib.Core.Path.{◌≡◌, ap}
use mathlib.Core.Bool.{Bool, true, false}
use mathlib.Core.List.{List, [], ◌∷◌, ◌++◌}
use native.Mathlib.Omega.{arith}
use lib.ListN.{length}
use Rattle.text.specs.Words.{pick}
use Rattle.rule_scanner.specs.Symbols.{class_of, run_of, name_of, number_of, mark_of, symbol_of, Placed, begins, symbols_after, symbols}
use Rattle.rule_scanner.specs.declared.symbols.Symbol.{Symbol}
use Rattle.rule_scanner.specs.declared.symbols.Symbol.TheVariants.{Name, Number, Left, Right, Opens, Closes, Comma, Star, Bad, End}

abbrev pub NotEnd : Symbol → Type 0
NotEnd (Name w) = Unit {0}
NotEnd (Number n) = Unit {0}
NotEnd Left = Unit {0}
NotEnd Right = Unit {0}
NotEnd Opens = Unit {0}
NotEnd Closes = Unit {0}
NotEnd Comma = Unit {0}
NotEnd Star = Unit {0}
NotEnd Bad = Unit {0}
NotEnd End = ⊥

pick_not : (t : Bool) (x y : Symbol) → NotEnd x → NotEnd y → NotEnd (pick t x y)
unfolding pick
pick_not true x y a b = a
pick_not false x y a b = b

name_not : (w : List ℕ) → NotEnd (name_of w)
unfolding name_of
name_not w =
    pick_not _ _ _ tt (pick_not _ _ _ tt (pick_not _ _ _ tt (pick_not _ _ _ tt (pick_not _ _ _ tt (pick_not _ _ _ tt (pick_not _ _ _ tt (pick_not _ _ _ tt (pick_not _ _ _ tt (pick_not _ _ _ tt tt)))))))))

number_not : (w : List ℕ) → NotEnd (number_of w)
unfolding number_of
number_not w = pick_not _ _ _ tt tt

mark_not : (b : ℕ) → NotEnd (mark_of b)
unfolding mark_of
mark_not b = pick_not _ _ _ tt (pick_not _ _ _ tt (pick_not _ _ _ tt (pick_not _ _ _ tt (pick_not _ _ _ tt (pick_not _ _ _ tt tt)))))

symbol_not : (b : ℕ) (s : List ℕ) → NotEnd (symbol_of b s)
unfolding symbol_of
symbol_not b s = pick_not _ _ _ (name_not (b ∷ run_of 1 s)) (pick_not _ _ _ (number_not (b ∷ run_of 2 s)) (mark_not b))

abbrev pub NoEnd : List Placed → Type 0
NoEnd [] = Unit {0}
NoEnd (p ∷ ps) = NotEnd p.symbol × NoEnd ps

pub record EndsAt (ps : List Placed) (at : ℕ) : Type 0 where
  pub others : List Placed
  pub none : NoEnd others
  pub whole : ps ≡ others ++ (record { symbol = End; at = at } ∷ [])

ends : (s : List ℕ) (c at : ℕ) → EndsAt (symbols_after c at s) (at + length s)
unfolding symbols_after pick
ends [] c at = let e : at + 0 ≡ at = omega arith in record { others = []; none = tt; whole = rw e }
ends (b ∷ s) c at = by_test (begins c (class_of b)) (ends s (class_of b) (suc at))
  where
    e : suc at + length s ≡ at + suc (length s)
    e = omega arith

    by_test : (t : Bool) → EndsAt (symbols_after (class_of b) (suc at) s) (suc at + length s) → EndsAt (pick t (record { symbol = symbol_of b s; at = at } ∷ symbols_after (class_of b) (suc at) s) (symbols_after (class_of b) (suc at) s)) (at + suc (length s))
    by_test true r = record { others = record { symbol = symbol_of b s; at = at } ∷ r.others; none = (symbol_not b s, r.none); whole = ap (λ (z : List Placed). record { symbol = symbol_of b s; at = at } ∷ z) (rw (← e) r.whole) }
    by_test false r = record { others = r.others; none = r.none; whole = rw (← e) r.whole }

pub text_ends : (s : List ℕ) → EndsAt (symbols s) (length s)
unfolding symbols
text_ends s = let e : 0 + length s ≡ length s = omega arith in rw e at (ends s 0 0)
