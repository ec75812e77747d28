use Prim.Native.Nat.{ℕ}
use mathlib.Core.Path.{◌≡◌, sym}
use mathlib.Core.Logic.{◌⊎◌, ⊎_elim}
use native.Mathlib.Omega.{arith}
use Rattle.rule_scanner.specs.Classes.{class_number}
use Rattle.rule_scanner.specs.declared.symbols.Class.{Class}
use Rattle.rule_scanner.specs.declared.symbols.Class.TheVariants.{Blank, Other}
use Rattle.rule_scanner.proofs.Scanning.{name_found, number_found, mark_found, digits_there}
use Rattle.rule_scanner.proofs.symbols.symbol_here.Goals as goal

-- a byte that goes on with no symbol
alone : {x : Class} {d : ℕ} → (x ≡ Blank) ⊎ (x ≡ Other) → class_number x ≡ d → (d ≡ 1 → ⊥) × (d ≡ 2 → ⊥)
alone {x} {d} h e =
    ⊎_elim
    (λ f. let k : ◌≡◌ {A = ℕ} 0 d = rw f at e in (λ z. omega arith, λ z. omega arith))
    (λ f. let k : ◌≡◌ {A = ℕ} 3 d = rw f at e in (λ z. omega arith, λ z. omega arith))
    h

pub number_of-requires : goal.number_of-requires
number_of-requires c = digits_there _ _ c.requires.0 _ (sym c.in-Digit.ensures) c.run_end-next-in-Digit.ensures.0

pub returns-in-Letter : goal.returns-in-Letter
returns-in-Letter c = name_found _ _ c.requires.0 _ _ (sym c.in-Letter.ensures) c.run_end-next.ensures.0 c.run_end-next.ensures.1 c.name_of.ensures

pub returns-in-Digit : goal.returns-in-Digit
returns-in-Digit c = number_found _ _ c.requires.0 _ _ (sym c.in-Digit.ensures) c.run_end-next-in-Digit.ensures.0 c.run_end-next-in-Digit.ensures.1 c.number_of.ensures

pub returns-in-Blank : goal.returns-in-Blank
returns-in-Blank c = let h = alone c.in-Blank.is c.class_of.ensures in mark_found _ _ c.requires.0 _ c.requires.1 h.0 h.1 c.mark_of.ensures
