-- Which rooms hold a report. Assumes nothing.
use Prim.Native.Nat.{ℕ, ◌≤◌, ◌<◌}
use native.Mathlib.Omega.{arith}
use mathlib.Core.Path.{◌≡◌, refl, sym, ap, ◌∙◌}
use mathlib.Core.Bool.{Bool, true, false, cond}
use mathlib.Core.List.{List}
use lib.Dec.{leb}
use lib.ListN.{length, replicate, length-replicate}
use borrow.Author.Tests.{le-leb, leb-true, eq-eqb, ne_eqb}
use Rattle.numbers.specs.Limits.{MAX, LONGEST_REPORT}
use Rattle.buffer_writer.specs.Buffer.{Handed, handed, in_buffer}
use Rattle.book.specs.declared.loading.Loading.{Loading}
use Rattle.report.specs.Report.{report}
use Rattle.slip.proofs.Theorems.{no_longer, always_room}
use Rattle.reporter.specs.Rooms.{SHORT, SHORT_REPORT, SHORT_INPUT, holds, one_holds}

-- the length that is handed back lies within the room exactly if the room holds the report
module _ (way : Loading) (input out exit : List ℕ) (n : ℕ) (e : handed n exit ≡ in_buffer out (report way input)) where
  number : (z : Bool) → leb (length (report way input)) (length out) ≡ z → n ≡ cond z (length (report way input)) MAX
  unfolding in_buffer
  number true f = ap (λ (h : Handed). h.number) (rw f at e)
  number false f = ap (λ (h : Handed). h.number) (rw f at e)

  pub too_short : length out < n → false ≡ holds way (length out) input
  too_short h = go (leb (length (report way input)) (length out)) refl
    where
      go : (z : Bool) → leb (length (report way input)) (length out) ≡ z → false ≡ leb (length (report way input)) (length out)
      go true f = absurd (omega (arith, number true f, leb-true (length (report way input)) (length out) f))
      go false f = sym f

  pub fits : length out < MAX → n ≤ length out → true ≡ holds way (length out) input
  fits l h = go (leb (length (report way input)) (length out)) refl
    where
      go : (z : Bool) → leb (length (report way input)) (length out) ≡ z → true ≡ leb (length (report way input)) (length out)
      go true f = sym f
      go false f = absurd (omega (arith, number false f))

-- a room made of zeros is as long as it says
pub in_room : (way : Loading) (n : ℕ) (input : List ℕ) (r : Bool) → r ≡ holds way (length (replicate {A = ℕ} n 0)) input → r ≡ holds way n input
in_room way n input r e = e ∙ ap (λ k. holds way k input) (length-replicate {0} {A = ℕ} n 0)

-- the long room holds every report, and the short one that of a short input
pub long_holds : (way : Loading) (input : List ℕ) → holds way LONGEST_REPORT input ≡ true
long_holds way input = le-leb (length (report way input)) LONGEST_REPORT (always_room way input)

pub short_holds : (way : Loading) (input : List ℕ) → length input ≤ SHORT_INPUT → holds way SHORT_REPORT input ≡ true
short_holds way input h = le-leb (length (report way input)) SHORT_REPORT (omega (arith, no_longer way input))

-- the rooms up to one of them
module _ (way : Loading) (input : List ℕ) (room : ℕ) where
  pub only_short : room ≡ SHORT → one_holds way room input ≡ holds way SHORT_REPORT input
  unfolding one_holds
  only_short e = rw (eq-eqb room SHORT e)

  pub long_too : ¬ (room ≡ SHORT) → one_holds way room input ≡ true
  unfolding one_holds
  long_too n = rw (ne_eqb room SHORT n)
