-- `book::check::are_operands` meets its contract. The loop's invariant stands first. Assumes nothing.
use Prim.Native.Nat.{◌≤◌}
use mathlib.Core.Bool.{true}
use mathlib.Core.List.{[]}
use mathlib.Core.Path.{◌≡◌}
use lib.ListN.{length}
use Rattle.book.specs.Placing.{sections_of}
use Rattle.book.specs.Judging.{start_in, all_to, operands_good}
use Rattle.book.proofs.check.are_operands.Given as goal

abbrev pub invariant-loop-row : goal.invariant-loop-row
invariant-loop-row l =
    (l.start ≡ start_in l.rows l.row) × (l.start ≤ length l.operands) × (all_to (operands_good (sections_of l.rows l.operands [] [])) l.row ≡ true)
