-- The definitions' rules at the rows of a memory: the change of a temporal row's set, and values. Assumes nothing.
use Prim.Native.Nat.{ℕ, zero, suc, ◌+◌, ◌-◌, ◌≤◌, ◌<◌, min}
use mathlib.Core.Path.{◌≡◌, refl, subst⁻¹}
use mathlib.Core.Bool.{Bool, cond, not}
use mathlib.Core.List.{List, []}
use native.Mathlib.Omega.{arith}
use lib.ListN.{drop}
use lib.Dec.{eqb}
use borrow.Author.Tests.{le-leb, lt-leb}
use Rattle.numset.specs.Runs.{Runs}
use Rattle.ring.specs.Ring.{ringed}
use Rattle.pmtl.specs.Book.{Range, start, stop, Row, map_row}
use Rattle.pmtl.specs.Sets.{Renew, ordinary, lasting, renewed_in, set_rule_by}
use Rattle.pmtl.specs.Monitor.{set_at, value_rule}
use Rattle.memory.specs.Memory.{row_count, kind_at, arg_at, lower_at, upper_at, start_at, slot_at, operands_of, slot_words, row_of, set_of, state_of, range_at}
use Rattle.book.specs.Rows.{row_from}
use Rattle.lists.proofs.Listed.{listed_at}
use Rattle.set_change.specs.Change.{changed, spanned_if, counted_from, mode_in}
use Rattle.set_change.proofs.Changes.{set_historically, set_once, set_since}

-- ---- sets
-- a row that is not temporal has none
no_set_from : (renew : Renew) (c : ℕ) (s : Runs) (f : ℕ → Bool) (kind arg lower upper : ℕ) (os : List ℕ) → kind < 7 → set_rule_by renew c s (map_row f (row_from kind arg lower upper os)) ≡ []
unfolding row_from set_rule_by
no_set_from renew c s f zero arg lower upper os h = refl
no_set_from renew c s f (suc zero) arg lower upper os h = refl
no_set_from renew c s f (suc (suc zero)) arg lower upper os h = refl
no_set_from renew c s f (suc (suc (suc zero))) arg lower upper os h = refl
no_set_from renew c s f (suc (suc (suc (suc zero)))) arg lower upper os h = refl
no_set_from renew c s f (suc (suc (suc (suc (suc zero))))) arg lower upper os h = refl
no_set_from renew c s f (suc (suc (suc (suc (suc (suc zero)))))) arg lower upper os h = refl
no_set_from renew c s f (suc (suc (suc (suc (suc (suc (suc k))))))) arg lower upper os h = absurd (omega arith)

-- a temporal row's set changes by its mode, which counts from the clock c or, where the step counts a stretch, from the instant after the clock before
module _ (spans : Bool) (before c : ℕ) (s : Runs) where
  abbrev by_mode : Range → ℕ → Runs
  by_mode g k = changed k (start g (counted_from (min (before + 1) c) c k)) (stop g c) c s

  abbrev by_rule : Row Bool → Runs
  by_rule row = set_rule_by (renewed_in (cond spans lasting ordinary) before) c s row

  changed_from : (f : ℕ → Bool) (k arg lower upper : ℕ) (os : List ℕ) → k ≤ 2
      → let row = map_row f (row_from (suc (suc (suc (suc (suc (suc (suc k))))))) arg lower upper os) in
      by_rule row ≡ by_mode (record { lower = lower; upper = upper }) (spanned_if spans (mode_in row))
  unfolding row_from
  changed_from f zero arg lower upper os h = set_historically spans before c s _ _
  changed_from f (suc zero) arg lower upper os h = set_once spans before c s _ _
  changed_from f (suc (suc zero)) arg lower upper os h = set_since spans before c s _ _ _
  changed_from f (suc (suc (suc k))) arg lower upper os h = absurd (omega arith)

  pub changed_set : (f : ℕ → Bool) (m : List ℕ) (r : ℕ) → 7 ≤ kind_at m r → kind_at m r ≤ 9 → by_rule (map_row f (row_of m r)) ≡ by_mode (range_at m r) (spanned_if spans (mode_in (map_row f (row_of m r))))
  unfolding row_of
  changed_set f m r h k =
      let e : kind_at m r ≡ suc (suc (suc (suc (suc (suc (suc (kind_at m r - 7))))))) = omega arith in
      subst⁻¹ (λ (kind : ℕ). let row = map_row f (row_from kind (arg_at m r) (lower_at m r) (upper_at m r) (drop (start_at m r) (operands_of m))) in by_rule row ≡ by_mode (range_at m r) (spanned_if spans (mode_in row))) e
      (changed_from f (kind_at m r - 7) _ _ _ _ (omega arith))

pub no_set : (renew : Renew) (c : ℕ) (s : Runs) (f : ℕ → Bool) (m : List ℕ) (r : ℕ) → kind_at m r < 7 → set_rule_by renew c s (map_row f (row_of m r)) ≡ []
unfolding row_of
no_set renew c s f m r h = no_set_from renew c s f (kind_at m r) _ _ _ _ h

-- ---- the sets that a memory holds
pub set_at_lem : (m : List ℕ) (r : ℕ) → r < row_count m → set_at (state_of m) r ≡ set_of m r
unfolding state_of
set_at_lem m r h = listed_at (set_of m) [] (row_count m) r h

pub set_of_slot : (m : List ℕ) (r : ℕ) → 7 ≤ kind_at m r → set_of m r ≡ ringed (slot_words m (slot_at m r))
unfolding set_of
set_of_slot m r h = rw (le-leb 7 (kind_at m r) h)

pub set_of_none : (m : List ℕ) (r : ℕ) → kind_at m r < 7 → set_of m r ≡ []
unfolding set_of
set_of_none m r h = rw (lt-leb 7 (kind_at m r) h)

-- ---- values
-- a temporal row's, by whether its set contains the clock
temporal_from : (bits : List Bool) (here : Bool) (f : ℕ → Bool) (k arg lower upper : ℕ) (os : List ℕ) → k ≤ 2
    → value_rule bits here (map_row f (row_from (suc (suc (suc (suc (suc (suc (suc k))))))) arg lower upper os)) ≡ cond (eqb (suc (suc (suc (suc (suc (suc (suc k))))))) 7) (not here) here
unfolding row_from value_rule
temporal_from bits here f zero arg lower upper os h = refl
temporal_from bits here f (suc zero) arg lower upper os h = refl
temporal_from bits here f (suc (suc zero)) arg lower upper os h = refl
temporal_from bits here f (suc (suc (suc k))) arg lower upper os h = absurd (omega arith)

pub temporal_held : (bits : List Bool) (here : Bool) (f : ℕ → Bool) (m : List ℕ) (r : ℕ) → 7 ≤ kind_at m r → kind_at m r ≤ 9
    → value_rule bits here (map_row f (row_of m r)) ≡ cond (eqb (kind_at m r) 7) (not here) here
unfolding row_of
temporal_held bits here f m r h k =
    let e : kind_at m r ≡ suc (suc (suc (suc (suc (suc (suc (kind_at m r - 7))))))) = omega arith in
    subst⁻¹ (λ (kind : ℕ). value_rule bits here (map_row f (row_from kind (arg_at m r) (lower_at m r) (upper_at m r) (drop (start_at m r) (operands_of m)))) ≡ cond (eqb kind 7) (not here) here) e
    (temporal_from bits here f (kind_at m r - 7) _ _ _ _ (omega arith))
