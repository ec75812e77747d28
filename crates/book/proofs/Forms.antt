-- What each test of a row's words says of its number. Assumes nothing.
use mathlib.Core.Path.{◌≡◌}
use mathlib.Core.Bool.{Bool, true, false, and-false}
use mathlib.Core.Logic.{◌⊎◌, ⊎_elim}
use mathlib.Core.List.{List}
use Prim.Native.Nat.{ℕ, ◌≤◌, ◌<◌}
use native.Mathlib.Nat.{not-le_of_lt}
use borrow.Author.Tests.{le-leb, lt-leb}
use Rattle.lists.proofs.Tests.{fails_by}
use Rattle.book.specs.Rows.{temporal}
use Rattle.book.specs.Judging.{kind_in, arg_in, lower_in, upper_in, temporals_in, form_good, range_good, row_number}
use Rattle.book.proofs.Accepted.{form_kind}

-- ---- a row: 3, 4, then 2
module _ (ws : List ℕ) (r kind arg lower upper : ℕ) (k : kind ≡ kind_in ws r) (a : arg ≡ arg_in ws r) (l : lower ≡ lower_in ws r) (u : upper ≡ upper_in ws r) where
  pub in_form : form_good kind arg lower upper ≡ false → 3 ≡ row_number ws r
  unfolding row_number
  in_form f = rw (← k, ← a, ← l, ← u, f)

  module _ (f : form_good kind arg lower upper ≡ true) where
    pub in_range_lem : range_good lower upper ≡ false → 4 ≡ row_number ws r
    unfolding row_number
    in_range_lem g = rw (← k, ← a, ← l, ← u, f, g)

    module _ (g : range_good lower upper ≡ true) {t : ℕ} (e : t ≡ temporals_in ws r) {b : Bool} (y : b ≡ temporal kind) where
      pub no_room : b ≡ true → 32 ≤ t → 2 ≡ row_number ws r
      unfolding row_number
      no_room z m = rw (← k, ← a, ← l, ← u, ← e, f, g, ← y, z, le-leb 32 t m)

      pub in_room : ((b ≡ true) × (t < 32)) ⊎ (b ≡ false) → 0 ≡ row_number ws r
      unfolding row_number
      in_room = ⊎_elim (λ p. rw (← k, ← a, ← l, ← u, ← e, f, g, lt-leb 32 t p.1, and-false)) (λ z. rw (← k, ← a, ← l, ← u, ← e, f, g, ← y, z))

-- a word that is no kind
pub no_kind : (ws : List ℕ) (r kind : ℕ) → kind ≡ kind_in ws r → 9 < kind → 3 ≡ row_number ws r
unfolding row_number
no_kind ws r kind k l =
    rw (fails_by (form_good (kind_in ws r) (arg_in ws r) (lower_in ws r) (upper_in ws r)) (λ h. not-le_of_lt (rw k at l) (form_kind _ _ _ _ h)))
