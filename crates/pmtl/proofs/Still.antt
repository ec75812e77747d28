-- A row that does not move with the clock keeps its value in a time call. Assumes nothing.
use Prim.Native.Nat.{ℕ, ◌<◌}
use native.Mathlib.Omega.{arith}
use native.Mathlib.Decide.{dec_lt}
use mathlib.Core.Path.{◌≡◌, refl, sym, ap, ap₂, ◌∙◌}
use mathlib.Core.Bool.{Bool, true, false, not, ◌||◌, true≢false}
use mathlib.Core.List.{List, [], ◌∷◌, map}
use lib.ListN.{length}
use Rattle.numset.specs.Runs.{has}
use Rattle.pmtl.specs.Book.{Row, Rows, map_row, row_at, AllBelow, Below, Ordered, every, some, itself, move_rule, moves}
use Rattle.pmtl.specs.Book.Row.{never, always, atom, conj, disj, neg, implies, historically, once, since}
use Rattle.pmtl.specs.Monitor.{State, set_at, value_rule, value}
use Rattle.pmtl.proofs.Table.{by_rows, answer_in}
use Rattle.pmtl.proofs.Answers.{value_fix, value_out}

pub neither : (a b : Bool) → (a || b) ≡ false → (a ≡ false) × (b ≡ false)
neither true b e = absurd (true≢false e)
neither false b e = (refl, e)

module _ (r : ℕ) (mv f g : ℕ → Bool) (same : (o : ℕ) → o < r → mv o ≡ false → f o ≡ g o) where
  same_all : (xs : List ℕ) → AllBelow r xs → some itself (map mv xs) ≡ false → map f xs ≡ map g xs
  unfolding some
  same_all [] low e = refl
  same_all (x ∷ xs) low e =
      let both = neither (mv x) (some itself (map mv xs)) e in
      ap₂ (λ (y : Bool) (ys : List Bool). y ∷ ys) (same x low.0 both.0) (same_all xs low.1 both.1)

  -- a row that does not move says the same of operands that say the same
  same_rule : (row : Row ℕ) → Below r row → move_rule (map_row mv row) ≡ false → (bits : List Bool) (here here' : Bool) → value_rule bits here (map_row f row) ≡ value_rule bits here' (map_row g row)
  unfolding value_rule move_rule
  same_rule never low e bits h h' = refl
  same_rule always low e bits h h' = refl
  same_rule (atom a) low e bits h h' = refl
  same_rule (conj xs) low e bits h h' = ap (every itself) (same_all xs low e)
  same_rule (disj xs) low e bits h h' = ap (some itself) (same_all xs low e)
  same_rule (neg x) low e bits h h' = ap not (same x low e)
  same_rule (implies x y) low e bits h h' = let both = neither (mv x) (mv y) e in ap₂ (λ (p q : Bool). not p || q) (same x low.0 both.0) (same y low.1 both.1)
  same_rule (historically k x) low e bits h h' = absurd (true≢false e)
  same_rule (once k x) low e bits h h' = absurd (true≢false e)
  same_rule (since k x y) low e bits h h' = absurd (true≢false e)

module _ (b : Rows) (w : Ordered b) (st st' : State) (same-atoms : st'.now.atoms ≡ st.now.atoms) where
  pub still : (r : ℕ) → moves b r ≡ false → value b st' r ≡ value b st r
  still = by_rows (λ r. moves b r ≡ false → value b st' r ≡ value b st r) λ r below e. go r below e (dec_lt r (length b))
    where
      go : (r : ℕ) → ((o : ℕ) → o < r → moves b o ≡ false → value b st' o ≡ value b st o) → moves b r ≡ false → Dec (r < length b) → value b st' r ≡ value b st r
      go r below e (yes h) =
          let own : move_rule (map_row (moves b) (row_at b r)) ≡ false = sym (answer_in b false (λ n row. move_rule row) w r h) ∙ e in
          value_fix b w st' r
          ∙ ap (λ (bits : List Bool). value_rule bits (has (set_at st' r) st'.now.clock) (map_row (value b st') (row_at b r))) same-atoms
          ∙ same_rule r (moves b) (value b st') (value b st) below (row_at b r) (w r) own st.now.atoms _ _
          ∙ sym (value_fix b w st r)
      go r below e (no h) = value_out b st' r (omega arith) ∙ sym (value_out b st r (omega arith))
