-- The lowest row below a row: what a row says is made from rows no lower than that. Assumes nothing.
use Prim.Native.Nat.{ℕ, min, ◌<◌, ◌≤◌}
use native.Mathlib.Omega.{arith}
use native.Mathlib.Decide.{dec_lt}
use mathlib.Core.Path.{◌≡◌, refl, sym, ap, ap₂, ◌∙◌}
use mathlib.Core.List.{List, [], ◌∷◌, map}
use lib.ListN.{length}
use Rattle.pmtl.specs.Book.{Row, map_row, Rows, row_at, AllBelow, Below, Ordered, answer, least_of, lowest_rule, lowest}
use Rattle.pmtl.specs.Book.Row.{never, always, atom, conj, disj, neg, implies, historically, once, since}
use Rattle.pmtl.proofs.Table.{by_rows, answer_in, answer_out, Agree}

least_self : (n : ℕ) (xs : List ℕ) → least_of n xs ≤ n
unfolding least_of
least_self n [] = omega arith
least_self n (x ∷ xs) = let h = least_self (min n x) xs in omega arith

rule_self : (r : ℕ) (row : Row ℕ) → lowest_rule r row ≤ r
unfolding lowest_rule
rule_self r never = omega arith
rule_self r always = omega arith
rule_self r (atom a) = omega arith
rule_self r (conj xs) = least_self r xs
rule_self r (disj xs) = least_self r xs
rule_self r (neg x) = omega arith
rule_self r (implies x y) = omega arith
rule_self r (historically g x) = omega arith
rule_self r (once g x) = omega arith
rule_self r (since g x y) = omega arith

-- ---- a row looks only at operands whose lowest row is no lower than its own
module _ {A : Type 0} (l : ℕ → ℕ) (lo r : ℕ) (f g : ℕ → A) (same : (o : ℕ) → lo ≤ l o → o < r → f o ≡ g o) where
  all_same : (n : ℕ) (os : List ℕ) → AllBelow r os → lo ≤ least_of n (map l os) → map f os ≡ map g os
  unfolding least_of
  all_same n [] low h = refl
  all_same n (o ∷ os) low h =
      let k = least_self (min n (l o)) (map l os) in
      ap₂ (λ (x : A) (xs : List A). x ∷ xs) (same o (omega arith) low.0) (all_same (min n (l o)) os low.1 h)

  row_same : (row : Row ℕ) → Below r row → lo ≤ lowest_rule r (map_row l row) → map_row f row ≡ map_row g row
  unfolding lowest_rule
  row_same never low h = refl
  row_same always low h = refl
  row_same (atom a) low h = refl
  row_same (conj os) low h = ap conj (all_same r os low h)
  row_same (disj os) low h = ap disj (all_same r os low h)
  row_same (neg o) low h = ap neg (same o (omega arith) low)
  row_same (implies x y) low h = ap₂ implies (same x (omega arith) low.0) (same y (omega arith) low.1)
  row_same (historically q o) low h = ap (historically q) (same o (omega arith) low)
  row_same (once q o) low h = ap (once q) (same o (omega arith) low)
  row_same (since q x y) low h = ap₂ (since q) (same x (omega arith) low.0) (same y (omega arith) low.1)

module _ (b : Rows) (w : Ordered b) where
  -- it is no higher than the row itself
  pub lowest_low : (r : ℕ) → lowest b r ≤ r
  lowest_low r = go (dec_lt r (length b))
    where
      go : Dec (r < length b) → lowest b r ≤ r
      go (yes h) = let e = answer_in b 0 lowest_rule w r h in let k = rule_self r (map_row (lowest b) (row_at b r)) in omega arith
      go (no h) = let e = answer_out b 0 lowest_rule r (omega arith) in omega arith

  pub between : {A : Type 0} (f g : ℕ → A) (r : ℕ) → r < length b → ((o : ℕ) → lowest b r ≤ lowest b o → o < r → f o ≡ g o) → map_row f (row_at b r) ≡ map_row g (row_at b r)
  between f g r h same = row_same (lowest b) (lowest b r) r f g same (row_at b r) (w r) (let e = answer_in b 0 lowest_rule w r h in omega arith)

  -- two rules that agree on the rows from the lowest below r up to r give r the same answer
  pub answer_between :
      {A : Type 0} (none : A) (rule rule' : ℕ → Row A → A) (r : ℕ) → r < length b → ((o : ℕ) → lowest b r ≤ o → o ≤ r → Agree b none rule rule' o)
      → answer b none rule r ≡ answer b none rule' r
  answer_between none rule rule' =
      by_rows (λ r. r < length b → ((o : ℕ) → lowest b r ≤ o → o ≤ r → Agree b none rule rule' o) → answer b none rule r ≡ answer b none rule' r) λ r below h agree.
      answer_in b none rule w r h
      ∙ agree r (lowest_low r) (omega arith) (answer b none rule)
      ∙ ap (rule' r) (between (answer b none rule) (answer b none rule') r h (λ o lo lt. below o lt (omega arith) (λ q p s. agree q (omega arith) (omega arith))))
      ∙ sym (answer_in b none rule' w r h)
