-- The table of a book's answers: each row's answer is the rule at its operands' answers, and the only one that is. Assumes nothing.
use Prim.Native.Nat.{ℕ, zero, suc, ◌<◌, ◌≤◌}
use native.Mathlib.Omega.{arith}
use native.Mathlib.Decide.{dec_lt}
use native.Mathlib.Nat.{not-suc-le-zero}
use mathlib.Core.Path.{◌≡◌, refl, sym, ap, ap₂, ◌∙◌}
use mathlib.Core.List.{List, [], ◌∷◌, ◌++◌, map}
use lib.ListN.{length, get_or, length-append, get_or-append, get_or-eq_default}
use lib.Seq.{get_or_at}
use Rattle.pmtl.specs.Book.{Row, map_row, Rows, row_at, AllBelow, Below, Ordered, table, answer}
use Rattle.pmtl.specs.Book.Row.{never, always, atom, conj, disj, neg, implies, historically, once, since}

-- a row looks at its operands only
map_local : {A : Type 0} (r : ℕ) (f g : ℕ → A) → ((o : ℕ) → o < r → f o ≡ g o) → (os : List ℕ) → AllBelow r os → map f os ≡ map g os
map_local r f g e [] w = refl
map_local r f g e (o ∷ os) w = ap₂ ◌∷◌ (e o w.0) (map_local r f g e os w.1)

pub map_row_local : {A : Type 0} (r : ℕ) (f g : ℕ → A) → ((o : ℕ) → o < r → f o ≡ g o) → (row : Row ℕ) → Below r row → map_row f row ≡ map_row g row
map_row_local r f g e never w = refl
map_row_local r f g e always w = refl
map_row_local r f g e (atom a) w = refl
map_row_local r f g e (conj os) w = ap conj (map_local r f g e os w)
map_row_local r f g e (disj os) w = ap disj (map_local r f g e os w)
map_row_local r f g e (neg o) w = ap neg (e o w)
map_row_local r f g e (implies x y) w = ap₂ implies (e x w.0) (e y w.1)
map_row_local r f g e (historically q o) w = ap (historically q) (e o w)
map_row_local r f g e (once q o) w = ap (once q) (e o w)
map_row_local r f g e (since q x y) w = ap₂ (since q) (e x w.0) (e y w.1)

map_map : {A B C : Type 0} (f : B → C) (g : A → B) (xs : List A) → map f (map g xs) ≡ map (λ x. f (g x)) xs
map_map f g [] = refl
map_map f g (x ∷ xs) = ap (λ l. f (g x) ∷ l) (map_map f g xs)

pub map_row_map_row : {A B C : Type 0} (f : B → C) (g : A → B) (row : Row A) → map_row f (map_row g row) ≡ map_row (λ x. f (g x)) row
map_row_map_row f g never = refl
map_row_map_row f g always = refl
map_row_map_row f g (atom a) = refl
map_row_map_row f g (conj os) = ap conj (map_map f g os)
map_row_map_row f g (disj os) = ap disj (map_map f g os)
map_row_map_row f g (neg o) = refl
map_row_map_row f g (implies x y) = refl
map_row_map_row f g (historically q o) = refl
map_row_map_row f g (once q o) = refl
map_row_map_row f g (since q x y) = refl

-- what holds of a row if it holds of every row below holds of all
pub by_rows : (P : ℕ → Type 0) → ((r : ℕ) → ((o : ℕ) → o < r → P o) → P r) → (r : ℕ) → P r
by_rows P f r = go (suc r) r (omega arith)
  where
    go : (n k : ℕ) → k < n → P k
    go zero k h = absurd (not-suc-le-zero h)
    go (suc n) k h = f k (λ o l. go n o (omega arith))

-- a row that is not there
pub row_out : (b : Rows) (r : ℕ) → length b ≤ r → row_at b r ≡ never
row_out b r h = get_or-eq_default b never h

module _ {A : Type 0} (b : Rows) (none : A) (rule : ℕ → Row A → A) where
  pub table_length : (n : ℕ) → length (table b none rule n) ≡ n
  unfolding table
  table_length zero = refl
  table_length (suc n) = length-append (table b none rule n) _ ∙ (omega (arith, table_length n))

  -- what a row sees in the table of the rows below n
  look : ℕ → ℕ → A
  look n o = get_or (table b none rule n) o none

  -- a further row leaves the answers below it
  look_keep : (n o : ℕ) → o < n → look (suc n) o ≡ look n o
  unfolding table look
  look_keep n o h = get_or-append (table b none rule n) _ none o (rw table_length h)

  look_new : (n : ℕ) → look (suc n) n ≡ rule n (map_row (look n) (row_at b n))
  unfolding table look
  look_new n = get_or_at (table b none rule n) _ [] none n (table_length n)

  -- a further row leaves what the rows below it see
  look_local : Ordered b → (n r : ℕ) → r ≤ n → map_row (look n) (row_at b r) ≡ map_row (look (suc n)) (row_at b r)
  look_local w n r l = map_row_local r (look n) (look (suc n)) (λ o k. sym (look_keep n o (omega arith))) (row_at b r) (w r)

  look_fix : Ordered b → (n r : ℕ) → r < n → look n r ≡ rule r (map_row (look n) (row_at b r))
  look_fix w zero r h = absurd (not-suc-le-zero h)
  look_fix w (suc n) r h = go (look_fix w n r) (dec_lt r n)
    where
      newest : look (suc n) n ≡ rule n (map_row (look (suc n)) (row_at b n))
      newest = look_new n ∙ ap (rule n) (look_local w n n (omega arith))

      go : (r < n → look n r ≡ rule r (map_row (look n) (row_at b r))) → Dec (r < n) → look (suc n) r ≡ rule r (map_row (look (suc n)) (row_at b r))
      go ih (yes l) = look_keep n r l ∙ ih l ∙ ap (rule r) (look_local w n r (omega arith))
      go ih (no l) = let e : r ≡ n = omega arith in rw e newest

  -- further rows leave a row's answer
  look_stable : (n r : ℕ) → r < n → look n r ≡ look (suc r) r
  look_stable zero r h = absurd (not-suc-le-zero h)
  look_stable (suc n) r h = go (look_stable n r) (dec_lt r n)
    where
      go : (r < n → look n r ≡ look (suc r) r) → Dec (r < n) → look (suc n) r ≡ look (suc r) r
      go ih (yes l) = look_keep n r l ∙ ih l
      go ih (no l) = let e : r ≡ n = omega arith in rw e

  -- the table of some of the rows holds their answers
  pub table_answer : (n r : ℕ) → r < n → n ≤ length b → get_or (table b none rule n) r none ≡ answer b none rule r
  unfolding answer look
  table_answer n r h k = look_stable n r h ∙ sym (look_stable (length b) r (omega arith))

  -- the answer of a row that is not there
  pub answer_out : (r : ℕ) → length b ≤ r → answer b none rule r ≡ none
  unfolding answer
  answer_out r h = get_or-eq_default (table b none rule (length b)) none (omega (arith, table_length (length b)))

  -- the answer of a row that is there is made by the rule, from some answers of its operands
  pub answer_made : (r : ℕ) → r < length b → (f : ℕ → A) × (answer b none rule r ≡ rule r (map_row f (row_at b r)))
  unfolding answer look
  answer_made r h = (look r, look_stable (length b) r h ∙ look_new r)

  module _ (w : Ordered b) where
    -- each answer is the rule at the operands' answers
    pub answer_in : (r : ℕ) → r < length b → answer b none rule r ≡ rule r (map_row (answer b none rule) (row_at b r))
    unfolding answer look
    answer_in r h = look_fix w (length b) r h

    -- also of a row that is not there, where the rule says of False what is said of no row
    pub answer_fix : (r : ℕ) → rule r never ≡ none → answer b none rule r ≡ rule r (map_row (answer b none rule) (row_at b r))
    answer_fix r e = go (dec_lt r (length b))
      where
        go : Dec (r < length b) → answer b none rule r ≡ rule r (map_row (answer b none rule) (row_at b r))
        go (yes l) = answer_in r l
        go (no l) = answer_out r (omega arith) ∙ sym (ap (λ row. rule r (map_row (answer b none rule) row)) (row_out b r (omega arith)) ∙ e)

    -- nothing else is
    pub answer_only_in : (f : ℕ → A) → ((r : ℕ) → r < length b → f r ≡ rule r (map_row f (row_at b r))) → (r : ℕ) → r < length b → f r ≡ answer b none rule r
    answer_only_in f e = by_rows (λ r. r < length b → f r ≡ answer b none rule r) λ r below h.
        e r h ∙ ap (rule r) (map_row_local r f (answer b none rule) (λ o k. below o k (omega arith)) (row_at b r) (w r)) ∙ sym (answer_in r h)

    pub answer_only : ((r : ℕ) → rule r never ≡ none) → (f : ℕ → A) → ((r : ℕ) → f r ≡ rule r (map_row f (row_at b r)))
        → (r : ℕ) → f r ≡ answer b none rule r
    answer_only n f e = by_rows (λ r. f r ≡ answer b none rule r) λ r below.
        e r ∙ ap (rule r) (map_row_local r f (answer b none rule) below (row_at b r) (w r)) ∙ sym (answer_fix r (n r))

-- two rules that agree on the rows up to r, whatever their operands' answers, give r the same answer
module _ {A : Type 0} (b : Rows) (none : A) (rule rule' : ℕ → Row A → A) where
  -- they agree on row o
  abbrev pub Agree : ℕ → Type 0
  Agree o = (f : ℕ → A) → rule o (map_row f (row_at b o)) ≡ rule' o (map_row f (row_at b o))

  pub table_local : (n : ℕ) → ((o : ℕ) → o < n → Agree o) → table b none rule n ≡ table b none rule' n
  unfolding table
  table_local zero e = refl
  table_local (suc n) e =
      ap (λ t. t ++ (rule n (map_row (λ o. get_or t o none) (row_at b n)) ∷ [])) (table_local n (λ o l. e o (omega arith)))
      ∙ ap (λ x. table b none rule' n ++ (x ∷ [])) (e n (omega arith) _)

  pub answer_local : (r : ℕ) → ((o : ℕ) → o ≤ r → Agree o) → answer b none rule r ≡ answer b none rule' r
  unfolding answer look
  answer_local r e = go (dec_lt r (length b))
    where
      go : Dec (r < length b) → answer b none rule r ≡ answer b none rule' r
      go (yes l) = look_stable b none rule (length b) r l
          ∙ ap (λ t. get_or t r none) (table_local (suc r) (λ o k. e o (omega arith)))
          ∙ sym (look_stable b none rule' (length b) r l)
      go (no l) = answer_out b none rule r (omega arith) ∙ sym (answer_out b none rule' r (omega arith))
