-- REFERENCE 2.1 and 2.5: the four sections of a book as they are read, from words in memory or in text. Definitions only.
use Rattle.std.specs.Prelude.{ℕ, ◌*◌, cond, List, [], ◌∷◌, length, take, drop, ltb}
use Rattle.numbers.specs.Limits.{MOST_ROWS, MOST_OPERANDS, MOST_ASSUMES, MOST_GUARANTEES, ROW_WORDS}
use Rattle.numbers.specs.Refusals.{PAST_LIMIT}

-- what reading gives: what was asked for and the words after it, or the refusal that ends the reading
pub data Read (A : Type 0) : Type 0 where
  got : A → List ℕ → Read A
  refused : ℕ → Read A

-- a section: its count, judged before what follows it, and so many items of `size` words. Where words run out, reading ends with `ending`
unfoldable pub section : ℕ → ℕ → ℕ → List ℕ → Read (List ℕ)
section ending limit size [] = refused ending
section ending limit size (n ∷ ws) =
    cond (ltb limit n) (refused PAST_LIMIT) (cond (ltb (length ws) (size * n)) (refused ending) (got (take (size * n) ws) (drop (size * n) ws)))

-- and then
unfoldable pub next : {A B : Type 0} → Read A → (A → List ℕ → Read B) → Read B
next (got x ws) f = f x ws
next (refused n) f = refused n

-- the words of the four sections, without their counts
pub record Sections : Type 0 where
  pub rows : List ℕ
  pub operands : List ℕ
  pub assumes : List ℕ
  pub guarantees : List ℕ

-- rows, operands, assumes, guarantees
unfoldable pub sections : ℕ → List ℕ → Read Sections
sections ending words =
    next (section ending MOST_ROWS ROW_WORDS words) λ rows ws.
    next (section ending MOST_OPERANDS 1 ws) λ operands xs.
    next (section ending MOST_ASSUMES 1 xs) λ assumes ys.
    next (section ending MOST_GUARANTEES 1 ys) λ guarantees zs.
    got (record { rows = rows; operands = operands; assumes = assumes; guarantees = guarantees }) zs
