-- Laws of printing a whole book. Assumes nothing.
use Prim.Native.Nat.{ℕ, suc, ◌+◌, ◌≤◌, ◌<◌}
use mathlib.Core.Path.{◌≡◌, refl, sym, ap, ◌∙◌}
use mathlib.Core.List.{List, [], ◌∷◌, ◌++◌, append_assoc}
use native.Mathlib.Omega.{arith}
use lib.ListN.{length, get_or, take}
use lib.Seq.{take-suc, take-length}
use Rattle.numbers.specs.Refusals.{ACCEPTED}
use Rattle.text.specs.Words.{line_feed}
use Rattle.text.specs.Decimals.{decimal}
use Rattle.pmtl.specs.Book.{Rows}
use Rattle.book.specs.Reading.{Sections}
use Rattle.book.specs.Judging.{Loaded, loaded, book_in}
use Rattle.book.specs.Placing.{parts_of, Placed, Counted}
use Rattle.book.proofs.Placing.{accepted_book}
use Rattle.buffer_writer.specs.Buffer.{Handed, in_buffer}
use Rattle.buffer_writer.specs.Finish.{finish, Wrote}
use Rattle.buffer_writer.proofs.Writes.{and_then, at_end, whole}
use Rattle.trees.proofs.Built.{then_none, then_assoc}
use Rattle.trees.specs.Forest.{Forest, none, tree, ◌then◌}
use Rattle.trees.specs.Books.{joined, tree_at, trees_of}
use Rattle.trees.proofs.Books.{trees_count}
use Rattle.rule_scanner.specs.Writing.{one_said, written}
use Rattle.rule_scanner.specs.declared.symbols.Symbol.TheVariants.{Comma}
use Rattle.rule_printer.specs.Printing.{spelled, lines, section_printed, printed, book_printed}
use Rattle.trees.specs.Walking.{Properties, rows_said}
use Rattle.rule_printer.proofs.Putting.{none_put}
use Rattle.trees.proofs.Walking.{said_ordered, rows_are, properties_below}

-- ---- lines, one after another
lines_then : (f g : Forest) → lines (f then g) ≡ lines f ++ lines g
unfolding lines ◌then◌
lines_then none g = refl
lines_then (tree h p s) g =
    let x = spelled (one_said h (written [] (Comma ∷ []) p)) in
    ap (λ (z : List ℕ). x ++ (line_feed ∷ z)) (lines_then s g) ∙ sym (append_assoc x (line_feed ∷ lines s) (lines g))

trees_then : (b : Rows) (xs ys : List ℕ) → trees_of b (xs ++ ys) ≡ trees_of b xs then trees_of b ys
unfolding trees_of joined ◌then◌
trees_then b [] ys = refl
trees_then b (x ∷ xs) ys = ap (λ (z : Forest). tree_at b x then z) (trees_then b xs ys) ∙ sym (then_assoc (tree_at b x) (trees_of b xs) (trees_of b ys))

trees_one : (b : Rows) (r : ℕ) → trees_of b (r ∷ []) ≡ tree_at b r
unfolding trees_of joined
trees_one b r = then_none (tree_at b r)

-- the first i properties are printed
pub record Lined (b : Rows) (ps m : List ℕ) (at : ℕ) (m' : List ℕ) (at' i : ℕ) : Type 0 where
  pub written : Wrote m at (lines (trees_of b (take i ps))) m' at'
  pub low : i ≤ length ps
  pub long : length m' ≡ length m

pub lined_start : (b : Rows) (ps m : List ℕ) (at : ℕ) → Lined b ps m at m at 0
unfolding trees_of joined lines
lined_start b ps m at = record { written = none_put m at; low = omega arith; long = refl }

pub lined_more : {b : Rows} {ps m m' m'' : List ℕ} {at at' at'' i r : ℕ} → Lined b ps m at m' at' i → i < length ps → r ≡ get_or ps i 0 → Wrote m' at' (lines (tree_at b r)) m'' at'' → length m'' ≡ length m' → Lined b ps m at m'' at'' (i + 1)
lined_more {b} {ps} {i = i} {r} l h e w k =
    let z : i + 1 ≡ suc i = omega arith in
    let t : take (i + 1) ps ≡ take i ps ++ (r ∷ []) = rw (z, e) (take-suc ps i 0 h) in
    record {
      written = rw (ap (λ (x : List ℕ). lines (trees_of b x)) t ∙ ap lines (trees_then b (take i ps) (r ∷ []) ∙ ap (λ (x : Forest). trees_of b (take i ps) then x) (trees_one b r)) ∙ lines_then (trees_of b (take i ps)) (tree_at b r)) (and_then l.written w);
      low = omega arith;
      long = omega (arith, l.long);
    }

pub lined_all : {b : Rows} {ps m m' : List ℕ} {at at' i : ℕ} → Lined b ps m at m' at' i → length ps ≤ i → Wrote m at (lines (trees_of b ps)) m' at'
lined_all {b} {ps} {i = i} l h = let e : i ≡ length ps = omega (arith, l.low) in rw (e, take-length ps) at l.written

-- ---- a section
pub section_put : {rows operands ps m m₁ m₂ m₃ : List ℕ} {at a₁ a₂ a₃ : ℕ} → Properties rows operands ps → Wrote m at (decimal (length ps)) m₁ a₁ → Wrote m₁ a₁ (line_feed ∷ []) m₂ a₂ → Wrote m₂ a₂ (lines (trees_of (rows_said rows operands) ps)) m₃ a₃
    → Wrote m at (section_printed (trees_of (rows_said rows operands) ps)) m₃ a₃
unfolding section_printed
section_put {rows} {operands} {ps} x p q r = rw (trees_count (rows_said rows operands) (said_ordered x.held) ps (properties_below x)) (and_then p (and_then q r))

-- ---- the book
-- the places of an accepted book
pub placed_as : {words : List ℕ} {n o a g : ℕ} → (loaded words).number ≡ ACCEPTED → Counted words n o a g → Placed words ACCEPTED n o a g
placed_as ok c = record { number_is = sym ok; counted = λ _. c; none = λ z. absurd (z refl) }

module _ {words rs os : List ℕ} {number n o a g : ℕ} (p : Placed words number n o a g) (ok : number ≡ ACCEPTED) (er : rs ≡ (parts_of words n o a g).rows) (eo : os ≡ (parts_of words n o a g).operands) where
  abbrev parts : Sections
  parts = parts_of words n o a g

  assumes_are : (book_in parts).assumes ≡ parts.assumes
  unfolding book_in
  assumes_are = refl

  guarantees_are : (book_in parts).guarantees ≡ parts.guarantees
  unfolding book_in
  guarantees_are = refl

  pub book_put : {xs gs out m₁ m₂ : List ℕ} {a₁ a₂ : ℕ} {h : Handed} → xs ≡ parts.assumes → gs ≡ parts.guarantees → Wrote out 0 (section_printed (trees_of (rows_said rs os) xs)) m₁ a₁ → Wrote m₁ a₁ (section_printed (trees_of (rows_said rs os) gs)) m₂ a₂
      → h ≡ finish m₂ a₂ [] → h ≡ in_buffer out (book_printed (loaded words).book)
  unfolding book_printed printed
  book_put {xs} {gs} {out} ea eg p₁ p₂ e =
      let b : (loaded words).book ≡ book_in parts = ap (λ (l : Loaded). l.book) (accepted_book words number n o a g p ok) in
      let text : book_printed (loaded words).book ≡ section_printed (trees_of (rows_said rs os) xs) ++ section_printed (trees_of (rows_said rs os) gs) =
      ap book_printed b ∙ rw (← rows_are p ok er eo, assumes_are, guarantees_are, ← ea, ← eg) in
      e ∙ at_end (and_then p₁ p₂) ∙ whole out (section_printed (trees_of (rows_said rs os) xs) ++ section_printed (trees_of (rows_said rs os) gs)) ∙ ap (in_buffer out) (sym text)
