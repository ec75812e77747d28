-- Laws of walking a book's rows as they are printed. Assumes nothing.
use Prim.Native.Nat.{ℕ, suc, ◌+◌, ◌-◌, ◌/◌, ◌≤◌, ◌<◌}
use mathlib.Core.Path.{◌≡◌, refl, sym, ap, ◌∙◌}
use mathlib.Core.Bool.{false}
use mathlib.Core.List.{List, [], ◌∷◌, ◌++◌, append_assoc}
use native.Mathlib.Omega.{arith}
use lib.ListN.{length, get_or, drop}
use lib.Seq.{drop-cons, drop-length}
use lib.Dec.{eqb}
use borrow.Author.Tests.{eq-eqb, ne_eqb}
use Rattle.numbers.specs.Limits.{ROW_WORDS}
use Rattle.text.specs.Words.{line_feed}
use Rattle.lists.proofs.Parts.{part_at}
use Rattle.pmtl.specs.Book.{Rows, row_at, Ordered}
use Rattle.book.specs.Rows.{count_of}
use Rattle.book.specs.Judging.{kind_in, arg_in, lower_in, upper_in, start_in}
use Rattle.buffer_writer.specs.Finish.{Wrote}
use Rattle.buffer_writer.proofs.Writes.{and_then, same_bytes}
use Rattle.trees.specs.Forest.{Head, head_of, Forest, tree, ◌then◌}
use Rattle.book.specs.Kinds.{kind_of_word}
use Rattle.trees.specs.Building.{atom_of}
use Rattle.trees.specs.Books.{head_in, parts_in, joined, tree_at, trees_of}
use Rattle.trees.proofs.Books.{tree_in}
use Rattle.book.specs.declared.kind.Kind.{Kind}
use Rattle.book.specs.declared.kind.Kind.TheVariants.{False, True, Atom, And, Or, Not, Implies, Historically, Once, Since}
use Rattle.rule_scanner.specs.Writing.{head_said, shut, one_said, written}
use Rattle.rule_scanner.specs.declared.symbols.Symbol.{Symbol}
use Rattle.rule_scanner.specs.declared.symbols.Symbol.TheVariants.{Name, Comma}
use Rattle.rule_printer.specs.Printing.{spell, spelled, lines}
use Rattle.trees.specs.Walking.{Held, Walk, rows_said}
use Rattle.trees.proofs.Walking.{part_walk, said_ordered, said_long, said_parts, said_head, said_count}
use Rattle.rule_printer.specs.Walking.{comma_unless, rest_said}
use Rattle.rule_printer.proofs.Putting.{none_put, spelled_append, one_spelled}

-- ---- words of a head, whatever their numbers are called
pub head_same : {m m' : List ℕ} {at at' : ℕ} {w w' : Kind} {a a' l l' u u' : ℕ} → w ≡ w' → a ≡ a' → l ≡ l' → u ≡ u' → Wrote m at (spelled (Name w ∷ head_said (head_of w a l u))) m' at' → Wrote m at (spelled (Name w' ∷ head_said (head_of w' a' l' u'))) m' at'
head_same ew ea el eu p = rw (← ew, ← ea, ← el, ← eu) p

head_any : (w : Kind) (a l u : ℕ) → head_said (head_of w a l u) ≡ head_said (head_of w (atom_of w a) l u)
unfolding head_said
head_any False a l u = refl
head_any True a l u = refl
head_any Atom a l u = refl
head_any And a l u = refl
head_any Or a l u = refl
head_any Not a l u = refl
head_any Implies a l u = refl
head_any Historically a l u = refl
head_any Once a l u = refl
head_any Since a l u = refl

-- ---- commas
pub comma_none : {m : List ℕ} {at : ℕ} (left count : ℕ) → left ≡ count → Wrote m at (spelled (comma_unless (eqb left count))) m at
unfolding spelled
comma_none {m} {at} left count e = rw (eq-eqb left count e) (none_put m at)

pub comma_put : {m m' : List ℕ} {at at' : ℕ} (left count : ℕ) → (left ≡ count → ⊥) → Wrote m at (44 ∷ []) m' at' → Wrote m at (spelled (comma_unless (eqb left count))) m' at'
unfolding spelled spell
comma_put left count e p = rw (ne_eqb left count e) p

-- ---- the parts that are left
abbrev commas : List Symbol
commas = Comma ∷ []

written_first : (bf : List Symbol) (h : Head) (p s : Forest) → written bf commas (tree h p s) ≡ bf ++ (one_said h (written [] commas p) ++ written commas commas s)
unfolding written
written_first bf h p s = refl

spread : (bf name inner shuts rest last : List Symbol) → (bf ++ ((name ++ (inner ++ shuts)) ++ rest)) ++ last ≡ bf ++ (name ++ ((inner ++ shuts) ++ (rest ++ last)))
spread bf name inner shuts rest last = simp append_assoc

none_less : (n : ℕ) → n - 0 ≡ n
none_less n = omega arith

module _ (b : Rows) (w : Ordered b) where
  abbrev parts : ℕ → List ℕ
  parts r = parts_in (row_at b r)

  abbrev head : ℕ → Head
  head r = head_in (row_at b r)

  trees_first : (o : ℕ) (rest : List ℕ) → o < length b → trees_of b (o ∷ rest) ≡ tree (head o) (trees_of b (parts o)) (trees_of b rest)
  unfolding trees_of joined ◌then◌
  trees_first o rest inside = ap (λ (z : Forest). z then trees_of b rest) (tree_in b w o inside)

  rest_nothing : (row : ℕ) → rest_said b row 0 ≡ shut (head row).word
  unfolding rest_said trees_of joined written
  rest_nothing row = ap (λ (z : List ℕ). written (comma_unless (eqb 0 (length (parts row)))) commas (trees_of b z) ++ shut (head row).word) (ap (λ (k : ℕ). drop k (parts row)) (none_less (length (parts row))) ∙ drop-length (parts row))

  -- all of a row's parts
  rest_all : (row n : ℕ) → n ≡ length (parts row) → rest_said b row n ≡ written [] commas (trees_of b (parts row)) ++ shut (head row).word
  unfolding rest_said
  rest_all row n e = let z : length (parts row) - n ≡ 0 = omega arith in rw (z, eq-eqb n (length (parts row)) e)

  rest_one : (row left o : ℕ) → 0 < left → left ≤ length (parts row) → o ≡ get_or (parts row) (length (parts row) - left) 0 → o < length b
      → rest_said b row left ≡ comma_unless (eqb left (length (parts row))) ++ ((Name (head o).word ∷ head_said (head o)) ++ (rest_said b o (length (parts o)) ++ rest_said b row (left - 1)))
  unfolding rest_said one_said
  rest_one row left o some few e inside =
      let n = length (parts row) in
      let rest = drop (n - (left - 1)) (parts row) in
      let bf = comma_unless (eqb left n) in
      let k : suc (n - left) ≡ n - (left - 1) = omega arith in
      let d : drop (n - left) (parts row) ≡ o ∷ rest = drop-cons (parts row) (n - left) 0 (omega arith) ∙ rw (k, ← e) in
      let c : eqb (left - 1) n ≡ false = ne_eqb (left - 1) n (λ z. omega arith) in
      let after : rest_said b row (left - 1) ≡ written commas commas (trees_of b rest) ++ shut (head row).word = rw c in
      ap (λ (z : List ℕ). written bf commas (trees_of b z) ++ shut (head row).word) d
      ∙ ap (λ (z : Forest). written bf commas z ++ shut (head row).word) (trees_first o rest inside)
      ∙ ap (λ (z : List Symbol). z ++ shut (head row).word) (written_first bf (head o) (trees_of b (parts o)) (trees_of b rest))
      ∙ spread bf (Name (head o).word ∷ head_said (head o)) (written [] commas (trees_of b (parts o))) (shut (head o).word) (written commas commas (trees_of b rest)) (shut (head row).word)
      ∙ sym (ap (λ (z : List Symbol). bf ++ ((Name (head o).word ∷ head_said (head o)) ++ (rest_said b o (length (parts o)) ++ z))) after
      ∙ ap (λ (z : List Symbol). bf ++ ((Name (head o).word ∷ head_said (head o)) ++ (z ++ (written commas commas (trees_of b rest) ++ shut (head row).word)))) (rest_all o (length (parts o)) refl))

  -- a row on its line
  line_is : (row n : ℕ) → row < length b → n ≡ length (parts row) → lines (tree_at b row) ≡ spelled (Name (head row).word ∷ head_said (head row)) ++ (spelled (rest_said b row n) ++ (line_feed ∷ []))
  unfolding lines
  line_is row n inside e =
      let i = written [] commas (trees_of b (parts row)) in
      let y = spelled (Name (head row).word ∷ head_said (head row)) in
      ap lines (tree_in b w row inside)
      ∙ ap (λ (z : List ℕ). z ++ (line_feed ∷ [])) (one_spelled (head row) i)
      ∙ append_assoc y (spelled i ++ spelled (shut (head row).word)) (line_feed ∷ [])
      ∙ ap (λ (z : List ℕ). y ++ (z ++ (line_feed ∷ []))) (sym (ap spelled (rest_all row n e) ∙ spelled_append i (shut (head row).word)))

four_spelled : (w x y z : List Symbol) → spelled (w ++ (x ++ (y ++ z))) ≡ spelled w ++ (spelled x ++ (spelled y ++ spelled z))
four_spelled w x y z = spelled_append w (x ++ (y ++ z)) ∙ ap (λ (l : List ℕ). spelled w ++ l) (spelled_append x (y ++ z) ∙ ap (λ (l : List ℕ). spelled x ++ l) (spelled_append y z))

-- ---- by the book's words
module _ {rows operands : List ℕ} (x : Held rows operands) (r : ℕ) (h : r < length rows / ROW_WORDS) where
  abbrev said : Rows
  said = rows_said rows operands

  said_begin : spelled (Name (kind_of_word (kind_in rows r)) ∷ head_said (head_of (kind_of_word (kind_in rows r)) (arg_in rows r) (lower_in rows r) (upper_in rows r))) ≡ spelled (Name (head_in (row_at said r)).word ∷ head_said (head_in (row_at said r)))
  said_begin =
      ap (λ (z : List Symbol). spelled (Name (kind_of_word (kind_in rows r)) ∷ z)) (head_any (kind_of_word (kind_in rows r)) (arg_in rows r) (lower_in rows r) (upper_in rows r))
      ∙ ap (λ (z : Head). spelled (Name z.word ∷ head_said z)) (sym (said_head x r h))

-- nothing is left
pub rest_done : {rows operands m m' : List ℕ} {row at at' left k : ℕ} {w : Kind} → Walk rows operands row left → left ≡ 0 → w ≡ kind_of_word k → k ≡ kind_in rows row → Wrote m at (spelled (shut w)) m' at' → Wrote m at (spelled (rest_said (rows_said rows operands) row left)) m' at'
rest_done {rows} {operands} {row = row} x z ew ek p =
    let e = ew ∙ ap kind_of_word ek ∙ ap (λ (h : Head). h.word) (sym (said_head x.held row x.inside)) in
    rw (z, rest_nothing (rows_said rows operands) (said_ordered x.held) row, ← e) p

-- one part, and those after it
pub rest_more : {rows operands m m₁ m₂ m₃ m₄ : List ℕ} {row left o at a₁ a₂ a₃ a₄ count inner : ℕ} → Walk rows operands row left → 0 < left
    → o ≡ get_or operands (start_in rows row + (count_of (kind_in rows row) (arg_in rows row) - left)) 0 → count ≡ count_of (kind_in rows row) (arg_in rows row) → inner ≡ count_of (kind_in rows o) (arg_in rows o)
    → Wrote m at (spelled (comma_unless (eqb left count))) m₁ a₁
    → Wrote m₁ a₁ (spelled (Name (kind_of_word (kind_in rows o)) ∷ head_said (head_of (kind_of_word (kind_in rows o)) (arg_in rows o) (lower_in rows o) (upper_in rows o)))) m₂ a₂
    → Wrote m₂ a₂ (spelled (rest_said (rows_said rows operands) o inner)) m₃ a₃
    → Wrote m₃ a₃ (spelled (rest_said (rows_said rows operands) row (left - 1))) m₄ a₄
    → Wrote m at (spelled (rest_said (rows_said rows operands) row left)) m₄ a₄
rest_more {rows} {operands} {row = row} {left} {o} {count = count} {inner} x some eo ec ei p₁ p₂ p₃ p₄ =
    let b = rows_said rows operands in
    let n = count_of (kind_in rows row) (arg_in rows row) in
    let h = part_walk x some o eo in
    let l = said_count x.held row x.inside in
    let f : get_or operands (start_in rows row + (n - left)) 0 ≡ get_or (parts_in (row_at b row)) (length (parts_in (row_at b row)) - left) 0 =
    sym (rw (l, said_parts x.held row x.inside) (part_at (start_in rows row) n operands (n - left) (omega (arith, x.some)))) in
    let g : inner ≡ length (parts_in (row_at b o)) = ei ∙ sym (said_count x.held o h.inside) in
    let s : rest_said b row left ≡ comma_unless (eqb left (length (parts_in (row_at b row)))) ++ ((Name (head_in (row_at b o)).word ∷ head_said (head_in (row_at b o))) ++ (rest_said b o (length (parts_in (row_at b o))) ++ rest_said b row (left - 1))) =
    rest_one b (said_ordered x.held) row left o some (omega (arith, l, x.some)) (eo ∙ f) (omega (arith, said_long x.held, h.inside)) in
    let t : spelled (rest_said b row left) ≡ spelled (comma_unless (eqb left (length (parts_in (row_at b row))))) ++ (spelled (Name (head_in (row_at b o)).word ∷ head_said (head_in (row_at b o))) ++ (spelled (rest_said b o (length (parts_in (row_at b o)))) ++ spelled (rest_said b row (left - 1)))) =
    ap spelled s ∙ four_spelled (comma_unless (eqb left (length (parts_in (row_at b row))))) (Name (head_in (row_at b o)).word ∷ head_said (head_in (row_at b o))) (rest_said b o (length (parts_in (row_at b o)))) (rest_said b row (left - 1)) in
    rw t (and_then (rw (ec ∙ sym l) at p₁) (and_then (same_bytes p₂ (said_begin x.held o h.inside)) (and_then (rw g at p₃) p₄)))

-- a row on its line
pub line_put : {rows operands m m₁ m₂ m₃ : List ℕ} {row at a₁ a₂ a₃ count left : ℕ} → Walk rows operands row left → count ≡ count_of (kind_in rows row) (arg_in rows row)
    → Wrote m at (spelled (Name (kind_of_word (kind_in rows row)) ∷ head_said (head_of (kind_of_word (kind_in rows row)) (arg_in rows row) (lower_in rows row) (upper_in rows row)))) m₁ a₁
    → Wrote m₁ a₁ (spelled (rest_said (rows_said rows operands) row count)) m₂ a₂
    → Wrote m₂ a₂ (line_feed ∷ []) m₃ a₃
    → Wrote m at (lines (tree_at (rows_said rows operands) row)) m₃ a₃
line_put {rows} {operands} {row = row} {count = count} x ec p₁ p₂ p₃ =
    rw (line_is (rows_said rows operands) (said_ordered x.held) row count (omega (arith, said_long x.held, x.inside)) (ec ∙ sym (said_count x.held row x.inside)))
    (and_then (same_bytes p₁ (said_begin x.held row x.inside)) (and_then p₂ p₃))
