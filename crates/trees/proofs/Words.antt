-- The words of numbered properties say their book. Assumes nothing.
use Prim.Native.Nat.{ℕ, zero, suc, ◌+◌, ◌*◌, ◌≤◌, ◌<◌}
use mathlib.Core.Path.{◌≡◌, refl, sym, ap, ◌∙◌}
use mathlib.Core.Bool.{Bool, true, false}
use mathlib.Core.List.{List, [], ◌∷◌, ◌++◌, append-nil, map, map-append}
use native.Mathlib.Omega.{arith}
use lib.ListN.{length, get_or, take, drop, length-append, get_or-append}
use lib.Seq.{take_at, drop_at, take-suc, split_at, get_or-append-add, take-length}
use Rattle.pmtl.specs.Book.{Book}
use Rattle.book.specs.Rows.{row_from, count_of}
use Rattle.lists.specs.Lists.{listed}
use mathlib.Core.Bool.{cond}
use mathlib.Core.Logic.{◌⊎◌, inl, inr, ⊎_elim}
use lib.Dec.{ltb, eqb}
use borrow.Author.Tests.{le-ltb, eqb-false}
use Rattle.book.specs.Reading.{Sections, got, refused, section, sections, next}
use Rattle.trees.specs.Building.{words_of}
use Rattle.book.specs.Judging.{kind_in, arg_in, lower_in, upper_in, rows_in, start_in, row_in, book_in, judged, loaded_from, whole, loaded}
use Rattle.trees.specs.Forest.{head_of, Forest, none, tree, ◌then◌, count, size, roots, Entry, entries, Fit, Good}
use Rattle.trees.specs.Numbered.{row_with, row_of, rows_from, book_of}
use Rattle.book.specs.Kinds.{word_of_kind}
use Rattle.trees.specs.Building.{arg_of, row_words, all_rows, all_operands}
use Rattle.trees.proofs.Numbered.{entries_length, roots_length, good_then}
use Rattle.trees.proofs.Built.{operands_append, rows_length}
use Rattle.book.specs.declared.kind.Kind.{Kind}
use Rattle.book.specs.declared.kind.Kind.TheVariants.{False, True, Atom, And, Or, Not, Implies, Historically, Once, Since}

abbrev pub no : Entry
no = record { head = head_of False 0 0 0; operands = [] }

-- ---- each row has the operands that it takes
abbrev pub FitE : Entry → Type 0
FitE e = Fit e.head.word e.head.atom e.head.lower e.head.upper (length e.operands)

abbrev pub AllFit : List Entry → Type 0
AllFit [] = Unit {0}
AllFit (e ∷ es) = FitE e × AllFit es

fits_append : (x y : List Entry) → AllFit x → AllFit y → AllFit (x ++ y)
fits_append [] y a b = b
fits_append (e ∷ x) y a b = (a.0, fits_append x y a.1 b)

pub fit_at : (x : List Entry) (r : ℕ) → r < length x → AllFit x → FitE (get_or x r no)
fit_at [] r h a = absurd (omega arith)
fit_at (e ∷ x) zero h a = a.0
fit_at (e ∷ x) (suc r) h a = fit_at x r (omega arith) a.1

pub entries_fit : (n : ℕ) (f : Forest) → Good f → AllFit (entries n f)
unfolding entries
entries_fit n none g = tt
entries_fit n (tree h p s) g = fits_append (entries n p) (record { head = h; operands = roots n p } ∷ entries (n + suc (size p)) s) (entries_fit n p g.1) (rw (roots_length n p) g.0, entries_fit (n + suc (size p)) s g.2)

-- ---- the words of a row
words_at_lem : (es : List Entry) (r j : ℕ) → j < 4 → r < length es → get_or (all_rows es) (4 * r + j) 0 ≡ get_or (row_words (get_or es r no)) j 0
unfolding all_rows
words_at_lem [] r j h k = absurd (omega arith)
words_at_lem (e ∷ es) zero j h k = let z : 4 * 0 + j ≡ j = omega arith in rw z (get_or-append (row_words e) (all_rows es) 0 j h)
words_at_lem (e ∷ es) (suc r) j h k =
    let z : 4 * suc r + j ≡ 4 + (4 * r + j) = omega arith in
    rw z (get_or-append-add (row_words e) (all_rows es) (4 * r + j) 0 ∙ words_at_lem es r j h (omega arith))

module _ (es : List Entry) (r : ℕ) (h : r < length es) where
  pub kind_at_lem : kind_in (all_rows es) r ≡ word_of_kind (get_or es r no).head.word
  kind_at_lem = let z : 4 * r ≡ 4 * r + 0 = omega arith in ap (λ (i : ℕ). get_or (all_rows es) i 0) z ∙ words_at_lem es r 0 (omega arith) h

  pub arg_at_lem : arg_in (all_rows es) r ≡ arg_of (get_or es r no).head.word (get_or es r no).head.atom (length (get_or es r no).operands)
  arg_at_lem = words_at_lem es r 1 (omega arith) h

  pub lower_at_lem : lower_in (all_rows es) r ≡ (get_or es r no).head.lower
  lower_at_lem = words_at_lem es r 2 (omega arith) h

  pub upper_at_lem : upper_in (all_rows es) r ≡ (get_or es r no).head.upper
  upper_at_lem = words_at_lem es r 3 (omega arith) h

pub count_fits : (w : Kind) (a l u n : ℕ) → Fit w a l u n → count_of (word_of_kind w) (arg_of w a n) ≡ n
unfolding count_of
count_fits False a l u n f = sym f.0
count_fits True a l u n f = sym f.0
count_fits Atom a l u n f = sym f.0
count_fits And a l u n f = refl
count_fits Or a l u n f = refl
count_fits Not a l u n f = sym f.0
count_fits Implies a l u n f = sym f.0
count_fits Historically a l u n f = sym f.0
count_fits Once a l u n f = sym f.0
count_fits Since a l u n f = sym f.0

one_operands : (e : Entry) → all_operands (e ∷ []) ≡ e.operands
unfolding all_operands
one_operands e = append-nil e.operands

pub start_at_lem : (es : List Entry) (r : ℕ) → r ≤ length es → AllFit es → start_in (all_rows es) r ≡ length (all_operands (take r es))
unfolding start_in all_operands
start_at_lem es zero h a = refl
start_at_lem es (suc r) h a =
    let e = get_or es r no in
    let f = fit_at es r h a in
    let i = start_at_lem es r (omega arith) a in
    let c : count_of (kind_in (all_rows es) r) (arg_in (all_rows es) r) ≡ length e.operands = rw (kind_at_lem es r h, arg_at_lem es r h) (count_fits e.head.word e.head.atom e.head.lower e.head.upper (length e.operands) f) in
    let t : all_operands (take (suc r) es) ≡ all_operands (take r es) ++ e.operands = ap all_operands (take-suc es r no h) ∙ operands_append (take r es) (e ∷ []) ∙ ap (λ (z : List ℕ). all_operands (take r es) ++ z) (one_operands e) in
    omega (arith, ap length t, length-append (all_operands (take r es)) e.operands)

first_in : (xs ys : List ℕ) (i : ℕ) → i < length xs → get_or (xs ++ ys) i 0 ≡ get_or xs i 0
first_in xs ys i h = get_or-append xs ys 0 i h

row_from_lem : (w : Kind) (a l u : ℕ) (xs ys : List ℕ) → Fit w a l u (length xs) → row_from (word_of_kind w) (arg_of w a (length xs)) l u (xs ++ ys) ≡ row_with 0 (head_of w a l u) xs
unfolding row_from row_with
row_from_lem False a l u xs ys f = refl
row_from_lem True a l u xs ys f = refl
row_from_lem Atom a l u xs ys f = refl
row_from_lem And a l u xs ys f = rw (take_at xs ys (length xs) refl)
row_from_lem Or a l u xs ys f = rw (take_at xs ys (length xs) refl)
row_from_lem Not a l u xs ys f = rw (first_in xs ys 0 (omega arith))
row_from_lem Implies a l u xs ys f = rw (first_in xs ys 0 (omega arith), first_in xs ys 1 (omega arith))
row_from_lem Historically a l u xs ys f = rw (first_in xs ys 0 (omega arith))
row_from_lem Once a l u xs ys f = rw (first_in xs ys 0 (omega arith))
row_from_lem Since a l u xs ys f = rw (first_in xs ys 0 (omega arith), first_in xs ys 1 (omega arith))

-- the row at a place
row_at_lem : (s : Sections) (es : List Entry) (r : ℕ) → s.rows ≡ all_rows es → s.operands ≡ all_operands es → r < length es → AllFit es → row_in s r ≡ row_of (get_or es r no)
unfolding row_in all_operands
row_at_lem s es r er eo h a =
    let e = get_or es r no in
    let p : all_operands es ≡ all_operands (take r es) ++ (e.operands ++ all_operands (drop (suc r) es)) = ap all_operands (split_at es r no h) ∙ operands_append (take r es) (e ∷ drop (suc r) es) in
    let d : drop (start_in (all_rows es) r) (all_operands es) ≡ e.operands ++ all_operands (drop (suc r) es) = ap (drop (start_in (all_rows es) r)) p ∙ drop_at (all_operands (take r es)) (e.operands ++ all_operands (drop (suc r) es)) (start_in (all_rows es) r) (sym (start_at_lem es r (omega arith) a)) in
    rw (er, eo, d, kind_at_lem es r h, arg_at_lem es r h, lower_at_lem es r h, upper_at_lem es r h) (row_from_lem e.head.word e.head.atom e.head.lower e.head.upper e.operands (all_operands (drop (suc r) es)) (fit_at es r h a))

rows_listed : (s : Sections) (es : List Entry) → s.rows ≡ all_rows es → s.operands ≡ all_operands es → AllFit es → (n : ℕ) → n ≤ length es → listed (row_in s) n ≡ map row_of (take n es)
unfolding listed
rows_listed s es er eo a zero h = refl
rows_listed s es er eo a (suc n) h =
    rw (rows_listed s es er eo a n (omega arith), row_at_lem s es n er eo h a, take-suc es n no h, map-append row_of (take n es) (get_or es n no ∷ []))

-- the sections of a file's words say its book
pub book_said_lem : (a g : Forest) (s : Sections) → Good a → Good g → s.rows ≡ all_rows (entries 0 (a then g)) → s.operands ≡ all_operands (entries 0 (a then g)) → s.assumes ≡ roots 0 a → s.guarantees ≡ roots (size a) g → book_in s ≡ book_of a g
unfolding book_in book_of rows_from
book_said_lem a g s ga gg er eo ea eg =
    let es = entries 0 (a then g) in
    let n : rows_in s ≡ length es = rw er (omega (arith, rows_length es)) in
    let m : listed (row_in s) (rows_in s) ≡ map row_of es = ap (listed (row_in s)) n ∙ rows_listed s es er eo (entries_fit 0 (a then g) (good_then a g ga gg)) (length es) (omega arith) ∙ ap (map row_of) (take-length es) in
    rw (m, ea, eg)

-- ---- reading the words back
pub section_got : (limit width n : ℕ) (xs rest : List ℕ) → length xs ≡ width * n → section 1 limit width ((n ∷ xs) ++ rest) ≡ cond (ltb limit n) (refused 2) (got xs rest)
unfolding section
section_got limit width n xs rest e =
    let l : width * n ≤ length (xs ++ rest) = omega (arith, length-append xs rest) in
    rw (le-ltb (length (xs ++ rest)) (width * n) l, take_at xs rest (width * n) e, drop_at xs rest (width * n) e)

-- four sections, each after its count
module _ (n₁ n₂ n₃ n₄ : ℕ) (x₁ x₂ x₃ x₄ : List ℕ) (l₁ : length x₁ ≡ 4 * n₁) (l₂ : length x₂ ≡ 1 * n₂) (l₃ : length x₃ ≡ 1 * n₃) (l₄ : length x₄ ≡ 1 * n₄) where
  abbrev all : List ℕ
  all = (n₁ ∷ x₁) ++ ((n₂ ∷ x₂) ++ ((n₃ ∷ x₃) ++ (n₄ ∷ x₄)))

  last_got : section 1 16 1 (n₄ ∷ x₄) ≡ cond (ltb 16 n₄) (refused 2) (got x₄ [])
  last_got = ap (section 1 16 1) (sym (append-nil (n₄ ∷ x₄))) ∙ section_got 16 1 n₄ x₄ [] l₄

  four_got : (sections 1 all ≡ refused 2) ⊎ (sections 1 all ≡ got (record { rows = x₁; operands = x₂; assumes = x₃; guarantees = x₄ }) [])
  unfolding sections next
  four_got = by_tests (ltb 128 n₁) refl (ltb 128 n₂) refl (ltb 16 n₃) refl (ltb 16 n₄) refl
    where
      s₁ : section 1 128 4 ((n₁ ∷ x₁) ++ ((n₂ ∷ x₂) ++ ((n₃ ∷ x₃) ++ (n₄ ∷ x₄)))) ≡ cond (ltb 128 n₁) (refused 2) (got x₁ ((n₂ ∷ x₂) ++ ((n₃ ∷ x₃) ++ (n₄ ∷ x₄))))
      s₁ = section_got 128 4 n₁ x₁ ((n₂ ∷ x₂) ++ ((n₃ ∷ x₃) ++ (n₄ ∷ x₄))) l₁

      s₂ : section 1 128 1 ((n₂ ∷ x₂) ++ ((n₃ ∷ x₃) ++ (n₄ ∷ x₄))) ≡ cond (ltb 128 n₂) (refused 2) (got x₂ ((n₃ ∷ x₃) ++ (n₄ ∷ x₄)))
      s₂ = section_got 128 1 n₂ x₂ ((n₃ ∷ x₃) ++ (n₄ ∷ x₄)) l₂

      s₃ : section 1 16 1 ((n₃ ∷ x₃) ++ (n₄ ∷ x₄)) ≡ cond (ltb 16 n₃) (refused 2) (got x₃ (n₄ ∷ x₄))
      s₃ = section_got 16 1 n₃ x₃ (n₄ ∷ x₄) l₃

      by_tests : (t₁ : Bool) → ltb 128 n₁ ≡ t₁ → (t₂ : Bool) → ltb 128 n₂ ≡ t₂ → (t₃ : Bool) → ltb 16 n₃ ≡ t₃ → (t₄ : Bool) → ltb 16 n₄ ≡ t₄ → (sections 1 all ≡ refused 2) ⊎ (sections 1 all ≡ got (record { rows = x₁; operands = x₂; assumes = x₃; guarantees = x₄ }) [])
      by_tests true e₁ t₂ e₂ t₃ e₃ t₄ e₄ = inl (rw (s₁, e₁))
      by_tests false e₁ true e₂ t₃ e₃ t₄ e₄ = inl (rw (s₁, e₁, s₂, e₂))
      by_tests false e₁ false e₂ true e₃ t₄ e₄ = inl (rw (s₁, e₁, s₂, e₂, s₃, e₃))
      by_tests false e₁ false e₂ false e₃ true e₄ = inl (rw (s₁, e₁, s₂, e₂, s₃, e₃, last_got, e₄))
      by_tests false e₁ false e₂ false e₃ false e₄ = inr (rw (s₁, e₁, s₂, e₂, s₃, e₃, last_got, e₄))

abbrev pub said : Forest → Forest → Sections
said a g = record { rows = all_rows (entries 0 (a then g)); operands = all_operands (entries 0 (a then g)); assumes = roots 0 a; guarantees = roots (size a) g }

pub sections_got : (a g : Forest) → (sections 1 (words_of a g) ≡ refused 2) ⊎ (sections 1 (words_of a g) ≡ got (said a g) [])
unfolding words_of
sections_got a g =
    let es = entries 0 (a then g) in
    four_got (size (a then g)) (length (all_operands es)) (count a) (count g) (all_rows es) (all_operands es) (roots 0 a) (roots (size a) g)
    (omega (arith, rows_length es, entries_length 0 (a then g))) (omega arith) (omega (arith, roots_length 0 a)) (omega (arith, roots_length (size a) g))

from_said : (s : Sections) (x : Book) → book_in s ≡ x → (loaded_from s).number ≡ 0 → (loaded_from s).book ≡ x
unfolding loaded_from
from_said s x e = by_test (eqb (judged s) 0) refl
  where
    by_test : (t : Bool) → eqb (judged s) 0 ≡ t → (loaded_from s).number ≡ 0 → (loaded_from s).book ≡ x
    by_test true f h = rw (f, loaded_from) e
    by_test false f h = absurd (eqb-false (judged s) 0 f (rw (f, loaded_from) at h))

-- a text's words that are accepted say its book
pub loaded_words : (a g : Forest) → Good a → Good g → (loaded (words_of a g)).number ≡ 0 → (loaded (words_of a g)).book ≡ book_of a g
unfolding loaded whole
loaded_words a g ga gg h = ⊎_elim
    (λ e. let z : ◌≡◌ {A = ℕ} 2 0 = rw e at h in absurd (omega arith))
    (λ e. rw e (from_said (said a g) (book_of a g) (book_said_lem a g (said a g) ga gg refl refl refl refl) (rw e at h)))
    (sections_got a g)
