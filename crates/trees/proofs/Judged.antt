-- The words of numbered properties are accepted where their heads are and there are not too many. Assumes nothing.
use Prim.Native.Nat.{ℕ, zero, suc, ◌+◌, ◌*◌, ◌-◌, ◌≤◌, ◌<◌}
use mathlib.Core.Path.{◌≡◌, refl, sym, ap, ◌∙◌}
use mathlib.Core.Bool.{Bool, true, false, ◌&&◌}
use mathlib.Core.List.{List, [], ◌∷◌, ◌++◌, append-nil}
use native.Mathlib.Omega.{arith}
use native.Mathlib.Decide.{dec_lt}
use lib.ListN.{length, get_or, take, drop, length-append, get_or-append}
use mathlib.Core.Logic.{◌⊎◌, inl, inr, ⊎_elim}
use lib.Seq.{take-length, take-suc, split_at, get_or-append-add}
use lib.Dec.{leb, ltb, eqb}
use borrow.Author.Tests.{le-ltb, lt-ltb, lt-leb, eq-eqb, eqb-true, eqb-false}
use Rattle.numbers.specs.Limits.{MOST_ROWS, MOST_OPERANDS, MOST_ASSUMES, MOST_GUARANTEES, MOST_TEMPORALS}
use Rattle.numbers.specs.Refusals.{ACCEPTED}
use Rattle.lists.proofs.Tests.{and_intro, and_no_left, and_no_right}
use Rattle.pmtl.specs.Answer.{bit_of}
use Rattle.pmtl.specs.Book.{AllBelow, every}
use Rattle.book.specs.Reading.{Sections, got, sections, section, next}
use Rattle.book.specs.Rows.{count_of, temporal}
use Rattle.book.specs.Judging.{kind_in, arg_in, lower_in, upper_in, rows_in, start_in, temporals_in, first_to, all_to, form_good, range_good, row_number, operands_good, links_good, times_in, uses_of, used_once, judged, whole, loaded}
use Rattle.book.proofs.Placing.{number_judged}
use Rattle.book.proofs.Uses.{times_append}
use Rattle.trees.specs.Forest.{Head, Forest, none, tree, ◌then◌, count, size, roots, Entry, entries, Good}
use Rattle.book.specs.Kinds.{word_of_kind}
use Rattle.trees.specs.Building.{arg_of, all_rows, all_operands, words_of}
use Rattle.trees.proofs.Numbered.{entries_length, roots_length, roots_then, roots_below, below_at, good_then}
use Rattle.trees.proofs.Built.{rows_length, operands_append}
use Rattle.trees.proofs.Words.{no as gap, AllFit, fit_at, entries_fit, count_fits, kind_at_lem, arg_at_lem, lower_at_lem, upper_at_lem, start_at_lem, section_got, said}
use Rattle.trees.proofs.Sums.{weight}

-- ---- each entry, by its row
abbrev AllAt : (ℕ → Entry → Type 0) → ℕ → List Entry → Type 0
AllAt P n [] = Unit {0}
AllAt P n (x ∷ xs) = P n x × AllAt P (suc n) xs

at_append : (P : ℕ → Entry → Type 0) (n : ℕ) (xs ys : List Entry) → AllAt P n xs → AllAt P (n + length xs) ys → AllAt P n (xs ++ ys)
at_append P n [] ys a b = let e : n + 0 ≡ n = omega arith in rw e at b
at_append P n (x ∷ xs) ys a b = let e : n + suc (length xs) ≡ suc n + length xs = omega arith in (a.0, at_append P (suc n) xs ys a.1 (rw e at b))

at_place : (P : ℕ → Entry → Type 0) (n : ℕ) (xs : List Entry) (i : ℕ) → i < length xs → AllAt P n xs → P (n + i) (get_or xs i gap)
at_place P n [] i h a = absurd (omega arith)
at_place P n (x ∷ xs) zero h a = let e : n + 0 ≡ n = omega arith in rw e a.0
at_place P n (x ∷ xs) (suc i) h a = let e : n + suc i ≡ suc n + i = omega arith in rw e (at_place P (suc n) xs i (omega arith) a.1)

-- ---- heads that a row may have
abbrev pub HeadGood : Head → ℕ → Type 0
HeadGood h n = (form_good (word_of_kind h.word) (arg_of h.word h.atom n) h.lower h.upper ≡ true) × (range_good h.lower h.upper ≡ true)

abbrev pub HeadsGood : Forest → Type 0
HeadsGood none = Unit {0}
HeadsGood (tree h p s) = HeadGood h (count p) × HeadsGood p × HeadsGood s

pub heads_then : (f g : Forest) → HeadsGood f → HeadsGood g → HeadsGood (f then g)
unfolding ◌then◌
heads_then none g p q = q
heads_then (tree h k s) g p q = (p.0, p.1, heads_then s g p.2 q)

-- an entry's head is good, and its operands are below it
abbrev EntryGood : ℕ → Entry → Type 0
EntryGood i e = HeadGood e.head (length e.operands) × AllBelow i e.operands

entries_good : (n : ℕ) (f : Forest) → HeadsGood f → AllAt EntryGood n (entries n f)
unfolding entries
entries_good n none g = tt
entries_good n (tree h p s) g =
    let e : n + length (entries n p) ≡ n + size p = omega (arith, entries_length n p) in
    let d : suc (n + size p) ≡ n + suc (size p) = omega arith in
    at_append EntryGood n (entries n p) (record { head = h; operands = roots n p } ∷ entries (n + suc (size p)) s) (entries_good n p g.1)
    (rw e ((rw (roots_length n p) g.0, roots_below n p), rw d (entries_good (n + suc (size p)) s g.2)))

-- ---- how many are temporal
abbrev pub temporal_head : Head → ℕ
temporal_head h = bit_of (temporal (word_of_kind h.word))

unfoldable heads : (Head → ℕ) → List Entry → ℕ
heads w [] = 0
heads w (e ∷ es) = w e.head + heads w es

heads_append : (w : Head → ℕ) (x y : List Entry) → heads w (x ++ y) ≡ heads w x + heads w y
unfolding heads
heads_append w [] y = omega arith
heads_append w (e ∷ x) y = omega (arith, heads_append w x y)

heads_weigh : (w : Head → ℕ) (n : ℕ) (f : Forest) → heads w (entries n f) ≡ weight w f
unfolding entries heads weight
heads_weigh w n none = refl
heads_weigh w n (tree h p s) = heads_append w (entries n p) (record { head = h; operands = roots n p } ∷ entries (n + suc (size p)) s) ∙ omega (arith, heads_weigh w n p, heads_weigh w (n + suc (size p)) s)

heads_one : (w : Head → ℕ) (e : Entry) → heads w (e ∷ []) ≡ w e.head
unfolding heads
heads_one w e = omega arith

temporals_are : (es : List Entry) (m : ℕ) → m ≤ length es → temporals_in (all_rows es) m ≡ heads temporal_head (take m es)
unfolding temporals_in heads
temporals_are es zero h = refl
temporals_are es (suc m) h =
    let e = get_or es m gap in
    ap (λ (z : ℕ). temporals_in (all_rows es) m + bit_of (temporal z)) (kind_at_lem es m h)
    ∙ ap (λ (z : ℕ). z + temporal_head e.head) (temporals_are es m (omega arith))
    ∙ sym (ap (heads temporal_head) (take-suc es m gap h) ∙ heads_append temporal_head (take m es) (e ∷ []) ∙ ap (λ (z : ℕ). heads temporal_head (take m es) + z) (heads_one temporal_head e))

temporals_rise : (ws : List ℕ) (r k : ℕ) → temporals_in ws r ≤ temporals_in ws (r + k)
unfolding temporals_in
temporals_rise ws r zero = let e : r + 0 ≡ r = omega arith in rw e (omega arith)
temporals_rise ws r (suc k) = let e : r + suc k ≡ suc (r + k) = omega arith in rw e (omega (arith, temporals_rise ws r k))

-- ---- tests of all rows
first_all : (f : ℕ → ℕ) (n : ℕ) → ((r : ℕ) → r < n → f r ≡ 0) → first_to f n ≡ 0
unfolding first_to
first_all f zero e = refl
first_all f (suc n) e = rw (first_all f n (λ r h. e r (omega arith)), e n (omega arith))

all_pass : (f : ℕ → Bool) (n : ℕ) → ((r : ℕ) → r < n → f r ≡ true) → all_to f n ≡ true
unfolding all_to
all_pass f zero e = refl
all_pass f (suc n) e = and_intro (all_to f n) (f n) (all_pass f n (λ r h. e r (omega arith))) (e n (omega arith))

every_below : (n : ℕ) (xs : List ℕ) → AllBelow n xs → every (λ p. ltb p n) xs ≡ true
unfolding every
every_below n [] l = refl
every_below n (x ∷ xs) l = and_intro (ltb x n) (every (λ p. ltb p n) xs) (lt-ltb x n l.0) (every_below n xs l.1)

not_full : (k t : ℕ) → (temporal k ≡ true → t < MOST_TEMPORALS) → (temporal k && leb MOST_TEMPORALS t) ≡ false
not_full k t h = by_test (temporal k) refl
  where
    by_test : (x : Bool) → temporal k ≡ x → (temporal k && leb MOST_TEMPORALS t) ≡ false
    by_test true e = and_no_right (temporal k) (leb MOST_TEMPORALS t) (lt-leb MOST_TEMPORALS t (h e))
    by_test false e = and_no_left (temporal k) (leb MOST_TEMPORALS t) e

past : (a b : ℕ) → a ≤ b → (a ≡ b → ⊥) → a + 1 ≤ b
past a b l n = omega arith

-- ---- each row is used once
module _ (r : ℕ) where
  abbrev times : ℕ → Forest → ℕ
  times n f = times_in r (all_operands (entries n f)) + times_in r (roots n f)

  times_tree : (n : ℕ) (h : Head) (p s : Forest) → times n (tree h p s) ≡ times n p + bit_of (eqb (n + size p) r) + times (n + suc (size p)) s
  unfolding entries roots times_in all_operands
  times_tree n h p s =
      let m = n + suc (size p) in
      omega (arith, ap (times_in r) (operands_append (entries n p) (record { head = h; operands = roots n p } ∷ entries m s)), times_append r (all_operands (entries n p)) (roots n p ++ all_operands (entries m s)), times_append r (roots n p) (all_operands (entries m s)))

  bit_no : (x : ℕ) → (x ≡ r → ⊥) → bit_of (eqb x r) ≡ 0
  bit_no x h = by_test (eqb x r) refl
    where
      by_test : (t : Bool) → eqb x r ≡ t → bit_of (eqb x r) ≡ 0
      by_test true e = absurd (h (eqb-true x r e))
      by_test false e = rw e

  bit_yes : (x : ℕ) → x ≡ r → bit_of (eqb x r) ≡ 1
  bit_yes x h = rw (eq-eqb x r h)

  times_none : (n : ℕ) (f : Forest) → (r < n) ⊎ (n + size f ≤ r) → times n f ≡ 0
  unfolding entries roots times_in all_operands size
  times_none n none h = refl
  times_none n (tree i p s) h =
      let m = n + suc (size p) in
      times_tree n i p s
      ∙ omega (arith, times_none n p (⊎_elim (λ x. inl x) (λ x. inr (omega arith)) h), times_none m s (⊎_elim (λ x. inl (omega arith)) (λ x. inr (omega arith)) h), bit_no (n + size p) (λ e. ⊎_elim (λ x. omega arith) (λ x. omega arith) h))

  times_once : (n : ℕ) (f : Forest) → n ≤ r → r < n + size f → times n f ≡ 1
  unfolding size
  times_once n none l h = absurd (omega arith)
  times_once n (tree i p s) l h = times_tree n i p s ∙ by_place (dec_lt r (n + size p)) (times_once n p l) (times_once (n + suc (size p)) s)
    where
      by_place : Dec (r < n + size p) → (r < n + size p → times n p ≡ 1) → (n + suc (size p) ≤ r → r < n + suc (size p) + size s → times (n + suc (size p)) s ≡ 1)
          → times n p + bit_of (eqb (n + size p) r) + times (n + suc (size p)) s ≡ 1
      by_place (yes k) c d = omega (arith, c k, bit_no (n + size p) (λ e. omega arith), times_none (n + suc (size p)) s (inl (omega arith)))
      by_place (no k) c d = by_own (eqb (n + size p) r) refl
        where
          by_own : (t : Bool) → eqb (n + size p) r ≡ t → times n p + bit_of (eqb (n + size p) r) + times (n + suc (size p)) s ≡ 1
          by_own true e = let z = eqb-true (n + size p) r e in omega (arith, times_none n p (inr (omega arith)), bit_yes (n + size p) z, times_none (n + suc (size p)) s (inl (omega arith)))
          by_own false e = let z = eqb-false (n + size p) r e in omega (arith, times_none n p (inr (omega arith)), bit_no (n + size p) z, d (omega (arith, past (n + size p) r (omega arith) z)) (omega arith))

-- each row is an operand or a property
all_counted : (n : ℕ) (f : Forest) → length (all_operands (entries n f)) + count f ≡ size f
unfolding entries all_operands size count
all_counted n none = refl
all_counted n (tree h p s) =
    let m = n + suc (size p) in
    omega (arith, ap length (operands_append (entries n p) (record { head = h; operands = roots n p } ∷ entries m s)), length-append (all_operands (entries n p)) (roots n p ++ all_operands (entries m s)), length-append (roots n p) (all_operands (entries m s)), roots_length n p, all_counted n p, all_counted m s)

-- ---- the words of a file
module _ (a g : Forest) (ga : Good a) (gg : Good g) (ha : HeadsGood a) (hg : HeadsGood g) where
  abbrev f : Forest
  f = a then g

  abbrev es : List Entry
  es = entries 0 f

  abbrev s : Sections
  s = said a g

  abbrev n : ℕ
  n = size f

  long : length es ≡ n
  long = entries_length 0 f

  rows_are : rows_in s ≡ n
  rows_are = omega (arith, rows_length es, long)

  all_fit : AllFit es
  all_fit = entries_fit 0 f (good_then a g ga gg)

  good : (r : ℕ) → r < n → EntryGood r (get_or es r gap)
  good r h = let e : 0 + r ≡ r = omega arith in rw e at (at_place EntryGood 0 es r (omega (arith, long)) (entries_good 0 f (heads_then a g ha hg)))

  -- rows
  row_passes : weight temporal_head f ≤ MOST_TEMPORALS → (r : ℕ) → r < n → row_number s.rows r ≡ 0
  unfolding row_number temporals_in
  row_passes few r h =
      let i : r < length es = omega (arith, long) in
      let x = (good r h).0 in
      let k = kind_at_lem es r i in
      let fg : form_good (kind_in s.rows r) (arg_in s.rows r) (lower_in s.rows r) (upper_in s.rows r) ≡ true = rw (k, arg_at_lem es r i, lower_at_lem es r i, upper_at_lem es r i) x.0 in
      let rg : range_good (lower_in s.rows r) (upper_in s.rows r) ≡ true = rw (lower_at_lem es r i, upper_at_lem es r i) x.1 in
      let e : r + 1 + (n - (r + 1)) ≡ n = omega arith in
      let z : r + 1 ≡ suc r = omega arith in
      let top : temporals_in s.rows n ≡ weight temporal_head f = ap (temporals_in s.rows) (sym long) ∙ temporals_are es (length es) (omega arith) ∙ ap (heads temporal_head) (take-length es) ∙ heads_weigh temporal_head 0 f in
      let rise = rw e at (temporals_rise s.rows (r + 1) (n - (r + 1))) in
      let t : (temporal (kind_in s.rows r) && leb MOST_TEMPORALS (temporals_in s.rows r)) ≡ false = not_full (kind_in s.rows r) (temporals_in s.rows r) (λ y. next_few r n (temporal (kind_in s.rows r)) y (rw z at rise) (omega (arith, top))) in
      rw (fg, rg, t)
    where
      next_few : (r n : ℕ) (t : Bool) → t ≡ true → temporals_in s.rows r + bit_of t ≤ temporals_in s.rows n → temporals_in s.rows n ≤ MOST_TEMPORALS → temporals_in s.rows r < MOST_TEMPORALS
      next_few r n t y u v = let w = ap bit_of y in omega arith

  -- links
  operand_low : (r : ℕ) → r < n → (k : ℕ) → k < count_of (kind_in s.rows r) (arg_in s.rows r) → get_or s.operands (start_in s.rows r + k) 0 < r
  unfolding all_operands
  operand_low r h k l =
      let i : r < length es = omega (arith, long) in
      let e = get_or es r gap in
      let t = fit_at es r i all_fit in
      let c : count_of (kind_in s.rows r) (arg_in s.rows r) ≡ length e.operands = rw (kind_at_lem es r i, arg_at_lem es r i) (count_fits e.head.word e.head.atom e.head.lower e.head.upper (length e.operands) t) in
      let p : all_operands es ≡ all_operands (take r es) ++ (e.operands ++ all_operands (drop (suc r) es)) = ap all_operands (split_at es r gap i) ∙ operands_append (take r es) (e ∷ drop (suc r) es) in
      let q : get_or (all_operands es) (start_in s.rows r + k) 0 ≡ get_or e.operands k 0 =
      rw (start_at_lem es r (omega arith) all_fit) (ap (λ (z : List ℕ). get_or z (length (all_operands (take r es)) + k) 0) p ∙ get_or-append-add (all_operands (take r es)) (e.operands ++ all_operands (drop (suc r) es)) k 0 ∙ get_or-append e.operands (all_operands (drop (suc r) es)) 0 k (omega (arith, c))) in
      rw q (below_at r e.operands k (good r h).1 (omega (arith, c)))

  tops_low : AllBelow n (roots 0 a ++ roots (size a) g)
  tops_low = let z : 0 + size a ≡ size a = omega arith in let y : 0 + size f ≡ size f = omega arith in rw (roots_then 0 a g, z, y) at (roots_below 0 f)

  links_pass : links_good s ≡ true
  unfolding links_good operands_good
  links_pass =
      rw rows_are (and_intro (eqb (start_in s.rows n) (length s.operands) && all_to (operands_good s) n) (every (λ p. ltb p n) (s.assumes ++ s.guarantees))
      (and_intro (eqb (start_in s.rows n) (length s.operands)) (all_to (operands_good s) n)
      (eq-eqb (start_in s.rows n) (length s.operands) (ap (start_in s.rows) (sym long) ∙ start_at_lem es (length es) (omega arith) all_fit ∙ ap (λ (z : List Entry). length (all_operands z)) (take-length es)))
      (all_pass (operands_good s) n (λ r h. all_pass (λ k. ltb (get_or s.operands (start_in s.rows r + k) 0) r) (count_of (kind_in s.rows r) (arg_in s.rows r)) (λ k l. lt-ltb (get_or s.operands (start_in s.rows r + k) 0) r (operand_low r h k l)))))
      (every_below n (roots 0 a ++ roots (size a) g) tops_low))

  -- uses
  uses_once : (r : ℕ) → r < n → times_in r (uses_of s) ≡ 1
  uses_once r h =
      let z : 0 + size a ≡ size a = omega arith in
      let t : roots 0 f ≡ roots 0 a ++ roots (size a) g = rw z at (roots_then 0 a g) in
      omega (arith, times_once r 0 f (omega arith) (omega arith), times_append r (all_operands es ++ roots 0 a) (roots (size a) g), times_append r (all_operands es) (roots 0 a), ap (times_in r) t, times_append r (roots 0 a) (roots (size a) g))

  uses_pass : used_once s ≡ true
  unfolding used_once
  uses_pass = rw rows_are (all_pass (λ r. eqb (times_in r (uses_of s)) 1) n (λ r h. eq-eqb (times_in r (uses_of s)) 1 (uses_once r h)))

  passes : weight temporal_head f ≤ MOST_TEMPORALS → judged s ≡ 0
  unfolding judged
  passes few = rw (rows_are, first_all (row_number s.rows) n (row_passes few), links_pass, uses_pass)

  -- within the limits
  operands_size : length (all_operands es) + count f ≡ n
  operands_size = all_counted 0 f

  sections_fit : n ≤ MOST_ROWS → count a ≤ MOST_ASSUMES → count g ≤ MOST_GUARANTEES → sections 1 (words_of a g) ≡ got s []
  unfolding words_of sections next
  sections_fit hn hc hd =
      let o = length (all_operands es) in
      let t₃ = (count a ∷ roots 0 a) ++ (count g ∷ roots (size a) g) in
      let l₁ : length (all_rows es) ≡ 4 * n = omega (arith, rows_length es, long) in
      let s₁ = section_got MOST_ROWS 4 n (all_rows es) ((o ∷ all_operands es) ++ t₃) l₁ in
      let s₂ = section_got MOST_OPERANDS 1 o (all_operands es) t₃ (omega arith) in
      let s₃ = section_got MOST_ASSUMES 1 (count a) (roots 0 a) (count g ∷ roots (size a) g) (omega (arith, roots_length 0 a)) in
      let s₄ : section 1 MOST_GUARANTEES 1 (count g ∷ roots (size a) g) ≡ _ = ap (section 1 MOST_GUARANTEES 1) (sym (append-nil (count g ∷ roots (size a) g))) ∙ section_got MOST_GUARANTEES 1 (count g) (roots (size a) g) [] (omega (arith, roots_length (size a) g)) in
      rw (s₁, le-ltb MOST_ROWS n hn, s₂, le-ltb MOST_OPERANDS o (omega (arith, operands_size)), s₃, le-ltb MOST_ASSUMES (count a) hc, s₄, le-ltb MOST_GUARANTEES (count g) hd)

  -- the words of a file are accepted
  pub words_accepted : n ≤ MOST_ROWS → count a ≤ MOST_ASSUMES → count g ≤ MOST_GUARANTEES → weight temporal_head f ≤ MOST_TEMPORALS → (loaded (words_of a g)).number ≡ ACCEPTED
  unfolding loaded whole
  words_accepted hn hc hd ht = rw (sections_fit hn hc hd) (number_judged s ∙ passes ht)
