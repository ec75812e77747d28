-- Laws of building a book's words. Assumes nothing.
use Prim.Native.Nat.{ℕ, suc, ◌+◌, ◌*◌, ◌-◌, ◌≤◌, ◌<◌}
use mathlib.Core.Path.{◌≡◌, refl, sym, ap, ◌∙◌}
use mathlib.Core.List.{List, [], ◌∷◌, ◌++◌, append-nil, append_assoc}
use native.Mathlib.Omega.{arith}
use lib.ListN.{length, take, drop, set, length-append, length-set}
use lib.Seq.{sets, sets-eq, length-sets, take_at, take-length, drop_at, take-suc-set, length-take-le, take-take, take-add}
use Rattle.lists.specs.Lists.{part, put}
use Rattle.lists.proofs.Parts.{part_length}
use Rattle.trees.specs.Forest.{Head, Forest, none, tree, one, ◌then◌, count, size, roots, Entry, entries}
use Rattle.trees.specs.Building.{row_words, all_rows, all_operands, Mem, RoomFor, Emitted}
use Rattle.trees.specs.declared.rows.RowWords.{RowWords}
use Rattle.trees.specs.declared.rows.Spot.{Spot}
use Rattle.trees.proofs.Numbered.{roots_length, size_then, roots_then, entries_then}

-- ---- one row more
pub rows_append : (x y : List Entry) → all_rows (x ++ y) ≡ all_rows x ++ all_rows y
unfolding all_rows
rows_append [] y = refl
rows_append (e ∷ x) y = rw (rows_append x y)

pub operands_append : (x y : List Entry) → all_operands (x ++ y) ≡ all_operands x ++ all_operands y
unfolding all_operands
operands_append [] y = refl
operands_append (e ∷ x) y = rw (operands_append x y) (sym (append_assoc e.operands (all_operands x) (all_operands y)))

pub rows_length : (x : List Entry) → length (all_rows x) ≡ 4 * length x
unfolding all_rows
rows_length [] = refl
rows_length (e ∷ x) = omega (arith, rows_length x)

abbrev made : Head → Forest → Forest → Entry
made h g p = record { head = h; operands = roots (size g) p }

entry_more : (g p : Forest) (h : Head) → entries 0 (g then one h p) ≡ entries 0 (g then p) ++ (made h g p ∷ [])
unfolding entries
entry_more g p h =
    let e : 0 + size g ≡ size g = omega arith in
    entries_then 0 g (one h p) ∙ rw (e) (sym (ap (λ (z : List Entry). z ++ (made h g p ∷ [])) (entries_then 0 g p) ∙ rw e (append_assoc (entries 0 g) (entries (size g) p) (made h g p ∷ []))))

roots_before : (g p : Forest) → roots 0 (g then p) ≡ roots 0 g ++ roots (size g) p
roots_before g p = let e : 0 + size g ≡ size g = omega arith in roots_then 0 g p ∙ rw e

roots_more : (g p : Forest) (h : Head) → roots 0 (g then one h p) ≡ roots 0 g ++ (size (g then p) ∷ [])
unfolding roots
roots_more g p h = roots_before g (one h p) ∙ rw (size_then g p)

pub then_none : (f : Forest) → f then none ≡ f
unfolding ◌then◌
then_none none = refl
then_none (tree h p s) = ap (tree h p) (then_none s)

pub then_assoc : (f g k : Forest) → (f then g) then k ≡ f then (g then k)
unfolding ◌then◌
then_assoc none g k = refl
then_assoc (tree h p s) g k = ap (tree h p) (then_assoc s g k)

pub count_then : (f g : Forest) → count (f then g) ≡ count f + count g
unfolding count ◌then◌
count_then none g = omega arith
count_then (tree h p s) g = omega (arith, count_then s g)

pub size_more : (g p : Forest) (h : Head) → size (g then one h p) ≡ size (g then p) + 1
unfolding size
size_more g p h = omega (arith, size_then g (one h p), size_then g p)

pub count_more : (g p : Forest) (h : Head) → count (g then one h p) ≡ count g + 1
unfolding count
count_more g p h = count_then g (one h p)

-- ---- stores
pub take_sets : (m : List ℕ) (i : ℕ) (vs : List ℕ) → i + length vs ≤ length m → take (i + length vs) (sets m i vs) ≡ take i m ++ vs
take_sets m i vs h =
    let l = length-take-le i m (omega arith) in
    let e : length (take i m ++ vs) ≡ i + length vs = length-append (take i m) vs ∙ omega arith in
    ap (take (i + length vs)) (sets-eq vs m i h)
    ∙ take_at (take i m ++ vs) (drop (i + length vs) m) (i + length vs) e

-- a row is made: the rows that it takes are the last ones that no other has taken
module _ {rows operands tops : List ℕ} {o : ℕ} (g p : Forest) (h : Head) (mem : Mem rows operands tops o (g then p)) where
  taken_tops : count g + count p ≤ length tops → take (count p) (drop (count g) tops) ≡ roots (size g) p
  taken_tops l =
      let e = count_then g p in
      let x : take (count g + count p) tops ≡ roots 0 g ++ roots (size g) p = rw (e) at mem.tops ∙ roots_before g p in
      let y = take-add (count g) (count p) tops in
      sym (drop_at (take (count g) tops) (take (count p) (drop (count g) tops)) (count g) (length-take-le (count g) tops (omega arith)))
      ∙ ap (drop (count g)) (sym y ∙ x)
      ∙ drop_at (roots 0 g) (roots (size g) p) (count g) (roots_length 0 g)

  low_tops : count g + count p ≤ length tops → take (count g) tops ≡ roots 0 g
  low_tops l =
      let e = count_then g p in
      let x : take (count g + count p) tops ≡ roots 0 g ++ roots (size g) p = rw (e) at mem.tops ∙ roots_before g p in
      sym (take-take (count g) (count g + count p) tops (omega arith)) ∙ ap (take (count g)) x ∙ take_at (roots 0 g) (roots (size g) p) (count g) (roots_length 0 g)

  pub one_more : {rows' operands' tops' : List ℕ} → 4 * size (g then p) + 4 ≤ length rows → o + count p ≤ length operands → count g + count p ≤ length tops → count g < length tops
      → rows' ≡ sets rows (4 * size (g then p)) (row_words (made h g p))
      → operands' ≡ sets operands o (take (count p) (drop (count g) tops))
      → tops' ≡ set tops (count g) (size (g then p))
      → Mem rows' operands' tops' (o + count p) (g then one h p)
  unfolding all_rows all_operands
  one_more {rows'} {operands'} {tops'} lr lo lt ls er eo et =
      let n = 4 * size (g then p) in
      let v = taken_tops lt in
      let r : 4 * size (g then one h p) ≡ n + 4 = omega (arith, size_more g p h) in
      let c : count (g then one h p) ≡ suc (count g) = omega (arith, count_more g p h) in
      let q = roots_length (size g) p in
      let a : take (n + 4) rows' ≡ take n rows ++ row_words (made h g p) = rw er (take_sets rows n (row_words (made h g p)) lr) in
      let b : take (o + length (roots (size g) p)) operands' ≡ take o operands ++ roots (size g) p = rw (eo, v) (take_sets operands o (roots (size g) p) (omega arith)) in
      let d : take (suc (count g)) tops' ≡ take (count g) tops ++ (size (g then p) ∷ []) = rw et (take-suc-set tops (count g) (size (g then p)) ls) in
      record {
        rows = rw (r, a, mem.rows, entry_more g p h, rows_append (entries 0 (g then p)) (made h g p ∷ []));
        operands = rw (← q, b, mem.operands, entry_more g p h, operands_append (entries 0 (g then p)) (made h g p ∷ []), append-nil (roots (size g) p));
        tops = rw (c, d, low_tops lt, roots_more g p h);
      }

-- ---- words that are copied
pub copied : (m : List ℕ) (at : ℕ) (xs : List ℕ) → at + length xs ≤ length m → put m at xs ≡ sets m at xs
copied m at xs h = rw (take-length xs) (sym (sets-eq xs m at h))

-- ---- a row is made
pub taken_fit : {rows operands : ℕ} {xs : List ℕ} (ts : List ℕ) (p : Spot) → RoomFor p rows operands (length ts) → xs ≡ part p.base (p.height - p.base) ts → p.operands + length xs ≤ operands
taken_fit ts p room e = let l = part_length p.base (p.height - p.base) ts (omega arith) in omega (arith, ap length e, l)

pub emitted : {rs os ts rs' os' ts' xs : List ℕ} (p : Spot) (w : RowWords) → RoomFor p (length rs) (length os) (length ts)
    → rs' ≡ sets rs (4 * p.row) (w.kind ∷ w.arg ∷ w.lower ∷ w.upper ∷ []) → xs ≡ part p.base (p.height - p.base) ts → os' ≡ put os p.operands xs → ts' ≡ set ts p.base p.row
    → Emitted rs os ts p w rs' os' ts'
emitted {rs} {os} {ts} {rs'} {os'} {ts'} {xs} p w room f e g h = record {
  rows_size = ap length f ∙ length-sets rs (4 * p.row) (w.kind ∷ w.arg ∷ w.lower ∷ w.upper ∷ []);
  operands_size = ap length stored ∙ length-sets os p.operands (part p.base (p.height - p.base) ts);
  tops_size = ap length h ∙ length-set ts p.base p.row;
  holds = λ x y i mem eb eh er ew.
      let n : p.height - p.base ≡ count y = omega arith in
      rw n (one_more x y i mem (rw er at room.row_fits) (rw n at room.operands_fit) (omega arith) (rw eb at room.top_fits) (f ∙ ap (sets rs (4 * p.row)) ew ∙ ap (λ (z : ℕ). sets rs (4 * z) (row_words (made i x y))) er) (stored ∙ rw (n, eb)) (h ∙ rw (eb, er)));
}
  where
    long : length (part p.base (p.height - p.base) ts) ≡ p.height - p.base
    long = part_length p.base (p.height - p.base) ts (omega arith)

    stored : os' ≡ sets os p.operands (part p.base (p.height - p.base) ts)
    stored = g ∙ ap (put os p.operands) e ∙ copied os p.operands (part p.base (p.height - p.base) ts) (omega (arith, long))
