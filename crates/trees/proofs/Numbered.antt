-- Rows mean what their properties mean. Assumes nothing.
use Prim.Native.Nat.{ℕ, zero, suc, ◌+◌, ◌≤◌, ◌<◌}
use mathlib.Core.Path.{◌≡◌, refl, sym, ap, ◌∙◌, fun_ext}
use mathlib.Core.Bool.{false}
use mathlib.Core.List.{List, [], ◌∷◌, ◌++◌, append-nil, append_assoc, map, map-append}
use native.Mathlib.Omega.{arith}
use native.Mathlib.Decide.{dec_lt}
use lib.ListN.{length, get_or, length-append, length-map, replicate, get_or-map, get_or-eq_default}
use lib.Seq.{get_or_at}
use Rattle.pmtl.specs.Book.{Row, map_row, Rows, row_at, AllBelow, Below, Ordered, answer}
use Rattle.pmtl.specs.Book.Row.{never, always, atom, conj, disj, neg, implies, historically, once, since}
use Rattle.pmtl.specs.Book.{width_of}
use Rattle.pmtl.specs.Calls.{History}
use Rattle.pmtl.specs.Meaning.{Fact, meaning_rule, meaning}
use Rattle.pmtl.proofs.Table.{answer_in}
use Rattle.trees.specs.Forest.{Head, Forest, none, tree, ◌then◌, count, size, roots, entries, Fit, Good}
use Rattle.trees.specs.Numbered.{row_with, row_of, rows_from, book_of, folded, meanings}
use Rattle.book.specs.declared.kind.Kind.{Kind}
use Rattle.book.specs.declared.kind.Kind.TheVariants.{False, True, Atom, And, Or, Not, Implies, Historically, Once, Since}

-- ---- how many
pub entries_length : (n : ℕ) (f : Forest) → length (entries n f) ≡ size f
unfolding entries size
entries_length n none = refl
entries_length n (tree h p s) = length-append (entries n p) _ ∙ omega (arith, entries_length n p, entries_length (n + suc (size p)) s)

pub roots_length : (n : ℕ) (f : Forest) → length (roots n f) ≡ count f
unfolding roots count
roots_length n none = refl
roots_length n (tree h p s) = ap suc (roots_length (n + suc (size p)) s)

rows_length : (n : ℕ) (f : Forest) → length (rows_from n f) ≡ size f
unfolding rows_from
rows_length n f = length-map (entries n f) row_of ∙ entries_length n f

-- ---- numbering goes on
pub size_then : (f g : Forest) → size (f then g) ≡ size f + size g
unfolding size ◌then◌
size_then none g = omega arith
size_then (tree h p s) g = omega (arith, size_then s g)

pub roots_then : (n : ℕ) (f g : Forest) → roots n (f then g) ≡ roots n f ++ roots (n + size f) g
unfolding roots size ◌then◌
roots_then n none g = let e : n + 0 ≡ n = omega arith in rw e
roots_then n (tree h p s) g =
    let e : n + (size p + suc (size s)) ≡ n + suc (size p) + size s = omega arith in
    rw (e, roots_then (n + suc (size p)) s g)

pub entries_then : (n : ℕ) (f g : Forest) → entries n (f then g) ≡ entries n f ++ entries (n + size f) g
unfolding entries size ◌then◌
entries_then n none g = let e : n + 0 ≡ n = omega arith in rw e
entries_then n (tree h p s) g =
    let e : n + (size p + suc (size s)) ≡ n + suc (size p) + size s = omega arith in
    rw (e, entries_then (n + suc (size p)) s g) (sym (append_assoc (entries n p) _ _))

-- ---- operands are below their owners
pub below_more : (r q : ℕ) (os : List ℕ) → r ≤ q → AllBelow r os → AllBelow q os
below_more r q [] h b = tt
below_more r q (o ∷ os) h b = (omega (arith, b.0), below_more r q os h b.1)

pub below_at : (r : ℕ) (os : List ℕ) (i : ℕ) → AllBelow r os → i < length os → get_or os i 0 < r
below_at r [] i b h = absurd (omega arith)
below_at r (o ∷ os) zero b h = b.0
below_at r (o ∷ os) (suc i) b h = below_at r os i b.1 (omega arith)

pub roots_below : (n : ℕ) (f : Forest) → AllBelow (n + size f) (roots n f)
unfolding roots size
roots_below n none = tt
roots_below n (tree h p s) =
    let e : n + suc (size p) + size s ≡ n + (size p + suc (size s)) = omega arith in
    (omega arith, rw e at (roots_below (n + suc (size p)) s))

row_below : (w : Kind) (a l u : ℕ) (r : ℕ) (os : List ℕ) → AllBelow r os → Fit w a l u (length os) → Below r (row_with 0 (record { word = w; atom = a; lower = l; upper = u }) os)
unfolding row_with
row_below False a l u r os b f = tt
row_below True a l u r os b f = tt
row_below Atom a l u r os b f = tt
row_below And a l u r os b f = b
row_below Or a l u r os b f = b
row_below Not a l u r os b f = below_at r os 0 b (omega arith)
row_below Implies a l u r os b f = (below_at r os 0 b (omega arith), below_at r os 1 b (omega arith))
row_below Historically a l u r os b f = below_at r os 0 b (omega arith)
row_below Once a l u r os b f = below_at r os 0 b (omega arith)
row_below Since a l u r os b f = (below_at r os 0 b (omega arith), below_at r os 1 b (omega arith))

-- the row at a place of rows, after rows that are before them
rows_tree : (n : ℕ) (h : Head) (p s : Forest) → rows_from n (tree h p s) ≡ rows_from n p ++ (row_with 0 h (roots n p) ∷ rows_from (n + suc (size p)) s)
unfolding rows_from entries
rows_tree n h p s = map-append row_of (entries n p) _

abbrev All : (ℕ → Row ℕ → Type 0) → ℕ → Rows → Type 0
All P n [] = Unit {0}
All P n (x ∷ xs) = P n x × All P (suc n) xs

all_append : (P : ℕ → Row ℕ → Type 0) (n : ℕ) (xs ys : Rows) → All P n xs → All P (n + length xs) ys → All P n (xs ++ ys)
all_append P n [] ys a b = let e : n + 0 ≡ n = omega arith in rw e at b
all_append P n (x ∷ xs) ys a b = let e : n + suc (length xs) ≡ suc n + length xs = omega arith in (a.0, all_append P (suc n) xs ys a.1 (rw e at b))

all_at : (P : ℕ → Row ℕ → Type 0) (n : ℕ) (xs : Rows) (i : ℕ) → i < length xs → All P n xs → P (n + i) (get_or xs i never)
all_at P n [] i h a = absurd (omega arith)
all_at P n (x ∷ xs) zero h a = let e : n + 0 ≡ n = omega arith in rw e a.0
all_at P n (x ∷ xs) (suc i) h a = let e : n + suc i ≡ suc n + i = omega arith in rw e (all_at P (suc n) xs i (omega arith) a.1)

rows_below : (n : ℕ) (f : Forest) → Good f → All Below n (rows_from n f)
unfolding rows_from entries
rows_below n none g = tt
rows_below n (tree h p s) g =
    let e : n + length (rows_from n p) ≡ n + size p = omega (arith, rows_length n p) in
    let d : suc (n + size p) ≡ n + suc (size p) = omega arith in
    let x = row_below h.word h.atom h.lower h.upper (n + size p) (roots n p) (roots_below n p) (rw (roots_length n p) g.0) in
    rw (rows_tree n h p s) (all_append Below n (rows_from n p) (row_with 0 h (roots n p) ∷ rows_from (n + suc (size p)) s) (rows_below n p g.1) (rw e (x, rw d (rows_below (n + suc (size p)) s g.2))))

pub ordered : (f : Forest) → Good f → Ordered (rows_from 0 f)
ordered f g r = by_place (dec_lt r (length (rows_from 0 f)))
  where
    by_place : Dec (r < length (rows_from 0 f)) → Below r (row_at (rows_from 0 f) r)
    by_place (yes h) = let e : 0 + r ≡ r = omega arith in rw e at (all_at Below 0 (rows_from 0 f) r h (rows_below 0 f g))
    by_place (no h) = let l : length (rows_from 0 f) ≤ r = omega arith in rw (get_or-eq_default (rows_from 0 f) never l) tt

-- ---- a row over what a function makes of its operands
with_map : {X Y : Type 0} (f : X → Y) (d : X) (w : Kind) (a l u : ℕ) (xs : List X) → map_row f (row_with d (record { word = w; atom = a; lower = l; upper = u }) xs) ≡ row_with (f d) (record { word = w; atom = a; lower = l; upper = u }) (map f xs)
unfolding row_with
with_map f d False a l u xs = refl
with_map f d True a l u xs = refl
with_map f d Atom a l u xs = refl
with_map f d And a l u xs = refl
with_map f d Or a l u xs = refl
with_map f d Not a l u xs = rw (get_or-map f xs 0 d)
with_map f d Implies a l u xs = rw (get_or-map f xs 0 d, get_or-map f xs 1 d)
with_map f d Historically a l u xs = rw (get_or-map f xs 0 d)
with_map f d Once a l u xs = rw (get_or-map f xs 0 d)
with_map f d Since a l u xs = rw (get_or-map f xs 0 d, get_or-map f xs 1 d)

at_first : {X : Type 0} (d e : X) (xs : List X) → 0 < length xs → get_or xs 0 d ≡ get_or xs 0 e
at_first d e [] h = absurd (omega arith)
at_first d e (x ∷ xs) h = refl

at_second : {X : Type 0} (d e : X) (xs : List X) → 1 < length xs → get_or xs 1 d ≡ get_or xs 1 e
at_second d e [] h = absurd (omega arith)
at_second d e (x ∷ xs) h = at_first d e xs (omega arith)

with_any : {X : Type 0} (d e : X) (w : Kind) (a l u : ℕ) (xs : List X) → Fit w a l u (length xs) → row_with d (record { word = w; atom = a; lower = l; upper = u }) xs ≡ row_with e (record { word = w; atom = a; lower = l; upper = u }) xs
unfolding row_with
with_any d e False a l u xs f = refl
with_any d e True a l u xs f = refl
with_any d e Atom a l u xs f = refl
with_any d e And a l u xs f = refl
with_any d e Or a l u xs f = refl
with_any d e Not a l u xs f = rw (at_first d e xs (omega arith))
with_any d e Implies a l u xs f = rw (at_first d e xs (omega arith), at_second d e xs (omega arith))
with_any d e Historically a l u xs f = rw (at_first d e xs (omega arith))
with_any d e Once a l u xs f = rw (at_first d e xs (omega arith))
with_any d e Since a l u xs f = rw (at_first d e xs (omega arith), at_second d e xs (omega arith))

-- ---- the answers of a book's properties, where a row's answer is a rule of its operands' answers
module _ {A : Type 0} (d : A) (rule : Row A → A) (b : Rows) (w : Ordered b) where
  abbrev ans : ℕ → A
  ans = answer b d (λ r. rule)

  pub folds : (f : Forest) → Good f → (n : ℕ) (pre post : Rows) → length pre ≡ n → b ≡ pre ++ (rows_from n f ++ post) → map ans (roots n f) ≡ folded d rule f
  unfolding roots folded
  folds none g n pre post l e = refl
  folds (tree h p s) g n pre post l e =
      let x = row_with 0 h (roots n p) in
      let m = n + suc (size p) in
      let c : b ≡ pre ++ (rows_from n p ++ (x ∷ (rows_from m s ++ post))) = e ∙ ap (λ (z : Rows). pre ++ (z ++ post)) (rows_tree n h p s) ∙ ap (λ (z : Rows). pre ++ z) (append_assoc (rows_from n p) (x ∷ rows_from m s) post) in
      let c' : b ≡ (pre ++ rows_from n p) ++ (x ∷ (rows_from m s ++ post)) = c ∙ sym (append_assoc pre (rows_from n p) (x ∷ (rows_from m s ++ post))) in
      let k : length (pre ++ rows_from n p) ≡ n + size p = length-append pre (rows_from n p) ∙ omega (arith, rows_length n p) in
      let at : row_at b (n + size p) ≡ x = ap (λ (z : Rows). row_at z (n + size p)) c' ∙ get_or_at (pre ++ rows_from n p) x (rows_from m s ++ post) never (n + size p) k in
      let inside : n + size p < length b = omega (arith, ap length c', length-append (pre ++ rows_from n p) (x ∷ (rows_from m s ++ post))) in
      let parts = folds p g.1 n pre (x ∷ (rows_from m s ++ post)) l c in
      let k' : length ((pre ++ rows_from n p) ++ (x ∷ [])) ≡ m = length-append (pre ++ rows_from n p) (x ∷ []) ∙ omega arith in
      let after = folds s g.2 m ((pre ++ rows_from n p) ++ (x ∷ [])) post k' (c' ∙ sym (append_assoc (pre ++ rows_from n p) (x ∷ []) (rows_from m s ++ post))) in
      let here : ans (n + size p) ≡ rule (row_with d h (folded d rule p)) =
      answer_in b d (λ r. rule) w (n + size p) inside
      ∙ ap (λ (z : Row ℕ). rule (map_row ans z)) at
      ∙ ap rule (with_map ans 0 h.word h.atom h.lower h.upper (roots n p)
      ∙ with_any (ans 0) d h.word h.atom h.lower h.upper (map ans (roots n p)) (rw (length-map (roots n p) ans, roots_length n p) g.0)
      ∙ ap (row_with d h) parts) in
      rw (here, after)

-- ---- the meaning of a row names its book only before the first call, where all atoms are false
all_false : (n a : ℕ) → get_or (replicate n false) a false ≡ false
all_false zero a = refl
all_false (suc n) zero = refl
all_false (suc n) (suc a) = all_false n a

rule_any : (b : Rows) (r : ℕ) (row : Row Fact) (h : History) → meaning_rule b r row h ≡ meaning_rule [] 0 row h
unfolding meaning_rule width_of
rule_any b r never h = refl
rule_any b r always h = refl
rule_any b r (atom a) [] = all_false (width_of b) a
rule_any b r (atom a) (s ∷ h) = refl
rule_any b r (conj fs) h = refl
rule_any b r (disj fs) h = refl
rule_any b r (neg f) h = refl
rule_any b r (implies l q) h = refl
rule_any b r (historically g f) [] = refl
rule_any b r (historically g f) (s ∷ h) = refl
rule_any b r (once g f) [] = refl
rule_any b r (once g f) (s ∷ h) = refl
rule_any b r (since g l q) [] = refl
rule_any b r (since g l q) (s ∷ h) = refl

rule_same : (b : Rows) → meaning_rule b ≡ (λ r. meaning_rule [] 0)
rule_same b = fun_ext (λ r. fun_ext (λ row. fun_ext (λ h. rule_any b r row h)))

pub meaning_is : (b : Rows) → meaning b ≡ answer b (λ h. false) (λ r. meaning_rule [] 0)
unfolding meaning
meaning_is b = ap (answer b (λ h. false)) (rule_same b)

pub good_then : (f g : Forest) → Good f → Good g → Good (f then g)
unfolding ◌then◌
good_then none g p q = q
good_then (tree h k s) g p q = (p.0, p.1, good_then s g p.2 q)

rows_then : (a g : Forest) → rows_from 0 (a then g) ≡ rows_from 0 a ++ rows_from (size a) g
unfolding rows_from
rows_then a g = let e : 0 + size a ≡ size a = omega arith in ap (map row_of) (entries_then 0 a g) ∙ map-append row_of (entries 0 a) (entries (0 + size a) g) ∙ rw e

-- the properties of the book mean what the text says
pub means : (a g : Forest) → Good a → Good g → (map (meaning (book_of a g).rows) (book_of a g).assumes ≡ meanings a) × (map (meaning (book_of a g).rows) (book_of a g).guarantees ≡ meanings g)
unfolding book_of meanings
means a g p q =
    let b = rows_from 0 (a then g) in
    let w = ordered (a then g) (good_then a g p q) in (
      ap (λ (m : ℕ → Fact). map m (roots 0 a)) (meaning_is b) ∙ folds (λ h. false) (meaning_rule [] 0) b w a p 0 [] (rows_from (size a) g) refl (rows_then a g),
      ap (λ (m : ℕ → Fact). map m (roots (size a) g)) (meaning_is b) ∙ folds (λ h. false) (meaning_rule [] 0) b w g q (size a) (rows_from 0 a) [] (rows_length 0 a) (rows_then a g ∙ ap (λ (z : Rows). rows_from 0 a ++ z) (sym (append-nil (rows_from (size a) g)))),
    )
