-- The words of a desk's book, written one part after another. Assumes nothing.
use Prim.Native.Nat.{ℕ, zero, suc, ◌+◌, ◌*◌, ◌≤◌}
use native.Mathlib.Omega.{arith}
use mathlib.Core.Path.{◌≡◌, refl, sym, ap, ◌∙◌}
use mathlib.Core.List.{List, [], ◌∷◌, ◌++◌}
use lib.ListN.{length, get_or, set, take, length-append}
use lib.Seq.{sets, length-sets}
use Rattle.lists.specs.Lists.{put, listed}
use Rattle.trees.proofs.Built.{take_sets}
use Rattle.desk_rules.specs.Scans.{windows}
use Rattle.desk_rules.specs.Rows.{guarantee, guarantees_from}
use Rattle.desk_rules.specs.BookWords.{kit_words, kit_operands, row_words_from, operands_from, rows_section, operands_section, property_sections, book_words}
use Rattle.desk_rules.proofs.Places.{windows_length}
use Rattle.desk.specs.Kits.{KIT_WORDS, kit_in, kits_in}
use Rattle.desk.specs.Private.{MOST_BOOK_WORDS, BookPut}
use Rattle.desk.proofs.Kits.{kits_length, windows_more, sets_append, copied_more}

-- ---- one more kit
rows_snoc : (j : ℕ) (ws : List ℕ) (w : ℕ) → row_words_from j (ws ++ (w ∷ [])) ≡ row_words_from j ws ++ kit_words (j + length ws) w
unfolding row_words_from
rows_snoc j [] w = let e : j + 0 ≡ j = omega arith in rw e
rows_snoc j (v ∷ ws) w = let e : j + suc (length ws) ≡ suc j + length ws = omega arith in rw e (ap (λ xs. kit_words j v ++ xs) (rows_snoc (suc j) ws w))

operands_next : (j n : ℕ) → operands_from j (suc n) ≡ operands_from j n ++ kit_operands (j + n)
unfolding operands_from
operands_next j zero = let e : j + 0 ≡ j = omega arith in rw e
operands_next j (suc n) = let e : j + suc n ≡ suc j + n = omega arith in rw e (ap (λ xs. kit_operands j ++ xs) (operands_next (suc j) n))

guarantees_next : (j n : ℕ) → guarantees_from j (suc n) ≡ guarantees_from j n ++ (guarantee (j + n) ∷ [])
unfolding guarantees_from
guarantees_next j zero = let e : j + 0 ≡ j = omega arith in rw e
guarantees_next j (suc n) = let e : j + suc n ≡ suc j + n = omega arith in rw e (ap (λ xs. guarantee j ∷ xs) (guarantees_next (suc j) n))

rows_long : (j : ℕ) (ws : List ℕ) → length (row_words_from j ws) ≡ 28 * length ws
unfolding row_words_from
rows_long j [] = refl
rows_long j (w ∷ ws) = omega (arith, rows_long (suc j) ws)

operands_long : (j n : ℕ) → length (operands_from j n) ≡ 6 * n
unfolding operands_from
operands_long j zero = refl
operands_long j (suc n) = omega (arith, operands_long (suc j) n)

guarantees_long : (j n : ℕ) → length (guarantees_from j n) ≡ n
unfolding guarantees_from
guarantees_long j zero = refl
guarantees_long j (suc n) = ap suc (guarantees_long (suc j) n)

-- ---- the rows of the first kits
abbrev pub rows_of : List ℕ → ℕ → List ℕ
rows_of m n = row_words_from 0 (windows (kits_in m n))

rows_of_long : (m : List ℕ) (n : ℕ) → length (rows_of m n) ≡ 28 * n
rows_of_long m n = omega (arith, rows_long 0 (windows (kits_in m n)), windows_length (kits_in m n), kits_length m n)

pub rows_start : (m w : List ℕ) (at : ℕ) → w ≡ sets w at (rows_of m 0)
unfolding kits_in listed row_words_from
rows_start m w at = refl

pub rows_more : (m w w₁ w₂ : List ℕ) (at k v : ℕ) → w₁ ≡ sets w at (rows_of m k) → at + 28 * (k + 1) ≤ length w → v ≡ get_or m (KIT_WORDS * k + 3) 0
    → w₂ ≡ put w₁ (at + 28 * k) (kit_words k v) → w₂ ≡ sets w at (rows_of m (k + 1))
rows_more m w w₁ w₂ at k v e h f g =
    let n = rows_of_long m k in
    let z : 0 + length (windows (kits_in m k)) ≡ k = omega (arith, windows_length (kits_in m k), kits_length m k) in
    let s : rows_of m (k + 1) ≡ rows_of m k ++ kit_words k v = ap (row_words_from 0) (windows_more m k) ∙ rows_snoc 0 (windows (kits_in m k)) (kit_in m k).window ∙ rw (z, f) in
    copied_more w w₁ w₂ (rows_of m k) (kit_words k v) at (at + 28 * k) e (omega arith) (omega arith) g ∙ ap (sets w at) (sym s)

pub rows_end : (m w w₁ : List ℕ) (at k n : ℕ) → w₁ ≡ sets w at (rows_of m k) → k ≡ n → w₁ ≡ sets w at (rows_of m n)
rows_end m w w₁ at k n e f = rw (← f) e

-- ---- their operands
pub operands_start : (w : List ℕ) (at : ℕ) → w ≡ sets w at (operands_from 0 0)
unfolding operands_from
operands_start w at = refl

pub operands_more : (w w₁ w₂ : List ℕ) (at k : ℕ) → w₁ ≡ sets w at (operands_from 0 k) → at + 6 * (k + 1) ≤ length w → w₂ ≡ put w₁ (at + 6 * k) (kit_operands k)
    → w₂ ≡ sets w at (operands_from 0 (k + 1))
operands_more w w₁ w₂ at k e h g =
    let n = operands_long 0 k in
    let z : 0 + k ≡ k = omega arith in
    let s : k + 1 ≡ suc k = omega arith in
    let t : operands_from 0 (k + 1) ≡ operands_from 0 k ++ kit_operands k = rw s (operands_next 0 k ∙ rw z) in
    copied_more w w₁ w₂ (operands_from 0 k) (kit_operands k) at (at + 6 * k) e (omega arith) (omega arith) g ∙ ap (sets w at) (sym t)

pub operands_end : (w w₁ : List ℕ) (at k n : ℕ) → w₁ ≡ sets w at (operands_from 0 k) → k ≡ n → w₁ ≡ sets w at (operands_from 0 n)
operands_end w w₁ at k n e f = rw (← f) e

-- ---- their guarantees
pub guarantees_start : (w : List ℕ) (at : ℕ) → w ≡ sets w at (guarantees_from 0 0)
unfolding guarantees_from
guarantees_start w at = refl

pub guarantees_more : (w w₁ : List ℕ) (at k : ℕ) → w₁ ≡ sets w at (guarantees_from 0 k) → set w₁ (at + k) (guarantee k) ≡ sets w at (guarantees_from 0 (k + 1))
guarantees_more w w₁ at k e =
    let n = guarantees_long 0 k in
    let z : 0 + k ≡ k = omega arith in
    let s : k + 1 ≡ suc k = omega arith in
    let t : guarantees_from 0 (k + 1) ≡ guarantees_from 0 k ++ (guarantee k ∷ []) = rw s (guarantees_next 0 k ∙ rw z) in
    ap (λ (v : List ℕ). set v (at + k) (guarantee k)) e
    ∙ ap (λ i. set (sets w at (guarantees_from 0 k)) (at + i) (guarantee k)) (sym n)
    ∙ sym (sets_append w at (guarantees_from 0 k) (guarantee k ∷ []))
    ∙ ap (sets w at) (sym t)

pub guarantees_end : (w w₁ : List ℕ) (at k n : ℕ) → w₁ ≡ sets w at (guarantees_from 0 k) → k ≡ n → w₁ ≡ sets w at (guarantees_from 0 n)
guarantees_end w w₁ at k n e f = rw (← f) e

-- ---- the sections
pub section_put : (w w' xs : List ℕ) (at x : ℕ) → w' ≡ sets (set w at x) (at + 1) xs → w' ≡ sets w at (x ∷ xs)
section_put w w' xs at x e = let s : suc at ≡ at + 1 = omega arith in rw s e

pub sections_put : (w w' xs : List ℕ) (at x y : ℕ) → w' ≡ sets (set (set w at x) (at + 1) y) (at + 2) xs → w' ≡ sets w at (x ∷ y ∷ xs)
sections_put w w' xs at x y e =
    let s : suc at ≡ at + 1 = omega arith in
    let t : suc (at + 1) ≡ at + 2 = omega arith in
    rw (s, t) e

pub rows_counted : (m : List ℕ) (n : ℕ) (w w' : List ℕ) → w' ≡ sets (set w 0 (7 * n)) 1 (rows_of m n) → w' ≡ sets w 0 (rows_section (windows (kits_in m n)))
rows_counted m n w w' e = let k : length (windows (kits_in m n)) ≡ n = windows_length (kits_in m n) ∙ kits_length m n in rw k e

pub book_put : (m w w₁ w₂ w₃ : List ℕ) (n r : ℕ) → n ≤ 16 → MOST_BOOK_WORDS ≤ length w → w₁ ≡ sets w 0 (rows_section (windows (kits_in m n)))
    → w₂ ≡ sets w₁ (28 * n + 1) (operands_section n) → w₃ ≡ sets w₂ (28 * n + 1 + 6 * n + 1) (property_sections n) → r ≡ 28 * n + 1 + 6 * n + 1 + n + 2
    → BookPut (windows (kits_in m n)) w₃ r
unfolding book_words
book_put m w w₁ w₂ w₃ n r few h e f g q =
    let ws = windows (kits_in m n) in
    let k : length ws ≡ n = windows_length (kits_in m n) ∙ kits_length m n in
    let rs = rows_section ws in
    let os = operands_section n in
    let ps = property_sections n in
    let lr = rows_of_long m n in
    let lo = operands_long 0 n in
    let lg = guarantees_long 0 n in
    let a : 0 + length rs ≡ 28 * n + 1 = omega arith in
    let b : 28 * n + 1 + length os ≡ 28 * n + 1 + 6 * n + 1 = omega arith in
    let inner : w₃ ≡ sets w₁ (28 * n + 1) (os ++ ps) = g ∙ ap (λ (v : List ℕ). sets v (28 * n + 1 + 6 * n + 1) ps) f ∙ sym (sets_append w₁ (28 * n + 1) os ps ∙ rw b) in
    let all : w₃ ≡ sets w 0 (rs ++ (os ++ ps)) = inner ∙ ap (λ (v : List ℕ). sets v (28 * n + 1) (os ++ ps)) e ∙ sym (sets_append w 0 rs (os ++ ps) ∙ rw a) in
    let l : length (rs ++ (os ++ ps)) ≡ r = length-append rs (os ++ ps) ∙ omega (arith, length-append os ps) in
    let z : r ≡ 0 + length (rs ++ (os ++ ps)) = omega arith in
    record {
      inside = omega (arith, ap length all, length-sets w 0 (rs ++ (os ++ ps)));
      are = ap (take r) all ∙ rw z (take_sets w 0 (rs ++ (os ++ ps)) (omega arith)) ∙ ap (λ j. rs ++ (operands_section j ++ property_sections j)) (sym k);
    }

-- stores keep the length
pub sets_long : (w w' : List ℕ) (at : ℕ) (xs : List ℕ) → w' ≡ sets w at xs → length w' ≡ length w
sets_long w w' at xs e = ap length e ∙ length-sets w at xs
