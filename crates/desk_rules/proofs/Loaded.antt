-- The words of a desk's book are accepted, strictly, and say that book. Assumes nothing.
use Prim.Native.Nat.{ℕ, zero, suc, ◌+◌, ◌*◌, ◌≤◌, ◌<◌}
use native.Mathlib.Omega.{arith}
use native.Mathlib.Nat.{add_assoc}
use mathlib.Core.Path.{◌≡◌, refl, ap, ap₂, ◌∙◌}
use mathlib.Core.Bool.{true, or-true}
use mathlib.Core.List.{List, [], ◌∷◌, map}
use lib.ListN.{length, get_or, get_or-map}
use lib.Dec.{eqb}
use borrow.Author.Tests.{le-leb}
use Rattle.numbers.specs.Limits.{MAX, LAST_TIME, MOST_KITS}
use Rattle.numbers.specs.Refusals.{ACCEPTED}
use Rattle.book.specs.declared.loading.Loading.TheVariants.{Strict}
use Rattle.book.specs.Judging.{arg_good, form_good, range_good, loaded}
use Rattle.book.specs.Loading.{loaded_by}
use Rattle.book.proofs.Admitted.{admitted_as}
use Rattle.book.specs.declared.kind.Kind.TheVariants.{Atom, Not, Implies, Historically, Since}
use Rattle.trees.specs.Forest.{Head, head_of, Forest, none, tree, one, ◌then◌, count, size, roots, Entry, entries, Good}
use Rattle.trees.specs.Numbered.{row_with, row_of as treeRow, rows_from as treeRows, book_of}
use Rattle.trees.specs.Building.{all_rows, all_operands, words_of}
use Rattle.trees.proofs.Sums.{weight}
use Rattle.trees.proofs.Judged.{HeadsGood, temporal_head, words_accepted}
use Rattle.trees.proofs.Words.{loaded_words}
use Rattle.desk_rules.specs.Scans.{Kit, no_kit, window_of, windows, Fine}
use Rattle.desk_rules.specs.Rows.{PROMISE, HANDOUT, RETURN, atom_of, rows_from, guarantees_from, desk_book}
use Rattle.desk_rules.specs.BookWords.{row_words_from, operands_from, book_words}
use Rattle.desk_rules.proofs.Rows.{desk_strict}
use Rattle.desk_rules.proofs.Places.{windows_length}

-- ---- the guarantees as trees, of kits with these windows, of which the first is kit k
promised : ℕ → ℕ → Forest
promised k window =
    tree (head_of Atom (atom_of k HANDOUT) 0 0) none
    (one (head_of Since 0 0 window) (tree (head_of Not 0 0 0) (one (head_of Atom (atom_of k RETURN) 0 0) none) (one (head_of Atom (atom_of k PROMISE) 0 0) none)))

trees : ℕ → List ℕ → Forest
trees k [] = none
trees k (w ∷ ws) = tree (head_of Historically 0 0 MAX) (one (head_of Implies 0 0 0) (promised k w)) (trees (suc k) ws)

-- ---- their rows
abbrev entry : Head → List ℕ → Entry
entry h os = record { head = h; operands = os }

kit_entries : (n k w : ℕ) (ws : List ℕ) → entries n (trees k (w ∷ ws)) ≡
    entry (head_of Atom (atom_of k HANDOUT) 0 0) []
    ∷ entry (head_of Atom (atom_of k RETURN) 0 0) []
    ∷ entry (head_of Not 0 0 0) ((n + 1) ∷ [])
    ∷ entry (head_of Atom (atom_of k PROMISE) 0 0) []
    ∷ entry (head_of Since 0 0 w) ((n + 2) ∷ (n + 3) ∷ [])
    ∷ entry (head_of Implies 0 0 0) ((n + 0) ∷ (n + 4) ∷ [])
    ∷ entry (head_of Historically 0 0 MAX) ((n + 5) ∷ [])
    ∷ entries (n + 7) (trees (suc k) ws)
unfolding trees promised entries roots size
kit_entries n k w ws = simp add_assoc

next : (k : ℕ) → 7 * k + 7 ≡ 7 * suc k
next k = omega arith

rows_said_lem : (k : ℕ) (ws : List ℕ) → all_rows (entries (7 * k) (trees k ws)) ≡ row_words_from k ws
unfolding trees entries all_rows row_words_from
rows_said_lem k [] = refl
rows_said_lem k (w ∷ ws) = rw (kit_entries (7 * k) k w ws, next k, rows_said_lem (suc k) ws)

operands_said : (k : ℕ) (ws : List ℕ) → all_operands (entries (7 * k) (trees k ws)) ≡ operands_from k (length ws)
unfolding trees entries all_operands operands_from
operands_said k [] = refl
operands_said k (w ∷ ws) = rw (kit_entries (7 * k) k w ws, next k, operands_said (suc k) ws)

book_rows : (k : ℕ) (ws : List ℕ) → map treeRow (entries (7 * k) (trees k ws)) ≡ rows_from k ws
unfolding trees entries row_with rows_from
book_rows k [] = refl
book_rows k (w ∷ ws) = rw (kit_entries (7 * k) k w ws, next k, book_rows (suc k) ws)

guarantees_said : (k : ℕ) (ws : List ℕ) → roots (7 * k) (trees k ws) ≡ guarantees_from k (length ws)
unfolding trees promised roots size guarantees_from
guarantees_said k [] = refl
guarantees_said k (w ∷ ws) = rw (next k, guarantees_said (suc k) ws)

-- ---- how many there are
trees_size : (k : ℕ) (ws : List ℕ) → size (trees k ws) ≡ 7 * length ws
unfolding trees promised size
trees_size k [] = refl
trees_size k (w ∷ ws) = omega (arith, trees_size (suc k) ws)

trees_count : (k : ℕ) (ws : List ℕ) → count (trees k ws) ≡ length ws
unfolding trees count
trees_count k [] = refl
trees_count k (w ∷ ws) = ap suc (trees_count (suc k) ws)

trees_temporal : (k : ℕ) (ws : List ℕ) → weight temporal_head (trees k ws) ≡ 2 * length ws
unfolding trees promised weight
trees_temporal k [] = refl
trees_temporal k (w ∷ ws) = omega (arith, trees_temporal (suc k) ws)

operands_length : (k n : ℕ) → length (operands_from k n) ≡ 6 * n
unfolding operands_from
operands_length k zero = refl
operands_length k (suc n) = omega (arith, operands_length (suc k) n)

-- ---- nothing is wrong with them
trees_good : (k : ℕ) (ws : List ℕ) → Good (trees k ws)
unfolding trees promised count
trees_good k [] = tt
trees_good k (w ∷ ws) =
    let atom : (a : ℕ) → Good (one (head_of Atom a 0 0) none) = λ a. ((refl, refl, refl), tt, tt) in (
      (refl, refl),
      ((refl, refl, refl, refl), ((refl, refl, refl), tt, ((refl, refl), ((refl, refl, refl, refl), atom (atom_of k RETURN), atom (atom_of k PROMISE)), tt)), tt),
      trees_good (suc k) ws,
    )

atom_good : (a : ℕ) → a ≤ 255 → form_good 2 a 0 0 ≡ true
unfolding form_good arg_good
atom_good a h = rw (le-leb a 255 h)

window_good : (w : ℕ) → w ≤ LAST_TIME → range_good 0 w ≡ true
unfolding range_good
window_good w h = rw (le-leb 0 w (omega arith), le-leb w LAST_TIME h) (or-true (eqb w MAX))

heads_good : (k : ℕ) (ws : List ℕ) → k + length ws ≤ MOST_KITS → ((i : ℕ) → get_or ws i 0 ≤ LAST_TIME) → HeadsGood (trees k ws)
unfolding trees promised count form_good arg_good range_good
heads_good k [] few small = tt
heads_good k (w ∷ ws) few small =
    let on : (i : ℕ) → i < 3 → form_good 2 (atom_of k i) 0 0 ≡ true = λ i h. atom_good (atom_of k i) (omega arith) in
    let atom : (i : ℕ) → i < 3 → HeadsGood (one (head_of Atom (atom_of k i) 0 0) none) = λ i h. ((on i h, refl), tt, tt) in (
      (refl, refl),
      ((refl, refl), ((on 1 (omega arith), refl), tt, ((refl, window_good w (small 0)), ((refl, refl), atom 2 (omega arith), atom 0 (omega arith)), tt)), tt),
      heads_good (suc k) ws (omega arith) (λ i. small (suc i)),
    )

-- ---- the words
words_are : (ws : List ℕ) → words_of none (trees 0 ws) ≡ book_words ws
unfolding words_of book_words ◌then◌ size count roots
words_are ws =
    rw (rows_said_lem 0 ws, operands_said 0 ws, trees_size 0 ws, operands_length 0 (length ws), trees_count 0 ws, guarantees_said 0 ws)

book_is : (ws : List ℕ) → book_of none (trees 0 ws) ≡ desk_book ws
unfolding book_of treeRows ◌then◌ size roots
book_is ws = ap₂ (λ rows gs. record { rows = rows; assumes = []; guarantees = gs }) (book_rows 0 ws) (guarantees_said 0 ws)

module _ (kits : List Kit) (fine : Fine kits) where
  abbrev ws : List ℕ
  ws = windows kits

  small : (i : ℕ) → get_or ws i 0 ≤ LAST_TIME
  small i = omega (arith, get_or-map window_of kits i no_kit, fine.small i)

  accepted : (loaded (words_of none (trees 0 ws))).number ≡ ACCEPTED
  unfolding ◌then◌ size count
  accepted =
      let n = windows_length kits in
      words_accepted none (trees 0 ws) tt (trees_good 0 ws) tt (heads_good 0 ws (omega (arith, fine.few)) small)
      (omega (arith, trees_size 0 ws, fine.few)) (omega arith) (omega (arith, trees_count 0 ws, fine.few)) (omega (arith, trees_temporal 0 ws, fine.few))

  -- the book of a desk is accepted
  pub book_loads : loaded (book_words ws) ≡ record { number = ACCEPTED; book = desk_book ws }
  book_loads =
      let e = words_are ws in
      ap₂ (λ n k. record { number = n; book = k }) (rw e at accepted) (rw e at (loaded_words none (trees 0 ws) tt (trees_good 0 ws) accepted) ∙ book_is ws)

  -- in the strict way of loading, too: none of its sets can ever lack room
  pub book_loads_strictly : loaded_by Strict (book_words ws) ≡ record { number = ACCEPTED; book = desk_book ws }
  book_loads_strictly = admitted_as Strict (loaded (book_words ws)) (λ s. rw book_loads (desk_strict ws)) refl ∙ book_loads
