-- And or Or of what a table has of a row's operands, and the least of it, as a loop finds them; whether a row moves, and the lowest row below it. Assumes nothing.
use Prim.Native.Nat.{ℕ, zero, suc, ◌-◌, min, ◌≤◌, ◌<◌}
use native.Mathlib.Omega.{arith}
use mathlib.Core.Path.{◌≡◌, refl, sym, ap, ◌∙◌, subst⁻¹}
use mathlib.Core.Bool.{Bool, true, false, ◌||◌}
use mathlib.Core.List.{List, [], ◌∷◌, map}
use lib.ListN.{length, get_or, take, drop, length-drop}
use Rattle.pmtl.specs.Book.{map_row, some, itself, move_rule, least_of, lowest_rule}
use Rattle.memory.specs.declared.RowSaid.{RowSaid}
use Rattle.memory.specs.Layout.{OPERANDS, MOVES, LOWEST}
use Rattle.memory.specs.Memory.{row_count, kind_at, arg_at, lower_at, upper_at, start_at, row_said, operands_of, operands_from, row_of}
use Rattle.memory.specs.Kept.{Span, Sound}
use Rattle.memory.proofs.Rows.{Read}
use Rattle.book.specs.Rows.{row_from, count_of}
use Rattle.book.specs.Kinds.{word_of_kind}
use Rattle.book.specs.Judging.{arg_good}
use Rattle.book.proofs.Accepted.{form_arg}
use Rattle.lists.proofs.Parts.{part_length}
use Rattle.row_answers.specs.Private.{joined}
use Rattle.row_answers.proofs.Answers.{read_words, span_as, span_book}
use Rattle.tables.specs.Puts.{bit_in, word_in}

-- ---- a row that is not temporal moves if an operand does
or_nothing : (b : Bool) → (b || false) ≡ b
or_nothing true = refl
or_nothing false = refl

pub one_list : (f : ℕ → Bool) (os : List ℕ) → 1 ≤ length os → f (get_or os 0 0) ≡ some itself (map f (take 1 os))
unfolding some
one_list f [] h = absurd (omega arith)
one_list f (x ∷ os) h = sym (or_nothing (f x))

pub two_list : (f : ℕ → Bool) (os : List ℕ) → 2 ≤ length os → (f (get_or os 0 0) || f (get_or os 1 0)) ≡ some itself (map f (take 2 os))
unfolding some
two_list f [] h = absurd (omega arith)
two_list f (x ∷ []) h = absurd (omega arith)
two_list f (x ∷ y ∷ os) h = ap (λ (b : Bool). f x || b) (sym (or_nothing (f y)))

plain_moves : (f : ℕ → Bool) (kind arg lower upper : ℕ) (os : List ℕ) → kind < 7 → count_of kind arg ≤ length os
    → move_rule (map_row f (row_from kind arg lower upper os)) ≡ some itself (map f (take (count_of kind arg) os))
unfolding row_from count_of move_rule some
plain_moves f zero arg lower upper os h l = refl
plain_moves f (suc zero) arg lower upper os h l = refl
plain_moves f (suc (suc zero)) arg lower upper os h l = refl
plain_moves f (suc (suc (suc zero))) arg lower upper os h l = refl
plain_moves f (suc (suc (suc (suc zero)))) arg lower upper os h l = refl
plain_moves f (suc (suc (suc (suc (suc zero))))) arg lower upper os h l = one_list f os l
plain_moves f (suc (suc (suc (suc (suc (suc zero)))))) arg lower upper os h l = two_list f os l
plain_moves f (suc (suc (suc (suc (suc (suc (suc k))))))) arg lower upper os h l = absurd (omega arith)

temporal_moves : (f : ℕ → Bool) (k arg lower upper : ℕ) (os : List ℕ) → k ≤ 2 → move_rule (map_row f (row_from (suc (suc (suc (suc (suc (suc (suc k))))))) arg lower upper os)) ≡ true
unfolding row_from move_rule
temporal_moves f zero arg lower upper os h = refl
temporal_moves f (suc zero) arg lower upper os h = refl
temporal_moves f (suc (suc zero)) arg lower upper os h = refl
temporal_moves f (suc (suc (suc k))) arg lower upper os h = absurd (omega arith)

module _ {m : List ℕ} {r : ℕ} {words : RowSaid} (sound : Sound m) (inside : r < row_count m) (ew : words ≡ row_said m r) where
  read : Read m r (word_of_kind words.kind) words.arg words.start
  read = read_words m r sound.book inside ew

  pub moves_span : Span m (row_count m) words.start (count_of (word_of_kind words.kind) words.arg)
  moves_span = span_book (span_as read refl) inside

  pub arg_good_lem : arg_good (word_of_kind words.kind) words.arg ≡ true
  arg_good_lem = rw (read.kind_is, read.arg_is) (form_arg (kind_at m r) (arg_at m r) (lower_at m r) (upper_at m r) (sound.tidy.form r inside))

  pub moves_plain : word_of_kind words.kind < 7 → {n : ℕ} → n ≡ count_of (word_of_kind words.kind) words.arg → {v : Bool} → v ≡ joined true (map (bit_in m MOVES) (operands_from m words.start n)) → v ≡ move_rule (map_row (bit_in m MOVES) (row_of m r))
  unfolding row_of
  moves_plain h en ev =
      let long : length (operands_of m) ≡ 128 = let l = sound.book.long in part_length OPERANDS 128 m (omega arith) in
      let room = moves_span.inside in
      ev ∙ ap (λ (n : ℕ). joined true (map (bit_in m MOVES) (operands_from m words.start n))) en
      ∙ sym (rw (← read.kind_is, ← read.arg_is, ← read.start_is)
      (plain_moves (bit_in m MOVES) (word_of_kind words.kind) words.arg (lower_at m r) (upper_at m r) (drop words.start (operands_of m)) h (omega (arith, length-drop words.start (operands_of m)))))

  pub moves_temporal : 7 ≤ word_of_kind words.kind → true ≡ move_rule (map_row (bit_in m MOVES) (row_of m r))
  unfolding row_of
  moves_temporal h =
      let most = (sound.book.rows r inside).kind in
      let ek = read.kind_is in
      let e : kind_at m r ≡ suc (suc (suc (suc (suc (suc (suc (kind_at m r - 7))))))) = omega arith in
      sym (subst⁻¹ (λ (kind : ℕ). move_rule (map_row (bit_in m MOVES) (row_from kind (arg_at m r) (lower_at m r) (upper_at m r) (drop (start_at m r) (operands_of m)))) ≡ true) e
      (temporal_moves (bit_in m MOVES) (kind_at m r - 7) _ _ _ _ (omega arith)))

-- ---- the lowest row below a row, from its operands
one_least : (r : ℕ) (f : ℕ → ℕ) (os : List ℕ) → 1 ≤ length os → min r (f (get_or os 0 0)) ≡ least_of r (map f (take 1 os))
unfolding least_of
one_least r f [] h = absurd (omega arith)
one_least r f (x ∷ os) h = refl

two_least : (r : ℕ) (f : ℕ → ℕ) (os : List ℕ) → 2 ≤ length os → min (min r (f (get_or os 0 0))) (f (get_or os 1 0)) ≡ least_of r (map f (take 2 os))
unfolding least_of
two_least r f [] h = absurd (omega arith)
two_least r f (x ∷ []) h = absurd (omega arith)
two_least r f (x ∷ y ∷ os) h = refl

lowest_from : (r : ℕ) (f : ℕ → ℕ) (kind arg lower upper : ℕ) (os : List ℕ) → kind ≤ 9 → count_of kind arg ≤ length os
    → lowest_rule r (map_row f (row_from kind arg lower upper os)) ≡ least_of r (map f (take (count_of kind arg) os))
unfolding row_from count_of lowest_rule least_of
lowest_from r f zero arg lower upper os h l = refl
lowest_from r f (suc zero) arg lower upper os h l = refl
lowest_from r f (suc (suc zero)) arg lower upper os h l = refl
lowest_from r f (suc (suc (suc zero))) arg lower upper os h l = refl
lowest_from r f (suc (suc (suc (suc zero)))) arg lower upper os h l = refl
lowest_from r f (suc (suc (suc (suc (suc zero))))) arg lower upper os h l = one_least r f os l
lowest_from r f (suc (suc (suc (suc (suc (suc zero)))))) arg lower upper os h l = two_least r f os l
lowest_from r f (suc (suc (suc (suc (suc (suc (suc zero))))))) arg lower upper os h l = one_least r f os l
lowest_from r f (suc (suc (suc (suc (suc (suc (suc (suc zero)))))))) arg lower upper os h l = one_least r f os l
lowest_from r f (suc (suc (suc (suc (suc (suc (suc (suc (suc zero))))))))) arg lower upper os h l = two_least r f os l
lowest_from r f (suc (suc (suc (suc (suc (suc (suc (suc (suc (suc k)))))))))) arg lower upper os h l = absurd (omega arith)

module _ {m : List ℕ} {r : ℕ} {words : RowSaid} (sound : Sound m) (inside : r < row_count m) (ew : words ≡ row_said m r) where
  pub lowest_row : {n : ℕ} → n ≡ count_of (word_of_kind words.kind) words.arg → {v : ℕ} → v ≡ least_of r (map (word_in m LOWEST) (operands_from m words.start n)) → v ≡ lowest_rule r (map_row (word_in m LOWEST) (row_of m r))
  unfolding row_of
  lowest_row en ev =
      let read = read_words m r sound.book inside ew in
      let long : length (operands_of m) ≡ 128 = let l = sound.book.long in part_length OPERANDS 128 m (omega arith) in
      let room = (moves_span sound inside ew).inside in
      let most = (sound.book.rows r inside).kind in
      ev ∙ ap (λ (n : ℕ). least_of r (map (word_in m LOWEST) (operands_from m words.start n))) en
      ∙ sym (rw (← read.kind_is, ← read.arg_is, ← read.start_is)
      (lowest_from r (word_in m LOWEST) (word_of_kind words.kind) words.arg (lower_at m r) (upper_at m r) (drop words.start (operands_of m)) (omega (arith, read.kind_is)) (omega (arith, length-drop words.start (operands_of m)))))
