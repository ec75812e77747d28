-- Which rows a step looks at: those that a time step passes over keep their values, and those at which it looks are no atoms. Assumes nothing.
use Prim.Native.Nat.{ℕ, zero, suc, ◌+◌, ◌*◌, ◌≤◌, ◌<◌}
use native.Mathlib.Omega.{arith}
use mathlib.Core.Path.{◌≡◌, refl, sym, ap, ◌∙◌}
use mathlib.Core.Logic.{⊎_elim}
use mathlib.Core.Bool.{Bool, true, false, true≢false}
use mathlib.Core.List.{List, map}
use lib.ListN.{length, get_or, set}
use lib.Seq.{set-get_or}
use Rattle.lists.proofs.Tests.{lt_or_ge}
use Rattle.lists.proofs.Filled.{filled_from_before, filled_from_after, filled_from_more}
use Rattle.numset.specs.Runs.{has}
use Rattle.pmtl.specs.Answer.{bit_of}
use Rattle.pmtl.specs.Book.{Row, map_row, move_rule, moves}
use Rattle.pmtl.specs.Monitor.{Snap, value_rule}
use Rattle.pmtl.proofs.Table.{answer_in}
use Rattle.pmtl.proofs.Answers.{step_now_by}
use Rattle.pmtl.proofs.Still.{still}
use Rattle.memory.specs.Layout.{ROWS, ROW, VALUES, MOVES}
use Rattle.memory.specs.Memory.{row_count, width_word, temporals, kind_at, arg_at, owner_at, atoms_of, value_at, moves_at, row_of, rows_of, state_of, is_one}
use Rattle.memory.specs.Kept.{Sound, Kept}
use Rattle.memory.proofs.Rows.{rows_length, row_at_lem, kept_ordered}
use Rattle.book.specs.Rows.{row_from}
use Rattle.memory.proofs.Bits.{bit_back}
use Rattle.planning.specs.Plan.{atoms_for, snap_of, step_of, renew_over, ahead, held_in, set_next, value_next, Named, visited, value_after}
use Rattle.planning.proofs.Plans.{Going}
use Rattle.planning.proofs.Atoms.{old_atoms}

-- ---- a row by its kind
not_atom_from : (x y : List Bool) (here : Bool) (f : ℕ → Bool) (kind arg lower upper : ℕ) (os : List ℕ) → (kind ≡ 2 → ⊥)
    → value_rule x here (map_row f (row_from kind arg lower upper os)) ≡ value_rule y here (map_row f (row_from kind arg lower upper os))
unfolding row_from value_rule
not_atom_from x y here f zero arg lower upper os n = refl
not_atom_from x y here f (suc zero) arg lower upper os n = refl
not_atom_from x y here f (suc (suc zero)) arg lower upper os n = absurd (n refl)
not_atom_from x y here f (suc (suc (suc zero))) arg lower upper os n = refl
not_atom_from x y here f (suc (suc (suc (suc zero)))) arg lower upper os n = refl
not_atom_from x y here f (suc (suc (suc (suc (suc zero))))) arg lower upper os n = refl
not_atom_from x y here f (suc (suc (suc (suc (suc (suc zero)))))) arg lower upper os n = refl
not_atom_from x y here f (suc (suc (suc (suc (suc (suc (suc zero))))))) arg lower upper os n = refl
not_atom_from x y here f (suc (suc (suc (suc (suc (suc (suc (suc zero)))))))) arg lower upper os n = refl
not_atom_from x y here f (suc (suc (suc (suc (suc (suc (suc (suc (suc zero))))))))) arg lower upper os n = refl
not_atom_from x y here f (suc (suc (suc (suc (suc (suc (suc (suc (suc (suc k)))))))))) arg lower upper os n = refl

pub not_atom : (x y : List Bool) (here : Bool) (f : ℕ → Bool) (m : List ℕ) (r : ℕ) → (kind_at m r ≡ 2 → ⊥) → value_rule x here (map_row f (row_of m r)) ≡ value_rule y here (map_row f (row_of m r))
unfolding row_of
not_atom x y here f m r n = not_atom_from x y here f (kind_at m r) _ _ _ _ n

atom_still : (f : ℕ → Bool) (m : List ℕ) (r : ℕ) → kind_at m r ≡ 2 → move_rule (map_row f (row_of m r)) ≡ false
unfolding row_of row_from move_rule
atom_still f m r e = rw e

-- a row that does not move is not temporal
still_from : (f : ℕ → Bool) (kind arg lower upper : ℕ) (os : List ℕ) → kind ≤ 9 → move_rule (map_row f (row_from kind arg lower upper os)) ≡ false → kind < 7
unfolding row_from move_rule
still_from f zero arg lower upper os h e = omega arith
still_from f (suc zero) arg lower upper os h e = omega arith
still_from f (suc (suc zero)) arg lower upper os h e = omega arith
still_from f (suc (suc (suc zero))) arg lower upper os h e = omega arith
still_from f (suc (suc (suc (suc zero)))) arg lower upper os h e = omega arith
still_from f (suc (suc (suc (suc (suc zero))))) arg lower upper os h e = omega arith
still_from f (suc (suc (suc (suc (suc (suc zero)))))) arg lower upper os h e = omega arith
still_from f (suc (suc (suc (suc (suc (suc (suc zero))))))) arg lower upper os h e = absurd (true≢false e)
still_from f (suc (suc (suc (suc (suc (suc (suc (suc zero)))))))) arg lower upper os h e = absurd (true≢false e)
still_from f (suc (suc (suc (suc (suc (suc (suc (suc (suc zero))))))))) arg lower upper os h e = absurd (true≢false e)
still_from f (suc (suc (suc (suc (suc (suc (suc (suc (suc (suc k)))))))))) arg lower upper os h e = absurd (omega arith)

still_plain : (f : ℕ → Bool) (m : List ℕ) (r : ℕ) → kind_at m r ≤ 9 → move_rule (map_row f (row_of m r)) ≡ false → kind_at m r < 7
unfolding row_of
still_plain f m r h e = still_from f (kind_at m r) _ _ _ _ h e

-- ---- the row that planning has come to
module _ {m : List ℕ} (sound : Sound m) where
  abbrev of_rows : ℕ → Bool
  of_rows = moves (rows_of m)

  own_rule : (n : ℕ) → n < row_count m → of_rows n ≡ move_rule (map_row of_rows (row_of m n))
  own_rule n h =
      answer_in (rows_of m) false (λ r row. move_rule row) (kept_ordered sound.book) n (rw rows_length h)
      ∙ ap (λ (row : Row ℕ). move_rule (map_row of_rows row)) (row_at_lem m n h)

  module _ {spans : Bool} {modes₀ : List ℕ} {c : ℕ} {atoms m' modes : List ℕ} {n : ℕ} (g : Going m spans modes₀ c atoms m' modes n) (h : n < row_count m) where
    small : n < 128
    small = omega (arith, sound.book.few)

    moves_now : Kept m → is_one (moves_at m' n) ≡ of_rows n
    moves_now kept =
        let s = small in
        ap (λ (x : List ℕ). is_one (moves_at x n)) g.values
        ∙ ap is_one (filled_from_after VALUES (value_after m (renew_over m spans) (ahead m c modes₀) c atoms) m 0 n (MOVES + n) (omega arith) ∙ kept.tables.moving.right n h) ∙ bit_back (of_rows n)

    word_now : (k : ℕ) → k < VALUES → get_or m' k 0 ≡ get_or m k 0
    word_now k l = ap (λ (x : List ℕ). get_or x k 0) g.values ∙ filled_from_before VALUES (value_after m (renew_over m spans) (ahead m c modes₀) c atoms) m 0 n k l

    kind_now : kind_at m' n ≡ kind_at m n
    kind_now = let s = small in word_now (ROWS + ROW * n) (omega arith)

    -- one that moves is no atom
    moving_kind : Kept m → is_one (moves_at m' n) ≡ true → kind_at m' n ≡ 2 → ⊥
    moving_kind kept e k = true≢false (sym (sym (moves_now kept) ∙ e) ∙ own_rule n h ∙ atom_still of_rows m n (sym kind_now ∙ k))

    -- a state has a byte for every atom
    pub fresh_named : (bytes : List ℕ) → width_word m ≤ length bytes → Named m' bytes n
    fresh_named bytes wide =
        let s = small in
        record {
          inside = λ k.
              let arg : arg_at m' n ≡ arg_at m n = word_now (ROWS + ROW * n + 1) (omega arith) in
              let below = (sound.book.rows n h).atoms (sym kind_now ∙ k) in
              omega arith;
        }

    module _ (changed : ℕ) where
      pub visited_named : (fresh : Bool) (bytes : List ℕ) → (fresh ≡ false → Kept m) → (fresh ≡ true → width_word m ≤ length bytes) → visited m' bytes n fresh changed ≡ true → Named m' bytes n
      unfolding visited
      visited_named true bytes kept wide e = fresh_named bytes (wide refl)
      visited_named false bytes kept wide e = record { inside = λ k. absurd (moving_kind (kept refl) e k) }

      pub visited_same : (fresh : Bool) (bytes : List ℕ) → (fresh ≡ false → Kept m) → atoms ≡ atoms_for m fresh bytes → visited m' bytes n fresh changed ≡ true → value_next m' spans c modes bytes n ≡ value_next m' spans c modes atoms n
      unfolding visited
      visited_same true bytes kept ea e = ap (λ (x : List ℕ). value_next m' spans c modes x n) (sym ea)
      visited_same false bytes kept ea e = not_atom (map is_one bytes) (map is_one atoms) (has (set_next m' spans c modes n) c) (held_in m') m' n (moving_kind (kept refl) e)

    -- one that is passed over keeps its value, and has no set
    module _ (kept : Kept m) (ea : atoms ≡ atoms_of m) (e : is_one (moves_at m' n) ≡ false) where
      stays : of_rows n ≡ false
      stays = sym (moves_now kept) ∙ e

      plain : kind_at m n < 7
      plain = still_plain of_rows m n (sound.book.rows n h).kind (sym (own_rule n h) ∙ stays)

      value_stays : value_after m (renew_over m spans) (ahead m c modes₀) c atoms n ≡ value_at m n
      unfolding state_of
      value_stays =
          ap bit_of (still (rows_of m) (kept_ordered sound.book) (state_of m) (step_of m (renew_over m spans) (ahead m c modes₀) c atoms)
          (ap (λ (s : Snap). s.atoms) (step_now_by (renew_over m spans) (rows_of m) (ahead m c modes₀) (snap_of c atoms)) ∙ ap (map is_one) ea ∙ old_atoms (sound))
          n stays)
          ∙ sym (kept.tables.valued.right n h)

      value_there : value_at m' n ≡ value_at m n
      value_there = ap (λ (x : List ℕ). value_at x n) g.values ∙ filled_from_after VALUES (value_after m (renew_over m spans) (ahead m c modes₀) c atoms) m 0 n (VALUES + n) (omega arith)

      not_owner : (j : ℕ) → j < temporals m → owner_at m j < n + 1 → owner_at m j < n
      not_owner j l p =
          ⊎_elim (λ (q : owner_at m j < n). q)
          (λ (q : n ≤ owner_at m j).
          let z : owner_at m j ≡ n = omega arith in
          let t : 7 ≤ kind_at m n = rw (← z) (sound.book.temporals_are j l) in
          let low = plain in
          absurd (omega arith))
          (lt_or_ge (owner_at m j) n)

      pub going_past : Going m spans modes₀ c atoms m' modes (n + 1)
      going_past =
          record {
            few = omega arith;
            values = sym (ap (set m' (VALUES + n)) (value_stays ∙ sym value_there) ∙ set-get_or m' (VALUES + n) 0) ∙ filled_from_more VALUES (value_after m (renew_over m spans) (ahead m c modes₀) c atoms) m g.values refl;
            modes_long = g.modes_long;
            sets = λ j l p. g.sets j l (not_owner j l p);
            room = λ j l p. g.room j l (not_owner j l p);
            rest = λ j l p. g.rest j l (omega arith);
          }
