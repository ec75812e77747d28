-- What a step with fresh atoms passes over: a row to which nothing is new keeps its value and its set. Assumes nothing.
use Prim.Native.Nat.{ℕ, zero, suc, ◌+◌, ◌-◌, ◌*◌, ◌≤◌, ◌<◌}
use native.Mathlib.Omega.{arith}
use mathlib.Core.Path.{◌≡◌, refl, sym, ap, ap₂, subst, ◌∙◌}
use mathlib.Core.Logic.{⊎_elim}
use mathlib.Core.Bool.{Bool, true, false, cond, true≢false}
use Rattle.std.specs.Prelude.{Ok}
use mathlib.Core.List.{List, map}
use lib.ListN.{get_or, set, get_or-map}
use lib.Seq.{set-get_or}
use lib.Dec.{ltb, eqb}
use borrow.Author.Tests.{ltb-false, eqb-true, eqb-false, eq-eqb, ne_eqb}
use Rattle.numbers.specs.Limits.{LAST_TIME, MOST_ROWS}
use Rattle.lists.proofs.Tests.{either, lt_or_ge}
use Rattle.lists.proofs.Filled.{filled_from_before, filled_from_after, filled_from_more}
use Rattle.numset.specs.Runs.{Runs, has, fits, SET_WORDS}
use Rattle.pmtl.specs.Answer.{bit_of}
use Rattle.pmtl.specs.Book.{Row, map_row, row_at, lowest}
use Rattle.pmtl.specs.Sets.{renewed, renewed_in, set_rule_by}
use Rattle.pmtl.specs.Monitor.{State, set_at, value_rule, value}
use Rattle.pmtl.proofs.Lowest.{lowest_low, between}
use Rattle.pmtl.proofs.Renewed.{renewed_now}
use Rattle.pmtl.proofs.Answers.{value_fix, set_fix_by}
use Rattle.book.specs.declared.kind.Kind.{Kind}
use Rattle.book.specs.declared.kind.Kind.TheVariants.{Atom}
use Rattle.book.specs.Kinds.{word_of_kind, kind_of_word}
use Rattle.book.specs.Rows.{row_from, ATOM}
use Rattle.memory.proofs.KindWords.{word_back}
use Rattle.memory.specs.Layout.{ROWS, ROW, VALUES, LOWEST}
use Rattle.memory.specs.Memory.{row_count, begun_word, temporals, kind_at, arg_at, slot_at, owner_at, value_at, moves_at, lowest_at, row_of, rows_of, is_one}
use Rattle.memory.specs.Tables.{Founded}
use Rattle.memory.specs.Kept.{Sound, Kept}
use Rattle.memory.proofs.Rows.{rows_length, row_at_lem, kept_ordered}
use Rattle.memory.proofs.Bits.{bit_back}
use Rattle.planning.specs.Plan.{atoms_for, step_of, spans_in, renew_over, ahead, set_after, Unplanned, held_in, value_next, turned_to, RowTried, new_to, visited, unmade_in, IsBit, Bits, Stands, value_after}
use Rattle.planning.proofs.Rules.{no_set}
use Rattle.planning.proofs.Ahead.{ahead_at, ahead_slot}
use Rattle.planning.proofs.Plans.{Going, set_none, set_now, value_now, value_right}
use Rattle.planning.proofs.Looks.{not_atom, going_past}

-- a value that was not turned is the same
pub not_turned : (a b : Bool) → turned_to a b ≡ false → a ≡ b
not_turned true true e = refl
not_turned true false e = absurd (true≢false e)
not_turned false true e = absurd (true≢false e)
not_turned false false e = refl

-- the value of an atom is its byte
atom_value : (atoms : List ℕ) (here : Bool) (f : ℕ → Bool) (m : List ℕ) (r : ℕ) → kind_at m r ≡ 2 → value_rule (map is_one atoms) here (map_row f (row_of m r)) ≡ is_one (get_or atoms (arg_at m r) 0)
unfolding row_of row_from value_rule
atom_value atoms here f m r k = rw k (get_or-map is_one atoms (arg_at m r) 0)

-- ---- as the code finds it
past_last : (k : ℕ) → word_of_kind (kind_of_word (suc (suc (suc (suc (suc (suc (suc (suc (suc (suc k))))))))))) ≡ 9
unfolding kind_of_word
past_last k = refl

pub atom_word : (w : ℕ) → kind_of_word w ≡ Atom → w ≡ 2
atom_word w e =
    ⊎_elim (λ (p : w < 10). sym (word_back w p) ∙ ap word_of_kind e)
    (λ (p : 10 ≤ w).
    let large : w ≡ suc (suc (suc (suc (suc (suc (suc (suc (suc (suc (w - 10)))))))))) = omega arith in
    let nine = past_last (w - 10) in
    let two : word_of_kind (kind_of_word w) ≡ 2 = ap word_of_kind e in
    let same : word_of_kind (kind_of_word w) ≡ 9 = ap (λ (x : ℕ). word_of_kind (kind_of_word x)) large ∙ nine in
    absurd (omega arith))
    (lt_or_ge w 10)

not_word : (w : ℕ) → (kind_of_word w ≡ Atom → ⊥) → w ≡ 2 → ⊥
unfolding kind_of_word
not_word w n e = n (ap kind_of_word e)

module _ (m bytes : List ℕ) (r changed : ℕ) {kind : Kind} (ek : kind ≡ kind_of_word (kind_at m r)) where
  pub new_byte : kind ≡ Atom → {v w : Bool} {a : ℕ} → v ≡ held_in m r → a ≡ arg_at m r → w ≡ is_one (get_or bytes a 0) → turned_to v w ≡ new_to m bytes r changed
  unfolding new_to
  new_byte atom ev ea ew = ap₂ turned_to ev (ew ∙ ap (λ (x : ℕ). is_one (get_or bytes x 0)) ea) ∙ sym (rw (eq-eqb (kind_at m r) ATOM (atom_word (kind_at m r) (sym ek ∙ atom))))

  pub new_below : (kind ≡ Atom → ⊥) → {l : ℕ} → l ≡ lowest_at m r → ltb l changed ≡ new_to m bytes r changed
  unfolding new_to
  new_below other el = ap (λ (x : ℕ). ltb x changed) el ∙ sym (rw (ne_eqb (kind_at m r) ATOM (not_word (kind_at m r) (λ e. other (ek ∙ e)))))

pub visited_fresh : (m bytes : List ℕ) (r changed : ℕ) {fresh v : Bool} → fresh ≡ true → v ≡ new_to m bytes r changed → v ≡ visited m bytes r fresh changed
unfolding visited
visited_fresh m bytes r changed e ev = rw e ev

pub visited_moving : (m bytes : List ℕ) (r changed : ℕ) {fresh v : Bool} → fresh ≡ false → v ≡ is_one (moves_at m r) → v ≡ visited m bytes r fresh changed
unfolding visited
visited_moving m bytes r changed e ev = rw e ev

pub unmade_made : (m : List ℕ) {b : ℕ} → b ≡ begun_word m → b ≡ 1 → ◌≡◌ {A = ℕ} 0 (unmade_in m)
unmade_made m eb one = sym (rw (eq-eqb (begun_word m) 1 (sym eb ∙ one)))

pub unmade_all : (m : List ℕ) {b : ℕ} → b ≡ begun_word m → (b ≡ 1 → ⊥) → MOST_ROWS ≡ unmade_in m
unmade_all m eb other = sym (rw (ne_eqb (begun_word m) 1 (λ e. other (eb ∙ e))))

-- the rows up to n that are not below `changed` have the values that stand in the table
pub record Spared (m : List ℕ) (new : ℕ → Bool) (changed n : ℕ) : Type 0 where
  pub same : (o : ℕ) → o < n → changed ≤ o → new o ≡ held_in m o

-- a row that was changed: none past it is
pub spared_turned : (m : List ℕ) (new : ℕ → Bool) (n all : ℕ) → Spared m new (n + 1 + all) (n + 1)
spared_turned m new n all = record { same = λ o h l. absurd (omega arith) }

pub spared_more : {m : List ℕ} {new : ℕ → Bool} {changed n : ℕ} → Spared m new changed n → new n ≡ held_in m n → Spared m new changed (n + 1)
spared_more {m} {new} {changed} {n} s e =
    record {
      same = λ o h l.
          ⊎_elim (λ (p : o < n). s.same o p l) (λ (p : n ≤ o). let d : o ≡ n = omega arith in rw d e) (lt_or_ge o n);
    }

-- the state that a step with fresh atoms leaves, and the values of its rows
abbrev pub after_of : List ℕ → ℕ → List ℕ → List ℕ → State
after_of m c modes atoms = step_of m (renew_over m false) (ahead m c modes) c atoms

abbrev pub new_of : List ℕ → ℕ → List ℕ → List ℕ → ℕ → Bool
new_of m c modes atoms = value (rows_of m) (after_of m c modes atoms)

-- and those of the step before it
abbrev old_of : (m : List ℕ) {c : ℕ} {modes : List ℕ} → Stands m c modes → ℕ → Bool
old_of m stands = value (rows_of m) stands.state

-- a call was accepted, where not all rows count as changed
made : (b : ℕ) → b ≤ 1 → cond (is_one b) 0 MOST_ROWS < 128 → b ≡ 1
made zero h l = absurd (omega arith)
made (suc zero) h l = refl
made (suc (suc b)) h l = absurd (omega arith)

module _ {m : List ℕ} (sound : Sound m) {c : ℕ} {modes₀ : List ℕ} where
  -- ---- a row whose operands keep their values, where a step at this clock has gone before
  module _ (stands : Stands m c modes₀) where
    held_old : (r : ℕ) → r < row_count m → held_in m r ≡ old_of m stands r
    held_old r h = ap is_one (stands.values r h) ∙ bit_back (old_of m stands r)

    -- its set rests
    set_rests : (r : ℕ) → r < row_count m → set_at stands.state r ≡ set_rule_by renewed c (set_at stands.state r) (map_row (old_of m stands) (row_of m r))
    set_rests r h =
        let st = stands.state in
        let t = st.now.clock in
        ap (λ (x : State). set_at x r) (sym stands.rests)
        ∙ set_fix_by (rows_of m) (kept_ordered sound.book) (renewed_in st.way t) st st.now r
        ∙ ap (λ (x : State). set_rule_by (renewed_in st.way t) t (set_at st r) (map_row (value (rows_of m) x) (row_at (rows_of m) r))) stands.rests
        ∙ renewed_now st.way t t (set_at st r) (omega arith) (map_row (old_of m stands) (row_at (rows_of m) r))
        ∙ ap₂ (λ (x : ℕ) (row : Row ℕ). set_rule_by renewed x (set_at st r) (map_row (old_of m stands) row)) stands.clock (row_at_lem m r h)

    set_ahead_lem : (n : ℕ) → n < row_count m → 7 ≤ kind_at m n → set_at (ahead m c modes₀) n ≡ set_at stands.state n
    set_ahead_lem n h k =
        let row = sound.book.rows n h in
        ahead_at m c modes₀ n h ∙ ahead_slot m c modes₀ n k ∙ stands.sets (slot_at m n) (row.slot k) ∙ ap (set_at stands.state) (row.owner k)

    module _ (atoms : List ℕ) (n : ℕ) (h : n < row_count m) (same : (o : ℕ) → lowest (rows_of m) n ≤ o → o < n → new_of m c modes₀ atoms o ≡ old_of m stands o) where
      operands_same : map_row (new_of m c modes₀ atoms) (row_of m n) ≡ map_row (old_of m stands) (row_of m n)
      operands_same =
          ap (map_row (new_of m c modes₀ atoms)) (sym (row_at_lem m n h))
          ∙ between (rows_of m) (kept_ordered sound.book) (new_of m c modes₀ atoms) (old_of m stands) n (rw rows_length h) (λ o lo lt. let k = lowest_low (rows_of m) (kept_ordered sound.book) o in same o (omega arith) lt)
          ∙ ap (map_row (old_of m stands)) (row_at_lem m n h)

      pub set_same : set_at (after_of m c modes₀ atoms) n ≡ set_at stands.state n
      set_same =
          ⊎_elim
          (λ (k : kind_at m n < 7).
          set_none m sound.book (renew_over m false) (ahead m c modes₀) c atoms n h k ∙ sym (set_rests n h ∙ no_set renewed c (set_at stands.state n) (old_of m stands) m n k))
          (λ (k : 7 ≤ kind_at m n).
          set_now m sound.book (renew_over m false) (ahead m c modes₀) c atoms n h
          ∙ ap₂ (λ (s : Runs) (row : Row Bool). set_rule_by renewed c s row) (set_ahead_lem n h k) operands_same
          ∙ sym (set_rests n h))
          (lt_or_ge (kind_at m n) 7)

      pub value_same : (kind_at m n ≡ 2 → ⊥) → (new_of m c modes₀ atoms) n ≡ (old_of m stands) n
      value_same other =
          let st = stands.state in
          value_now m sound.book (renew_over m false) (ahead m c modes₀) c atoms n h
          ∙ ap₂ (λ (s : Runs) (row : Row Bool). value_rule (map is_one atoms) (has s c) row) set_same operands_same
          ∙ not_atom (map is_one atoms) st.now.atoms (has (set_at st n) c) (old_of m stands) m n other
          ∙ sym (value_fix (rows_of m) (kept_ordered sound.book) st n
          ∙ ap₂ (λ (x : ℕ) (row : Row ℕ). value_rule st.now.atoms (has (set_at st n) x) (map_row (old_of m stands) row)) stands.clock (row_at_lem m n h))

  -- ---- the row that planning has come to
  module _ (founded : Founded m) (bits : Bits m) {atoms m' modes : List ℕ} {n : ℕ} (g : Going m false modes₀ c atoms m' modes n) (h : n < row_count m) where
    abbrev filling : ℕ → ℕ
    filling = value_after m (renew_over m false) (ahead m c modes₀) c atoms

    small : n < 128
    small = omega (arith, sound.book.few)

    word_before : (k : ℕ) → k < VALUES → get_or m' k 0 ≡ get_or m k 0
    word_before k l = ap (λ (x : List ℕ). get_or x k 0) g.values ∙ filled_from_before VALUES filling m 0 n k l

    word_after : (k : ℕ) → VALUES + n ≤ k → get_or m' k 0 ≡ get_or m k 0
    word_after k l = ap (λ (x : List ℕ). get_or x k 0) g.values ∙ filled_from_after VALUES filling m 0 n k l

    kind_now : kind_at m' n ≡ kind_at m n
    kind_now = let s = small in word_before (ROWS + ROW * n) (omega arith)

    arg_now : arg_at m' n ≡ arg_at m n
    arg_now = let s = small in word_before (ROWS + ROW * n + 1) (omega arith)

    lowest_now : lowest_at m' n ≡ lowest (rows_of m) n
    lowest_now = let s = small in word_after (LOWEST + n) (omega arith) ∙ founded.right n h

    there : value_at m' n ≡ value_at m n
    there = word_after (VALUES + n) (omega arith)

    held_now : held_in m' n ≡ held_in m n
    held_now = ap is_one there

    -- one that keeps its value and its set is passed over
    pub going_same : (new_of m c modes₀ atoms) n ≡ held_in m n → ((j : ℕ) → j < temporals m → owner_at m j ≡ n → (set_at (after_of m c modes₀ atoms) n ≡ set_at (ahead m c modes₀) n) × (fits SET_WORDS (set_at (after_of m c modes₀ atoms) n) ≡ true)) → Going m false modes₀ c atoms m' modes (n + 1)
    going_same e own =
        record {
          few = omega arith;
          values =
              sym (ap (set m' (VALUES + n)) (ap bit_of e ∙ sym (bits.right n h) ∙ sym there) ∙ set-get_or m' (VALUES + n) 0)
              ∙ filled_from_more VALUES filling m g.values refl;
          modes_long = g.modes_long;
          sets = λ j l p.
              ⊎_elim (λ (q : owner_at m j < n). g.sets j l q)
              (λ (q : n ≤ owner_at m j).
              let z : owner_at m j ≡ n = omega arith in
              let k : 7 ≤ kind_at m n = rw (← z) (sound.book.temporals_are j l) in
              let slot : slot_at m n ≡ j = ap (slot_at m) (sym z) ∙ sound.book.slots j l in
              ap (λ (x : ℕ). set_after m c x j) (g.rest j l q)
              ∙ ap (λ (x : ℕ). set_after m c (get_or modes₀ x 0) x) (sym slot)
              ∙ sym (ahead_at m c modes₀ n h ∙ ahead_slot m c modes₀ n k)
              ∙ sym (own j l z).0 ∙ ap (set_at (after_of m c modes₀ atoms)) (sym z))
              (lt_or_ge (owner_at m j) n);
          room = λ j l p.
              ⊎_elim (λ (q : owner_at m j < n). g.room j l q)
              (λ (q : n ≤ owner_at m j). let z : owner_at m j ≡ n = omega arith in rw z (own j l z).1)
              (lt_or_ge (owner_at m j) n);
          rest = λ j l p. g.rest j l (omega arith);
        }

    -- an atom that has its byte already
    atom_same : kind_at m n ≡ 2 → turned_to (held_in m' n) (is_one (get_or atoms (arg_at m' n) 0)) ≡ false → (new_of m c modes₀ atoms) n ≡ held_in m n
    atom_same k e =
        value_now m sound.book (renew_over m false) (ahead m c modes₀) c atoms n h
        ∙ atom_value atoms (has (set_at (after_of m c modes₀ atoms) n) c) (new_of m c modes₀ atoms) m n k
        ∙ ap (λ (a : ℕ). is_one (get_or atoms a 0)) (sym arg_now)
        ∙ sym (not_turned (held_in m' n) (is_one (get_or atoms (arg_at m' n) 0)) e) ∙ held_now

    -- nothing is new to the row
    pub going_spared : begun_word m ≤ 1 → (begun_word m ≡ 1 → Stands m c modes₀) → {changed : ℕ} → unmade_in m ≤ changed → Spared m (new_of m c modes₀ atoms) changed n → new_to m' atoms n changed ≡ false
        → Going m false modes₀ c atoms m' modes (n + 1) × Spared m (new_of m c modes₀ atoms) changed (n + 1)
    unfolding new_to
    going_spared most stands {changed} all spared e = ⊎_elim by_byte by_operands (either (eqb (kind_at m' n) ATOM))
      where
        by_byte : eqb (kind_at m' n) ATOM ≡ true → Going m false modes₀ c atoms m' modes (n + 1) × Spared m (new_of m c modes₀ atoms) changed (n + 1)
        by_byte a =
            let k : kind_at m n ≡ 2 = sym kind_now ∙ eqb-true (kind_at m' n) ATOM a in
            let is = atom_same k (sym (rw a) ∙ e) in
            (going_same is (λ j l z. let t : 7 ≤ kind_at m n = rw (← z) (sound.book.temporals_are j l) in absurd (omega arith)), spared_more spared is)

        by_operands : eqb (kind_at m' n) ATOM ≡ false → Going m false modes₀ c atoms m' modes (n + 1) × Spared m (new_of m c modes₀ atoms) changed (n + 1)
        by_operands a =
            let other : kind_at m n ≡ 2 → ⊥ = λ k. eqb-false (kind_at m' n) ATOM a (kind_now ∙ k) in
            let low : changed ≤ lowest (rows_of m) n = rw (← lowest_now) (ltb-false (lowest_at m' n) changed (sym (rw a) ∙ e)) in
            let s = small in
            let below = lowest_low (rows_of m) (kept_ordered sound.book) n in
            let begun : begun_word m ≡ 1 = made (begun_word m) most (omega arith) in
            let st = stands begun in
            let same : (o : ℕ) → lowest (rows_of m) n ≤ o → o < n → (new_of m c modes₀ atoms) o ≡ old_of m st o = λ o lo lt. spared.same o lt (omega arith) ∙ held_old st o (omega arith) in
            let is : (new_of m c modes₀ atoms) n ≡ held_in m n = value_same st atoms n h same other ∙ sym (held_old st n h) in (
              going_same is (λ j l z.
                  let k : 7 ≤ kind_at m n = rw (← z) (sound.book.temporals_are j l) in
                  (set_same st atoms n h same ∙ sym (set_ahead_lem st n h k), ap (fits SET_WORDS) (set_same st atoms n h same ∙ ap (set_at st.state) (sym z)) ∙ st.room j l)),
              spared_more spared is,
            )

  -- a row that was tried and keeps its value
  pub spared_tried :
      {atoms m' modes : List ℕ} {n : ℕ} → Going m false modes₀ c atoms m' modes n → n < row_count m → {changed : ℕ} → Spared m (new_of m c modes₀ atoms) changed n
      → value_next m' false c modes atoms n ≡ new_of m c modes₀ atoms n → turned_to (held_in m' n) (value_next m' false c modes atoms n) ≡ false → Spared m (new_of m c modes₀ atoms) changed (n + 1)
  spared_tried {atoms} {m'} {modes} {n} g h spared right e =
      let there : held_in m' n ≡ held_in m n =
      ap is_one (ap (λ (x : List ℕ). value_at x n) g.values ∙ filled_from_after VALUES (value_after m (renew_over m false) (ahead m c modes₀) c atoms) m 0 n (VALUES + n) (omega arith)) in
      spared_more spared (sym right ∙ sym (not_turned (held_in m' n) (value_next m' false c modes atoms n) e) ∙ there)

-- ---- either step, as the loop has it
module _ {m : List ℕ} (sound : Sound m) {c : ℕ} {modes₀ m' modes : List ℕ} {n : ℕ} {spans : Bool} (h : n < row_count m) where
  -- a row that is passed over
  pub going_on :
      (fresh : Bool) → spans ≡ spans_in m fresh → (bytes : List ℕ) → Going m spans modes₀ c (atoms_for m fresh bytes) m' modes n → (fresh ≡ false → Kept m × Unplanned m modes₀)
      → (fresh ≡ true → Founded m × Bits m × (begun_word m ≡ 1 → Stands m c modes₀)) → (changed : ℕ) → unmade_in m ≤ changed → (fresh ≡ true → Spared m (new_of m c modes₀ bytes) changed n)
      → visited m' bytes n fresh changed ≡ false → Going m spans modes₀ c (atoms_for m fresh bytes) m' modes (n + 1) × (fresh ≡ true → Spared m (new_of m c modes₀ bytes) changed (n + 1))
  unfolding visited
  going_on true es bytes g first facts changed all spared e =
      let f = facts refl in
      let on = going_spared sound f.0 f.1 (subst (λ (s : Bool). Going m s modes₀ c bytes m' modes n) es g) h sound.begun f.2 all (spared refl) e in
      (subst (λ (s : Bool). Going m s modes₀ c bytes m' modes (n + 1)) (sym es) on.0, λ z. on.1)
  going_on false es bytes g first facts changed all spared e = (going_past sound g h (first refl).0 refl e, λ z. absurd (true≢false (sym z)))

  -- the word of a row that was not come to yet is a bit, as it was before either step
  pub going_bit :
      (fresh : Bool) {atoms : List ℕ} → Going m spans modes₀ c atoms m' modes n → (fresh ≡ false → Kept m × Unplanned m modes₀) → (fresh ≡ true → Founded m × Bits m × (begun_word m ≡ 1 → Stands m c modes₀)) → IsBit m' n
  going_bit fresh {atoms} g first facts =
      let there : value_at m' n ≡ value_at m n =
      ap (λ (x : List ℕ). value_at x n) g.values ∙ filled_from_after VALUES (value_after m (renew_over m spans) (ahead m c modes₀) c atoms) m 0 n (VALUES + n) (omega arith) in
      rw there (before fresh first facts)
    where
      before : (fresh : Bool) → (fresh ≡ false → Kept m × Unplanned m modes₀) → (fresh ≡ true → Founded m × Bits m × (begun_word m ≡ 1 → Stands m c modes₀)) → IsBit m n
      before true first facts = (facts refl).1.right n h
      before false first facts = let e = (first refl).0.tables.valued.right n h in rw e (ap bit_of (sym (bit_back _)))

  -- and one that was tried and keeps its value
  pub spared_on :
      (fresh : Bool) → spans ≡ spans_in m fresh → (bytes : List ℕ) → Going m spans modes₀ c (atoms_for m fresh bytes) m' modes n → c ≤ LAST_TIME → (fresh ≡ false → Kept m × Unplanned m modes₀)
      → {m'' modes' : List ℕ} {turned : Bool} → RowTried m' spans c bytes modes n m'' modes' (Ok turned) → turned ≡ false
      → {changed : ℕ} → (fresh ≡ true → Spared m (new_of m c modes₀ bytes) changed n) → fresh ≡ true → Spared m (new_of m c modes₀ bytes) changed (n + 1)
  spared_on true es bytes g early first t turned spared z =
      let g₁ = subst (λ (s : Bool). Going m s modes₀ c bytes m' modes n) es g in
      let right = value_right sound early (λ q. absurd (true≢false (sym q))) g₁ h in
      let same = sym t.turned_is ∙ turned in
      spared_tried sound g₁ h (spared z) right (subst (λ (s : Bool). turned_to (held_in m' n) (value_next m' s c modes bytes n) ≡ false) es same)
  spared_on false es bytes g early first t turned spared z = absurd (true≢false (sym z))
