-- The least that a slot tells of up to when its set stays as it is, is what the monitor that a memory holds tells; and what the word for it says. Assumes nothing.
use Prim.Native.Nat.{ℕ, zero, suc, ◌+◌, ◌-◌, min, ◌≤◌, ◌<◌}
use native.Mathlib.Numerals.{add-one}
use native.Mathlib.Omega.{arith}
use mathlib.Core.Path.{◌≡◌, refl, sym, ap, ap₂, ◌∙◌}
use mathlib.Core.Logic.{⊎_elim}
use mathlib.Core.Bool.{true, false, cond}
use mathlib.Core.List.{List, [], ◌∷◌}
use lib.ListN.{length, get_or, length-set}
use lib.Seq.{get_or-set_same, get_or-set_other}
use borrow.Author.Tests.{lt-ltb, le-ltb, eq-eqb, ne_eqb}
use Rattle.numbers.specs.Limits.{MAX}
use Rattle.lists.proofs.Tests.{lt_or_ge}
use Rattle.numset.specs.Runs.{Runs, lo, hi, runs_to}
use Rattle.numset.specs.Until.{rests_until}
use Rattle.ring.specs.Ring.{unrolled, ringed}
use Rattle.ring.proofs.Rolls.{unrolled_count}
use Rattle.pmtl.specs.Book.{Range, Rows, row_at}
use Rattle.pmtl.specs.Monitor.{State, set_at}
use Rattle.pmtl.specs.Quiet.{steady, until_set, until_row, until_to, quiet_until}
use Rattle.pmtl.proofs.Quiet.{least_under, least_above}
use Rattle.book.specs.Rows.{row_from}
use Rattle.memory.specs.Layout.{UNTIL}
use Rattle.memory.specs.Memory.{row_count, clock_of, temporals, kind_at, arg_at, lower_at, upper_at, slot_at, range_at, owner_at, row_of, rows_of, state_of}
use Rattle.memory.specs.Tables.{Unused, Tables}
use Rattle.memory.specs.Kept.{Sound, Awaited}
use Rattle.memory.specs.Alike.{Alike, SameLedger}
use Rattle.memory.proofs.Rows.{rows_length, row_at_lem}
use Rattle.memory.proofs.Sets.{owner_set}
use Rattle.memory.proofs.Alike.{alike_on, alike_sound, alike_rows, alike_state}
use Rattle.memory.proofs.Ledger.{ledger_on}
use Rattle.tables.specs.Puts.{moves_put, lowest_put, values_put, told_put, count_put, early_put, settled_put, until_of, until_at, until_put}
use Rattle.tables.proofs.Puts.{tables_same, worked_out}

-- ---- one set, as the code finds it
pub until_none : (c lower upper : ℕ) (s : Runs) → length s ≡ 0 → MAX ≡ until_of c lower upper s
unfolding until_set
until_none c lower upper [] e = refl
until_none c lower upper (r ∷ rs) e = absurd (omega arith)

by_newest : (c : ℕ) (g : Range) (w : List ℕ) (n : ℕ) → 0 < n → until_set c g (runs_to w n) ≡ cond (steady c g (lo w (n - 1)) (hi w (n - 1))) (rests_until c (runs_to w n)) c
unfolding runs_to until_set
by_newest c g w zero h = absurd (omega arith)
by_newest c g w (suc j) h = let e : suc j - 1 ≡ j = omega arith in rw e

module _ (words : List ℕ) (c lower upper : ℕ) (some : 0 < get_or words 0 0) where
  abbrev g : Range
  g = record { lower = lower; upper = upper }

  abbrev newest_lower : ℕ
  newest_lower = lo (unrolled words) (get_or words 0 0 - 1)

  abbrev newest_upper : ℕ
  newest_upper = hi (unrolled words) (get_or words 0 0 - 1)

  newest : until_set c g (ringed words) ≡ cond (steady c g newest_lower newest_upper) (rests_until c (ringed words)) c
  newest = rw (unrolled_count words) (by_newest c g (unrolled words) (get_or words 0 0) some)

  steadily : steady c g newest_lower newest_upper ≡ true → {r : ℕ} → r ≡ rests_until c (ringed words) → r ≡ until_set c g (ringed words)
  steadily e er = er ∙ sym (newest ∙ rw e)

  else_now : steady c g newest_lower newest_upper ≡ false → c ≡ until_set c g (ringed words)
  else_now e = sym (newest ∙ rw e)

  module _ (unbounded : upper ≡ MAX) {l : ℕ} (lower_is : l ≡ newest_lower) where
    pub unbounded_rests : l < c + lower → {r : ℕ} → r ≡ rests_until c (ringed words) → r ≡ until_of c lower upper (ringed words)
    unfolding steady
    unbounded_rests h = steadily (rw (eq-eqb upper MAX unbounded) (lt-ltb newest_lower (c + lower) (omega arith)))

    pub unbounded_now : c + lower ≤ l → c ≡ until_of c lower upper (ringed words)
    unfolding steady
    unbounded_now h = else_now (rw (eq-eqb upper MAX unbounded) (le-ltb newest_lower (c + lower) (omega arith)))

  module _ (bounded : upper ≡ MAX → ⊥) {u : ℕ} (upper_is : u ≡ newest_upper) where
    pub bounded_rests : u < c + upper → {r : ℕ} → r ≡ rests_until c (ringed words) → r ≡ until_of c lower upper (ringed words)
    unfolding steady
    bounded_rests h = steadily (rw (ne_eqb upper MAX bounded) (lt-ltb newest_upper (c + upper) (omega arith)))

    pub bounded_now : c + upper ≤ u → c ≡ until_of c lower upper (ringed words)
    unfolding steady
    bounded_now h = else_now (rw (ne_eqb upper MAX bounded) (le-ltb newest_upper (c + upper) (omega arith)))

-- ---- the least of the first n slots
unfoldable pub least_to : List ℕ → ℕ → ℕ
least_to m zero = MAX
least_to m (suc j) = min (least_to m j) (until_at m j)

pub least_none : (m : List ℕ) → least_to m 0 ≡ MAX
unfolding least_to
least_none m = refl

pub least_more : (m : List ℕ) (n : ℕ) → least_to m (n + 1) ≡ min (least_to m n) (until_at m n)
unfolding least_to
least_more m n = rw add-one

least_at : (m : List ℕ) (n j : ℕ) → j < n → least_to m n ≤ until_at m j
unfolding least_to
least_at m zero j h = absurd (omega arith)
least_at m (suc n) j h =
    ⊎_elim
    (λ (l : j < n). let k = least_at m n j l in omega arith)
    (λ (l : n ≤ j). let i : j ≡ n = omega arith in let e : until_at m j ≡ until_at m n = ap (until_at m) i in omega arith)
    (lt_or_ge j n)

least_over : (m : List ℕ) (n k : ℕ) → k ≤ MAX → ((j : ℕ) → j < n → k ≤ until_at m j) → k ≤ least_to m n
unfolding least_to
least_over m zero k p f = p
least_over m (suc n) k p f = let a = least_over m n k p (λ j h. f j (omega arith)) in let b = f n (omega arith) in omega arith

least_small : (m : List ℕ) (n : ℕ) → least_to m n ≤ MAX
unfolding least_to
least_small m zero = omega arith
least_small m (suc n) = let h = least_small m n in omega arith

to_small : (b : Rows) (st : State) (n : ℕ) → until_to b st n ≤ MAX
unfolding until_to
to_small b st zero = omega arith
to_small b st (suc n) = let h = to_small b st n in omega arith

pub least_falls : (m : List ℕ) (n k : ℕ) → n ≤ k → least_to m k ≤ least_to m n
least_falls m n k h = least_over m n (least_to m k) (least_small m k) (λ j l. least_at m k j (omega arith))

-- ---- a row, by its words
module _ (c : ℕ) (s : Runs) (arg lower upper : ℕ) (os : List ℕ) where
  row_bare : (kind : ℕ) → kind < 7 → until_row c s (row_from kind arg lower upper os) ≡ MAX
  unfolding row_from until_row
  row_bare zero h = refl
  row_bare (suc zero) h = refl
  row_bare (suc (suc zero)) h = refl
  row_bare (suc (suc (suc zero))) h = refl
  row_bare (suc (suc (suc (suc zero)))) h = refl
  row_bare (suc (suc (suc (suc (suc zero))))) h = refl
  row_bare (suc (suc (suc (suc (suc (suc zero)))))) h = refl
  row_bare (suc (suc (suc (suc (suc (suc (suc k))))))) h = absurd (omega arith)

  row_set : (kind : ℕ) → 7 ≤ kind → kind ≤ 9 → until_row c s (row_from kind arg lower upper os) ≡ until_of c lower upper s
  unfolding row_from until_row
  row_set zero h k = absurd (omega arith)
  row_set (suc zero) h k = absurd (omega arith)
  row_set (suc (suc zero)) h k = absurd (omega arith)
  row_set (suc (suc (suc zero))) h k = absurd (omega arith)
  row_set (suc (suc (suc (suc zero)))) h k = absurd (omega arith)
  row_set (suc (suc (suc (suc (suc zero))))) h k = absurd (omega arith)
  row_set (suc (suc (suc (suc (suc (suc zero)))))) h k = absurd (omega arith)
  row_set (suc (suc (suc (suc (suc (suc (suc zero))))))) h k = refl
  row_set (suc (suc (suc (suc (suc (suc (suc (suc zero)))))))) h k = refl
  row_set (suc (suc (suc (suc (suc (suc (suc (suc (suc zero))))))))) h k = refl
  row_set (suc (suc (suc (suc (suc (suc (suc (suc (suc (suc j)))))))))) h k = absurd (omega arith)

module _ {m : List ℕ} (sound : Sound m) where
  abbrev bound : ℕ → ℕ
  bound r = until_row (clock_of m) (set_at (state_of m) r) (row_at (rows_of m) r)

  bound_bare : (r : ℕ) → r < row_count m → kind_at m r < 7 → bound r ≡ MAX
  unfolding row_of
  bound_bare r h k = ap (until_row (clock_of m) (set_at (state_of m) r)) (row_at_lem m r h) ∙ row_bare (clock_of m) (set_at (state_of m) r) (arg_at m r) (lower_at m r) (upper_at m r) _ (kind_at m r) k

  bound_owner : (j : ℕ) → j < temporals m → bound (owner_at m j) ≡ until_at m j
  unfolding row_of
  bound_owner j h =
      let r : ℕ = owner_at m j in
      let l = sound.book.owned j h in
      ap (until_row (clock_of m) (set_at (state_of m) r)) (row_at_lem m r l)
      ∙ row_set (clock_of m) (set_at (state_of m) r) (arg_at m r) (lower_at m r) (upper_at m r) _ (kind_at m r) (sound.book.temporals_are j h) (sound.book.rows r l).kind
      ∙ ap (until_set (clock_of m) (range_at m r)) (owner_set m sound j h)

  row_over : (r : ℕ) → r < row_count m → least_to m (temporals m) ≤ bound r
  row_over r h =
      ⊎_elim
      (λ (k : kind_at m r < 7). let e = bound_bare r h k in let q = least_small m (temporals m) in omega arith)
      (λ (k : 7 ≤ kind_at m r).
      let row = sound.book.rows r h in
      let e = ap bound (sym (row.owner k)) ∙ bound_owner (slot_at m r) (row.slot k) in
      let q = least_at m (temporals m) (slot_at m r) (row.slot k) in
      omega arith)
      (lt_or_ge (kind_at m r) 7)

  least_is : least_to m (temporals m) ≡ until_to (rows_of m) (state_of m) (length (rows_of m))
  unfolding state_of
  least_is =
      let n = rows_length m in
      let a = least_above (rows_of m) (state_of m) (length (rows_of m)) (least_to m (temporals m)) (least_small m (temporals m)) (λ r h. row_over r (omega arith)) in
      let b = least_over m (temporals m) (until_to (rows_of m) (state_of m) (length (rows_of m))) (to_small (rows_of m) (state_of m) (length (rows_of m))) (λ j h.
      let e = bound_owner j h in
      let l = sound.book.owned j h in
      let k = least_under (rows_of m) (state_of m) (length (rows_of m)) (owner_at m j) (omega arith) in
      omega arith) in
      omega arith

  -- all slots were looked at, and none may change at once
  pub until_all : {least : ℕ} → least ≡ least_to m (temporals m) → clock_of m ≤ least → least ≡ quiet_until (rows_of m) (state_of m)
  unfolding quiet_until state_of
  until_all e h = let q = least_is in omega arith

  -- one may
  pub until_now : (n : ℕ) → n ≤ temporals m → least_to m n ≤ clock_of m → clock_of m ≡ quiet_until (rows_of m) (state_of m)
  unfolding quiet_until state_of
  until_now n l h = let q = least_is in let f = least_falls m n (temporals m) l in omega arith

-- ---- the word for it
module _ {m : List ℕ} (sound : Sound m) where
  abbrev until : ℕ
  until = quiet_until (rows_of m) (state_of m)

  until_other : (k : ℕ) → k < UNTIL → get_or (until_put m) k 0 ≡ get_or m k 0
  until_other k h = get_or-set_other m UNTIL k until 0 (omega arith)

  until_alike : Alike m (until_put m)
  until_alike = record { long = length-set m UNTIL until; below = λ i h. until_other i (omega arith) }

  until_awaited : Awaited (until_put m)
  until_awaited =
      let long = sound.book.long in
      record { right = get_or-set_same m UNTIL until 0 (omega arith) ∙ sym (ap₂ quiet_until (alike_rows sound until_alike) (alike_state sound until_alike)) }

-- put where the rest is right
pub tables_awaited : {m m₁ m₂ : List ℕ} → Sound m → Alike m m₁ × Tables m₁ × SameLedger m m₁ → m₂ ≡ until_put m₁ → Alike m m₂ × Tables m₂ × SameLedger m m₂ × Awaited m₂
tables_awaited {m} {m₁} sound t e =
    let sound₁ = alike_sound sound t.0 in
    let u = quiet_until (rows_of m₁) (state_of m₁) in
    rw e (
      alike_on t.0 (until_alike sound₁),
      tables_same sound₁ (until_alike sound₁) (until_other sound₁) t.1,
      ledger_on t.2 (record { words = λ i h. get_or-set_other m₁ UNTIL i u 0 (omega arith) }),
      until_awaited sound₁,
    )

pub worked_awaited : {m m₀ l₀ m₁ m₂ m₃ m₄ : List ℕ} → Sound m → Unused m → m₀ ≡ moves_put m → l₀ ≡ lowest_put m₀ → m₁ ≡ values_put l₀ → m₂ ≡ count_put (told_put m₁) → m₃ ≡ settled_put (early_put m₂)
    → m₄ ≡ until_put m₃ → Alike m m₄ × Tables m₄ × SameLedger m m₄ × Awaited m₄
worked_awaited {m₃ = m₃} sound unused e₀ el e₁ e₂ e₃ e₄ = tables_awaited {m₁ = m₃} sound (rw (e₃, e₂, e₁, el, e₀) (worked_out sound unused)) e₄

pub asked_sound : {m m₀ l₀ m₁ m₂ m₃ : List ℕ} → Sound m → Unused m → m₀ ≡ moves_put m → l₀ ≡ lowest_put m₀ → m₁ ≡ values_put l₀ → m₂ ≡ count_put (told_put m₁) → m₃ ≡ settled_put (early_put m₂) → Sound m₃
asked_sound sound unused e₀ el e₁ e₂ e₃ = rw (e₃, e₂, e₁, el, e₀) (alike_sound sound (worked_out sound unused).0)
