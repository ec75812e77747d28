-- What a table that is worked out anew says, and that the others say what they said. Assumes nothing.
use Prim.Native.Nat.{ℕ, zero, suc, ◌+◌, min, max, ◌≤◌, ◌<◌}
use native.Mathlib.Numerals.{add-one}
use native.Mathlib.Omega.{arith}
use mathlib.Core.Path.{◌≡◌, refl, sym, ap, ap₂, ◌∙◌}
use mathlib.Core.Bool.{Bool, true, false, cond}
use mathlib.Core.Logic.{⊎_elim}
use mathlib.Core.List.{List}
use mir.Val.{bool_byte}
use lib.ListN.{length, get_or, set, length-set}
use lib.Seq.{set-get_or, get_or-set_same, get_or-set_other}
use lib.Dec.{eqb}
use borrow.Author.Tests.{eqb-true, eq-eqb, ne_eqb}
use Rattle.lists.specs.Lists.{filled_from}
use Rattle.lists.proofs.Tests.{either}
use Rattle.lists.proofs.Filled.{filled_from_at, filled_from_before, filled_from_after, filled_from_more}
use Rattle.ring.specs.Ring.{ringed}
use Rattle.pmtl.specs.declared.Answer.{Answer}
use Rattle.pmtl.specs.declared.Answer.TheVariants.{Open}
use Rattle.pmtl.specs.Answer.{bit_of, digit_of}
use Rattle.pmtl.specs.Book.{Row, Rows, row_at, map_row, Below, move_rule, moves, lowest_rule, lowest}
use Rattle.pmtl.proofs.Table.{map_row_local, answer_in}
use Rattle.pmtl.specs.Monitor.{State, fullest, value}
use Rattle.pmtl.specs.Early.{early}
use Rattle.pmtl.specs.Settled.{settled}
use Rattle.memory.specs.Layout.{VALUES, TOLD, EARLY, SETTLED, MOVES, LOWEST, FULLEST, UNTIL, PROPERTIES, OWNERS}
use Rattle.memory.specs.Memory.{row_count, clock_of, temporals, owner_at, slot_words, property_row, value_at, told_at, early_at, settled_at, moves_at, lowest_at, fullest_word, row_of, rows_of, state_of, is_one}
use Rattle.memory.specs.Tables.{standing, value_of, early_of, settled_of, property_count, Valued, Told, Answered, Moving, Founded, Counts, Unused, Tables}
use Rattle.memory.specs.Kept.{Sound}
use Rattle.memory.specs.Alike.{Alike, SameLedger}
use Rattle.memory.proofs.Bits.{bit_back}
use Rattle.memory.proofs.Rows.{rows_length, row_at_lem, kept_ordered}
use Rattle.memory.proofs.Ledger.{ledger_on, ledger_filled}
use Rattle.memory.proofs.Alike.{alike_on, alike_filled, alike_sound, alike_rows, alike_state, alike_set}
use Rattle.row_answers.specs.Told.{early_told}
use Rattle.row_answers.proofs.Told.{told_early, told_settled, early_same, settled_same, alike_told}
use Rattle.std.specs.Prelude.{None, Some}
use Rattle.tables.specs.declared.News.{News}
use Rattle.tables.specs.Puts.{bit_in, moves_put, word_in, lowest_put, values_put, standing_at, told_put, count_put, news_from, news_end, news_told, early_digit, early_put, settled_now, settled_digit, settled_put}
use Rattle.tables.proofs.Fullest.{most_to, most_none, most_more, most_is_fullest}

-- a truth value as a word
pub byte_bit : (b : Bool) → bool_byte b ≡ bit_of b
byte_bit true = refl
byte_bit false = refl

abbrev pub move_word : List ℕ → ℕ → ℕ
move_word m r = bit_of (moves (rows_of m) r)

-- ---- counts
module _ {m : List ℕ} (sound : Sound m) where
  pub few_rows : row_count m ≤ 128
  few_rows = sound.book.few

  pub few_sets : temporals m ≤ 32
  few_sets = sound.book.temporal_few

  pub few_properties : property_count m ≤ 32
  few_properties = let a = sound.book.assumes_few in let g = sound.book.guarantees_few in omega arith

-- ---- memories that differ in their tables alone
module _ {m m' : List ℕ} (sound : Sound m) (alike : Alike m m') where
  same_rows : row_count m' ≡ row_count m
  same_rows = alike.below 0 (omega arith)

  same_sets : temporals m' ≡ temporals m
  same_sets = alike.below 4 (omega arith)

  pub same_properties : property_count m' ≡ property_count m
  same_properties = ap₂ (λ (a g : ℕ). a + g) (alike.below 5 (omega arith)) (alike.below 6 (omega arith))

  pub same_property : (i : ℕ) → i < 32 → property_row m' i ≡ property_row m i
  same_property i h = alike.below (PROPERTIES + i) (omega arith)

  -- an answer of every row
  pub answer_same : {A : Type 0} (f : Rows → State → ℕ → A) (r : ℕ) → f (rows_of m') (state_of m') r ≡ f (rows_of m) (state_of m) r
  answer_same f r = rw (alike_rows sound alike, alike_state sound alike)

  standing_same : (j : ℕ) → j < 32 → standing_at m' j ≡ standing_at m j
  standing_same j h = ap₂ (λ (c : ℕ) (ws : List ℕ). standing c (ringed ws)) (alike.below 2 (omega arith)) (alike_set sound alike j h)

  -- a table whose words are the same is right in both
  pub valued_same : ((r : ℕ) → r < 128 → value_at m' r ≡ value_at m r) → Valued m → Valued m'
  valued_same same v =
      let few = few_rows sound in
      record { right = rw same_rows (λ r h. same r (omega arith) ∙ v.right r h ∙ sym (ap bit_of (answer_same value r))) }

  pub told_same : ((j : ℕ) → j < 32 → told_at m' j ≡ told_at m j) → Told m → Told m'
  told_same same t =
      let few = few_sets sound in
      record { right = rw same_sets (λ j h. let p : j < 32 = omega arith in same j p ∙ t.right j h ∙ sym (standing_same j p)) }

  pub moving_same : ((r : ℕ) → r < 128 → moves_at m' r ≡ moves_at m r) → Moving m → Moving m'
  moving_same same v =
      let few = few_rows sound in
      record { right = rw (same_rows, alike_rows sound alike) (λ r h. same r (omega arith) ∙ v.right r h) }

  pub founded_same : ((r : ℕ) → r < 128 → lowest_at m' r ≡ lowest_at m r) → Founded m → Founded m'
  founded_same same v =
      let few = few_rows sound in
      record { right = rw (same_rows, alike_rows sound alike) (λ r h. same r (omega arith) ∙ v.right r h) }

  pub counts_same : fullest_word m' ≡ fullest_word m → Counts m → Counts m'
  counts_same same c = record { right = same ∙ c.right ∙ sym (ap fullest (alike_state sound alike)) }

  pub answered_same : ((i : ℕ) → i < 32 → early_at m' i ≡ early_at m i) → ((i : ℕ) → i < 32 → settled_at m' i ≡ settled_at m i) → Answered m → Answered m'
  answered_same early_is settled_is a =
      let few = few_properties sound in
      record {
        early = rw same_properties (λ i h.
            let p : i < 32 = omega arith in
            early_is i p ∙ a.early i h ∙ sym (ap digit_of (ap (early_of m') (same_property i p) ∙ answer_same early (property_row m i))));
        settled = rw same_properties (λ i h.
            let p : i < 32 = omega arith in
            settled_is i p ∙ a.settled i h ∙ sym (ap digit_of (ap (settled_of m') (same_property i p) ∙ answer_same settled (property_row m i))));
      }

  -- so are the words not in use, as far as they are the same
  pub unused_same :
      ((r : ℕ) → row_count m ≤ r → r < 128 → value_at m' r ≡ value_at m r)
      → ((j : ℕ) → temporals m ≤ j → j < 32 → told_at m' j ≡ told_at m j)
      → ((i : ℕ) → property_count m ≤ i → i < 32 → early_at m' i ≡ early_at m i)
      → ((i : ℕ) → property_count m ≤ i → i < 32 → settled_at m' i ≡ settled_at m i)
      → ((r : ℕ) → row_count m ≤ r → r < 128 → moves_at m' r ≡ moves_at m r)
      → ((r : ℕ) → row_count m ≤ r → r < 128 → lowest_at m' r ≡ lowest_at m r)
      → Unused m → Unused m'
  unused_same values told early settled moved low u =
      record {
        values = rw same_rows (λ r p q. values r p q ∙ u.values r p q);
        told = rw same_sets (λ j p q. told j p q ∙ u.told j p q);
        early = rw same_properties (λ i p q. early i p q ∙ u.early i p q);
        settled = rw same_properties (λ i p q. settled i p q ∙ u.settled i p q);
        moves = rw same_rows (λ r p q. moved r p q ∙ u.moves r p q);
        lowest = rw same_rows (λ r p q. low r p q ∙ u.lowest r p q);
      }

  -- so are all tables, where the memories differ in what stands behind them alone
  pub tables_same : ((i : ℕ) → i < UNTIL → get_or m' i 0 ≡ get_or m i 0) → Tables m → Tables m'
  tables_same same t = record {
    valued = valued_same (λ r h. same (VALUES + r) (omega arith)) t.valued;
    told = told_same (λ j h. same (TOLD + j) (omega arith)) t.told;
    answered = answered_same (λ i h. same (EARLY + i) (omega arith)) (λ i h. same (SETTLED + i) (omega arith)) t.answered;
    moving = moving_same (λ r h. same (MOVES + r) (omega arith)) t.moving;
    founded = founded_same (λ r h. same (LOWEST + r) (omega arith)) t.founded;
    counts = counts_same (same FULLEST (omega arith)) t.counts;
    unused =
        unused_same
        (λ r p q. same (VALUES + r) (omega arith)) (λ j p q. same (TOLD + j) (omega arith))
        (λ i p q. same (EARLY + i) (omega arith)) (λ i p q. same (SETTLED + i) (omega arith)) (λ r p q. same (MOVES + r) (omega arith)) (λ r p q. same (LOWEST + r) (omega arith))
        t.unused;
  }

-- ---- which rows move
module _ {m : List ℕ} (sound : Sound m) where
  -- as a loop finds it
  module _ (n : ℕ) {m' : List ℕ} (e : m' ≡ filled_from MOVES (move_word m) m n) where
    moves_alike : Alike m m'
    moves_alike = rw e (alike_filled m MOVES (move_word m) n (omega arith))

    pub moves_sound : Sound m'
    moves_sound = alike_sound sound moves_alike

    pub moves_count : row_count m' ≡ row_count m
    moves_count = moves_alike.below 0 (omega arith)

    pub moves_more : n < row_count m → {v : Bool} → v ≡ move_rule (map_row (bit_in m' MOVES) (row_of m' n)) → {w : ℕ} → w ≡ bool_byte v → set m' (MOVES + n) w ≡ filled_from MOVES (move_word m) m (n + 1)
    moves_more h {v} ev ew =
        let few = few_rows sound in
        let long = sound.book.long in
        let h' : n < row_count m' = rw moves_count h in
        let row : row_of m' n ≡ row_of m n = sym (row_at_lem m' n h') ∙ ap (λ (b : Rows). row_at b n) (alike_rows sound moves_alike) ∙ row_at_lem m n h in
        let low : Below n (row_of m n) = rw (row_at_lem m n h) at (kept_ordered sound.book n) in
        let bits : (o : ℕ) → o < n → bit_in m' MOVES o ≡ moves (rows_of m) o =
        λ o l. ap (λ (x : List ℕ). bit_in x MOVES o) e ∙ ap is_one (filled_from_at MOVES (move_word m) m 0 n o l (omega arith)) ∙ bit_back (moves (rows_of m) o) in
        filled_from_more MOVES (move_word m) m e
        (ew ∙ byte_bit v ∙ ap bit_of (ev ∙ ap (λ (x : Row ℕ). move_rule (map_row (bit_in m' MOVES) x)) row ∙ ap move_rule (map_row_local n (bit_in m' MOVES) (moves (rows_of m)) bits (row_of m n) low)
        ∙ sym (answer_in (rows_of m) false (λ r x. move_rule x) (kept_ordered sound.book) n (rw rows_length h) ∙ ap (λ (x : Row ℕ). move_rule (map_row (moves (rows_of m)) x)) (row_at_lem m n h))))

  pub moves_put_alike : Alike m (moves_put m)
  moves_put_alike = moves_alike (row_count m) refl

  pub moves_moving : Moving (moves_put m)
  moves_moving =
      let few = few_rows sound in
      let long = sound.book.long in
      record { right = rw (moves_count (row_count m) refl, alike_rows sound moves_put_alike) (λ r h. filled_from_at MOVES (move_word m) m 0 (row_count m) r h (omega arith)) }

  moves_before : (k : ℕ) → k < MOVES → get_or (moves_put m) k 0 ≡ get_or m k 0
  moves_before k h = filled_from_before MOVES (move_word m) m 0 (row_count m) k h

  pub moves_unused : Unused m → Unused (moves_put m)
  moves_unused =
      unused_same sound moves_put_alike
      (λ r p q. moves_before (VALUES + r) (omega arith)) (λ j p q. moves_before (TOLD + j) (omega arith))
      (λ i p q. moves_before (EARLY + i) (omega arith)) (λ i p q. moves_before (SETTLED + i) (omega arith))
      (λ r p q. filled_from_after MOVES (move_word m) m 0 (row_count m) (MOVES + r) (omega arith))
      (λ r p q. filled_from_after MOVES (move_word m) m 0 (row_count m) (LOWEST + r) (let few = few_rows sound in omega arith))

-- ---- the lowest row below each
module _ {m : List ℕ} (sound : Sound m) where
  -- as a loop finds it
  module _ (n : ℕ) {m' : List ℕ} (e : m' ≡ filled_from LOWEST (lowest (rows_of m)) m n) where
    lowest_alike : Alike m m'
    lowest_alike = rw e (alike_filled m LOWEST (lowest (rows_of m)) n (omega arith))

    pub lowest_sound : Sound m'
    lowest_sound = alike_sound sound lowest_alike

    pub lowest_count : row_count m' ≡ row_count m
    lowest_count = lowest_alike.below 0 (omega arith)

    pub lowest_more : n < row_count m → {w : ℕ} → w ≡ lowest_rule n (map_row (word_in m' LOWEST) (row_of m' n)) → set m' (LOWEST + n) w ≡ filled_from LOWEST (lowest (rows_of m)) m (n + 1)
    lowest_more h ew =
        let few = few_rows sound in
        let long = sound.book.long in
        let h' : n < row_count m' = rw lowest_count h in
        let row : row_of m' n ≡ row_of m n = sym (row_at_lem m' n h') ∙ ap (λ (b : Rows). row_at b n) (alike_rows sound lowest_alike) ∙ row_at_lem m n h in
        let low : Below n (row_of m n) = rw (row_at_lem m n h) at (kept_ordered sound.book n) in
        let words : (o : ℕ) → o < n → word_in m' LOWEST o ≡ lowest (rows_of m) o =
        λ o l. ap (λ (x : List ℕ). word_in x LOWEST o) e ∙ filled_from_at LOWEST (lowest (rows_of m)) m 0 n o l (omega arith) in
        filled_from_more LOWEST (lowest (rows_of m)) m e
        (ew ∙ ap (λ (x : Row ℕ). lowest_rule n (map_row (word_in m' LOWEST) x)) row ∙ ap (lowest_rule n) (map_row_local n (word_in m' LOWEST) (lowest (rows_of m)) words (row_of m n) low)
        ∙ sym (answer_in (rows_of m) 0 lowest_rule (kept_ordered sound.book) n (rw rows_length h) ∙ ap (λ (x : Row ℕ). lowest_rule n (map_row (lowest (rows_of m)) x)) (row_at_lem m n h)))

  pub lowest_put_alike : Alike m (lowest_put m)
  lowest_put_alike = lowest_alike (row_count m) refl

  pub lowest_founded : Founded (lowest_put m)
  lowest_founded =
      let few = few_rows sound in
      let long = sound.book.long in
      record { right = rw (lowest_count (row_count m) refl, alike_rows sound lowest_put_alike) (λ r h. filled_from_at LOWEST (lowest (rows_of m)) m 0 (row_count m) r h (omega arith)) }

  lowest_before : (k : ℕ) → k < LOWEST → get_or (lowest_put m) k 0 ≡ get_or m k 0
  lowest_before k h = filled_from_before LOWEST (lowest (rows_of m)) m 0 (row_count m) k h

  pub lowest_moving : Moving m → Moving (lowest_put m)
  lowest_moving = moving_same sound lowest_put_alike (λ r h. lowest_before (MOVES + r) (omega arith))

  pub lowest_unused : Unused m → Unused (lowest_put m)
  lowest_unused =
      unused_same sound lowest_put_alike
      (λ r p q. lowest_before (VALUES + r) (omega arith)) (λ j p q. lowest_before (TOLD + j) (omega arith))
      (λ i p q. lowest_before (EARLY + i) (omega arith)) (λ i p q. lowest_before (SETTLED + i) (omega arith)) (λ r p q. lowest_before (MOVES + r) (omega arith))
      (λ r p q. filled_from_after LOWEST (lowest (rows_of m)) m 0 (row_count m) (LOWEST + r) (omega arith))

-- ---- the values
module _ {m : List ℕ} (sound : Sound m) where
  abbrev value_word : ℕ → ℕ
  value_word r = bit_of (value_of m r)

  -- as a loop puts them
  pub values_sound : (n : ℕ) {m' : List ℕ} → m' ≡ filled_from VALUES value_word m n → Sound m'
  values_sound n e = rw e (alike_sound sound (alike_filled m VALUES value_word n (omega arith)))

  pub values_count : (n : ℕ) {m' : List ℕ} → m' ≡ filled_from VALUES value_word m n → row_count m' ≡ row_count m
  values_count n e = rw e (filled_from_before VALUES value_word m 0 n 0 (omega arith))

  pub values_more : (n : ℕ) {m' : List ℕ} → m' ≡ filled_from VALUES value_word m n → {v : Bool} → v ≡ value_of m' n → {w : ℕ} → w ≡ bool_byte v
      → set m' (VALUES + n) w ≡ filled_from VALUES value_word m (n + 1)
  values_more n {m'} e {v} ev ew =
      filled_from_more VALUES value_word m e
      (ew ∙ byte_bit v ∙ ap bit_of (ev ∙ ap (λ (x : List ℕ). value_of x n) e ∙ answer_same sound (alike_filled m VALUES value_word n (omega arith)) value n))

  -- and what they then say
  pub values_alike : Alike m (values_put m)
  values_alike = alike_filled m VALUES value_word (row_count m) (omega arith)

  pub values_valued : Valued (values_put m)
  values_valued =
      let few = few_rows sound in
      let long = sound.book.long in
      record {
        right = rw (values_count (row_count m) refl) (λ r h.
            filled_from_at VALUES value_word m 0 (row_count m) r h (omega arith) ∙ sym (ap bit_of (answer_same sound values_alike value r)));
      }

  values_after : (k : ℕ) → VALUES + row_count m ≤ k → get_or (values_put m) k 0 ≡ get_or m k 0
  values_after k h = filled_from_after VALUES value_word m 0 (row_count m) k h

  pub values_unused : Unused m → Unused (values_put m)
  values_unused =
      let few = few_rows sound in
      unused_same sound values_alike
      (λ r p q. values_after (VALUES + r) (omega arith)) (λ j p q. values_after (TOLD + j) (omega arith))
      (λ i p q. values_after (EARLY + i) (omega arith)) (λ i p q. values_after (SETTLED + i) (omega arith)) (λ r p q. values_after (MOVES + r) (omega arith)) (λ r p q. values_after (LOWEST + r) (omega arith))

  pub values_moving : Moving m → Moving (values_put m)
  values_moving = let few = few_rows sound in moving_same sound values_alike (λ r h. values_after (MOVES + r) (omega arith))

  pub values_founded : Founded m → Founded (values_put m)
  values_founded = let few = few_rows sound in founded_same sound values_alike (λ r h. values_after (LOWEST + r) (omega arith))

-- ---- what the rows are told
-- how far a loop has told them, between which rows that is something new, and the greatest count so far
pub record Telling (m : List ℕ) (n : ℕ) (m' : List ℕ) (first end most : ℕ) : Type 0 where
  pub put : m' ≡ filled_from TOLD (standing_at m) m n
  pub from : first ≡ news_from m n
  pub up_to : end ≡ news_end m n
  pub counted : most ≡ most_to m n

pub telling_start : (m : List ℕ) → Telling m 0 m 128 0 0
unfolding news_from news_end
telling_start m = record { put = refl; from = refl; up_to = refl; counted = sym (most_none m) }

-- where nothing new is told, all stays
pub told_still : (m : List ℕ) (n : ℕ) → news_end m n ≡ 0 → filled_from TOLD (standing_at m) m n ≡ m
unfolding news_end
told_still m zero e = refl
told_still m (suc j) e =
    ⊎_elim
    (λ (t : eqb (told_at m j) (standing_at m j) ≡ true).
    rw (told_still m j (rw t at e)) (ap (set m (TOLD + j)) (sym (eqb-true (told_at m j) (standing_at m j) t)) ∙ set-get_or m (TOLD + j) 0))
    (λ (t : eqb (told_at m j) (standing_at m j) ≡ false). absurd (let z : owner_at m j + 1 ≡ 0 = rw t at e in omega arith))
    (either (eqb (told_at m j) (standing_at m j)))

-- between which rows something new is told, or that it is nowhere
pub news_some : (m : List ℕ) (n : ℕ) {news : News} → Some news ≡ news_told m n → (news.first ≡ news_from m n) × (news.end ≡ news_end m n)
unfolding news_told
news_some m n {news} e =
    ⊎_elim
    (λ (z : eqb (news_end m n) 0 ≡ true). let none : Some news ≡ None = e ∙ rw z in absurd (cc))
    (λ (z : eqb (news_end m n) 0 ≡ false).
    let is : Some news ≡ Some (record { first = news_from m n; end = news_end m n }) = e ∙ rw z in
    let same : news ≡ record { first = news_from m n; end = news_end m n } = cc in
    (ap (λ (w : News). w.first) same, ap (λ (w : News). w.end) same))
    (either (eqb (news_end m n) 0))

pub news_none : (m : List ℕ) (n : ℕ) → None ≡ news_told m n → news_end m n ≡ 0
unfolding news_told
news_none m n e =
    ⊎_elim
    (λ (z : eqb (news_end m n) 0 ≡ true). eqb-true _ _ z)
    (λ (z : eqb (news_end m n) 0 ≡ false). let is : None ≡ Some (record { first = news_from m n; end = news_end m n }) = e ∙ rw z in absurd (cc))
    (either (eqb (news_end m n) 0))

module _ {m : List ℕ} (sound : Sound m) where
  module _ {n : ℕ} {m' : List ℕ} {first end most : ℕ} (t : Telling m n m' first end most) where
    alike : Alike m m'
    alike = rw t.put (alike_filled m TOLD (standing_at m) n (omega arith))

    pub telling_sound : Sound m'
    telling_sound = alike_sound sound alike

    pub telling_owner : n < temporals m → {row : ℕ} → row ≡ owner_at m' n → row < 128
    telling_owner h er =
        let few = few_sets sound in
        let rows = few_rows sound in
        let owned = sound.book.owned n h in
        let same : owner_at m' n ≡ owner_at m n = alike.below (OWNERS + n) (omega arith) in
        omega arith

    -- what is so of one more set, and how many runs it has
    module _ (h : n < temporals m) {words : List ℕ} {clock old new most' : ℕ} (ec : clock ≡ clock_of m) (ew : words ≡ slot_words m' n) (en : new ≡ standing clock (ringed words))
        (em : most' ≡ max most (length (ringed words))) (eo : old ≡ told_at m' n)
      where
        small : n < 32
        small = let f = few_sets sound in omega arith

        before : old ≡ told_at m n
        before = eo ∙ ap (λ (x : List ℕ). told_at x n) t.put ∙ filled_from_after TOLD (standing_at m) m 0 n (TOLD + n) (omega arith)

        is : new ≡ standing_at m n
        is = en ∙ ap₂ (λ (c : ℕ) (ws : List ℕ). standing c (ringed ws)) ec (ew ∙ alike_set sound alike n small)

        count_is : most' ≡ most_to m (n + 1)
        count_is = em ∙ ap₂ (λ (a : ℕ) (ws : List ℕ). max a (length (ringed ws))) t.counted (ew ∙ alike_set sound alike n small) ∙ sym (most_more m n)

        -- it was told so before
        pub telling_same : old ≡ new → Telling m (n + 1) m' first end most'
        unfolding news_from news_end
        telling_same e =
            let told : eqb (told_at m n) (standing_at m n) ≡ true = eq-eqb _ _ (sym before ∙ e ∙ is) in
            record {
              put = sym (set-get_or m' (TOLD + n) 0) ∙ filled_from_more TOLD (standing_at m) m t.put (sym eo ∙ e ∙ is);
              from = t.from ∙ sym (rw (add-one n, told));
              up_to = t.up_to ∙ sym (rw (add-one n, told));
              counted = count_is;
            }

        -- it is something new
        pub telling_new : (old ≡ new → ⊥) → {row first' end' : ℕ} → row ≡ owner_at m' n → first' ≡ min first row → end' ≡ row + 1 → Telling m (n + 1) (set m' (TOLD + n) new) first' end' most'
        unfolding news_from news_end
        telling_new ne er ef ee =
            let told : eqb (told_at m n) (standing_at m n) ≡ false = ne_eqb _ _ (λ q. ne (before ∙ q ∙ sym is)) in
            let row_is = er ∙ alike.below (OWNERS + n) (omega (arith, small)) in
            record {
              put = filled_from_more TOLD (standing_at m) m t.put is;
              from = ef ∙ ap₂ (λ (a b : ℕ). min a b) t.from row_is ∙ sym (rw (add-one n, told));
              up_to = ee ∙ ap (λ (b : ℕ). b + 1) row_is ∙ sym (rw (add-one n, told));
              counted = count_is;
            }

    -- once all are told
    pub telling_news : n ≡ temporals m → end ≡ 0 → None ≡ news_told m (temporals m)
    unfolding news_told
    telling_news e z = let none : news_end m (temporals m) ≡ 0 = ap (news_end m) (sym e) ∙ sym t.up_to ∙ z in sym (rw (eq-eqb _ _ none))

    pub telling_some : n ≡ temporals m → (end ≡ 0 → ⊥) → Some (record { first = first; end = end }) ≡ news_told m (temporals m)
    unfolding news_told
    telling_some e z =
        let from : first ≡ news_from m (temporals m) = t.from ∙ ap (news_from m) e in
        let up : end ≡ news_end m (temporals m) = t.up_to ∙ ap (news_end m) e in
        ap₂ (λ (a b : ℕ). Some (record { first = a; end = b })) from up ∙ sym (rw (ne_eqb (news_end m (temporals m)) 0 (λ q. z (up ∙ q))))

    pub telling_counted : n ≡ temporals m → set m' FULLEST most ≡ count_put (told_put m)
    telling_counted e =
        let put : m' ≡ told_put m = t.put ∙ ap (filled_from TOLD (standing_at m) m) e in
        let is : most ≡ fullest (state_of (told_put m)) =
        t.counted ∙ ap (most_to m) e ∙ most_is_fullest sound ∙ sym (ap fullest (alike_state sound (alike_filled m TOLD (standing_at m) (temporals m) (omega arith)))) in
        ap₂ (λ (x : List ℕ) (w : ℕ). set x FULLEST w) put is

  pub told_alike : Alike m (told_put m)
  told_alike = alike_filled m TOLD (standing_at m) (temporals m) (omega arith)

  pub told_told : Told (told_put m)
  told_told =
      let few = few_sets sound in
      let long = sound.book.long in
      record {
        right = rw (same_sets sound told_alike) (λ j h.
            filled_from_at TOLD (standing_at m) m 0 (temporals m) j h (omega arith) ∙ sym (standing_same sound told_alike j (omega arith)));
      }

  pub told_valued : Valued m → Valued (told_put m)
  told_valued = valued_same sound told_alike (λ r h. filled_from_before TOLD (standing_at m) m 0 (temporals m) (VALUES + r) (omega arith))

  pub told_after : (k : ℕ) → TOLD + temporals m ≤ k → get_or (told_put m) k 0 ≡ get_or m k 0
  told_after k h = filled_from_after TOLD (standing_at m) m 0 (temporals m) k h

  pub told_unused : Unused m → Unused (told_put m)
  told_unused =
      let few = few_sets sound in
      unused_same sound told_alike
      (λ r p q. filled_from_before TOLD (standing_at m) m 0 (temporals m) (VALUES + r) (omega arith)) (λ j p q. told_after (TOLD + j) (omega arith))
      (λ i p q. told_after (EARLY + i) (omega arith)) (λ i p q. told_after (SETTLED + i) (omega arith)) (λ r p q. told_after (MOVES + r) (omega arith)) (λ r p q. told_after (LOWEST + r) (omega arith))

  pub told_moving : Moving m → Moving (told_put m)
  told_moving = let few = few_sets sound in moving_same sound told_alike (λ r h. told_after (MOVES + r) (omega arith))

  pub told_founded : Founded m → Founded (told_put m)
  told_founded = let few = few_sets sound in founded_same sound told_alike (λ r h. told_after (LOWEST + r) (omega arith))

-- ---- the count
module _ {m : List ℕ} (sound : Sound m) where
  pub count_other : (k : ℕ) → k < FULLEST → get_or (count_put m) k 0 ≡ get_or m k 0
  count_other k h = get_or-set_other m FULLEST k (fullest (state_of m)) 0 (omega arith)

  pub count_alike : Alike m (count_put m)
  count_alike = record { long = length-set m FULLEST (fullest (state_of m)); below = λ i h. count_other i (omega arith) }

  pub count_ledger : SameLedger m (count_put m)
  count_ledger = record { words = λ i h. get_or-set_other m FULLEST i (fullest (state_of m)) 0 (omega arith) }

  pub count_sound : Sound (count_put m)
  count_sound = alike_sound sound count_alike

  pub count_counts : Counts (count_put m)
  count_counts =
      let long = sound.book.long in
      record { right = get_or-set_same m FULLEST (fullest (state_of m)) 0 (omega arith) ∙ sym (ap fullest (alike_state sound count_alike)) }

  pub count_valued : Valued m → Valued (count_put m)
  count_valued = valued_same sound count_alike (λ r h. count_other (VALUES + r) (omega arith))

  pub count_told : Told m → Told (count_put m)
  count_told = told_same sound count_alike (λ j h. count_other (TOLD + j) (omega arith))

  pub count_moving : Moving m → Moving (count_put m)
  count_moving = moving_same sound count_alike (λ r h. count_other (MOVES + r) (omega arith))

  pub count_founded : Founded m → Founded (count_put m)
  count_founded = founded_same sound count_alike (λ r h. count_other (LOWEST + r) (omega arith))

  pub count_answered : Answered m → Answered (count_put m)
  count_answered = answered_same sound count_alike (λ i h. count_other (EARLY + i) (omega arith)) (λ i h. count_other (SETTLED + i) (omega arith))

  pub count_unused : Unused m → Unused (count_put m)
  count_unused =
      unused_same sound count_alike
      (λ r p q. count_other (VALUES + r) (omega arith)) (λ j p q. count_other (TOLD + j) (omega arith))
      (λ i p q. count_other (EARLY + i) (omega arith)) (λ i p q. count_other (SETTLED + i) (omega arith)) (λ r p q. count_other (MOVES + r) (omega arith)) (λ r p q. count_other (LOWEST + r) (omega arith))

-- ---- the digits, which are put by what was told
module _ {m : List ℕ} (sound : Sound m) (a : ℕ) (f : ℕ → ℕ) (n : ℕ) (far : EARLY ≤ a) where
  pub digits_alike : Alike m (filled_from a f m n)
  digits_alike = alike_filled m a f n (omega arith)

  digits_told : (j : ℕ) → j < 32 → told_at (filled_from a f m n) j ≡ told_at m j
  digits_told j h = filled_from_before a f m 0 n (TOLD + j) (omega arith)

  digits_values : (r : ℕ) → r < 128 → value_at (filled_from a f m n) r ≡ value_at m r
  digits_values r h = filled_from_before a f m 0 n (VALUES + r) (omega arith)

  digits_early : (r : ℕ) → early_told (filled_from a f m n) r ≡ early_told m r
  digits_early = early_same m (filled_from a f m n) (alike_rows sound digits_alike) (alike_told sound digits_alike digits_told)

  pub digits_settled : (r : ℕ) → settled_now (filled_from a f m n) r ≡ settled_now m r
  digits_settled r = ap₂ (λ (w : ℕ) (x : Answer). cond (is_one w) x Open) (digits_alike.below 1 (omega arith)) (settled_same m (filled_from a f m n) (alike_rows sound digits_alike) (alike_told sound digits_alike digits_told) r)

  pub digits_row : (i : ℕ) → i < 32 → property_row (filled_from a f m n) i ≡ property_row m i
  digits_row = same_property sound digits_alike

  pub digits_lowest : a ≤ SETTLED → n < 33 → (r : ℕ) → lowest_at (filled_from a f m n) r ≡ lowest_at m r
  digits_lowest near few r = filled_from_after a f m 0 n (LOWEST + r) (omega arith)

-- ---- the tables are right once the digits are put where values and what was told are
module _ {m : List ℕ} (sound : Sound m) (valued : Valued m) (told : Told m) (moving : Moving m) (founded : Founded m) (counts : Counts m) (unused : Unused m) where
  abbrev early_put_lem : List ℕ
  early_put_lem = early_put m

  to_early : Alike m early_put_lem
  to_early = digits_alike sound EARLY (early_digit m) (property_count m) (omega arith)

  sound₁ : Sound early_put_lem
  sound₁ = alike_sound sound to_early

  count₁ : property_count early_put_lem ≡ property_count m
  count₁ = same_properties sound to_early

  to_settled : Alike early_put_lem (settled_put early_put_lem)
  to_settled = digits_alike sound₁ SETTLED (settled_digit early_put_lem) (property_count early_put_lem) (omega arith)

  pub asked_alike : Alike m (settled_put early_put_lem)
  asked_alike = alike_on to_early to_settled

  pub asked_ledger : SameLedger m (settled_put early_put_lem)
  asked_ledger =
      let few = few_properties sound in
      ledger_on (ledger_filled m EARLY (early_digit m) (property_count m) (omega arith)) (ledger_filled early_put_lem SETTLED (settled_digit early_put_lem) (property_count early_put_lem) (omega (arith, count₁)))

  told₁ : Told early_put_lem
  told₁ = told_same sound to_early (digits_told sound EARLY (early_digit m) (property_count m) (omega arith)) told

  told₂ : Told (settled_put early_put_lem)
  told₂ = told_same sound₁ to_settled (digits_told sound₁ SETTLED (settled_digit early_put_lem) (property_count early_put_lem) (omega arith)) told₁

  valued₂ : Valued (settled_put early_put_lem)
  valued₂ =
      valued_same sound₁ to_settled (digits_values sound₁ SETTLED (settled_digit early_put_lem) (property_count early_put_lem) (omega arith))
      (valued_same sound to_early (digits_values sound EARLY (early_digit m) (property_count m) (omega arith)) valued)

  early_word : (i : ℕ) → i < property_count m → early_at (settled_put early_put_lem) i ≡ digit_of (early_of (settled_put early_put_lem) (property_row (settled_put early_put_lem) i))
  early_word i h =
      let few = few_properties sound in
      let long = sound.book.long in
      filled_from_before SETTLED (settled_digit early_put_lem) early_put_lem 0 (property_count early_put_lem) (EARLY + i) (omega arith)
      ∙ filled_from_at EARLY (early_digit m) m 0 (property_count m) i h (omega arith)
      ∙ ap digit_of (told_early m sound told.right (property_row m i) ∙ sym (answer_same sound asked_alike early (property_row m i)) ∙ ap (early_of (settled_put early_put_lem)) (sym (same_property sound asked_alike i (omega arith))))

  settled_word : (i : ℕ) → i < property_count m → settled_at (settled_put early_put_lem) i ≡ digit_of (settled_of (settled_put early_put_lem) (property_row (settled_put early_put_lem) i))
  settled_word i h =
      let few = few_properties sound in
      let long = sound₁.book.long in
      let h₁ : i < property_count early_put_lem = rw count₁ h in
      filled_from_at SETTLED (settled_digit early_put_lem) early_put_lem 0 (property_count early_put_lem) i h₁ (omega (arith, count₁))
      ∙ ap digit_of (told_settled early_put_lem sound₁ told₁.right (property_row early_put_lem i) ∙ sym (answer_same sound₁ to_settled settled (property_row early_put_lem i)) ∙ ap (settled_of (settled_put early_put_lem)) (sym (same_property sound₁ to_settled i (omega arith))))

  unused₂ : Unused (settled_put early_put_lem)
  unused₂ =
      let few = few_properties sound in
      let after₁ : (k : ℕ) → EARLY + property_count m ≤ k → get_or early_put_lem k 0 ≡ get_or m k 0 = λ k h. filled_from_after EARLY (early_digit m) m 0 (property_count m) k h in
      let before₂ : (k : ℕ) → k < SETTLED → get_or (settled_put early_put_lem) k 0 ≡ get_or early_put_lem k 0 = λ k h. filled_from_before SETTLED (settled_digit early_put_lem) early_put_lem 0 (property_count early_put_lem) k h in
      let before₁ : (k : ℕ) → k < EARLY → get_or early_put_lem k 0 ≡ get_or m k 0 = λ k h. filled_from_before EARLY (early_digit m) m 0 (property_count m) k h in
      unused_same sound asked_alike
      (λ r p q. before₂ (VALUES + r) (omega arith) ∙ before₁ (VALUES + r) (omega arith))
      (λ j p q. before₂ (TOLD + j) (omega arith) ∙ before₁ (TOLD + j) (omega arith))
      (λ i p q. before₂ (EARLY + i) (omega arith) ∙ after₁ (EARLY + i) (omega arith))
      (λ i p q. filled_from_after SETTLED (settled_digit early_put_lem) early_put_lem 0 (property_count early_put_lem) (SETTLED + i) (omega (arith, count₁)) ∙ after₁ (SETTLED + i) (omega arith))
      (λ r p q. filled_from_after SETTLED (settled_digit early_put_lem) early_put_lem 0 (property_count early_put_lem) (MOVES + r) (omega (arith, count₁)) ∙ after₁ (MOVES + r) (omega arith))
      (λ r p q. filled_from_after SETTLED (settled_digit early_put_lem) early_put_lem 0 (property_count early_put_lem) (LOWEST + r) (omega (arith, count₁)) ∙ after₁ (LOWEST + r) (omega arith))
      unused

  moving₂ : Moving (settled_put early_put_lem)
  moving₂ =
      let few = few_properties sound in
      moving_same sound asked_alike (λ r h.
      filled_from_after SETTLED (settled_digit early_put_lem) early_put_lem 0 (property_count early_put_lem) (MOVES + r) (omega (arith, count₁))
      ∙ filled_from_after EARLY (early_digit m) m 0 (property_count m) (MOVES + r) (omega arith)) moving

  founded₂ : Founded (settled_put early_put_lem)
  founded₂ =
      let few = few_properties sound in
      founded_same sound asked_alike (λ r h.
      filled_from_after SETTLED (settled_digit early_put_lem) early_put_lem 0 (property_count early_put_lem) (LOWEST + r) (omega (arith, count₁))
      ∙ filled_from_after EARLY (early_digit m) m 0 (property_count m) (LOWEST + r) (omega arith)) founded

  counts₂ : Counts (settled_put early_put_lem)
  counts₂ =
      let few = few_properties sound in
      counts_same sound asked_alike
      (filled_from_after SETTLED (settled_digit early_put_lem) early_put_lem 0 (property_count early_put_lem) FULLEST (omega (arith, count₁))
      ∙ filled_from_after EARLY (early_digit m) m 0 (property_count m) FULLEST (omega arith)) counts

  pub asked_tables : Tables (settled_put early_put_lem)
  asked_tables =
      let count : property_count (settled_put early_put_lem) ≡ property_count m = same_properties sound asked_alike in
      record {
        valued = valued₂;
        told = told₂;
        answered = record { early = rw count early_word; settled = rw count settled_word };
        moving = moving₂;
        founded = founded₂;
        counts = counts₂;
        unused = unused₂;
      }

-- ---- all of them, one after the other
pub told_sound : {m : List ℕ} → Sound m → Sound (count_put (told_put m))
told_sound {m} sound = count_sound (alike_sound sound (told_alike sound))

pub values_put_sound : {m : List ℕ} → Sound m → Sound (values_put m)
values_put_sound {m} sound = values_sound sound (row_count m) refl

pub moves_put_sound : {m : List ℕ} → Sound m → Sound (moves_put m)
moves_put_sound {m} sound = alike_sound sound (moves_put_alike sound)

pub lowest_put_sound : {m : List ℕ} → Sound m → Sound (lowest_put m)
lowest_put_sound {m} sound = alike_sound sound (lowest_put_alike sound)

pub worked_founded : {m : List ℕ} → Sound m → Founded (count_put (told_put (values_put (lowest_put (moves_put m)))))
worked_founded sound =
    let sound₀ = moves_put_sound sound in
    let sound₁ = lowest_put_sound sound₀ in
    let sound₂ = values_put_sound sound₁ in
    count_founded (alike_sound sound₂ (told_alike sound₂)) (told_founded sound₂ (values_founded sound₁ (lowest_founded sound₀)))

-- what is told and counted, and the digits, put where the rest is right
pub told_and_asked : {m : List ℕ} → Sound m → Valued m → Moving m → Founded m → Unused m → {m' : List ℕ} → m' ≡ settled_put (early_put (count_put (told_put m))) → Alike m m' × Tables m' × SameLedger m m'
told_and_asked {m} sound valued moving founded unused e =
    let sound₁ = alike_sound sound (told_alike sound) in
    let sound₂ = count_sound sound₁ in
    let valued₂ = count_valued sound₁ (told_valued sound valued) in
    let told₂ = count_told sound₁ (told_told sound) in
    let moving₂ = count_moving sound₁ (told_moving sound moving) in
    let founded₂ = count_founded sound₁ (told_founded sound founded) in
    let counts₂ = count_counts sound₁ in
    let unused₂ = count_unused sound₁ (told_unused sound unused) in
    let few = few_sets sound in
    rw e (
      alike_on (told_alike sound) (alike_on (count_alike sound₁) (asked_alike sound₂ valued₂ told₂ moving₂ founded₂ counts₂ unused₂)),
      asked_tables sound₂ valued₂ told₂ moving₂ founded₂ counts₂ unused₂,
      ledger_on (ledger_filled m TOLD (standing_at m) (temporals m) (omega arith)) (ledger_on (count_ledger sound₁) (asked_ledger sound₂ valued₂ told₂ moving₂ founded₂ counts₂ unused₂)),
    )

pub worked_out : {m : List ℕ} → Sound m → Unused m
    → let m' = settled_put (early_put (count_put (told_put (values_put (lowest_put (moves_put m)))))) in Alike m m' × Tables m' × SameLedger m m'
worked_out {m} sound unused =
    let sound₀ = moves_put_sound sound in
    let sound₁ = lowest_put_sound sound₀ in
    let to₁ = alike_on (moves_put_alike sound) (alike_on (lowest_put_alike sound₀) (values_alike sound₁)) in
    let t =
    told_and_asked (values_put_sound sound₁) (values_valued sound₁) (values_moving sound₁ (lowest_moving sound₀ (moves_moving sound))) (values_founded sound₁ (lowest_founded sound₀))
    (values_unused sound₁ (lowest_unused sound₀ (moves_unused sound unused))) refl in
    let few = few_rows sound in
    let few₀ = few_rows sound₀ in
    let few₁ = few_rows sound₁ in
    let same₀ = ledger_filled m MOVES (move_word m) (row_count m) (omega arith) in
    let same₁ = ledger_filled (moves_put m) LOWEST (lowest (rows_of (moves_put m))) (row_count (moves_put m)) (omega arith) in
    let same₂ = ledger_filled (lowest_put (moves_put m)) VALUES (value_word sound₁) (row_count (lowest_put (moves_put m))) (omega arith) in
    (alike_on to₁ t.0, t.1, ledger_on same₀ (ledger_on same₁ (ledger_on same₂ t.2)))
