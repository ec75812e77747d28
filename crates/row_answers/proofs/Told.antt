-- Where each temporal row was told what is so of its set, the answers by what was told are those of the state. Assumes nothing.
use Prim.Native.Nat.{ℕ, zero, suc, ◌+◌, ◌*◌, ◌<◌, ◌≤◌}
use native.Mathlib.Omega.{arith}
use native.Mathlib.Decide.{dec_lt}
use mathlib.Core.Path.{◌≡◌, refl, sym, ap, ap₂, subst, ◌∙◌}
use mathlib.Core.Bool.{Bool, true, false, cond}
use mathlib.Core.List.{List}
use lib.ListN.{length}
use borrow.Author.Tests.{eqb-true}
use lib.Dec.{eqb}
use Rattle.numbers.specs.Limits.{MAX}
use Rattle.numset.specs.Runs.{Runs, covers, Canonical}
use Rattle.ring.specs.Ring.{ringed}
use Rattle.pmtl.specs.declared.Answer.{Answer}
use Rattle.pmtl.specs.declared.Answer.TheVariants.{Open}
use Rattle.pmtl.specs.Book.{Row, map_row, row_at, lowest}
use Rattle.pmtl.specs.Book.Row.{never, always, atom, conj, disj, neg, implies, historically, once, since}
use Rattle.pmtl.specs.Sets.{gone}
use Rattle.pmtl.specs.Monitor.{set_at}
use Rattle.pmtl.specs.Early.{early_rule, early}
use Rattle.pmtl.specs.Settled.{settled_true, settled_false, settled_rule, settled}
use Rattle.pmtl.proofs.Table.{answer_local, row_out, Agree}
use Rattle.pmtl.proofs.Lowest.{answer_between}
use Rattle.pmtl.proofs.Settled.{covers_not_gone}
use Rattle.memory.specs.Memory.{row_count, begun_word, clock_of, temporals, kind_at, arg_at, lower_at, upper_at, slot_at, slot_words, told_at, row_of, rows_of, is_one, state_of}
use Rattle.memory.specs.Tables.{COVERS, GONE, standing, early_of, settled_of}
use Rattle.memory.specs.Layout.{ROWS, ROW}
use Rattle.memory.specs.Kept.{BookKept, Sound}
use Rattle.memory.specs.Alike.{Alike}
use Rattle.book.specs.Rows.{row_from}
use Rattle.row_answers.specs.Told.{covers_in, gone_in, early_told, settled_told}
use Rattle.memory.proofs.Rows.{rows_length, row_at_lem, kept_ordered}
use Rattle.memory.proofs.Sets.{owner_set, set_canonical}

-- ---- what a word says
-- of no set does it say both that it covers and that it is gone
pub not_both : (m : List ℕ) (r : ℕ) → covers_in m r ≡ true → gone_in m r ≡ false
not_both m r h = ap (λ x. eqb x GONE) (eqb-true (told_at m (slot_at m r)) COVERS h)

says_covers : (covered none : Bool) → eqb (cond covered COVERS (cond none GONE 0)) COVERS ≡ covered
says_covers true none = refl
says_covers false true = refl
says_covers false false = refl

says_gone : (covered none : Bool) → (covered ≡ true → none ≡ true → ⊥) → eqb (cond covered COVERS (cond none GONE 0)) GONE ≡ none
says_gone true true h = absurd (h refl refl)
says_gone true false h = refl
says_gone false true h = refl
says_gone false false h = refl

standing_covers : (c : ℕ) (s : Runs) → eqb (standing c s) COVERS ≡ covers c s
unfolding standing
standing_covers c s = says_covers (covers c s) (gone c s)

standing_gone : (c : ℕ) (s : Runs) → Canonical s → c ≤ MAX → eqb (standing c s) GONE ≡ gone c s
unfolding standing
standing_gone c s w small = says_gone (covers c s) (gone c s) (covers_not_gone c s w small)

-- ---- a rule looks at the set of a temporal row only
abbrev Timed : {X : Type 0} → Row X → Type 0
Timed never = ⊥
Timed always = ⊥
Timed (atom a) = ⊥
Timed (conj xs) = ⊥
Timed (disj xs) = ⊥
Timed (neg x) = ⊥
Timed (implies x y) = ⊥
Timed (historically g x) = Unit {0}
Timed (once g x) = Unit {0}
Timed (since g x y) = Unit {0}

module _ {A : Type 0} (f : ℕ → A) where
  timed_map : (row : Row ℕ) → Timed (map_row f row) → Timed row
  timed_map never h = h
  timed_map always h = h
  timed_map (atom a) h = h
  timed_map (conj xs) h = h
  timed_map (disj xs) h = h
  timed_map (neg x) h = h
  timed_map (implies x y) h = h
  timed_map (historically g x) h = h
  timed_map (once g x) h = h
  timed_map (since g x y) h = h

timed_from : (kind arg lower upper : ℕ) (os : List ℕ) → Timed (row_from kind arg lower upper os) → 7 ≤ kind
unfolding row_from
timed_from zero arg lower upper os h = absurd h
timed_from (suc zero) arg lower upper os h = absurd h
timed_from (suc (suc zero)) arg lower upper os h = absurd h
timed_from (suc (suc (suc zero))) arg lower upper os h = absurd h
timed_from (suc (suc (suc (suc zero)))) arg lower upper os h = absurd h
timed_from (suc (suc (suc (suc (suc zero))))) arg lower upper os h = absurd h
timed_from (suc (suc (suc (suc (suc (suc zero)))))) arg lower upper os h = absurd h
timed_from (suc (suc (suc (suc (suc (suc (suc k))))))) arg lower upper os h = omega arith

timed_at : (m : List ℕ) (o : ℕ) → Timed (row_at (rows_of m) o) → (o < row_count m) × (7 ≤ kind_at m o)
unfolding row_of
timed_at m o h = go (dec_lt o (row_count m))
  where
    go : Dec (o < row_count m) → (o < row_count m) × (7 ≤ kind_at m o)
    go (yes l) = (l, timed_from (kind_at m o) (arg_at m o) (lower_at m o) (upper_at m o) _ (subst Timed (row_at_lem m o l) h))
    go (no l) = absurd (subst Timed (row_out (rows_of m) o (omega (arith, rows_length m))) h)

same_early : (row : Row Answer) {covers covers' : Bool} → (Timed row → covers ≡ covers') → early_rule covers row ≡ early_rule covers' row
unfolding early_rule
same_early never h = refl
same_early always h = refl
same_early (atom a) h = refl
same_early (conj xs) h = refl
same_early (disj xs) h = refl
same_early (neg x) h = refl
same_early (implies x y) h = refl
same_early (historically g x) h = ap (λ c. early_rule c (historically g x)) (h tt)
same_early (once g x) h = ap (λ c. early_rule c (once g x)) (h tt)
same_early (since g x y) h = ap (λ c. early_rule c (since g x y)) (h tt)

same_settled : (row : Row Answer) {covers covers' gone gone' : Bool} → (Timed row → (covers ≡ covers') × (gone ≡ gone')) → settled_rule covers gone row ≡ settled_rule covers' gone' row
unfolding settled_true settled_false
same_settled never h = refl
same_settled always h = refl
same_settled (atom a) h = refl
same_settled (conj xs) h = refl
same_settled (disj xs) h = refl
same_settled (neg x) h = refl
same_settled (implies x y) h = refl
same_settled (historically g x) h = ap₂ (λ c n. settled_rule c n (historically g x)) (h tt).0 (h tt).1
same_settled (once g x) h = ap₂ (λ c n. settled_rule c n (once g x)) (h tt).0 (h tt).1
same_settled (since g x y) h = ap₂ (λ c n. settled_rule c n (since g x y)) (h tt).0 (h tt).1

-- ---- the answers of a row
module _ (m : List ℕ) (sound : Sound m) (told : (j : ℕ) → j < temporals m → told_at m j ≡ standing (clock_of m) (ringed (slot_words m j))) where
  -- a temporal row was told of its set
  told_of : (o : ℕ) → o < row_count m → 7 ≤ kind_at m o → told_at m (slot_at m o) ≡ standing (clock_of m) (set_at (state_of m) o)
  told_of o h k =
      let row = sound.book.rows o h in
      told (slot_at m o) (row.slot k)
      ∙ ap (standing (clock_of m)) (sym (owner_set m sound (slot_at m o) (row.slot k)) ∙ ap (set_at (state_of m)) (row.owner k))

  covers_told : (o : ℕ) → o < row_count m → 7 ≤ kind_at m o → covers_in m o ≡ covers (clock_of m) (set_at (state_of m) o)
  covers_told o h k = ap (λ x. eqb x COVERS) (told_of o h k) ∙ standing_covers (clock_of m) (set_at (state_of m) o)

  gone_told : (o : ℕ) → o < row_count m → 7 ≤ kind_at m o → gone_in m o ≡ gone (clock_of m) (set_at (state_of m) o)
  gone_told o h k =
      ap (λ x. eqb x GONE) (told_of o h k)
      ∙ standing_gone (clock_of m) (set_at (state_of m) o) (set_canonical m sound o) (omega (arith, sound.clock))

  pub told_early : (r : ℕ) → early_told m r ≡ early_of m r
  unfolding early state_of
  told_early r =
      answer_local (rows_of m) Open _ _ r λ o l f.
      same_early (map_row f (row_at (rows_of m) o))
      (λ h. let t = timed_at m o (timed_map f (row_at (rows_of m) o) h) in covers_told o t.0 t.1)

  -- open before the first accepted call
  pub told_settled : (r : ℕ) → cond (is_one (begun_word m)) (settled_told m r) Open ≡ settled_of m r
  unfolding settled state_of
  told_settled r =
      ap (λ x. cond (is_one (begun_word m)) x Open)
      (answer_local (rows_of m) Open
      (λ n row. settled_rule (covers_in m n) (gone_in m n) row)
      (λ n row. settled_rule (covers (clock_of m) (set_at (state_of m) n)) (gone (clock_of m) (set_at (state_of m) n)) row)
      r λ o l f.
      same_settled (map_row f (row_at (rows_of m) o))
      (λ h. let t = timed_at m o (timed_map f (row_at (rows_of m) o) h) in (covers_told o t.0 t.1, gone_told o t.0 t.1)))

-- ---- memories with the same rows, whose temporal rows were told the same, answer the same by it
module _ (m m' : List ℕ) where
  abbrev SameTold : ℕ → Type 0
  SameTold o = o < row_count m → 7 ≤ kind_at m o → told_at m' (slot_at m' o) ≡ told_at m (slot_at m o)

  early_agree : (o : ℕ) → SameTold o → Agree (rows_of m) Open (λ n row. early_rule (covers_in m' n) row) (λ n row. early_rule (covers_in m n) row) o
  early_agree o same f =
      same_early (map_row f (row_at (rows_of m) o))
      (λ h. let t = timed_at m o (timed_map f (row_at (rows_of m) o) h) in ap (λ x. eqb x COVERS) (same t.0 t.1))

  settled_agree : (o : ℕ) → SameTold o → Agree (rows_of m) Open (λ n row. settled_rule (covers_in m' n) (gone_in m' n) row) (λ n row. settled_rule (covers_in m n) (gone_in m n) row) o
  settled_agree o same f =
      same_settled (map_row f (row_at (rows_of m) o))
      (λ h. let t = timed_at m o (timed_map f (row_at (rows_of m) o) h) in let e = same t.0 t.1 in (ap (λ x. eqb x COVERS) e, ap (λ x. eqb x GONE) e))

module _ (m m' : List ℕ) (rows : rows_of m' ≡ rows_of m) (same : (o : ℕ) → o < row_count m → 7 ≤ kind_at m o → told_at m' (slot_at m' o) ≡ told_at m (slot_at m o)) where
  pub early_same : (r : ℕ) → early_told m' r ≡ early_told m r
  early_same r = rw rows (answer_local (rows_of m) Open _ _ r λ o l. early_agree m m' o (same o))

  pub settled_same : (r : ℕ) → settled_told m' r ≡ settled_told m r
  settled_same r =
      rw rows
      (answer_local (rows_of m) Open (λ n row. settled_rule (covers_in m' n) (gone_in m' n) row) (λ n row. settled_rule (covers_in m n) (gone_in m n) row) r λ o l.
      settled_agree m m' o (same o))

-- and of one row, where the temporal rows from the lowest below it up to it were told the same
module _ (m m' : List ℕ) (kept : BookKept m) (rows : rows_of m' ≡ rows_of m) (r : ℕ) (inside : r < row_count m)
    (same : (o : ℕ) → lowest (rows_of m) r ≤ o → o ≤ r → o < row_count m → 7 ≤ kind_at m o → told_at m' (slot_at m' o) ≡ told_at m (slot_at m o))
  where
    in_rows : r < length (rows_of m)
    in_rows = let e = rows_length m in omega arith

    pub early_between : early_told m' r ≡ early_told m r
    early_between = rw rows (answer_between (rows_of m) (kept_ordered kept) Open _ _ r in_rows λ o lo hi. early_agree m m' o (same o lo hi))

    pub settled_between : settled_told m' r ≡ settled_told m r
    settled_between =
        rw rows
        (answer_between (rows_of m) (kept_ordered kept) Open (λ n row. settled_rule (covers_in m' n) (gone_in m' n) row) (λ n row. settled_rule (covers_in m n) (gone_in m n) row) r in_rows λ o lo hi.
        settled_agree m m' o (same o lo hi))

-- as those that differ in other tables alone
pub alike_told : {m m' : List ℕ} → Sound m → Alike m m' → ((j : ℕ) → j < 32 → told_at m' j ≡ told_at m j) → (o : ℕ) → o < row_count m → 7 ≤ kind_at m o → told_at m' (slot_at m' o) ≡ told_at m (slot_at m o)
alike_told {m} {m'} sound alike same o h k =
    let few = sound.book.few in
    let few-slots = sound.book.temporal_few in
    let inside = (sound.book.rows o h).slot k in
    ap (told_at m') (alike.below (ROWS + ROW * o + 5) (omega arith)) ∙ same (slot_at m o) (omega arith)
