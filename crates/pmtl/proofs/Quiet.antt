-- A monitor that rests: up to a time that its sets tell, a time call is accepted and moves the clock alone, in either way of monitoring. Assumes nothing.
use Prim.Native.Nat.{ℕ, zero, suc, ◌+◌, ◌≤◌, ◌<◌, min, max}
use native.Mathlib.Omega.{arith}
use mathlib.Core.Path.{◌≡◌, refl, sym, ap, ap₂, subst, ◌∙◌}
use mathlib.Core.Logic.{⊎_elim}
use mathlib.Core.Bool.{Bool, true, false, cond, not, true≢false}
use mathlib.Core.List.{List, [], ◌∷◌}
use lib.ListN.{length, get_or}
use lib.Seq.{ext_get_or}
use lib.Dec.{eqb}
use borrow.Author.Tests.{le-ltb, lt-ltb, ltb-true, eq-eqb}
use Rattle.numbers.specs.Limits.{MAX, LAST_TIME}
use Rattle.numbers.specs.Refusals.{ACCEPTED, NO_ROOM}
use Rattle.lists.proofs.Tests.{lt_or_ge, clash}
use Rattle.numset.specs.Runs.{Runs, run, has, kept, union, insert, covers, Canonical}
use Rattle.numset.specs.Until.{rests_until}
use Rattle.numset.proofs.Laws.{in_or_out, inside, outside_above, outside_below, newest_in, above_out}
use Rattle.numset.proofs.Union.{union_some, union_has, union_canonical}
use Rattle.numset.proofs.Unique.{unique}
use Rattle.numset.proofs.Until.{not_ended, until_kept, until_has, until_covers, until_again}
use Rattle.pmtl.specs.Book.{Range, start, stop, Row, map_row, Rows, row_at, Ordered}
use Rattle.pmtl.specs.Book.Row.{never, always, atom, conj, disj, neg, implies, historically, once, since}
use Rattle.pmtl.specs.Sets.{gone, stays_if, added_if, renewed, lasted, Way, ordinary, lasting, renewed_in, set_rule_by}
use Rattle.pmtl.specs.Quiet.{steady, until_set, until_row, until_to, quiet_until, moved_to, Ranged, RowRanged}
use Rattle.pmtl.specs.declared.Answer.TheVariants.{Open}
use Rattle.pmtl.specs.Monitor.{Snap, State, set_at, value, step_by, step_in}
use Rattle.pmtl.specs.Early.{early_rule, early}
use Rattle.pmtl.specs.Settled.{settled_rule, settled}
use Rattle.pmtl.specs.Calls.{time, state, stamped, timed, stated, time_refusal, state_refusal, first_of, refusal, crowded, crowds, Outcome, play, call}
use Rattle.pmtl.specs.Again.{unchanged}
use Rattle.pmtl.proofs.Table.{by_rows, map_row_local, row_out, answer_local}
use Rattle.pmtl.proofs.Answers.{step_sets_by, set_fix_by, value_local}
use Rattle.pmtl.proofs.Renewed.{renewed_has, lasted_now}
use Rattle.pmtl.proofs.Calls.{timely, steps, accepts_call}
use Rattle.pmtl.proofs.Doubled.{Left, not_refused}

-- ---- ranges
module _ (g : Range) (c : ℕ) where
  stop_unbounded : eqb g.upper MAX ≡ true → stop g c ≡ MAX
  unfolding stop
  stop_unbounded e = rw e

  stop_bounded : eqb g.upper MAX ≡ false → stop g c ≡ c + g.upper
  unfolding stop
  stop_bounded e = rw e

  not_empty : Ranged g → c ≤ LAST_TIME → start g c ≤ stop g c
  not_empty ok small = go (eqb g.upper MAX) refl
    where
      go : (z : Bool) → eqb g.upper MAX ≡ z → start g c ≤ stop g c
      go true e = let q = stop_unbounded e in omega arith
      go false e = let q = stop_bounded e in omega arith

-- ---- a union that adds nothing: the newest run has it already
union_had : (a l u : ℕ) (rs : Runs) → Canonical (run l u ∷ rs) → l ≤ a → MAX ≤ u → union a MAX (run l u ∷ rs) ≡ run l u ∷ rs
union_had a l u rs ok low high =
    unique (union a MAX (run l u ∷ rs)) (run l u ∷ rs) (union_canonical a MAX (run l u ∷ rs) ok) ok (λ i.
    union_has a MAX (run l u ∷ rs) i ok ∙
    in_or_out a MAX i _
    (λ p q. rw (inside a MAX i p q) (sym (newest_in l u rs i (omega arith) (omega arith))))
    (λ p. rw (outside_above a MAX i p))
    (λ p. rw (outside_below a MAX i p)))

-- ---- the newest run of a set
low_of : Runs → ℕ
low_of [] = 0
low_of (run l u ∷ rs) = l

high_of : Runs → ℕ
high_of [] = 0
high_of (run l u ∷ rs) = u

alone : (l u : ℕ) → l ≤ u → union l u [] ≡ run l u ∷ []
unfolding insert
alone l u h = union_some l u [] h

-- ---- one set
module _ (g : Range) (ranged : Ranged g) (c t : ℕ) (up : c < t) (last : t ≤ LAST_TIME) where
  small : c ≤ LAST_TIME
  small = omega arith

  -- with no runs nothing is added
  none_added : (k x : Bool) → renewed k x g c [] ≡ [] → x ≡ false
  unfolding Canonical has
  none_added k false rest = refl
  none_added k true rest =
      let h = renewed_has k true g c [] tt (start g c) (omega arith) in
      absurd (clash (rw (rest, inside (start g c) (stop g c) (start g c) (omega arith) (not_empty g c ranged small)) at h) refl)

  empty_stays : (way : Way) (k x : Bool) → x ≡ false → renewed_in way c k x g t [] ≡ []
  unfolding renewed lasted added_if stays_if kept
  empty_stays way k true e = absurd (true≢false e)
  empty_stays ordinary true false e = refl
  empty_stays ordinary false false e = refl
  empty_stays lasting true false e = refl
  empty_stays lasting false false e = refl

  module _ (l u : ℕ) (rs : Runs) (ok : Canonical (run l u ∷ rs)) where
    abbrev s : Runs
    s = run l u ∷ rs

    steady_begins : steady c g l u ≡ true → eqb g.upper MAX ≡ true → l < c + g.lower
    unfolding steady
    steady_begins e z = ltb-true l (c + g.lower) (rw z at e)

    steady_ends : steady c g l u ≡ true → eqb g.upper MAX ≡ false → u < c + g.upper
    unfolding steady
    steady_ends e z = ltb-true u (c + g.upper) (rw z at e)

    -- one that is dropped is not steady
    not_dropped : steady c g l u ≡ true → (x : Bool) → renewed false x g c s ≡ s → ⊥
    unfolding renewed added_if stays_if high_of low_of
    not_dropped e false rest = let n = ap (length) rest in omega arith
    not_dropped e true rest = go (eqb g.upper MAX) refl
      where
        made : run (start g c) (stop g c) ∷ [] ≡ s
        made = sym (alone (start g c) (stop g c) (not_empty g c ranged small)) ∙ rest

        go : (z : Bool) → eqb g.upper MAX ≡ z → ⊥
        go true z = let n : start g c ≡ l = ap low_of made in let m = steady_begins e z in omega arith
        go false z = let n : stop g c ≡ u = ap high_of made in let m = steady_ends e z in let q = stop_bounded g c z in omega arith

    -- where it adds, it has the last instant of the range
    reaches : renewed true true g c s ≡ s → stop g c ≤ u
    reaches rest =
        ⊎_elim
        (λ (p : u < stop g c).
        let b = not_empty g c ranged small in
        let h = renewed_has true true g c s ok (stop g c) (omega arith) in
        absurd (clash (sym (ap (λ (q : Runs). has q (stop g c)) rest) ∙ h ∙ rw (inside (start g c) (stop g c) (stop g c) b (omega arith))) (above_out l u rs ok (stop g c) p)))
        (λ p. p)
        (lt_or_ge u (stop g c))

    module _ (steadily : steady c g l u ≡ true) (until : t ≤ rests_until c s) where
      keeps : kept t s ≡ s
      keeps = until_kept c t (omega arith) s ok until

      -- counted from any instant after the clock
      adds_nothing : (from : ℕ) → c ≤ from → renewed true true g c s ≡ s → union (start g from) (stop g t) (kept t s) ≡ s
      adds_nothing from h rest = go (eqb g.upper MAX) refl
        where
          go : (z : Bool) → eqb g.upper MAX ≡ z → union (start g from) (stop g t) (kept t s) ≡ s
          go true z =
              let m = steady_begins steadily z in
              let n = reaches rest in
              let q = stop_unbounded g c z in
              ap₂ (λ (e : ℕ) (p : Runs). union (start g from) e p) (stop_unbounded g t z) keeps ∙ union_had (start g from) l u rs ok (omega arith) (omega arith)
          go false z = let m = steady_ends steadily z in let n = reaches rest in let q = stop_bounded g c z in absurd (omega arith)

      run_stays : (way : Way) (k x : Bool) → renewed k x g c s ≡ s → renewed_in way c k x g t s ≡ s
      unfolding renewed lasted added_if stays_if
      run_stays way false x rest = absurd (not_dropped steadily x rest)
      run_stays ordinary true false rest = keeps
      run_stays lasting true false rest = keeps
      run_stays ordinary true true rest = adds_nothing t (omega arith) rest
      run_stays lasting true true rest = adds_nothing (min (c + 1) t) (omega arith) rest

  -- a set up to its bound
  bound_steady : (l u : ℕ) (rs : Runs) → t ≤ until_set c g (run l u ∷ rs) → (steady c g l u ≡ true) × (t ≤ rests_until c (run l u ∷ rs))
  unfolding until_set
  bound_steady l u rs = go (steady c g l u) refl
    where
      go : (z : Bool) → steady c g l u ≡ z → t ≤ cond z (rests_until c (run l u ∷ rs)) c → (z ≡ true) × (t ≤ rests_until c (run l u ∷ rs))
      go true e h = (refl, h)
      go false e h = absurd (omega arith)

  bound_rests : (s : Runs) → t ≤ until_set c g s → t ≤ rests_until c s
  unfolding rests_until
  bound_rests [] h = omega arith
  bound_rests (run l u ∷ rs) h = (bound_steady l u rs h).1

  set_stays : (way : Way) (s : Runs) → Canonical s → t ≤ until_set c g s → (k x : Bool) → renewed k x g c s ≡ s → renewed_in way c k x g t s ≡ s
  set_stays way [] ok h k x rest = empty_stays way k x (none_added k x rest)
  set_stays way (run l u ∷ rs) ok h k x rest = let p = bound_steady l u rs h in run_stays l u rs ok p.0 p.1 way k x rest

  -- and its bound is what it was
  steady_still : (l u : ℕ) → steady c g l u ≡ true → steady t g l u ≡ true
  unfolding steady
  steady_still l u e = go (eqb g.upper MAX) refl
    where
      go : (z : Bool) → eqb g.upper MAX ≡ z → steady t g l u ≡ true
      go true z = let h = ltb-true l (c + g.lower) (rw z at e) in rw z (lt-ltb l (t + g.lower) (omega arith))
      go false z = let h = ltb-true u (c + g.upper) (rw z at e) in rw z (lt-ltb u (t + g.upper) (omega arith))

  bound_stays : (s : Runs) → t ≤ until_set c g s → until_set t g s ≡ until_set c g s
  unfolding until_set
  bound_stays [] h = refl
  bound_stays (run l u ∷ rs) h =
      let p = bound_steady l u rs h in
      rw (steady_still l u p.0, p.0) (until_again c t (omega arith) (run l u ∷ rs) p.1)

-- where no time passes the two ways are one
in_now : (way : Way) (c : ℕ) (k x : Bool) (g : Range) (s : Runs) → renewed_in way c k x g c s ≡ renewed k x g c s
in_now ordinary c k x g s = refl
in_now lasting c k x g s = lasted_now c k x g c s (omega arith)

-- ---- one row
module _ (c t : ℕ) (up : c < t) (last : t ≤ LAST_TIME) (way : Way) (s : Runs) (f : ℕ → Bool) where
  -- a row with no set, which is at rest, has no runs
  bare : [] ≡ s → t ≤ rests_until c s
  unfolding rests_until
  bare e = subst (λ (q : Runs). t ≤ rests_until c q) e (omega arith)

  row_rests : (row : Row ℕ) → RowRanged row → set_rule_by (renewed_in way c) c s (map_row f row) ≡ s → t ≤ until_row c s row → t ≤ rests_until c s
  unfolding set_rule_by until_row
  row_rests never ok rest h = bare rest
  row_rests always ok rest h = bare rest
  row_rests (atom a) ok rest h = bare rest
  row_rests (conj os) ok rest h = bare rest
  row_rests (disj os) ok rest h = bare rest
  row_rests (neg o) ok rest h = bare rest
  row_rests (implies x y) ok rest h = bare rest
  row_rests (historically g o) ok rest h = bound_rests g ok c t up last s h
  row_rests (once g o) ok rest h = bound_rests g ok c t up last s h
  row_rests (since g x y) ok rest h = bound_rests g ok c t up last s h

  row_stays : Canonical s → (row : Row ℕ) → RowRanged row → set_rule_by (renewed_in way c) c s (map_row f row) ≡ s → t ≤ until_row c s row
      → set_rule_by (renewed_in way c) t s (map_row f row) ≡ s
  unfolding set_rule_by until_row
  row_stays w never ok rest h = rest
  row_stays w always ok rest h = rest
  row_stays w (atom a) ok rest h = rest
  row_stays w (conj os) ok rest h = rest
  row_stays w (disj os) ok rest h = rest
  row_stays w (neg o) ok rest h = rest
  row_stays w (implies x y) ok rest h = rest
  row_stays w (historically g o) ok rest h = set_stays g ok c t up last way s w h true (not (f o)) (sym (in_now way c true (not (f o)) g s) ∙ rest)
  row_stays w (once g o) ok rest h = set_stays g ok c t up last way s w h true (f o) (sym (in_now way c true (f o) g s) ∙ rest)
  row_stays w (since g x y) ok rest h = set_stays g ok c t up last way s w h (f x) (f y) (sym (in_now way c (f x) (f y) g s) ∙ rest)

  row_bound : (row : Row ℕ) → RowRanged row → t ≤ until_row c s row → until_row t s row ≡ until_row c s row
  unfolding until_row
  row_bound never ok h = refl
  row_bound always ok h = refl
  row_bound (atom a) ok h = refl
  row_bound (conj os) ok h = refl
  row_bound (disj os) ok h = refl
  row_bound (neg o) ok h = refl
  row_bound (implies x y) ok h = refl
  row_bound (historically g o) ok h = bound_stays g ok c t up last s h
  row_bound (once g o) ok h = bound_stays g ok c t up last s h
  row_bound (since g x y) ok h = bound_stays g ok c t up last s h

-- ---- the least of the rows
pub least_under : (b : Rows) (st : State) (n r : ℕ) → r < n → until_to b st n ≤ until_row st.now.clock (set_at st r) (row_at b r)
unfolding until_to
least_under b st zero r h = absurd (omega arith)
least_under b st (suc n) r h =
    ⊎_elim
    (λ (p : r < n). let k = least_under b st n r p in omega arith)
    (λ (p : n ≤ r).
    let i : r ≡ n = omega arith in
    let e : until_row st.now.clock (set_at st r) (row_at b r) ≡ until_row st.now.clock (set_at st n) (row_at b n) =
    ap (λ (k : ℕ). until_row st.now.clock (set_at st k) (row_at b k)) i in
    omega arith)
    (lt_or_ge r n)

pub least_above : (b : Rows) (st : State) (n k : ℕ) → k ≤ MAX → ((r : ℕ) → r < n → k ≤ until_row st.now.clock (set_at st r) (row_at b r)) → k ≤ until_to b st n
unfolding until_to
least_above b st zero k m f = m
least_above b st (suc n) k m f = let h = least_above b st n k m (λ r l. f r (omega arith)) in let e = f n (omega arith) in omega arith

pub row_none : (c : ℕ) (s : Runs) → until_row c s never ≡ MAX
unfolding until_row
row_none c s = refl

-- ---- a monitor
module _ (b : Rows) (w : Ordered b) (ranged : (r : ℕ) → RowRanged (row_at b r)) (st : State) (left : Left b st) (begun : st.begun ≡ true) (t : ℕ)
    (up : st.now.clock < t) (last : t ≤ LAST_TIME) (until : t ≤ until_to b st (length b)) where
  abbrev c : ℕ
  c = st.now.clock

  bound : (r : ℕ) → t ≤ until_row c (set_at st r) (row_at b r)
  bound r =
      ⊎_elim
      (λ (h : r < length b). let k = least_under b st (length b) r h in omega arith)
      (λ (h : length b ≤ r). let e = ap (until_row c (set_at st r)) (row_out b r h) ∙ row_none c (set_at st r) in omega arith)
      (lt_or_ge r (length b))

  still : step_in b st st.now ≡ st
  still = left.rests begun

  row_still : (r : ℕ) → set_rule_by (renewed_in st.way c) c (set_at st r) (map_row (value b st) (row_at b r)) ≡ set_at st r
  row_still r =
      ap (λ (q : State). set_rule_by (renewed_in st.way c) c (set_at st r) (map_row (value b q) (row_at b r))) (sym still)
      ∙ sym (set_fix_by b w (renewed_in st.way c) st st.now r) ∙ ap (λ (q : State). set_at q r) still

  rests : (r : ℕ) → t ≤ rests_until c (set_at st r)
  rests r = row_rests c t up last st.way (set_at st r) (value b st) (row_at b r) (ranged r) (row_still r) (bound r)

  has_same : (r : ℕ) → has (set_at st r) t ≡ has (set_at st r) c
  has_same r = until_has c t (omega arith) (set_at st r) (left.canonical r) (rests r)

  covers_same : (r : ℕ) → covers t (set_at st r) ≡ covers c (set_at st r)
  covers_same r = until_covers c t (omega arith) (set_at st r) (left.canonical r) (rests r)

  gone_until : (s : Runs) → Canonical s → t ≤ rests_until c s → gone t s ≡ gone c s
  unfolding gone
  gone_until [] ok h = refl
  gone_until (run l u ∷ rs) ok h = let k = not_ended c t l u rs ok h in rw (le-ltb u t k, le-ltb u c (omega arith))

  gone_same : (r : ℕ) → gone t (set_at st r) ≡ gone c (set_at st r)
  gone_same r = gone_until (set_at st r) (left.canonical r) (rests r)

  abbrev later : Snap
  later = timed st.now t

  abbrev next : State
  next = step_in b st later

  set_same : (r : ℕ) → set_at next r ≡ set_at st r
  unfolding step_by
  set_same = by_rows (λ r. set_at next r ≡ set_at st r) λ r below.
      set_fix_by b w (renewed_in st.way c) st later r
      ∙ ap (λ row. set_rule_by (renewed_in st.way c) t (set_at st r) row)
      (map_row_local r (value b next) (value b st) (λ o l. value_local b w next st refl o (λ q k. ap (λ (s : Runs). has s t) (below q (omega arith)) ∙ has_same q)) (row_at b r) (w r))
      ∙ row_stays c t up last st.way (set_at st r) (value b st) (left.canonical r) (row_at b r) (ranged r) (row_still r) (bound r)

  next_moved : next ≡ moved_to t st
  unfolding step_by
  next_moved = ap₂ (λ (z : Bool) (ss : List Runs). record { way = st.way; begun = z; now = later; sets = ss }) (sym begun)
      (ext_get_or [] next.sets st.sets
      (step_sets_by (renewed_in st.way c) b st later ∙ sym (step_sets_by (renewed_in st.way c) b st st.now) ∙ ap (λ (q : State). length q.sets) still)
      (λ r l. set_same r))

  value_on : (r : ℕ) → value b (moved_to t st) r ≡ value b st r
  value_on r = value_local b w (moved_to t st) st refl r (λ o l. has_same o)

  early_on : (r : ℕ) → early b (moved_to t st) r ≡ early b st r
  unfolding early
  early_on r = answer_local b Open _ _ r (λ o l f. ap (λ x. early_rule x (map_row f (row_at b o))) (covers_same o))

  settled_on : (r : ℕ) → settled b (moved_to t st) r ≡ settled b st r
  unfolding settled
  settled_on r = ap (λ y. cond st.begun y Open)
      (answer_local b Open _ _ r (λ o l f. ap₂ (λ x y. settled_rule x y (map_row f (row_at b o))) (covers_same o) (gone_same o)))

  least_on : (n : ℕ) → until_to b (moved_to t st) n ≡ until_to b st n
  unfolding until_to
  least_on zero = refl
  least_on (suc n) = ap₂ min (least_on n) (row_bound c t up last st.way (set_at st n) (value b st) (row_at b n) (ranged n) (bound n))

  until_on : quiet_until b (moved_to t st) ≡ quiet_until b st
  unfolding quiet_until
  until_on = let e = least_on (length b) in omega arith

-- ---- where a refused call goes back to is the same but for the state that it leaves
older : (b : Rows) (old old' st : State) (ns : List Snap)
    → play b old st ns ≡ record { number = (play b old' st ns).number; state = cond (eqb (play b old' st ns).number ACCEPTED) (play b old' st ns).state old }
unfolding play
older b old old' st [] = refl
older b old old' st (n ∷ ns) = go (crowds b st n) (older b old old' (step_in b st n) ns)
  where
    one : State → Bool → Outcome
    one back z = elim z as (λ x. Outcome) [ true ↦ record { number = NO_ROOM; state = back } | false ↦ play b back (step_in b st n) ns ]

    go : (z : Bool) → play b old (step_in b st n) ns
        ≡ record { number = (play b old' (step_in b st n) ns).number; state = cond (eqb (play b old' (step_in b st n) ns).number ACCEPTED) (play b old' (step_in b st n) ns).state old }
        → one old z ≡ record { number = (one old' z).number; state = cond (eqb (one old' z).number ACCEPTED) (one old' z).state old }
    go true ih = refl
    go false ih = ih

-- ---- what is so of a time up to which a monitor is quiet: a step at it moves the clock alone, and every answer is what it was
pub record Quiet (b : Rows) (st : State) (t : ℕ) : Type 0 where
  pub step_is : step_in b st (timed st.now t) ≡ moved_to t st
  pub value_is : (r : ℕ) → value b (moved_to t st) r ≡ value b st r
  pub early_is : (r : ℕ) → early b (moved_to t st) r ≡ early b st r
  pub settled_is : (r : ℕ) → settled b (moved_to t st) r ≡ settled b st r
  pub covers_is : (r : ℕ) → covers t (set_at st r) ≡ covers st.now.clock (set_at st r)
  pub gone_is : (r : ℕ) → gone t (set_at st r) ≡ gone st.now.clock (set_at st r)
  pub until_is : quiet_until b (moved_to t st) ≡ quiet_until b st

module _ (b : Rows) (w : Ordered b) (ranged : (r : ℕ) → RowRanged (row_at b r)) (st : State) (left : Left b st) (begun : st.begun ≡ true) where
  -- QUIET: at every time from the clock up to that which its sets tell
  pub quiet : (t : ℕ) → time_refusal st.now t ≡ ACCEPTED → t ≤ quiet_until b st → Quiet b st t
  unfolding quiet_until
  quiet t fine until = let p = timely st.now t fine in
      ⊎_elim
      (λ (h : st.now.clock < t). let k : t ≤ until_to b st (length b) = omega arith in
      record {
        step_is = next_moved b w ranged st left begun t h p.1 k;
        value_is = value_on b w ranged st left begun t h p.1 k;
        early_is = early_on b w ranged st left begun t h p.1 k;
        settled_is = settled_on b w ranged st left begun t h p.1 k;
        covers_is = covers_same b w ranged st left begun t h p.1 k;
        gone_is = gone_same b w ranged st left begun t h p.1 k;
        until_is = until_on b w ranged st left begun t h p.1 k;
      })
      (λ (h : t ≤ st.now.clock). let e : st.now.clock ≡ t = omega (arith, p.0) in
      subst (Quiet b st) e (record {
        step_is = left.rests begun;
        value_is = λ r. refl;
        early_is = λ r. refl;
        settled_is = λ r. refl;
        covers_is = λ r. refl;
        gone_is = λ r. refl;
        until_is = refl;
      }))
      (lt_or_ge st.now.clock t)

  module _ (t : ℕ) (fine : time_refusal st.now t ≡ ACCEPTED) (q : Quiet b st t) where
    roomy : crowded (step_in b st (timed st.now t)) ≡ false
    unfolding crowded
    roomy = ap crowded q.step_is ∙ left.room

    past_time : (ns : List Snap) → play b st st (timed st.now t ∷ ns) ≡ play b st (moved_to t st) ns
    unfolding play
    past_time ns = rw (roomy, play) (ap (λ (s : State). play b st s ns) q.step_is)

    -- so a time call is accepted, and moves the clock alone
    pub moves_on : call b st (time t) ≡ unchanged (moved_to t st)
    unfolding refusal steps
    moves_on = accepts_call b st (time t) (record { fine = fine; room = (roomy, tt) }) ∙ ap unchanged q.step_is

    -- and a stamped call is the state call on that: refused it leaves the state as it was before the time
    pub stamped_on : (bytes : List ℕ) → state_refusal b bytes ≡ ACCEPTED → let o = call b (moved_to t st) (state bytes) in
        call b st (stamped t bytes) ≡ record { number = o.number; state = cond (eqb o.number ACCEPTED) o.state st }
    unfolding refusal first_of
    stamped_on bytes right =
        not_refused b st (stamped t bytes) (rw (eq-eqb (time_refusal st.now t) ACCEPTED fine) right)
        ∙ past_time (stated (timed st.now t) bytes ∷ [])
        ∙ older b st (moved_to t st) (moved_to t st) (stated (timed st.now t) bytes ∷ [])
        ∙ ap (λ (o : Outcome). record { number = o.number; state = cond (eqb o.number ACCEPTED) o.state st }) (sym (not_refused b (moved_to t st) (state bytes) right))

-- ---- it hangs on the clock and the sets alone
until_same : (b : Rows) (st st' : State) → st.now.clock ≡ st'.now.clock → st.sets ≡ st'.sets → (n : ℕ) → until_to b st n ≡ until_to b st' n
unfolding until_to
until_same b st st' ec es zero = refl
until_same b st st' ec es (suc r) =
    ap₂ min (until_same b st st' ec es r) (ap₂ (λ (c : ℕ) (ss : List Runs). until_row c (get_or ss r []) (row_at b r)) ec es)

pub quiet_same : (b : Rows) (st st' : State) → st.now.clock ≡ st'.now.clock → st.sets ≡ st'.sets → quiet_until b st ≡ quiet_until b st'
unfolding quiet_until
quiet_same b st st' ec es = ap₂ max ec (until_same b st st' ec es (length b))
