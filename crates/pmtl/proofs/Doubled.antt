-- REFERENCE 3.10: a call that says again what stands there already is accepted and changes nothing, in either way of monitoring; so an accepted call
-- made again at once does. Assumes nothing.
use Prim.Native.Nat.{ℕ, zero, suc, ◌≤◌, ◌<◌}
use native.Mathlib.Omega.{arith}
use mathlib.Core.Path.{◌≡◌, refl, sym, ap, ap₂, ◌∙◌}
use mathlib.Core.Bool.{Bool, true, false, cond, not, ◌&&◌, ◌||◌, true≢false}
use mathlib.Core.List.{List, [], ◌∷◌, ◌++◌}
use lib.ListN.{length, replicate}
use lib.Seq.{ext_get_or}
use lib.Dec.{ltb, eqb}
use borrow.Author.Tests.{le-ltb, eq-eqb, eqb-true, eqb-false}
use Rattle.numbers.specs.Limits.{MAX, LAST_TIME, MOST_RUNS}
use Rattle.numbers.specs.Refusals.{ACCEPTED}
use Rattle.numset.specs.Runs.{Runs, has, Canonical}
use Rattle.pmtl.specs.Book.{Range, Row, map_row, Rows, row_at, Ordered, some}
use Rattle.pmtl.specs.Book.Row.{never, always, atom, conj, disj, neg, implies, historically, once, since}
use Rattle.pmtl.specs.Sets.{added_if, renewed, lasted, Way, ordinary, lasting, renewed_in, set_rule_by}
use Rattle.pmtl.specs.Monitor.{Snap, State, set_at, initial_in, value, step_by, step_in}
use Rattle.pmtl.specs.Calls.{Call, time, state, stamped, timed, stated, turns, time_refusal, state_refusal, first_of, refusal, crowded, Outcome, play, call, after_in}
use Rattle.pmtl.specs.Again.{SaysAgain, unchanged, Rests}
use Rattle.pmtl.proofs.Table.{by_rows, map_row_local}
use Rattle.pmtl.proofs.Answers.{step_sets_by, set_made_by, set_fix_by, value_local}
use Rattle.pmtl.proofs.Renewed.{renewed_canonical, lasted_canonical, lasted_now, rule_any}
use Rattle.pmtl.proofs.Twice.{renewed_twice, lasted_twice}
use Rattle.pmtl.proofs.History.{initial_set}
use Rattle.pmtl.proofs.Calls.{timely, firsts_zero, refused_stays, steps, Roomy, Accepts, call_accepts, accepts_call}

-- ---- one set: the same change again, at the clock that the first was made at, is none
same_renewed : (g : Range) (c : ℕ) → c ≤ MAX → (s : Runs) → Canonical s → (k x : Bool) → renewed k x g c (renewed k x g c s) ≡ renewed k x g c s
same_renewed g c small s ok k x = renewed_twice g c small s ok k x k x ∙ either k x
  where
    either : (k x : Bool) → renewed (k && k) (cond k (x || x) x) g c s ≡ renewed k x g c s
    either true true = refl
    either true false = refl
    either false true = refl
    either false false = refl

same_lasted : (before : ℕ) (g : Range) (c : ℕ) → c ≤ MAX → (s : Runs) → Canonical s → (k x : Bool)
    → lasted c k x g c (lasted before k x g c s) ≡ lasted before k x g c s
unfolding lasted added_if
same_lasted before g c small s ok k x = lasted_now c k x g c (lasted before k x g c s) (omega arith) ∙ go k x
  where
    go : (k x : Bool) → renewed k x g c (lasted before k x g c s) ≡ lasted before k x g c s
    go true true = lasted_twice before g c small s ok true true true true
    go true false = lasted_twice before g c small s ok true false true false
    go false true = lasted_twice before g c small s ok false true false true
    go false false = lasted_twice before g c small s ok false false false false

module _ (way : Way) (before : ℕ) (g : Range) (c : ℕ) (s : Runs) (ok : Canonical s) (k x : Bool) where
  change_canonical : Canonical (renewed_in way before k x g c s)
  change_canonical = go way
    where
      go : (way : Way) → Canonical (renewed_in way before k x g c s)
      go ordinary = renewed_canonical k x g c s ok
      go lasting = lasted_canonical before k x g c s ok

  same_change : c ≤ MAX → renewed_in way c k x g c (renewed_in way before k x g c s) ≡ renewed_in way before k x g c s
  same_change small = go way
    where
      go : (way : Way) → renewed_in way c k x g c (renewed_in way before k x g c s) ≡ renewed_in way before k x g c s
      go ordinary = same_renewed g c small s ok k x
      go lasting = same_lasted before g c small s ok k x

same_rule : (way : Way) (before c : ℕ) → c ≤ MAX → (s : Runs) → Canonical s → (row : Row Bool)
    → set_rule_by (renewed_in way c) c (set_rule_by (renewed_in way before) c s row) row ≡ set_rule_by (renewed_in way before) c s row
unfolding set_rule_by
same_rule way before c small s ok never = refl
same_rule way before c small s ok always = refl
same_rule way before c small s ok (atom a) = refl
same_rule way before c small s ok (conj vs) = refl
same_rule way before c small s ok (disj vs) = refl
same_rule way before c small s ok (neg v) = refl
same_rule way before c small s ok (implies u v) = refl
same_rule way before c small s ok (historically g v) = same_change way before g c s ok true (not v) small
same_rule way before c small s ok (once g v) = same_change way before g c s ok true v small
same_rule way before c small s ok (since g u v) = same_change way before g c s ok u v small

-- ---- one step: the same snapshot again leaves the state as it is
module _ (b : Rows) (w : Ordered b) (st : State) (ok : (r : ℕ) → Canonical (set_at st r)) (n : Snap) where
  abbrev before : ℕ
  before = st.now.clock

  step_canonical : (r : ℕ) → Canonical (set_at (step_in b st n) r)
  unfolding Canonical
  step_canonical r = let m = set_made_by (renewed_in st.way before) b st n r in
      rw m.1 (rule_any Canonical tt (renewed_in st.way before) n.clock (set_at st r)
      (λ k x g. change_canonical st.way before g n.clock (set_at st r) (ok r) k x) m.0)

  module _ (small : n.clock ≤ MAX) where
    abbrev first : State
    first = step_in b st n

    abbrev second : State
    second = step_in b first n

    -- sets that are the same below a row leave the same values below it
    same_values : (r : ℕ) → ((o : ℕ) → o < r → set_at second o ≡ set_at first o) → (o : ℕ) → o < r → value b second o ≡ value b first o
    unfolding step_by
    same_values r below o l = value_local b w second first refl o (λ q k. ap (λ (s : Runs). has s n.clock) (below q (omega arith)))

    same_set : (r : ℕ) → set_at second r ≡ set_at first r
    unfolding step_by
    same_set = by_rows (λ r. set_at second r ≡ set_at first r) λ r below.
        set_fix_by b w (renewed_in st.way n.clock) first n r
        ∙ ap₂ (λ (s : Runs) row. set_rule_by (renewed_in st.way n.clock) n.clock s row)
        (set_fix_by b w (renewed_in st.way before) st n r)
        (map_row_local r (value b second) (value b first) (same_values r below) (row_at b r) (w r))
        ∙ same_rule st.way before n.clock small (set_at st r) (ok r) (map_row (value b first) (row_at b r))
        ∙ sym (set_fix_by b w (renewed_in st.way before) st n r)

    pub step_again : step_in b (step_in b st n) n ≡ step_in b st n
    unfolding step_by
    step_again = ap (λ (ss : List Runs). record { way = st.way; begun = true; now = n; sets = ss })
        (ext_get_or [] second.sets first.sets
        (step_sets_by (renewed_in st.way n.clock) b first n ∙ sym (step_sets_by (renewed_in st.way before) b st n)) (λ r l. same_set r))

-- ---- what is so of every state that calls leave
pub record Left (b : Rows) (st : State) : Type 0 where
  pub canonical : (r : ℕ) → Canonical (set_at st r)
  pub in_time : st.now.clock ≤ LAST_TIME
  pub room : crowded st ≡ false
  pub rests : Rests b st

none_crowded : (n : ℕ) → some (λ (s : Runs). ltb MOST_RUNS (length s)) (replicate n []) ≡ false
unfolding some
none_crowded zero = refl
none_crowded (suc n) = none_crowded n

initial_left : (way : Way) (b : Rows) → Left b (initial_in way b)
unfolding initial_in crowded Canonical
initial_left way b = record {
  canonical = λ r. rw (initial_set way b r) tt;
  in_time = omega arith;
  room = none_crowded (length b);
  rests = λ e. absurd (true≢false (sym e));
}

module _ (b : Rows) (w : Ordered b) where
  step_left : (st : State) → Left b st → (n : Snap) → n.clock ≤ LAST_TIME → crowded (step_in b st n) ≡ false → Left b (step_in b st n)
  unfolding step_by
  step_left st l n t e = record {
    canonical = step_canonical b w st l.canonical n;
    in_time = t;
    room = e;
    rests = λ q. step_again b w st l.canonical n (omega arith);
  }

  -- an accepted call
  accepted_left : (st : State) → Left b st → (k : Call) → Accepts b st k → Left b (steps b st (turns st.now k))
  unfolding refusal steps
  accepted_left st l (time t) a = step_left st l (timed st.now t) (timely st.now t a.fine).1 a.room.0
  accepted_left st l (state bytes) a = step_left st l (stated st.now bytes) l.in_time a.room.0
  accepted_left st l (stamped t bytes) a =
      let n = timed st.now t in
      let up = (timely st.now t (firsts_zero (time_refusal st.now t) (state_refusal b bytes) a.fine).0).1 in
      step_left (step_in b st n) (step_left st l n up a.room.0) (stated n bytes) up a.room.1.0

  -- any call
  pub call_left : (st : State) → Left b st → (k : Call) → Left b (call b st k).state
  call_left st l k = go (eqb (call b st k).number ACCEPTED) refl
    where
      go : (z : Bool) → eqb (call b st k).number ACCEPTED ≡ z → Left b (call b st k).state
      go true z =
          let a = call_accepts b st k (eqb-true (call b st k).number ACCEPTED z) in
          rw (ap (λ (o : Outcome). o.state) (accepts_call b st k a)) (accepted_left st l k a)
      go false z = rw (refused_stays b st k (eqb-false (call b st k).number ACCEPTED z)) l

  left : (way : Way) (calls : List Call) → Left b (after_in way b calls)
  unfolding after_in
  left way [] = initial_left way b
  left way (k ∷ ks) = call_left (after_in way b ks) (left way ks) k

-- ---- a call that is not refused for what it is
pub not_refused : (b : Rows) (st : State) (k : Call) → refusal b st.now k ≡ ACCEPTED → call b st k ≡ play b st st (turns st.now k)
unfolding call
not_refused b st k e = rw (eq-eqb (refusal b st.now k) ACCEPTED e, call)

-- ---- a call that says what stands there already
-- all snapshots are the one that stands
abbrev AllNow : Snap → List Snap → Type 0
AllNow now [] = Unit {0}
AllNow now (n ∷ ns) = (n ≡ now) × AllNow now ns

module _ (b : Rows) (st : State) (l : Left b st) (begun : st.begun ≡ true) where
  one_more : (n : Snap) → n ≡ st.now → step_in b st n ≡ st
  one_more n e = ap (step_in b st) e ∙ l.rests begun

  roomy_now : (ns : List Snap) → AllNow st.now ns → Roomy b st ns
  roomy_now [] a = tt
  roomy_now (n ∷ ns) a = rw (one_more n a.0) (l.room, roomy_now ns a.1)

  steps_now : (ns : List Snap) → AllNow st.now ns → steps b st ns ≡ st
  unfolding steps
  steps_now [] a = refl
  steps_now (n ∷ ns) a = rw (one_more n a.0) (steps_now ns a.1)

  turns_now : (k : Call) → SaysAgain st.now k → AllNow st.now (turns st.now k)
  turns_now (time t) e = (ap (timed st.now) e, tt)
  turns_now (state bytes) e = (ap (λ bits. record { clock = st.now.clock; atoms = bits }) e, tt)
  turns_now (stamped t bytes) e =
      (ap (timed st.now) e.0, (ap₂ (λ c bits. record { clock = c; atoms = bits }) e.0 e.1, tt))

  pub says_again : (k : Call) → refusal b st.now k ≡ ACCEPTED → SaysAgain st.now k → call b st k ≡ unchanged st
  says_again k fine again = let a = turns_now k again in
      accepts_call b st k (record { fine = fine; room = roomy_now (turns st.now k) a }) ∙ ap unchanged (steps_now (turns st.now k) a)

-- what an accepted call has left is what it says again
again_in_time : (now : Snap) (t : ℕ) → time_refusal now t ≡ ACCEPTED → (bits : List Bool) → time_refusal (record { clock = t; atoms = bits }) t ≡ ACCEPTED
again_in_time now t e bits = rw (le-ltb t t (omega arith), le-ltb LAST_TIME t (timely now t e).1)

made_again : (b : Rows) → Ordered b → (st : State) → Left b st → (k : Call) → Accepts b st k
    → call b (steps b st (turns st.now k)) k ≡ unchanged (steps b st (turns st.now k))
unfolding steps step_by refusal first_of
made_again b w st l (time t) a =
    says_again b _ (accepted_left b w st l (time t) a) refl (time t) (again_in_time st.now t a.fine st.now.atoms) refl
made_again b w st l (state bytes) a = says_again b _ (accepted_left b w st l (state bytes) a) refl (state bytes) a.fine refl
made_again b w st l (stamped t bytes) a =
    let p = firsts_zero (time_refusal st.now t) (state_refusal b bytes) a.fine in
    let n = stated (timed st.now t) bytes in
    says_again b _ (accepted_left b w st l (stamped t bytes) a) refl (stamped t bytes)
    (rw (eq-eqb (time_refusal n t) ACCEPTED (again_in_time st.now t p.0 n.atoms)) p.1) (refl, refl)

-- ---- after any calls, refused ones among them, in either way
module _ (way : Way) (b : Rows) (w : Ordered b) (calls : List Call) where
  -- once a call was accepted: a step at the clock and with the atoms that stand changes nothing
  pub rests : (after_in way b calls).begun ≡ true → step_in b (after_in way b calls) (after_in way b calls).now ≡ after_in way b calls
  rests = (left b w way calls).rests

  -- so a call that says them again, and is not refused for what it is, is accepted and leaves the state as it is
  pub said_again : (after_in way b calls).begun ≡ true → (k : Call) → refusal b (after_in way b calls).now k ≡ ACCEPTED
      → SaysAgain (after_in way b calls).now k → call b (after_in way b calls) k ≡ unchanged (after_in way b calls)
  said_again = says_again b (after_in way b calls) (left b w way calls)

  -- of a time call nothing is asked but that its time is the clock
  pub time_again : (after_in way b calls).begun ≡ true → call b (after_in way b calls) (time (after_in way b calls).now.clock) ≡ unchanged (after_in way b calls)
  unfolding refusal
  time_again begun = let c = (after_in way b calls).now.clock in
      said_again begun (time c) (rw (le-ltb c c (omega arith), le-ltb LAST_TIME c (left b w way calls).in_time)) refl

  -- DOUBLED: an accepted call made again at once with the same content is accepted, and leaves the state as it is
  pub doubled : (k : Call) → (call b (after_in way b calls) k).number ≡ ACCEPTED → call b (after_in way b (k ∷ calls)) k ≡ unchanged (after_in way b (k ∷ calls))
  unfolding after_in
  doubled k e = let a = call_accepts b (after_in way b calls) k e in
      rw (ap (λ (o : Outcome). o.state) (accepts_call b (after_in way b calls) k a)) (made_again b w (after_in way b calls) (left b w way calls) k a)

  -- and further calls leave the state that they leave without it
  pub doubled_leaves_no_trace : (k : Call) → (call b (after_in way b calls) k).number ≡ ACCEPTED
      → (more : List Call) → after_in way b (more ++ k ∷ k ∷ calls) ≡ after_in way b (more ++ k ∷ calls)
  unfolding after_in
  doubled_leaves_no_trace k e [] = ap (λ (o : Outcome). o.state) (doubled k e)
  doubled_leaves_no_trace k e (m ∷ more) = ap (λ (st : State). (call b st m).state) (doubled_leaves_no_trace k e more)
