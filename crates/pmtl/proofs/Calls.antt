-- Lists of calls, refused ones among them: a call leaves the state, or goes on along the history. Assumes nothing.
use Prim.Native.Nat.{ℕ, suc, ◌≤◌}
use native.Mathlib.Omega.{arith}
use mathlib.Core.Path.{◌≡◌, refl, ap, ap₂, ◌∙◌}
use mathlib.Core.Bool.{Bool, true, false, cond}
use mathlib.Core.List.{List, [], ◌∷◌, ◌++◌}
use lib.ListN.{length}
use lib.Dec.{ltb, eqb}
use borrow.Author.Tests.{ltb-false, eqb-true, eqb-false, eq-eqb, ne_eqb}
use Rattle.numbers.specs.Limits.{LAST_TIME, MOST_ATOMS}
use Rattle.pmtl.specs.Book.{Rows, width_of, some}
use Rattle.pmtl.specs.Sets.{Way, ordinary}
use Rattle.pmtl.specs.Monitor.{Snap, State, step_in}
use Rattle.pmtl.specs.Calls.{Call, time, state, stamped, turns, time_refusal, state_refusal, first_of, refusal, crowds, Outcome, play, call, after_in, after, History, now_of, onto, accepted}
use Rattle.pmtl.specs.Past.{run_by, run}
use Rattle.pmtl.proofs.Answers.{step_ordinary}
use Rattle.pmtl.proofs.History.{Legal, now_run, way_run, small_clock}

-- the state after snapshots in turn
unfoldable pub steps : Rows → State → List Snap → State
steps b st [] = st
steps b st (n ∷ ns) = steps b (step_in b st n) ns

-- an outcome: a number other than 0 and the old state, or 0 and the new one
data Either (old new : State) (o : Outcome) : Type 0 where
  stayed : eqb o.number 0 ≡ false → o.state ≡ old → Either old new o
  moved : eqb o.number 0 ≡ true → o.state ≡ new → Either old new o

played : (b : Rows) (old st : State) (ns : List Snap) → Either old (steps b st ns) (play b old st ns)
unfolding play steps
played b old st [] = moved refl refl
played b old st (n ∷ ns) = go (crowds b st n) (played b old (step_in b st n) ns)
  where
    go : (z : Bool) → Either old (steps b (step_in b st n) ns) (play b old (step_in b st n) ns)
        → Either old (steps b (step_in b st n) ns) (elim z [ true ↦ record { number = 11; state = old } | false ↦ play b old (step_in b st n) ns ])
    go true ih = stayed refl refl
    go false ih = ih

-- a call that moves is not refused for what it is
record Called (b : Rows) (st : State) (k : Call) (o : Outcome) : Type 0 where
  either : Either st (steps b st (turns st.now k)) o
  sound : eqb o.number 0 ≡ true → refusal b st.now k ≡ 0

called : (b : Rows) (st : State) (k : Call) → Called b st k (call b st k)
unfolding call
called b st k = go (eqb (refusal b st.now k) 0) refl
  where
    go : (z : Bool) → eqb (refusal b st.now k) 0 ≡ z → Called b st k (elim z [
      | true ↦ play b st st (turns st.now k)
      | false ↦ record { number = refusal b st.now k; state = st }
    ])
    go true e = record { either = played b st st (turns st.now k); sound = λ h. eqb-true (refusal b st.now k) 0 e }
    go false e = record { either = stayed e refl; sound = λ h. eqb-true (refusal b st.now k) 0 h }

-- a refused call leaves the state as it was
pub refused_stays : (b : Rows) (st : State) (k : Call) → ¬ ((call b st k).number ≡ 0) → (call b st k).state ≡ st
refused_stays b st k n = go (called b st k).either
  where
    go : Either st (steps b st (turns st.now k)) (call b st k) → (call b st k).state ≡ st
    go (stayed z e) = e
    go (moved z e) = absurd (n (eqb-true (call b st k).number 0 z))

-- steps in the ordinary way go on along the history
steps_run : (b : Rows) (ns : List Snap) (h : History) → steps b (run b h) ns ≡ run b (onto ns h)
unfolding steps onto run_by
steps_run b [] h = refl
steps_run b (n ∷ ns) h = ap (λ st. steps b st ns) (step_ordinary b (run b h) n (way_run b h)) ∙ steps_run b ns (n ∷ h)

-- a number that does not refuse
pub first_zero : (a : Bool) (n m : ℕ) → cond a (suc n) m ≡ 0 → (a ≡ false) × (m ≡ 0)
first_zero true n m e = absurd (omega arith)
first_zero false n m e = (refl, e)

pub firsts_zero : (n m : ℕ) → first_of n m ≡ 0 → (n ≡ 0) × (m ≡ 0)
unfolding first_of
firsts_zero n m = go (eqb n 0) refl
  where
    go : (z : Bool) → eqb n 0 ≡ z → cond z m n ≡ 0 → (n ≡ 0) × (m ≡ 0)
    go true z e = (eqb-true n 0 z, e)
    go false z e = absurd (eqb-false n 0 z e)

-- a time that is not refused goes on from the clock
pub timely : (now : Snap) (t : ℕ) → time_refusal now t ≡ 0 → (now.clock ≤ t) × (t ≤ LAST_TIME)
timely now t e =
    let p = first_zero (ltb t now.clock) 6 _ e in
    (ltb-false t now.clock p.0, ltb-false LAST_TIME t (first_zero (ltb LAST_TIME t) 7 _ p.1).0)

-- a state that is not refused has a byte for each atom and no other, each 0 or 1
pub well_stated : (b : Rows) (bytes : List ℕ) → state_refusal b bytes ≡ 0 → (length bytes ≡ width_of b) × (some (ltb 1) bytes ≡ false)
well_stated b bytes e =
    let p = first_zero (ltb MOST_ATOMS (length bytes)) 1 _ e in
    let narrow = first_zero (ltb (length bytes) (width_of b)) 8 _ p.1 in
    let wide = first_zero (ltb (width_of b) (length bytes)) 15 _ narrow.1 in
    (omega (arith, ltb-false (length bytes) (width_of b) narrow.0, ltb-false (width_of b) (length bytes) wide.0), (first_zero (some (ltb 1) bytes) 9 0 wide.1).0)

-- a call that is not refused for what it is is legal
pub legal_call : (b : Rows) (h : History) → Legal b h → (k : Call) → refusal b (now_of b h) k ≡ 0 → Legal b (onto (turns (now_of b h) k) h)
unfolding onto refusal
legal_call b h l (time t) e = let p = timely (now_of b h) t e in (p.0, omega (arith, p.1), l)
legal_call b h l (state bs) e = (omega arith, small_clock b h l, l)
legal_call b h l (stamped t bs) e =
    let p = timely (now_of b h) t (firsts_zero _ _ e).0 in
    (omega arith, omega (arith, p.1), (p.0, omega (arith, p.1), l))

-- calls leave the state of a legal history, that of the accepted ones
pub record Trail (b : Rows) (ks : List Call) (h : History) : Type 0 where
  pub is : after b ks ≡ run b h
  pub legal : Legal b h

pub trail : (b : Rows) (ks : List Call) → Trail b ks (accepted b ks)
unfolding after_in accepted run_by
trail b [] = record { is = refl; legal = tt }
trail b (k ∷ ks) = go (trail b ks) (called b (after b ks) k).either (called b (after b ks) k).sound
  where
    go : Trail b ks (accepted b ks) → Either (after b ks) (steps b (after b ks) (turns (after b ks).now k)) (call b (after b ks) k)
        → (eqb (call b (after b ks) k).number 0 ≡ true → refusal b (after b ks).now k ≡ 0) → Trail b (k ∷ ks) (accepted b (k ∷ ks))
    go ih (stayed z e) sound = rw (z, accepted) (record { is = e ∙ ih.is; legal = ih.legal })
    go ih (moved z e) sound =
        let here : (after b ks).now ≡ now_of b (accepted b ks) = ap (λ (st : State). st.now) ih.is ∙ now_run b (accepted b ks) in
        rw (z, accepted) (rw here (record {
          is = e ∙ ap₂ (λ st n. steps b st (turns n k)) ih.is here ∙ steps_run b (turns (now_of b (accepted b ks)) k) (accepted b ks);
          legal = legal_call b (accepted b ks) ih.legal k (rw here at (sound z));
        }))

-- further calls only add to the history
onto_append : (ns h h' : History) → onto ns (h ++ h') ≡ onto ns h ++ h'
unfolding onto
onto_append [] h h' = refl
onto_append (n ∷ ns) h h' = onto_append ns (n ∷ h) h'

pub further : (b : Rows) (more ks : List Call) → (h : History) × (accepted b (more ++ ks) ≡ h ++ accepted b ks)
unfolding accepted
further b [] ks = ([], refl)
further b (k ∷ more) ks = go (eqb (call b (after b (more ++ ks)) k).number 0) (further b more ks)
  where
    ns : List Snap
    ns = turns (after b (more ++ ks)).now k

    go : (z : Bool) → (h : History) × (accepted b (more ++ ks) ≡ h ++ accepted b ks)
        → (h : History) × (cond z (onto ns (accepted b (more ++ ks))) (accepted b (more ++ ks)) ≡ h ++ accepted b ks)
    go true ih = (onto ns ih.0, ap (onto ns) ih.1 ∙ onto_append ns ih.0 (accepted b ks))
    go false ih = ih

-- after a refused call, further calls leave the state that they leave without it
pub after_refused : (way : Way) (b : Rows) (k : Call) (calls : List Call) → ¬ ((call b (after_in way b calls) k).number ≡ 0)
    → (more : List Call) → after_in way b (more ++ k ∷ calls) ≡ after_in way b (more ++ calls)
unfolding after_in
after_refused way b k calls n [] = refused_stays b (after_in way b calls) k n
after_refused way b k calls n (m ∷ more) = ap (λ st. (call b st m).state) (after_refused way b k calls n more)

-- and the history
module _ (b : Rows) (k : Call) (calls : List Call) (n : ¬ ((call b (after b calls) k).number ≡ 0)) where
  pub accepted_refused : (more : List Call) → accepted b (more ++ k ∷ calls) ≡ accepted b (more ++ calls)
  unfolding accepted
  accepted_refused [] = rw (ne_eqb (call b (after b calls) k).number 0 n)
  accepted_refused (m ∷ more) = ap₂ (λ st h. cond (eqb (call b st m).number 0) (onto (turns st.now m) h) h) (after_refused ordinary b k calls n more) (accepted_refused more)

-- ---- when a call is accepted, and what it leaves then
-- there is room for each snapshot in turn
abbrev pub Roomy : Rows → State → List Snap → Type 0
Roomy b st [] = Unit {0}
Roomy b st (n ∷ ns) = (crowds b st n ≡ false) × Roomy b (step_in b st n) ns

pub record Accepts (b : Rows) (st : State) (k : Call) : Type 0 where
  pub fine : refusal b st.now k ≡ 0
  pub room : Roomy b st (turns st.now k)

play_roomy : (b : Rows) (old st : State) (ns : List Snap) → (play b old st ns).number ≡ 0 → Roomy b st ns
unfolding play
play_roomy b old st [] e = tt
play_roomy b old st (n ∷ ns) e = go (crowds b st n) refl e (play_roomy b old (step_in b st n) ns)
  where
    go : (z : Bool) → crowds b st n ≡ z
        → (elim z as (λ x. Outcome) [ true ↦ record { number = 11; state = old } | false ↦ play b old (step_in b st n) ns ]).number ≡ 0
        → ((play b old (step_in b st n) ns).number ≡ 0 → Roomy b (step_in b st n) ns) → Roomy b st (n ∷ ns)
    go true z q ih = absurd (omega arith)
    go false z q ih = (z, ih q)

roomy_play : (b : Rows) (old st : State) (ns : List Snap) → Roomy b st ns → play b old st ns ≡ record { number = 0; state = steps b st ns }
unfolding play steps
roomy_play b old st [] r = refl
roomy_play b old st (n ∷ ns) r = rw (r.0, play) (roomy_play b old (step_in b st n) ns r.1)

pub call_accepts : (b : Rows) (st : State) (k : Call) → (call b st k).number ≡ 0 → Accepts b st k
unfolding call
call_accepts b st k = go (eqb (refusal b st.now k) 0) refl
  where
    go : (z : Bool) → eqb (refusal b st.now k) 0 ≡ z → (elim z as (λ x. Outcome) [
      | true ↦ play b st st (turns st.now k)
      | false ↦ record { number = refusal b st.now k; state = st }
    ]).number ≡ 0 → Accepts b st k
    go true z e = record { fine = eqb-true (refusal b st.now k) 0 z; room = play_roomy b st st (turns st.now k) e }
    go false z e = absurd (eqb-false (refusal b st.now k) 0 z e)

pub accepts_call : (b : Rows) (st : State) (k : Call) → Accepts b st k → call b st k ≡ record { number = 0; state = steps b st (turns st.now k) }
unfolding call
accepts_call b st k a = rw (eq-eqb (refusal b st.now k) 0 a.fine, call) (roomy_play b st st (turns st.now k) a.room)
