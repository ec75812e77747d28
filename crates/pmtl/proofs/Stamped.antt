-- A stamped call is its time call and then its state call, or neither; and the calls in their parts, each of which leaves one snapshot. Assumes nothing.
use Prim.Native.Nat.{ℕ, zero, suc}
use mathlib.Core.Path.{◌≡◌, refl, sym, ap, ◌∙◌}
use mathlib.Core.Logic.{◌↔◌}
use mathlib.Core.Bool.{Bool, true, false, cond}
use mathlib.Core.List.{List, [], ◌∷◌, ◌++◌}
use lib.ListN.{drop}
use lib.Dec.{eqb}
use borrow.Author.Tests.{eq-eqb, eqb-true, eqb-false}
use Rattle.pmtl.specs.Book.{Rows}
use Rattle.pmtl.specs.Monitor.{Snap, State, value, step_by, step_in}
use Rattle.pmtl.specs.Calls.{Call, time, state, stamped, timed, stated, turns, time_refusal, state_refusal, first_of, refusal, crowds, Outcome, play, call, after_in, after, History, onto, accepted}
use Rattle.pmtl.specs.Past.{parts, halves, held}
use Rattle.pmtl.proofs.Calls.{steps, Accepts, call_accepts, accepts_call, firsts_zero, refused_stays, trail}

-- the number of snapshots played does not hang on the state that a refusal leaves
same_number : (b : Rows) (old old' st : State) (ns : List Snap) → (play b old st ns).number ≡ (play b old' st ns).number
unfolding play
same_number b old old' st [] = refl
same_number b old old' st (n ∷ ns) = go (crowds b st n) (same_number b old old' (step_in b st n) ns)
  where
    go : (z : Bool) → (play b old (step_in b st n) ns).number ≡ (play b old' (step_in b st n) ns).number
        → (elim z as (λ x. Outcome) [ true ↦ record { number = 11; state = old } | false ↦ play b old (step_in b st n) ns ]).number
        ≡ (elim z as (λ x. Outcome) [ true ↦ record { number = 11; state = old' } | false ↦ play b old' (step_in b st n) ns ]).number
    go true ih = refl
    go false ih = ih

-- ---- one stamped call, in any state
module _ (b : Rows) (st : State) (t : ℕ) (bytes : List ℕ) where
  -- what the time call leaves
  abbrev time_state : State
  time_state = (call b st (time t)).state

  abbrev first : Snap
  first = timed st.now t

  time_leaves : Accepts b st (time t) → call b st (time t) ≡ record { number = 0; state = step_in b st first }
  unfolding steps
  time_leaves a = accepts_call b st (time t) a

  number_of_lem : Outcome → ℕ
  number_of_lem o = o.number

  state_of_lem : Outcome → State
  state_of_lem o = o.state

  -- the parts of an accepted stamped call
  time_part : Accepts b st (stamped t bytes) → Accepts b st (time t)
  unfolding refusal
  time_part a = record { fine = (firsts_zero _ _ a.fine).0; room = (a.room.0, tt) }

  state_part : Accepts b st (stamped t bytes) → Accepts b (step_in b st first) (state bytes)
  unfolding refusal step_by
  state_part a = record { fine = (firsts_zero (time_refusal st.now t) _ a.fine).1; room = (a.room.1.0, tt) }

  both_parts : Accepts b st (time t) → Accepts b (step_in b st first) (state bytes) → Accepts b st (stamped t bytes)
  unfolding refusal first_of step_by
  both_parts a c = record { fine = rw (eq-eqb (time_refusal st.now t) 0 a.fine) c.fine; room = (a.room.0, (c.room.0, tt)) }

  -- it is accepted exactly if both calls would be, the one after the other
  pub stamped_accepted : ((call b st (stamped t bytes)).number ≡ 0)
      ↔ (((call b st (time t)).number ≡ 0) × ((call b (call b st (time t)).state (state bytes)).number ≡ 0))
  unfolding number_of_lem state_of_lem
  stamped_accepted = (
    λ e. let a = call_accepts b st (stamped t bytes) e in
        let q = time_leaves (time_part a) in
        (ap number_of_lem q, rw (ap state_of_lem q) (ap number_of_lem (accepts_call b (step_in b st first) (state bytes) (state_part a)))),
    λ p. let a = call_accepts b st (time t) p.0 in
        let q = ap state_of_lem (time_leaves a) in
        ap number_of_lem (accepts_call b st (stamped t bytes) (both_parts a (call_accepts b (step_in b st first) (state bytes) (rw q at p.1)))),
  )

  -- and then leaves exactly what they leave
  pub stamped_leaves : (call b st (stamped t bytes)).number ≡ 0
      → (call b st (stamped t bytes)).state ≡ (call b (call b st (time t)).state (state bytes)).state
  unfolding number_of_lem state_of_lem steps step_by
  stamped_leaves e =
      let a = call_accepts b st (stamped t bytes) e in
      ap state_of_lem (accepts_call b st (stamped t bytes) a)
      ∙ sym (ap (λ (s : State). (call b s (state bytes)).state) (ap state_of_lem (time_leaves (time_part a)))
      ∙ ap state_of_lem (accepts_call b (step_in b st first) (state bytes) (state_part a)))

  time_now : (call b st (stamped t bytes)).number ≡ 0 → time_state.now ≡ first
  unfolding state_of_lem step_by
  time_now e = ap (λ (s : State). s.now) (ap state_of_lem (time_leaves (time_part (call_accepts b st (stamped t bytes) e))))

  -- a call that is refused for what it is, and one that is not
  wrong : (k : Call) → eqb (refusal b st.now k) 0 ≡ false → (call b st k).number ≡ refusal b st.now k
  unfolding call
  wrong k e = rw (e, call)

  fine : (s : State) (k : Call) → refusal b s.now k ≡ 0 → call b s k ≡ play b s s (turns s.now k)
  unfolding call
  fine s k e = rw (eq-eqb (refusal b s.now k) 0 e, call)

  -- neither its time nor its state is refused for what it is: 11 in either step
  in_turn : state_refusal b bytes ≡ 0 → (z : Bool) → crowds b st first ≡ z
      → (play b st st (first ∷ stated first bytes ∷ [])).number
      ≡ first_of (play b st st (first ∷ [])).number (call b (play b st st (first ∷ [])).state (state bytes)).number
  unfolding play first_of step_by refusal number_of_lem
  in_turn y true z = rw (z, play)
  in_turn y false z = rw (z, play) (same_number b st (step_in b st first) (step_in b st first) (stated first bytes ∷ []) ∙ sym (ap number_of_lem (fine (step_in b st first) (state bytes) y)))

  number_in_turn : time_refusal st.now t ≡ 0 → state_refusal b bytes ≡ 0
      → (call b st (stamped t bytes)).number ≡ first_of (call b st (time t)).number (call b time_state (state bytes)).number
  unfolding refusal first_of number_of_lem
  number_in_turn x y =
      ap number_of_lem (fine st (stamped t bytes) (rw (eq-eqb (time_refusal st.now t) 0 x) y))
      ∙ in_turn y (crowds b st first) refl
      ∙ sym (ap (λ (o : Outcome). first_of o.number (call b o.state (state bytes)).number) (fine st (time t) x))

  -- the number that it hands back: what is wrong with the time, else what is wrong with the state, else that of the time call, else that of the state
  -- call after it
  pub stamped_number : (call b st (stamped t bytes)).number
      ≡ first_of (time_refusal st.now t) (first_of (state_refusal b bytes) (first_of (call b st (time t)).number (call b (call b st (time t)).state (state bytes)).number))
  unfolding first_of refusal
  stamped_number = go (eqb (time_refusal st.now t) 0) (eqb (state_refusal b bytes) 0) refl refl
    where
      go : (x y : Bool) → eqb (time_refusal st.now t) 0 ≡ x → eqb (state_refusal b bytes) 0 ≡ y
          → (call b st (stamped t bytes)).number
          ≡ first_of (time_refusal st.now t) (first_of (state_refusal b bytes) (first_of (call b st (time t)).number (call b time_state (state bytes)).number))
      go false y p q = wrong (stamped t bytes) (rw (p, first_of) p) ∙ rw (p, first_of)
      go true false p q = wrong (stamped t bytes) (rw (p, first_of) q) ∙ rw (p, q, first_of)
      go true true p q = number_in_turn (eqb-true (time_refusal st.now t) 0 p) (eqb-true (state_refusal b bytes) 0 q) ∙ rw (p, q, first_of)

-- ---- the calls in their parts
-- calls js, each accepted and each leaving one snapshot, leave the state st, and up to each of them the history is a part of h
record Matches (b : Rows) (js : List Call) (st : State) (h : History) : Type 0 where
  is : after b js ≡ st
  all : (k : ℕ) → accepted b (drop k js) ≡ drop k h

one_more : (b : Rows) (js : List Call) (st : State) (h : History) → Matches b js st h → (c : Call) (s : Snap) → turns st.now c ≡ s ∷ []
    → (call b st c).number ≡ 0 → Matches b (c ∷ js) (call b st c).state (s ∷ h)
unfolding after_in accepted onto
one_more b js st h m c s t e = record { is = ap (λ (q : State). (call b q c).state) m.is; all = at }
  where
    at : (k : ℕ) → accepted b (drop k (c ∷ js)) ≡ drop k (s ∷ h)
    at zero = rw (m.is, eq-eqb (call b st c).number 0 e, t) (ap (λ q. s ∷ q) (m.all 0))
    at (suc k) = m.all k

made : (b : Rows) (js : List Call) (st : State) (h : History) (c : Call) → Matches b js st h → (call b st c).number ≡ 0
    → Matches b (parts c ++ js) (call b st c).state (onto (turns st.now c) h)
unfolding onto
made b js st h (time t) m e = one_more b js st h m (time t) _ refl e
made b js st h (state bytes) m e = one_more b js st h m (state bytes) _ refl e
made b js st h (stamped t bytes) m e =
    let p = (stamped_accepted b st t bytes).0 e in
    rw (stamped_leaves b st t bytes e)
    (one_more b (time t ∷ js) (call b st (time t)).state (timed st.now t ∷ h)
    (one_more b js st h m (time t) (timed st.now t) refl p.0)
    (state bytes) (stated (timed st.now t) bytes) (ap (λ n. stated n bytes ∷ []) (time_now b st t bytes e)) p.1)

drop_none : {A : Type 0} (k : ℕ) → drop {A = A} k [] ≡ []
drop_none zero = refl
drop_none (suc k) = refl

halves_match : (b : Rows) (ks : List Call) → Matches b (halves b ks) (after b ks) (accepted b ks)
unfolding halves after_in accepted
halves_match b [] = record { is = refl; all = λ k. ap (accepted b) (drop_none k) ∙ sym (drop_none k) }
halves_match b (k ∷ ks) = go (eqb (call b (after b ks) k).number 0) refl (halves_match b ks)
  where
    go : (z : Bool) → eqb (call b (after b ks) k).number 0 ≡ z → Matches b (halves b ks) (after b ks) (accepted b ks)
        → Matches b (cond z (parts k ++ halves b ks) (halves b ks)) (call b (after b ks) k).state (cond z (onto (turns (after b ks).now k) (accepted b ks)) (accepted b ks))
    go true z m = made b (halves b ks) (after b ks) (accepted b ks) k m (eqb-true (call b (after b ks) k).number 0 z)
    go false z m = rw (refused_stays b (after b ks) k (eqb-false (call b (after b ks) k).number 0 z)) m

module _ (b : Rows) (calls : List Call) where
  -- they leave what the calls leave
  pub halves_leave : after b (halves b calls) ≡ after b calls
  halves_leave = (halves_match b calls).is

  pub halves_accepted : accepted b (halves b calls) ≡ accepted b calls
  halves_accepted = (halves_match b calls).all 0

  -- what held k calls ago, a stamped call counting as two, is the value after the accepted calls up to then
  pub held_is : (r k : ℕ) → held b r (drop k (accepted b calls)) ≡ value b (after b (drop k (halves b calls))) r
  held_is r k = ap (λ x. held b r x) (sym ((halves_match b calls).all k)) ∙ ap (λ st. value b st r) (sym (trail b (drop k (halves b calls))).is)
