-- A state that is accepted has a byte for each atom of the book and no other, so every snapshot has as many atoms. Assumes nothing.
use Prim.Native.Nat.{ℕ, zero, suc}
use mathlib.Core.Path.{◌≡◌, refl, ap, ◌∙◌}
use mathlib.Core.Bool.{Bool, true, false, cond}
use mathlib.Core.List.{List, [], ◌∷◌}
use lib.ListN.{length, length-map, length-replicate, drop}
use lib.Dec.{eqb}
use borrow.Author.Tests.{eqb-true}
use Rattle.pmtl.specs.Book.{Rows, width_of}
use Rattle.pmtl.specs.Monitor.{Snap, State}
use Rattle.pmtl.specs.Calls.{Call, time, state, stamped, turns, time_refusal, refusal, call, after, History, now_of, onto, accepted}
use Rattle.pmtl.proofs.History.{now_run}
use Rattle.pmtl.proofs.Calls.{firsts_zero, well_stated, trail, call_accepts}

-- a state call, and a stamped one, that are accepted
pub accepted_states_fit : (b : Rows) (st : State) (bytes : List ℕ)
    → ((call b st (state bytes)).number ≡ 0 → length bytes ≡ width_of b) × ((t : ℕ) → (call b st (stamped t bytes)).number ≡ 0 → length bytes ≡ width_of b)
unfolding refusal
accepted_states_fit b st bytes = (
  λ e. (well_stated b bytes (call_accepts b st (state bytes) e).fine).0,
  λ t e. (well_stated b bytes (firsts_zero (time_refusal st.now t) _ (call_accepts b st (stamped t bytes) e).fine).1).0,
)

-- each snapshot of a history has an atom for each of the book
abbrev Fitting : Rows → History → Type 0
Fitting b [] = Unit {0}
Fitting b (s ∷ h) = (length s.atoms ≡ width_of b) × Fitting b h

now_fits : (b : Rows) (h : History) → Fitting b h → length (now_of b h).atoms ≡ width_of b
now_fits b [] f = length-replicate (width_of b) false
now_fits b (s ∷ h) f = f.0

drop_fits : (b : Rows) (k : ℕ) (h : History) → Fitting b h → Fitting b (drop k h)
drop_fits b zero h f = f
drop_fits b (suc k) [] f = f
drop_fits b (suc k) (s ∷ h) f = drop_fits b k h f.1

call_fits : (b : Rows) (h : History) → Fitting b h → (now : Snap) → length now.atoms ≡ width_of b → (k : Call) → refusal b now k ≡ 0 → Fitting b (onto (turns now k) h)
unfolding onto refusal
call_fits b h f now n (time t) e = (n, f)
call_fits b h f now n (state bytes) e = (length-map bytes (λ x. eqb x 1) ∙ (well_stated b bytes e).0, f)
call_fits b h f now n (stamped t bytes) e = (length-map bytes (λ x. eqb x 1) ∙ (well_stated b bytes (firsts_zero (time_refusal now t) _ e).1).0, (n, f))

all_fit : (b : Rows) (calls : List Call) → Fitting b (accepted b calls)
unfolding accepted
all_fit b [] = tt
all_fit b (k ∷ calls) = go (eqb (call b (after b calls) k).number 0) refl (all_fit b calls)
  where
    go : (z : Bool) → eqb (call b (after b calls) k).number 0 ≡ z → Fitting b (accepted b calls)
        → Fitting b (cond z (onto (turns (after b calls).now k) (accepted b calls)) (accepted b calls))
    go true z f =
        let here : (after b calls).now ≡ now_of b (accepted b calls) = ap (λ (st : State). st.now) (trail b calls).is ∙ now_run b (accepted b calls) in
        call_fits b (accepted b calls) f (after b calls).now (ap (λ (s : Snap). length s.atoms) here ∙ now_fits b (accepted b calls) f) k
        (call_accepts b (after b calls) k (eqb-true (call b (after b calls) k).number 0 z)).fine
    go false z f = f

-- so it is now, and k calls ago
pub histories_fit : (b : Rows) (calls : List Call) (k : ℕ) → length (now_of b (drop k (accepted b calls))).atoms ≡ width_of b
histories_fit b calls k = now_fits b (drop k (accepted b calls)) (drop_fits b k (accepted b calls) (all_fit b calls))
