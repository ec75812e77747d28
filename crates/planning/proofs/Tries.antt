-- One row tried: what the code finds of it is what the table's rules say. Assumes nothing.
use Prim.Native.Nat.{ℕ, ◌+◌, ◌≤◌, ◌<◌}
use mathlib.Core.Path.{◌≡◌, refl, sym, ap, ap₂, ◌∙◌}
use mathlib.Core.Bool.{Bool, true, false, cond, not, true≢false}
use mathlib.Core.List.{List, [], map}
use lib.ListN.{get_or, set}
use lib.Dec.{eqb}
use borrow.Author.Tests.{lt-leb, le-leb}
use Rattle.std.specs.Prelude.{Result, Ok, Err, is_ok}
use Rattle.numbers.specs.declared.Refusal.{Refusal}
use Rattle.numbers.specs.declared.Refusal.TheVariants.{NoRoom}
use Rattle.numset.specs.Runs.{Runs, has, fits, SET_WORDS}
use Rattle.pmtl.specs.Answer.{bit_of}
use Rattle.pmtl.specs.Book.{map_row}
use Rattle.pmtl.specs.Monitor.{value_rule}
use Rattle.memory.specs.Layout.{VALUES}
use Rattle.memory.specs.Memory.{row_count, kind_at, slot_at, row_of, is_one}
use Rattle.set_change.specs.Change.{spanned_if, both_of}
use Rattle.planning.specs.declared.RowPlan.{RowPlan}
use Rattle.planning.specs.Plan.{renew_over, set_ahead, Leading, held_in, set_next, mode_at, mode_next, set_after, row_plan, mode_put, turned_to, ModeNoted, RowTried, Timely}
use Rattle.planning.proofs.Rules.{no_set, temporal_held}
use Rattle.planning.proofs.Ahead.{rule_both}

-- a plan of a row, where there is room, and where there is none
planned_in : RowPlan → Result RowPlan Refusal → RowPlan
planned_in p (Ok q) = q
planned_in p (Err d) = p

refusal_in : Result RowPlan Refusal → Refusal
refusal_in (Ok q) = NoRoom
refusal_in (Err d) = d

plan_ok : (b : Bool) {p q : RowPlan} → Ok p ≡ cond b (Ok q) (Err NoRoom) → (b ≡ true) × (p ≡ q)
unfolding planned_in
plan_ok true {p} e = (refl, ap (planned_in p) e)
plan_ok false e = absurd (true≢false (ap is_ok e))

plan_err : (b : Bool) {d : Refusal} (q : RowPlan) → Err d ≡ cond b (Ok q) (Err NoRoom) → (b ≡ false) × (d ≡ NoRoom)
unfolding refusal_in
plan_err true q e = absurd (true≢false (sym (ap is_ok e)))
plan_err false q e = (refl, ap refusal_in e)

module _ {m : List ℕ} {spans : Bool} {c : ℕ} (timely : Timely m c) {modes : List ℕ} {r : ℕ} (leads : Leading m modes spans r) (inside : r < row_count m) where
  -- ---- a row that is not temporal
  module _ (low : kind_at m r < 7) where
    no_next : set_next m spans c modes r ≡ []
    no_next = no_set (renew_over m spans) c (set_ahead m c modes r) (held_in m) m r low

    pub tried_plain : (atoms : List ℕ) {v : Bool} → v ≡ value_rule (map is_one atoms) false (map_row (held_in m) (row_of m r)) → {m' : List ℕ} {turned : Bool} → (m' ≡ set m (VALUES + r) (bit_of v)) × (turned ≡ turned_to (held_in m r) v) → RowTried m spans c atoms modes r m' modes (Ok turned)
    unfolding has mode_put
    tried_plain atoms ev put =
        let is = ev ∙ sym (ap (λ (s : Runs). value_rule (map is_one atoms) (has s c) (map_row (held_in m) (row_of m r))) no_next) in
        record {
          room_is = sym (ap (fits SET_WORDS) no_next);
          value_put = λ z. put.0 ∙ ap (λ (b : Bool). set m (VALUES + r) (bit_of b)) is;
          mode_is_put = λ z. sym (rw (lt-leb 7 (kind_at m r) low));
          turned_is = put.1 ∙ ap (turned_to (held_in m r)) is;
          refused = tt;
          none = λ z. absurd (true≢false z);
        }

  -- ---- a temporal row
  module _ (high : 7 ≤ kind_at m r) {slot : ℕ} (es : slot ≡ slot_at m r) where
    next_set : set_next m spans c modes r ≡ set_after m c (mode_next m spans modes r) slot
    next_set = rule_both timely.sound timely.clock inside high spans modes leads (held_in m) ∙ ap (set_after m c (mode_next m spans modes r)) (sym es)

    fits_next : fits SET_WORDS (set_after m c (mode_next m spans modes r) slot) ≡ fits SET_WORDS (set_next m spans c modes r)
    fits_next = sym (ap (fits SET_WORDS) next_set)

    module _ {planned : Result RowPlan Refusal} {before : ℕ} (eb : before ≡ get_or modes slot 0) (ep : planned ≡ row_plan m c (spanned_if spans (both_of before (mode_at m r))) slot) where
      as_planned : planned ≡ row_plan m c (mode_next m spans modes r) slot
      as_planned = ep ∙ ap (λ (x : ℕ). row_plan m c (spanned_if spans (both_of x (mode_at m r))) slot) (eb ∙ ap (λ (j : ℕ). get_or modes j 0) es)

      pub noted_temporal : {plan : RowPlan} → planned ≡ Ok plan → ModeNoted m spans c modes r (set modes slot plan.mode) (Ok plan.here)
      unfolding mode_put
      noted_temporal {plan} e =
          let is_plan = plan_ok (fits SET_WORDS (set_after m c (mode_next m spans modes r) slot)) (sym e ∙ as_planned) in
          record {
            room_is = sym is_plan.0 ∙ fits_next;
            mode_is_put = λ z. ap₂ (λ (j k : ℕ). set modes j k) es (ap (λ (p : RowPlan). p.mode) is_plan.1) ∙ sym (rw (le-leb 7 (kind_at m r) high));
            here_is = ap (λ (p : RowPlan). p.here) is_plan.1 ∙ sym (ap (λ (s : Runs). has s c) next_set);
            refused = tt;
          }

      pub noted_none : {d : Refusal} → planned ≡ Err d → ModeNoted m spans c modes r modes (Err d)
      noted_none e =
          let none = plan_err (fits SET_WORDS (set_after m c (mode_next m spans modes r) slot)) _ (sym e ∙ as_planned) in
          record { room_is = sym none.0 ∙ fits_next; mode_is_put = λ z. absurd (true≢false (sym z)); here_is = tt; refused = none.1 }

  -- its value, by what was noted
  pub tried_temporal : 7 ≤ kind_at m r → kind_at m r ≤ 9 → (atoms : List ℕ) {modes' : List ℕ} {here : Bool} → ModeNoted m spans c modes r modes' (Ok here) → {k : ℕ} → k ≡ kind_at m r → {v : Bool} → v ≡ cond (eqb k 7) (not here) here → {m' : List ℕ} {turned : Bool} → (m' ≡ set m (VALUES + r) (bit_of v)) × (turned ≡ turned_to (held_in m r) v) → RowTried m spans c atoms modes r m' modes' (Ok turned)
  tried_temporal high few atoms noted ek ev put =
      let is =
      ev ∙ ap₂ (λ (k : ℕ) (b : Bool). cond (eqb k 7) (not b) b) ek noted.here_is
      ∙ sym (temporal_held (map is_one atoms) (has (set_next m spans c modes r) c) (held_in m) m r high few) in
      record {
        room_is = noted.room_is;
        value_put = λ z. put.0 ∙ ap (λ (b : Bool). set m (VALUES + r) (bit_of b)) is;
        mode_is_put = noted.mode_is_put;
        turned_is = put.1 ∙ ap (turned_to (held_in m r)) is;
        refused = tt;
        none = λ z. absurd (true≢false z);
      }
