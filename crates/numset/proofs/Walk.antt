-- What the searches for the runs that an interval joins know at each turn. Assumes nothing.
use Prim.Native.Nat.{ℕ, ◌+◌, ◌-◌, ◌^◌, ◌≤◌, ◌<◌, min, max}
use mathlib.Core.Path.{◌≡◌, refl, sym, ap, ◌∙◌, subst}
use mathlib.Core.Logic.{⊎_elim}
use mathlib.Core.List.{List, ◌∷◌}
use native.Mathlib.Omega.{arith}
use lib.ListN.{get_or}
use Rattle.numset.specs.Runs.{run, Runs, lo, hi, runs_to, Under, Good, insert}
use Rattle.numset.specs.Private.{Ended, Met, Spanned}
use Rattle.lists.proofs.Tests.{lt_or_ge}
use Rattle.numset.proofs.Words.{runs_pos, runs_none, newest}
use Rattle.numset.proofs.Union.{insert_past, insert_join}

-- ---- the runs that begin by u + 1: those from i on do not
pub record Ending (m : List ℕ) (u i : ℕ) : Type 0 where
  pub few : i ≤ get_or m 0 0
  pub apart : Under (2 ^ 64 + 1) (runs_to m i)
  pub over : (j : ℕ) → i ≤ j → j < get_or m 0 0 → u + 1 < lo m j

pub ending_start : {m : List ℕ} (u : ℕ) → Good m → Ending m u (get_or m 0 0)
ending_start u g = record { few = omega arith; apart = g.apart; over = λ j p q. absurd (omega arith) }

pub ending_more : {m : List ℕ} {u i : ℕ} → Ending m u i → 0 < i → u + 1 < lo m (i - 1) → Ending m u (i - 1)
ending_more {m} {u} {i} w h p =
    record {
      few = omega arith;
      apart = (newest _ m i h w.apart).older_too;
      over = λ j q r.
          ⊎_elim
          (λ x. let e : i - 1 ≡ j = omega arith in subst (λ (k : ℕ). u + 1 < lo m k) e p)
          (λ x. w.over j x r)
          (lt_or_ge j i);
    }

pub ending_stop : {m : List ℕ} {u i : ℕ} → Ending m u i → (0 < i → lo m (i - 1) ≤ u + 1) → Ended m u i
ending_stop w p = record { few = w.few; apart = w.apart; reach = p; over = w.over }

-- ---- the runs from s to e are joined to l ..= u, which makes it low ..= up
pub record Joining (m : List ℕ) (l u s e low up : ℕ) : Type 0 where
  pub few : s ≤ e
  pub apart : Under (2 ^ 64 + 1) (runs_to m s)
  pub reach : 0 < s → lo m (s - 1) ≤ up + 1
  pub same : insert l u (runs_to m e) ≡ insert low up (runs_to m s)

pub joining_start : {m : List ℕ} {u e : ℕ} (l : ℕ) → Ended m u e → Joining m l u e e l u
joining_start l w = record { few = omega arith; apart = w.apart; reach = w.reach; same = refl }

-- the run below a run that ends by `up` begins by then too
below_reach : (m : List ℕ) (s top up : ℕ) → Under top (runs_to m s) → top ≤ up + 1 → 0 < s → lo m (s - 1) ≤ up + 1
below_reach m s top up w h p = let t = newest top m s p w in omega arith

module _ {m : List ℕ} {l u s e low up : ℕ} (w : Joining m l u s e low up) where
  pub joining_more : {low' up' : ℕ} → 0 < s → low ≤ hi m (s - 1) + 1 → low' ≡ min low (lo m (s - 1)) → up' ≡ max up (hi m (s - 1)) → Joining m l u (s - 1) e low' up'
  joining_more {low'} {up'} h p q r =
      let t = newest _ m s h w.apart in
      let k = w.reach h in
      record {
        few = omega arith;
        apart = t.older_too;
        reach = below_reach m (s - 1) (lo m (s - 1)) up' t.older (omega arith);
        same = w.same ∙ ap (insert low up) (runs_pos m s h) ∙ insert_join low up (lo m (s - 1)) (hi m (s - 1)) (runs_to m (s - 1)) k p ∙ rw (q, r);
      }

  pub joining_stop : 0 < s → hi m (s - 1) + 1 < low → Met m l u s e low up
  joining_stop h p =
      record {
        few = w.few;
        joined = w.same ∙ ap (insert low up) (runs_pos m s h) ∙ insert_past low up (lo m (s - 1)) (hi m (s - 1)) (runs_to m (s - 1)) (w.reach h) p ∙ ap (λ (rs : Runs). run low up ∷ rs) (sym (runs_pos m s h));
      }

  pub joining_end : s ≡ 0 → Met m l u s e low up
  unfolding insert
  joining_end z = record { few = w.few; joined = w.same ∙ rw (runs_none m s z) }

-- ---- what the last run tells, the last of n
module _ {m : List ℕ} {l u : ℕ} (g : Good m) (o : l ≤ u) (n : ℕ) (c : n ≡ get_or m 0 0) where
  last_ended : (0 < n → lo m (n - 1) ≤ l) → Ended m u n
  last_ended p = record { few = omega arith; apart = rw c g.apart; reach = λ h. let q = p h in omega arith; over = λ j q r. absurd (omega arith) }

  -- there is none
  pub span_first : n ≡ 0 → Spanned m l u n n l u
  span_first z = let d = last_ended (λ h. absurd (omega arith)) in record { ended = d; met = joining_end (joining_start l d) z }

  module _ (h : 0 < n) (p : lo m (n - 1) ≤ l) where
    -- l ..= u follows it
    pub span_after : hi m (n - 1) + 1 < l → Spanned m l u n n l u
    span_after q = let d = last_ended (λ h. p) in record { ended = d; met = joining_stop (joining_start l d) h q }

    -- l ..= u touches it, and no other
    pub span_last : {low up : ℕ} → l ≤ hi m (n - 1) + 1 → low ≡ lo m (n - 1) → up ≡ max u (hi m (n - 1)) → Spanned m l u (n - 1) n low up
    span_last {low} {up} q r t =
        let d = last_ended (λ h. p) in
        let e : low ≡ min l (lo m (n - 1)) = omega arith in
        let w = joining_more (joining_start l d) h q e t in
        let v = newest _ m n h d.apart in
        record {
          ended = d;
          met = ⊎_elim
              (λ x. joining_stop w x (let y = newest _ m (n - 1) x v.older in omega arith))
              (λ x. joining_end w (omega arith))
              (lt_or_ge 0 (n - 1));
        }
