-- The answers look only at the members of the sets from the clock on. Assumes nothing.
use Prim.Native.Nat.{ℕ, ◌≤◌}
use native.Mathlib.Omega.{arith}
use mathlib.Core.Path.{◌≡◌, refl, sym, ap, ap₂, ◌∙◌}
use mathlib.Core.Bool.{cond}
use mathlib.Core.List.{[], ◌∷◌}
use Rattle.numbers.specs.Limits.{MAX}
use Rattle.numset.specs.Runs.{Runs, has, covers, Canonical}
use Rattle.lists.proofs.Tests.{same_test}
use Rattle.numset.proofs.Covering.{covers_all, all_covers}
use Rattle.pmtl.specs.declared.Answer.TheVariants.{Open}
use Rattle.pmtl.specs.Book.{map_row, Rows, row_at, Ordered}
use Rattle.pmtl.specs.Sets.{gone, Renew}
use Rattle.pmtl.specs.Monitor.{Snap, State, set_at, value, step_by}
use Rattle.pmtl.specs.Early.{early_rule, early}
use Rattle.pmtl.specs.Settled.{settled_rule, settled}
use Rattle.pmtl.specs.Calls.{History, now_of}
use Rattle.pmtl.specs.Past.{run_by}
use Rattle.pmtl.proofs.Table.{answer_local}
use Rattle.pmtl.proofs.Answers.{value_local}
use Rattle.pmtl.proofs.Seams.{gone_has, has_gone}
use Rattle.pmtl.proofs.Renewed.{Lawful}
use Rattle.pmtl.proofs.History.{Legal, now_run_by, small_clock, run_canonical_by}
use Rattle.pmtl.proofs.Values.{sets_mean_by}

-- two sets with the same members from c on
module _ (c : ℕ) (s s' : Runs) (ok : Canonical s) (ok' : Canonical s') (same : (t : ℕ) → c ≤ t → has s t ≡ has s' t) where
  covers_same : c ≤ MAX → covers c s ≡ covers c s'
  covers_same small =
      same_test _ _
      (λ h. all_covers c s' ok' small (λ t l m. sym (same t l) ∙ covers_all c s h t l m))
      (λ h. all_covers c s ok small (λ t l m. same t l ∙ covers_all c s' h t l m))

  gone_same : gone c s ≡ gone c s'
  gone_same =
      same_test _ _
      (λ h. has_gone c s' ok' (λ t l. sym (same t l) ∙ gone_has c t s ok l h))
      (λ h. has_gone c s ok (λ t l. same t l ∙ gone_has c t s' ok' l h))

-- two states at one clock whose sets have the same members from the clock on
pub record Alike (st st' : State) : Type 0 where
  pub now_same : st.now ≡ st'.now
  pub begun_same : st.begun ≡ st'.begun
  pub small : st.now.clock ≤ MAX
  pub first_ok : (r : ℕ) → Canonical (set_at st r)
  pub second_ok : (r : ℕ) → Canonical (set_at st' r)
  pub members : (r t : ℕ) → st.now.clock ≤ t → has (set_at st r) t ≡ has (set_at st' r) t

-- give the same answers
module _ (b : Rows) (st st' : State) (a : Alike st st') where
  clock_same : st.now.clock ≡ st'.now.clock
  clock_same = ap (λ (n : Snap). n.clock) a.now_same

  covered : (r : ℕ) → covers st.now.clock (set_at st r) ≡ covers st'.now.clock (set_at st' r)
  covered r = covers_same st.now.clock (set_at st r) (set_at st' r) (a.first_ok r) (a.second_ok r) (a.members r) a.small
      ∙ ap (λ c. covers c (set_at st' r)) clock_same

  lapsed : (r : ℕ) → gone st.now.clock (set_at st r) ≡ gone st'.now.clock (set_at st' r)
  lapsed r = gone_same st.now.clock (set_at st r) (set_at st' r) (a.first_ok r) (a.second_ok r) (a.members r)
      ∙ ap (λ c. gone c (set_at st' r)) clock_same

  pub value_alike : Ordered b → (r : ℕ) → value b st r ≡ value b st' r
  value_alike w r = value_local b w st st' (ap (λ (n : Snap). n.atoms) a.now_same) r
      (λ o l. a.members o st.now.clock (omega arith) ∙ ap (has (set_at st' o)) clock_same)

  pub early_alike : (r : ℕ) → early b st r ≡ early b st' r
  unfolding early
  early_alike r = answer_local b Open _ _ r (λ o l f. ap (λ x. early_rule x (map_row f (row_at b o))) (covered o))

  pub settled_alike : (r : ℕ) → settled b st r ≡ settled b st' r
  unfolding settled
  settled_alike r = ap₂ (λ x y. cond x y Open) a.begun_same
      (answer_local b Open _ _ r (λ o l f. ap₂ (λ x y. settled_rule x y (map_row f (row_at b o))) (covered o) (lapsed o)))

-- two monitors on one history, however they renew their sets
begun_run : (renew renew' : Renew) (b : Rows) (h : History) → (run_by renew b h).begun ≡ (run_by renew' b h).begun
unfolding run_by step_by
begun_run renew renew' b [] = refl
begun_run renew renew' b (s ∷ h) = refl

module _ (renew renew' : Renew) (from from' : ℕ → ℕ) (lw : Lawful renew from) (lw' : Lawful renew' from') where
  pub runs_alike : (b : Rows) → Ordered b → (h : History) → Legal b h → Alike (run_by renew b h) (run_by renew' b h)
  runs_alike b w h l =
      let c = (now_of b h).clock in
      record {
        now_same = now_run_by renew b h ∙ sym (now_run_by renew' b h);
        begun_same = begun_run renew renew' b h;
        small = rw (now_run_by renew b h) (small_clock b h l);
        first_ok = run_canonical_by renew lw b h;
        second_ok = run_canonical_by renew' lw' b h;
        members = λ r t n.
            let n' : (now_of b h).clock ≤ t = rw (now_run_by renew b h) at n in
            sets_mean_by renew from lw b w r h l t (omega (arith, lw.now c))
            ∙ sym (sets_mean_by renew' from' lw' b w r h l t (omega (arith, lw'.now c)));
      }
