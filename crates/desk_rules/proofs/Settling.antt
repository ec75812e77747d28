-- The value and the settled answer of a kit after accepted scans. Assumes nothing.
use Prim.Native.Nat.{ℕ, ◌≤◌, ◌<◌}
use native.Mathlib.Omega.{arith}
use mathlib.Core.Path.{◌≡◌, refl, sym, ap, ◌∙◌}
use mathlib.Core.Bool.{Bool, true, false, cond, not, ◌||◌}
use mathlib.Core.List.{List, [], ◌∷◌}
use lib.ListN.{length, get_or}
use Rattle.numbers.specs.Limits.{MAX}
use Rattle.lists.proofs.Tests.{same_test}
use Rattle.numset.specs.Runs.{has, covers}
use Rattle.pmtl.specs.declared.Answer.{Answer}
use Rattle.pmtl.specs.declared.Answer.TheVariants.{False, Open}
use Rattle.pmtl.specs.Book.{map_row, Rows}
use Rattle.pmtl.specs.Book.Row.{never}
use Rattle.pmtl.specs.Sets.{gone}
use Rattle.pmtl.specs.Monitor.{Snap, State, set_at, value, initial_in}
use Rattle.pmtl.specs.Calls.{Call, after_in, after, now_of, accepted}
use Rattle.pmtl.specs.Meaning.{meaning}
use Rattle.pmtl.specs.Past.{run_by, run}
use Rattle.pmtl.specs.Settled.{settled_true, settled_false, settled_rule, settled}
use Rattle.pmtl.proofs.Answers.{settled_before, settled_fix, step_begun}
use Rattle.pmtl.proofs.History.{now_run}
use Rattle.pmtl.proofs.Theorems.{after_is, sets_are_instants, demand_2, covers_is}
use Rattle.desk_rules.specs.Scans.{Kit, kit_at, Scan, windows, stopped, last_hour, Fine}
use Rattle.desk_rules.specs.Rows.{row_of, kit_rows, desk_rows, guarantee}
use Rattle.desk_rules.proofs.Rows.{desk_ordered, desk_length, rest, row_is}
use Rattle.desk_rules.proofs.Places.{windows_length}
use Rattle.desk_rules.proofs.Past.{past, Timely, last_is, last_small}
use Rattle.desk_rules.proofs.Means.{instants_are, guarantee_means, stopped_is}
use Rattle.desk_rules.proofs.Scanned.{calls_of, calls_leave}

module _ (kits : List Kit) (fine : Fine kits) (k : ℕ) (l : k < length kits) where
  abbrev b : Rows
  b = desk_rows (windows kits)

  abbrev x : Kit
  x = kit_at kits k

  inside : k < length (windows kits)
  inside = omega (arith, windows_length kits)

  module _ (es : List Scan) (q : Timely kits es) where
    abbrev ks : List Call
    ks = calls_of kits fine es

    abbrev st : State
    st = after b ks

    leaves : accepted b ks ≡ past kits es
    leaves = calls_leave kits fine es q

    is_run : st ≡ run b (past kits es)
    is_run = after_is b ks ∙ ap (run b) leaves

    clock_is : st.now.clock ≡ last_hour es
    clock_is = ap (λ (s : State). s.now.clock) is_run ∙ ap (λ (s : Snap). s.clock) (now_run b (past kits es)) ∙ last_is kits es

    pub value_is : value b st (guarantee k) ≡ not (stopped x es)
    value_is =
        demand_2 b (desk_ordered (windows kits)) ks (guarantee k)
        ∙ ap (meaning b (guarantee k)) leaves
        ∙ guarantee_means kits fine.apart k l (past kits es)
        ∙ ap not (stopped_is kits fine.apart k l (fine.small k) es q (now_of b (past kits es)).clock (omega (arith, last_is kits es)) (omega (arith, last_is kits es, last_small kits es q)))

    -- the set of the guarantee holds every instant from the clock on, or none
    set_is : (t : ℕ) → last_hour es ≤ t → t ≤ MAX → has (set_at st (guarantee k)) t ≡ stopped x es
    set_is t m n =
        sets_are_instants b (desk_ordered (windows kits)) ks (guarantee k) t (omega (arith, clock_is))
        ∙ rw leaves (instants_are kits fine.apart k l (past kits es) t)
        ∙ stopped_is kits fine.apart k l (fine.small k) es q t m n

    covers_stopped : covers st.now.clock (set_at st (guarantee k)) ≡ stopped x es
    covers_stopped =
        let c = clock_is in
        let m = last_small kits es q in
        let i = covers_is b ks (guarantee k) in
        same_test _ _
        (λ h. sym (set_is (last_hour es) (omega arith) m) ∙ i.0 h (last_hour es) (omega arith) m)
        (λ h. i.1 (λ t y z. set_is t (omega arith) z ∙ h))

    -- no row of the kit but its guarantee ever settles
    module _ (begun : st.begun ≡ true) where
      abbrev ruled : ℕ → Answer
      ruled i = settled_rule (covers st.now.clock (set_at st (row_of k i))) (gone st.now.clock (set_at st (row_of k i)))
          (map_row (settled b st) (get_or (kit_rows k (get_or (windows kits) k 0) (rest (windows kits) k inside)) i never))

      settles : (i : ℕ) → i < 7 → settled b st (row_of k i) ≡ ruled i
      settles i small = settled_fix b (desk_ordered (windows kits)) st begun (row_of k i) (omega (arith, desk_length (windows kits), inside))
          ∙ ap (λ row. settled_rule (covers st.now.clock (set_at st (row_of k i))) (gone st.now.clock (set_at st (row_of k i))) (map_row (settled b st) row)) (row_is (windows kits) k inside i)

      open0 : settled b st (row_of k 0) ≡ Open
      unfolding settled_true settled_false
      open0 = settles 0 (omega arith)

      open1 : settled b st (row_of k 1) ≡ Open
      unfolding settled_true settled_false
      open1 = settles 1 (omega arith)

      open2 : settled b st (row_of k 2) ≡ Open
      unfolding settled_true settled_false
      open2 = settles 2 (omega arith) ∙ rw open1

      open3 : settled b st (row_of k 3) ≡ Open
      unfolding settled_true settled_false
      open3 = settles 3 (omega arith)

      open4 : settled b st (row_of k 4) ≡ Open
      unfolding settled_true settled_false
      open4 = settles 4 (omega arith) ∙ rw (open2, open3)

      open5 : settled b st (row_of k 5) ≡ Open
      unfolding settled_true settled_false
      open5 = settles 5 (omega arith) ∙ rw (open0, open4)

      settled_begun : settled b st (guarantee k) ≡ cond (stopped x es) False Open
      unfolding settled_true settled_false
      settled_begun = settles 6 (omega arith) ∙ rw (open5, covers_stopped) (tail (stopped x es))
        where
          tail : (z : Bool) → cond (z || false) False Open ≡ cond z False Open
          tail true = refl
          tail false = refl

  begun_after : (e : Scan) (es : List Scan) → (run b (past kits (e ∷ es))).begun ≡ true
  unfolding past run_by
  begun_after e es = step_begun b _ _

  pub settled_is : (es : List Scan) → Timely kits es → settled b (after b (calls_of kits fine es)) (guarantee k) ≡ cond (stopped x es) False Open
  unfolding calls_of after_in stopped initial_in
  settled_is [] q = settled_before b (after b []) refl (guarantee k)
  settled_is (e ∷ es) q = settled_begun (e ∷ es) q (ap (λ (s : State). s.begun) (is_run (e ∷ es) q) ∙ begun_after e es)
