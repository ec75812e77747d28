-- The laws of `changed`: it is what the definitions say of a set, and what the code asks and does, arm by arm. Assumes nothing.
use Prim.Native.Nat.{ℕ, zero, suc, ◌+◌, ◌*◌, ◌≤◌, ◌<◌, min}
use mathlib.Core.Path.{◌≡◌, refl, sym, ap, ap₂, ◌∙◌}
use mathlib.Core.Logic.{◌⊎◌, ⊎_elim}
use mathlib.Core.Bool.{Bool, true, false, cond, not, or-false, true≢false}
use mathlib.Core.List.{List, []}
use native.Mathlib.Omega.{arith}
use lib.ListN.{length}
use borrow.Author.Tests.{lt-ltb}
use Rattle.numset.specs.Runs.{Runs, Under, Canonical, within, has, kept, insert, union, fits}
use Rattle.lists.proofs.Tests.{lt_or_ge}
use Rattle.numset.proofs.Union.{union_has, union_under, union_none, union_some}
use Rattle.numset.proofs.Kept.{kept_under, kept_has, kept_length}
use Rattle.ring.specs.Ring.{turn_of, ringed, Rolling, rolled, turn_after}
use Rattle.ring.proofs.Again.{kept_ring, kept_turn, kept_runs, kept_room, bare_ring, bare_turn, bare_runs}
use Rattle.pmtl.specs.Book.{Range, start, stop, Row}
use Rattle.pmtl.specs.Book.Row.{historically, once, since}
use Rattle.pmtl.specs.Sets.{stays_if, added_if, renewed, lasted, ordinary, lasting, renewed_in, set_rule_by}
use Rattle.set_change.specs.Change.{mode_of, changed, growing, spanned, spanned_if, counted_from, mode_in}

-- ---- what the definitions say of a set: in a step that counts the stretch since the clock before, or in one that counts from the clock alone
mode_lasted : (before : ℕ) (stays adds : Bool) (g : Range) (c : ℕ) (s : Runs)
    → let k = spanned (mode_of stays adds) in lasted before stays adds g c s ≡ changed k (start g (counted_from (min (before + 1) c) c k)) (stop g c) c s
unfolding lasted added_if stays_if changed
mode_lasted before true true g c s = refl
mode_lasted before true false g c s = refl
mode_lasted before false true g c s = refl
mode_lasted before false false g c s = refl

mode_renewed : (first : ℕ) (stays adds : Bool) (g : Range) (c : ℕ) (s : Runs)
    → let k = mode_of stays adds in renewed stays adds g c s ≡ changed k (start g (counted_from first c k)) (stop g c) c s
unfolding renewed added_if stays_if changed
mode_renewed first true true g c s = refl
mode_renewed first true false g c s = refl
mode_renewed first false true g c s = refl
mode_renewed first false false g c s = refl

mode_in_lem : (spans : Bool) (before : ℕ) (stays adds : Bool) (g : Range) (c : ℕ) (s : Runs)
    → let k = spanned_if spans (mode_of stays adds) in
    renewed_in (cond spans lasting ordinary) before stays adds g c s ≡ changed k (start g (counted_from (min (before + 1) c) c k)) (stop g c) c s
mode_in_lem true before stays adds g c s = mode_lasted before stays adds g c s
mode_in_lem false before stays adds g c s = mode_renewed (min (before + 1) c) stays adds g c s

module _ (spans : Bool) (before c : ℕ) (s : Runs) (g : Range) where
  abbrev in_mode : ℕ → Runs
  in_mode k = changed k (start g (counted_from (min (before + 1) c) c k)) (stop g c) c s

  abbrev by_rule : Row Bool → Runs
  by_rule row = set_rule_by (renewed_in (cond spans lasting ordinary) before) c s row

  pub set_historically : (v : Bool) → by_rule (historically g v) ≡ in_mode (spanned_if spans (mode_in (historically g v)))
  unfolding set_rule_by mode_in
  set_historically v = mode_in_lem spans before true (not v) g c s

  pub set_once : (v : Bool) → by_rule (once g v) ≡ in_mode (spanned_if spans (mode_in (once g v)))
  unfolding set_rule_by mode_in
  set_once v = mode_in_lem spans before true v g c s

  pub set_since : (l r : Bool) → by_rule (since g l r) ≡ in_mode (spanned_if spans (mode_in (since g l r)))
  unfolding set_rule_by mode_in
  set_since l r = mode_in_lem spans before l r g c s

-- ---- change by change
module _ (l u c : ℕ) (rs : Runs) where
  pub changed_0 : (k : ℕ) → k ≡ 0 → changed k l u c rs ≡ kept c rs
  unfolding changed
  changed_0 k e = rw e

  pub changed_1 : (k : ℕ) → growing k ≡ true → changed k l u c rs ≡ union l u (kept c rs)
  unfolding changed
  changed_1 zero e = absurd (true≢false (sym e))
  changed_1 (suc zero) e = refl
  changed_1 (suc (suc zero)) e = absurd (true≢false (sym e))
  changed_1 (suc (suc (suc zero))) e = absurd (true≢false (sym e))
  changed_1 (suc (suc (suc (suc k)))) e = refl

  pub changed_2 : (k : ℕ) → k ≡ 2 → changed k l u c rs ≡ []
  unfolding changed
  changed_2 k e = rw e

  pub changed_3 : (k : ℕ) → k ≡ 3 → changed k l u c rs ≡ union l u []
  unfolding changed
  changed_3 k e = rw e

-- a change by which the set stays, and that is not the one which adds nothing
pub grows_rest : (k : ℕ) → (k ≡ 0 → ⊥) → (k < 2) ⊎ (4 ≤ k) → growing k ≡ true
grows_rest zero x w = absurd (x refl)
grows_rest (suc zero) x w = refl
grows_rest (suc (suc zero)) x w = absurd (⊎_elim (λ h. omega arith) (λ h. omega arith) w)
grows_rest (suc (suc (suc zero))) x w = absurd (⊎_elim (λ h. omega arith) (λ h. omega arith) w)
grows_rest (suc (suc (suc (suc k)))) x w = refl

-- ---- room
one_run : (l u : ℕ) → length (union l u []) ≤ 1
unfolding insert
one_run l u = ⊎_elim (λ p. rw (union_none l u [] p) (omega arith)) (λ p. rw (union_some l u [] p) (omega arith)) (lt_or_ge u l)

kept_fits : (c : ℕ) (rs : Runs) → 2 * length rs < 129 → fits 129 (kept c rs) ≡ true
kept_fits c rs h = lt-ltb (2 * length (kept c rs)) 129 (omega (arith, kept_length c rs))

-- every change has room but one that makes the set grow
pub room_else : (k l u c : ℕ) (rs : Runs) → 2 * length rs < 129 → growing k ≡ false → true ≡ fits 129 (changed k l u c rs)
unfolding changed
room_else zero l u c rs h f = sym (kept_fits c rs h)
room_else (suc zero) l u c rs h f = absurd (true≢false f)
room_else (suc (suc zero)) l u c rs h f = refl
room_else (suc (suc (suc zero))) l u c rs h f = sym (lt-ltb (2 * length (union l u [])) 129 (omega (arith, one_run l u)))
room_else (suc (suc (suc (suc k)))) l u c rs h f = absurd (true≢false f)

pub room_grown : (k l u c : ℕ) (rs : Runs) {b : Bool} → b ≡ fits 129 (union l u (kept c rs)) → growing k ≡ true → b ≡ fits 129 (changed k l u c rs)
room_grown k l u c rs e q = e ∙ sym (ap (λ (s : Runs). fits 129 s) (changed_1 l u c rs k q))

-- a change keeps runs in order
pub changed_under : (top k l u c : ℕ) (rs : Runs) → Under top rs → u + 1 < top → Under top (changed k l u c rs)
unfolding changed Under
changed_under top zero l u c rs w f = kept_under c top rs w
changed_under top (suc zero) l u c rs w f = union_under top l u (kept c rs) (kept_under c top rs w) f
changed_under top (suc (suc zero)) l u c rs w f = tt
changed_under top (suc (suc (suc zero))) l u c rs w f = union_under top l u [] tt f
changed_under top (suc (suc (suc (suc k)))) l u c rs w f = union_under top l u (kept c rs) (kept_under c top rs w) f

-- ---- `look_ahead`, arm by arm
none_has : (l u t : ℕ) → has (union l u []) t ≡ within l u t
unfolding has Canonical
none_has l u t = union_has l u [] t tt ∙ or-false (within l u t)

module _ (k l u c : ℕ) (rs : Runs) where
  -- the clock is in what is kept exactly where it is in the set
  here_same : has (kept c rs) c ≡ has rs c
  here_same = kept_has c c rs (omega arith)

  pub will_0 : {b : Bool} → b ≡ has rs c → k ≡ 0 → b ≡ has (changed k l u c rs) c
  will_0 e q = e ∙ sym (ap (λ (s : Runs). has s c) (changed_0 l u c rs k q) ∙ here_same)

  pub will_1 : {b : Bool} → b ≡ has (union l u (kept c rs)) c → growing k ≡ true → b ≡ has (changed k l u c rs) c
  will_1 e q = e ∙ sym (ap (λ (s : Runs). has s c) (changed_1 l u c rs k q))

  pub will_2 : k ≡ 2 → false ≡ has (changed k l u c rs) c
  unfolding has
  will_2 q = sym (ap (λ (s : Runs). has s c) (changed_2 l u c rs k q))

  pub will_3 : {b : Bool} → b ≡ within l u c → k ≡ 3 → b ≡ has (changed k l u c rs) c
  will_3 e q = e ∙ sym (ap (λ (s : Runs). has s c) (changed_3 l u c rs k q) ∙ none_has l u c)

-- ---- `change`, arm by arm
module _ {m : List ℕ} (k l u c : ℕ) (g : Rolling m) (f : fits 129 (changed k l u c (ringed m)) ≡ true) where
  -- once the old runs are dropped
  module _ {m₁ : List ℕ} (d : m₁ ≡ rolled (turn_after c m) (kept c (ringed m))) where
    pub change_0 : k ≡ 0 → m₁ ≡ rolled (turn_after c m) (changed k l u c (ringed m))
    change_0 q = d ∙ sym (ap (rolled (turn_after c m)) (changed_0 l u c (ringed m) k q))

    module _ (q : growing k ≡ true) where
      pub grows_room : fits 129 (union l u (ringed m₁)) ≡ true
      grows_room = kept_room g c d l u (sym (ap (λ (s : Runs). fits 129 s) (changed_1 l u c (ringed m) k q)) ∙ f)

      pub change_1 : {m' : List ℕ} → m' ≡ rolled (turn_of m₁) (union l u (ringed m₁)) → m' ≡ rolled (turn_after c m) (changed k l u c (ringed m))
      change_1 a = a ∙ ap₂ rolled (kept_turn g c d) (ap (union l u) (kept_runs g c d) ∙ sym (changed_1 l u c (ringed m) k q))

    -- and once the others are, too
    module _ {m₂ : List ℕ} (e : m₂ ≡ rolled (turn_of m₁) []) where
      pub bare : Rolling m₂
      bare = bare_ring (kept_ring g c d) e

      pub change_2 : k ≡ 2 → m₂ ≡ rolled (turn_after c m) (changed k l u c (ringed m))
      change_2 q = e ∙ ap₂ rolled (kept_turn g c d) (sym (changed_2 l u c (ringed m) k q))

      pub one_fits : fits 129 (union l u (ringed m₂)) ≡ true
      one_fits = ap (λ (rs : Runs). fits 129 (union l u rs)) (bare_runs (kept_ring g c d) e) ∙ lt-ltb (2 * length (union l u [])) 129 (omega (arith, one_run l u))

      pub change_3 : {m' : List ℕ} → m' ≡ rolled (turn_of m₂) (union l u (ringed m₂)) → k ≡ 3 → m' ≡ rolled (turn_after c m) (changed k l u c (ringed m))
      change_3 a q =
          a ∙ ap₂ rolled (bare_turn (kept_ring g c d) e ∙ kept_turn g c d) (ap (union l u) (bare_runs (kept_ring g c d) e) ∙ sym (changed_3 l u c (ringed m) k q))
