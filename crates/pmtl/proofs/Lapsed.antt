-- What settled while the rules asked for an empty set, and everything was kept, settles the same under the rules as they are: no slip that printed
-- before fails to print.
-- Assumes nothing.
use Prim.Native.Nat.{ℕ, ◌<◌, ◌≤◌}
use native.Mathlib.Omega.{arith}
use native.Mathlib.Decide.{dec_lt}
use mathlib.Core.Path.{◌≡◌, refl, ◌∙◌}
use mathlib.Core.Logic.{◌↔◌}
use mathlib.Core.Bool.{Bool, true, false, not, false≢true}
use mathlib.Core.List.{List, [], ◌∷◌}
use lib.ListN.{length}
use Rattle.numbers.specs.Limits.{MAX}
use Rattle.numset.specs.Runs.{Runs, covers, Canonical}
use Rattle.pmtl.specs.declared.Answer.{Answer}
use Rattle.pmtl.specs.declared.Answer.TheVariants.{Open}
use Rattle.pmtl.specs.Answer.{is_true, is_false, known, decided}
use Rattle.pmtl.specs.Book.{Row, map_row, Rows, row_at, Below, Ordered}
use Rattle.pmtl.specs.Book.Row.{never, always, atom, conj, disj, neg, implies, historically, once, since}
use Rattle.pmtl.specs.Sets.{Gone, gone, renewed_all}
use Rattle.pmtl.specs.Monitor.{State, set_at}
use Rattle.pmtl.specs.Early.{from_now}
use Rattle.pmtl.specs.Settled.{settled_true, settled_false, settled_rule, settled}
use Rattle.pmtl.specs.Kept.{keeps_all}
use Rattle.pmtl.specs.Lapsed.{is_empty, settled_first}
use Rattle.pmtl.specs.Calls.{Call, after, accepted}
use Rattle.lists.proofs.Tests.{and_mono, or_mono}
use Rattle.pmtl.proofs.Table.{by_rows, answer_in, answer_out}
use Rattle.pmtl.proofs.Seams.{gone_none, gone_iff}
use Rattle.pmtl.proofs.Answers.{settled_fix}
use Rattle.pmtl.proofs.Settled.{Stays, open_stays, every_stays, some_stays, to_stays, tests_apart, covers_not_gone}
use Rattle.pmtl.proofs.Renewed.{all_lawful}
use Rattle.pmtl.proofs.History.{small_clock, now_run_by, run_canonical_by}
use Rattle.pmtl.proofs.Calls.{trail}
use Rattle.pmtl.proofs.Theorems.{sets_are_canonical}
use Rattle.pmtl.proofs.Kept.{settled_stays}

empty_gone : (c : ℕ) (s : Runs) → is_empty s ≡ true → gone c s ≡ true
unfolding is_empty
empty_gone c [] h = gone_none c
empty_gone c (r ∷ rs) h = absurd (false≢true h)

same : (a : Bool) → a ≡ true → a ≡ true
same a h = h

-- the tests grow with whether the set is gone, and with the operands' answers
module _ (r : ℕ) (a b : ℕ → Answer) (below : (o : ℕ) → o < r → Stays (a o) (b o)) (cv gn gn' : Bool) (more : gn ≡ true → gn' ≡ true) where
  true_grows : (row : Row ℕ) → Below r row → settled_true cv gn (map_row a row) ≡ true → settled_true cv gn' (map_row b row) ≡ true
  unfolding settled_true
  true_grows never w = λ h. h
  true_grows always w = λ h. h
  true_grows (atom n) w = λ h. h
  true_grows (conj os) w = every_stays r a b is_true (λ o l. (below o l).0) os w
  true_grows (disj os) w = some_stays r a b is_true (λ o l. (below o l).0) os w
  true_grows (neg o) w = (below o w).1
  true_grows (implies x y) w = or_mono _ _ _ _ (below y w.1).0 (below x w.0).1
  true_grows (historically g o) w = and_mono _ _ _ _ (below o w).0 more
  true_grows (once g o) w = or_mono _ _ _ _ (same cv) (and_mono _ _ _ _ (below o w).0 (same (from_now g)))
  true_grows (since g x y) w = or_mono _ _ _ _ (and_mono _ _ _ _ (below x w.0).0 (same cv)) (and_mono _ _ _ _ (below y w.1).0 (same (from_now g)))

  false_grows : (row : Row ℕ) → Below r row → settled_false cv gn (map_row a row) ≡ true → settled_false cv gn' (map_row b row) ≡ true
  unfolding settled_false
  false_grows never w = λ h. h
  false_grows always w = λ h. h
  false_grows (atom n) w = λ h. h
  false_grows (conj os) w = some_stays r a b is_false (λ o l. (below o l).1) os w
  false_grows (disj os) w = every_stays r a b is_false (λ o l. (below o l).1) os w
  false_grows (neg o) w = (below o w).0
  false_grows (implies x y) w = and_mono _ _ _ _ (below y w.1).1 (below x w.0).0
  false_grows (historically g o) w = or_mono _ _ _ _ (same cv) (and_mono _ _ _ _ (below o w).1 (same (from_now g)))
  false_grows (once g o) w = and_mono _ _ _ _ (below o w).1 more
  false_grows (since g x y) w = or_mono _ _ _ _ (and_mono _ _ _ _ (below y w.1).1 more) (and_mono _ _ _ _ (below x w.0).1 (same (not (from_now g))))

apart_stays : (y n y' n' : Bool) → (y ≡ true → y' ≡ true) → (n ≡ true → n' ≡ true) → (y' ≡ true → n' ≡ true → ⊥) → Stays (decided y n) (decided y' n')
apart_stays true n true n' f g h = (λ x. x, λ x. absurd (false≢true x))
apart_stays true n false n' f g h = absurd (false≢true (f refl))
apart_stays false true true n' f g h = absurd (h refl (g refl))
apart_stays false true false true f g h = (λ x. x, λ x. x)
apart_stays false true false false f g h = absurd (false≢true (g refl))
apart_stays false false y' n' f g h = (λ x. absurd (false≢true x), λ x. absurd (false≢true x))

module _ (b : Rows) (w : Ordered b) (st : State) (ok : (r : ℕ) → Canonical (set_at st r)) (small : st.now.clock ≤ MAX) where
  abbrev cv : ℕ → Bool
  cv r = covers st.now.clock (set_at st r)

  abbrev gn : ℕ → Bool
  gn r = gone st.now.clock (set_at st r)

  first_fix : st.begun ≡ true → (r : ℕ) → r < length b → settled_first b st r ≡ settled_rule (cv r) (is_empty (set_at st r)) (map_row (settled_first b st) (row_at b r))
  unfolding settled_first
  first_fix e r h = rw e (answer_in b Open (λ n row. settled_rule (cv n) (is_empty (set_at st n)) row) w r h)

  first_out : st.begun ≡ true → (r : ℕ) → length b ≤ r → settled_first b st r ≡ Open
  unfolding settled_first
  first_out e r h = rw e (answer_out b Open (λ n row. settled_rule (cv n) (is_empty (set_at st n)) row) r h)

  first_before : st.begun ≡ false → (r : ℕ) → settled_first b st r ≡ Open
  unfolding settled_first
  first_before e r = rw e

  first_stays : st.begun ≡ true → (r : ℕ) → Stays (settled_first b st r) (settled b st r)
  first_stays e = by_rows (λ r. Stays (settled_first b st r) (settled b st r)) λ r below. go r below (dec_lt r (length b))
    where
      go : (r : ℕ) → ((o : ℕ) → o < r → Stays (settled_first b st o) (settled b st o)) → Dec (r < length b) → Stays (settled_first b st r) (settled b st r)
      go r below (yes l) = rw (first_fix e r l, settled_fix b w st e r l) (apart_stays _ _ _ _
          (true_grows r (settled_first b st) (settled b st) below (cv r) (is_empty (set_at st r)) (gn r) (empty_gone st.now.clock (set_at st r)) (row_at b r) (w r))
          (false_grows r (settled_first b st) (settled b st) below (cv r) (is_empty (set_at st r)) (gn r) (empty_gone st.now.clock (set_at st r)) (row_at b r) (w r))
          (tests_apart (cv r) (gn r) (covers_not_gone st.now.clock (set_at st r) (ok r) small) (map_row (settled b st) (row_at b r))))
      go r below (no l) = open_stays (settled_first b st r) (settled b st r) (first_out e r (omega arith))

  either : (x : Bool) → st.begun ≡ x → (r : ℕ) → Stays (settled_first b st r) (settled b st r)
  either true e r = first_stays e r
  either false e r = open_stays (settled_first b st r) (settled b st r) (first_before e r)

  pub first_settles : (r : ℕ) (x : Bool) → settled_first b st r ≡ known x → settled b st r ≡ known x
  first_settles r x = to_stays b w (settled_first b st r) (settled b st r) x (either st.begun refl r)

-- whatever settled under the first rule settles the same
pub settled_as_before : (b : Rows) → Ordered b → (calls : List Call) (r : ℕ) (x : Bool) → settled_first b (keeps_all b calls) r ≡ known x → settled b (after b calls) r ≡ known x
settled_as_before b w calls r x e =
    settled_stays b calls w r
    ∙ first_settles b w (keeps_all b calls) (run_canonical_by renewed_all all_lawful b (accepted b calls))
    (rw (now_run_by renewed_all b (accepted b calls)) (small_clock b (accepted b calls) (trail b calls).legal)) r x e

-- the test says that the set has no instant at or after the clock
pub gone_is : (b : Rows) (calls : List Call) (r : ℕ) → (gone (after b calls).now.clock (set_at (after b calls) r) ≡ true) ↔ Gone (after b calls).now.clock (set_at (after b calls) r)
gone_is b calls r = gone_iff (after b calls).now.clock (set_at (after b calls) r) (sets_are_canonical b calls r)
