-- The second half of demand 2: the original's values and early answers are ours, over every list of calls, and its fault is never met. Assumes nothing.
-- Of a book it is asked that it is one as loading accepts them (`Proper`); the calls are any list, the newest first, refused ones among them.
use Prim.Native.Nat.{ℕ, ◌≤◌, ◌<◌}
use mathlib.Core.Path.{◌≡◌, refl, sym, ap, ap₂, ◌∙◌}
use mathlib.Core.Logic.{◌⊎◌, ◌↔◌}
use mathlib.Core.Bool.{Bool}
use mathlib.Core.List.{List, [], ◌∷◌, map}
use lib.ListN.{length, take, drop}
use Rattle.numset.specs.Runs.{Run}
use Rattle.numbers.specs.Limits.{LAST_TIME, MOST_ATOMS}
use Rattle.pmtl.specs.Book.{Rows, Book, AllBelow, width_of}
use Rattle.pmtl.specs.Monitor.{Snap, State, initial, value}
use Rattle.pmtl.specs.Early.{early}
use Rattle.pmtl.specs.Calls.{Call, time, state, stamped, call, after_in, after, History, now_of, accepted}
use Rattle.pmtl.specs.Past.{run_by, run as state_after}
use Rattle.pmtl.proofs.History.{now_run}
use Rattle.pmtl.proofs.Values.{values_mean}
use Rattle.pmtl.proofs.Theorems.{after_is}
use Rattle.original.specs.Rust.{Ran, Found, each, binary_search_by_key, Increasing, Documented, ◌>>=◌}
use Rattle.original.specs.Rust.Ran.{panic, done}
use Rattle.original.specs.NumSet.{NumSet, contains}
use Rattle.original.specs.ValPmtl.{ValPmtl, output, valuation}
use Rattle.original.specs.PmtlOracle.{PmtlOracle}
use Rattle.original.specs.Formulas.{oracle_of}
use Rattle.original.specs.Proper.{Proper}
use Rattle.original.specs.Replay.{made, replayed, allowed, replayed_all, reached}
use Rattle.original.specs.Agrees.{option_of, none, Follows, Agrees}
use Rattle.original.proofs.Documented.{documented, search_is}
use Rattle.original.proofs.Members.{contains_safe}
use Rattle.original.proofs.Sorted.{split_increases}
use Rattle.original.proofs.Fulls.{Clocks}
use Rattle.original.proofs.Grown.{grown, tree_of, output_grown}
use Rattle.original.proofs.Valuations.{legal, valuation_grown}
use Rattle.original.proofs.Panics.{time_panics, state_panics, stamped_panics}
use Rattle.original.proofs.Extra.{extra_in_state, extra_in_stamped}
use Rattle.original.proofs.Numbers.{number_seven, number_nine, number_either}
use Rattle.original.proofs.Replays.{oracle_at, replay, replay_all}

-- ---- lists of properties
each_same : {A : Type 0} (g : ValPmtl → Ran A) (f : ℕ → ValPmtl) (k : ℕ → A) → ((x : ℕ) → g (f x) ≡ done (k x)) → (xs : List ℕ) → each g (map f xs) ≡ done (map k xs)
unfolding each
each_same g f k e [] = refl
each_same g f k e (x ∷ xs) = rw (e x, each_same g f k e xs)

map_below : {A : Type 0} (n : ℕ) (g : ValPmtl → A) (f : ℕ → ValPmtl) (k : ℕ → A) → ((x : ℕ) → x < n → g (f x) ≡ k x)
    → (xs : List ℕ) → AllBelow n xs → map g (map f xs) ≡ map k xs
map_below n g f k e [] w = refl
map_below n g f k e (x ∷ xs) w = ap₂ ◌∷◌ (e x w.0) (map_below n g f k e xs w.1)

-- ---- the original after a history
reached_is : (b : Rows) (h : History) → reached b h ≡ state_after b h
unfolding reached run_by
reached_is b [] = refl
reached_is b (s ∷ h) = rw (reached_is b h)

module _ (b : Book) (w : Proper b) (h : History) (l : Clocks b.rows h) where
  early_at_lem : (r : ℕ) → r < length b.rows → valuation (grown b.rows h r) (now_of b.rows h).clock ≡ option_of (early b.rows (reached b.rows h) r)
  early_at_lem r k = valuation_grown b.rows w.ordered w.ranges h l r k ∙ ap (λ st. option_of (early b.rows st r)) (sym (reached_is b.rows h))

  value_at_lem : (r : ℕ) → output (grown b.rows h r) (now_of b.rows h).clock ≡ done (value b.rows (reached b.rows h) r)
  value_at_lem r = output_grown b.rows w.ordered h r
      ∙ ap done (sym (values_mean b.rows w.ordered r h (legal b.rows h l)) ∙ ap (λ st. value b.rows st r) (sym (reached_is b.rows h)))

  follows_at : Follows b h (oracle_at b h)
  follows_at = record {
    time = refl;
    tree = grown b.rows h;
    trees = tree_of b.rows w.ordered h;
    assumes_are = refl;
    guarantees_are = refl;
    value_is = output_grown b.rows w.ordered h;
    early_is = early_at_lem;
  }

  agrees_at : Agrees b (reached b.rows h) (oracle_at b h)
  agrees_at = record {
    clock = sym (ap (λ (st : State). st.now.clock) (reached_is b.rows h) ∙ ap (λ (s : Snap). s.clock) (now_run b.rows h));
    values_of_assumes = each_same _ _ _ value_at_lem b.assumes;
    values_of_guarantees = each_same _ _ _ value_at_lem b.guarantees;
    early_of_assumes = map_below (length b.rows) _ _ _ early_at_lem b.assumes w.assumes_there;
    early_of_guarantees = map_below (length b.rows) _ _ _ early_at_lem b.guarantees w.guarantees_there;
  }

-- one original and no other
kept : {A : Type 0} → A → Ran A → A
kept x panic = x
kept x (done a) = a

only : {A : Type 0} (P : A → Type 0) (x y : A) → ◌≡◌ {A = Ran A} (done x) (done y) → P x → P y
unfolding kept
only P x y e p = let same : x ≡ y = ap (kept x) e in rw (sym same) p

both : {P Q R : Type 0} → P ↔ Q → R ↔ Q → P ↔ R
both e f = (λ p. f.1 (e.0 p), λ r. e.1 (f.0 r))

-- ---- the four statements, over the calls that our monitor accepts
module _ (b : Book) (w : Proper b) (calls : List Call) where
  h : History
  h = accepted b.rows calls

  is : replayed b calls ≡ done (oracle_at b h)
  unfolding h
  is = (replay b w.ordered w.ranges calls).is

  clocks : Clocks b.rows h
  unfolding h
  clocks = (replay b w.ordered w.ranges calls).clocks

  after_reached : reached b.rows h ≡ after b.rows calls
  unfolding h
  after_reached = reached_is b.rows h ∙ sym (after_is b.rows calls)

  -- 1. THE ORIGINAL NEVER PANICS on the accepted calls
  pub never_panics : (o : PmtlOracle) × (replayed b calls ≡ done o)
  never_panics = (oracle_at b h, is)

  module _ (o : PmtlOracle) (made-them : replayed b calls ≡ done o) where
    -- 2. after them EACH OF ITS SETS HAS EXACTLY THE INSTANTS THAT REFERENCE 3.5 DEFINES: the fault is never met
    pub sets_are_instants : Follows b (accepted b.rows calls) o
    unfolding h
    sets_are_instants = only (Follows b h) (oracle_at b h) o (sym is ∙ made-them) (follows_at b w h clocks)

    -- 3. `final_output_*` ARE OUR VALUES AND `output_*` OUR EARLY ANSWERS, property by property, in order
    pub answers_agree : Agrees b (after b.rows calls) o
    answers_agree = rw (sym after_reached) (only (Agrees b (reached b.rows h)) (oracle_at b h) o (sym is ∙ made-them) (agrees_at b w h clocks))

-- 4. SO ALSO BEFORE THE FIRST CALL
pub before_the_first_call : (b : Book) → Proper b → Agrees b (initial b.rows) (oracle_of b)
unfolding replayed after_in
before_the_first_call b w = answers_agree b w [] (oracle_of b) refl

-- ---- and beside them
module _ (b : Book) (w : Proper b) (calls : List Call) where
  all : History
  all = allowed b.rows calls

  -- no oracle call meets the fault: the same over all calls that REFERENCE 5.3 allows, whatever number of runs their sets have
  pub with_any_room : (o : PmtlOracle) × (replayed_all b calls ≡ done o)
      × Follows b (allowed b.rows calls) o × Agrees b (reached b.rows (allowed b.rows calls)) o
  unfolding all
  with_any_room = let at = replay_all b w.ordered w.ranges calls in
      (oracle_at b all, at.is, follows_at b w all at.clocks, agrees_at b w all at.clocks)

  -- our 7 is where the assertion on time panics
  pub panics_as_7 : (t : ℕ) → t ≤ LAST_TIME → ((replayed b calls >>= λ o. made o (time t)) ≡ panic) ↔ ((call b.rows (after b.rows calls) (time t)).number ≡ 7)
  unfolding h
  panics_as_7 t k = rw (is b w calls)
      (both (time_panics b w.ordered w.ranges (h b w calls) (clocks b w calls) t k)
      (number_seven b.rows (after b.rows calls) (now_of b.rows (h b w calls)).clock
      (ap (λ (st : State). st.now.clock) (after_is b.rows calls) ∙ ap (λ (s : Snap). s.clock) (now_run b.rows (h b w calls))) t))

  -- our 9 is where `state[*atom]` panics
  pub panics_as_9 : (bytes : List ℕ) → length bytes ≤ MOST_ATOMS
      → ((replayed b calls >>= λ o. made o (state bytes)) ≡ panic) ↔ ((call b.rows (after b.rows calls) (state bytes)).number ≡ 9)
  unfolding h
  panics_as_9 bytes k = rw (is b w calls)
      (both (state_panics b w.ordered w.ranges (h b w calls) (clocks b w calls) w.used bytes) (number_nine b.rows (after b.rows calls) bytes k))

  -- and a stamped call panics where ours is refused with the one or the other
  pub panics_as_7_or_9 : (t : ℕ) → t ≤ LAST_TIME → (bytes : List ℕ) → length bytes ≤ MOST_ATOMS
      → ((replayed b calls >>= λ o. made o (stamped t bytes)) ≡ panic)
      ↔ (((call b.rows (after b.rows calls) (stamped t bytes)).number ≡ 7) ⊎ ((call b.rows (after b.rows calls) (stamped t bytes)).number ≡ 9))
  unfolding h
  panics_as_7_or_9 t k bytes n = rw (is b w calls)
      (both (stamped_panics b w.ordered w.ranges (h b w calls) (clocks b w calls) w.used t k bytes)
      (number_either b.rows (after b.rows calls) t bytes k n (now_of b.rows (h b w calls)).clock
      (ap (λ (st : State). st.now.clock) (after_is b.rows calls) ∙ ap (λ (s : Snap). s.clock) (now_run b.rows (h b w calls)))))

  -- where ours is refused with 16, it goes on: what a state has past the largest atom is passed over
  pub extra_passed_over : (bytes : List ℕ)
      → (replayed b calls >>= λ o. made o (state bytes)) ≡ (replayed b calls >>= λ o. made o (state (take (width_of b.rows) bytes)))
  unfolding h
  extra_passed_over bytes = rw (is b w calls) (extra_in_state b w.ordered w.ranges (h b w calls) (clocks b w calls) bytes)

  pub extra_passed_over_stamped : (t : ℕ) → t ≤ LAST_TIME → (bytes : List ℕ)
      → (replayed b calls >>= λ o. made o (stamped t bytes)) ≡ (replayed b calls >>= λ o. made o (stamped t (take (width_of b.rows) bytes)))
  unfolding h
  extra_passed_over_stamped t k bytes = rw (is b w calls) (extra_in_stamped b w.ordered w.ranges (h b w calls) (clocks b w calls) t k bytes)

-- where keys increase, as those of the sets of `Follows` do, the search does what its page says, and nothing else does
pub search_is_documented : {A : Type 0} (d : A) (key : A → ℕ) (xs : List A) (k : ℕ) → Increasing d key xs
    → Documented d key xs k (binary_search_by_key xs k key) × ((f : Found) → Documented d key xs k f → f ≡ binary_search_by_key xs k key)
search_is_documented d key xs k w = (documented d key xs k w, search_is d key xs k w)

-- what `split_off` hands back of a sorted list is sorted too, so that the second search is one of those
pub split_stays_sorted : (key : Run → ℕ) (set : NumSet) (i : ℕ) → Increasing none key set → Increasing none key (drop i set)
split_stays_sorted = split_increases

-- `contains` panics on no set at all
pub contains_never_panics : (set : NumSet) (t : ℕ) → (x : Bool) × (contains set t ≡ done x)
contains_never_panics = contains_safe
