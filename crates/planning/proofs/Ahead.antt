-- The sets as modes leave them, and a step from there: two changes are one. Assumes nothing.
use Prim.Native.Nat.{ℕ, zero, suc, ◌+◌, ◌≤◌, ◌<◌, min}
use native.Mathlib.Omega.{arith}
use mathlib.Core.Path.{◌≡◌, refl, sym, ap, ◌∙◌}
use mathlib.Core.Logic.{⊎_elim}
use mathlib.Core.Bool.{Bool, true, false}
use mathlib.Core.List.{List, []}
use lib.ListN.{get_or, replicate}
use borrow.Author.Tests.{le-leb}
use Rattle.numbers.specs.Limits.{LAST_TIME}
use Rattle.lists.proofs.Tests.{lt_or_ge}
use Rattle.lists.proofs.Listed.{listed_at}
use Rattle.numset.specs.Runs.{Runs}
use Rattle.ring.specs.Ring.{ringed}
use Rattle.numset.proofs.Laws.{good_canonical}
use Rattle.pmtl.specs.Book.{map_row, start, stop}
use Rattle.pmtl.specs.Sets.{Renew, set_rule_by}
use Rattle.pmtl.specs.Monitor.{State, set_at}
use Rattle.pmtl.proofs.Renewed.{renewed_now}
use Rattle.pmtl.proofs.Answers.{step_same}
use Rattle.memory.specs.Memory.{row_count, clock_of, temporals, way_word, kind_at, slot_at, owner_at, slot_words, row_of, rows_of, is_one, way_of, state_of, range_at}
use Rattle.memory.specs.Kept.{Sound}
use Rattle.memory.proofs.Rows.{rows_length, row_at_lem}
use Rattle.set_change.specs.Change.{changed, spanned_if, both_of, mode_in}
use Rattle.set_change.proofs.AsOne.{changed_next, stays_both, row_mode_small}
use Rattle.planning.specs.Plan.{snap_of, step_of, own_renew, spans_in, renew_over, counts_from, set_after, set_ahead, ahead, Unplanned, Leading}
use Rattle.planning.proofs.Rules.{no_set, changed_set, set_at_lem, set_of_slot}

module _ (m : List ℕ) (c : ℕ) (modes : List ℕ) (r : ℕ) where
  pub ahead_at : r < row_count m → set_at (ahead m c modes) r ≡ set_ahead m c modes r
  unfolding ahead
  ahead_at h = listed_at (set_ahead m c modes) [] (row_count m) r h

  pub ahead_slot : 7 ≤ kind_at m r → set_ahead m c modes r ≡ set_after m c (get_or modes (slot_at m r) 0) (slot_at m r)
  unfolding set_ahead
  ahead_slot k = rw (le-leb 7 (kind_at m r) k)

module _ {m : List ℕ} (sound : Sound m) {c : ℕ} (small : c ≤ LAST_TIME) where
  module _ {r : ℕ} (h : r < row_count m) (k : 7 ≤ kind_at m r) where
    abbrev slot : ℕ
    slot = slot_at m r

    -- a mode at the row's own range
    abbrev by_mode : ℕ → Runs → Runs
    by_mode mode s = changed mode (start (range_at m r) (counts_from m c mode)) (stop (range_at m r) c) c s

    own : (mode : ℕ) → set_after m c mode slot ≡ by_mode mode (ringed (slot_words m slot))
    own mode = ap (λ (o : ℕ). changed mode (start (range_at m o) (counts_from m c mode)) (stop (range_at m o) c) c (ringed (slot_words m slot))) ((sound.book.rows r h).owner k)

    -- what the rule makes of a set that stands as a mode leaves it
    pub rule_both : (spans : Bool) (modes : List ℕ) → Leading m modes spans r → (f : ℕ → Bool)
        → set_rule_by (renew_over m spans) c (set_ahead m c modes r) (map_row f (row_of m r)) ≡ set_after m c (spanned_if spans (both_of (get_or modes slot 0) (mode_in (map_row f (row_of m r))))) slot
    rule_both spans modes leads f =
        let row = sound.book.rows r h in
        let few = sound.book.temporal_few in
        let lt = row.slot k in
        let first : ℕ = get_or modes slot 0 in
        let second : ℕ = mode_in (map_row f (row_of m r)) in
        changed_set spans (clock_of m) c (set_ahead m c modes r) f m r k row.kind
        ∙ ap (by_mode (spanned_if spans second)) (ahead_slot m c modes r k ∙ own first)
        ∙ changed_next spans (range_at m r) (min (clock_of m + 1) c) c (omega arith) (omega arith) (ringed (slot_words m slot)) (good_canonical (sound.sets slot (omega arith)).good) first second
        (λ e. leads.none e k) (row_mode_small (map_row f (row_of m r)))
        ∙ sym (own (spanned_if spans (both_of first second)))

    -- and of the set that stands there, where no change is planned
    pub rule_none : (spans : Bool) (modes : List ℕ) → Unplanned m modes → (f : ℕ → Bool)
        → set_rule_by (renew_over m spans) c (set_ahead m c modes r) (map_row f (row_of m r)) ≡ set_rule_by (renew_over m spans) c (set_at (state_of m) r) (map_row f (row_of m r))
    rule_none spans modes none f =
        let row = sound.book.rows r h in
        let second : ℕ = mode_in (map_row f (row_of m r)) in
        rule_both spans modes (record { none = λ e q. none.none slot (row.slot k) }) f
        ∙ ap (λ (q : ℕ). set_after m c (spanned_if spans (both_of q second)) slot) (none.none slot (row.slot k))
        ∙ ap (λ (q : ℕ). set_after m c (spanned_if spans q) slot) (stays_both second (row_mode_small (map_row f (row_of m r))))
        ∙ own (spanned_if spans second)
        ∙ sym (changed_set spans (clock_of m) c (ringed (slot_words m slot)) f m r k row.kind)
        ∙ ap (λ (s : Runs). set_rule_by (renew_over m spans) c s (map_row f (row_of m r))) (sym (set_at_lem m r h ∙ set_of_slot m r k))

  -- a state whose sets a step changes as it does those that the modes leave: the step is the same
  ahead_step : (renew renew' : Renew) (modes : List ℕ) (st : State) (atoms : List ℕ) → st.way ≡ (state_of m).way
      → ((r : ℕ) → r < row_count m → 7 ≤ kind_at m r → (f : ℕ → Bool) → set_rule_by renew c (set_ahead m c modes r) (map_row f (row_of m r)) ≡ set_rule_by renew' c (set_at st r) (map_row f (row_of m r)))
      → step_of m renew (ahead m c modes) c atoms ≡ step_of m renew' st c atoms
  unfolding ahead
  ahead_step renew renew' modes st atoms own same = step_same renew renew' (rows_of m) (ahead m c modes) st (snap_of c atoms) (sym own) (λ r l f.
      let h : r < row_count m = rw (← rows_length m) l in
      rw (row_at_lem m r h)
      (⊎_elim
      (λ (k : kind_at m r < 7). no_set renew c (set_at (ahead m c modes) r) f m r k ∙ sym (no_set renew' c (set_at st r) f m r k))
      (λ (k : 7 ≤ kind_at m r). ap (λ (s : Runs). set_rule_by renew c s (map_row f (row_of m r))) (ahead_at m c modes r h) ∙ same r h k f)
      (lt_or_ge (kind_at m r) 7)))

  -- with no step planned yet, the state that the memory holds, and its own next step; one with fresh atoms is at the clock that stands there
  pub ahead_none : (fresh : Bool) → (fresh ≡ true → c ≡ clock_of m) → (modes : List ℕ) → Unplanned m modes → (atoms : List ℕ)
      → step_of m (renew_over m (spans_in m fresh)) (ahead m c modes) c atoms ≡ step_of m (own_renew (state_of m)) (state_of m) c atoms
  unfolding state_of way_of
  ahead_none true here modes none atoms = ahead_step (renew_over m false) (own_renew (state_of m)) modes (state_of m) atoms refl (λ r h k f.
      rule_none h k false modes none f ∙ sym (renewed_now (way_of m) (clock_of m) c (set_at (state_of m) r) (omega (arith, here refl)) (map_row f (row_of m r))))
  ahead_none false here modes none atoms = ahead_step (renew_over m (is_one (way_word m))) (own_renew (state_of m)) modes (state_of m) atoms refl (λ r h k f.
      rule_none h k (is_one (way_word m)) modes none f)

  -- with one planned, the state after it, which has the clock already
  pub ahead_one : (modes : List ℕ) (st : State) → st.way ≡ (state_of m).way → c ≤ st.now.clock → ((j : ℕ) → j < temporals m → set_after m c (get_or modes j 0) j ≡ set_at st (owner_at m j))
      → (atoms : List ℕ) → step_of m (renew_over m false) (ahead m c modes) c atoms ≡ step_of m (own_renew st) st c atoms
  ahead_one modes st own here sets atoms = ahead_step (renew_over m false) (own_renew st) modes st atoms own (λ r h k f.
      let row = sound.book.rows r h in
      ap (λ (s : Runs). set_rule_by (renew_over m false) c s (map_row f (row_of m r)))
      (ahead_slot m c modes r k ∙ sets (slot_at m r) (row.slot k) ∙ ap (set_at st) (row.owner k))
      ∙ sym (renewed_now st.way st.now.clock c (set_at st r) here (map_row f (row_of m r))))

-- modes before the first step
zeros_at : (n j : ℕ) → ◌≡◌ {A = ℕ} (get_or (replicate {A = ℕ} n 0) j 0) 0
zeros_at zero j = refl
zeros_at (suc n) zero = refl
zeros_at (suc n) (suc j) = zeros_at n j

pub unplanned : (m : List ℕ) (n : ℕ) → Unplanned m (replicate n 0)
unplanned m n = record { none = λ j h. zeros_at n j }
