-- A planned step that leaves the sets as they are: carrying it out, and telling and asking after it, would change nothing. Assumes nothing.
use Prim.Native.Nat.{ℕ, ◌≤◌, ◌<◌}
use native.Mathlib.Omega.{arith}
use mathlib.Core.Path.{◌≡◌, refl, sym, ap, ap₂, ◌∙◌}
use mathlib.Core.Bool.{Bool, true}
use mathlib.Core.List.{List}
use lib.ListN.{length, get_or, set}
use lib.Seq.{set-get_or}
use lib.Dec.{eqb}
use borrow.Author.Tests.{eqb-true}
use Rattle.numbers.specs.Limits.{LAST_TIME, MOST_TEMPORALS}
use Rattle.numset.specs.Runs.{kept}
use Rattle.ring.specs.Ring.{ringed, rolled, turn_after}
use Rattle.ring.proofs.Rolls.{rolls_again}
use Rattle.ring.proofs.Turns.{turn_still}
use Rattle.pmtl.specs.Sets.{Renew}
use Rattle.pmtl.specs.Monitor.{State, set_at}
use Rattle.memory.specs.Layout.{VALUES}
use Rattle.memory.specs.Memory.{begun_word, clock_of, temporals, owner_at, slot_words, state_of}
use Rattle.memory.specs.Kept.{Sound, Kept}
use Rattle.memory.specs.Alike.{Alike}
use Rattle.memory.proofs.Sets.{owner_set}
use Rattle.memory.proofs.Alike.{alike_filled, alike_set}
use Rattle.set_change.specs.Change.{changed}
use Rattle.planning.specs.Plan.{set_after, value_after, Planned}
use Rattle.calls.specs.Private.{clocked, Greatest, SetsStay, OnlyValues, Written, Tried}
use Rattle.calls.proofs.Advances.{planned_sound, tried_room}
use Rattle.calls.proofs.Stood.{rests_here}

-- as the code decides it
pub sets_stay : {m : List ℕ} {fresh : Bool} {modes : List ℕ} {b : ℕ} (most : ℕ) → b ≡ begun_word m → b ≡ 1 → fresh ≡ true → length modes ≡ MOST_TEMPORALS → Greatest modes most (length modes) → eqb most 0 ≡ true → SetsStay m fresh modes
sets_stay most eb one anew long g e =
    record { anew = anew; begun = sym eb ∙ one; none = λ j h. let l = g.over.below j (omega arith) in let z : most ≡ 0 = eqb-true most 0 e in omega arith }

-- ---- a plan of no change, carried out
module _ {m : List ℕ} {renew : Renew} {st : State} {c : ℕ} {atoms m₁ modes : List ℕ} {fresh : Bool} (held : Kept m) (small : c ≤ LAST_TIME) (here : c ≡ clock_of m) (planned : Planned m renew st c atoms m₁ true modes) (stay : SetsStay m₁ fresh modes) where
  alike : Alike m m₁
  alike = rw planned.values (alike_filled m VALUES (value_after m renew st c atoms) planned.tried (omega arith))

  sound₁ : Sound m₁
  sound₁ = planned_sound held.sound planned

  begun_before : begun_word m ≡ 1
  begun_before = sym (alike.below 1 (omega arith)) ∙ stay.begun

  -- no run is over
  set_kept : (j : ℕ) → j < temporals m → kept c (ringed (slot_words m₁ j)) ≡ ringed (slot_words m₁ j)
  set_kept j h =
      let few = held.sound.book.temporal_few in
      let same : ringed (slot_words m₁ j) ≡ set_at (state_of m) (owner_at m j) = ap (λ (w : List ℕ). ringed w) (alike_set held.sound alike j (omega arith)) ∙ sym (owner_set m held.sound j h) in
      ap (kept c) same ∙ rests_here held here begun_before (owner_at m j) ∙ sym same

  set_there : (j : ℕ) → j < temporals m₁ → slot_words m₁ j ≡ rolled (turn_after c (slot_words m₁ j)) (set_after m₁ c (get_or modes j 0) j)
  unfolding changed
  set_there j h₁ =
      let few = held.sound.book.temporal_few in
      let slots : temporals m₁ ≡ temporals m = alike.below 4 (omega arith) in
      let h : j < temporals m = omega arith in
      let ring = sound₁.sets j (omega arith) in
      rolls_again (slot_words m₁ j) ring
      ∙ ap₂ rolled (turn_still (slot_words m₁ j) c ring.turn (set_kept j h)) (sym (set_kept j h))
      ∙ ap (λ (k : ℕ). rolled (turn_after c (slot_words m₁ j)) (set_after m₁ c k j)) (sym (stay.none j (omega arith)))

  as_written : Written m₁ c (λ j. set_after m₁ c (get_or modes j 0) j) (temporals m₁) m₁
  as_written = record { long = sound₁.book.long; below = λ i h. refl; new = set_there; old = λ j p q. refl; beyond = λ i h. refl }

  as_clocked : m₁ ≡ clocked m₁ c
  as_clocked =
      let b = stay.begun in
      let k : clock_of m₁ ≡ c = alike.below 2 (omega arith) ∙ sym here in
      let one : set m₁ 1 1 ≡ m₁ = ap (set m₁ 1) (sym b) ∙ set-get_or m₁ 1 0 in
      sym (ap (λ (x : List ℕ). set x 2 c) one ∙ ap (set m₁ 2) (sym k) ∙ set-get_or m₁ 2 0)

  pub tried_same : Tried m renew st c atoms m₁ 0 × OnlyValues m m₁
  tried_same = (tried_room held.sound small planned as_written as_clocked, record { alike = alike; begun = begun_before })
