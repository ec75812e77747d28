-- What a change leaves is a ring again: its set, where it begins, and that there is room in it; so are words that are all 0. Assumes nothing.
use Prim.Native.Nat.{ℕ, ◌+◌, ◌*◌, ◌^◌, ◌<◌}
use mathlib.Core.Path.{◌≡◌, ap, ◌∙◌}
use mathlib.Core.Bool.{true}
use mathlib.Core.List.{List, []}
use native.Mathlib.Omega.{arith}
use lib.ListN.{length, replicate}
use borrow.Author.Tests.{ltb-true}
use Rattle.numset.specs.Runs.{Runs, Under, kept, union, fits}
use Rattle.numset.proofs.Union.{union_under}
use Rattle.numset.proofs.Kept.{kept_under, kept_length}
use Rattle.ring.specs.Ring.{turn_of, ringed, Rolling, rolled, turn_after}
use Rattle.ring.proofs.Rolls.{ringed_length, rolled_turn, ringed_rolled, few, rolling, zeros_rolled}

-- a ring never holds more runs than it has places
pub held_few : (m : List ℕ) → Rolling m → 2 * length (ringed m) < 129
held_few m g = let n = ringed_length m in let h = few m g in omega arith

module _ {m m' : List ℕ} (g : Rolling m) where
  -- what `drop_before` leaves, and that there is room in it for what the look ahead found room for
  module _ (t : ℕ) (e : m' ≡ rolled (turn_after t m) (kept t (ringed m))) where
    kept_few : 2 * length (kept t (ringed m)) < 129
    kept_few = let a = kept_length t (ringed m) in let h = held_few m g in omega arith

    pub kept_ring : Rolling m'
    kept_ring = rw e (rolling (turn_after t m) (kept t (ringed m)) (omega arith) kept_few (kept_under t (2 ^ 64 + 1) (ringed m) g.good.apart))

    pub kept_turn : turn_of m' ≡ turn_after t m
    kept_turn = ap (λ (w : List ℕ). turn_of w) e ∙ rolled_turn (turn_after t m) (kept t (ringed m))

    pub kept_runs : ringed m' ≡ kept t (ringed m)
    kept_runs = ap (λ (w : List ℕ). ringed w) e ∙ ringed_rolled (turn_after t m) (kept t (ringed m)) (omega arith) kept_few

    pub kept_room : (l u : ℕ) → fits 129 (union l u (kept t (ringed m))) ≡ true → fits 129 (union l u (ringed m')) ≡ true
    kept_room l u f = ap (λ (rs : Runs). fits 129 (union l u rs)) kept_runs ∙ f

  pub added_ring : (l u : ℕ) → m' ≡ rolled (turn_of m) (union l u (ringed m)) → fits 129 (union l u (ringed m)) ≡ true → u < 2 ^ 64 → Rolling m'
  added_ring l u e f b =
      rw e (rolling (turn_of m) (union l u (ringed m)) g.turn (ltb-true _ _ f) (union_under (2 ^ 64 + 1) l u (ringed m) g.good.apart (omega arith)))

  -- what `clear` leaves
  module _ (e : m' ≡ rolled (turn_of m) []) where
    pub bare_ring : Rolling m'
    unfolding Under
    bare_ring = rw e (rolling (turn_of m) [] g.turn (omega arith) tt)

    pub bare_turn : turn_of m' ≡ turn_of m
    bare_turn = ap (λ (w : List ℕ). turn_of w) e ∙ rolled_turn (turn_of m) []

    pub bare_runs : ringed m' ≡ []
    bare_runs = ap (λ (w : List ℕ). ringed w) e ∙ ringed_rolled (turn_of m) [] g.turn (omega arith)

-- words that are all 0
pub zeros_ring : Rolling (replicate 130 0)
unfolding Under
zeros_ring = rw zeros_rolled (rolling 0 [] (omega arith) (omega arith) tt)

pub zeros_runs : ringed (replicate 130 0) ≡ []
zeros_runs = rw zeros_rolled (ringed_rolled 0 [] (omega arith) (omega arith))
