-- `set_change::look_ahead` meets its contract, arm by arm. Assumes nothing.
use Prim.Native.Nat.{ℕ}
use mathlib.Core.Path.{◌≡◌, ap}
use mathlib.Core.Bool.{true}
use mathlib.Core.Logic.{inl, inr}
use native.Mathlib.Omega.{arith}
use Rattle.ring.specs.Ring.{ringed}
use Rattle.ring.proofs.Again.{held_few}
use Rattle.set_change.specs.Change.{growing}
use Rattle.set_change.proofs.Changes.{grows_rest, room_else, room_grown, will_0, will_1, will_2, will_3}
use Rattle.set_change.proofs.look_ahead.Goals as goal
use Rattle.set_change.proofs.look_ahead.Goals.{in_default-via-then-mode-lt2, in_default-via-else-mode-lt2+else-mode-lt4}

pub returns-then-mode-eq-DROPPED : goal.returns-then-mode-eq-DROPPED
returns-then-mode-eq-DROPPED c = let e = c.if-mode-eq-DROPPED.true in (will_2 c.args.mode c.args.lower c.args.upper c.args.clock _ e, room_else c.args.mode c.args.lower c.args.upper c.args.clock (ringed c.args.set.now) (held_few c.args.set.now c.requires) (ap (λ (k : ℕ). growing k) e))

pub returns-in-0 : goal.returns-in-0
returns-in-0 c = let e = c.in-0.is in (will_0 c.args.mode c.args.lower c.args.upper c.args.clock _ c.contains-here.ensures e, room_else c.args.mode c.args.lower c.args.upper c.args.clock (ringed c.args.set.now) (held_few c.args.set.now c.requires) (ap (λ (k : ℕ). growing k) e))

pub returns-else-mode-eq-DROPPED : goal.returns-else-mode-eq-DROPPED
returns-else-mode-eq-DROPPED c = let e : c.args.mode ≡ 3 = omega arith in (will_3 c.args.mode c.args.lower c.args.upper c.args.clock _ c.inside-here.ensures e, room_else c.args.mode c.args.lower c.args.upper c.args.clock (ringed c.args.set.now) (held_few c.args.set.now c.requires) (ap (λ (k : ℕ). growing k) e))

pub returns-in_default : goal.returns-in_default
returns-in_default c = let q : growing c.args.mode ≡ true = elim c.in_default.branch [ in_default-via-then-mode-lt2 w ↦ grows_rest c.args.mode (λ e. omega arith) (inl (omega arith)) | in_default-via-else-mode-lt2+else-mode-lt4 w ↦ grows_rest c.args.mode (λ e. omega arith) (inr (omega arith)) ] in (will_1 c.args.mode c.args.lower c.args.upper c.args.clock _ c.look_ahead.ensures.0 q, room_grown c.args.mode c.args.lower c.args.upper c.args.clock (ringed c.args.set.now) c.look_ahead.ensures.1 q)
