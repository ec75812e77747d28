-- `set_change::change` meets its contract, arm by arm. Assumes nothing.
use mathlib.Core.Path.{◌≡◌}
use mathlib.Core.Bool.{true}
use Rattle.set_change.specs.Change.{growing}
use mathlib.Core.Logic.{inl, inr}
use native.Mathlib.Omega.{arith}
use Rattle.set_change.proofs.Changes.{grows_rest, change_0, grows_room, change_1, bare, one_fits, change_2, change_3}
use Rattle.ring.proofs.Again.{kept_ring}
use Rattle.set_change.proofs.change.Goals as goal
use Rattle.set_change.proofs.change.Goals.{in_default-via-then-mode-lt2, in_default-via-else-mode-lt2+else-mode-lt4}

pub clear-requires : goal.clear-requires
clear-requires c = kept_ring c.requires.rolling c.args.clock c.drop_before.ensures

pub returns-then-mode-eq-DROPPED : goal.returns-then-mode-eq-DROPPED
returns-then-mode-eq-DROPPED c = change_2 c.args.mode c.args.lower c.args.upper c.args.clock c.requires.rolling c.requires.set_value c.drop_before.ensures c.clear.ensures c.if-mode-eq-DROPPED.true

pub add-requires : goal.add-requires
add-requires c = let d = c.drop_before.ensures in let e = c.clear.ensures in record { rolling = bare c.args.mode c.args.lower c.args.upper c.args.clock c.requires.rolling c.requires.set_value d e; set_value = one_fits c.args.mode c.args.lower c.args.upper c.args.clock c.requires.rolling c.requires.set_value d e }

pub add-requires-in_default : goal.add-requires-in_default
add-requires-in_default c = let d = c.drop_before.ensures in let q : growing c.args.mode ≡ true = elim c.in_default.branch [ in_default-via-then-mode-lt2 w ↦ grows_rest c.args.mode (λ e. omega arith) (inl (omega arith)) | in_default-via-else-mode-lt2+else-mode-lt4 w ↦ grows_rest c.args.mode (λ e. omega arith) (inr (omega arith)) ] in record { rolling = kept_ring c.requires.rolling c.args.clock d; set_value = grows_room c.args.mode c.args.lower c.args.upper c.args.clock c.requires.rolling c.requires.set_value d q }

pub returns-in-0 : goal.returns-in-0
returns-in-0 c = change_0 c.args.mode c.args.lower c.args.upper c.args.clock c.requires.rolling c.requires.set_value c.drop_before.ensures c.in-0.is

pub returns-else-mode-eq-DROPPED : goal.returns-else-mode-eq-DROPPED
returns-else-mode-eq-DROPPED c = change_3 c.args.mode c.args.lower c.args.upper c.args.clock c.requires.rolling c.requires.set_value c.drop_before.ensures c.clear.ensures c.add.ensures (omega arith)

pub returns-in_default : goal.returns-in_default
returns-in_default c = let q : growing c.args.mode ≡ true = elim c.in_default.branch [ in_default-via-then-mode-lt2 w ↦ grows_rest c.args.mode (λ e. omega arith) (inl (omega arith)) | in_default-via-else-mode-lt2+else-mode-lt4 w ↦ grows_rest c.args.mode (λ e. omega arith) (inr (omega arith)) ] in change_1 c.args.mode c.args.lower c.args.upper c.args.clock c.requires.rolling c.requires.set_value c.drop_before.ensures q c.add-in_default.ensures
