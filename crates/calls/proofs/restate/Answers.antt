-- `calls::restate` meets its contract: what stands there already, or played. Assumes nothing.
use mathlib.Core.Path.{ap, refl, sym}
use lib.Dec.{eqb}
use Rattle.std.specs.Prelude.{Ok}
use Rattle.std.proofs.lemmas.Result.{err_from_is_err_and}
use Rattle.numbers.proofs.Refused.{never_0}
use Rattle.calls.proofs.Public.{state_few, state_stands, state_timely, state_full, state_roomy, state_due, state_done, state_same}
use Rattle.calls.proofs.restate.Goals as goal

pub stands_with-requires : goal.stands_with-requires
stands_with-requires c = state_few c.requires.0 c.args.state.now (sym c.requires.1) refl

pub returns-then-stands_with : goal.returns-then-stands_with
returns-then-stands_with c = state_stands c.requires.0 c.args.state.now (sym c.requires.1) refl (c.stands_with.ensures c.if-stands_with.true)

pub advance-requires : goal.advance-requires
advance-requires c = let asked = state_timely c.requires.0 c.args.state.now (sym c.requires.1) refl c.clock-clock.ensures in record { kept = asked.0; monitor_in_bounds = asked.1 }

pub returns-in_err-same : goal.returns-in_err-same
returns-in_err-same c = let p = err_from_is_err_and c.from_residual.result c.from_residual.ensures.1 in rw (p.1, p.2) (state_full c.requires.0 c.args.state.now (sym c.requires.1) refl c.clock-clock.ensures c.in_err-same.ensures.0 (never_0 _))

pub put_atoms-requires : goal.put_atoms-requires
put_atoms-requires c = state_roomy c.requires.0 c.args.state.now (sym c.requires.1) refl c.clock-clock.ensures c.in_ok-same.ensures.0 refl

pub returns-then-same : goal.returns-then-same
returns-then-same c = state_same c.requires.0 c.args.state.now (sym c.requires.1) refl c.clock-clock.ensures c.in_ok-same.ensures.0 refl c.put_atoms.ensures (c.in_ok-same.ensures.1 (ap (λ b. Ok b) c.if-same.true))

pub renew-requires : goal.renew-requires
renew-requires c = state_due c.requires.0 c.args.state.now (sym c.requires.1) refl c.clock-clock.ensures c.in_ok-same.ensures.0 refl c.put_atoms.ensures (ap (λ x. eqb x 0) c.begun-first.ensures)

pub returns : goal.returns
returns c = state_done c.requires.0 c.args.state.now (sym c.requires.1) refl c.clock-clock.ensures c.in_ok-same.ensures.0 refl c.put_atoms.ensures c.renew.ensures
