-- `calls::restamp` meets its contract: a state call where its time moves the clock alone, or played. Assumes nothing.
use mathlib.Core.Path.{ap, refl, sym}
use lib.Dec.{eqb}
use Rattle.std.proofs.lemmas.Result.{err_from_is_err_and}
use Rattle.numbers.proofs.Refused.{never_0}
use Rattle.calls.proofs.Public.{stamped_timely, stamped_full, stamped_roomy, stamped_due, stamped_done}
use Rattle.calls.proofs.restamp.Goals as goal

pub tick_and_restate-requires : goal.tick_and_restate-requires
tick_and_restate-requires c = record { kept = (c.requires.0, c.quiet_at.ensures c.if-quiet_at.true); time_value = (c.requires.1, c.requires.2) }

pub returns-then-quiet_at : goal.returns-then-quiet_at
returns-then-quiet_at c = c.tick_and_restate.ensures

pub advance_both-requires : goal.advance_both-requires
advance_both-requires c = stamped_timely c.requires.0 c.args.time c.args.state.now (sym c.requires.1) refl (sym c.requires.2) refl

pub returns-in_err-advance_both : goal.returns-in_err-advance_both
returns-in_err-advance_both c = let p = err_from_is_err_and c.from_residual.result c.from_residual.ensures.1 in rw (p.1, p.2) (stamped_full c.requires.0 c.args.time c.args.state.now (sym c.requires.1) refl (sym c.requires.2) refl c.in_err-advance_both.ensures (never_0 _))

pub put_atoms-requires : goal.put_atoms-requires
put_atoms-requires c = stamped_roomy c.requires.0 c.args.time c.args.state.now (sym c.requires.1) refl (sym c.requires.2) refl c.in_ok-advance_both.ensures refl

pub renew-requires : goal.renew-requires
renew-requires c = stamped_due c.requires.0 c.args.time c.args.state.now (sym c.requires.1) refl (sym c.requires.2) refl c.in_ok-advance_both.ensures refl c.put_atoms.ensures (ap (λ x. eqb x 0) c.begun-first.ensures)

pub returns : goal.returns
returns c = stamped_done c.requires.0 c.args.time c.args.state.now (sym c.requires.1) refl (sym c.requires.2) refl c.in_ok-advance_both.ensures refl c.put_atoms.ensures c.renew.ensures
