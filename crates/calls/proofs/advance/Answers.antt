-- `calls::advance` meets its contract: the sets have room and are changed, or none need be; or all is as it was. Assumes nothing.
use mathlib.Core.Path.{sym, ap}
use mathlib.Core.Bool.{Bool, false, true≢false}
use Rattle.std.specs.Prelude.{Result, Ok, Err, is_ok}
use Rattle.numbers.specs.declared.Refusal.{Refusal}
use Rattle.numbers.specs.Limits.{MOST_TEMPORALS}
use Rattle.planning.specs.Plan.{atoms_for}
use Rattle.planning.proofs.Ahead.{ahead_none, unplanned}
use Rattle.calls.proofs.Advances.{planned_from, planned_sound, fitting, tried_room, tried_full}
use Rattle.calls.proofs.Stood.{bits_now, stands_now}
use Rattle.calls.proofs.Stays.{tried_same}
use Rattle.calls.proofs.advance.Goals as goal

-- what an answer holds
abbrev ok_value : Result Bool Refusal → Bool
ok_value (Ok b) = b
ok_value (Err d) = false

pub plan_call-requires-clause-sound : goal.plan_call-requires-clause-sound
plan_call-requires-clause-sound c = (c.requires.kept.0.sound, c.requires.kept.1, λ z. (c.requires.kept.0, unplanned c.args.monitor.now MOST_TEMPORALS))

pub plan_call-requires-clause-founded : goal.plan_call-requires-clause-founded
plan_call-requires-clause-founded c = λ z. (c.requires.kept.0.tables.founded, bits_now c.requires.kept.0, stands_now c.requires.kept.0 (c.requires.monitor_in_bounds z).1 _ (unplanned c.args.monitor.now MOST_TEMPORALS))

pub fill_values-requires : goal.fill_values-requires
fill_values-requires c = planned_sound c.requires.kept.0.sound c.plan_call.ensures.planned

pub returns-in-Err : goal.returns-in-Err
returns-in-Err c = rw c.in-Err.ensures.refused (tried_full c.requires.kept.0 (planned_from (ahead_none c.requires.kept.0.sound c.requires.kept.1 c.args.fresh (λ z. (c.requires.monitor_in_bounds z).1) _ (unplanned c.args.monitor.now MOST_TEMPORALS) (atoms_for c.args.monitor.now c.args.fresh c.args.atoms.now)) c.in-Err.ensures.planned) c.fill_values.ensures, λ z. absurd (true≢false (sym (ap is_ok z))))

pub returns-then-leaves_sets : goal.returns-then-leaves_sets
returns-then-leaves_sets c =
    let stay = c.leaves_sets.ensures c.if-leaves_sets.true in
    let t = tried_same c.requires.kept.0 c.requires.kept.1 (c.requires.monitor_in_bounds stay.anew).1 (planned_from (ahead_none c.requires.kept.0.sound c.requires.kept.1 c.args.fresh (λ z. (c.requires.monitor_in_bounds z).1) _ (unplanned c.args.monitor.now MOST_TEMPORALS) (atoms_for c.args.monitor.now c.args.fresh c.args.atoms.now)) c.in_default.ensures.planned) stay in
    (t.0, λ z. t.1)

pub commit-requires : goal.commit-requires
commit-requires c = fitting c.requires.kept.0.sound c.requires.kept.1 c.in_default.ensures.planned

pub returns : goal.returns
returns c = (tried_room c.requires.kept.0.sound c.requires.kept.1 (planned_from (ahead_none c.requires.kept.0.sound c.requires.kept.1 c.args.fresh (λ z. (c.requires.monitor_in_bounds z).1) _ (unplanned c.args.monitor.now MOST_TEMPORALS) (atoms_for c.args.monitor.now c.args.fresh c.args.atoms.now)) c.in_default.ensures.planned) c.commit.ensures c.put_clock.ensures, λ z. absurd (true≢false (sym (ap ok_value z))))
