-- `calls::advance_both` meets its contract: both steps have room and the sets are changed once, or all is as it was. Assumes nothing.
use mathlib.Core.Path.{sym}
use mathlib.Core.Bool.{false, true≢false}
use Rattle.memory.specs.Memory.{atoms_of}
use Rattle.calls.proofs.Advances.{planned_from, planned_sound, fitting, first_sound, first_width, second_from, both_room, both_full, first_full}
use Rattle.calls.proofs.Stood.{founded_then, bits_then, stands_then}
use Rattle.planning.proofs.Ahead.{ahead_none, unplanned}
use Rattle.numbers.specs.Limits.{MOST_TEMPORALS}
use borrow.Author.Rules.{rules}
use Rattle.calls.proofs.advance_both.Goals as goal

pub plan_call-requires-clause-sound : goal.plan_call-requires-clause-sound
plan_call-requires-clause-sound c = (c.requires.0.sound, c.requires.1, λ z. (c.requires.0, unplanned c.args.monitor.now MOST_TEMPORALS))

pub fill_values-requires : goal.fill_values-requires
fill_values-requires c = planned_sound c.requires.0.sound c.plan_call.ensures.planned

pub returns-in-Err : goal.returns-in-Err
returns-in-Err c = rw c.in-Err.ensures.refused (first_full c.requires.0 (planned_from (ahead_none c.requires.0.sound c.requires.1 false (λ z. absurd (true≢false (sym z))) _ (unplanned c.args.monitor.now MOST_TEMPORALS) (atoms_of c.args.monitor.now)) c.in-Err.ensures.planned) c.fill_values.ensures _)

pub plan_call-requires-2-clause-sound : goal.plan_call-requires-2-clause-sound
plan_call-requires-2-clause-sound c = let first = planned_from (ahead_none c.requires.0.sound c.requires.1 false (λ z. absurd (true≢false (sym z))) _ (unplanned c.args.monitor.now MOST_TEMPORALS) (atoms_of c.args.monitor.now)) c.in_default.ensures.planned in (first_sound c.requires.0 c.requires.1 first, c.requires.1, λ z. absurd (true≢false z))

pub plan_call-requires-2-clause-modes_len : goal.plan_call-requires-2-clause-modes_len
plan_call-requires-2-clause-modes_len c = let first = planned_from (ahead_none c.requires.0.sound c.requires.1 false (λ z. absurd (true≢false (sym z))) _ (unplanned c.args.monitor.now MOST_TEMPORALS) (atoms_of c.args.monitor.now)) c.in_default.ensures.planned in (search rules, λ z. first_width c.requires.0 c.requires.1 first c.args.state.now c.requires.2)

pub plan_call-requires-2-clause-founded : goal.plan_call-requires-2-clause-founded
plan_call-requires-2-clause-founded c = let first = planned_from (ahead_none c.requires.0.sound c.requires.1 false (λ z. absurd (true≢false (sym z))) _ (unplanned c.args.monitor.now MOST_TEMPORALS) (atoms_of c.args.monitor.now)) c.in_default.ensures.planned in λ z. (founded_then c.requires.0 c.requires.1 first, bits_then c.requires.0 c.requires.1 first, λ q. stands_then c.requires.0 c.requires.1 first)

pub fill_values-requires-in-Err-plan_call : goal.fill_values-requires-in-Err-plan_call
fill_values-requires-in-Err-plan_call c = let first = planned_from (ahead_none c.requires.0.sound c.requires.1 false (λ z. absurd (true≢false (sym z))) _ (unplanned c.args.monitor.now MOST_TEMPORALS) (atoms_of c.args.monitor.now)) c.in_default.ensures.planned in planned_sound (first_sound c.requires.0 c.requires.1 first) c.plan_call-2.ensures.planned

pub returns-in-Err-plan_call : goal.returns-in-Err-plan_call
returns-in-Err-plan_call c =
    let first = planned_from (ahead_none c.requires.0.sound c.requires.1 false (λ z. absurd (true≢false (sym z))) _ (unplanned c.args.monitor.now MOST_TEMPORALS) (atoms_of c.args.monitor.now)) c.in_default.ensures.planned in
    rw c.in-Err-plan_call.ensures.refused (both_full c.requires.0 c.requires.1 first (second_from c.requires.0 c.requires.1 first c.in-Err-plan_call.ensures.planned) c.fill_values-in-Err-plan_call.ensures)

pub commit-requires : goal.commit-requires
commit-requires c =
    let first = planned_from (ahead_none c.requires.0.sound c.requires.1 false (λ z. absurd (true≢false (sym z))) _ (unplanned c.args.monitor.now MOST_TEMPORALS) (atoms_of c.args.monitor.now)) c.in_default.ensures.planned in
    fitting (first_sound c.requires.0 c.requires.1 first) c.requires.1 (second_from c.requires.0 c.requires.1 first c.in-Ok.ensures.planned)

pub returns-in-Ok : goal.returns-in-Ok
returns-in-Ok c =
    let first = planned_from (ahead_none c.requires.0.sound c.requires.1 false (λ z. absurd (true≢false (sym z))) _ (unplanned c.args.monitor.now MOST_TEMPORALS) (atoms_of c.args.monitor.now)) c.in_default.ensures.planned in
    both_room c.requires.0 c.requires.1 first (second_from c.requires.0 c.requires.1 first c.in-Ok.ensures.planned) c.commit.ensures c.put_clock.ensures
