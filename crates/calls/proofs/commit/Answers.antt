use native.Mathlib.Omega.{arith}
use mathlib.Core.Path.{◌≡◌}
use Rattle.memory.specs.Memory.{temporals}
use Rattle.calls.proofs.Commits.{written_start, commit_fit, commit_more}
use Rattle.calls.proofs.commit.Goals as goal

pub loop-slot-init : goal.loop-slot-init
loop-slot-init c = written_start c.args.monitor.now _ _ c.requires.timely.sound.book.long

pub bounds-modes-slot : goal.bounds-modes-slot
bounds-modes-slot c = let e = c.temporal_count-slot-end.ensures in let h = c.loop-slot-test.true in let f = c.requires.timely.sound.book.temporal_few in omega arith

pub commit_slot-requires : goal.commit_slot-requires
commit_slot-requires c = commit_fit c.requires (let e = c.temporal_count-slot-end.ensures in let h = c.loop-slot-test.true in omega arith) c.loop-slot.invariant

pub loop-slot-preserved : goal.loop-slot-preserved
loop-slot-preserved c = commit_more c.requires (let e = c.temporal_count-slot-end.ensures in let h = c.loop-slot-test.true in omega arith) c.loop-slot.invariant c.commit_slot.ensures

pub returns : goal.returns
returns c =
    let l = c.loop-slot in
    let e : l.slot ≡ temporals c.args.monitor.now = let q = c.temporal_count-slot-end.ensures in let t = c.loop-slot-test.false in let b = l.auto.slot-end in omega arith in
    rw e at l.invariant
