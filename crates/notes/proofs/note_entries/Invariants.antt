-- `notes::note_entries` meets its contract. Assumes nothing.
use Rattle.notes.specs.Private.{EntriesNoted}
use Rattle.notes.proofs.note_entries.Given as goal

abbrev pub invariant-loop-i : goal.invariant-loop-i
invariant-loop-i l = EntriesNoted l.initial.monitor l.n l.i l.monitor
