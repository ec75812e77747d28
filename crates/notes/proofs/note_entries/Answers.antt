-- `notes::note_entries` meets its contract. Assumes nothing.
use native.Mathlib.Omega.{arith}
use Rattle.notes.proofs.Notes.{notes_countable, notes_more}
use Rattle.notes.proofs.note_entries.Goals as goal

pub note_property-requires : goal.note_property-requires
note_property-requires c = let e = c.property_count-count.ensures in notes_countable c.requires.0 c.loop-i.invariant (omega arith) c.requires.1

pub loop-i-preserved : goal.loop-i-preserved
loop-i-preserved c = let e = c.property_count-count.ensures in notes_more c.requires.0 c.loop-i.invariant (omega arith) c.note_property.ensures
