-- `notes::note` meets its contract. Assumes nothing.
use native.Mathlib.Omega.{arith}
use mathlib.Core.Path.{◌∙◌}
use Rattle.memory.specs.Layout.{TAKEN}
use Rattle.notes.proofs.Notes.{taken_most, noted_past, noted_refused, noted_accepted}
use Rattle.notes.proofs.note.Goals as goal

pub returns-then-last-ge-LAST_TIME : goal.returns-then-last-ge-LAST_TIME
returns-then-last-ge-LAST_TIME c = noted_past c.requires c.last_call-last.ensures c.if-last-ge-LAST_TIME.true c.args.number

pub returns-then-number-ne-ACCEPTED : goal.returns-then-number-ne-ACCEPTED
returns-then-number-ne-ACCEPTED c = noted_refused c.requires c.last_call-last.ensures c.if-last-ge-LAST_TIME.false c.if-number-ne-ACCEPTED.true c.put_number.ensures

pub count_taken-requires : goal.count_taken-requires
count_taken-requires c = let e = c.note_entries.ensures in let t = e.below TAKEN (omega arith) in let m = taken_most c.requires in (e.long ∙ c.requires.sound.book.long, omega arith)

pub returns : goal.returns
returns c = rw c.if-number-ne-ACCEPTED.false (noted_accepted c.requires c.last_call-last.ensures c.if-last-ge-LAST_TIME.false c.note_entries.ensures c.count_taken.ensures c.put_number-2.ensures)
