-- `notes::note_true` meets its contract. Assumes nothing.
use Rattle.notes.proofs.Entries.{stretch_put, unbroken_stands}
use Rattle.notes.proofs.note_true.Goals as goal

pub returns-then-entry_word-eq0 : goal.returns-then-entry_word-eq0
returns-then-entry_word-eq0 c = unbroken_stands c.requires.0 c.requires.1 0 c.entry_word.ensures c.if-entry_word-eq0.true

pub returns : goal.returns
returns c = rw c.put_word.ensures (stretch_put c.args.monitor.now c.args.i c.requires.0 c.requires.1 0)
