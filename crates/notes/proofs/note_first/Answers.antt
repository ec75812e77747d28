-- `notes::note_first` meets its contract. Assumes nothing.
use Rattle.notes.proofs.Entries.{first_stands, first_new}
use Rattle.notes.proofs.note_first.Goals as goal

pub returns-then-entry_word-ne0 : goal.returns-then-entry_word-ne0
returns-then-entry_word-ne0 c = first_stands c.requires.0 c.requires.1 c.args.n c.entry_word.ensures c.if-entry_word-ne0.true

pub returns : goal.returns
returns c = first_new c.requires.0 c.requires.1 c.args.n c.entry_word.ensures c.if-entry_word-ne0.false c.put_word.ensures
