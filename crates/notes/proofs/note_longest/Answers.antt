-- `notes::note_longest` meets its contract. Assumes nothing.
use Rattle.notes.proofs.Entries.{longest_stands, longest_new}
use Rattle.notes.proofs.note_longest.Goals as goal

pub returns-then-stretch-entry_word : goal.returns-then-stretch-entry_word
returns-then-stretch-entry_word c = longest_stands c.requires.0 c.requires.1 c.args.stretch c.entry_word.ensures c.if-stretch-entry_word.true

pub returns : goal.returns
returns c = longest_new c.requires.0 c.requires.1 c.args.stretch c.entry_word.ensures c.if-stretch-entry_word.false c.put_word.ensures
