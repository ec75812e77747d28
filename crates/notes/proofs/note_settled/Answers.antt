-- `notes::note_settled` meets its contract. Assumes nothing.
use mathlib.Core.Path.{sym, ◌∙◌}
use Rattle.notes.proofs.Entries.{settled_stands, settled_new}
use Rattle.notes.proofs.note_settled.Goals as goal

pub returns-then-entry_word-ne0 : goal.returns-then-entry_word-ne0
returns-then-entry_word-ne0 c = settled_stands c.requires.0 c.requires.1 c.args.n c.entry_word.ensures c.if-entry_word-ne0.true

pub returns : goal.returns
returns c = settled_new c.requires.0 c.requires.1 c.args.n c.entry_word.ensures c.if-entry_word-ne0.false (λ z. c.if-settled_at-from.false (c.settled_at.ensures ∙ z ∙ sym (c.from.ensures ∙ c.digit.ensures))) c.put_word.ensures
