-- `notes::note_false` meets its contract. Assumes nothing.
use native.Mathlib.Omega.{arith}
use mathlib.Core.Path.{◌∙◌}
use lib.ListN.{length-set}
use Rattle.memory.specs.Memory.{entry_of}
use Rattle.notes.proofs.Entries.{false_new}
use Rattle.notes.proofs.note_false.Goals as goal

pub overflow_add-failed : goal.overflow_add-failed
unfolding entry_of
overflow_add-failed c = let e = c.entry_word-failed.ensures in let h = c.requires.failed in omega arith

pub overflow_add-stretch : goal.overflow_add-stretch
unfolding entry_of
overflow_add-stretch c = let e = c.entry_word-stretch.ensures in let h = c.requires.stretch in omega arith

pub put_word-requires-2 : goal.put_word-requires-2
put_word-requires-2 c = (c.requires.inside, omega arith, rw (c.put_word.ensures, length-set) c.requires.long)

pub put_word-requires-3 : goal.put_word-requires-3
put_word-requires-3 c = (c.requires.inside, omega arith, rw (c.put_word-2.ensures, length-set, c.put_word.ensures, length-set) c.requires.long)

pub note_first-requires : goal.note_first-requires
note_first-requires c = (c.requires.inside, rw (c.put_word-3.ensures, length-set, c.put_word-2.ensures, length-set, c.put_word.ensures, length-set) c.requires.long)

pub note_longest-requires : goal.note_longest-requires
note_longest-requires c = (c.requires.inside, c.note_first.ensures.long ∙ rw (c.put_word-3.ensures, length-set, c.put_word-2.ensures, length-set, c.put_word.ensures, length-set) c.requires.long)

pub returns : goal.returns
unfolding entry_of
returns c = let ef = c.entry_word-failed.ensures in let es = c.entry_word-stretch.ensures in false_new c.requires.inside c.requires.long (omega arith) (omega arith) c.put_word.ensures c.put_word-2.ensures c.put_word-3.ensures c.note_first.ensures c.note_longest.ensures
