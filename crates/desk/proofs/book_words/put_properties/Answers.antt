-- `desk::book_words::put_properties` meets its contract. Assumes nothing.
use Rattle.desk_rules.specs.BookWords.{property_sections}
use Rattle.desk_rules.specs.Rows.{guarantees_from}
use Rattle.desk.proofs.Writing.{sets_long, sections_put}
use lib.ListN.{length-set}
use native.Mathlib.Omega.{arith}
use Rattle.desk.proofs.book_words.put_properties.Goals as goal

pub bounds-words-at-2 : goal.bounds-words-at-2
bounds-words-at-2 c = simp length-set (omega (arith, c.requires.1))

pub put_guarantees-requires : goal.put_guarantees-requires
put_guarantees-requires c = (c.requires.0, simp length-set (omega (arith, c.requires.1)))

pub shape_of-words : goal.shape_of-words
shape_of-words c =
    let s = c.args in
    sets_long s.words.now _ s.at (property_sections s.count) (sections_put s.words.now _ (guarantees_from 0 s.count) s.at 0 s.count c.put_guarantees.ensures)

pub returns : goal.returns
returns c = let s = c.args in sections_put s.words.now _ (guarantees_from 0 s.count) s.at 0 s.count c.put_guarantees.ensures
