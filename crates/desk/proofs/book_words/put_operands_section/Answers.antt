-- `desk::book_words::put_operands_section` meets its contract. Assumes nothing.
use Rattle.desk_rules.specs.BookWords.{operands_section, operands_from}
use Prim.Native.Nat.{◌*◌}
use Rattle.desk.proofs.Writing.{sets_long, section_put}
use lib.ListN.{length-set}
use native.Mathlib.Omega.{arith}
use Rattle.desk.proofs.book_words.put_operands_section.Goals as goal

pub put_operands-requires : goal.put_operands-requires
put_operands-requires c = (c.requires.0, simp length-set (omega (arith, c.requires.1)))

pub shape_of-words : goal.shape_of-words
shape_of-words c =
    let s = c.args in
    sets_long s.words.now _ s.at (operands_section s.count) (section_put s.words.now _ (operands_from 0 s.count) s.at (6 * s.count) c.put_operands.ensures)

pub returns : goal.returns
returns c = let s = c.args in section_put s.words.now _ (operands_from 0 s.count) s.at (6 * s.count) c.put_operands.ensures
