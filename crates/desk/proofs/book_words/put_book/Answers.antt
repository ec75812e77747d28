-- `desk::book_words::put_book` meets its contract. Assumes nothing.
use mathlib.Core.Path.{refl}
use Rattle.desk.proofs.Writing.{book_put}
use Rattle.desk.proofs.book_words.put_book.Goals as goal

pub returns : goal.returns
returns c = book_put c.args.kits.now c.args.words.now _ _ _ c.args.count _ c.requires.0 c.requires.1 c.put_rows_section.ensures c.put_operands_section.ensures c.put_properties.ensures refl
