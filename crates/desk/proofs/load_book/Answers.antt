-- `desk::load_book` meets its contract. Assumes nothing.
use Rattle.desk.proofs.Standing.{set_up}
use mathlib.Core.Path.{refl}
use Rattle.desk.proofs.load_book.Goals as goal

pub returns : goal.returns
returns c = set_up _ c.requires.fine _ _ _ _ _ refl c.put_book-end.ensures c.load_strict.ensures
