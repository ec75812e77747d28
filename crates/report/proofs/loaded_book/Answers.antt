-- `report::loaded_book` meets its contract. Assumes nothing.
use mathlib.Core.Path.{refl}
use Rattle.numbers.proofs.Refused.{never_0}
use Rattle.report.proofs.Going.{way_loaded, fresh_in, blank_in, book_accepted, book_refused}
use Rattle.report.proofs.loaded_book.Goals as goal

pub counted_calls-requires : goal.counted_calls-requires
counted_calls-requires c = let l = c.in-Ok.ensures in (l.kept, fresh_in _ l.book l.state, blank_in l.book l.ledger)

pub returns-in-Ok : goal.returns-in-Ok
returns-in-Ok c = let l = c.in-Ok.ensures in book_accepted _ _ _ _ c.put_book-at.ensures refl l.number l.book (way_loaded _ _ l.state) c.counted_calls.ensures

pub returns-in-Err : goal.returns-in-Err
returns-in-Err c = book_refused _ _ _ _ _ (never_0 _) c.in-Err.ensures.number c.first_excess.ensures c.refused_book.ensures
