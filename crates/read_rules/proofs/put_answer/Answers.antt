use Rattle.std.proofs.Common.{refl}
use Rattle.numbers.proofs.Refused.{never_0}
use Rattle.read_rules.proofs.Saying.{book_accepted, says_refused, says_book}
use Rattle.read_rules.proofs.put_answer.Goals as goal

pub put_book-requires : goal.put_book-requires
put_book-requires c = book_accepted c.in-Ok.ensures refl c.part_of.ensures

pub returns-in-Ok : goal.returns-in-Ok
returns-in-Ok c = says_book c.in-Ok.ensures refl c.part_of.ensures c.put_line-head.ensures c.put_book.ensures

pub returns-in-Err : goal.returns-in-Err
returns-in-Err c = says_refused c.in-Err.ensures (never_0 _) (rw c.number.ensures at c.put_line.ensures)
