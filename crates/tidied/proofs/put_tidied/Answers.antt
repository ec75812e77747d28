use Rattle.std.proofs.Common.{refl, sym}
use lib.Seq.{length-take-le}
use Rattle.numbers.proofs.Refused.{never_0}
use Rattle.tidier.proofs.Made.{handed_as}
use Rattle.buffer_writer.proofs.Writes.{and_then, same_bytes}
use Rattle.tidied.proofs.Saying.{said_refused, is_done, new_accepted, said_done}
use Rattle.tidied.proofs.put_tidied.Goals as goal

pub slice_bounds-words-end : goal.slice_bounds-words-end
slice_bounds-words-end c = (is_done _ _ c.requires _ _ (handed_as _ _ _ c.in-Ok.ensures)).1

pub slice_bounds-put_book-end : goal.slice_bounds-put_book-end
slice_bounds-put_book-end c = sym (length-take-le _ _ (is_done _ _ c.requires _ _ (handed_as _ _ _ c.in-Ok.ensures)).1)

pub put_book-requires : goal.put_book-requires
put_book-requires c = new_accepted _ _ c.requires _ _ (handed_as _ _ _ c.in-Ok.ensures) _ refl

pub returns-in-Ok : goal.returns-in-Ok
returns-in-Ok c = same_bytes (and_then c.put_numbered-head.ensures c.put_book.ensures) (said_done _ _ c.requires _ _ (handed_as _ _ _ c.in-Ok.ensures) _ refl)

pub returns-in-Err : goal.returns-in-Err
returns-in-Err c = same_bytes c.put_refusal.ensures (said_refused _ _ c.requires _ _ _ (handed_as _ _ _ c.in-Err.ensures) (never_0 _))
