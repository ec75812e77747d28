use Rattle.trees.proofs.Walking.{assumes_there, guarantees_there}
use Rattle.rule_printer.proofs.Booking.{placed_as, book_put}
use mathlib.Core.Path.{refl}
use Rattle.rule_printer.proofs.print.print_book.Goals as goal

-- src/print.rt:63:9
pub rows_part-rows-requires : goal.rows_part-rows-requires
rows_part-rows-requires c = c.place_accepted-places.ensures

-- src/print.rt:64:9
pub operands_part-operands-requires : goal.operands_part-operands-requires
operands_part-operands-requires c = c.place_accepted-places.ensures

-- src/print.rt:65:54
pub assumes_part-requires : goal.assumes_part-requires
assumes_part-requires c = c.place_accepted-places.ensures

-- src/print.rt:65:9
pub put_section-middle-requires : goal.put_section-middle-requires
put_section-middle-requires c = assumes_there (placed_as c.requires c.place_accepted-places.ensures) refl c.rows_part-rows.ensures c.operands_part-operands.ensures _ c.assumes_part.ensures

-- src/print.rt:66:56
pub guarantees_part-requires : goal.guarantees_part-requires
guarantees_part-requires c = c.place_accepted-places.ensures

-- src/print.rt:66:9
pub put_section-end-requires : goal.put_section-end-requires
put_section-end-requires c = guarantees_there (placed_as c.requires c.place_accepted-places.ensures) refl c.rows_part-rows.ensures c.operands_part-operands.ensures _ c.guarantees_part.ensures

-- src/print.rt:58:1
pub returns : goal.returns
returns c = book_put (placed_as c.requires c.place_accepted-places.ensures) refl c.rows_part-rows.ensures c.operands_part-operands.ensures c.assumes_part.ensures c.guarantees_part.ensures c.put_section-middle.ensures c.put_section-end.ensures c.finished.ensures
