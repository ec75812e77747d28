-- `report::lines::put_words` meets its contract. Assumes nothing.
use Prim.Native.Nat.{◌+◌, ◌*◌}
use mathlib.Core.Path.{sym, ◌∙◌}
use native.Mathlib.Omega.{arith}
use lib.ListN.{length}
use borrow.Author.Tests.{leb-true, leb-false}
use Rattle.report.proofs.Lasting.{words_few, words_wrote, words_not}
use Rattle.report.proofs.lines.put_words.Goals as goal

pub property_count-count-requires : goal.property_count-count-requires
property_count-count-requires c = c.requires.sound.book

pub overflow_mul-size : goal.overflow_mul-size
overflow_mul-size c = let k = words_few _ c.args.out.now 0 c.property_count-count.ensures c.requires in omega arith

pub lay_words-requires : goal.lay_words-requires
lay_words-requires c = record { kept = c.requires; count_value = (c.property_count-count.ensures, leb-true _ _ (sym c.has_room.ensures ∙ c.if-has_room.true)) }

pub overflow_add-result : goal.overflow_add-result
overflow_add-result c =
    let a = c.args in
    let k = leb-true (a.at + 4 * _) (length a.out.now) (sym c.has_room.ensures ∙ c.if-has_room.true) in
    omega arith

pub returns-then-has_room : goal.returns-then-has_room
returns-then-has_room c = words_wrote _ _ _ c.property_count-count.ensures c.lay_words.ensures

pub returns : goal.returns
returns c = words_not _ _ _ c.property_count-count.ensures (omega arith) (leb-false _ _ (sym c.has_room.ensures ∙ c.if-has_room.false))
