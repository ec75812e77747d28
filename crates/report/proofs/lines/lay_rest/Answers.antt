-- `report::lines::lay_rest` meets its contract. Assumes nothing.
use native.Mathlib.Omega.{arith}
use Rattle.report.proofs.Lasting.{words_few, rest_laid}
use Rattle.report.proofs.lines.lay_rest.Goals as goal

pub property_count-count-requires : goal.property_count-count-requires
property_count-count-requires c = c.requires.0.sound.book

pub lay_words-requires : goal.lay_words-requires
lay_words-requires c =
    let k = words_few _ c.args.out.now 0 c.property_count-count.ensures c.requires.0 in
    record { kept = c.requires.0; count_value = (c.property_count-count.ensures, omega arith) }

pub overflow_mul-count : goal.overflow_mul-count
overflow_mul-count c =
    let k = words_few _ c.args.out.now 0 c.property_count-count.ensures c.requires.0 in omega arith

pub overflow_add-at : goal.overflow_add-at
overflow_add-at c =
    let k = words_few _ c.args.out.now 0 c.property_count-count.ensures c.requires.0 in omega arith

pub lay_end-requires : goal.lay_end-requires
lay_end-requires c =
    let k = words_few _ c.args.out.now 0 c.property_count-count.ensures c.requires.0 in omega arith

pub returns : goal.returns
returns c =
    rest_laid _ _ _ c.property_count-count.ensures c.lay_words.ensures c.fullest.ensures c.lay_end.ensures
