-- `tables::lowest_here` meets its contract. Assumes nothing.
use Rattle.memory.proofs.Rows.{below_128}
use mathlib.Core.Path.{ap, ◌∙◌}
use Rattle.book.specs.Rows.{count_of}
use Rattle.tables.proofs.Joins.{arg_good_lem, moves_span, lowest_row}
use Rattle.tables.proofs.lowest_here.Goals as goal

pub read_row-words-requires : goal.read_row-words-requires
read_row-words-requires c = below_128 c.requires.sound.book c.requires.row_bound

pub taken_by-count-requires : goal.taken_by-count-requires
taken_by-count-requires c = rw c.word.ensures (arg_good_lem c.requires.sound c.requires.row_bound c.read_row-words.ensures)

pub least_of-requires : goal.least_of-requires
least_of-requires c = (c.requires.sound.book, rw (c.taken_by-count.ensures, c.word.ensures) (moves_span c.requires.sound c.requires.row_bound c.read_row-words.ensures))

pub returns : goal.returns
returns c = lowest_row c.requires.sound c.requires.row_bound c.read_row-words.ensures (c.taken_by-count.ensures ∙ ap (λ k. count_of k c.read_row-words.result.arg) c.word.ensures) c.least_of.ensures
