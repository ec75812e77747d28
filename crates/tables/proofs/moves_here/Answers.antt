-- `tables::moves_here` meets its contract. Assumes nothing.
use Rattle.memory.proofs.Rows.{below_128}
use native.Mathlib.Omega.{arith}
use mathlib.Core.Path.{sym, ap, ◌∙◌}
use borrow.Author.Tests.{leb-true, leb-false}
use Rattle.book.specs.Rows.{count_of}
use Rattle.tables.proofs.Joins.{arg_good_lem, moves_span, moves_plain, moves_temporal}
use Rattle.tables.proofs.moves_here.Goals as goal

pub read_row-words-requires : goal.read_row-words-requires
read_row-words-requires c = below_128 c.requires.sound.book c.requires.row_bound

pub taken_by-count-requires : goal.taken_by-count-requires
taken_by-count-requires c = rw c.word.ensures (arg_good_lem c.requires.sound c.requires.row_bound c.read_row-words.ensures)

pub joined_at-requires : goal.joined_at-requires
joined_at-requires c = record { book_kept = (c.requires.sound.book, omega arith); span = rw (c.taken_by-count.ensures, c.word.ensures) (moves_span c.requires.sound c.requires.row_bound c.read_row-words.ensures) }

pub returns-then-is_temporal : goal.returns-then-is_temporal
returns-then-is_temporal c = moves_temporal c.requires.sound c.requires.row_bound c.read_row-words.ensures (leb-true 7 _ (sym c.is_temporal.ensures ∙ c.if-is_temporal.true))

pub returns : goal.returns
returns c =
    moves_plain c.requires.sound c.requires.row_bound c.read_row-words.ensures (leb-false 7 _ (sym c.is_temporal.ensures ∙ c.if-is_temporal.false)) (c.taken_by-count.ensures ∙ ap (λ k. count_of k c.read_row-words.result.arg) c.word.ensures)
    c.joined_at.ensures
