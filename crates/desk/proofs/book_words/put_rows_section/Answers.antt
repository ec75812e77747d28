-- `desk::book_words::put_rows_section` meets its contract. Assumes nothing.
use Rattle.desk.specs.Kits.{kits_in}
use Rattle.desk_rules.specs.BookWords.{rows_section}
use Rattle.desk_rules.specs.Scans.{windows}
use Rattle.desk.proofs.Writing.{sets_long, rows_counted}
use lib.ListN.{length-set}
use native.Mathlib.Omega.{arith}
use Rattle.desk.proofs.book_words.put_rows_section.Goals as goal

pub put_rows-requires : goal.put_rows-requires
put_rows-requires c = (c.requires.0, simp length-set (omega (arith, c.requires.1)))

pub shape_of-words : goal.shape_of-words
shape_of-words c =
    let s = c.args in
    sets_long s.words.now _ 0 (rows_section (windows (kits_in s.kits.now s.count))) (rows_counted s.kits.now s.count s.words.now _ c.put_rows.ensures)

pub returns : goal.returns
returns c = let s = c.args in rows_counted s.kits.now s.count s.words.now _ c.put_rows.ensures
