-- `report::lines::lay_words` meets its contract. Assumes nothing.
use native.Mathlib.Omega.{arith}
use Rattle.report.proofs.Lasting.{none_laid, all_laid}
use Rattle.report.proofs.lines.lay_words.Goals as goal

pub returns-then-count-eq0 : goal.returns-then-count-eq0
returns-then-count-eq0 c = none_laid _ _ _ c.if-count-eq0.true

pub lay_word-requires : goal.lay_word-requires
lay_word-requires c = record { kept = c.requires.kept; i_bound = (omega (arith, c.if-count-eq0.false), omega (arith, c.if-count-eq0.false)) }

pub lay_from-requires : goal.lay_from-requires
lay_from-requires c = record { kept = c.requires.kept; first_le_count = (omega (arith, c.if-count-eq0.false), c.requires.count_value.0, omega arith) }

pub returns : goal.returns
returns c = all_laid _ _ _ c.lay_word.ensures c.lay_from.ensures
