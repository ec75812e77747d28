-- `desk_lines::put_kit` meets its contract. Assumes nothing.
use Prim.Native.Nat.{◌*◌}
use Rattle.desk.specs.Kits.{KIT_WORDS}
use Rattle.line_words.specs.Line.{line_supply}
use Rattle.desk_lines.proofs.Steps.{kit_put_lem}
use Rattle.desk_lines.proofs.put_kit.Goals as goal

pub returns : goal.returns
returns c = let s = c.args in kit_put_lem s.kits.now (KIT_WORDS * s.k) (line_supply s.line.now) c.word_at.ensures c.word_at-2.ensures c.word_at-3.ensures c.word_at-4.ensures
