-- The words of what the code of a memory names. Definitions only.
use Rattle.std.specs.Prelude.{ℕ}
use Rattle.memory.specs.declared.Way.{Way}
use Rattle.memory.specs.declared.Way.TheVariants.{Ordinary, Lasting}
use Rattle.memory.specs.declared.Standing.{Standing}
use Rattle.memory.specs.declared.Standing.TheVariants.{Neither, Covers, Gone}

-- of a way of monitoring
abbrev pub word_of_way : Way → ℕ
word_of_way Ordinary = 0
word_of_way Lasting = 1

-- of what is told of a set: the words COVERS, GONE and NEITHER of `Tables`
abbrev pub word_of_standing : Standing → ℕ
word_of_standing Neither = 0
word_of_standing Covers = 1
word_of_standing Gone = 2
