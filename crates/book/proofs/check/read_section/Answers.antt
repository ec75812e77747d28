-- `book::check::read_section` meets its contract. Assumes nothing.
use Rattle.book.proofs.Sections.{ended, too_many, too_short, enough}
use mathlib.Core.Path.{refl}
use native.Mathlib.Nat.{mul-le-mul}
use native.Mathlib.Omega.{arith}
use Rattle.book.proofs.check.read_section.Goals as goal

pub returns-then-at-words-clause-err : goal.returns-then-at-words-clause-err
returns-then-at-words-clause-err c = ended c.args.words.now c.args.at c.args.limit c.args.size (omega arith)

pub returns-then-limit-count-clause-err : goal.returns-then-limit-count-clause-err
returns-then-limit-count-clause-err c = too_many c.args.words.now c.args.at c.args.limit c.args.size _ refl (omega arith) (omega arith)

pub overflow_mul-room : goal.overflow_mul-room
overflow_mul-room c = record { fits = omega (arith, mul-le-mul c.requires.2 c.if-limit-count.false) }

pub returns-then-words-first-clause-err : goal.returns-then-words-first-clause-err
returns-then-words-first-clause-err c = too_short c.args.words.now c.args.at c.args.limit c.args.size _ refl (omega arith) (omega arith) (omega arith)

pub returns-clause-ok : goal.returns-clause-ok
returns-clause-ok c = enough c.args.words.now c.args.at c.args.limit c.args.size _ refl (omega arith) (omega arith) (omega arith)
