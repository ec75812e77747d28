-- `text::decimals::count_up` meets its contract. Assumes nothing.
use Rattle.std.proofs.Common.{refl, arith}
use Rattle.text.proofs.Digits.{one_more, ten_more, anew}
use Rattle.text.proofs.decimals.count_up.Goals as goal

pub returns-then-scratch-lt-NINE : goal.returns-then-scratch-lt-NINE
returns-then-scratch-lt-NINE c = one_more c.requires.0 _ refl c.if-scratch-lt-NINE.true

pub returns-then-scratch-lt-NINE-2 : goal.returns-then-scratch-lt-NINE-2
returns-then-scratch-lt-NINE-2 c = ten_more c.requires.0 _ c.if-first-lt-LAST.true refl c.if-scratch-lt-NINE-2.true c.if-scratch-lt-NINE.false

pub returns : goal.returns
returns c =
    let asked = c.requires in
    let w = c.write_last in
    anew _ _ _ _ (omega (arith, asked.1)) asked.0.size w.auto.scratch w.ensures.0 w.ensures.1
