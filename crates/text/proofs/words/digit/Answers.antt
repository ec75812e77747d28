-- `text::words::digit` meets its contract. Assumes nothing.
use Rattle.std.proofs.Common.{◌≡◌, ◌∙◌, sym, true, false}
use Rattle.text.specs.Words.{pick, digit}
use Rattle.text.specs.Private.{value_of}
use Rattle.text.proofs.words.digit.Goals as goal

pub returns-then-is_ascii_digit : goal.returns-then-is_ascii_digit
unfolding value_of pick digit
returns-then-is_ascii_digit c =
    let e : digit c.args.byte ≡ true = sym c.is_ascii_digit.ensures.value ∙ c.if-is_ascii_digit.true in
    rw (e, c.from.ensures)

pub returns-else-is_ascii_digit : goal.returns-else-is_ascii_digit
unfolding value_of pick digit
returns-else-is_ascii_digit c =
    let e : digit c.args.byte ≡ false = sym c.is_ascii_digit.ensures.value ∙ c.if-is_ascii_digit.false in
    rw e
