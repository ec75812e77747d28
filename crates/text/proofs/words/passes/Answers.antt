-- `text::words::passes` meets its contract. Assumes nothing.
use Rattle.std.proofs.Common.{arith}
use Rattle.text.proofs.Letters.{fits_below, passes_above, by_last}
use Rattle.text.proofs.words.passes.Goals as goal

pub returns-then-n-lt-MAX_TENTH : goal.returns-then-n-lt-MAX_TENTH
returns-then-n-lt-MAX_TENTH c = fits_below _ _ c.requires c.if-n-lt-MAX_TENTH.true

pub returns-then-n-gt-MAX_TENTH : goal.returns-then-n-gt-MAX_TENTH
returns-then-n-gt-MAX_TENTH c = passes_above _ _ c.requires c.if-n-gt-MAX_TENTH.true

pub returns : goal.returns
returns c = let low = c.if-n-lt-MAX_TENTH.false in let high = c.if-n-gt-MAX_TENTH.false in by_last _ _ c.requires (omega arith)
