-- `text::decimals::too_few` meets its contract. Assumes nothing.
use Rattle.text.proofs.Digits.{plenty}
use Rattle.std.proofs.Common.{arith}
use Rattle.text.proofs.decimals.too_few.Goals as goal

pub returns-then-size-ge-MOST_DIGITS : goal.returns-then-size-ge-MOST_DIGITS
returns-then-size-ge-MOST_DIGITS c = plenty c.args.n _ c.if-size-ge-MOST_DIGITS.true (omega arith)

pub returns : goal.returns
returns c = rw c.places.ensures
