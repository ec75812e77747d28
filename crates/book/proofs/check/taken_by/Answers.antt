-- `book::check::taken_by` meets its contract. Assumes nothing.
use Rattle.book.proofs.Links.{takes_none, takes_arg}
use native.Mathlib.Omega.{arith}
use Rattle.book.proofs.check.taken_by.Goals as goal

pub returns-then-kind-word : goal.returns-then-kind-word
returns-then-kind-word c = takes_none _ _ (omega arith)

pub returns : goal.returns
returns c = takes_arg _ _ (omega arith) c.requires
