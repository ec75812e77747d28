-- `calls::greatest` meets its contract. The invariant: the greatest of the bytes passed. Assumes nothing.
use Rattle.calls.specs.Private.{Greatest}
use Rattle.calls.proofs.greatest.Given as goal

abbrev pub invariant-loop-byte : goal.invariant-loop-byte
invariant-loop-byte l = Greatest l.bytes l.most l.byte-index
