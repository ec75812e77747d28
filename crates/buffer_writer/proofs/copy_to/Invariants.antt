-- `buffer_writer::copy_to` meets its contract. The loop's invariant stands first. Assumes nothing.
use lib.ListN.{drop}
use Rattle.buffer_writer.proofs.Writes.{Storing}
use Rattle.buffer_writer.proofs.copy_to.Given as goal

abbrev pub invariant-loop-i : goal.invariant-loop-i
invariant-loop-i l = Storing l.initial.out l.at l.bytes l.out l.i (drop l.i l.bytes)
