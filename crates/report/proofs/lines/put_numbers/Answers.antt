-- `report::lines::put_numbers` meets its contract. Assumes nothing.
use Rattle.buffer_writer.proofs.Writes.{and_then, same_bytes}
use Rattle.report.proofs.Lasting.{rest_whole, accepted_bytes}
use Rattle.report.proofs.lines.put_numbers.Goals as goal

pub returns-then-refusal-eq-ACCEPTED : goal.returns-then-refusal-eq-ACCEPTED
returns-then-refusal-eq-ACCEPTED c =
    let s = c.args in
    and_then (same_bytes c.put_bytes-a.ensures (rest_whole s.digits.now s.first)) (same_bytes c.put_bytes.ensures (accepted_bytes s.refusal c.if-refusal-eq-ACCEPTED.true))

pub returns : goal.returns
returns c =
    let s = c.args in
    and_then (same_bytes c.put_bytes-a.ensures (rest_whole s.digits.now s.first)) c.put_numbered.ensures
