-- `report::lines::put_parts` meets its contract. Assumes nothing.
use Rattle.report.proofs.Lasting.{line_accepted, line_refused}
use Rattle.report.proofs.lines.put_parts.Goals as goal

pub put_numbers-a-requires : goal.put_numbers-a-requires
put_numbers-a-requires c = c.requires.1

pub put_rest-b-requires : goal.put_rest-b-requires
put_rest-b-requires c = c.requires.0

pub returns-then-refusal-eq-ACCEPTED : goal.returns-then-refusal-eq-ACCEPTED
returns-then-refusal-eq-ACCEPTED c = line_accepted _ _ _ c.put_numbers-a.ensures c.if-refusal-eq-ACCEPTED.true c.put_rest-b.ensures c.put_bytes.ensures

pub returns : goal.returns
returns c = line_refused _ _ _ c.put_numbers-a.ensures c.if-refusal-eq-ACCEPTED.false c.put_bytes-2.ensures
