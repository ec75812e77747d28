-- `desk_lines::answer` meets its contract. Assumes nothing.
use Rattle.desk_lines.proofs.Answering.{answered_so}
use Rattle.desk_lines.proofs.Longest.{answer_fits}
use Rattle.desk_lines.proofs.answer.Goals as goal

pub returns : goal.returns
returns c = answered_so c.hear-heard.ensures c.event-length.ensures (answer_fits c.requires.stands c.args.kits.now c.args.stage c.args.line.now)
