-- `desk_lines::scan_line` meets its contract. Assumes nothing.
use Rattle.line_words.specs.Line.{line_supply}
use Rattle.desk_lines.proofs.Steps.{scan_refused, scan_made}
use Rattle.desk_lines.proofs.scan_line.Goals as goal

pub returns-in-Ok : goal.returns-in-Ok
returns-in-Ok c = λ words. scan_made c.args.done (line_supply c.args.line.now) c.next_number-i.ensures words c.in-Ok.ensures c.word_at.ensures c.word_at-in-Ok.ensures c.scan-scanned.ensures c.refused_with.ensures

pub returns-in-Err : goal.returns-in-Err
returns-in-Err c = λ words. scan_refused c.args.done (line_supply c.args.line.now) c.next_number-i.ensures words _ c.in-Err.ensures c.number-number.ensures c.requires
