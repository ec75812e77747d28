-- `desk_lines::count_line` meets its contract. Assumes nothing.
use mathlib.Core.Path.{◌∙◌}
use Rattle.line_words.specs.Line.{line_supply}
use Rattle.desk_lines.proofs.Steps.{count_refused, count_accepted}
use Rattle.desk_lines.proofs.count_line.Goals as goal

pub returns-in-Ok : goal.returns-in-Ok
returns-in-Ok c = c.count_heard.ensures ∙ count_accepted (line_supply c.args.line.now) c.in-Ok.ensures c.word_at.ensures

pub returns-in-Err : goal.returns-in-Err
returns-in-Err c = c.closed_by.ensures ∙ count_refused (line_supply c.args.line.now) c.in-Err.refusal c.in-Err.ensures
