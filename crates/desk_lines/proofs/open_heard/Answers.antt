-- `desk_lines::open_heard` meets its contract. Assumes nothing.
use Rattle.desk_lines.proofs.Steps.{open_refused, open_accepted}
use Rattle.desk_lines.proofs.open_heard.Goals as goal

pub returns-in-Ok : goal.returns-in-Ok
returns-in-Ok c = open_accepted c.args.opened c.in-Ok.is

pub returns-in-Err : goal.returns-in-Err
returns-in-Err c = open_refused c.args.opened _ _ c.in-Err.is c.closed_by.ensures
