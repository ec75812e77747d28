use Rattle.std.proofs.Common.{◌∙◌}
use Rattle.reporter.proofs.show_report.Goals as goal

pub returns : goal.returns
returns g c = c.show.ensures ∙ c.largest_room.ensures
