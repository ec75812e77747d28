use Rattle.desk_lines.proofs.Longest.{last_fits}
use Rattle.kit_desk.proofs.Rooms.{within_room}
use borrow.Author.Rules.{rules}
use Rattle.kit_desk.proofs.say_last.Goals as goal

pub print_answer-requires : goal.print_answer-requires
print_answer-requires g c = within_room _ _ c.last-length.ensures (last_fits _) (search rules) (search rules)
