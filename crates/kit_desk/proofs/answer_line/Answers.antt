use Rattle.kit_desk.proofs.Rooms.{within_room}
use borrow.Author.Rules.{rules}
use Rattle.kit_desk.proofs.answer_line.Goals as goal

pub print_answer-requires : goal.print_answer-requires
print_answer-requires g c = let a = c.answer-answered.ensures in within_room _ _ a.written a.fits (search rules) (search rules)
