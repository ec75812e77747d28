use Rattle.std.proofs.Common.{sym, ◌∙◌, arith}
use Rattle.text.proofs.Letters.{told, count_start, count_few, count_more, count_ends}
use Rattle.text.proofs.words.number_here.Goals as goal

pub loop-next-init : goal.loop-next-init
loop-next-init c = count_start _ _ _ (omega arith) c.requires.first_value.0

pub returns-then-parts : goal.returns-then-parts
returns-then-parts c =
    let asked = c.requires in
    count_ends _ _ _ (omega arith) asked.first_value.0 _ _ c.loop-next.invariant asked.first_value.1 (omega arith) (omega arith) asked.at_in_bounds.1 (sym c.parts.ensures ∙ c.if-parts.true)

pub overflow_mul-number : goal.overflow_mul-number
overflow_mul-number c = let k = count_few c.loop-next.invariant (omega arith) in omega arith

pub overflow_add-number : goal.overflow_add-number
overflow_add-number c = let k = count_few c.loop-next.invariant (omega arith) in let d = (told _ (sym c.in-Some.ensures)).small in omega arith

pub loop-next-preserved : goal.loop-next-preserved
loop-next-preserved c = count_more c.loop-next.invariant (omega arith) (sym c.in-Some.ensures)
