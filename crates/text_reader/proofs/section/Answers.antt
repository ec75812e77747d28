-- `text_reader::section` meets its contract. Assumes nothing.
use Rattle.std.proofs.Common.{sym, ◌∙◌, mul-le-mul_left, arith, length-set}
use Rattle.std.proofs.lemmas.Result.{err_from_is_err_and}
use Rattle.text_reader.specs.Reads.{SectionRead}
use Rattle.text_reader.proofs.Taking.{section_none, section_over, section_read}
use Rattle.text_reader.proofs.section.Goals as goal

pub returns-in_err-count : goal.returns-in_err-count
unfolding SectionRead
returns-in_err-count c =
    let p = err_from_is_err_and c.from_residual.result c.from_residual.ensures.1 in
    rw (p.1, p.2) (section_none _ _ _ _ (sym c.in_err-count.ensures))

pub returns-then-count-limit : goal.returns-then-count-limit
unfolding SectionRead
returns-then-count-limit c = section_over _ _ _ _ (sym c.in_ok-count.ensures) c.if-count-limit.true

pub overflow_mul-size : goal.overflow_mul-size
overflow_mul-size c = omega (arith, mul-le-mul_left c.args.size c.if-count-limit.false)

pub words_into-requires : goal.words_into-requires
words_into-requires c = simp length-set (omega (arith, mul-le-mul_left c.args.size c.if-count-limit.false))

pub shape_of-words : goal.shape_of-words
shape_of-words c = c.words_into.auto.words ∙ simp length-set

pub returns : goal.returns
returns c = section_read _ _ _ _ _ _ _ _ (sym c.in_ok-count.ensures) c.if-count-limit.false (omega arith) c.words_into.ensures
