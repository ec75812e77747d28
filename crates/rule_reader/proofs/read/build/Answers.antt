use Rattle.rule_reader.proofs.Sections.{read_many, small_of, balance_of, read_refused, read_right}
use Rattle.book.specs.Judging.{loaded}
use Rattle.std.proofs.lemmas.Result.{err_from_is_err_and}
use Rattle.numbers.proofs.Refused.{never_0}
use mathlib.Core.Path.{refl, ap, ◌∙◌}
use native.Mathlib.Omega.{arith}
use borrow.Author.Rules.{rules}
use Rattle.rule_reader.proofs.read.build.Goals as goal

pub returns-then-extent-gt-MOST_ROWS : goal.returns-then-extent-gt-MOST_ROWS
returns-then-extent-gt-MOST_ROWS c = read_many _ _ c.requires.counted _ c.if-extent-gt-MOST_ROWS.true

pub make-taken-requires : goal.make-taken-requires
make-taken-requires c = let p = c.requires in record { short = p.short; forms_long = p.forms_long; small = small_of _ _ p.counted (omega (arith, c.if-extent-gt-MOST_ROWS.false)); frames_long = search rules; rooms = record { rows_long = search rules; operands_long = search rules; tops_long = search rules } }

pub put_sections-end-requires : goal.put_sections-end-requires
put_sections-end-requires c = let m = c.make-taken.ensures in record { few = omega (arith, c.if-extent-gt-MOST_ROWS.false); balance = balance_of _ _ c.requires.counted _ _ _ _ m.builds; words_long = c.requires.words_long; rows_long = m.rooms.rows_long; operands_long = m.rooms.operands_long; tops_long = m.rooms.tops_long }

pub returns-in_err-check : goal.returns-in_err-check
returns-in_err-check c =
    let p = err_from_is_err_and c.from_residual.result c.from_residual.ensures.1 in
    rw (p.1, p.2) (read_refused _ _ c.requires.counted _ _ _ _ c.make-taken.ensures.builds _ _ _ _ refl refl refl refl (omega (arith, c.if-extent-gt-MOST_ROWS.false)) c.make-taken.ensures.rooms c.put_sections-end.ensures (c.in_err-check.ensures ∙ ap (λ z. (loaded z).number) c.part_of.ensures) (never_0 _))

pub returns : goal.returns
returns c = read_right _ _ c.requires.counted _ _ _ _ c.make-taken.ensures.builds _ _ _ _ refl refl refl refl (omega (arith, c.if-extent-gt-MOST_ROWS.false)) c.make-taken.ensures.rooms c.put_sections-end.ensures (c.in_ok-check.ensures ∙ ap (λ z. (loaded z).number) c.part_of.ensures) refl
