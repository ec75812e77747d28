-- `planning::mode_of` meets its contract: by the row's kind. Assumes nothing.
use mathlib.Core.Path.{refl, ap}
use Rattle.book.specs.declared.kind.Kind.TheVariants.{Historically, Once}
use Rattle.book.specs.Kinds.{word_of_kind}
use Rattle.planning.specs.Plan.{held_in}
use Rattle.planning.proofs.Modes.{other_word, first_place, first_row, second_place, second_row, mode_historically, mode_once, mode_since}
use Rattle.planning.proofs.mode_of.Goals as goal

pub operand_at-requires : goal.operand_at-requires
operand_at-requires c = first_place c.requires.book_kept c.requires.row_bound.0 c.requires.row_bound.1 (λ h. refl) c.start_at-start.ensures

pub holds-first-requires : goal.holds-first-requires
holds-first-requires c = first_row c.requires.book_kept c.requires.row_bound.0 c.requires.row_bound.1 (λ h. refl) c.start_at-start.ensures c.operand_at.ensures

pub operand_at-requires-in_default : goal.operand_at-requires-in_default
operand_at-requires-in_default c = second_place c.requires.book_kept c.requires.row_bound.0 c.requires.row_bound.1 c.row_kind.ensures.1 c.start_at-start.ensures (other_word Historically c.in_default.not-Historically) (other_word Once c.in_default.not-Once)

pub holds-second-requires : goal.holds-second-requires
holds-second-requires c = second_row c.requires.book_kept c.requires.row_bound.0 c.requires.row_bound.1 c.row_kind.ensures.1 c.start_at-start.ensures (other_word Historically c.in_default.not-Historically) (other_word Once c.in_default.not-Once) c.operand_at-in_default.ensures

pub returns-in-Historically : goal.returns-in-Historically
returns-in-Historically c = mode_historically c.requires.book_kept c.requires.row_bound.0 c.requires.row_bound.1 c.row_kind.ensures.1 c.start_at-start.ensures (held_in c.args.monitor.now) c.operand_at.ensures c.holds-first.ensures c.mode.ensures (ap word_of_kind c.in-Historically.is)

pub returns-in-Once : goal.returns-in-Once
returns-in-Once c = mode_once c.requires.book_kept c.requires.row_bound.0 c.requires.row_bound.1 c.row_kind.ensures.1 c.start_at-start.ensures (held_in c.args.monitor.now) c.operand_at.ensures c.holds-first.ensures c.mode-in-Once.ensures (ap word_of_kind c.in-Once.is)

pub returns-in_default : goal.returns-in_default
returns-in_default c = mode_since c.requires.book_kept c.requires.row_bound.0 c.requires.row_bound.1 c.row_kind.ensures.1 c.start_at-start.ensures (held_in c.args.monitor.now) c.operand_at.ensures c.holds-first.ensures c.operand_at-in_default.ensures c.holds-second.ensures c.mode-in_default.ensures (other_word Historically c.in_default.not-Historically) (other_word Once c.in_default.not-Once)
