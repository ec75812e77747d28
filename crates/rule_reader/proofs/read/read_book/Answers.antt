use Rattle.rule_reader.proofs.Sections.{read_wrong}
use mathlib.Core.Path.{sym, ◌∙◌}
use borrow.Author.Rules.{rules}
use Rattle.rule_reader.proofs.read.read_book.Goals as goal

pub build-requires : goal.build-requires
build-requires c = record { counted = sym c.in-Ok.is ∙ c.scan_text.ensures; short = c.requires.0; forms_long = search rules; words_long = c.requires.1 }

pub returns-in-Err : goal.returns-in-Err
returns-in-Err c = read_wrong _ _ _ (sym c.in-Err.is ∙ c.scan_text.ensures)
