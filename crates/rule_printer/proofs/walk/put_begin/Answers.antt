use Rattle.rule_printer.proofs.Walking.{head_same}
use Rattle.book.specs.Kinds.{kind_of_word}
use mathlib.Core.Path.{ap, ◌∙◌}
use Rattle.rule_printer.proofs.walk.put_begin.Goals as goal

-- src/walk.rt:60:1
pub returns : goal.returns
returns c = head_same (c.of_word.ensures ∙ ap kind_of_word c.kind_in.ensures) c.arg_in.ensures c.lower_in.ensures c.upper_in.ensures c.put_head.ensures
