use Rattle.rule_scanner.proofs.Passing.{top_byte}
use mathlib.Core.Path.{◌∙◌}
use Rattle.rule_scanner.proofs.scan.form_at.Goals as goal

-- src/scan.rt:62:1
pub returns : goal.returns
returns c = c.byte_form.ensures ∙ top_byte c.args.forms.now c.args.depth c.if-depth-eq0.false
