-- `property_answers::verdict_at` meets its contract. Assumes nothing.
use mathlib.Core.Path.{sym}
use Rattle.property_answers.proofs.Bridge.{verdict_in_lem}
use Rattle.property_answers.proofs.verdict_at.Goals as goal

pub returns : goal.returns
returns c = sym (verdict_in_lem c.requires.kept c.args.i c.requires.i_bound c.property_row.ensures c.holds-value.ensures c.early_at.ensures c.answer_of-early.ensures c.settled_at.ensures c.answer_of-settled.ensures)
