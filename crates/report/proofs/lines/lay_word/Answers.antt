-- `report::lines::lay_word` meets its contract. Assumes nothing.
use mathlib.Core.Path.{ap, ◌∙◌}
use native.Mathlib.Omega.{arith}
use lib.Seq.{sets}
use Rattle.property_answers.proofs.Bridge.{few_count}
use Rattle.report.proofs.Lasting.{word_bytes, value_small, early_small, settled_small}
use Rattle.report.proofs.lines.lay_word.Goals as goal

pub property_row-requires : goal.property_row-requires
property_row-requires c = few_count c.requires.kept c.requires.i_bound.0

pub value_at-requires : goal.value_at-requires
value_at-requires c = rw c.property_row.ensures (let h = c.requires.kept.sound.book.properties c.args.i c.requires.i_bound.0 in let f = c.requires.kept.sound.book.few in omega arith)

pub glyph-value-requires : goal.glyph-value-requires
glyph-value-requires c = rw (c.value_at.ensures, c.property_row.ensures) (value_small c.requires.kept c.args.i c.requires.i_bound.0)

pub early_at-requires : goal.early_at-requires
early_at-requires c = few_count c.requires.kept c.requires.i_bound.0

pub glyph-early-requires : goal.glyph-early-requires
glyph-early-requires c = rw c.early_at.ensures (early_small c.requires.kept c.args.i c.requires.i_bound.0)

pub settled_at-requires : goal.settled_at-requires
settled_at-requires c = few_count c.requires.kept c.requires.i_bound.0

pub glyph-settled-requires : goal.glyph-settled-requires
glyph-settled-requires c = rw c.settled_at.ensures (settled_small c.requires.kept c.args.i c.requires.i_bound.0)

pub returns : goal.returns
returns c =
    c.copy_to.ensures
    ∙ ap
    (sets c.args.out.now c.args.at)
    (word_bytes c.args.monitor.now c.args.i c.property_row.ensures c.value_at.ensures c.glyph-value.ensures c.early_at.ensures c.glyph-early.ensures c.settled_at.ensures c.glyph-settled.ensures)
