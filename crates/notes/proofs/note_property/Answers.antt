-- `notes::note_property` meets its contract. Assumes nothing.
use Rattle.notes.proofs.Notes.{row_inside, still_countable, noted_true, noted_false}
use Rattle.notes.proofs.note_property.Goals as goal

pub holds-requires : goal.holds-requires
holds-requires c = row_inside c.args.n c.requires c.note_settled.ensures c.property_row.ensures

pub returns-then-holds : goal.returns-then-holds
returns-then-holds c = noted_true c.args.n c.requires c.note_settled.ensures c.property_row.ensures c.holds.ensures c.if-holds.true c.note_true.ensures

pub note_false-requires : goal.note_false-requires
note_false-requires c = still_countable c.args.n c.requires c.note_settled.ensures

pub returns : goal.returns
returns c = noted_false c.args.n c.requires c.note_settled.ensures c.property_row.ensures c.holds.ensures c.if-holds.false c.note_false.ensures
