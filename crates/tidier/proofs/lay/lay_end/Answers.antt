use Rattle.tidier.proofs.Adding.{ends, layable_after}
use Rattle.tidier.proofs.lay.lay_end.Goals as goal

-- src/lay.rt:203:5
pub lay_not_if-requires : goal.lay_not_if-requires
lay_not_if-requires c = layable_after c.requires.layable.rooms c.lay_row-laid.ensures.kept

-- src/lay.rt:188:1
pub returns : goal.returns
returns c = ends _ c.form_here-form.ensures c.words_after-words.ensures c.over_all.ensures c.lay_row-laid.ensures c.lay_not_if.ensures
