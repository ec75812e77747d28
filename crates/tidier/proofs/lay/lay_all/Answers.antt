use native.Mathlib.Omega.{arith}
use mathlib.Core.Path.{refl, sym, ◌∙◌}
use Rattle.tidier.proofs.Adding.{layable_after}
use Rattle.tidier.proofs.Booked.{placed_as, source_of, going_start, going_more, going_all, property_fitted, property_row_lem, property_visit, said_book, assumes_are, guarantees_are}
use Rattle.tidier.proofs.lay.lay_all.Goals as goal

-- src/lay.rt:271:9
pub rows_part-source-requires : goal.rows_part-source-requires
rows_part-source-requires c = c.place_accepted-places.ensures

-- src/lay.rt:272:9
pub operands_part-links-requires : goal.operands_part-links-requires
operands_part-links-requires c = c.place_accepted-places.ensures

-- src/lay.rt:273:9
pub assumes_part-assumes-requires : goal.assumes_part-assumes-requires
assumes_part-assumes-requires c = c.place_accepted-places.ensures

-- src/lay.rt:274:9
pub guarantees_part-guarantees-requires : goal.guarantees_part-guarantees-requires
guarantees_part-guarantees-requires c = c.place_accepted-places.ensures

-- src/lay.rt:281:5
pub loop-i-init : goal.loop-i-init
loop-i-init c = going_start _ _ _ _ _ _ _

-- src/lay.rt:282:13
pub stand_in-row-requires : goal.stand_in-row-requires
stand_in-row-requires c = property_fitted (source_of _ (placed_as c.requires.ok c.place_accepted-places.ensures) refl c.rows_part-source.ensures c.operands_part-links.ensures c.assumes_part-assumes.ensures c.guarantees_part-guarantees.ensures c.requires.fit) _ c.loop-i-test.true _ c.property_at.ensures

-- src/lay.rt:286:19
pub count_at-requires : goal.count_at-requires
count_at-requires c = property_row_lem (source_of _ (placed_as c.requires.ok c.place_accepted-places.ensures) refl c.rows_part-source.ensures c.operands_part-links.ensures c.assumes_part-assumes.ensures c.guarantees_part-guarantees.ensures c.requires.fit) _ c.loop-i-test.true _ c.property_at.ensures _ c.stand_in-row.ensures

-- src/lay.rt:290:9
pub lay_rest-laid-requires : goal.lay_rest-laid-requires
lay_rest-laid-requires c = property_visit (source_of _ (placed_as c.requires.ok c.place_accepted-places.ensures) refl c.rows_part-source.ensures c.operands_part-links.ensures c.assumes_part-assumes.ensures c.guarantees_part-guarantees.ensures c.requires.fit) _ c.loop-i-test.true _ c.property_at.ensures _ c.stand_in-row.ensures _ c.count_at.ensures (layable_after c.requires.rooms c.loop-i.invariant.kept)

-- src/lay.rt:281:5
pub loop-i-preserved : goal.loop-i-preserved
loop-i-preserved c = going_more (source_of _ (placed_as c.requires.ok c.place_accepted-places.ensures) refl c.rows_part-source.ensures c.operands_part-links.ensures c.assumes_part-assumes.ensures c.guarantees_part-guarantees.ensures c.requires.fit) _ c.loop-i-test.true _ c.property_at.ensures _ c.stand_in-row.ensures _ c.count_at.ensures c.loop-i.invariant c.lay_rest-laid.ensures

-- src/lay.rt:260:1
pub shape_of-rows : goal.shape_of-rows
shape_of-rows c = c.loop-i.invariant.kept.rows_size

-- src/lay.rt:260:1
pub shape_of-operands : goal.shape_of-operands
shape_of-operands c = c.loop-i.invariant.kept.operands_size

-- src/lay.rt:260:1
pub shape_of-tops : goal.shape_of-tops
shape_of-tops c = c.loop-i.invariant.kept.tops_size

-- src/lay.rt:260:1
pub returns : goal.returns
returns c = going_all (source_of _ (placed_as c.requires.ok c.place_accepted-places.ensures) refl c.rows_part-source.ensures c.operands_part-links.ensures c.assumes_part-assumes.ensures c.guarantees_part-guarantees.ensures c.requires.fit) c.loop-i.invariant c.loop-i-test.false c.requires.rooms (said_book (placed_as c.requires.ok c.place_accepted-places.ensures) refl c.rows_part-source.ensures c.operands_part-links.ensures) (assumes_are (placed_as c.requires.ok c.place_accepted-places.ensures) refl ∙ sym c.assumes_part-assumes.ensures) (guarantees_are (placed_as c.requires.ok c.place_accepted-places.ensures) refl ∙ sym c.guarantees_part-guarantees.ensures)
