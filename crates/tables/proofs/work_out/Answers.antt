-- `tables::work_out` meets its contract. Assumes nothing.
use Rattle.tables.proofs.Puts.{moves_put_sound, lowest_put_sound, values_put_sound, told_sound, worked_founded}
use Rattle.tables.proofs.Until.{asked_sound, worked_awaited}
use Rattle.tables.proofs.work_out.Goals as goal

pub fill_lowest-requires : goal.fill_lowest-requires
fill_lowest-requires c = rw c.fill_moves.ensures (moves_put_sound c.requires.0)

pub fill_values-requires : goal.fill_values-requires
fill_values-requires c = rw (c.fill_lowest.ensures, c.fill_moves.ensures) (lowest_put_sound (moves_put_sound c.requires.0))

pub retell-requires : goal.retell-requires
retell-requires c = rw (c.fill_values.ensures, c.fill_lowest.ensures, c.fill_moves.ensures) (values_put_sound (lowest_put_sound (moves_put_sound c.requires.0)))

pub ask_all-requires : goal.ask_all-requires
ask_all-requires c = rw (c.retell.ensures.0, c.fill_values.ensures, c.fill_lowest.ensures, c.fill_moves.ensures) (let sound = c.requires.0 in (told_sound (values_put_sound (lowest_put_sound (moves_put_sound sound))), worked_founded sound))

pub fill_until-requires : goal.fill_until-requires
fill_until-requires c = asked_sound c.requires.0 c.requires.1 c.fill_moves.ensures c.fill_lowest.ensures c.fill_values.ensures c.retell.ensures.0 c.ask_all.ensures

pub returns : goal.returns
returns c = worked_awaited c.requires.0 c.requires.1 c.fill_moves.ensures c.fill_lowest.ensures c.fill_values.ensures c.retell.ensures.0 c.ask_all.ensures c.fill_until.ensures
