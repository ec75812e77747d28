-- `calls::renew` meets its contract. Assumes nothing.
use Rattle.memory.proofs.Alike.{alike_sound}
use Rattle.tables.proofs.Until.{tables_awaited}
use Rattle.calls.proofs.renew.Goals as goal

pub fill_until-requires : goal.fill_until-requires
fill_until-requires c = alike_sound c.requires.sound c.ask_anew.ensures.0

pub returns : goal.returns
returns c = tables_awaited c.requires.sound c.ask_anew.ensures c.fill_until.ensures
