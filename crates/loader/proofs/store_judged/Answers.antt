-- `loader::store_judged` meets its contract. Assumes nothing.
use Rattle.numbers.proofs.Refused.{never_0}
use Rattle.loader.proofs.Loads.{placed_accepted, stored_accepted, stored_refused}
use Rattle.loader.proofs.store_judged.Goals as goal

pub store_parts-requires : goal.store_parts-requires
store_parts-requires c =
    let p = c.in-Ok.ensures in
    record { counted = p.counted; accepted = (placed_accepted c.args.way c.args.words.now p.number p.counted, c.requires) }

pub returns-in-Ok : goal.returns-in-Ok
returns-in-Ok c = let p = c.in-Ok.ensures in stored_accepted c.args.way c.args.words.now p.number p.counted c.store_parts.ensures

pub returns-in-Err : goal.returns-in-Err
returns-in-Err c = stored_refused c.args.way c.args.words.now c.in-Err.ensures.number (never_0 _) c.store_empty.ensures
