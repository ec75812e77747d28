-- `loader::load_in_zeros` meets its contract. Assumes nothing.
use Rattle.loader.proofs.Loads.{worked_sound, loads_taken, loads_nested}
use borrow.Author.Rules.{rules}
use Rattle.loader.proofs.load_in_zeros.Goals as goal

pub store_judged-judged-requires : goal.store_judged-judged-requires
store_judged-judged-requires c = record { long = search rules; zeros = c.requires }

pub work_out-requires : goal.work_out-requires
work_out-requires c = let h = c.store_judged-judged.ensures.held in (h.sound, h.unused)

pub is_taken-requires : goal.is_taken-requires
is_taken-requires c = let w = c.work_out.ensures in (worked_sound c.store_judged-judged.ensures.held w.0, w.1.moving)

pub returns-then-is_taken : goal.returns-then-is_taken
returns-then-is_taken c =
    let w = c.work_out.ensures in
    loads_taken c.store_judged-judged.ensures w.0 c.is_taken.ensures w.1 w.2 w.3 c.if-is_taken.true

pub work_out-requires-2 : goal.work_out-requires-2
work_out-requires-2 c = let h = c.store_empty.ensures in (h.sound, h.unused)

pub returns : goal.returns
returns c =
    let w = c.work_out.ensures in
    loads_nested c.store_judged-judged.ensures w.0 c.is_taken.ensures c.if-is_taken.false c.store_empty.ensures c.work_out-2.ensures.0 c.work_out-2.ensures.1 c.work_out-2.ensures.2 c.work_out-2.ensures.3
