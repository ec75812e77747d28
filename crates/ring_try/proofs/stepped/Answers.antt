use Rattle.std.proofs.Common.{sym, ◌∙◌, arith}
use Rattle.ring.proofs.Again.{kept_ring, kept_room, added_ring}
use Rattle.ring_try.proofs.stepped.Goals as goal

pub add-requires-clause-rolling : goal.add-requires-clause-rolling
add-requires-clause-rolling c = kept_ring c.requires c.args.t c.drop_before.ensures

pub add-requires-clause-set_value : goal.add-requires-clause-set_value
add-requires-clause-set_value c = kept_room c.requires c.args.t c.drop_before.ensures c.args.lower c.args.upper (sym c.look_ahead-ahead.ensures.1 ∙ c.if-ahead.true)

pub returns-then-ahead : goal.returns-then-ahead
returns-then-ahead c = added_ring (kept_ring c.requires c.args.t c.drop_before.ensures) c.args.lower c.args.upper c.add.ensures (kept_room c.requires c.args.t c.drop_before.ensures c.args.lower c.args.upper (sym c.look_ahead-ahead.ensures.1 ∙ c.if-ahead.true)) (omega arith)
