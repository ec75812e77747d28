-- `tables::standing` meets its contract. Assumes nothing.
use native.Mathlib.Omega.{arith}
use Rattle.tables.proofs.Sets.{stands_covering, stands_gone, stands_open}
use Rattle.tables.proofs.standing.Goals as goal

pub returns-then-covers : goal.returns-then-covers
returns-then-covers c = stands_covering c.requires (omega arith) c.covers.ensures c.if-covers.true

pub returns-then-gone : goal.returns-then-gone
returns-then-gone c = stands_gone c.requires (omega arith) c.covers.ensures c.if-covers.false c.gone.ensures c.if-gone.true

pub returns : goal.returns
returns c = stands_open c.requires (omega arith) c.covers.ensures c.if-covers.false c.gone.ensures c.if-gone.false
