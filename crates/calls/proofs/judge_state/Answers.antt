-- `calls::judge_state` meets its contract. Assumes nothing.
use Rattle.calls.proofs.Public.{number_wide, number_short, number_long, number_other, number_bits}
use Rattle.calls.proofs.judge_state.Goals as goal

pub returns-then-state-gt-MOST_ATOMS : goal.returns-then-state-gt-MOST_ATOMS
returns-then-state-gt-MOST_ATOMS c = number_wide c.requires c.args.state.now c.if-state-gt-MOST_ATOMS.true

pub returns-then-state-width : goal.returns-then-state-width
returns-then-state-width c = number_short c.requires c.args.state.now c.if-state-gt-MOST_ATOMS.false c.width-width.ensures c.if-state-width.true

pub returns-then-width-state : goal.returns-then-width-state
returns-then-width-state c = number_long c.requires c.args.state.now c.if-state-gt-MOST_ATOMS.false c.width-width.ensures c.if-state-width.false c.if-width-state.true

pub returns-then-has_other : goal.returns-then-has_other
returns-then-has_other c = number_other c.requires c.args.state.now c.if-state-gt-MOST_ATOMS.false c.width-width.ensures c.if-state-width.false c.if-width-state.false c.has_other.ensures c.if-has_other.true

pub returns : goal.returns
returns c = number_bits c.requires c.args.state.now c.if-state-gt-MOST_ATOMS.false c.width-width.ensures c.if-state-width.false c.if-width-state.false c.has_other.ensures c.if-has_other.false
