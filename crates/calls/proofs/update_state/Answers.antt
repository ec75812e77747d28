-- `calls::update_state` meets its contract: the call, and then what is noted of it. Assumes nothing.
use mathlib.Core.Path.{◌∙◌}
use Rattle.calls.proofs.Public.{done_noted}
use Rattle.calls.proofs.update_state.Goals as goal

pub returns : goal.returns
returns c =
    let n = c.note.ensures in
    let made = rw (← c.refused_with.ensures) at c.state_call-outcome.ensures in
    (rw (← c.refused_with.ensures) (done_noted c.requires made n), c.fullest-count.ensures ∙ n.kept.tables.counts.right)
