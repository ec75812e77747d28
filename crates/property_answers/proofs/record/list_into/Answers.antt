use mathlib.Core.Path.{◌≡◌, ap, ◌∙◌}
use native.Mathlib.Omega.{arith}
use Rattle.lists.specs.Lists.{filled_to}
use Rattle.memory.proofs.Properties.{properties_length}
use Rattle.property_answers.specs.Verdict.{properties_in}
use Rattle.property_answers.proofs.Bridge.{list_short, list_filled}
use Rattle.property_answers.proofs.record.list_into.Goals as goal

pub returns-then-out-count : goal.returns-then-out-count
returns-then-out-count g c =
    let e = properties_length c.args.monitor.now c.requires.sound.book in
    list_short c.args.monitor.now (g.T.Told.told c.args.monitor.now) c.args.out.now (omega arith)

pub returns : goal.returns
returns g c =
    let e = properties_length c.args.monitor.now c.requires.sound.book in
    let told = g.T.Told.told c.args.monitor.now in
    let filled = list_filled c.args.monitor.now told c.args.out.now (omega arith) in
    let all : c.loop-i.i ≡ properties_in c.args.monitor.now = omega arith in
    (filled.0, c.loop-i.invariant ∙ ap (filled_to told c.args.out.now) all ∙ filled.1)
