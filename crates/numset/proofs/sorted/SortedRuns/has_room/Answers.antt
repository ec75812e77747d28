-- `numset::sorted::SortedRuns::has_room` meets its contract. Assumes nothing.
use mathlib.Core.Path.{sym, ◌∙◌}
use mathlib.Core.Logic.{⊎_elim}
use native.Mathlib.Omega.{arith}
use Rattle.lists.proofs.Tests.{lt_or_ge, clash}
use Rattle.numset.proofs.Place.{fits_none, fits_free, room_joined}
use Rattle.numset.proofs.Newest.{takes_room}
use Rattle.numset.proofs.sorted.SortedRuns.has_room.Goals as goal

pub returns-then-has_place : goal.returns-then-has_place
returns-then-has_place g c = sym (fits_free _ _ _ (c.has_place.ensures.0 c.if-has_place.true))

pub returns-then-upper-lower : goal.returns-then-upper-lower
returns-then-upper-lower g c = sym (fits_none (g.met.Self.SortedRuns.good c.args.self.now) c.if-upper-lower.true)

pub returns-then-takes_in : goal.returns-then-takes_in
returns-then-takes_in g c = takes_room (g.Self.SortedRuns.words c.args.self.now) c.args.lower (sym c.takes_in.ensures ∙ c.if-takes_in.true) (g.met.Self.SortedRuns.good c.args.self.now) c.if-upper-lower.false

pub returns : goal.returns
returns g c =
    room_joined c.find_span-joined.ensures c.if-upper-lower.false (g.met.Self.SortedRuns.good c.args.self.now)
    (⊎_elim (λ h. absurd (clash (c.has_place.ensures.1 h) c.if-has_place.false)) (λ h. omega arith) (lt_or_ge _ _))
