-- `tables::ask` meets its contract. The invariant: both digits of the properties passed are put or kept. Assumes nothing.
use mathlib.Core.Path.{◌≡◌}
use Rattle.tables.proofs.Asks.{asked_to}
use Rattle.tables.proofs.ask.Given as goal

abbrev pub invariant-loop-i : goal.invariant-loop-i
invariant-loop-i l = l.monitor ≡ asked_to l.initial.monitor l.news.first l.news.end l.i
