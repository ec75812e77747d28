use mathlib.Core.Path.{◌≡◌, sym, ◌∙◌}
use native.Mathlib.Omega.{arith}
use Prim.Native.Nat.{ℕ, ◌+◌}
use lib.ListN.{get_or}
use borrow.Author.Count.{below_more}
use Rattle.memory.specs.Layout.{ATOMS}
use Rattle.calls.proofs.stands_with.Goals as goal

pub loop-i-preserved : goal.loop-i-preserved
loop-i-preserved c = let l = c.loop-i in below_more (λ (k : ℕ). get_or c.args.monitor.now (ATOMS + k) 0 ≡ get_or c.args.state.now k 0) l.i l.invariant (sym c.word.ensures ∙ c.if-word-from.false ∙ c.from.ensures)

pub returns : goal.returns
returns c = let l = c.loop-i in λ e. record { begun = sym c.begun.ensures ∙ c.if-begun-ne1.false; same = λ i h. l.invariant i (let t = c.loop-i-test.false in omega arith) }
