use Rattle.rule_scanner.proofs.Passing.{reader_start, reader_wrong, reader_right, reader_further, reader_more}
use native.Mathlib.Omega.{arith}
use mathlib.Core.Path.{refl, sym, ◌∙◌}
use Rattle.rule_scanner.proofs.scan.scan_text.Goals as goal

-- src/scan.rt:265:5
pub loop-p-init : goal.loop-p-init
loop-p-init c = rw c.start-p.ensures (reader_start _ _)

-- src/scan.rt:266:13
pub next_symbol-found-requires : goal.next_symbol-found-requires
next_symbol-found-requires c = c.loop-p.invariant.inside

-- src/scan.rt:270:30
pub form_at-requires : goal.form_at-requires
form_at-requires c = let g = c.loop-p.invariant in omega (arith, g.bound.depth, g.inside, g.size, c.requires.1)

-- src/scan.rt:272:13
pub returns-then-refuses : goal.returns-then-refuses
returns-then-refuses c = reader_wrong c.loop-p.invariant c.next_symbol-found.ensures (c.turned-t.ensures ∙ rw c.form_at.ensures) (sym c.refuses.ensures ∙ c.if-refuses.true)

-- src/scan.rt:275:32
pub overflow_add-result : goal.overflow_add-result
overflow_add-result c = let g = c.loop-p.invariant in omega (arith, g.bound.past, g.bound.rows, g.inside, c.requires.0)

-- src/scan.rt:275:13
pub returns-then-ends : goal.returns-then-ends
returns-then-ends c = reader_right c.loop-p.invariant c.next_symbol-found.ensures (c.turned-t.ensures ∙ rw c.form_at.ensures) (sym c.refuses.ensures ∙ c.if-refuses.false) (sym c.ends.ensures ∙ c.if-ends.true) _ refl

-- src/scan.rt:277:9
pub taken-p-requires : goal.taken-p-requires
taken-p-requires c = let g = c.loop-p.invariant in let n = reader_further c.loop-p.invariant c.next_symbol-found.ensures (c.turned-t.ensures ∙ rw c.form_at.ensures) (sym c.refuses.ensures ∙ c.if-refuses.false) (sym c.ends.ensures ∙ c.if-ends.false) in let l = c.next_symbol-found.ensures.inside in (omega (arith, g.bound.depth, g.size, c.requires.1), omega (arith, g.bound.rows, c.requires.0), omega (arith, g.bound.here, c.requires.0), (sym c.refuses.ensures ∙ c.if-refuses.false))

-- src/scan.rt:265:5
pub loop-p-smaller : goal.loop-p-smaller
loop-p-smaller c = let n = reader_further c.loop-p.invariant c.next_symbol-found.ensures (c.turned-t.ensures ∙ rw c.form_at.ensures) (sym c.refuses.ensures ∙ c.if-refuses.false) (sym c.ends.ensures ∙ c.if-ends.false) in let l = c.next_symbol-found.ensures.inside in omega arith

-- src/scan.rt:265:5
pub loop-p-preserved : goal.loop-p-preserved
loop-p-preserved c = reader_more c.loop-p.invariant c.next_symbol-found.ensures (c.turned-t.ensures ∙ rw c.form_at.ensures) (sym c.refuses.ensures ∙ c.if-refuses.false) (sym c.ends.ensures ∙ c.if-ends.false) c.taken-p.ensures
