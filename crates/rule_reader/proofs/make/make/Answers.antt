use Rattle.rule_reader.proofs.Making.{maker_start, maker_balance, maker_room, maker_wrong, maker_done, maker_more}
use Rattle.rule_scanner.proofs.Passing.{reader_further}
use mathlib.Core.Path.{refl, sym, ◌∙◌}
use native.Mathlib.Omega.{arith}
use Rattle.rule_reader.proofs.make.make.Goals as goal

-- src/make.rt:40:5
pub loop-p-init : goal.loop-p-init
loop-p-init c = rw c.start-p.ensures (maker_start _ _ _ _ _ _ _ refl refl c.requires.frames_long c.requires.rooms, refl, refl, refl, refl)

-- src/make.rt:41:13
pub next_symbol-found-requires : goal.next_symbol-found-requires
next_symbol-found-requires c = c.loop-p.invariant.0.reader.inside

-- src/make.rt:45:30
pub form_at-requires : goal.form_at-requires
form_at-requires c = let g = c.loop-p.invariant.0.reader in omega (arith, g.bound.depth, g.inside, g.size, c.requires.forms_long)

-- src/make.rt:47:13
pub returns-then-refuses : goal.returns-then-refuses
returns-then-refuses c = let g = c.loop-p.invariant.0 in record { builds = maker_wrong g c.next_symbol-found.ensures (c.turned-t.ensures ∙ rw c.form_at.ensures) (sym c.refuses.ensures ∙ c.if-refuses.true) _; rooms = g.rooms }

-- src/make.rt:50:13
pub returns-then-ends : goal.returns-then-ends
returns-then-ends c = let g = c.loop-p.invariant.0 in record { builds = maker_done g c.next_symbol-found.ensures (c.turned-t.ensures ∙ rw c.form_at.ensures) (sym c.refuses.ensures ∙ c.if-refuses.false) (sym c.ends.ensures ∙ c.if-ends.true); rooms = g.rooms }

-- src/make.rt:54:18
pub overflow_add-site : goal.overflow_add-site
overflow_add-site c = let g = c.loop-p.invariant.0.reader in omega (arith, g.bound.past, g.bound.rows, g.inside, c.requires.short)

-- src/make.rt:57:9
pub lay-laid-requires : goal.lay-laid-requires
lay-laid-requires c = let g = c.loop-p.invariant.0 in let n = c.next_symbol-found.ensures in let stays = sym c.refuses.ensures ∙ c.if-refuses.false in record { few = maker_room g n (c.turned-t.ensures ∙ rw c.form_at.ensures) c.requires.small stays (sym c.ends.ensures ∙ c.if-ends.false); balance = maker_balance g n (c.turned-t.ensures ∙ rw c.form_at.ensures); stands = stays; frames_long = g.frames_long; rooms = g.rooms }

-- src/make.rt:58:9
pub taken-p-requires : goal.taken-p-requires
taken-p-requires c = let g = c.loop-p.invariant.0 in let n = c.next_symbol-found.ensures in let stays = sym c.refuses.ensures ∙ c.if-refuses.false in let f = reader_further g.reader n (c.turned-t.ensures ∙ rw c.form_at.ensures) stays (sym c.ends.ensures ∙ c.if-ends.false) in let l = n.inside in let a = c.requires.short in let b = c.requires.forms_long in (omega (arith, g.reader.bound.depth, g.reader.size), omega (arith, g.reader.bound.rows), omega (arith, g.reader.bound.here), stays)

-- src/make.rt:40:5
pub loop-p-smaller : goal.loop-p-smaller
loop-p-smaller c = let g = c.loop-p.invariant.0 in let n = c.next_symbol-found.ensures in let f = reader_further g.reader n (c.turned-t.ensures ∙ rw c.form_at.ensures) (sym c.refuses.ensures ∙ c.if-refuses.false) (sym c.ends.ensures ∙ c.if-ends.false) in let l = n.inside in omega arith

-- src/make.rt:40:5
pub loop-p-preserved : goal.loop-p-preserved
loop-p-preserved c = let i = c.loop-p.invariant in let y = c.lay-laid.ensures in (maker_more i.0 c.next_symbol-found.ensures (c.turned-t.ensures ∙ rw c.form_at.ensures) (sym c.refuses.ensures ∙ c.if-refuses.false) (sym c.ends.ensures ∙ c.if-ends.false) c.taken-p.ensures y, y.frames_size ∙ i.1, y.rows_size ∙ i.2, y.operands_size ∙ i.3, y.tops_size ∙ i.4)
