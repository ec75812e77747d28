-- `text::words::zero_here` meets its contract. Assumes nothing.
use Rattle.text.proofs.Letters.{is_zero, zero_first, over, over_end}
use Rattle.std.proofs.Common.{sym, ◌∙◌}
use Rattle.text.proofs.words.zero_here.Goals.{else-next-input-via-then-next-input+else-not-parts, else-next-input-via-else-next-input}
use Rattle.text.proofs.words.zero_here.Goals as goal

pub returns-then-not-parts : goal.returns-then-not-parts
returns-then-not-parts c = let p = c.requires in zero_first _ _ p.0 p.1 c.if-next-input.true (sym c.parts.ensures ∙ c.if-not-parts.true)

pub returns : goal.returns
returns c = let p = c.requires in is_zero _ _ p.0 p.1 (elim c.else-next-input.branch [
  | else-next-input-via-then-next-input+else-not-parts w ↦ over _ _ w.if-next-input.true (sym w.parts.ensures ∙ w.if-not-parts.false)
  | else-next-input-via-else-next-input w ↦ over_end _ _ w.if-next-input.false
])
