use Rattle.rule_reader.proofs.Frames.{lays_absurd, lays_close}
use mathlib.Core.Path.{refl}
use native.Mathlib.Omega.{arith}
use Rattle.rule_reader.proofs.lay.close.Goals as goal

-- src/lay.rt:60:9
pub returns-then-height-base : goal.returns-then-height-base
returns-then-height-base c = lays_absurd _ _ _ c.requires.some_open (omega (arith, c.arg_in-base.ensures, c.if-height-base.true))

-- src/lay.rt:51:1
pub returns : goal.returns
returns c = lays_close _ _ _ _ _ _ _ _ _ _ (λ z. omega (arith, c.requires.some_open)) refl c.kind_in.ensures c.arg_in-base.ensures refl c.lower_in.ensures c.upper_in.ensures (omega (arith, c.if-height-base.false)) refl refl c.emit.ensures
