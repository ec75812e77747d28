use Rattle.std.proofs.Common.{◌≡◌, arith}
use Rattle.desk.specs.Standing.{kit_count}
use Rattle.desk_lines.proofs.Bytes.{word_start, word_more, word_done}
use Rattle.desk_lines.proofs.writes.put_kits.Goals as goal

pub loop-kit-init : goal.loop-kit-init
loop-kit-init c = word_start _ _ _ _

pub loop-kit-preserved : goal.loop-kit-preserved
loop-kit-preserved c = word_more c.loop-kit.invariant c.put_kit-p.ensures

pub returns : goal.returns
returns c = let z : c.loop-kit.kit ≡ kit_count c.args.table.now = omega (arith, c.kit_count-kit-end.ensures) in word_done c.loop-kit.invariant z
