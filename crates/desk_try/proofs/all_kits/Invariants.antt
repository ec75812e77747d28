-- The promises go on by three.
use Rattle.std.proofs.Common.{◌+◌, ◌*◌, ◌≡◌}
use Rattle.desk_try.proofs.all_kits.Given as goal

abbrev pub invariant-loop-kit : goal.invariant-loop-kit
invariant-loop-kit g l = l.promise ≡ 100 + 3 * l.kit
