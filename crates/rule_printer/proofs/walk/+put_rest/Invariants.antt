use Prim.Native.Nat.{◌+◌, ◌*◌, ◌^◌}
use Rattle.rule_printer.proofs.walk.+put_rest.Given as goal

abbrev pub decreases-put_rest : goal.decreases-put_rest
decreases-put_rest l = l.row * 2 ^ 64 + l.left
