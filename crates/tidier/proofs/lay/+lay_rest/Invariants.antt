use Prim.Native.Nat.{◌+◌, ◌*◌, ◌^◌}
use Rattle.tidier.proofs.lay.+lay_rest.Given as goal

abbrev pub decreases-lay_rest : goal.decreases-lay_rest
decreases-lay_rest l = l.site.row * 2 ^ 64 + l.site.left
