use native.Mathlib.Omega.{arith}
use mathlib.Core.Path.{◌∙◌}
use borrow.Author.Rules.{rules}
use Rattle.std.proofs.lemmas.Result.{err_from_is_err_and}
use Rattle.numbers.proofs.Refused.{never_0}
use Rattle.tidier.proofs.Made.{cleared, made_inside, part_long, handed_made, handed_none}
use Rattle.tidier.proofs.tidy.tidy.Goals as goal

pub returns-in_err-length : goal.returns-in_err-length
returns-in_err-length c =
    let p = err_from_is_err_and c.from_residual.result c.from_residual.ensures.1 in
    rw (p.1, p.2) (handed_none _ _ _ c.in_err-length.ensures (never_0 _) (cleared c.args.out.now (search rules) c.clear.ensures))

pub part_of-requires : goal.part_of-requires
part_of-requires c = omega (arith, made_inside _ _ _ c.in_ok-length.ensures)

pub copy-requires : goal.copy-requires
copy-requires c = omega (arith, made_inside _ _ _ c.in_ok-length.ensures, part_long _ (made_inside _ _ _ c.in_ok-length.ensures) c.part_of.ensures)

pub returns : goal.returns
returns c = handed_made _ _ _ c.in_ok-length.ensures c.part_of.ensures (cleared c.args.out.now (search rules) c.clear.ensures) c.copy.ensures
