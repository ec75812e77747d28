-- `desk::put_table` meets its contract. Assumes nothing.
use Rattle.std.proofs.Common.{ap, sym, ◌∙◌, length, length-set, rules, arith}
use Rattle.desk.proofs.Standing.{table_put, table_long}
use Rattle.desk.proofs.put_table.Goals as goal

pub put_barcodes-requires : goal.put_barcodes-requires
put_barcodes-requires c = (c.requires.0, simp length-set (omega (arith, c.requires)))

pub shape_of-table : goal.shape_of-table
shape_of-table c =
    ap length (table_put c.args.kits.now c.args.table.now _ _ c.args.count c.requires.1 (c.fill.ensures.after (λ y e. search rules)) c.put_barcodes.ensures) ∙ table_long _ ∙ sym c.requires.1

pub returns : goal.returns
returns c = table_put c.args.kits.now c.args.table.now _ _ c.args.count c.requires.1 (c.fill.ensures.after (λ y e. search rules)) c.put_barcodes.ensures
