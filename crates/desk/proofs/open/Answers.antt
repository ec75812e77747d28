-- `desk::open` meets its contract. Assumes nothing.
use Rattle.desk.proofs.Standing.{Takes, ok_accepted, err_refused, takes_all, takes_none, opens}
use Rattle.desk.proofs.open.Goals.{then-is_ok, else-is_ok}
use Rattle.desk.proofs.open.Goals as goal

pub put_table-requires : goal.put_table-requires
put_table-requires c =
    let t : Takes c.args.kits.now c.args.count c.if-is_ok.taken = elim c.if-is_ok.branch [
      | then-is_ok w ↦ takes_all _ _ c.judge-judged.ensures (ok_accepted c.judge-judged.result c.is_ok.ensures.value w.if-is_ok.true) w.taken-is
      | else-is_ok w ↦ takes_none _ _ c.judge-judged.ensures (err_refused c.judge-judged.result c.is_ok.ensures.value w.if-is_ok.false) w.taken-is
    ] in
    (t.few, c.told-table)

pub load_book-requires : goal.load_book-requires
load_book-requires c =
    let t : Takes c.args.kits.now c.args.count c.if-is_ok.taken = elim c.if-is_ok.branch [
      | then-is_ok w ↦ takes_all _ _ c.judge-judged.ensures (ok_accepted c.judge-judged.result c.is_ok.ensures.value w.if-is_ok.true) w.taken-is
      | else-is_ok w ↦ takes_none _ _ c.judge-judged.ensures (err_refused c.judge-judged.result c.is_ok.ensures.value w.if-is_ok.false) w.taken-is
    ] in
    record { fine = t.fine; count_bound = t.few }

pub returns : goal.returns
returns c =
    let t : Takes c.args.kits.now c.args.count c.if-is_ok.taken = elim c.if-is_ok.branch [
      | then-is_ok w ↦ takes_all _ _ c.judge-judged.ensures (ok_accepted c.judge-judged.result c.is_ok.ensures.value w.if-is_ok.true) w.taken-is
      | else-is_ok w ↦ takes_none _ _ c.judge-judged.ensures (err_refused c.judge-judged.result c.is_ok.ensures.value w.if-is_ok.false) w.taken-is
    ] in
    opens _ _ c.judge-judged.ensures _ _ t c.put_table.ensures c.load_book.ensures
