-- `loader::put_words` meets its contract. Assumes nothing.
use Rattle.loader.proofs.Puts.{words_put}
use native.Mathlib.Omega.{arith}
use Rattle.loader.proofs.put_words.Goals as goal

pub returns : goal.returns
returns c =
    words_put c.args.given.now c.args.monitor.now c.args.row c.args.start c.args.slot _ _ _ _ c.kind_in.ensures c.arg_in.ensures c.lower_in.ensures c.upper_in.ensures (let p = c.requires in omega arith)
