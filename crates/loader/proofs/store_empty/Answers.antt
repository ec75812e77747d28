-- `loader::store_empty` meets its contract. Assumes nothing.
use lib.ListN.{length, replicate}
use mathlib.Core.Path.{◌≡◌, ◌∙◌}
use borrow.Author.Rules.{rules}
use Rattle.book.specs.Loading.{way_in}
use Rattle.loader.proofs.Empty.{emptied_holds}
use Rattle.loader.proofs.store_empty.Goals as goal

pub returns : goal.returns
returns c =
    let zeros : c.fill.new.self ≡ replicate (length c.args.monitor.now) 0 = search rules in
    emptied_holds (way_in c.args.way) c.args.monitor.now c.requires zeros (c.word.ensures ∙ c.way_for.ensures)
