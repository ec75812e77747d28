-- `loader::store_parts` meets its contract. Assumes nothing.
use mathlib.Core.Path.{sym, subst}
use Rattle.book.specs.Reading.{Sections}
use Rattle.book.specs.Judging.{book_in}
use Rattle.book.specs.Loading.{way_in}
use Rattle.book.proofs.Sections.{sections_are}
use Rattle.loader.specs.Private.{Accepted, Holds}
use Rattle.loader.proofs.store_parts.Goals as goal

pub store-requires : goal.store-requires
store-requires c =
    record {
      accepted = subst Accepted
          (sym (sections_are c.rows_part.ensures c.operands_part.ensures c.assumes_part.ensures c.guarantees_part.ensures))
          c.requires.accepted.0;
      zeroed = c.requires.accepted.1;
    }

pub returns : goal.returns
returns c =
    subst (λ (x : Sections). Holds (way_in c.args.way) (book_in x) c.store.new.monitor)
    (sections_are c.rows_part.ensures c.operands_part.ensures c.assumes_part.ensures c.guarantees_part.ensures)
    c.store.ensures
