-- What a text is read as: REFERENCE 11. Definitions only.
use Rattle.std.specs.Prelude.{ℕ, List}
use Rattle.numbers.specs.Refusals.{BAD_WORD}
use Rattle.book.specs.Judging.{Loaded, loaded, refused_with}
use Rattle.trees.specs.Building.{words_of}
use Rattle.rule_scanner.specs.Reading.{Outcome, read, wrong, read_text}

pub record Result : Type 0 where
  pub loaded : Loaded
  pub place : ℕ

unfoldable pub result_of : Outcome → Result
result_of (wrong at) = record { loaded = refused_with BAD_WORD; place = at }
result_of (read a g) = record { loaded = loaded (words_of a g); place = 0 }

unfoldable pub read_book : List ℕ → Result
read_book s = result_of (read_text s)
