-- What is proved of the book that a text is read as. Assumes nothing.
use Prim.Native.Nat.{ℕ}
use mathlib.Core.Path.{◌≡◌}
use mathlib.Core.List.{List, map}
use Rattle.pmtl.specs.Meaning.{meaning}
use Rattle.trees.specs.Forest.{Forest}
use Rattle.trees.specs.Numbered.{book_of, meanings}
use Rattle.trees.proofs.Numbered.{means}
use Rattle.trees.proofs.Words.{loaded_words}
use Rattle.rule_scanner.specs.Reading.{read, read_text}
use Rattle.rule_scanner.proofs.Theorems.{read_is_written}
use Rattle.rule_reader.specs.Rules.{read_book, result_of}

-- the book of an accepted text is the numbered one
pub book_is : (s : List ℕ) (a g : Forest) → read_text s ≡ read a g → (read_book s).loaded.number ≡ 0 → (read_book s).loaded.book ≡ book_of a g
unfolding read_book result_of
book_is s a g e h = let k = read_is_written s a g e in rw e (loaded_words a g k.assumes k.guarantees (rw e at h))

-- and its properties mean what the text says
pub text_means : (s : List ℕ) (a g : Forest) → read_text s ≡ read a g → (read_book s).loaded.number ≡ 0
    → (map (meaning (read_book s).loaded.book.rows) (read_book s).loaded.book.assumes ≡ meanings a) × (map (meaning (read_book s).loaded.book.rows) (read_book s).loaded.book.guarantees ≡ meanings g)
text_means s a g e h = let k = read_is_written s a g e in rw (book_is s a g e h) (means a g k.assumes k.guarantees)
