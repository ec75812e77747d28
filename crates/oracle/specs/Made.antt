-- A memory that came of loading words and of calls, by what load and the calls promise. Definitions only.
use Rattle.std.specs.Prelude.{ℕ, List, [], ◌∷◌}
use Rattle.pmtl.specs.Calls.{Call}
use Rattle.pmtl.specs.Book.{Book}
use Rattle.book.specs.declared.loading.Loading.{Loading}
use Rattle.book.specs.Loading.{loaded_by}
use Rattle.loader.specs.Loading.{Loads}
use Rattle.calls.specs.Called.{Called}

-- the words were loaded in a way, and then the calls were made, the newest first, refused ones among them: m is what they left
pub data Made (way : Loading) (words : List ℕ) : List Call → List ℕ → Type 0 where
  loads : {m : List ℕ} {r : ℕ} → Loads way words m r → Made way words [] m
  calls : (k : Call) {ks : List Call} {m m' : List ℕ} {r : ℕ} → Made way words ks m → Called k m m' r → Made way words (k ∷ ks) m'

-- the book that words say: an empty one where they are refused in this way of loading
abbrev pub book_said : Loading → List ℕ → Book
book_said way words = (loaded_by way words).book
