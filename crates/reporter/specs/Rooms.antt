-- The rooms that a program has for a report. Definitions only.
use Rattle.std.specs.Prelude.{ℕ, Bool, true, cond, List, length, leb, eqb}
use Rattle.book.specs.declared.loading.Loading.{Loading}
use Rattle.report.specs.Report.{report}

-- the short room, and its bytes
abbrev pub SHORT : ℕ
SHORT = 0

abbrev pub SHORT_REPORT : ℕ
SHORT_REPORT = 65536

-- an input so long has a short report
abbrev pub SHORT_INPUT : ℕ
SHORT_INPUT = 1864

-- a room of so many bytes holds the report of an input, its book loaded in a way
abbrev pub holds : Loading → ℕ → List ℕ → Bool
holds way room input = leb (length (report way input)) room

-- one of the rooms up to this one does. The long one always does
unfoldable pub one_holds : Loading → ℕ → List ℕ → Bool
one_holds way room input = cond (eqb room SHORT) (holds way SHORT_REPORT input) true
