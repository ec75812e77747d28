-- REFERENCE 2.6, 2.8 and 3.9: what loading a book comes to in each way of loading. Definitions only.
use Rattle.std.specs.Prelude.{ℕ, Bool, true, cond, List}
use Rattle.numbers.specs.Refusals.{NESTED}
use Rattle.pmtl.specs.Book.{Rows}
use Rattle.pmtl.specs.Flat.{flat}
use Rattle.pmtl.specs.Sets.{Way, ordinary, lasting}
use Rattle.book.specs.declared.loading.Loading.{Loading}
use Rattle.book.specs.declared.loading.Loading.TheVariants.{Ordinary, Strict, Lasting, LastingStrict}
use Rattle.book.specs.Judging.{Loaded, refused_with, loaded}
use Rattle.book.specs.Strict.{roomed}

-- the way of monitoring that a way of loading is for
abbrev pub way_in : Loading → Way
way_in Ordinary = ordinary
way_in Strict = ordinary
way_in Lasting = lasting
way_in LastingStrict = lasting

-- the books that a way of monitoring takes: the lasting one takes flat books alone
abbrev pub takes : Way → Rows → Bool
takes ordinary b = true
takes lasting b = flat b

-- another is refused; one that is refused already stays so: its book is empty, and that is flat
abbrev pub flatly : Way → Loaded → Loaded
flatly way l = cond (takes way l.book.rows) l (refused_with NESTED)

-- what loading comes to in each way, after what strict loading refuses
abbrev pub admitted : Loading → Loaded → Loaded
admitted way l = flatly (way_in way) (roomed way l)

abbrev pub loaded_by : Loading → List ℕ → Loaded
loaded_by way words = admitted way (loaded words)
