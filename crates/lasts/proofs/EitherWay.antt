-- What is proved of either way, in one statement each: in the ordinary way of any ordered book, in the lasting way of one that it takes. Assumes nothing.
use Prim.Native.Nat.{ℕ, ◌≤◌}
use mathlib.Core.Path.{◌≡◌, refl, ap}
use mathlib.Core.Logic.{◌↔◌}
use mathlib.Core.Bool.{Bool, true, not}
use mathlib.Core.List.{List, ◌++◌}
use Rattle.numset.specs.Runs.{has}
use Rattle.pmtl.specs.Answer.{known}
use Rattle.pmtl.specs.Book.{Range, map_row, Rows, row_at}
use Rattle.pmtl.specs.Book.Row.{historically, once, since}
use Rattle.pmtl.specs.Sets.{Way, ordinary, lasting}
use Rattle.pmtl.specs.Monitor.{set_at, fullest, value}
use Rattle.pmtl.specs.Early.{early}
use Rattle.pmtl.specs.Settled.{settled}
use Rattle.pmtl.specs.Calls.{Call, call, after_in}
use Rattle.pmtl.specs.Kept.{NoneBefore}
use Rattle.pmtl.specs.Meaning.{instants, meaning}
use Rattle.pmtl.specs.Past.{run, held, SomeCall, SinceCall}
use Rattle.pmtl.specs.Strict.{Strict}
use Rattle.pmtl.proofs.Calls.{trail}
use Rattle.pmtl.proofs.Kept as keeps
use Rattle.pmtl.proofs.Theorems as plain
use Rattle.pmtl.proofs.Strict as strictly
use Rattle.lasts.specs.Flat.{Fit}
use Rattle.lasts.specs.Lasting.{history_in}
use Rattle.lasts.proofs.Theorems as lasts

-- THE DEFINITION of the way: answers and count are those of the ordinary monitor on its history
pub value_is : (way : Way) (b : Rows) → Fit way b → (calls : List Call) (r : ℕ) → value b (after_in way b calls) r ≡ value b (run b (history_in way b calls)) r
value_is ordinary b fit calls r = ap (λ st. value b st r) (trail b calls).is
value_is lasting b fit calls r = lasts.value_is b (fit.taken refl) calls r

pub early_is : (way : Way) (b : Rows) → Fit way b → (calls : List Call) (r : ℕ) → early b (after_in way b calls) r ≡ early b (run b (history_in way b calls)) r
early_is ordinary b fit calls r = ap (λ st. early b st r) (trail b calls).is
early_is lasting b fit calls r = lasts.early_is b (fit.taken refl) calls r

pub settled_is : (way : Way) (b : Rows) → Fit way b → (calls : List Call) (r : ℕ) → settled b (after_in way b calls) r ≡ settled b (run b (history_in way b calls)) r
settled_is ordinary b fit calls r = ap (λ st. settled b st r) (trail b calls).is
settled_is lasting b fit calls r = lasts.settled_is b (fit.taken refl) calls r

pub count_is : (way : Way) (b : Rows) → Fit way b → (calls : List Call) → fullest (after_in way b calls) ≡ fullest (run b (history_in way b calls))
count_is ordinary b fit calls = ap fullest (trail b calls).is
count_is lasting b fit calls = lasts.count_is b (fit.taken refl) calls

-- each set has, from the clock on, the instants that REFERENCE 3.5 defines from that history
pub sets_are_instants : (way : Way) (b : Rows) → Fit way b → (calls : List Call) (r t : ℕ) → (after_in way b calls).now.clock ≤ t
    → has (set_at (after_in way b calls) r) t ≡ instants (map_row (meaning b) (row_at b r)) (history_in way b calls) t
sets_are_instants ordinary b fit calls r t = plain.sets_are_instants b fit.ordered calls r t
sets_are_instants lasting b fit calls r t = lasts.sets_are_instants b (fit.taken refl) calls r t

-- and no run that ends before it
pub no_older_run : (way : Way) (b : Rows) → Fit way b → (calls : List Call) (r : ℕ) → NoneBefore (after_in way b calls).now.clock (set_at (after_in way b calls) r)
no_older_run ordinary b fit calls r = keeps.no_older_run b calls r
no_older_run lasting b fit calls r = lasts.no_older_run b (fit.taken refl) calls r

-- DEMAND 2: a row's value is what the row means on the history of the way
pub demand_2 : (way : Way) (b : Rows) → Fit way b → (calls : List Call) (r : ℕ) → value b (after_in way b calls) r ≡ meaning b r (history_in way b calls)
demand_2 ordinary b fit calls r = plain.demand_2 b fit.ordered calls r
demand_2 lasting b fit calls r = lasts.demand_2 b (fit.taken refl) calls r

-- in words
pub once_holds : (way : Way) (b : Rows) → Fit way b → (calls : List Call) (r : ℕ) (g : Range) (o : ℕ) → row_at b r ≡ once g o
    → (value b (after_in way b calls) r ≡ true) ↔ SomeCall b g (held b o) (history_in way b calls) (after_in way b calls).now.clock
once_holds ordinary b fit = plain.once_holds b fit.ordered
once_holds lasting b fit = lasts.once_holds b (fit.taken refl)

pub historically_holds : (way : Way) (b : Rows) → Fit way b → (calls : List Call) (r : ℕ) (g : Range) (o : ℕ) → row_at b r ≡ historically g o
    → (value b (after_in way b calls) r ≡ true) ↔ ¬ (SomeCall b g (λ past. not (held b o past)) (history_in way b calls) (after_in way b calls).now.clock)
historically_holds ordinary b fit = plain.historically_holds b fit.ordered
historically_holds lasting b fit = lasts.historically_holds b (fit.taken refl)

pub since_holds : (way : Way) (b : Rows) → Fit way b → (calls : List Call) (r : ℕ) (g : Range) (left right : ℕ) → row_at b r ≡ since g left right
    → (value b (after_in way b calls) r ≡ true) ↔ SinceCall b g (held b left) (held b right) (history_in way b calls) (after_in way b calls).now.clock
since_holds ordinary b fit = plain.since_holds b fit.ordered
since_holds lasting b fit = lasts.since_holds b (fit.taken refl)

-- DEMAND 3: if settled is true or false, then now and after every further list of calls the value is that and settled is that
pub demand_3 : (way : Way) (b : Rows) → Fit way b → (calls : List Call) (r : ℕ) (more : List Call) (x : Bool) → settled b (after_in way b calls) r ≡ known x
    → (value b (after_in way b (more ++ calls)) r ≡ x) × (settled b (after_in way b (more ++ calls)) r ≡ known x)
demand_3 ordinary b fit = plain.demand_3 b fit.ordered
demand_3 lasting b fit = lasts.demand_3 b (fit.taken refl)

-- IT NEVER RUNS OUT: no call of a strict book is answered 11
pub never_eleven : (way : Way) (b : Rows) → Fit way b → Strict b → (calls : List Call) (k : Call) → ¬ ((call b (after_in way b calls) k).number ≡ 11)
never_eleven ordinary b fit strict = strictly.never_eleven b fit.ordered strict
never_eleven lasting b fit strict = lasts.strict_never_eleven b (fit.taken refl) strict
