-- What the theorems ask of a book can be had, by an example; and what the definition gives where every call is put in, one by one.
use Prim.Native.Nat.{ℕ, zero, suc}
use native.Mathlib.Omega.{arith}
use mathlib.Core.Path.{◌≡◌, refl}
use mathlib.Core.Bool.{Bool, true, false}
use mathlib.Core.List.{List, [], ◌∷◌}
use Rattle.numset.specs.Runs.{run, has, kept, insert, union}
use Rattle.pmtl.specs.Book.{Range, stop, Rows, row_at, Ordered, width_of, table, answer, every, some, move_rule}
use Rattle.pmtl.specs.Book.Row.{atom, historically, once, since}
use Rattle.pmtl.specs.Flat.{flat_rule, flat}
use Rattle.pmtl.specs.Sets.{stays_if, added_if, renewed, lasted, set_rule_by}
use Rattle.pmtl.specs.Monitor.{set_at, initial_in, value_rule, value, step_by}
use Rattle.pmtl.specs.Calls.{Call, time, state, stamped, first_of, refusal, crowded, play, call, after_in}
use Rattle.pmtl.specs.Past.{run_by, run as runs}
use Rattle.lasts.specs.Flat.{Upward, Taken}
use Rattle.lasts.specs.Lasting.{ticks, lasting_onto, lasting_history}

abbrev range : ℕ → ℕ → Range
range l u = record { lower = l; upper = u }

-- ---- a book that the theorems speak of, with every kind of temporal row
abbrev kinds : Rows
kinds = atom 0 ∷ once (range 1 1) 0 ∷ atom 1 ∷ historically (range 2 3) 2 ∷ atom 2 ∷ atom 3 ∷ since (range 0 5) 4 5 ∷ []

kinds_ordered : Ordered kinds
kinds_ordered zero = tt
kinds_ordered (suc zero) = omega arith
kinds_ordered (suc (suc zero)) = tt
kinds_ordered (suc (suc (suc zero))) = omega arith
kinds_ordered (suc (suc (suc (suc zero)))) = tt
kinds_ordered (suc (suc (suc (suc (suc zero))))) = tt
kinds_ordered (suc (suc (suc (suc (suc (suc zero)))))) = (omega arith, omega arith)
kinds_ordered (suc (suc (suc (suc (suc (suc (suc r))))))) = tt

kinds_upward : (r : ℕ) → Upward (row_at kinds r)
kinds_upward zero = tt
kinds_upward (suc zero) = omega arith
kinds_upward (suc (suc zero)) = tt
kinds_upward (suc (suc (suc zero))) = omega arith
kinds_upward (suc (suc (suc (suc zero)))) = tt
kinds_upward (suc (suc (suc (suc (suc zero))))) = tt
kinds_upward (suc (suc (suc (suc (suc (suc zero)))))) = omega arith
kinds_upward (suc (suc (suc (suc (suc (suc (suc r))))))) = tt

pub kinds_taken : Taken kinds
unfolding flat flat_rule answer table every some move_rule
kinds_taken = record { ordered = kinds_ordered; flat_rows = refl; ranges = kinds_upward }

-- ---- the definition, computed
-- P7, Once[1,1] a
abbrev P7 : Rows
P7 = atom 0 ∷ once (range 1 1) 0 ∷ []

abbrev s1 : Call
s1 = state (1 ∷ [])

abbrev bit_after : Rows → List Call → Bool
bit_after b ks = value b (runs b (lasting_history b ks)) 1

-- P7: Once[1,1] a; s1, t5: true. P8: Historically[0,0] a; t4, s1: false. Historically[5,5] a; t5: true. Once[1,1] a; (t5, s1): false.
-- Once[1,1] a; s1, t5, and then t3, which is refused and puts nothing in: true
pub put_in_so :
    bit_after P7 (time 5 ∷ s1 ∷ []) ∷ bit_after (atom 0 ∷ historically (range 0 0) 0 ∷ []) (s1 ∷ time 4 ∷ [])
    ∷ bit_after (atom 0 ∷ historically (range 5 5) 0 ∷ []) (time 5 ∷ []) ∷ bit_after P7 (stamped 5 (1 ∷ []) ∷ [])
    ∷ bit_after P7 (time 3 ∷ time 5 ∷ s1 ∷ []) ∷ [] ≡ true ∷ false ∷ true ∷ false ∷ true ∷ []
unfolding has insert union stop width_of table answer every some kept stays_if added_if renewed lasted set_rule_by initial_in value_rule value step_by first_of refusal crowded play call after_in run_by ticks lasting_onto lasting_history
put_in_so = refl

-- Once[0,0] a; s1, t5: with the calls one by one {[5,5]} is left, where the one step leaves {[1,5]}; both have one run, and the same members from 5 on
pub one_by_one : let b : Rows = atom 0 ∷ once (range 0 0) 0 ∷ [] in set_at (runs b (lasting_history b (time 5 ∷ s1 ∷ []))) 1 ≡ run 5 5 ∷ []
unfolding has insert union stop width_of table answer every some kept stays_if added_if renewed lasted set_rule_by initial_in value_rule value step_by first_of refusal crowded play call after_in run_by ticks lasting_onto lasting_history
one_by_one = refl
