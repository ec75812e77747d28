-- What a call does to a set, as a number that a plan can hold: 0, it stays; 1, it stays and the range is added; 2, it is dropped;
-- 3, it is dropped and the range is added; 4, it stays and the ranges counted from a stretch of instants are added, as one interval. Private steps of
-- the calls. Definitions only.
use Rattle.std.specs.Prelude.{ℕ, zero, suc, Bool, true, false, not, []}
use Rattle.numset.specs.Runs.{Runs, kept, union}
use Rattle.pmtl.specs.Book.{Row}
use Rattle.pmtl.specs.Book.Row.{never, always, atom, conj, disj, neg, implies, historically, once, since}

abbrev pub mode_of : (stays adds : Bool) → ℕ
mode_of true false = 0
mode_of true true = 1
mode_of false false = 2
mode_of false true = 3

-- the set after it, where the range is l ..= u and the clock c: what ends before c is dropped first
unfoldable pub changed : ℕ → ℕ → ℕ → ℕ → Runs → Runs
changed zero l u c rs = kept c rs
changed (suc zero) l u c rs = union l u (kept c rs)
changed (suc (suc zero)) l u c rs = []
changed (suc (suc (suc zero))) l u c rs = union l u []
changed (suc (suc (suc (suc k)))) l u c rs = union l u (kept c rs)

-- the set stays, and something is added
abbrev pub growing : ℕ → Bool
growing zero = false
growing (suc zero) = true
growing (suc (suc zero)) = false
growing (suc (suc (suc zero))) = false
growing (suc (suc (suc (suc k)))) = true

-- the same change where a state lasts: a set that stays gets the ranges of the whole stretch
abbrev pub spanned : ℕ → ℕ
spanned zero = 0
spanned (suc zero) = 4
spanned (suc (suc k)) = suc (suc k)

abbrev pub spanned_if : (spans : Bool) → ℕ → ℕ
spanned_if true k = spanned k
spanned_if false k = k

-- the first instant that a change at clock c counts from, where the stretch begins at `first`
abbrev pub counted_from : (first c : ℕ) → ℕ → ℕ
counted_from first c zero = c
counted_from first c (suc zero) = c
counted_from first c (suc (suc zero)) = c
counted_from first c (suc (suc (suc zero))) = c
counted_from first c (suc (suc (suc (suc k)))) = first

-- a change that adds the range, too
unfoldable pub adding : ℕ → ℕ
adding zero = 1
adding (suc zero) = 1
adding (suc (suc zero)) = 3
adding (suc (suc (suc zero))) = 3
adding (suc (suc (suc (suc k)))) = 4

-- two changes at one clock, as one: the second where it drops the set, whatever was there; else the first, with the range if the second adds it. No
-- time passes between the two, so that the second counts from the clock alone
unfoldable pub both_of : ℕ → ℕ → ℕ
both_of first zero = first
both_of first (suc zero) = adding first
both_of first (suc (suc zero)) = 2
both_of first (suc (suc (suc zero))) = 3
both_of first (suc (suc (suc (suc k)))) = adding first

-- what a call does to a temporal row's set, by its operands' values after the call
unfoldable pub mode_in : Row Bool → ℕ
mode_in never = 0
mode_in always = 0
mode_in (atom a) = 0
mode_in (conj vs) = 0
mode_in (disj vs) = 0
mode_in (neg v) = 0
mode_in (implies l r) = 0
mode_in (historically g v) = mode_of true (not v)
mode_in (once g v) = mode_of true v
mode_in (since g l r) = mode_of l r
