-- A store, a move of no words, and a clearing of none. Assumes nothing.
use Prim.Native.Nat.{ℕ, ◌<◌}
use mathlib.Core.Path.{◌≡◌, refl, ◌∙◌}
use mathlib.Core.List.{List}
use native.Mathlib.Omega.{arith}
use lib.ListN.{length, get_or, set}
use lib.Seq.{get_or-set_same}
use Rattle.numset.specs.Private.{Shifted, Cleared}
use Rattle.numset.proofs.Words.{at}

pub put_here : (m : List ℕ) (i k v : ℕ) → k ≡ i → i < length m → get_or (set m i v) k 0 ≡ v
put_here m i k v e h = at (set m i v) k i e ∙ get_or-set_same m i v 0 h

pub moved_none : (m : List ℕ) (src dst n : ℕ) → n ≡ 0 → Shifted m m src dst n
moved_none m src dst n e = record { moved = λ d h. absurd (omega arith); below = λ k h. refl; above = λ k h. refl }

pub cleared_none : (m : List ℕ) (from : ℕ) → Cleared m m from from
cleared_none m from = record { zeros = λ k h p. absurd (omega arith); below = λ k h. refl; above = λ k h. refl }

pub cleared_eq : {m m' : List ℕ} {f t t' : ℕ} → Cleared m m' f t → t ≡ t' → Cleared m m' f t'
cleared_eq w e = rw (← e) w
