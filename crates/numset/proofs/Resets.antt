-- Wiped words are the empty set, and an interval added to that is the set of that interval. Assumes nothing.
use Prim.Native.Nat.{ℕ, ◌+◌, ◌*◌, ◌≤◌, ◌<◌}
use mathlib.Core.Path.{◌≡◌, refl, sym, ap, ◌∙◌}
use mathlib.Core.Logic.{⊎_elim}
use mathlib.Core.List.{List, [], ◌∷◌}
use native.Mathlib.Omega.{arith}
use lib.ListN.{length, get_or, replicate, length-replicate}
use lib.Seq.{ext_get_or}
use borrow.Author.Tests.{lt-ltb}
use Rattle.numset.specs.Runs.{runs, Good, union, pack, add_number, add_words, set_to_number, set_to_words, empty_number}
use Rattle.numset.specs.Private.{Cleared}
use Rattle.lists.proofs.Tests.{lt_or_ge}
use Rattle.numset.proofs.Union.{union_none}
use Rattle.numset.proofs.Packs.{length_pack, runs_pack, zeros_pack, good_zeros}
use Rattle.lists.proofs.Parts.{get_or_zeros}
use Rattle.numset.proofs.Changes.{added_room, added_words, one_lacks, one_room, set_full, set_room, set_words, set_same}

pub wiped : {m m' : List ℕ} {n : ℕ} → Cleared m m' 0 n → length m' ≡ length m → ((i : ℕ) → n ≤ i → i < length m → get_or m i 0 ≡ 0) → m' ≡ replicate (length m) 0
wiped {m} {m'} {n} w k r =
    ext_get_or 0 m' (replicate (length m) 0) (k ∙ sym (length-replicate (length m) 0))
    (λ i h. ⊎_elim (λ p. w.zeros i (omega arith) p) (λ p. w.above i p ∙ r i p (omega arith)) (lt_or_ge i n) ∙ sym (get_or_zeros (length m) i))

pub cleared : {m m' : List ℕ} → Good m → Cleared m m' 0 (2 * get_or m 0 0 + 1) → length m' ≡ length m → m' ≡ pack (length m) []
cleared {m} g w k = let r = g.room in wiped w k (λ i p q. g.rest i (omega arith)) ∙ zeros_pack (length m) (omega arith)

-- ---- what `empty` answers and leaves
abbrev Empties : List ℕ → List ℕ → ℕ → Type 0
Empties m m' r = (r ≡ empty_number m) × (m' ≡ replicate (length m) 0)

pub empties_none : (m : List ℕ) → length m ≡ 0 → Empties m m 11
unfolding empty_number
empties_none [] h = (refl, refl)
empties_none (x ∷ m) h = absurd (omega arith)

pub empties : (m : List ℕ) {m' : List ℕ} → (length m ≡ 0 → ⊥) → m' ≡ replicate (length m) 0 → Empties m m' 0
unfolding empty_number
empties m h e = (rw (lt-ltb 0 (length m) (omega arith)), e)

-- where it answers 0 there is a set
pub empty_good : (m : List ℕ) {m' : List ℕ} → m' ≡ replicate (length m) 0 → empty_number m ≡ 0 → Good m'
unfolding empty_number
empty_good [] _ e = absurd (let z : ◌≡◌ {A = ℕ} 11 0 = e in omega arith)
empty_good (x ∷ m) e _ = rw e (good_zeros (length (x ∷ m)) (omega arith))

-- ---- what `set_to` answers and leaves
abbrev Sets : List ℕ → List ℕ → ℕ → ℕ → ℕ → Type 0
Sets m m' l u r = (r ≡ set_to_number m l u) × (m' ≡ set_to_words m l u)

pub sets_none : (m : List ℕ) {m' : List ℕ} {l u : ℕ} → 0 < length m → u < l → m' ≡ pack (length m) [] → Sets m m' l u 0
sets_none m {m'} {l} {u} g h e =
    let k : 2 * length (union l u []) < length m = rw (union_none l u [] h) (omega arith) in
    (sym (set_room m l u k), e ∙ sym (rw (union_none l u [] h) at (set_words m l u k)))

pub sets_full : (m : List ℕ) {l u : ℕ} → l ≤ u → length m < 3 → Sets m m l u 11
sets_full m {l} {u} h k = let f = one_lacks (length m) l u h k in (sym ((set_full m l u).1 f), sym (set_same m l u f))

pub sets_added : (m : List ℕ) (l u : ℕ) {m₁ m' : List ℕ} {r : ℕ} → 3 ≤ length m → m₁ ≡ pack (length m) [] → r ≡ add_number m₁ l u → m' ≡ add_words m₁ l u → Sets m m' l u r
sets_added m l u {m₁} k e p q =
    let a : runs m₁ ≡ [] = ap (λ (x : List ℕ). runs x) e ∙ runs_pack (length m) [] in
    let b : length m₁ ≡ length m = ap length e ∙ length_pack (length m) [] (omega arith) in
    let f = one_room (length m) l u k in
    let h : 2 * length (union l u (runs m₁)) < length m₁ = rw (a, b) f in
    (p ∙ added_room m₁ l u h ∙ sym (set_room m l u f), q ∙ added_words m₁ l u h ∙ rw (a, b) (sym (set_words m l u f)))
