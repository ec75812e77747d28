-- Begun, the clock and the atoms set in place, and the atoms that stand there. Assumes nothing.
use Prim.Native.Nat.{ℕ, ◌+◌, ◌≤◌, ◌<◌}
use mathlib.Core.Path.{◌≡◌, refl, sym, ◌∙◌}
use mathlib.Core.Logic.{⊎_elim}
use mathlib.Core.List.{List}
use native.Mathlib.Omega.{arith}
use lib.ListN.{length, get_or, set, length-set}
use lib.Seq.{get_or-set_same, get_or-set_other}
use Rattle.lists.proofs.Tests.{lt_or_ge}
use Rattle.lists.proofs.Listed.{listed_length}
use Rattle.memory.specs.Layout.{ATOMS, SIZE}
use Rattle.memory.specs.Memory.{begun_word, clock_of, width_word, atom_at, atoms_of}
use Rattle.memory.specs.Kept.{Sound}
use Rattle.planning.proofs.Atoms.{old_same}
use Rattle.calls.specs.Private.{Bytes, clocked, Atoms}

-- atoms that stand there are written
pub atoms_stand : {m atoms : List ℕ} {n : ℕ} → length m ≡ SIZE → ((i : ℕ) → i < n → get_or m (ATOMS + i) 0 ≡ get_or atoms i 0) → Atoms m atoms n m
atoms_stand e f = record { long = e; new = f; below = λ i h. refl; above = λ i h. refl }

pub atoms_start : (m atoms : List ℕ) → length m ≡ SIZE → Atoms m atoms 0 m
atoms_start m atoms e = atoms_stand e (λ i h. absurd (omega arith))

pub atoms_more : {m m₁ : List ℕ} {atoms : List ℕ} {i x : ℕ} → Atoms m atoms i m₁ → i < 256 → x ≡ get_or atoms i 0 → Atoms m atoms (i + 1) (set m₁ (ATOMS + i) x)
atoms_more {m} {m₁} {atoms} {i} {x} a h e =
    let l = a.long in
    record {
      long = length-set m₁ (ATOMS + i) x ∙ a.long;
      new = λ k lt.
          ⊎_elim (λ (p : k < i). get_or-set_other m₁ (ATOMS + i) (ATOMS + k) x 0 (omega arith) ∙ a.new k p)
          (λ (p : i ≤ k). let d : k ≡ i = omega arith in rw d (get_or-set_same m₁ (ATOMS + i) x 0 (omega arith) ∙ e)) (lt_or_ge k i);
      below = λ k lt. get_or-set_other m₁ (ATOMS + i) k x 0 (omega arith) ∙ a.below k lt;
      above = λ k le. get_or-set_other m₁ (ATOMS + i) k x 0 (omega arith) ∙ a.above k (omega arith);
    }

-- ---- begun and the clock
module _ (m : List ℕ) (c : ℕ) where
  pub clocked_length : length (clocked m c) ≡ length m
  clocked_length = length-set (set m 1 1) 2 c ∙ length-set m 1 1

  pub clocked_begun : length m ≡ SIZE → begun_word (clocked m c) ≡ 1
  clocked_begun l = get_or-set_other (set m 1 1) 2 1 c 0 (omega arith) ∙ get_or-set_same m 1 1 0 (omega arith)

  pub clocked_clock : length m ≡ SIZE → clock_of (clocked m c) ≡ c
  clocked_clock l = get_or-set_same (set m 1 1) 2 c 0 (omega (arith, length-set m 1 1))

  pub clocked_other : (i : ℕ) → (i ≡ 1 → ⊥) → (i ≡ 2 → ⊥) → get_or (clocked m c) i 0 ≡ get_or m i 0
  clocked_other i p q = get_or-set_other (set m 1 1) 2 i c 0 q ∙ get_or-set_other m 1 i 1 0 p

-- ---- the atoms that stand there, as bytes
pub old_bytes : {m : List ℕ} → Sound m → Bytes (atoms_of m) (width_word m)
old_bytes {m} sound = record {
  long = listed_length (atom_at m) (width_word m);
  bits = λ i h. rw (sym (old_same sound i h)) (sound.atoms i h);
}
