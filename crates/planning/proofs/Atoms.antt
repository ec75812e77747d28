-- Bytes as atoms, and the atoms that stand in a memory. Assumes nothing.
use Prim.Native.Nat.{ℕ, ◌+◌, ◌<◌}
use mathlib.Core.Path.{◌≡◌, sym, ap, ◌∙◌}
use mathlib.Core.Bool.{Bool, false}
use mathlib.Core.List.{List, map}
use native.Mathlib.Omega.{arith}
use lib.ListN.{length, get_or, length-map, get_or-map}
use lib.Seq.{ext_get_or}
use Rattle.lists.specs.Lists.{listed}
use Rattle.lists.proofs.Listed.{listed_length, listed_at}
use Rattle.memory.specs.Layout.{ATOMS}
use Rattle.memory.specs.Memory.{width_word, atom_at, atoms_of, is_one}
use Rattle.memory.specs.Kept.{Sound}

-- those of a list, by its places
pub bits_listed : (f : ℕ → ℕ) (bytes : List ℕ) (n : ℕ) → length bytes ≡ n → ((i : ℕ) → i < n → get_or bytes i 0 ≡ f i) → map is_one bytes ≡ listed (λ i. is_one (f i)) n
bits_listed f bytes n long same =
    let g : ℕ → Bool = λ i. is_one (f i) in
    ext_get_or false (map is_one bytes) (listed g n) (length-map bytes is_one ∙ long ∙ sym (listed_length g n))
    (λ i lt.
    let h : i < n = omega (arith, length-map bytes is_one) in
    get_or-map is_one bytes i 0 ∙ ap is_one (same i h) ∙ sym (listed_at g false n i h))

-- those that stand there
module _ {m : List ℕ} (sound : Sound m) where
  pub old_same : (i : ℕ) → i < width_word m → get_or m (ATOMS + i) 0 ≡ get_or (atoms_of m) i 0
  old_same i h = sym (listed_at (atom_at m) 0 (width_word m) i h)

  pub old_atoms : map is_one (atoms_of m) ≡ listed (λ i. is_one (atom_at m i)) (width_word m)
  old_atoms = bits_listed (atom_at m) (atoms_of m) (width_word m) (listed_length (atom_at m) (width_word m)) (λ i h. sym (old_same i h))
