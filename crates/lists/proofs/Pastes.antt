-- A list with another put over a part of it, element by element. Assumes nothing.
use Prim.Native.Nat.{ℕ, ◌+◌, ◌-◌, ◌≤◌, ◌<◌}
use mathlib.Core.Path.{◌≡◌, ◌∙◌}
use mathlib.Core.List.{List, ◌++◌}
use native.Mathlib.Omega.{arith}
use lib.ListN.{length, get_or, take, drop, get_or-append}
use lib.Seq.{paste, length_paste_head, length-take-le, get_or-append-add, get_or-take, get_or-drop}
use Rattle.lists.proofs.Parts.{word_at}

module _ (d : List ℕ) (at : ℕ) (s : List ℕ) (n : ℕ) (hd : at + n ≤ length d) (hs : n ≤ length s) where
  front : length (take at d) ≡ at
  front = length-take-le at d (omega arith)

  middle : length (take n s) ≡ n
  middle = length-take-le n s hs

  pub paste_below : (i : ℕ) → i < at → get_or (paste d at s n) i 0 ≡ get_or d i 0
  paste_below i h =
      let e = front in
      let f = length_paste_head d at s n (omega arith) hs in
      get_or-append (take at d ++ take n s) (drop (at + n) d) 0 i (omega arith)
      ∙ get_or-append (take at d) (take n s) 0 i (omega arith) ∙ get_or-take at d i 0 h

  pub paste_at : (i : ℕ) → i < n → get_or (paste d at s n) (at + i) 0 ≡ get_or s i 0
  paste_at i h =
      let e = front in
      let f = length_paste_head d at s n (omega arith) hs in
      get_or-append (take at d ++ take n s) (drop (at + n) d) 0 (at + i) (omega arith)
      ∙ (rw e at (get_or-append-add (take at d) (take n s) i 0)) ∙ get_or-take n s i 0 h

  pub paste_above : (i : ℕ) → at + n ≤ i → get_or (paste d at s n) i 0 ≡ get_or d i 0
  paste_above i h =
      let f = length_paste_head d at s n (omega arith) hs in
      let k : ℕ = i - (at + n) in
      word_at (paste d at s n) i (at + n + k) (omega arith)
      ∙ (rw f at (get_or-append-add (take at d ++ take n s) (drop (at + n) d) k 0))
      ∙ get_or-drop (at + n) d k 0 ∙ word_at d (at + n + k) i (omega arith)
