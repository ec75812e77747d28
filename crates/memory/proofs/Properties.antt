-- The properties of the book that a memory holds, in their order. Assumes nothing.
use Prim.Native.Nat.{ℕ, ◌<◌}
use native.Mathlib.Omega.{arith}
use mathlib.Core.Path.{◌≡◌, sym, ap, ◌∙◌}
use mathlib.Core.List.{List, ◌++◌}
use lib.ListN.{length, get_or, take, drop, length-take, length-drop}
use lib.Seq.{get_or-take, get_or-drop, take-add, drop-drop}
use Rattle.lists.specs.Lists.{part}
use Rattle.lists.proofs.Filled.{any_default}
use Rattle.pmtl.specs.Book.{properties, property_at}
use Rattle.memory.specs.Layout.{PROPERTIES}
use Rattle.memory.specs.Memory.{assume_count, guarantee_count, property_row, book_of}
use Rattle.memory.specs.Tables.{property_count}
use Rattle.memory.specs.Kept.{BookKept}

module _ (m : List ℕ) where
  properties_are : properties (book_of m) ≡ part PROPERTIES (property_count m) m
  unfolding book_of
  properties_are = sym (take-add (assume_count m) (guarantee_count m) (drop PROPERTIES m) ∙ ap (λ l. take (assume_count m) (drop PROPERTIES m) ++ take (guarantee_count m) l) (drop-drop (assume_count m) PROPERTIES m))

  pub properties_length : BookKept m → length (properties (book_of m)) ≡ property_count m
  properties_length kept =
      let long = kept.long in
      let a = kept.assumes_few in
      let g = kept.guarantees_few in
      rw properties_are (simp (length-take, length-drop) (omega arith))

  pub property_is : BookKept m → (i : ℕ) → i < property_count m → property_at (book_of m) i ≡ property_row m i
  property_is kept i h =
      let long = properties_length kept in
      any_default (properties (book_of m)) i (length (book_of m).rows) 0 (omega arith)
      ∙ ap (λ l. get_or l i 0) properties_are ∙ get_or-take _ (drop PROPERTIES m) i 0 h ∙ get_or-drop PROPERTIES m i 0
