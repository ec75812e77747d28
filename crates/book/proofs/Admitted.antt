-- What loading comes to in each way of loading. Assumes nothing.
use Prim.Native.Nat.{ℕ}
use mathlib.Core.Path.{◌≡◌, refl, sym, ap, ◌∙◌}
use mathlib.Core.Bool.{Bool, true, false}
use mathlib.Core.Logic.{◌⊎◌, inl, inr, ⊎_elim}
use mathlib.Core.List.{List, [], ◌∷◌}
use native.Mathlib.Omega.{arith}
use lib.Dec.{eqb}
use borrow.Author.Tests.{eqb-true}
use Rattle.std.specs.Prelude.{Option, Some, None}
use Rattle.lists.proofs.Tests.{either}
use Rattle.pmtl.specs.Book.{Book, empty_book}
use Rattle.pmtl.specs.Flat.{flat}
use Rattle.pmtl.specs.Sets.{Way, ordinary, lasting}
use Rattle.pmtl.specs.Strict.{Strict as IsStrict, first_over}
use Rattle.pmtl.proofs.Flat.{none_flat}
use Rattle.pmtl.proofs.Strict.{none_strict}
use Rattle.book.specs.declared.loading.Loading.{Loading}
use Rattle.book.specs.declared.strict.Excess.{Excess}
use Rattle.book.specs.Reading.{Read, got, refused, Sections, sections}
use Rattle.book.specs.Judging.{judged, book_in, Loaded, refused_with, loaded_from, whole, loaded}
use Rattle.book.specs.Strict.{over, strictly, excess_by, unless, roomed}
use Rattle.book.specs.Loading.{way_in, takes, flatly, admitted, loaded_by}
use Rattle.book.proofs.Excess.{accepted_roomed, refused_roomed, roomed_strict, strict_roomed, roomed_within}

-- ---- what a way of monitoring takes is left as it is, and what it does not take is refused with 17
pub taken_stays : (w : Way) (l : Loaded) → takes w l.book.rows ≡ true → flatly w l ≡ l
taken_stays w l h = rw h

pub nested_refused : (w : Way) (l : Loaded) → takes w l.book.rows ≡ false → flatly w l ≡ refused_with 17
nested_refused w l h = rw h

cases : (w : Way) (l : Loaded) → (flatly w l ≡ l) ⊎ (flatly w l ≡ refused_with 17)
cases w l = ⊎_elim (λ t. inl (taken_stays w l t)) (λ f. inr (nested_refused w l f)) (either (takes w l.book.rows))

-- an empty book is taken
pub none_taken : (w : Way) → takes w [] ≡ true
none_taken ordinary = refl
none_taken lasting = none_flat

-- and so is what is left
flatly_taken : (w : Way) (l : Loaded) → takes w (flatly w l).book.rows ≡ true
flatly_taken w l =
    ⊎_elim
    (λ t. ap (λ (x : Loaded). takes w x.book.rows) (taken_stays w l t) ∙ t)
    (λ f. ap (λ (x : Loaded). takes w x.book.rows) (nested_refused w l f) ∙ none_taken w)
    (either (takes w l.book.rows))

module _ {l l' : Loaded} (left : (l' ≡ l) ⊎ (l' ≡ refused_with 17)) where
  accepted_left : l'.number ≡ 0 → l' ≡ l
  accepted_left h = ⊎_elim (λ e. e) (λ e. absurd (let z : ◌≡◌ {A = ℕ} 17 0 = rw e at h in omega arith)) left

  refused_left : ((l.number ≡ 0 → ⊥) → l ≡ refused_with l.number) → (l'.number ≡ 0 → ⊥) → l' ≡ refused_with l'.number
  refused_left empty h = ⊎_elim (λ e. rw e (empty (rw e at h))) (λ e. rw e) left

  strict_left : IsStrict l.book.rows → IsStrict l'.book.rows
  unfolding first_over
  strict_left s = ⊎_elim (λ e. rw e s) (λ e. rw e (none_strict [] refl)) left

-- ---- each way of loading
module _ (way : Loading) where
  -- a book that has a row that strict loading refuses is refused with 15, whether it is flat or not
  pub fifteen_first : (l : Loaded) (r n : ℕ) → excess_by way l.book.rows ≡ Some (over r n) → admitted way l ≡ refused_with 15
  fifteen_first l r n e = ap (λ (x : Option Excess). flatly (way_in way) (unless x l)) e ∙ taken_stays (way_in way) (refused_with 15) (none_taken (way_in way))

  both : (l : Loaded) → (admitted way l).number ≡ 0 → admitted way l ≡ roomed way l
  both l = accepted_left (cases (way_in way) (roomed way l))

  roomed_too : (l : Loaded) → (admitted way l).number ≡ 0 → (roomed way l).number ≡ 0
  roomed_too l h = sym (ap (λ (x : Loaded). x.number) (both l h)) ∙ h

  -- a book that is accepted is accepted in ordinary loading, as the same book
  pub accepted_by : (words : List ℕ) → (loaded_by way words).number ≡ 0 → loaded_by way words ≡ loaded words
  accepted_by words h = both (loaded words) h ∙ accepted_roomed way (loaded words) (roomed_too (loaded words) h)

  -- a refused book gives an empty one
  pub refused_by : (words : List ℕ) → ((loaded_by way words).number ≡ 0 → ⊥) → loaded_by way words ≡ refused_with (loaded_by way words).number
  refused_by words = refused_left (cases (way_in way) (roomed way (loaded words))) (refused_roomed way words)

  -- a book that is accepted has no such row
  pub accepted_within : (l : Loaded) → (admitted way l).number ≡ 0 → excess_by way l.book.rows ≡ None
  accepted_within l h = roomed_within way l (roomed_too l h)

  -- where loading is strict, a book, accepted or empty, has no row that can need more runs than a set may have
  pub admitted_strict : strictly way ≡ true → (l : Loaded) → IsStrict (admitted way l).book.rows
  admitted_strict w l = strict_left (cases (way_in way) (roomed way l)) (roomed_strict way w l)

  -- the way of monitoring takes what is admitted for it
  pub admitted_takes : (l : Loaded) → takes (way_in way) (admitted way l).book.rows ≡ true
  admitted_takes l = flatly_taken (way_in way) (roomed way l)

  -- so in the lasting way it is flat
  pub admitted_flat : way_in way ≡ lasting → (l : Loaded) → flat (admitted way l).book.rows ≡ true
  admitted_flat w l = ap (λ (x : Way). takes x (admitted way l).book.rows) (sym w) ∙ admitted_takes l

  -- a book that it takes, and that has no such row where loading is strict, is admitted as it is
  pub admitted_as : (l : Loaded) → (strictly way ≡ true → IsStrict l.book.rows) → takes (way_in way) l.book.rows ≡ true → admitted way l ≡ l
  admitted_as l s t = ap (flatly (way_in way)) (strict_roomed way l s) ∙ taken_stays (way_in way) l t

-- ---- what is so of a book, and of one that is refused with 15 or 17, is so of what loading comes to
pub admitted_all : (Q : Loaded → Type 0) → Q (refused_with 15) → Q (refused_with 17) → (way : Loading) (l : Loaded) → Q l → Q (admitted way l)
admitted_all Q some nested way l h = ⊎_elim (λ e. rw e (within (excess_by way l.book.rows))) (λ e. rw e nested) (cases (way_in way) (roomed way l))
  where
    within : (x : Option Excess) → Q (unless x l)
    within None = h
    within (Some x) = some

-- what is so of the empty book, and of every book whose sections are accepted, is so of the book that is loaded
module _ (P : Book → Type 0) (none : P empty_book) where
  pub admitted_any : (way : Loading) (l : Loaded) → P l.book → P (admitted way l).book
  admitted_any = admitted_all (λ l. P l.book) none none

  module _ (each : (s : Sections) → judged s ≡ 0 → P (book_in s)) where
    pub loaded_any : (s : Sections) → P (loaded_from s).book
    unfolding loaded_from
    loaded_any s = go (eqb (judged s) 0) refl
      where
        go : (z : Bool) → eqb (judged s) 0 ≡ z → P (elim z as (λ x. Loaded) [ true ↦ record { number = 0; book = book_in s } | false ↦ refused_with (judged s) ]).book
        go true e = each s (eqb-true (judged s) 0 e)
        go false e = none

    pub words_any : (words : List ℕ) → P (loaded words).book
    unfolding loaded whole
    words_any words = go (sections 1 words)
      where
        go : (r : Read Sections) → P (whole r).book
        go (got s []) = loaded_any s
        go (got s (w ∷ ws)) = none
        go (refused n) = none
