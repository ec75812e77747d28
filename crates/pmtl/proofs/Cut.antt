-- A set cut at an instant: where no run ends before it, what is left from there on has as many runs as the set. Assumes nothing.
use Prim.Native.Nat.{ℕ, suc, ◌≤◌, ◌<◌, max}
use native.Mathlib.Omega.{arith}
use mathlib.Core.Path.{◌≡◌, refl, sym, ap, ap₂, ◌∙◌}
use mathlib.Core.Logic.{⊎_elim}
use mathlib.Core.Bool.{Bool, false, ◌&&◌, ◌||◌}
use mathlib.Core.List.{[], ◌∷◌}
use lib.ListN.{length}
use lib.Dec.{leb}
use borrow.Author.Tests.{le-leb, lt-leb}
use Rattle.numset.specs.Runs.{run, Runs, has, within, Under, Canonical}
use Rattle.lists.proofs.Tests.{lt_or_ge}
use Rattle.numset.proofs.Laws.{in_or_out, inside, outside_above, outside_below, under_mono, canonical, top_of, under_top_of}
use Rattle.numset.proofs.Unique.{unique}
use Rattle.pmtl.specs.Kept.{AllRuns, NoneBefore, MoreRuns}

-- the instants of a set from c on, where no run ends before c
unfoldable cut : ℕ → Runs → Runs
cut c [] = []
cut c (run l u ∷ rs) = run (max l c) u ∷ cut c rs

cut_length : (c : ℕ) (s : Runs) → length (cut c s) ≡ length s
unfolding cut
cut_length c [] = refl
cut_length c (run l u ∷ rs) = ap suc (cut_length c rs)

cut_under : (c top : ℕ) (s : Runs) → NoneBefore c s → Under top s → Under top (cut c s)
unfolding cut AllRuns Under
cut_under c top [] h w = tt
cut_under c top (run l u ∷ rs) h w = (omega arith, w.1, under_mono l (max l c) (cut c rs) (omega arith) (cut_under c l rs h.1 w.2))

cut_canonical : (c : ℕ) (s : Runs) → NoneBefore c s → Canonical s → Canonical (cut c s)
cut_canonical c s h w = canonical (top_of s) (cut c s) (cut_under c (top_of s) s h (under_top_of s w))

cut_before : (c t : ℕ) (s : Runs) → t < c → has (cut c s) t ≡ false
unfolding cut has
cut_before c t [] h = refl
cut_before c t (run l u ∷ rs) h = rw (outside_above (max l c) u t (omega arith)) (cut_before c t rs h)

within_cut : (c l u t : ℕ) → c ≤ t → within (max l c) u t ≡ within l u t
within_cut c l u t h =
    in_or_out l u t _
    (λ x y. inside (max l c) u t (omega arith) y ∙ sym (inside l u t x y))
    (λ x. outside_above (max l c) u t (omega arith) ∙ sym (outside_above l u t x))
    (λ x. outside_below (max l c) u t x ∙ sym (outside_below l u t x))

cut_after : (c t : ℕ) (s : Runs) → c ≤ t → has (cut c s) t ≡ has s t
unfolding cut has
cut_after c t [] h = refl
cut_after c t (run l u ∷ rs) h = ap₂ ◌||◌ (within_cut c l u t h) (cut_after c t rs h)

-- a canonical set in which no run ends before c, and whose instants from c on are those of f, has as many runs as those form
module _ (n c : ℕ) (f : ℕ → Bool) (s : Runs) (ok : Canonical s) (none : NoneBefore c s) (same : (t : ℕ) → c ≤ t → has s t ≡ f t) where
  cut_has : (t : ℕ) → has (cut c s) t ≡ (leb c t && f t)
  cut_has t =
      ⊎_elim
      (λ p. rw (lt-leb c t p) (cut_before c t s p))
      (λ p. rw (le-leb c t p) (cut_after c t s p ∙ same t p))
      (lt_or_ge t c)

  pub length_more : n < length s → MoreRuns n c f
  length_more h = record { runs = cut c s; longest = cut_canonical c s none ok; members = cut_has; more = omega (arith, cut_length c s) }

  pub more_length : MoreRuns n c f → n < length s
  more_length m =
      let e : m.runs ≡ cut c s = unique m.runs (cut c s) m.longest (cut_canonical c s none ok) (λ t. m.members t ∙ sym (cut_has t)) in
      omega (arith, cut_length c s, ap length e, m.more)

-- two such sets with the same instants from c on have as many runs
pub same_count : (c : ℕ) (s s' : Runs) → Canonical s → Canonical s' → NoneBefore c s → NoneBefore c s'
    → ((t : ℕ) → c ≤ t → has s t ≡ has s' t) → length s ≡ length s'
same_count c s s' ok ok' none none' same =
    let e : cut c s ≡ cut c s' = unique (cut c s) (cut c s') (cut_canonical c s none ok) (cut_canonical c s' none' ok')
    (λ t. cut_has 0 c (has s') s ok none same t ∙ sym (cut_has 0 c (has s') s' ok' none' (λ u l. refl) t)) in
    sym (cut_length c s) ∙ ap length e ∙ cut_length c s'
