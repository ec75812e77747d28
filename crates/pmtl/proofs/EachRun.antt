-- What is so of every run of a set stays so of what is kept of it, and where an interval is added. Assumes nothing.
use Prim.Native.Nat.{ℕ, ◌+◌, ◌≤◌, min, max}
use native.Mathlib.Omega.{arith}
use mathlib.Core.Path.{◌≡◌, refl, ap, ◌∙◌}
use mathlib.Core.Logic.{⊎_elim}
use mathlib.Core.Bool.{Bool, true, false}
use mathlib.Core.List.{[], ◌∷◌}
use Rattle.numbers.specs.Limits.{MAX}
use Rattle.numset.specs.Runs.{run, Runs, kept, insert, union}
use Rattle.lists.proofs.Tests.{lt_or_ge}
use Rattle.numset.proofs.Union.{insert_over, insert_past, insert_join, union_none, union_some}
use Rattle.numset.proofs.Kept.{kept_out, kept_in}
use Rattle.pmtl.specs.Book.{Range, start, stop}
use Rattle.pmtl.specs.Sets.{stays_if, added_if, renewed, firstly, lasted}
use Rattle.pmtl.specs.Kept.{AllRuns, NoneBefore}
use Rattle.pmtl.proofs.Settled.{stop_after}

-- an interval of which it is so is added, and it is so of two that are joined
module _ (P : ℕ → ℕ → Type 0) (joins : (l u a b : ℕ) → P l u → P a b → P (min l a) (max u b)) where
  insert_all : (l u : ℕ) (s : Runs) → P l u → AllRuns P s → AllRuns P (insert l u s)
  unfolding insert AllRuns
  insert_all l u [] h w = (h, tt)
  insert_all l u (run a b ∷ rs) h w =
      ⊎_elim
      (λ p. rw (insert_over l u a b rs p) (w.0, insert_all l u rs h w.1))
      (λ p. ⊎_elim
      (λ q. rw (insert_past l u a b rs p q) (h, w))
      (λ q. rw (insert_join l u a b rs p q) (insert_all (min l a) (max u b) rs (joins l u a b h w.0) w.1))
      (lt_or_ge (b + 1) l))
      (lt_or_ge (u + 1) a)

  union_all : (l u : ℕ) (s : Runs) → (l ≤ u → P l u) → AllRuns P s → AllRuns P (union l u s)
  union_all l u s h w = ⊎_elim (λ p. rw (union_none l u s p) w) (λ p. rw (union_some l u s p) (insert_all l u s (h p) w)) (lt_or_ge u l)

  -- a set that a call changes, counting from any instant
  changed_all : (k x : Bool) (g : Range) (from c : ℕ) (s : Runs) → (start g from ≤ stop g c → P (start g from) (stop g c)) → AllRuns P (kept c s)
      → AllRuns P (added_if x g from c (stays_if k (kept c s)))
  unfolding added_if stays_if AllRuns
  changed_all true true g from c s h w = union_all _ _ _ h w
  changed_all true false g from c s h w = w
  changed_all false true g from c s h w = union_all _ _ _ h tt
  changed_all false false g from c s h w = tt

  -- in the ordinary way
  pub renewed_all_lem : (k x : Bool) (g : Range) (c : ℕ) (s : Runs) → (start g c ≤ stop g c → P (start g c) (stop g c)) → AllRuns P (kept c s)
      → AllRuns P (renewed k x g c s)
  unfolding renewed
  renewed_all_lem k x g c s = changed_all k x g c c s

-- no run that is kept ends before the clock
kept_none_before : (c : ℕ) (s : Runs) → NoneBefore c (kept c s)
unfolding kept AllRuns
kept_none_before c [] = tt
kept_none_before c (run l u ∷ rs) =
    ⊎_elim
    (λ p. rw (kept_out c l u rs p) (kept_none_before c rs))
    (λ p. rw (kept_in c l u rs p) (p, kept_none_before c rs))
    (lt_or_ge u c)

-- nor one of a set that a call changes
pub changed_none_before : (k x : Bool) (g : Range) (from c : ℕ) (s : Runs) → c ≤ MAX → NoneBefore c (added_if x g from c (stays_if k (kept c s)))
changed_none_before k x g from c s h =
    changed_all (λ l u. c ≤ u) (λ l u a b p q. omega arith) k x g from c s (λ p. stop_after g c h) (kept_none_before c s)

pub renewed_none_before : (k x : Bool) (g : Range) (c : ℕ) (s : Runs) → c ≤ MAX → NoneBefore c (renewed k x g c s)
unfolding renewed
renewed_none_before k x g c s = changed_none_before k x g c c s

pub lasted_none_before : (before : ℕ) (k x : Bool) (g : Range) (c : ℕ) (s : Runs) → c ≤ MAX → NoneBefore c (lasted before k x g c s)
unfolding lasted
lasted_none_before before k x g c s = changed_none_before k x g (firstly before k c) c s

-- where none does, all is kept
pub none_before_kept : (c : ℕ) (s : Runs) → NoneBefore c s → kept c s ≡ s
unfolding kept AllRuns
none_before_kept c [] h = refl
none_before_kept c (run l u ∷ rs) h = kept_in c l u rs h.0 ∙ ap (λ q. run l u ∷ q) (none_before_kept c rs h.1)

-- what was dropped once is not there to be dropped again
pub kept_again : (c : ℕ) (s : Runs) → kept c (kept c s) ≡ kept c s
kept_again c s = none_before_kept c (kept c s) (kept_none_before c s)

-- what follows of every run is so of those that are kept
pub kept_all : (P Q : ℕ → ℕ → Type 0) → ((l u : ℕ) → P l u → Q l u) → (c : ℕ) (s : Runs) → AllRuns P s → AllRuns Q (kept c s)
unfolding kept AllRuns
kept_all P Q f c [] h = tt
kept_all P Q f c (run l u ∷ rs) h =
    ⊎_elim
    (λ p. rw (kept_out c l u rs p) (kept_all P Q f c rs h.1))
    (λ p. rw (kept_in c l u rs p) (f l u h.0, kept_all P Q f c rs h.1))
    (lt_or_ge u c)
