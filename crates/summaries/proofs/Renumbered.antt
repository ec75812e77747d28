-- A refused line can be taken out, and lines numbered anew: of a summary only the numbers of its calls change. Assumes nothing.
use Prim.Native.Nat.{ℕ, zero, suc, ◌-◌, max}
use mathlib.Core.Path.{◌≡◌, refl, sym, ap, ap₂, ◌∙◌}
use mathlib.Core.Bool.{Bool, true, false, cond}
use mathlib.Core.List.{List, [], ◌∷◌, ◌++◌, map}
use lib.ListN.{length, get_or}
use lib.Dec.{eqb}
use borrow.Author.Tests.{ne_eqb}
use Rattle.numbers.specs.Refusals.{ACCEPTED}
use Rattle.report.specs.Lines.{CallLine}
use Rattle.summaries.specs.Recount.{is_false, is_settled, accepted_of, numbers_if, last_of, stretch_of, longest_of, recount}
use Rattle.summaries.specs.Renumbered.{renumbered_line, renumbered}

-- ---- a refused line taken out
accepted_without : (older : List CallLine) (l : CallLine) (newer : List CallLine) → ¬ (l.refusal ≡ ACCEPTED) → accepted_of (older ++ l ∷ newer) ≡ accepted_of (older ++ newer)
unfolding accepted_of
accepted_without [] l newer e = rw (ne_eqb l.refusal ACCEPTED e)
accepted_without (k ∷ older) l newer e = ap (λ ks. cond (eqb k.refusal ACCEPTED) (k ∷ ks) ks) (accepted_without older l newer e)

pub recount_without : (p : ℕ) (older : List CallLine) (l : CallLine) (newer : List CallLine) → ¬ (l.refusal ≡ ACCEPTED) → recount p (older ++ l ∷ newer) ≡ recount p (older ++ newer)
unfolding recount
recount_without p older l newer e = rw (accepted_without older l newer e)

-- ---- lines numbered anew, where 0 stays 0
module _ (f : ℕ → ℕ) (none : f 0 ≡ 0) where
  abbrev anew : List CallLine → List CallLine
  anew ls = map (renumbered_line f) ls

  accepted_anew : (ls : List CallLine) → accepted_of (anew ls) ≡ anew (accepted_of ls)
  unfolding accepted_of
  accepted_anew [] = refl
  accepted_anew (l ∷ ls) = go (eqb l.refusal ACCEPTED) (accepted_anew ls)
    where
      go : (z : Bool) → accepted_of (anew ls) ≡ anew (accepted_of ls) → cond z (renumbered_line f l ∷ accepted_of (anew ls)) (accepted_of (anew ls)) ≡ anew (cond z (l ∷ accepted_of ls) (accepted_of ls))
      go true ih = ap (λ ks. renumbered_line f l ∷ ks) ih
      go false ih = ih

  length_anew : {A : Type 0} (g : A → A) (xs : List A) → length (map g xs) ≡ length xs
  length_anew g [] = refl
  length_anew g (x ∷ xs) = ap suc (length_anew g xs)

  at_anew : (ns : List ℕ) (i : ℕ) → get_or (map f ns) i 0 ≡ f (get_or ns i 0)
  at_anew [] i = sym none
  at_anew (n ∷ ns) zero = refl
  at_anew (n ∷ ns) (suc i) = at_anew ns i

  last_anew : (ns : List ℕ) → last_of (map f ns) ≡ f (last_of ns)
  last_anew ns = ap (λ n. get_or (map f ns) (n - 1) 0) (length_anew f ns) ∙ at_anew ns (length ns - 1)

  -- by a test that does not look at the number
  module _ (test : CallLine → Bool) (same : (l : CallLine) → test (renumbered_line f l) ≡ test l) where
    numbers_anew : (ls : List CallLine) → numbers_if test (anew ls) ≡ map f (numbers_if test ls)
    unfolding numbers_if
    numbers_anew [] = refl
    numbers_anew (l ∷ ls) = rw (same l) (go (test l) (numbers_anew ls))
      where
        go : (z : Bool) → numbers_if test (anew ls) ≡ map f (numbers_if test ls) → cond z (f l.number ∷ numbers_if test (anew ls)) (numbers_if test (anew ls)) ≡ map f (cond z (l.number ∷ numbers_if test ls) (numbers_if test ls))
        go true ih = ap (λ ns. f l.number ∷ ns) ih
        go false ih = ih

    stretch_anew : (ls : List CallLine) → stretch_of test (anew ls) ≡ stretch_of test ls
    unfolding stretch_of
    stretch_anew [] = refl
    stretch_anew (l ∷ ls) = ap₂ (λ z n. cond z (suc n) 0) (same l) (stretch_anew ls)

    longest_anew : (ls : List CallLine) → longest_of test (anew ls) ≡ longest_of test ls
    unfolding longest_of
    longest_anew [] = refl
    longest_anew (l ∷ ls) = ap₂ max (stretch_anew (l ∷ ls)) (longest_anew ls)

  pub recount_renumbered : (p : ℕ) (ls : List CallLine) → recount p (map (renumbered_line f) ls) ≡ renumbered f (recount p ls)
  unfolding recount
  recount_renumbered p ls =
      let calls = accepted_of ls in
      rw (
        accepted_anew ls,
        numbers_anew (is_false p) (λ l. refl) calls,
        numbers_anew (is_settled p) (λ l. refl) calls,
        longest_anew (is_false p) (λ l. refl) calls,
        last_anew (numbers_if (is_false p) calls),
        at_anew (numbers_if (is_false p) calls) 0,
        at_anew (numbers_if (is_settled p) calls) 0,
        length_anew f (numbers_if (is_false p) calls),
        length_anew (renumbered_line f) calls,
      )
