-- Sections judged in order, and words placed. Assumes nothing.
use mathlib.Core.Path.{◌≡◌, sym, ap, ◌∙◌}
use mathlib.Core.Bool.{true, false}
use mathlib.Core.List.{List}
use Prim.Native.Nat.{ℕ}
use Rattle.numbers.specs.Refusals.{number_of}
use Rattle.numbers.specs.declared.Refusal.{Refusal}
use Rattle.numbers.proofs.Refused.{never_0}
use Rattle.book.specs.Reading.{Sections}
use Rattle.book.specs.Judging.{rows_in, first_to, row_number, links_good, used_once, judged, Loaded, refused_with, loaded}
use Rattle.book.specs.Placing.{parts_of, Counted}
use Rattle.book.proofs.Rows.{stays}
use Rattle.book.proofs.Placing.{number_judged, loaded_from_lem}

-- ---- rows, then links, then uses
module _ (s : Sections) where
  pub wrong_rows : (r : Refusal) → number_of r ≡ first_to (row_number s.rows) (rows_in s) → number_of r ≡ judged s
  unfolding judged
  wrong_rows r e = rw (← e) (sym (stays (number_of r) _ (never_0 r)))

  module _ (z : 0 ≡ first_to (row_number s.rows) (rows_in s)) where
    pub wrong_links : links_good s ≡ false → 5 ≡ judged s
    unfolding judged
    wrong_links l = rw (← z, l)

    module _ (l : links_good s ≡ true) where
      pub wrong_uses : used_once s ≡ false → 6 ≡ judged s
      unfolding judged
      wrong_uses u = rw (← z, l, u)

      pub nothing_wrong : used_once s ≡ true → 0 ≡ judged s
      unfolding judged
      nothing_wrong u = rw (← z, l, u)

-- ---- words placed: refused as they were read, or judged
module _ (words : List ℕ) where
  pub unread : (k : ℕ) → loaded words ≡ refused_with k → k ≡ (loaded words).number
  unread k e = sym (ap (λ (l : Loaded). l.number) e)

  pub judged_so : (n o a g k : ℕ) → Counted words n o a g → k ≡ judged (parts_of words n o a g) → k ≡ (loaded words).number
  judged_so n o a g k c e = e ∙ sym (number_judged (parts_of words n o a g)) ∙ ap (λ (l : Loaded). l.number) (sym (loaded_from_lem words n o a g c))
