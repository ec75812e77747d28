-- The summaries among the lines of a report are a recount of the lines of calls, where it ends with `end`; and lines are such as a report can have. Assumes
-- nothing.
use Prim.Native.Nat.{ℕ, zero, suc, ◌<◌}
use native.Mathlib.Omega.{arith}
use mathlib.Core.Path.{◌≡◌, refl, sym, ap, subst, ◌∙◌}
use mathlib.Core.List.{List, [], ◌∷◌, ◌++◌, map, map-append, append-nil, append_assoc}
use lib.ListN.{length, get_or}
use borrow.Author.Tests.{ne_eqb}
use Rattle.numbers.specs.Refusals.{ACCEPTED}
use Rattle.lists.specs.Lists.{listed}
use Rattle.pmtl.specs.Book.{Book, properties}
use Rattle.pmtl.specs.Calls.{Outcome}
use Rattle.book.specs.declared.loading.Loading.{Loading}
use Rattle.std.specs.Prelude.{Option, None}
use Rattle.book.specs.declared.strict.Excess.{Excess}
use Rattle.ledger.specs.declared.Summary.{Summary}
use Rattle.report.specs.Lines.{CallLine, Ending, end, stop, Line, book, called, summed, last, line_of, lines}
use Rattle.summaries.specs.Recount.{recount}
use Rattle.summaries.proofs.Theorems.{none_failed}
use Rattle.slip.specs.Back.{Proper, AllProper}
use Rattle.slip.specs.Says.{book_said, end_said, no_call_line, calls_among, summaries_among, final_line, recounts, closing, Whole, Shape}
use Rattle.slip.specs.Says.Shape.{whole, refused_book, too_long}
use Rattle.slip.proofs.Places.{shape}

-- ---- lines such as a report can have
append_proper : (xs ys : List Line) → AllProper xs → AllProper ys → AllProper (xs ++ ys)
append_proper [] ys p q = q
append_proper (x ∷ xs) ys p q = (p.0, append_proper xs ys p.1 q)

call_proper : (b : Book) (i : ℕ) (o : Outcome) → Proper (called (line_of b i o))
unfolding line_of
call_proper b i o n = rw (ne_eqb o.number ACCEPTED n)

calls_proper : (cs : List CallLine) → ((i : ℕ) → i < length cs → Proper (called (get_or cs i no_call_line))) → AllProper (map called cs)
calls_proper [] h = tt
calls_proper (c ∷ cs) h = (h 0 (omega arith), calls_proper cs (λ i l. h (suc i) (omega arith)))

summaries_proper : (cs : List CallLine) (n : ℕ) → AllProper (map summed (listed (λ p. recount p cs) n))
unfolding listed
summaries_proper cs zero = tt
summaries_proper cs (suc n) =
    subst AllProper (sym (map-append summed (listed (λ p. recount p cs) n) (recount n cs ∷ [])))
    (append_proper (map summed (listed (λ p. recount p cs) n)) (summed (recount n cs) ∷ []) (summaries_proper cs n) ((λ e. (none_failed n cs e).0), tt))

closing_proper : (b : Book) (cs : List CallLine) (e : Ending) → AllProper (closing b cs e)
unfolding closing
closing_proper b cs end = append_proper (map summed (recounts b cs)) (last end ∷ []) (summaries_proper cs (length (properties b))) (tt, tt)
closing_proper b cs (stop n) = (tt, tt)

pub all_proper : (way : Loading) (input : List ℕ) → AllProper (lines way input)
all_proper way input = go (shape way input)
  where
    go : Shape way input → AllProper (lines way input)
    go (whole f w) =
        subst AllProper (sym w.all) (
          tt,
          append_proper (map called w.calls) (closing (book_said way input) w.calls (end_said input))
              (calls_proper w.calls (λ i h. subst (λ c. Proper (called c)) (sym (w.in_order i h)) (call_proper (book_said way input) (suc i) _)))
              (closing_proper (book_said way input) w.calls (end_said input)),
        )
    go (refused_book n e) = subst AllProper (sym e) (tt, tt)
    go (too_long n e) = subst AllProper (sym e) (tt, tt)

-- ---- what is among lines
calls_first : (cs : List CallLine) (after : List Line) → calls_among (map called cs ++ after) ≡ cs ++ calls_among after
unfolding calls_among
calls_first [] after = refl
calls_first (c ∷ cs) after = ap (λ ds. c ∷ ds) (calls_first cs after)

no_calls : (ss : List Summary) (e : Ending) → calls_among (map summed ss ++ last e ∷ []) ≡ []
unfolding calls_among
no_calls [] e = refl
no_calls (s ∷ ss) e = no_calls ss e

no_summaries : (cs : List CallLine) (after : List Line) → summaries_among (map called cs ++ after) ≡ summaries_among after
unfolding summaries_among
no_summaries [] after = refl
no_summaries (c ∷ cs) after = no_summaries cs after

summaries_then : (ss : List Summary) (e : Ending) → summaries_among (map summed ss ++ last e ∷ []) ≡ ss
unfolding summaries_among
summaries_then [] e = refl
summaries_then (s ∷ ss) e = ap (λ ts. s ∷ ts) (summaries_then ss e)

final_is : (x : Line) (xs : List Line) (l : Line) → final_line (x ∷ (xs ++ l ∷ [])) ≡ l
unfolding final_line
final_is x [] l = refl
final_is x (y ∷ xs) l = final_is y xs l

-- ---- after a loaded book
module _ (b : Book) (cs : List CallLine) where
  abbrev all_lines : Ending → List Line
  all_lines e = book ACCEPTED None ∷ map called cs ++ closing b cs e

  calls_are : (e : Ending) → calls_among (all_lines e) ≡ cs
  unfolding calls_among closing
  calls_are end = calls_first cs (closing b cs end) ∙ ap (λ ds. cs ++ ds) (no_calls (recounts b cs) end) ∙ append-nil cs
  calls_are (stop n) = calls_first cs (closing b cs (stop n)) ∙ append-nil cs

  summaries_are : summaries_among (all_lines end) ≡ recounts b cs
  unfolding summaries_among closing
  summaries_are = no_summaries cs (closing b cs end) ∙ summaries_then (recounts b cs) end

  none_stopped : (n : ℕ) → summaries_among (all_lines (stop n)) ≡ []
  unfolding summaries_among closing
  none_stopped n = no_summaries cs (closing b cs (stop n))

  final : (e : Ending) → final_line (all_lines e) ≡ last e
  unfolding closing
  final end =
      ap (λ ls. final_line (book ACCEPTED None ∷ ls)) (sym (append_assoc (map called cs) (map summed (recounts b cs)) (last end ∷ [])))
      ∙ final_is (book ACCEPTED None) (map called cs ++ map summed (recounts b cs)) (last end)
  final (stop n) = final_is (book ACCEPTED None) (map called cs) (last (stop n))

not_end : {n : ℕ} → last (stop n) ≡ last end → ⊥
not_end h = let z : ◌≡◌ {A = ℕ} 0 1 = cc in omega arith

book_not_end : {n : ℕ} {x : Option Excess} → book n x ≡ last end → ⊥
book_not_end h = let z : ◌≡◌ {A = ℕ} 0 1 = cc in omega arith

module _ (way : Loading) (input : List ℕ) where
  abbrev b : Book
  b = book_said way input

  -- how it ends, after a loaded book
  pub final_said : (w : Whole way input) → final_line (lines way input) ≡ last (end_said input)
  final_said w = ap final_line w.all ∙ final b w.calls (end_said input)

  pub recounted : final_line (lines way input) ≡ last end → summaries_among (lines way input) ≡ recounts b (calls_among (lines way input))
  unfolding final_line
  recounted h = go (shape way input)
    where
      by_end : (w : Whole way input) (e : Ending) → end_said input ≡ e → summaries_among (lines way input) ≡ recounts b (calls_among (lines way input))
      by_end w end z =
          let all = w.all ∙ ap (λ e. book ACCEPTED None ∷ map called w.calls ++ closing b w.calls e) z in
          ap summaries_among all ∙ summaries_are b w.calls ∙ ap (recounts b) (sym (calls_are b w.calls end) ∙ ap calls_among (sym all))
      by_end w (stop n) z = absurd (not_end (ap last (sym z) ∙ sym (final_said w) ∙ h))

      go : Shape way input → summaries_among (lines way input) ≡ recounts b (calls_among (lines way input))
      go (whole f w) = by_end w (end_said input) refl
      go (refused_book n e) = absurd (book_not_end (ap final_line (sym e) ∙ h))
      go (too_long n e) = absurd (not_end (ap final_line (sym e) ∙ h))

  pub none_otherwise : ¬ (final_line (lines way input) ≡ last end) → summaries_among (lines way input) ≡ []
  unfolding summaries_among
  none_otherwise h = go (shape way input)
    where
      by_end : (w : Whole way input) (e : Ending) → end_said input ≡ e → summaries_among (lines way input) ≡ []
      by_end w end z = absurd (h (final_said w ∙ ap last z))
      by_end w (stop n) z = ap summaries_among (w.all ∙ ap (λ e. book ACCEPTED None ∷ map called w.calls ++ closing b w.calls e) z) ∙ none_stopped b w.calls n

      go : Shape way input → summaries_among (lines way input) ≡ []
      go (whole f w) = by_end w (end_said input) refl
      go (refused_book n e) = ap summaries_among e
      go (too_long n e) = ap summaries_among e
