-- A call that stands in a text twice, one right after the other: the second line has the words of the first, and the other lines of calls are those of the
-- text without it. Assumes nothing.
use Prim.Native.Nat.{ℕ, suc, ◌-◌, ◌<◌}
use native.Mathlib.Omega.{arith}
use mathlib.Core.Path.{◌≡◌, sym, ap, ap₂, subst, ◌∙◌}
use mathlib.Core.List.{List, [], ◌∷◌, reverse}
use lib.ListN.{length, get_or, take}
use lib.Seq.{take-append_seam, get_or-append_seam}
use Rattle.numbers.specs.Refusals.{ACCEPTED}
use Rattle.pmtl.specs.Book.{Book, Rows}
use Rattle.pmtl.specs.Sets.{Way}
use Rattle.pmtl.specs.Calls.{Call, Outcome, call, after_in}
use Rattle.pmtl.specs.Again.{unchanged}
use Rattle.pmtl.proofs.Doubled.{doubled}
use Rattle.book.specs.declared.loading.Loading.{Loading}
use Rattle.book.specs.Loading.{way_in}
use Rattle.book.specs.Judging.{Loaded}
use Rattle.report.specs.Lines.{CallLine, called, line_of, lines}
use Rattle.slip.specs.Says.{sections_said, book_said, calls_said, end_said, first_calls, no_line, missing_call, closing, SaidTwice, Shape}
use Rattle.slip.specs.Says.Shape.{whole, refused_book, too_long}
use Rattle.slip.specs.TakenOut.{CallAt, TakenOut, without, unsummed}
use Rattle.slip.proofs.Places.{at_call, one_more, CalledLine, loads_as, shape}
use Rattle.slip.proofs.Sayings.{fit}
use Rattle.slip.proofs.Traces.{calls_are, lines_cut}

-- the line of an accepted call, by its number and the state that it left
accepted_line : (b : Book) (i j : ℕ) (o : Outcome) → o.number ≡ ACCEPTED
    → line_of b j (unchanged o.state) ≡ record { number = j; refusal = (line_of b i o).refusal; rest = (line_of b i o).rest }
unfolding line_of
accepted_line b i j o e = rw e

-- a call leaves the state that other calls left
abbrev Stays : Way → Rows → List Call → Call → Type 0
Stays w b ks k = (call b (after_in w b ks) k).state ≡ after_in w b ks

-- line i is that of an accepted call, and the text says that call again
module _ (way : Loading) (input : List ℕ) {i : ℕ} {l : CallLine} (c : CalledLine way input i l) (z : l.refusal ≡ ACCEPTED) (t : SaidTwice input i) where
  abbrev b : Book
  b = book_said way input

  abbrev k : Call
  k = get_or (calls_said input) c.others missing_call

  abbrev first : Outcome
  first = call b.rows (after_in (way_in way) b.rows (first_calls input c.others)) k

  first_accepted : first.number ≡ ACCEPTED
  unfolding line_of
  first_accepted = ap (λ (x : CallLine). x.refusal) c.is ∙ z

  calls_up_to : first_calls input i ≡ k ∷ first_calls input c.others
  calls_up_to = ap (first_calls input) c.place ∙ one_more (calls_said input) [] c.others c.said

  same_call : get_or (calls_said input) i missing_call ≡ k
  same_call = let e : i - 1 ≡ c.others = omega (arith, c.place) in t.same ∙ ap (λ n. get_or (calls_said input) n missing_call) e

  state_is : after_in (way_in way) b.rows (first_calls input i) ≡ first.state
  unfolding after_in
  state_is = ap (after_in (way_in way) b.rows) calls_up_to

  second : call b.rows (after_in (way_in way) b.rows (first_calls input i)) (get_or (calls_said input) i missing_call) ≡ unchanged first.state
  unfolding after_in
  second = ap₂ (λ ks x. call b.rows (after_in (way_in way) b.rows ks) x) calls_up_to same_call
      ∙ doubled (way_in way) b.rows (fit way (sections_said input)).ordered (first_calls input c.others) k first_accepted

  second_stays : Stays (way_in way) b.rows (first_calls input i) (get_or (calls_said input) i missing_call)
  second_stays = ap (λ (o : Outcome). o.state) second ∙ sym state_is

  -- the second line
  number_is : suc i ≡ suc l.number
  unfolding line_of
  number_is = ap suc (c.place ∙ ap (λ (x : CallLine). x.number) c.is)

  line_is : line_of b (suc i) (unchanged first.state) ≡ record { number = suc l.number; refusal = l.refusal; rest = l.rest }
  line_is = accepted_line b (suc c.others) (suc i) first first_accepted
      ∙ ap₂ (λ n (x : CallLine). record { number = n; refusal = x.refusal; rest = x.rest }) number_is c.is

  pub second_line : get_or (lines way input) (suc i) no_line ≡ called (record { number = suc l.number; refusal = l.refusal; rest = l.rest })
  second_line = go (shape way input)
    where
      go : Shape way input → get_or (lines way input) (suc i) no_line ≡ called (record { number = suc l.number; refusal = l.refusal; rest = l.rest })
      go (whole f w) =
          let h : i < length w.calls = omega (arith, w.each, t.there) in
          ap (λ ls. get_or ls (suc i) no_line) w.all ∙ at_call w.calls (closing b w.calls (end_said input)) i h
          ∙ ap called (w.in_order i h ∙ ap (line_of b (suc i)) second ∙ line_is)
      go (refused_book n e) = absurd (n c.loads)
      go (too_long n e) = absurd (omega (arith, c.fits))

  -- and the lines without it, but for the summaries, in which it is counted
  pub second_leaves_no_trace : (d : CallAt input (suc i)) {other : List ℕ} → TakenOut d other → unsummed (lines way other) ≡ unsummed (without (suc i) (lines way input))
  second_leaves_no_trace d out =
      let later = calls_are way d in
      let here : i ≡ length d.before = omega (arith, d.place) in
      let before-is : first_calls input i ≡ reverse d.before = ap₂ (λ n ks. reverse (take n ks)) here later ∙ ap reverse (take-append_seam d.before _) in
      let itself-is : get_or (calls_said input) i missing_call ≡ d.itself =
      ap₂ (λ n ks. get_or ks n missing_call) here later ∙ get_or-append_seam d.before d.itself _ missing_call in
      let loads = loads_as way input d.words in
      lines_cut way d c.fits (ap (λ (x : Loaded). x.number) (sym loads) ∙ c.loads)
      (subst (λ (x : Loaded). Stays (way_in way) x.book.rows (reverse d.before) d.itself) loads
      (subst (λ x. Stays (way_in way) b.rows (reverse d.before) x) itself-is
      (subst (λ ks. Stays (way_in way) b.rows ks (get_or (calls_said input) i missing_call)) before-is second_stays))) out
