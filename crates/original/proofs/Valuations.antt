-- `valuation` of the tree of a row is the row's early answer. Assumes nothing.
use Prim.Native.Nat.{ℕ, ◌≤◌, ◌<◌}
use native.Mathlib.Omega.{arith}
use mathlib.Core.Path.{◌≡◌, refl, sym, ap, ◌∙◌}
use mathlib.Core.Logic.{⊎_elim}
use mathlib.Core.Bool.{Bool, true, false, cond, not, ◌&&◌, ◌||◌}
use mathlib.Core.List.{List, [], ◌∷◌, map}
use lib.ListN.{length}
use borrow.Author.Tests.{le-leb, lt-leb, eq-eqb, ne_eqb}
use Rattle.numbers.specs.Limits.{MAX}
use Rattle.numset.specs.Runs.{run, Runs, covers, Canonical}
use Rattle.lists.proofs.Tests.{lt_or_ge}
use Rattle.pmtl.specs.declared.Answer.{Answer}
use Rattle.pmtl.specs.declared.Answer.TheVariants.{False, True, Open}
use Rattle.pmtl.specs.Answer.{is_true, is_false, is_open, reversed, known, decided}
use Rattle.pmtl.specs.Book.{Range, start, stop, Row, map_row, Rows, row_at, AllBelow, Below, Ordered, every, some}
use Rattle.pmtl.specs.Book.Row.{never, always, atom, conj, disj, neg, implies, historically, once, since}
use Rattle.pmtl.specs.Monitor.{Snap, set_at}
use Rattle.pmtl.specs.Early.{from_now, early_rule, early}
use Rattle.pmtl.specs.Calls.{History, now_of}
use Rattle.pmtl.specs.Meaning.{Fact, meaning}
use Rattle.pmtl.proofs.Table.{by_rows}
use Rattle.pmtl.proofs.Answers.{early_fix}
use Rattle.pmtl.specs.Past.{run as state_after}
use Rattle.pmtl.proofs.History.{Legal, now_run, run_canonical}
use Rattle.pmtl.proofs.Values.{sets_mean}
use Rattle.original.specs.Rust.{Option, mapped, is_some_and, and_then, or_else, then_some, last}
use Rattle.original.specs.TimeRange.{contains_zero}
use Rattle.original.specs.NumSet.{NumSet, contains_unbounded_interval}
use Rattle.original.specs.ValPmtl.{ValPmtl, valuation, try_fold_and, try_fold_or}
use Rattle.original.specs.Proper.{Fit, RowFit, Fits}
use Rattle.original.specs.Agrees.{vals, tree_rule, option_of}
use Rattle.original.specs.Rust.Option.{None, Some}
use Rattle.original.proofs.Searches.{turned}
use Rattle.original.proofs.Adding.{Reach}
use Rattle.original.proofs.Members.{unbounded_covers, covers_alike}
use Rattle.original.proofs.Ranges.{stop_max}
use Rattle.original.proofs.Fulls.{Clocks, clock_small, since_runs, since_canonical, since_reach, runs_of, runs_canonical, runs_has}
use Rattle.original.proofs.Grown.{set_of, grown, grown_fix}

-- ---- the rules, on answers
-- `range.contains(&0)` is that lower is 0
zero_is : (g : Range) → contains_zero g ≡ from_now g
zero_is g =
    ⊎_elim
    (λ p. rw (lt-leb g.lower 0 p, ne_eqb g.lower 0 (λ e. omega arith)))
    (λ p. rw (le-leb g.lower 0 p, eq-eqb g.lower 0 (omega arith)) (le-leb 0 g.upper (omega arith)))
    (lt_or_ge 0 g.lower)

mapped_not : (x : Answer) → mapped not (option_of x) ≡ option_of (reversed x)
mapped_not False = refl
mapped_not True = refl
mapped_not Open = refl

implies_same : (l r : Answer)
    → cond (is_some_and (option_of r) (λ b. b) || is_some_and (option_of l) (λ b. not b)) (Some true)
    (cond (is_some_and (option_of r) (λ b. not b) && is_some_and (option_of l) (λ b. b)) (Some false) None)
    ≡ option_of (decided (is_true r || is_false l) (is_false r && is_true l))
implies_same False False = refl
implies_same True False = refl
implies_same Open False = refl
implies_same False True = refl
implies_same True True = refl
implies_same Open True = refl
implies_same False Open = refl
implies_same True Open = refl
implies_same Open Open = refl

historically_same : (x : Answer) (zero covers : Bool)
    → or_else (and_then (option_of x) (λ v. then_some (zero || v) v)) (then_some covers false)
    ≡ option_of (cond (is_true x) True (cond (is_false x && zero) False (cond covers False Open)))
historically_same False true covers = refl
historically_same False false true = refl
historically_same False false false = refl
historically_same True true covers = refl
historically_same True false covers = refl
historically_same Open zero true = refl
historically_same Open zero false = refl

once_same : (x : Answer) (zero covers : Bool)
    → or_else (and_then (option_of x) (λ v. then_some (zero || not v) v)) (then_some covers true)
    ≡ option_of (cond (is_false x) False (cond (is_true x && zero) True (cond covers True Open)))
once_same True true covers = refl
once_same True false true = refl
once_same True false false = refl
once_same False true covers = refl
once_same False false covers = refl
once_same Open zero true = refl
once_same Open zero false = refl

left_same : (l : Answer) (zero : Bool) → and_then (option_of l) (λ v. then_some (zero || v) v) ≡ option_of (decided (is_true l) (is_false l && zero))
left_same False true = refl
left_same False false = refl
left_same True true = refl
left_same True false = refl
left_same Open zero = refl

since_same : (l r : Answer) (zero covers : Bool)
    → cond (is_some_and (option_of r) (λ b. not b)) (Some false) (cond covers (and_then (option_of l) (λ v. then_some (zero || v) v)) None)
    ≡ option_of (cond (is_false r) False (cond covers (decided (is_true l) (is_false l && zero)) Open))
since_same l False zero covers = refl
since_same l True zero true = left_same l zero
since_same l True zero false = refl
since_same l Open zero true = left_same l zero
since_same l Open zero false = refl

-- one more operand, where `opens` and `holds` are of those after it
and_same : (x : Answer) (b opens holds : Bool) (more : Bool → Option Bool) → ((b : Bool) → more b ≡ option_of (cond opens Open (known (b && holds))))
    → and_then (mapped (λ v. b && v) (option_of x)) more ≡ option_of (cond (is_open x || opens) Open (known (b && (is_true x && holds))))
and_same False true opens holds more e = e false
and_same False false opens holds more e = e false
and_same True true opens holds more e = e true
and_same True false opens holds more e = e false
and_same Open b opens holds more e = refl

or_same : (x : Answer) (b opens holds : Bool) (more : Bool → Option Bool) → ((b : Bool) → more b ≡ option_of (cond opens Open (known (b || holds))))
    → and_then (mapped (λ v. b || v) (option_of x)) more ≡ option_of (cond (is_open x || opens) Open (known (b || (is_true x || holds))))
or_same False true opens holds more e = e true
or_same False false opens holds more e = e false
or_same True true opens holds more e = e true
or_same True false opens holds more e = e true
or_same Open b opens holds more e = refl

-- ---- a row, by its operands and by whether its set covers
module _ (r : ℕ) (tree : ℕ → ValPmtl) (a : ℕ → Answer) (c : ℕ) (below : (o : ℕ) → o < r → valuation (tree o) c ≡ option_of (a o)) where
  fold_and : (os : List ℕ) → AllBelow r os → (b : Bool)
      → try_fold_and (vals (map tree os)) b c ≡ option_of (cond (some is_open (map a os)) Open (known (b && every is_true (map a os))))
  unfolding try_fold_and vals some every
  fold_and [] w true = refl
  fold_and [] w false = refl
  fold_and (o ∷ os) w b = rw (below o w.0) (and_same (a o) b _ _ (λ x. try_fold_and (vals (map tree os)) x c) (fold_and os w.1))

  fold_or : (os : List ℕ) → AllBelow r os → (b : Bool)
      → try_fold_or (vals (map tree os)) b c ≡ option_of (cond (some is_open (map a os)) Open (known (b || some is_true (map a os))))
  unfolding try_fold_or vals some
  fold_or [] w true = refl
  fold_or [] w false = refl
  fold_or (o ∷ os) w b = rw (below o w.0) (or_same (a o) b _ _ (λ x. try_fold_or (vals (map tree os)) x c) (fold_or os w.1))

  valuation_row : (atoms : List Bool) (set : NumSet) (covers : Bool) → contains_unbounded_interval set c ≡ covers → (row : Row ℕ) → Below r row
      → valuation (tree_rule atoms set (map_row tree row)) c ≡ option_of (early_rule covers (map_row a row))
  unfolding valuation tree_rule early_rule
  valuation_row atoms set covers e never w = refl
  valuation_row atoms set covers e always w = refl
  valuation_row atoms set covers e (atom n) w = refl
  valuation_row atoms set covers e (conj os) w = fold_and os w true
  valuation_row atoms set covers e (disj os) w = fold_or os w false
  valuation_row atoms set covers e (neg o) w = ap (mapped not) (below o w) ∙ mapped_not (a o)
  valuation_row atoms set covers e (implies x y) w = rw (below x w.0, below y w.1) (implies_same (a x) (a y))
  valuation_row atoms set covers e (historically g o) w = rw (below o w, e, zero_is g) (historically_same (a o) (from_now g) covers)
  valuation_row atoms set covers e (once g o) w = rw (below o w, e, zero_is g) (once_same (a o) (from_now g) covers)
  valuation_row atoms set covers e (since g x y) w = rw (below x w.0, below y w.1, e, zero_is g) (since_same (a x) (a y) (from_now g) covers)

-- ---- whether its set covers
unbounded : (c l u : ℕ) (s : Runs) → Canonical s → Reach l u s → u ≤ MAX → contains_unbounded_interval (turned s) c ≡ covers c s
unfolding contains_unbounded_interval turned last covers
unbounded c l u [] w r h = refl
unbounded c l u (run a e ∷ rs) w r h = unbounded_covers c a e rs w (omega arith)

module _ (b : Rows) (h : History) (l : Clocks b h) (m : ℕ → Fact) (c : ℕ) where
  since_unbounded : (g : Range) → Fit g → (f q : Fact) → contains_unbounded_interval (turned (since_runs g f q h)) c ≡ covers c (since_runs g f q h)
  since_unbounded g fit f q =
      let now : ℕ = (now_of b h).clock in
      unbounded c (start g now) (stop g now) (since_runs g f q h) (since_canonical g f q h) (since_reach g f q fit b h l now (omega arith) (clock_small b h l))
      (stop_max g fit now (clock_small b h l))

  row_unbounded : (row : Row ℕ) → RowFit row → contains_unbounded_interval (turned (runs_of (map_row m row) h)) c ≡ covers c (runs_of (map_row m row) h)
  unfolding runs_of contains_unbounded_interval turned last covers
  row_unbounded never fit = refl
  row_unbounded always fit = refl
  row_unbounded (atom a) fit = refl
  row_unbounded (conj os) fit = refl
  row_unbounded (disj os) fit = refl
  row_unbounded (neg o) fit = refl
  row_unbounded (implies x y) fit = refl
  row_unbounded (historically g o) fit = since_unbounded g fit _ _
  row_unbounded (once g o) fit = since_unbounded g fit _ _
  row_unbounded (since g x y) fit = since_unbounded g fit _ _

pub legal : (b : Rows) (h : History) → Clocks b h → Legal b h
legal b [] l = tt
legal b (s ∷ h) l = (l.0, omega arith, legal b h l.2)

module _ (b : Rows) (w : Ordered b) (fit : Fits b) (h : History) (l : Clocks b h) where
  clock : ℕ
  clock = (now_of b h).clock

  -- as the set that our monitor keeps covers: both have the same instants from the clock on, and the original all before it, too
  covers_same : (r : ℕ) → contains_unbounded_interval (set_of b h r) clock ≡ covers (state_after b h).now.clock (set_at (state_after b h) r)
  unfolding clock
  covers_same r =
      let row : Row Fact = map_row (meaning b) (row_at b r) in
      row_unbounded b h l (meaning b) clock (row_at b r) (fit r)
      ∙ covers_alike clock (runs_of row h) (set_at (state_after b h) r) (runs_canonical row h) (run_canonical b h r) (omega (arith, clock_small b h l))
      (λ t near. runs_has row h t ∙ sym (sets_mean b w r h (legal b h l) t near))
      ∙ ap (λ (s : Snap). covers s.clock (set_at (state_after b h) r)) (sym (now_run b h))

  pub valuation_grown : (r : ℕ) → r < length b → valuation (grown b h r) (now_of b h).clock ≡ option_of (early b (state_after b h) r)
  unfolding clock
  valuation_grown = by_rows (λ r. r < length b → valuation (grown b h r) clock ≡ option_of (early b (state_after b h) r)) λ r below k.
      ap (λ v. valuation v clock) (grown_fix b w h r)
      ∙ valuation_row r (grown b h) (early b (state_after b h)) clock (λ o j. below o j (omega arith)) (now_of b h).atoms (set_of b h r) _ (covers_same r) (row_at b r) (w r)
      ∙ ap option_of (sym (early_fix b w (state_after b h) r k))
