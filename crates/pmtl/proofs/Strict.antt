-- A book in which no row can need more runs than a set may have is never refused a call for want of room. Assumes nothing.
use Prim.Native.Nat.{ℕ, zero, suc, ◌+◌, ◌*◌, ◌≤◌, ◌<◌, min, max}
use native.Mathlib.Omega.{arith}
use native.Mathlib.Nat.{le-div_iff_mul-le}
use mathlib.Core.Path.{◌≡◌, refl, ap}
use mathlib.Core.Logic.{◌⊎◌, inl, inr, ⊎_elim, ◌↔◌}
use mathlib.Core.Bool.{Bool, true, false, cond, not}
use mathlib.Core.List.{List, [], ◌∷◌}
use lib.ListN.{length}
use lib.Dec.{eqb}
use borrow.Author.Tests.{eqb-true, eqb-false, ltb-true, ltb-false}
use Rattle.numbers.specs.Limits.{MAX, MOST_RUNS}
use Rattle.lists.proofs.Tests.{either, lt_or_ge}
use Rattle.numset.specs.Runs.{run, Runs, Under, Canonical}
use Rattle.numset.proofs.Laws.{canonical_older}
use Rattle.pmtl.specs.Book.{Range, start, stop, Row, map_row, Rows, row_at, Ordered}
use Rattle.pmtl.specs.Book.Row.{never, always, atom, conj, disj, neg, implies, historically, once, since}
use Rattle.pmtl.specs.Sets.{renewed, ordinary, set_rule_by, set_rule}
use Rattle.pmtl.specs.Monitor.{Snap, set_at, value}
use Rattle.pmtl.specs.Calls.{Call, turns, refusal, call, after, History, now_of, onto, accepted}
use Rattle.pmtl.specs.Past.{run_by, run as ran}
use Rattle.pmtl.specs.Kept.{AllRuns, NoneBefore, Full, FullIn}
use Rattle.pmtl.specs.Strict.{stride, quotient, needed, needed_by, Strict, over, first_over, any_over}
use Rattle.pmtl.proofs.Table.{row_out}
use Rattle.pmtl.proofs.Answers.{set_fix}
use Rattle.pmtl.proofs.History.{Legal, initial_set, run_canonical}
use Rattle.pmtl.proofs.Values.{sets_mean}
use Rattle.pmtl.proofs.Calls.{Trail, trail}
use Rattle.pmtl.proofs.EachRun.{renewed_all_lem, kept_all}
use Rattle.pmtl.proofs.Cut.{more_length}
use Rattle.pmtl.proofs.Kept.{run_none_before, legal_first, legal_now, eleven_is}

-- ---- what is so of every run of a set, by its range and the clock
-- a run ends at MAX; or it is as long as the range at least, and ends no later than the range counted from the clock
record Spans (g : Range) (c l u : ℕ) : Type 0 where
  endless : eqb g.upper MAX ≡ true → u ≡ MAX
  proper : eqb g.upper MAX ≡ false → g.lower ≤ g.upper
  long : eqb g.upper MAX ≡ false → l + g.upper ≤ u + g.lower
  near : eqb g.upper MAX ≡ false → u ≤ c + g.upper

module _ (g : Range) where
  spans_joined : (c l u a b : ℕ) → Spans g c l u → Spans g c a b → Spans g c (min l a) (max u b)
  spans_joined c l u a b p q = record {
    endless = λ z. let x = p.endless z in let y = q.endless z in omega arith;
    proper = p.proper;
    long = λ z. let x = p.long z in let y = q.long z in omega arith;
    near = λ z. let x = p.near z in let y = q.near z in omega arith;
  }

  spans_later : (c d : ℕ) → c ≤ d → (l u : ℕ) → Spans g c l u → Spans g d l u
  spans_later c d h l u p =
      record { endless = p.endless; proper = p.proper; long = p.long; near = λ z. let x = p.near z in omega arith }

  stop_endless : (c : ℕ) → eqb g.upper MAX ≡ true → stop g c ≡ MAX
  unfolding stop
  stop_endless c z = rw z

  stop_finite : (c : ℕ) → eqb g.upper MAX ≡ false → stop g c ≡ c + g.upper
  unfolding stop
  stop_finite c z = rw z

  -- the range counted from the clock
  spans_new : (c : ℕ) → start g c ≤ stop g c → Spans g c (start g c) (stop g c)
  spans_new c h = record {
    endless = stop_endless c;
    proper = λ z. let e = stop_finite c z in omega arith;
    long = λ z. let e = stop_finite c z in omega arith;
    near = λ z. let e = stop_finite c z in omega arith;
  }

  -- ---- so there are few
  -- each run is as long as the range, and the next ends two before it: there is room for so many up to the last end
  long_runs : eqb g.upper MAX ≡ false → (c l u : ℕ) (rs : Runs) → Canonical (run l u ∷ rs) → NoneBefore c (run l u ∷ rs) → AllRuns (Spans g c) (run l u ∷ rs)
      → c + length rs * stride g ≤ u
  unfolding AllRuns Canonical Under
  long_runs z c l u [] w f h = omega arith
  long_runs z c l u (run a b ∷ rs) w f h =
      next (length rs) (long_runs z c a b rs (canonical_older l u (run a b ∷ rs) w) f.1 h.1) w.1.1 (h.0.long z) (h.0.proper z)
    where
      next : (n : ℕ) → c + n * stride g ≤ b → b + 1 < l → l + g.upper ≤ u + g.lower → g.lower ≤ g.upper → c + suc n * stride g ≤ u
      next n ih apart long le = omega arith

  few_finite : eqb g.upper MAX ≡ false → (c : ℕ) (s : Runs) → Canonical s → NoneBefore c s → AllRuns (Spans g c) s → length s ≤ quotient g + 1
  unfolding AllRuns
  few_finite z c [] w f h = omega arith
  few_finite z c (run l u ∷ rs) w f h =
      let m = beside (length rs * stride g) (long_runs z c l u rs w f h) (h.0.near z) in
      let d : length rs ≤ quotient g = (le-div_iff_mul-le {k = stride g} (omega arith)).1 m in
      omega arith
    where
      beside : (n : ℕ) → c + n ≤ u → u ≤ c + g.upper → n ≤ g.upper
      beside n x y = omega arith

  -- two runs cannot both end at MAX
  few_endless : eqb g.upper MAX ≡ true → (c : ℕ) (s : Runs) → Canonical s → AllRuns (Spans g c) s → length s ≤ 1
  unfolding AllRuns Canonical Under
  few_endless z c [] w h = omega arith
  few_endless z c (run l u ∷ []) w h = omega arith
  few_endless z c (run l u ∷ run a b ∷ rs) w h = let x = h.0.endless z in let y = h.1.0.endless z in omega arith

  few_runs : (c : ℕ) (s : Runs) → Canonical s → NoneBefore c s → AllRuns (Spans g c) s → length s ≤ needed g
  unfolding needed
  few_runs c s w f h =
      ⊎_elim (λ z. rw z (few_endless z c s w h)) (λ z. rw z (few_finite z c s w f h)) (either (eqb g.upper MAX))

  -- a call renews a set
  spans_renewed : (c d : ℕ) → c ≤ d → (k x : Bool) (s : Runs) → AllRuns (Spans g c) s → AllRuns (Spans g d) (renewed k x g d s)
  spans_renewed c d l k x s h = renewed_all_lem (Spans g d) (spans_joined d) k x g d s (spans_new d) (kept_all (Spans g c) (Spans g d) (spans_later c d l) d s h)

-- ---- the set of a row, from call to call
-- what is so of it by the kind of its row
Held : {X : Type 0} → Row X → ℕ → Runs → Type 0
Held never c s = s ≡ []
Held always c s = s ≡ []
Held (atom a) c s = s ≡ []
Held (conj xs) c s = s ≡ []
Held (disj xs) c s = s ≡ []
Held (neg x) c s = s ≡ []
Held (implies x y) c s = s ≡ []
Held (historically g x) c s = AllRuns (Spans g c) s
Held (once g x) c s = AllRuns (Spans g c) s
Held (since g x y) c s = AllRuns (Spans g c) s

held_first : {X : Type 0} (row : Row X) (c : ℕ) → Held row c []
unfolding AllRuns Held
held_first never c = refl
held_first always c = refl
held_first (atom a) c = refl
held_first (conj xs) c = refl
held_first (disj xs) c = refl
held_first (neg x) c = refl
held_first (implies x y) c = refl
held_first (historically g x) c = tt
held_first (once g x) c = tt
held_first (since g x y) c = tt

held_on : {X : Type 0} (row : Row X) (v : X → Bool) (c d : ℕ) → c ≤ d → (s : Runs) → Held row c s → Held row d (set_rule d s (map_row v row))
unfolding set_rule_by Held
held_on never v c d l s h = refl
held_on always v c d l s h = refl
held_on (atom a) v c d l s h = refl
held_on (conj xs) v c d l s h = refl
held_on (disj xs) v c d l s h = refl
held_on (neg x) v c d l s h = refl
held_on (implies x y) v c d l s h = refl
held_on (historically g x) v c d l s h = spans_renewed g c d l true (not (v x)) s h
held_on (once g x) v c d l s h = spans_renewed g c d l true (v x) s h
held_on (since g x y) v c d l s h = spans_renewed g c d l (v x) (v y) s h

held_few : {X : Type 0} (row : Row X) (c : ℕ) (s : Runs) → Canonical s → NoneBefore c s → Held row c s → length s ≤ needed_by row
unfolding needed_by Held
held_few never c s w f h = rw h (omega arith)
held_few always c s w f h = rw h (omega arith)
held_few (atom a) c s w f h = rw h (omega arith)
held_few (conj xs) c s w f h = rw h (omega arith)
held_few (disj xs) c s w f h = rw h (omega arith)
held_few (neg x) c s w f h = rw h (omega arith)
held_few (implies x y) c s w f h = rw h (omega arith)
held_few (historically g x) c s w f h = few_runs g c s w f h
held_few (once g x) c s w f h = few_runs g c s w f h
held_few (since g x y) c s w f h = few_runs g c s w f h

module _ (b : Rows) (w : Ordered b) where
  run_held : (h : History) → Legal b h → (r : ℕ) → Held (row_at b r) (now_of b h).clock (set_at (ran b h) r)
  unfolding run_by
  run_held [] l r = rw (initial_set ordinary b r) (held_first (row_at b r) 0)
  run_held (s ∷ h) l r = rw (set_fix b w (ran b h) s r)
      (held_on (row_at b r) (value b (ran b (s ∷ h))) (now_of b h).clock s.clock l.0 (set_at (ran b h) r) (run_held h l.2 r))

  run_few : (h : History) → Legal b h → (r : ℕ) → length (set_at (ran b h) r) ≤ needed_by (row_at b r)
  run_few h l r = held_few (row_at b r) (now_of b h).clock (set_at (ran b h) r) (run_canonical b h r) (run_none_before b h l r) (run_held h l r)

  -- in every book, after any calls: no set has more runs than its row can need
  pub runs_few : (calls : List Call) (r : ℕ) → length (set_at (after b calls) r) ≤ needed_by (row_at b r)
  runs_few calls r = rw (trail b calls).is (run_few (accepted b calls) (trail b calls).legal r)

  -- ---- a strict book
  module _ (strict : Strict b) where
    -- no calls can fill it
    pub never_full : (h : History) → Legal b h → Full b h → ⊥
    never_full h l f =
        let r = f.0 in
        let m = more_length MOST_RUNS (now_of b h).clock _ (set_at (ran b h) r) (run_canonical b h r) (run_none_before b h l r) (sets_mean b w r h l) f.1 in
        omega (arith, run_few h l r, strict r)

    never_in : (ns : List Snap) (h : History) → Legal b (onto ns h) → FullIn b h ns → ⊥
    unfolding onto
    never_in [] h l f = f
    never_in (n ∷ ns) h l (inl f) = never_full (n ∷ h) (legal_first b ns (n ∷ h) l) f
    never_in (n ∷ ns) h l (inr f) = never_in ns (n ∷ h) l f

    -- no call is ever refused with 11, whatever the calls before it
    pub never_eleven : (calls : List Call) (k : Call) → ¬ ((call b (after b calls) k).number ≡ 11)
    never_eleven calls k e =
        let f = (eleven_is b calls w k).0 e in
        never_in (turns (after b calls).now k) (accepted b calls) (legal (trail b calls) f) f.1
      where
        legal : Trail b calls (accepted b calls) → (refusal b (after b calls).now k ≡ 0) × FullIn b (accepted b calls) (turns (after b calls).now k)
            → Legal b (onto (turns (after b calls).now k) (accepted b calls))
        legal t = rw t.is (λ f. legal_now b w (accepted b calls) t.legal k f.0)

-- ---- the same in other words
-- a range is good for a strict book exactly if it is unbounded, or its quotient is at most 63
pub strict_range : (g : Range) → (needed g ≤ MOST_RUNS) ↔ ((g.upper ≡ MAX) ⊎ (quotient g ≤ 63))
unfolding needed
strict_range g = (to (either (eqb g.upper MAX)), fro (either (eqb g.upper MAX)))
  where
    to : (eqb g.upper MAX ≡ true) ⊎ (eqb g.upper MAX ≡ false) → needed g ≤ MOST_RUNS → (g.upper ≡ MAX) ⊎ (quotient g ≤ 63)
    to (inl z) h = inl (eqb-true g.upper MAX z)
    to (inr z) h = let k : quotient g + 1 ≤ MOST_RUNS = rw z at h in inr (omega arith)

    fro : (eqb g.upper MAX ≡ true) ⊎ (eqb g.upper MAX ≡ false) → (g.upper ≡ MAX) ⊎ (quotient g ≤ 63) → needed g ≤ MOST_RUNS
    fro (inl z) h = rw z (omega arith)
    fro (inr z) (inl h) = absurd (eqb-false g.upper MAX z h)
    fro (inr z) (inr h) = rw z (omega arith)

-- ---- the first row that can need more than a set may have
-- rows before r cannot, and r can, or there is none
pub first_over_lem : (b : Rows) (r : ℕ) → r ≤ length b → ((i : ℕ) → i < r → over (row_at b i) ≡ false) → (r < length b → over (row_at b r) ≡ true)
    → first_over b ≡ r
unfolding first_over
first_over_lem [] r n f g = omega arith
first_over_lem (row ∷ b) zero n f g = rw (g (omega arith))
first_over_lem (row ∷ b) (suc r) n f g = rw (f 0 (omega arith)) (ap suc (first_over_lem b r (omega arith) (λ i h. f (suc i) (omega arith)) (λ h. g (omega arith))))

pub first_can : (b : Rows) → first_over b < length b → over (row_at b (first_over b)) ≡ true
unfolding first_over
first_can [] h = absurd (omega arith)
first_can (row ∷ b) h = go (over row) refl h (first_can b)
  where
    go : (z : Bool) → over row ≡ z → cond z 0 (suc (first_over b)) < suc (length b) → (first_over b < length b → over (row_at b (first_over b)) ≡ true)
        → over (row_at (row ∷ b) (cond z 0 (suc (first_over b)))) ≡ true
    go true z l ih = z
    go false z l ih = ih (omega arith)

pub before_first : (b : Rows) (i : ℕ) → i < first_over b → over (row_at b i) ≡ false
unfolding first_over
before_first [] i h = absurd (omega arith)
before_first (row ∷ b) i h = go (over row) refl i h (before_first b)
  where
    go : (z : Bool) → over row ≡ z → (i : ℕ) → i < cond z 0 (suc (first_over b)) → ((j : ℕ) → j < first_over b → over (row_at b j) ≡ false)
        → over (row_at (row ∷ b) i) ≡ false
    go true z i l ih = absurd (omega arith)
    go false z zero l ih = z
    go false z (suc i) l ih = ih i (omega arith)

-- where there is none the book is strict
pub none_strict : (b : Rows) → any_over b ≡ false → Strict b
unfolding needed_by
none_strict b e r = ⊎_elim
    (λ l. ltb-false MOST_RUNS (needed_by (row_at b r)) (before_first b r (omega (arith, ltb-false (first_over b) (length b) e))))
    (λ l. rw (row_out b r l) (omega arith))
    (lt_or_ge r (length b))

-- and only there
pub some_not_strict : (b : Rows) → any_over b ≡ true → ¬ (Strict b)
some_not_strict b e s =
    let r = first_over b in
    omega (arith, s r, ltb-true MOST_RUNS (needed_by (row_at b r)) (first_can b (ltb-true r (length b) e)))
