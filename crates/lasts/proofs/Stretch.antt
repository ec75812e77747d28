-- One step of the lasting way does to a set what the calls that are put in and the call itself do to it, one by one. Assumes nothing.
use Prim.Native.Nat.{ℕ, suc, ◌+◌, ◌-◌, ◌≤◌, ◌<◌, min}
use native.Mathlib.Omega.{arith}
use mathlib.Core.Path.{◌≡◌, refl, sym, ap, ap₂, ◌∙◌}
use mathlib.Core.Logic.{⊎_elim}
use mathlib.Core.Bool.{Bool, true, false, not, ◌&&◌, ◌||◌, false≢true}
use mathlib.Core.List.{List, ◌∷◌, ◌++◌}
use Rattle.lists.proofs.Tests.{lt_or_ge}
use Rattle.numbers.specs.Limits.{MAX}
use Rattle.numset.specs.Runs.{Runs, has, within, Canonical}
use Rattle.pmtl.specs.Book.{Range, start, stop, in_range, Row, map_row, Rows, Below, Ordered, moves}
use Rattle.pmtl.specs.Book.Row.{never, always, atom, conj, disj, neg, implies, historically, once, since}
use Rattle.pmtl.specs.Flat.{flat_rule}
use Rattle.pmtl.specs.Sets.{firstly, lasted, set_rule_by}
use Rattle.pmtl.specs.Monitor.{Snap}
use Rattle.pmtl.specs.Calls.{History, now_of}
use Rattle.pmtl.specs.Meaning.{Fact, since_some, instants, meaning}
use Rattle.pmtl.specs.Past.{run}
use Rattle.pmtl.proofs.Still.{neither, still}
use Rattle.pmtl.proofs.Renewed.{lasted_has}
use Rattle.pmtl.proofs.History.{Legal, now_run, small_clock}
use Rattle.pmtl.proofs.Values.{values_mean}
use Rattle.lasts.specs.Flat.{Upward}
use Rattle.lasts.specs.Lasting.{ticks, filled}
use Rattle.lasts.proofs.Ticks.{ticks_since, ticks_now, ticks_legal}

un_not : (a : Bool) → not a ≡ true → a ≡ false
un_not true e = absurd (false≢true e)
un_not false e = refl

-- what a row that does not move with the clock means is the same where the atoms are
same_meaning : (b : Rows) → Ordered b → (h h' : History) → Legal b h → Legal b h' → (now_of b h).atoms ≡ (now_of b h').atoms
    → (r : ℕ) → moves b r ≡ false → meaning b r h ≡ meaning b r h'
same_meaning b w h h' l l' e r n =
    sym (values_mean b w r h l)
    ∙ still b w (run b h') (run b h) (rw (now_run b h, now_run b h') e) r n
    ∙ values_mean b w r h' l'

-- a snapshot that may follow a history: its clock is not lower, nor above MAX, and where time passes its atoms are the old ones
pub record Next (b : Rows) (h : History) (n : Snap) : Type 0 where
  pub up : (now_of b h).clock ≤ n.clock
  pub small : n.clock ≤ MAX
  pub lasts : (now_of b h).clock < n.clock → n.atoms ≡ (now_of b h).atoms

module _ (b : Rows) (h : History) (l : Legal b h) (n : Snap) (nx : Next b h n) where
  abbrev c₀ : ℕ
  c₀ = (now_of b h).clock

  abbrev c : ℕ
  c = n.clock

  -- the history after n, with the calls that are put in
  abbrev h' : History
  h' = n ∷ filled b h n

  pub next_legal : Legal b h'
  next_legal = let i = c - c₀ - 1 in
      (omega (arith, (ticks_now b h i).0, nx.up), nx.small, ticks_legal b h l i (omega (arith, nx.up, nx.small, small_clock b h l)))

  -- no time passes: nothing is put in
  none_put : c ≤ c₀ → filled b h n ≡ h
  unfolding ticks
  none_put m = let e : c - c₀ - 1 ≡ 0 = omega arith in ap (λ i. ticks (now_of b h) i ++ h) e

  -- time passes: n is as one call more at the next instant
  one_more : c₀ < c → h' ≡ ticks (now_of b h) (suc (c - c₀ - 1)) ++ h
  unfolding ticks
  one_more m = let e : c ≡ c₀ + suc (c - c₀ - 1) = omega arith in
      ap₂ (λ (x : ℕ) (a : List Bool). record { clock = x; atoms = a } ∷ filled b h n) e (nx.lasts m)

  -- a fact that is the same after each call that is put in as after n
  abbrev Steady : Fact → Type 0
  Steady f = (i : ℕ) → c₀ + suc i ≤ c → f (ticks (now_of b h) (suc i) ++ h) ≡ f h'

  module _ (g : Range) (le : g.lower ≤ g.upper) (f q : Fact) (fs : Steady f) (qs : Steady q) (t : ℕ) where
    since_some_lem : (x : Bool) → f h' ≡ true → q h' ≡ x → c₀ < c
        → since_some g f q h' t ≡ (x && within (start g (min (c₀ + 1) c)) (stop g c) t || since_some g f q h t)
    since_some_lem x ef eq m =
        let e : c₀ + suc (c - c₀ - 1) ≡ c = omega arith in
        let e' : c₀ + 1 ≡ min (c₀ + 1) c = omega arith in
        ap (λ (k : History). since_some g f q k t) (one_more m)
        ∙ ticks_since g le (now_of b h) h f q x t (c - c₀ - 1) (λ j k. (fs j (omega arith) ∙ ef, qs j (omega arith) ∙ eq))
        ∙ ap₂ (λ y z. x && within (start g y) (stop g z) t || since_some g f q h t) e' e

    since_none : (x : Bool) → f h' ≡ true → q h' ≡ x → c ≤ c₀
        → since_some g f q h' t ≡ (x && within (start g (min (c₀ + 1) c)) (stop g c) t || since_some g f q h t)
    unfolding since_some
    since_none x ef eq m =
        let e : c ≡ min (c₀ + 1) c = omega arith in
        ap₂ (λ y z. y && in_range g c t || z && since_some g f q (filled b h n) t) eq ef
        ∙ ap₂ (λ (y : ℕ) (z : History). x && within (start g y) (stop g c) t || since_some g f q z t) e (none_put m)

    -- Since, over the calls that are put in
    since_put : (k x : Bool) → f h' ≡ k → q h' ≡ x
        → since_some g f q h' t ≡ (x && within (start g (firstly c₀ k c)) (stop g c) t || k && since_some g f q h t)
    unfolding since_some
    since_put true x ef eq = ⊎_elim (since_some_lem x ef eq) (since_none x ef eq) (lt_or_ge c₀ c)
    since_put false x ef eq = ap₂ (λ y z. y && in_range g c t || z && since_some g f q (filled b h n) t) eq ef

  module _ (w : Ordered b) where
    -- a row that does not move with the clock is steady
    row_steady : (o : ℕ) → moves b o ≡ false → Steady (meaning b o)
    row_steady o e i m = same_meaning b w (ticks (now_of b h) (suc i) ++ h) h' (ticks_legal b h l (suc i) (omega (arith, nx.small))) next_legal
        ((ticks_now b h (suc i)).1 ∙ sym (nx.lasts (omega arith))) o e

    -- one step changes a row's set as the calls that are put in do
    module _ (r : ℕ) (v : ℕ → Bool) (below : (o : ℕ) → o < r → v o ≡ meaning b o h') (old : Runs) (ok : Canonical old) (t : ℕ) (near : c ≤ t) where
      one_set : (g : Range) → g.lower ≤ g.upper → (f q : Fact) → Steady f → Steady q → (k x : Bool) → f h' ≡ k → q h' ≡ x
          → has old t ≡ since_some g f q h t → has (lasted c₀ k x g c old) t ≡ since_some g f q h' t
      one_set g le f q fs qs k x ef eq e = lasted_has c₀ k x g c old ok t near
          ∙ ap (λ y. x && within (start g (firstly c₀ k c)) (stop g c) t || k && y) e
          ∙ sym (since_put g le f q fs qs t k x ef eq)

      pub row_put : (row : Row ℕ) → Below r row → flat_rule (map_row (moves b) row) ≡ true → Upward row
          → has old t ≡ instants (map_row (meaning b) row) h t → has (set_rule_by (lasted c₀) c old (map_row v row)) t ≡ instants (map_row (meaning b) row) h' t
      unfolding has set_rule_by instants flat_rule
      row_put never z p le e = refl
      row_put always z p le e = refl
      row_put (atom a) z p le e = refl
      row_put (conj os) z p le e = refl
      row_put (disj os) z p le e = refl
      row_put (neg o) z p le e = refl
      row_put (implies x y) z p le e = refl
      row_put (historically g o) z p le e = one_set g le (λ k. true) (λ k. not (meaning b o k)) (λ i m. refl) (λ i m. ap not (row_steady o (un_not (moves b o) p) i m))
          true (not (v o)) refl (ap not (sym (below o z))) e
      row_put (once g o) z p le e = one_set g le (λ k. true) (meaning b o) (λ i m. refl) (row_steady o (un_not (moves b o) p)) true (v o) refl (sym (below o z)) e
      row_put (since g x y) z p le e =
          let both = neither (moves b x) (moves b y) (un_not (moves b x || moves b y) p) in
          one_set g le (meaning b x) (meaning b y) (row_steady x both.0) (row_steady y both.1) (v x) (v y) (sym (below x z.0)) (sym (below y z.1)) e
