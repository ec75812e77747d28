-- The runs of the instants that REFERENCE 3.5 defines, whatever a monitor keeps of them: canonical, and never reaching past the next addition. Assumes nothing.
use Prim.Native.Nat.{ℕ, ◌≤◌}
use native.Mathlib.Omega.{arith}
use mathlib.Core.Path.{◌≡◌, refl, ap, ◌∙◌}
use mathlib.Core.Bool.{Bool, true, false, not, ◌&&◌, ◌||◌}
use mathlib.Core.List.{[], ◌∷◌}
use Rattle.numset.specs.Runs.{run, Runs, has, Canonical, union}
use Rattle.numset.proofs.Union.{union_has, union_canonical}
use Rattle.numbers.specs.Limits.{LAST_TIME}
use Rattle.pmtl.specs.Book.{Range, start, stop, in_range, Row, Rows}
use Rattle.pmtl.specs.Book.Row.{never, always, atom, conj, disj, neg, implies, historically, once, since}
use Rattle.pmtl.specs.Calls.{History, now_of}
use Rattle.pmtl.specs.Meaning.{Fact, since_some, instants}
use Rattle.original.specs.Proper.{Fit}
use Rattle.original.proofs.Adding.{Reach, union_reach}
use Rattle.original.proofs.Ranges.{start_small, start_stop, stop_later}

-- clocks never fall, and none is above LAST-TIME
abbrev pub Clocks : Rows → History → Type 0
Clocks b [] = Unit {0}
Clocks b (s ∷ h) = ((now_of b h).clock ≤ s.clock) × (s.clock ≤ LAST_TIME) × Clocks b h

pub clock_small : (b : Rows) (h : History) → Clocks b h → (now_of b h).clock ≤ LAST_TIME
clock_small b [] l = omega arith
clock_small b (s ∷ h) l = l.1

-- the set stays or is dropped, and the range is added or is not
unfoldable pub stayed : Bool → Runs → Runs
stayed true s = s
stayed false s = []

unfoldable pub added : Bool → Range → ℕ → Runs → Runs
added true g c s = union (start g c) (stop g c) s
added false g c s = s

stayed_canonical : (k : Bool) (s : Runs) → Canonical s → Canonical (stayed k s)
unfolding stayed Canonical
stayed_canonical true s w = w
stayed_canonical false s w = tt

stayed_has : (k : Bool) (s : Runs) (t : ℕ) → has (stayed k s) t ≡ (k && has s t)
unfolding stayed has
stayed_has true s t = refl
stayed_has false s t = refl

stayed_reach : (k : Bool) (l u : ℕ) (s : Runs) → Reach l u s → Reach l u (stayed k s)
unfolding stayed
stayed_reach true l u s r = r
stayed_reach false l u s r = tt

added_canonical : (x : Bool) (g : Range) (c : ℕ) (s : Runs) → Canonical s → Canonical (added x g c s)
unfolding added
added_canonical true g c s w = union_canonical _ _ s w
added_canonical false g c s w = w

added_has : (x : Bool) (g : Range) (c : ℕ) (s : Runs) → Canonical s → (t : ℕ) → has (added x g c s) t ≡ (x && in_range g c t || has s t)
unfolding added
added_has true g c s w t = union_has _ _ s t w
added_has false g c s w t = refl

added_reach : (x : Bool) (g : Range) → Fit g → (c : ℕ) → c ≤ LAST_TIME → (s : Runs) → Canonical s → Reach (start g c) (stop g c) s → Reach (start g c) (stop g c) (added x g c s)
unfolding added
added_reach true g fit c h s w r = union_reach (start g c) (stop g c) (start_stop g fit c h) (start_small g fit c h) s w r
added_reach false g fit c h s w r = r

reach_on : (l u l' u' : ℕ) (s : Runs) → l ≤ l' → u ≤ u' → Reach l u s → Reach l' u' s
reach_on l u l' u' [] h k r = tt
reach_on l u l' u' (run a b ∷ rs) h k r = omega arith

module _ (g : Range) (f q : Fact) where
  -- the runs of `since_some`
  unfoldable pub since_runs : History → Runs
  since_runs [] = []
  since_runs (s ∷ h) = added (q (s ∷ h)) g s.clock (stayed (f (s ∷ h)) (since_runs h))

  pub since_canonical : (h : History) → Canonical (since_runs h)
  unfolding since_runs Canonical
  since_canonical [] = tt
  since_canonical (s ∷ h) = added_canonical (q (s ∷ h)) g s.clock _ (stayed_canonical (f (s ∷ h)) _ (since_canonical h))

  pub since_has : (h : History) (t : ℕ) → has (since_runs h) t ≡ since_some g f q h t
  unfolding since_runs since_some has
  since_has [] t = refl
  since_has (s ∷ h) t =
      added_has (q (s ∷ h)) g s.clock _ (stayed_canonical (f (s ∷ h)) _ (since_canonical h)) t
      ∙ ap (λ y. q (s ∷ h) && in_range g s.clock t || y) (stayed_has (f (s ∷ h)) (since_runs h) t ∙ ap (λ y. f (s ∷ h) && y) (since_has h t))

  -- no run begins after the next addition's start or ends after its stop
  pub since_reach : Fit g → (b : Rows) (h : History) → Clocks b h → (c : ℕ) → (now_of b h).clock ≤ c → c ≤ LAST_TIME → Reach (start g c) (stop g c) (since_runs h)
  unfolding since_runs
  since_reach fit b [] l c p k = tt
  since_reach fit b (s ∷ h) l c p k =
      reach_on (start g s.clock) (stop g s.clock) (start g c) (stop g c) (since_runs (s ∷ h)) (omega arith) (stop_later g fit s.clock c p)
      (added_reach (q (s ∷ h)) g fit s.clock l.1 (stayed (f (s ∷ h)) (since_runs h)) (stayed_canonical (f (s ∷ h)) _ (since_canonical h))
      (stayed_reach (f (s ∷ h)) (start g s.clock) (stop g s.clock) (since_runs h) (since_reach fit b h l.2 s.clock l.0 l.1)))

-- the runs of `instants`
unfoldable pub runs_of : Row Fact → History → Runs
runs_of never h = []
runs_of always h = []
runs_of (atom a) h = []
runs_of (conj fs) h = []
runs_of (disj fs) h = []
runs_of (neg f) h = []
runs_of (implies l r) h = []
runs_of (historically g f) h = since_runs g (λ k. true) (λ k. not (f k)) h
runs_of (once g f) h = since_runs g (λ k. true) f h
runs_of (since g l r) h = since_runs g l r h

pub runs_canonical : (row : Row Fact) (h : History) → Canonical (runs_of row h)
unfolding runs_of Canonical
runs_canonical never h = tt
runs_canonical always h = tt
runs_canonical (atom a) h = tt
runs_canonical (conj fs) h = tt
runs_canonical (disj fs) h = tt
runs_canonical (neg f) h = tt
runs_canonical (implies l r) h = tt
runs_canonical (historically g f) h = since_canonical g _ _ h
runs_canonical (once g f) h = since_canonical g _ _ h
runs_canonical (since g l r) h = since_canonical g _ _ h

pub runs_has : (row : Row Fact) (h : History) (t : ℕ) → has (runs_of row h) t ≡ instants row h t
unfolding runs_of instants has
runs_has never h t = refl
runs_has always h t = refl
runs_has (atom a) h t = refl
runs_has (conj fs) h t = refl
runs_has (disj fs) h t = refl
runs_has (neg f) h t = refl
runs_has (implies l r) h t = refl
runs_has (historically g f) h t = since_has g _ _ h t
runs_has (once g f) h t = since_has g _ _ h t
runs_has (since g l r) h t = since_has g _ _ h t
