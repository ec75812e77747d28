-- Sets as calls renew them: canonical, and which instants they hold. Assumes nothing.
use Prim.Native.Nat.{ℕ, ◌+◌, ◌≤◌, min}
use native.Mathlib.Omega.{arith}
use mathlib.Core.Path.{◌≡◌, refl, ap, ◌∙◌}
use mathlib.Core.List.{[]}
use mathlib.Core.Bool.{Bool, true, false, not, ◌&&◌, ◌||◌, true≢false}
use Rattle.numset.specs.Runs.{Runs, has, within, kept, Canonical}
use Rattle.numset.proofs.Union.{union_has, union_canonical}
use Rattle.numset.proofs.Kept.{kept_canonical, kept_has}
use Rattle.pmtl.specs.Book.{Range, start, stop, in_range, Row}
use Rattle.pmtl.specs.Book.Row.{never, always, atom, conj, disj, neg, implies, historically, once, since}
use Rattle.pmtl.specs.Sets.{gone, stays_if, added_if, Renew, renewed, renewed_all, firstly, lasted, Way, ordinary, lasting, renewed_in, set_rule_by}
use Rattle.pmtl.proofs.Seams.{gone_none, kept_gone}

-- the set stays or is dropped
pub stays_canonical : (k : Bool) (s : Runs) → Canonical s → Canonical (stays_if k s)
unfolding stays_if Canonical
stays_canonical true s h = h
stays_canonical false s h = tt

stays_has : (k : Bool) (s : Runs) (t : ℕ) → has (stays_if k s) t ≡ (k && has s t)
unfolding stays_if has
stays_has true s t = refl
stays_has false s t = refl

-- the ranges are added or are not
added_canonical : (x : Bool) (g : Range) (from c : ℕ) (s : Runs) → Canonical s → Canonical (added_if x g from c s)
unfolding added_if
added_canonical true g from c s h = union_canonical _ _ s h
added_canonical false g from c s h = h

added_has : (x : Bool) (g : Range) (from c : ℕ) (s : Runs) → Canonical s → (t : ℕ)
    → has (added_if x g from c s) t ≡ (x && within (start g from) (stop g c) t || has s t)
unfolding added_if
added_has true g from c s h t = union_has _ _ s t h
added_has false g from c s h t = refl

-- a set that a call changes, counting from any instant: its instants are those of the ranges if they are added, and those of the set if it stays
module _ (k x : Bool) (g : Range) (from c : ℕ) (s : Runs) (h : Canonical s) where
  pub changed_canonical : Canonical (added_if x g from c (stays_if k (kept c s)))
  changed_canonical = added_canonical x g from c _ (stays_canonical k _ (kept_canonical c s h))

  changed_has : (t : ℕ) → c ≤ t → has (added_if x g from c (stays_if k (kept c s))) t ≡ (x && within (start g from) (stop g c) t || k && has s t)
  changed_has t l = added_has x g from c _ (stays_canonical k _ (kept_canonical c s h)) t
      ∙ ap (λ y. x && within (start g from) (stop g c) t || y) (stays_has k (kept c s) t ∙ ap (λ y. k && y) (kept_has c t s l))

-- in the ordinary way
pub renewed_canonical : (k x : Bool) (g : Range) (c : ℕ) (s : Runs) → Canonical s → Canonical (renewed k x g c s)
unfolding renewed
renewed_canonical k x g c s = changed_canonical k x g c c s

pub renewed_has : (k x : Bool) (g : Range) (c : ℕ) (s : Runs) → Canonical s → (t : ℕ) → c ≤ t
    → has (renewed k x g c s) t ≡ (x && in_range g c t || k && has s t)
unfolding renewed
renewed_has k x g c s = changed_has k x g c c s

-- where a state lasts
pub lasted_canonical : (before : ℕ) (k x : Bool) (g : Range) (c : ℕ) (s : Runs) → Canonical s → Canonical (lasted before k x g c s)
unfolding lasted
lasted_canonical before k x g c s = changed_canonical k x g (firstly before k c) c s

pub lasted_has : (before : ℕ) (k x : Bool) (g : Range) (c : ℕ) (s : Runs) → Canonical s → (t : ℕ) → c ≤ t
    → has (lasted before k x g c s) t ≡ (x && within (start g (firstly before k c)) (stop g c) t || k && has s t)
unfolding lasted
lasted_has before k x g c s = changed_has k x g (firstly before k c) c s

-- where no time passes the two ways are one
pub lasted_now : (before : ℕ) (k x : Bool) (g : Range) (c : ℕ) (s : Runs) → c ≤ before → lasted before k x g c s ≡ renewed k x g c s
unfolding lasted renewed
lasted_now before true x g c s l = let e : min (before + 1) c ≡ c = omega arith in ap (λ from. added_if x g from c (stays_if true (kept c s))) e
lasted_now before false x g c s l = refl

-- by any row's rule
pub renewed_now : (way : Way) (before c : ℕ) (s : Runs) → c ≤ before → (row : Row Bool) → set_rule_by (renewed_in way before) c s row ≡ set_rule_by renewed c s row
unfolding set_rule_by
renewed_now ordinary before c s l row = refl
renewed_now lasting before c s l never = refl
renewed_now lasting before c s l always = refl
renewed_now lasting before c s l (atom a) = refl
renewed_now lasting before c s l (conj vs) = refl
renewed_now lasting before c s l (disj vs) = refl
renewed_now lasting before c s l (neg v) = refl
renewed_now lasting before c s l (implies u v) = refl
renewed_now lasting before c s l (historically g v) = lasted_now before true (not v) g c s l
renewed_now lasting before c s l (once g v) = lasted_now before true v g c s l
renewed_now lasting before c s l (since g u v) = lasted_now before u v g c s l

-- a set that is gone stays so where nothing is added
pub renewed_gone : (k x : Bool) (g : Range) (c : ℕ) (s : Runs) → Canonical s → x ≡ false → gone c s ≡ true → gone c (renewed k x g c s) ≡ true
unfolding renewed added_if stays_if
renewed_gone k true g c s w h q = absurd (true≢false h)
renewed_gone true false g c s w h q = kept_gone c s w q
renewed_gone false false g c s w h q = gone_none c

-- what the theorems need of how sets are renewed: they stay canonical, and from the horizon on they have the instants of the range if it is
-- added and those of the set if it stays; the horizon is never above the clock, and never falls
pub record Lawful (renew : Renew) (horizon : ℕ → ℕ) : Type 0 where
  pub canonical : (k x : Bool) (g : Range) (c : ℕ) (s : Runs) → Canonical s → Canonical (renew k x g c s)
  pub members : (k x : Bool) (g : Range) (c : ℕ) (s : Runs) → Canonical s → (t : ℕ) → horizon c ≤ t
      → has (renew k x g c s) t ≡ (x && in_range g c t || k && has s t)
  pub now : (c : ℕ) → horizon c ≤ c
  pub later : (c d : ℕ) → c ≤ d → horizon c ≤ horizon d

-- as the monitor does it, from the clock on
pub renewed_lawful : Lawful renewed (λ c. c)
renewed_lawful = record { canonical = renewed_canonical; members = renewed_has; now = λ c. omega arith; later = λ c d h. h }

-- where everything is kept, from 0 on
pub all_lawful : Lawful renewed_all (λ c. 0)
unfolding renewed_all
all_lawful = record {
  canonical = λ k x g c s h. added_canonical x g c c _ (stays_canonical k s h);
  members = λ k x g c s h t l. added_has x g c c _ (stays_canonical k s h) t ∙ ap (λ y. x && in_range g c t || y) (stays_has k s t);
  now = λ c. omega arith;
  later = λ c d h. omega arith;
}

-- what is so of no runs and of every set that was renewed is so by the rule
pub rule_any : (P : Runs → Type 0) → P [] → (renew : Renew) (c : ℕ) (s : Runs) → ((k x : Bool) (g : Range) → P (renew k x g c s))
    → (row : Row Bool) → P (set_rule_by renew c s row)
unfolding set_rule_by
rule_any P e renew c s f never = e
rule_any P e renew c s f always = e
rule_any P e renew c s f (atom a) = e
rule_any P e renew c s f (conj vs) = e
rule_any P e renew c s f (disj vs) = e
rule_any P e renew c s f (neg v) = e
rule_any P e renew c s f (implies u v) = e
rule_any P e renew c s f (historically g v) = f true (not v) g
rule_any P e renew c s f (once g v) = f true v g
rule_any P e renew c s f (since g u v) = f u v g

pub rule_canonical : (renew : Renew) {horizon : ℕ → ℕ} → Lawful renew horizon → (c : ℕ) (old : Runs) → Canonical old → (row : Row Bool)
    → Canonical (set_rule_by renew c old row)
unfolding Canonical
rule_canonical renew lw c old ok = rule_any Canonical tt renew c old (λ k x g. lw.canonical k x g c old ok)
