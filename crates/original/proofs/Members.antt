-- What the original's set answers of runs turned round: `contains` is membership, `contains_unbounded_interval` is `covers`. Assumes nothing.
use Prim.Native.Nat.{ℕ, zero, suc, ◌≤◌, ◌<◌}
use native.Mathlib.Omega.{arith}
use native.Mathlib.Nat.{not-suc-le-zero, le_of_suc-le-suc}
use mathlib.Core.Path.{◌≡◌, refl, sym, ap, ◌∙◌}
use mathlib.Core.Logic.{⊎_elim}
use mathlib.Core.Bool.{Bool, true, false, cond, ◌&&◌, ◌||◌, or-false}
use mathlib.Core.List.{List, [], ◌∷◌, ◌++◌, append-nil}
use lib.ListN.{length}
use lib.Dec.{leb, ltb, eqb}
use borrow.Author.Tests.{le-leb, lt-leb, eq-eqb, ne_eqb}
use Rattle.numbers.specs.Limits.{MAX}
use Rattle.numset.specs.Runs.{Run, run, Runs, Under, Canonical, has, covers}
use Rattle.lists.proofs.Tests.{lt_or_ge}
use Rattle.numset.proofs.Laws.{under_has, canonical_older, newest_in, older_same}
use Rattle.numset.proofs.Covering.{covers_all, all_covers, covers_test, covers_short}
use Rattle.original.specs.Rust.{Found, later, is_some_and, index, last, binary_search_by_key}
use Rattle.original.specs.NumSet.{NumSet, lower_of, upper_of, contains, contains_at, contains_unbounded_interval}
use Rattle.original.specs.Rust.Ran.{done}
use Rattle.original.specs.Rust.Option.{Some}
use Rattle.original.specs.Rust.Found.{Ok, Err}
use Rattle.original.proofs.Searches.{turned, length_turned, turned_on, shifted, shifted_ok, shifted_err, found_later, found_here, found_not, passed}

-- a place to insert is at most the length: `self.0[i - 1]` is there
abbrev pub place : Found → ℕ
place (Ok i) = i
place (Err i) = i

pub search_fits : {A : Type 0} (xs : List A) (k : ℕ) (key : A → ℕ) → place (binary_search_by_key xs k key) ≤ length xs
unfolding binary_search_by_key
search_fits [] k key = omega arith
search_fits (x ∷ xs) k key = go (ltb (key x) k) (eqb (key x) k) (binary_search_by_key xs k key) (search_fits xs k key)
  where
    go : (a b : Bool) (f : Found) → place f ≤ length xs → place (cond a (later f) (cond b (Ok 0) (Err 0))) ≤ length (x ∷ xs)
    go true b (Ok i) h = omega arith
    go true b (Err i) h = omega arith
    go false true f h = omega arith
    go false false f h = omega arith

index_there : {A : Type 0} (xs : List A) (i : ℕ) → i < length xs → (x : A) × (index xs i ≡ done x)
unfolding index
index_there [] i h = absurd (not-suc-le-zero h)
index_there (x ∷ xs) zero h = (x, refl)
index_there (x ∷ xs) (suc i) h = index_there xs i (le_of_suc-le-suc h)

-- so `contains` never panics, whatever the set
pub contains_safe : (self : NumSet) (t : ℕ) → (x : Bool) × (contains self t ≡ done x)
unfolding contains contains_at
contains_safe self t = go (binary_search_by_key self t lower_of) (search_fits self t lower_of)
  where
    go : (f : Found) → place f ≤ length self → (x : Bool) × (contains_at self t f ≡ done x)
    go (Ok i) h = (true, refl)
    go (Err zero) h = (false, refl)
    go (Err (suc i)) h = let p = index_there self i (omega arith) in (leb t (upper_of p.0), rw p.1)

-- the pair at the seam of two lists
index_seam : (p q : NumSet) (r : Run) (n : ℕ) → length p ≡ n → index (p ++ (r ∷ q)) n ≡ done r
unfolding index
index_seam [] q r zero e = refl
index_seam [] q r (suc n) e = absurd (omega arith)
index_seam (x ∷ p) q r zero e = absurd (omega arith)
index_seam (x ∷ p) q r (suc n) e = index_seam p q r n (omega arith)

-- the newest run begins at t, or before t
module _ (a b t : ℕ) (rs : Runs) (ys : NumSet) (o : a ≤ b) (w : Under a rs) where
  at_lower : a ≡ t → contains (turned rs ++ (run a b ∷ ys)) t ≡ done true
  unfolding contains contains_at
  at_lower p = ap (contains_at (turned rs ++ (run a b ∷ ys)) t)
      (passed t lower_of (λ x y h k. omega arith) a rs (run a b ∷ ys) w (omega arith)
      ∙ ap (shifted (length rs)) (found_here (run a b) ys t lower_of p) ∙ shifted_ok (length rs) 0)

  over_lower : a < t → binary_search_by_key ys t lower_of ≡ Err 0 → contains (turned rs ++ (run a b ∷ ys)) t ≡ done (leb t b)
  unfolding contains contains_at
  over_lower p e =
      let step : shifted (length rs) (Err 1) ≡ Err (suc (length rs)) = shifted_err (length rs) 1 ∙ ap Err (omega arith) in
      ap (contains_at (turned rs ++ (run a b ∷ ys)) t)
      (passed t lower_of (λ x y h k. omega arith) a rs (run a b ∷ ys) w (omega arith)
      ∙ ap (shifted (length rs)) (found_later (run a b) ys t lower_of p ∙ ap later e) ∙ step)
      ∙ rw (index_seam (turned rs) ys (run a b) (length rs) (length_turned rs))

  has_over : a ≤ t → has (run a b ∷ rs) t ≡ leb t b
  unfolding has
  has_over p = rw (le-leb a t p, under_has a rs t w (omega arith)) (or-false (leb t b))

-- with pairs behind them that all begin after t
contains_on : (t : ℕ) (s : Runs) (ys : NumSet) → Canonical s → binary_search_by_key ys t lower_of ≡ Err 0 → contains (turned s ++ ys) t ≡ done (has s t)
unfolding Canonical contains contains_at has turned
contains_on t [] ys w e = rw (e, contains)
contains_on t (run a b ∷ rs) ys w e =
    ap (λ (x : NumSet). contains x t) (turned_on (run a b) rs ys)
    ∙ ⊎_elim
    (λ p. contains_on t rs (run a b ∷ ys) (canonical_older a b rs w) (found_not (run a b) ys t lower_of p) ∙ ap done (sym (older_same a b rs t p)))
    (λ p. ⊎_elim
    (λ q. over_lower a b t rs ys w.0 w.1 q e ∙ ap done (sym (has_over a b t rs ys w.0 w.1 p)))
    (λ q. at_lower a b t rs ys w.0 w.1 (omega arith) ∙ ap done (sym (newest_in a b rs t p (omega arith))))
    (lt_or_ge a t))
    (lt_or_ge t a)

-- `contains` is membership
pub contains_has : (t : ℕ) (s : Runs) → Canonical s → contains (turned s) t ≡ done (has s t)
unfolding binary_search_by_key
contains_has t s w = ap (λ (x : NumSet). contains x t) (sym (append-nil (turned s))) ∙ contains_on t s [] w refl

-- the last pair is the newest run
last_on : (xs : NumSet) (r : Run) → last (xs ++ (r ∷ [])) ≡ Some r
unfolding last
last_on [] r = refl
last_on (x ∷ []) r = refl
last_on (x ∷ y ∷ xs) r = last_on (y ∷ xs) r

-- runs that end before MAX do not cover
short : (from top : ℕ) (rs : Runs) → Under top rs → top ≤ MAX → covers from rs ≡ false
unfolding Under covers
short from top [] w h = refl
short from top (run l u ∷ rs) w h = covers_short from l u rs (omega arith) ∙ short from l rs w.2 (omega arith)

-- `contains_unbounded_interval` is `covers`, of a set with no instant after MAX
same_end : (u : ℕ) → u ≤ MAX → eqb u MAX ≡ leb MAX u
same_end u h =
    ⊎_elim
    (λ p. ne_eqb u MAX (λ e. omega arith) ∙ sym (lt-leb MAX u p))
    (λ p. eq-eqb u MAX (omega arith) ∙ sym (le-leb MAX u p))
    (lt_or_ge u MAX)

pub unbounded_covers : (from l u : ℕ) (rs : Runs) → Canonical (run l u ∷ rs) → u ≤ MAX
    → contains_unbounded_interval (turned (run l u ∷ rs)) from ≡ covers from (run l u ∷ rs)
unfolding Canonical contains_unbounded_interval covers turned
unbounded_covers from l u rs w h =
    ap (λ x. is_some_and x (λ p. leb (lower_of p) from && eqb (upper_of p) MAX)) (last_on (turned rs) (run l u))
    ∙ ap (λ x. leb l from && x) (same_end u h)
    ∙ sym (ap (λ x. leb l from && leb MAX u || x) (short from l rs w.1 (omega arith)) ∙ or-false (leb l from && leb MAX u))

-- two canonical sets with the same instants from c on cover alike
pub covers_alike : (c : ℕ) (s s' : Runs) → Canonical s → Canonical s' → c ≤ MAX → ((t : ℕ) → c ≤ t → has s t ≡ has s' t) → covers c s ≡ covers c s'
covers_alike c s s' w v m e = covers_test c s' (covers c s) v m
    (λ h t x y. sym (e t x) ∙ covers_all c s h t x y, λ h. all_covers c s w m (λ t x y. e t x ∙ h t x y))
