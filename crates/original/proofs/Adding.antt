-- The key to it all: an addition that starts nowhere before the newest run and ends nowhere before it never meets the fault, and is our union. Assumes nothing.
use Prim.Native.Nat.{ℕ, ◌+◌, ◌-◌, ◌≤◌, ◌<◌, min, max}
use native.Mathlib.Omega.{arith}
use mathlib.Core.Path.{◌≡◌, refl, sym, ap, ap₂, ◌∙◌}
use mathlib.Core.Logic.{⊎_elim}
use mathlib.Core.List.{[], ◌∷◌, ◌++◌, append-nil}
use lib.ListN.{length, length-append}
use lib.Seq.{take_at, drop_at}
use borrow.Author.Tests.{le-ltb, le-leb, eq-eqb, ne_eqb}
use Rattle.numbers.specs.Limits.{MAX}
use Rattle.numset.specs.Runs.{run, Runs, Under, Canonical, insert, union}
use Rattle.lists.proofs.Tests.{lt_or_ge}
use Rattle.numset.proofs.Union.{union_some, insert_past, insert_join}
use Rattle.original.specs.Rust.{Ran, Found, saturating_add, index, binary_search_by_key}
use Rattle.original.specs.TimeRange.{◌to◌}
use Rattle.original.specs.NumSet.{NumSet, lower_of, upper_of, add_assign, first_then, ok_then, err_then}
use Rattle.original.specs.Rust.Ran.{done}
use Rattle.original.specs.Rust.Found.{Ok, Err}
use Rattle.original.proofs.Searches.{turned, length_turned, shifted, shifted_ok, shifted_err, found_later, found_here, found_not, passed}

-- no run begins after l and none ends after u: so the newest, which is the last
abbrev pub Reach : ℕ → ℕ → Runs → Type 0
Reach l u [] = Unit {0}
Reach l u (run a b ∷ rs) = (a ≤ l) × (b ≤ u)

module _ (l u : ℕ) (ordered : l ≤ u) (small : l < MAX) where
  -- the newest run ends more than one before l: a new run
  union_apart : (a b : ℕ) (rs : Runs) → a ≤ b → b + 1 < l → union l u (run a b ∷ rs) ≡ run l u ∷ run a b ∷ rs
  union_apart a b rs h k = union_some l u (run a b ∷ rs) ordered ∙ insert_past l u a b rs (omega arith) k

  -- else it is made longer
  insert_under : (a v : ℕ) (rs : Runs) → a ≤ v → Under a rs → insert a v rs ≡ run a v ∷ rs
  unfolding insert Under
  insert_under a v [] h w = refl
  insert_under a v (run c d ∷ rs) h w = insert_past a v c d rs (omega arith) w.1

  union_longer : (a b : ℕ) (rs : Runs) → a ≤ b → Under a rs → a ≤ l → b ≤ u → l ≤ b + 1 → union l u (run a b ∷ rs) ≡ run a u ∷ rs
  union_longer a b rs o w h k j =
      let p : min l a ≡ a = omega arith in
      let q : max u b ≡ u = omega arith in
      union_some l u (run a b ∷ rs) ordered ∙ insert_join l u a b rs (omega arith) j ∙ rw (p, q) (insert_under a u rs (omega arith) w)

  first_ok : (p q : NumSet) (i : ℕ) → length p ≡ i
      → first_then (p ++ q) l u (Ok i) ≡ ok_then p u q (binary_search_by_key q (saturating_add u 1) lower_of)
  unfolding first_then
  first_ok p q i e = rw (le-leb i (length (p ++ q)) (omega (arith, length-append p q)), take_at p q i e, drop_at p q i e)

  first_err : (p q : NumSet) (i : ℕ) → length p ≡ i
      → first_then (p ++ q) l u (Err i) ≡ err_then p (length (p ++ q)) l u i q (binary_search_by_key q (saturating_add u 1) lower_of)
  unfolding first_then
  first_err p q i e = rw (le-leb i (length (p ++ q)) (omega (arith, length-append p q)), take_at p q i e, drop_at p q i e)

  first_all : (p : NumSet) (i : ℕ) → length p ≡ i → first_then p l u (Err i) ≡ done (p ++ (run l u ∷ []))
  unfolding err_then binary_search_by_key
  first_all p i e =
      ap (λ (s : NumSet). first_then s l u (Err i)) (sym (append-nil p))
      ∙ first_err p [] i e
      ∙ rw (eq-eqb i (length (p ++ [])) (omega (arith, length-append p [])), err_then) (ap done (append-nil (p ++ (run l u ∷ []))))

  -- the second search stands on the newest run alone, or on nothing
  over : (a b : ℕ) → a ≤ l → binary_search_by_key (run a b ∷ []) (saturating_add u 1) lower_of ≡ Err 1
  unfolding binary_search_by_key
  over a b h = found_later (run a b) [] (saturating_add u 1) lower_of (omega arith)

  module _ (a b : ℕ) (rs : Runs) (o : a ≤ b) (w : Under a rs) (h : a ≤ l) (k : b ≤ u) where
    self : NumSet
    self = turned rs ++ (run a b ∷ [])

    -- what the first search finds
    first : Found → Ran NumSet
    first f = first_then self l u f

    opened : add_assign self (l to u) ≡ first (shifted (length rs) (binary_search_by_key (run a b ∷ []) (l - 1) upper_of))
    unfolding add_assign self first
    opened = rw (le-ltb u l ordered, add_assign) (ap (first_then (turned rs ++ (run a b ∷ [])) l u)
        (passed (l - 1) upper_of (λ x y p q. q) a rs (run a b ∷ []) w (omega arith)))

    apart : b + 1 < l → add_assign self (l to u) ≡ done (self ++ (run l u ∷ []))
    unfolding self first binary_search_by_key
    apart p = opened
        ∙ ap first (ap (shifted (length rs)) (found_later (run a b) [] (l - 1) upper_of (omega arith)) ∙ shifted_err (length rs) 1)
        ∙ first_all self (length rs + 1) (length-append (turned rs) (run a b ∷ []) ∙ ap (λ n. n + 1) (length_turned rs))

    longer_ok : b ≡ l - 1 → add_assign self (l to u) ≡ done ((turned rs ++ (run a (max u b) ∷ [])) ++ [])
    unfolding self first ok_then index
    longer_ok p = opened
        ∙ ap first (ap (shifted (length rs)) (found_here (run a b) [] (l - 1) upper_of p) ∙ shifted_ok (length rs) 0)
        ∙ first_ok (turned rs) (run a b ∷ []) (length rs + 0) (omega (arith, length_turned rs))
        ∙ ap (ok_then (turned rs) u (run a b ∷ [])) (over a b h)

    longer_err : l - 1 < b → add_assign self (l to u) ≡ done ((turned rs ++ (run (min l a) (max u b) ∷ [])) ++ [])
    unfolding self first err_then index
    longer_err p = opened
        ∙ ap first (ap (shifted (length rs)) (found_not (run a b) [] (l - 1) upper_of p) ∙ shifted_err (length rs) 0)
        ∙ first_err (turned rs) (run a b ∷ []) (length rs + 0) (omega (arith, length_turned rs))
        ∙ ap (err_then (turned rs) (length (turned rs ++ (run a b ∷ []))) l u (length rs + 0) (run a b ∷ [])) (over a b h)
        ∙ rw (ne_eqb (length rs + 0) (length (turned rs ++ (run a b ∷ []))) (λ e. omega (arith, length-append (turned rs) (run a b ∷ []), length_turned rs)), err_then)

    longer : l ≤ b + 1 → add_assign self (l to u) ≡ done (turned (run a u ∷ rs))
    unfolding turned
    longer p =
        let e : max u b ≡ u = omega arith in
        let f : min l a ≡ a = omega arith in
        ⊎_elim
        (λ q. longer_err q ∙ ap done (append-nil _ ∙ ap₂ (λ x y. turned rs ++ (run x y ∷ [])) f e))
        (λ q. longer_ok (omega arith) ∙ ap done (append-nil _ ∙ ap (λ y. turned rs ++ (run a y ∷ [])) e))
        (lt_or_ge (l - 1) b)

  to_none : add_assign [] (l to u) ≡ done (run l u ∷ [])
  unfolding add_assign binary_search_by_key
  to_none = rw (le-ltb u l ordered, add_assign) (first_all [] 0 refl)

  -- THE KEY: the addition is our union, and its runs reach no further than it does
  pub add_union : (s : Runs) → Canonical s → Reach l u s → add_assign (turned s) (l to u) ≡ done (turned (union l u s))
  unfolding Canonical turned self insert
  add_union [] w r = to_none ∙ ap (λ (x : Runs). done (turned x)) (sym (union_some l u [] ordered))
  add_union (run a b ∷ rs) w r =
      ⊎_elim
      (λ p. apart a b rs w.0 w.1 r.0 r.1 p ∙ ap (λ (x : Runs). done (turned x)) (sym (union_apart a b rs w.0 p)))
      (λ p. longer a b rs w.0 w.1 r.0 r.1 p ∙ ap (λ (x : Runs). done (turned x)) (sym (union_longer a b rs w.0 w.1 r.0 r.1 p)))
      (lt_or_ge (b + 1) l)

  pub union_reach : (s : Runs) → Canonical s → Reach l u s → Reach l u (union l u s)
  unfolding Canonical insert
  union_reach [] w r = rw (union_some l u [] ordered) (omega arith)
  union_reach (run a b ∷ rs) w r =
      ⊎_elim
      (λ p. rw (union_apart a b rs w.0 p) (omega arith))
      (λ p. rw (union_longer a b rs w.0 w.1 r.0 r.1 p) (r.0, omega arith))
      (lt_or_ge (b + 1) l)
