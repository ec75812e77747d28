-- A walk over a tree, `update_state` or `update_time`: it makes the tree of the next history, and meets no panic. Assumes nothing.
use Prim.Native.Nat.{ℕ, zero, suc, ◌≤◌, ◌<◌}
use native.Mathlib.Omega.{arith}
use mathlib.Core.Path.{◌≡◌, refl, sym, ap, ◌∙◌}
use mathlib.Core.Bool.{Bool, true, false, not}
use mathlib.Core.List.{List, [], ◌∷◌, map}
use lib.ListN.{get_or}
use Rattle.numset.specs.Runs.{Runs, Canonical, insert}
use Rattle.numset.proofs.Union.{union_some}
use Rattle.numbers.specs.Limits.{LAST_TIME}
use Rattle.pmtl.specs.Book.{Range, start, stop, Row, map_row, Rows, row_at, AllBelow, Below, Ordered, atom_width, width_of}
use Rattle.pmtl.specs.Book.Row.{never, always, atom, conj, disj, neg, implies, historically, once, since}
use Rattle.pmtl.specs.Monitor.{Snap}
use Rattle.pmtl.specs.Calls.{History, now_of}
use Rattle.pmtl.specs.Meaning.{Fact, meaning}
use Rattle.pmtl.proofs.Table.{by_rows}
use Rattle.original.specs.Rust.{Ran, ◌>>=◌}
use Rattle.original.specs.NumSet.{NumSet}
use Rattle.original.specs.ValPmtl.{ValPmtl, ValPmtls, output, add_if, since_if, update_state, update_states, update_time, update_times}
use Rattle.original.specs.Proper.{Fit, RowFit, Fits}
use Rattle.original.specs.Agrees.{vals, tree_rule}
use Rattle.original.specs.Rust.Ran.{done}
use Rattle.original.proofs.Searches.{turned}
use Rattle.original.proofs.Adding.{Reach, add_union}
use Rattle.original.proofs.Ranges.{start_small, start_stop}
use Rattle.original.proofs.Fulls.{Clocks, stayed, added, since_runs, since_canonical, since_reach, runs_of}
use Rattle.original.proofs.Grown.{grown, grown_fix, output_grown}

-- ---- a set
module _ (g : Range) (fit : Fit g) (c : ℕ) (h : c ≤ LAST_TIME) (s : Runs) (w : Canonical s) (r : Reach (start g c) (stop g c) s) where
  add_added : (x : Bool) → add_if x (turned s) g c ≡ done (turned (added x g c s))
  unfolding add_if added
  add_added true = add_union (start g c) (stop g c) (start_stop g fit c h) (start_small g fit c h) s w r
  add_added false = refl

  since_added : (k x : Bool) → since_if k x (turned s) g c ≡ done (turned (added x g c (stayed k s)))
  unfolding since_if added stayed turned insert
  since_added true x = add_added x
  since_added false true = ap (λ (s : Runs). done (turned s)) (sym (union_some (start g c) (stop g c) [] (start_stop g fit c h)))
  since_added false false = refl

-- the set of a row, at the next call
module _ (g : Range) (fit : Fit g) (f q : Fact) (b : Rows) (s : Snap) (h : History) (l : Clocks b (s ∷ h)) where
  add_next : (x : Bool) → add_if x (turned (since_runs g f q h)) g s.clock ≡ done (turned (added x g s.clock (since_runs g f q h)))
  add_next = add_added g fit s.clock l.1 (since_runs g f q h) (since_canonical g f q h) (since_reach g f q fit b h l.2 s.clock l.0 l.1)

  since_next : (k x : Bool) → since_if k x (turned (since_runs g f q h)) g s.clock ≡ done (turned (added x g s.clock (stayed k (since_runs g f q h))))
  since_next = since_added g fit s.clock l.1 (since_runs g f q h) (since_canonical g f q h) (since_reach g f q fit b h l.2 s.clock l.0 l.1)

-- ---- what both walks do
pub record Walk (c : ℕ) (up : ValPmtl → Ran ValPmtl) (ups : ValPmtls → Ran ValPmtls) : Type 0 where
  pub false_is : up ValPmtl.False ≡ done ValPmtl.False
  pub true_is : up ValPmtl.True ≡ done ValPmtl.True
  pub and_is : (vs : ValPmtls) → up (ValPmtl.And vs) ≡ (ups vs >>= λ ws. done (ValPmtl.And ws))
  pub or_is : (vs : ValPmtls) → up (ValPmtl.Or vs) ≡ (ups vs >>= λ ws. done (ValPmtl.Or ws))
  pub not_is : (v : ValPmtl) → up (ValPmtl.Not v) ≡ (up v >>= λ w. done (ValPmtl.Not w))
  pub implies_is : (v w : ValPmtl) → up (ValPmtl.Implies v w) ≡ (up v >>= λ v. up w >>= λ w. done (ValPmtl.Implies v w))
  pub historically_is : (v : ValPmtl) (g : Range) (s : NumSet)
      → up (ValPmtl.Historically v g s) ≡ (up v >>= λ v. output v c >>= λ x. add_if (not x) s g c >>= λ s. done (ValPmtl.Historically v g s))
  pub once_is : (v : ValPmtl) (g : Range) (s : NumSet)
      → up (ValPmtl.Once v g s) ≡ (up v >>= λ v. output v c >>= λ x. add_if x s g c >>= λ s. done (ValPmtl.Once v g s))
  pub since_is : (v w : ValPmtl) (g : Range) (s : NumSet)
      → up (ValPmtl.Since v w g s) ≡ (up v >>= λ v. output v c >>= λ x. up w >>= λ w. output w c >>= λ y. since_if x y s g c >>= λ s. done (ValPmtl.Since v w g s))
  pub nil_is : ups ValPmtls.nil ≡ done ValPmtls.nil
  pub cons_is : (v : ValPmtl) (vs : ValPmtls) → ups (ValPmtls.cons v vs) ≡ (up v >>= λ v. ups vs >>= λ vs. done (ValPmtls.cons v vs))

-- the operands are walked already
module _ (up : ValPmtl → Ran ValPmtl) (ups : ValPmtls → Ran ValPmtls) (b : Rows) (s : Snap) (h : History) (walk : Walk s.clock up ups) (l : Clocks b (s ∷ h))
    (atoms_are : (a : ℕ) → a < width_of b → up (ValPmtl.Atom a (get_or (now_of b h).atoms a false)) ≡ done (ValPmtl.Atom a (get_or s.atoms a false)))
    (r : ℕ) (tree tree' : ℕ → ValPmtl) (m : ℕ → Fact)
    (below : (o : ℕ) → o < r → up (tree o) ≡ done (tree' o)) (values : (o : ℕ) → o < r → output (tree' o) s.clock ≡ done (m o (s ∷ h))) where
  walk_vals : (os : List ℕ) → AllBelow r os → ups (vals (map tree os)) ≡ done (vals (map tree' os))
  unfolding vals
  walk_vals [] w = walk.nil_is
  walk_vals (o ∷ os) w = walk.cons_is (tree o) (vals (map tree os)) ∙ rw (below o w.0, walk_vals os w.1)

  walk_row : (row : Row ℕ) → Below r row → RowFit row → atom_width row ≤ width_of b
      → up (tree_rule (now_of b h).atoms (turned (runs_of (map_row m row) h)) (map_row tree row))
      ≡ done (tree_rule s.atoms (turned (runs_of (map_row m row) (s ∷ h))) (map_row tree' row))
  unfolding tree_rule runs_of since_runs stayed
  walk_row never w fit k = walk.false_is
  walk_row always w fit k = walk.true_is
  walk_row (atom a) w fit k = atoms_are a k
  walk_row (conj os) w fit k = walk.and_is (vals (map tree os)) ∙ rw (walk_vals os w)
  walk_row (disj os) w fit k = walk.or_is (vals (map tree os)) ∙ rw (walk_vals os w)
  walk_row (neg o) w fit k = walk.not_is (tree o) ∙ rw (below o w)
  walk_row (implies x y) w fit k = walk.implies_is (tree x) (tree y) ∙ rw (below x w.0, below y w.1)
  walk_row (historically g o) w fit k = walk.historically_is (tree o) g _
      ∙ rw (below o w, values o w, add_next g fit (λ k. true) (λ k. not (m o k)) b s h l (not (m o (s ∷ h))))
  walk_row (once g o) w fit k = walk.once_is (tree o) g _
      ∙ rw (below o w, values o w, add_next g fit (λ k. true) (m o) b s h l (m o (s ∷ h)))
  walk_row (since g x y) w fit k = walk.since_is (tree x) (tree y) g _
      ∙ rw (below x w.0, below y w.1, values x w.0, values y w.1, since_next g fit (m x) (m y) b s h l (m x (s ∷ h)) (m y (s ∷ h)))

-- a row's atom is one of those that the book names
row_width : (b : Rows) (r : ℕ) → atom_width (row_at b r) ≤ width_of b
unfolding width_of
row_width [] r = omega arith
row_width (x ∷ b) zero = omega arith
row_width (x ∷ b) (suc r) = omega (arith, row_width b r)

-- every tree
pub walked : (up : ValPmtl → Ran ValPmtl) (ups : ValPmtls → Ran ValPmtls) (b : Rows) → Ordered b → Fits b → (s : Snap) (h : History) → Walk s.clock up ups → Clocks b (s ∷ h)
    → ((a : ℕ) → a < width_of b → up (ValPmtl.Atom a (get_or (now_of b h).atoms a false)) ≡ done (ValPmtl.Atom a (get_or s.atoms a false)))
    → (r : ℕ) → up (grown b h r) ≡ done (grown b (s ∷ h) r)
walked up ups b w fit s h walk l atoms_are = by_rows (λ r. up (grown b h r) ≡ done (grown b (s ∷ h) r)) λ r below.
    ap up (grown_fix b w h r)
    ∙ walk_row up ups b s h walk l atoms_are r (grown b h) (grown b (s ∷ h)) (meaning b) below (λ o k. output_grown b w (s ∷ h) o) (row_at b r) (w r) (fit r) (row_width b r)
    ∙ ap done (sym (grown_fix b w (s ∷ h) r))

-- the two walks
pub state_walk : (state : List Bool) (c : ℕ) → Walk c (λ v. update_state v state c) (λ vs. update_states vs state c)
unfolding update_state
state_walk state c = record {
  false_is = refl;
  true_is = refl;
  and_is = λ vs. refl;
  or_is = λ vs. refl;
  not_is = λ v. refl;
  implies_is = λ v w. refl;
  historically_is = λ v g s. refl;
  once_is = λ v g s. refl;
  since_is = λ v w g s. refl;
  nil_is = refl;
  cons_is = λ v vs. refl;
}

pub time_walk : (c : ℕ) → Walk c (λ v. update_time v c) (λ vs. update_times vs c)
unfolding update_time
time_walk c = record {
  false_is = refl;
  true_is = refl;
  and_is = λ vs. refl;
  or_is = λ vs. refl;
  not_is = λ v. refl;
  implies_is = λ v w. refl;
  historically_is = λ v g s. refl;
  once_is = λ v g s. refl;
  since_is = λ v w g s. refl;
  nil_is = refl;
  cons_is = λ v vs. refl;
}
