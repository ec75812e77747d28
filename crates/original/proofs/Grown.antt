-- The tree of each row after a history: what it is made of, where it begins, and its value. Assumes nothing.
use Prim.Native.Nat.{ℕ, zero, suc, ◌<◌}
use mathlib.Core.Path.{◌≡◌, refl, sym, ap, ap₂, ◌∙◌}
use mathlib.Core.Bool.{Bool, true, false, not, ◌&&◌, ◌||◌, or_comm}
use mathlib.Core.List.{List, [], ◌∷◌, map}
use lib.ListN.{get_or, replicate}
use Rattle.pmtl.specs.Book.{Row, map_row, Rows, row_at, width_of, AllBelow, Below, Ordered, answer, every, some}
use Rattle.pmtl.specs.Book.Row.{never, always, atom, conj, disj, neg, implies, historically, once, since}
use Rattle.pmtl.specs.Monitor.{fresh}
use Rattle.pmtl.specs.Calls.{History, now_of}
use Rattle.pmtl.specs.Meaning.{Fact, instants, meaning_rule, meaning}
use Rattle.pmtl.proofs.Table.{by_rows, answer_fix, answer_only}
use Rattle.original.specs.Rust.{not_run, ◌and_run◌, ◌or_run◌}
use Rattle.original.specs.Rust.Ran.{done}
use Rattle.original.specs.NumSet.{NumSet, contains}
use Rattle.original.specs.ValPmtl.{Pmtl, ValPmtl, ValPmtls, from, froms, output, all_output, any_output}
use Rattle.original.specs.Formulas.{vec, formula_rule, formula}
use Rattle.original.specs.Agrees.{vals, tree_rule, TreeOf}
use Rattle.original.proofs.Searches.{turned}
use Rattle.original.proofs.Members.{contains_has}
use Rattle.original.proofs.Sorted.{lowers_increase, uppers_increase}
use Rattle.original.proofs.Fulls.{since_runs, runs_of, runs_canonical, runs_has}

-- the set of a row, oldest run first
abbrev pub set_of : Rows → History → ℕ → NumSet
set_of b h r = turned (runs_of (map_row (meaning b) (row_at b r)) h)

-- the tree of a row
unfoldable pub grown : Rows → History → ℕ → ValPmtl
grown b h = answer b ValPmtl.False (λ r row. tree_rule (now_of b h).atoms (set_of b h r) row)

module _ (b : Rows) (w : Ordered b) where
  pub grown_fix : (h : History) (r : ℕ) → grown b h r ≡ tree_rule (now_of b h).atoms (set_of b h r) (map_row (grown b h) (row_at b r))
  unfolding grown tree_rule
  grown_fix h r = answer_fix b ValPmtl.False (λ r row. tree_rule (now_of b h).atoms (set_of b h r) row) w r refl

  pub meaning_fix : (r : ℕ) → meaning b r ≡ meaning_rule b r (map_row (meaning b) (row_at b r))
  unfolding meaning meaning_rule
  meaning_fix r = answer_fix b (λ h. false) (meaning_rule b) w r refl

  formula_fix : (r : ℕ) → formula b r ≡ formula_rule (map_row (formula b) (row_at b r))
  unfolding formula formula_rule
  formula_fix r = answer_fix b Pmtl.False (λ r row. formula_rule row) w r refl

  -- made of its operands' trees, and its set has the instants that REFERENCE 3.5 defines
  pub tree_of : (h : History) (r : ℕ) → TreeOf b h (grown b h) r
  tree_of h r = let row : Row Fact = map_row (meaning b) (row_at b r) in record {
    set = set_of b h r;
    is = grown_fix h r;
    lowers = lowers_increase (runs_of row h) (runs_canonical row h);
    uppers = uppers_increase (runs_of row h) (runs_canonical row h);
    members = λ t. contains_has t (runs_of row h) (runs_canonical row h) ∙ ap done (runs_has row h t);
  }

-- ---- where it begins
froms_vals : (f : ℕ → Pmtl) (os : List ℕ) → froms (vec (map f os)) ≡ vals (map (λ o. from (f o)) os)
unfolding froms vec vals
froms_vals f [] = refl
froms_vals f (o ∷ os) = ap (ValPmtls.cons (from (f o))) (froms_vals f os)

false_at : (n a : ℕ) → get_or (replicate n false) a false ≡ false
false_at zero a = refl
false_at (suc n) zero = refl
false_at (suc n) (suc a) = false_at n a

module _ (b : Rows) (f : ℕ → Pmtl) (m : ℕ → Fact) where
  from_row : (row : Row ℕ) → from (formula_rule (map_row f row)) ≡ tree_rule (fresh b).atoms (turned (runs_of (map_row m row) [])) (map_row (λ o. from (f o)) row)
  unfolding from formula_rule tree_rule turned runs_of since_runs
  from_row never = refl
  from_row always = refl
  from_row (atom a) = ap (ValPmtl.Atom a) (sym (false_at (width_of b) a))
  from_row (conj os) = ap ValPmtl.And (froms_vals f os)
  from_row (disj os) = ap ValPmtl.Or (froms_vals f os)
  from_row (neg o) = refl
  from_row (implies x y) = refl
  from_row (historically g o) = refl
  from_row (once g o) = refl
  from_row (since g x y) = refl

pub from_grown : (b : Rows) → Ordered b → (r : ℕ) → from (formula b r) ≡ grown b [] r
unfolding grown tree_rule
from_grown b w r = answer_only b ValPmtl.False (λ r row. tree_rule (fresh b).atoms (set_of b [] r) row) w (λ k. refl) (λ o. from (formula b o))
    (λ k. ap from (formula_fix b w k) ∙ from_row b (formula b) (meaning b) (row_at b k)) r

-- ---- its value
-- what is run and does not panic
and_done : (x y : Bool) → (done x and_run done y) ≡ done (x && y)
and_done true y = refl
and_done false y = refl

or_done : (x y : Bool) → (done x or_run done y) ≡ done (x || y)
or_done true y = refl
or_done false y = refl

implies_done : (x y : Bool) → (done y or_run not_run (done x)) ≡ done (not x || y)
implies_done x y = or_done y (not x) ∙ ap done (or_comm y (not x))

module _ (r : ℕ) (tree : ℕ → ValPmtl) (m : ℕ → Fact) (h : History) (c : ℕ) (below : (o : ℕ) → o < r → output (tree o) c ≡ done (m o h)) where
  all_same : (os : List ℕ) → AllBelow r os → all_output (vals (map tree os)) c ≡ done (every (λ (f : Fact). f h) (map m os))
  unfolding all_output vals every
  all_same [] w = refl
  all_same (o ∷ os) w = ap₂ ◌and_run◌ (below o w.0) (all_same os w.1) ∙ and_done (m o h) _

  any_same : (os : List ℕ) → AllBelow r os → any_output (vals (map tree os)) c ≡ done (some (λ (f : Fact). f h) (map m os))
  unfolding any_output vals some
  any_same [] w = refl
  any_same (o ∷ os) w = ap₂ ◌or_run◌ (below o w.0) (any_same os w.1) ∙ or_done (m o h) _

  output_row : (b : Rows) (row : Row ℕ) → Below r row → (set : NumSet) → contains set c ≡ done (instants (map_row m row) h (now_of b h).clock)
      → output (tree_rule (now_of b h).atoms set (map_row tree row)) c ≡ done (meaning_rule b r (map_row m row) h)
  unfolding output tree_rule meaning_rule
  output_row b never w set e = refl
  output_row b always w set e = refl
  output_row b (atom a) w set e = refl
  output_row b (conj os) w set e = all_same os w
  output_row b (disj os) w set e = any_same os w
  output_row b (neg o) w set e = ap not_run (below o w)
  output_row b (implies p q) w set e = ap₂ (λ y z. z or_run not_run y) (below p w.0) (below q w.1) ∙ implies_done (m p h) (m q h)
  output_row b (historically g o) w set e = ap not_run e
  output_row b (once g o) w set e = e
  output_row b (since g p q) w set e = e

pub output_grown : (b : Rows) → Ordered b → (h : History) (r : ℕ) → output (grown b h r) (now_of b h).clock ≡ done (meaning b r h)
output_grown b w h = by_rows (λ r. output (grown b h r) (now_of b h).clock ≡ done (meaning b r h)) λ r below.
    let t : TreeOf b h (grown b h) r = tree_of b w h r in
    ap (λ v. output v (now_of b h).clock) t.is
    ∙ output_row r (grown b h) (meaning b) h (now_of b h).clock below b (row_at b r) (w r) t.set (t.members (now_of b h).clock)
    ∙ ap done (sym (ap (λ (f : Fact). f h) (meaning_fix b w r)))
