-- What it means that the original has the sets that REFERENCE 3.5 defines, and that it answers as our definitions do. Definitions only.
use Rattle.std.specs.Prelude.{ℕ, ◌<◌, ◌≡◌, Bool, true, false, List, [], ◌∷◌, map, length, get_or}
use Rattle.numset.specs.Runs.{Run, run}
use Rattle.pmtl.specs.declared.Answer.{Answer}
use Rattle.pmtl.specs.declared.Answer.TheVariants.{False, True, Open}
use Rattle.pmtl.specs.Book.{Row, map_row, Rows, row_at, Book}
use Rattle.pmtl.specs.Book.Row.{never, always, atom, conj, disj, neg, implies, historically, once, since}
use Rattle.pmtl.specs.Monitor.{State, value}
use Rattle.pmtl.specs.Early.{early}
use Rattle.pmtl.specs.Calls.{History, now_of}
use Rattle.pmtl.specs.Meaning.{instants, meaning}
use Rattle.original.specs.Rust.{Option, Increasing}
use Rattle.original.specs.Rust.Option.{None, Some}
use Rattle.original.specs.Rust.Ran.{done}
use Rattle.original.specs.NumSet.{NumSet, lower_of, upper_of, contains}
use Rattle.original.specs.ValPmtl.{ValPmtl, ValPmtls, output, valuation}
use Rattle.original.specs.PmtlOracle.{PmtlOracle, output_assumes, output_guarantees, final_output_assumes, final_output_guarantees}
use Rattle.original.specs.Replay.{reached}

-- our three-way answers as the original has them
abbrev pub option_of : Answer → Option Bool
option_of False = Some false
option_of True = Some true
option_of Open = None

-- a Vec of trees
unfoldable pub vals : List ValPmtl → ValPmtls
vals [] = ValPmtls.nil
vals (v ∷ vs) = ValPmtls.cons v (vals vs)

-- a row as a tree, from the atoms, its set, and its operands as trees
unfoldable pub tree_rule : List Bool → NumSet → Row ValPmtl → ValPmtl
tree_rule atoms set never = ValPmtl.False
tree_rule atoms set always = ValPmtl.True
tree_rule atoms set (atom a) = ValPmtl.Atom a (get_or atoms a false)
tree_rule atoms set (conj vs) = ValPmtl.And (vals vs)
tree_rule atoms set (disj vs) = ValPmtl.Or (vals vs)
tree_rule atoms set (neg v) = ValPmtl.Not v
tree_rule atoms set (implies l r) = ValPmtl.Implies l r
tree_rule atoms set (historically g v) = ValPmtl.Historically v g set
tree_rule atoms set (once g v) = ValPmtl.Once v g set
tree_rule atoms set (since g l r) = ValPmtl.Since l r g set

-- where there is no pair
abbrev pub none : Run
none = run 0 0

-- the tree of row r after a history: its operands' trees, and a set with exactly the instants that REFERENCE 3.5 defines, sorted by both ends as the search asks
pub record TreeOf (b : Rows) (h : History) (tree : ℕ → ValPmtl) (r : ℕ) : Type 0 where
  pub set : NumSet
  pub is : tree r ≡ tree_rule (now_of b h).atoms set (map_row tree (row_at b r))
  pub members : (t : ℕ) → contains set t ≡ done (instants (map_row (meaning b) (row_at b r)) h t)
  pub lowers : Increasing none lower_of set
  pub uppers : Increasing none upper_of set

-- o is the original after the calls of the history h: each row has such a tree, which says what the row means and its early answer
pub record Follows (b : Book) (h : History) (o : PmtlOracle) : Type 0 where
  pub time : o.time ≡ (now_of b.rows h).clock
  pub tree : ℕ → ValPmtl
  pub trees : (r : ℕ) → TreeOf b.rows h tree r
  pub assumes_are : o.assumes ≡ map tree b.assumes
  pub guarantees_are : o.guarantees ≡ map tree b.guarantees
  pub value_is : (r : ℕ) → output (tree r) o.time ≡ done (meaning b.rows r h)
  pub early_is : (r : ℕ) → r < length b.rows → valuation (tree r) o.time ≡ option_of (early b.rows (reached b.rows h) r)

-- the four iterators of o give the values and the early answers of our definitions in a state, property by property, in order
pub record Agrees (b : Book) (st : State) (o : PmtlOracle) : Type 0 where
  pub clock : o.time ≡ st.now.clock
  pub values_of_assumes : final_output_assumes o ≡ done (map (value b.rows st) b.assumes)
  pub values_of_guarantees : final_output_guarantees o ≡ done (map (value b.rows st) b.guarantees)
  pub early_of_assumes : output_assumes o ≡ map (λ r. option_of (early b.rows st r)) b.assumes
  pub early_of_guarantees : output_guarantees o ≡ map (λ r. option_of (early b.rows st r)) b.guarantees
