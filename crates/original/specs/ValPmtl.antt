-- oracle.rs: formulas, and the tree that holds their sets, function by function, in its order. A Vec inside a tree is a list of its own. Definitions only.
use Rattle.std.specs.Prelude.{ℕ, Bool, true, false, not, cond, ◌&&◌, ◌||◌, List}
use Rattle.pmtl.specs.Book.{Range}
use Rattle.original.specs.Rust.{Ran, Option, not_run, ◌and_run◌, ◌or_run◌, mapped, is_some_and, and_then, or_else, then_some, index, ◌>>=◌}
use Rattle.original.specs.Rust.Ran.{done}
use Rattle.original.specs.Rust.Option.{None, Some}
use Rattle.original.specs.TimeRange.{shift, contains_zero}
use Rattle.original.specs.NumSet.{NumSet, from_range, add_assign, empty, contains, contains_unbounded_interval}

-- enum Pmtl<usize>; a TimeRange is a `Range` of pmtl
mutual
  pub data Pmtl : Type 0 where
    True False : Pmtl
    Atom : ℕ → Pmtl
    And Or : Pmtls → Pmtl
    Not : Pmtl → Pmtl
    Implies : Pmtl → Pmtl → Pmtl
    Historically Once : Pmtl → Range → Pmtl
    Since : Pmtl → Pmtl → Range → Pmtl

  pub data Pmtls : Type 0 where
    nil : Pmtls
    cons : Pmtl → Pmtls → Pmtls

-- enum ValPmtl
mutual
  pub data ValPmtl : Type 0 where
    True False : ValPmtl
    Atom : ℕ → Bool → ValPmtl
    And Or : ValPmtls → ValPmtl
    Not : ValPmtl → ValPmtl
    Implies : ValPmtl → ValPmtl → ValPmtl
    Historically Once : ValPmtl → Range → NumSet → ValPmtl
    Since : ValPmtl → ValPmtl → Range → NumSet → ValPmtl

  pub data ValPmtls : Type 0 where
    nil : ValPmtls
    cons : ValPmtl → ValPmtls → ValPmtls

-- impl From<&Pmtl<usize>> for ValPmtl: fn from; `froms` is the same over a Vec
unfoldable mutual
  pub from : Pmtl → ValPmtl
  from Pmtl.True = ValPmtl.True
  from Pmtl.False = ValPmtl.False
  from (Pmtl.Atom a) = ValPmtl.Atom a false
  from (Pmtl.And pmtls) = ValPmtl.And (froms pmtls)
  from (Pmtl.Or pmtls) = ValPmtl.Or (froms pmtls)
  from (Pmtl.Not pmtl) = ValPmtl.Not (from pmtl)
  from (Pmtl.Implies lhs rhs) = ValPmtl.Implies (from lhs) (from rhs)
  from (Pmtl.Historically pmtl range) = ValPmtl.Historically (from pmtl) range empty
  from (Pmtl.Once pmtl range) = ValPmtl.Once (from pmtl) range empty
  from (Pmtl.Since lhs rhs range) = ValPmtl.Since (from lhs) (from rhs) range empty

  pub froms : Pmtls → ValPmtls
  froms Pmtls.nil = ValPmtls.nil
  froms (Pmtls.cons f fs) = ValPmtls.cons (from f) (froms fs)

-- fn output; `iter().all` and `iter().any` over a Vec
unfoldable mutual
  pub output : ValPmtl → ℕ → Ran Bool
  output ValPmtl.True time = done true
  output ValPmtl.False time = done false
  output (ValPmtl.Atom atom b) time = done b
  output (ValPmtl.And subs) time = all_output subs time
  output (ValPmtl.Or subs) time = any_output subs time
  output (ValPmtl.Not sub) time = not_run (output sub time)
  output (ValPmtl.Implies lhs rhs) time = output rhs time or_run not_run (output lhs time)
  output (ValPmtl.Historically sub range valuation) time = not_run (contains valuation time)
  output (ValPmtl.Once sub range valuation) time = contains valuation time
  output (ValPmtl.Since lhs rhs range valuation) time = contains valuation time

  pub all_output : ValPmtls → ℕ → Ran Bool
  all_output ValPmtls.nil time = done true
  all_output (ValPmtls.cons f fs) time = output f time and_run all_output fs time

  pub any_output : ValPmtls → ℕ → Ran Bool
  any_output ValPmtls.nil time = done false
  any_output (ValPmtls.cons f fs) time = output f time or_run any_output fs time

-- `if out { *valuation += range.shift(time); }`
unfoldable pub add_if : Bool → NumSet → Range → ℕ → Ran NumSet
add_if true valuation range time = add_assign valuation (shift range time)
add_if false valuation range time = done valuation

-- the four ways of Since, by out_lhs and out_rhs
unfoldable pub since_if : Bool → Bool → NumSet → Range → ℕ → Ran NumSet
since_if true out-rhs valuation range time = add_if out-rhs valuation range time
since_if false true valuation range time = done (from_range (shift range time))
since_if false false valuation range time = done empty

-- fn update_state; `update_states` is the same over a Vec
unfoldable mutual
  pub update_state : ValPmtl → List Bool → ℕ → Ran ValPmtl
  update_state ValPmtl.True state time = done ValPmtl.True
  update_state ValPmtl.False state time = done ValPmtl.False
  update_state (ValPmtl.Atom atom b) state time = do
    b ← index state atom
    done (ValPmtl.Atom atom b)
  update_state (ValPmtl.And subs) state time = do
    subs ← update_states subs state time
    done (ValPmtl.And subs)
  update_state (ValPmtl.Or subs) state time = do
    subs ← update_states subs state time
    done (ValPmtl.Or subs)
  update_state (ValPmtl.Not sub) state time = do
    sub ← update_state sub state time
    done (ValPmtl.Not sub)
  update_state (ValPmtl.Implies lhs rhs) state time = do
    lhs ← update_state lhs state time
    rhs ← update_state rhs state time
    done (ValPmtl.Implies lhs rhs)
  update_state (ValPmtl.Historically sub range valuation) state time = do
    sub ← update_state sub state time
    out ← output sub time
    valuation ← add_if (not out) valuation range time
    done (ValPmtl.Historically sub range valuation)
  update_state (ValPmtl.Once sub range valuation) state time = do
    sub ← update_state sub state time
    out ← output sub time
    valuation ← add_if out valuation range time
    done (ValPmtl.Once sub range valuation)
  update_state (ValPmtl.Since lhs rhs range valuation) state time = do
    lhs ← update_state lhs state time
    out-lhs ← output lhs time
    rhs ← update_state rhs state time
    out-rhs ← output rhs time
    valuation ← since_if out-lhs out-rhs valuation range time
    done (ValPmtl.Since lhs rhs range valuation)

  pub update_states : ValPmtls → List Bool → ℕ → Ran ValPmtls
  update_states ValPmtls.nil state time = done ValPmtls.nil
  update_states (ValPmtls.cons f fs) state time = do
    f ← update_state f state time
    fs ← update_states fs state time
    done (ValPmtls.cons f fs)

-- fn update_time; `update_times` is the same over a Vec
unfoldable mutual
  pub update_time : ValPmtl → ℕ → Ran ValPmtl
  update_time ValPmtl.True time = done ValPmtl.True
  update_time ValPmtl.False time = done ValPmtl.False
  update_time (ValPmtl.Atom atom b) time = done (ValPmtl.Atom atom b)
  update_time (ValPmtl.And subs) time = do
    subs ← update_times subs time
    done (ValPmtl.And subs)
  update_time (ValPmtl.Or subs) time = do
    subs ← update_times subs time
    done (ValPmtl.Or subs)
  update_time (ValPmtl.Not sub) time = do
    sub ← update_time sub time
    done (ValPmtl.Not sub)
  update_time (ValPmtl.Implies lhs rhs) time = do
    lhs ← update_time lhs time
    rhs ← update_time rhs time
    done (ValPmtl.Implies lhs rhs)
  update_time (ValPmtl.Historically sub range valuation) time = do
    sub ← update_time sub time
    out ← output sub time
    valuation ← add_if (not out) valuation range time
    done (ValPmtl.Historically sub range valuation)
  update_time (ValPmtl.Once sub range valuation) time = do
    sub ← update_time sub time
    out ← output sub time
    valuation ← add_if out valuation range time
    done (ValPmtl.Once sub range valuation)
  update_time (ValPmtl.Since lhs rhs range valuation) time = do
    lhs ← update_time lhs time
    out-lhs ← output lhs time
    rhs ← update_time rhs time
    out-rhs ← output rhs time
    valuation ← since_if out-lhs out-rhs valuation range time
    done (ValPmtl.Since lhs rhs range valuation)

  pub update_times : ValPmtls → ℕ → Ran ValPmtls
  update_times ValPmtls.nil time = done ValPmtls.nil
  update_times (ValPmtls.cons f fs) time = do
    f ← update_time f time
    fs ← update_times fs time
    done (ValPmtls.cons f fs)

-- fn valuation; `iter().try_fold` over a Vec, from the truth value so far
unfoldable mutual
  pub valuation : ValPmtl → ℕ → Option Bool
  valuation ValPmtl.True time = Some true
  valuation ValPmtl.False time = Some false
  valuation (ValPmtl.Atom atom b) time = None
  valuation (ValPmtl.And items) time = try_fold_and items true time
  valuation (ValPmtl.Or items) time = try_fold_or items false time
  valuation (ValPmtl.Not f) time = mapped not (valuation f time)
  valuation (ValPmtl.Implies lhs rhs) time =
      let lhs-val = valuation lhs time in
      let rhs-val = valuation rhs time in
      cond (is_some_and rhs-val (λ b. b) || is_some_and lhs-val (λ b. not b)) (Some true)
      (cond (is_some_and rhs-val (λ b. not b) && is_some_and lhs-val (λ b. b)) (Some false)
      None)
  valuation (ValPmtl.Historically sub range set) time =
      or_else (and_then (valuation sub time) (λ v. then_some (contains_zero range || v) v))
      (then_some (contains_unbounded_interval set time) false)
  valuation (ValPmtl.Once sub range set) time =
      or_else (and_then (valuation sub time) (λ v. then_some (contains_zero range || not v) v))
      (then_some (contains_unbounded_interval set time) true)
  valuation (ValPmtl.Since lhs rhs range set) time =
      cond (is_some_and (valuation rhs time) (λ b. not b)) (Some false)
      (cond (contains_unbounded_interval set time) (and_then (valuation lhs time) (λ v. then_some (contains_zero range || v) v))
      None)

  pub try_fold_and : ValPmtls → Bool → ℕ → Option Bool
  try_fold_and ValPmtls.nil b time = Some b
  try_fold_and (ValPmtls.cons f fs) b time = and_then (mapped (λ v. b && v) (valuation f time)) (λ b. try_fold_and fs b time)

  pub try_fold_or : ValPmtls → Bool → ℕ → Option Bool
  try_fold_or ValPmtls.nil b time = Some b
  try_fold_or (ValPmtls.cons f fs) b time = and_then (mapped (λ v. b || v) (valuation f time)) (λ b. try_fold_or fs b time)
