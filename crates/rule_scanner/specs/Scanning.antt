-- Steps of scanning a written text with a byte for each open bracket. No public contract but that of `scan` cites these. Definitions only.
use Rattle.std.specs.Prelude.{ℕ, zero, suc, ◌+◌, ◌≤◌, ◌≡◌, Bool, true, false, cond, not, List, [], ◌∷◌, length, get_or, eqb, Result, Ok, Err}
use Rattle.trees.specs.Forest.{count, size}
use Rattle.rule_scanner.specs.Reading.{Frame, State, Step, refused, going, ended, taken, Outcome, read, wrong}
use Rattle.rule_scanner.specs.declared.turns.Mode.{Mode}
use Rattle.rule_scanner.specs.declared.turns.Mode.TheVariants as mode
use Rattle.rule_scanner.specs.declared.turns.Form.{Form}
use Rattle.rule_scanner.specs.declared.turns.Form.TheVariants as form
use Rattle.rule_scanner.specs.declared.turns.Turn.{Turn}
use Rattle.rule_scanner.specs.declared.turns.Turn.TheVariants.{Refused, Go, Leaf, Open, Part, Close, Counted, Ended}
use Rattle.rule_scanner.specs.declared.scan.Pass.{Pass}
use Rattle.rule_scanner.specs.declared.scan.Extent.{Extent}

-- ---- what the code says of a text: how many rows, assumes and guarantees it has, or the place of what is wrong
unfoldable pub scanned : Outcome → Result Extent ℕ
scanned (read a g) = Ok (record { rows = size a + size g; assumes = count a; guarantees = count g })
scanned (wrong at) = Err at

-- ---- bytes for what an operator still takes
abbrev pub form_byte : Form → ℕ
form_byte form.Many = 0
form_byte form.One = 1
form_byte form.Two = 2

abbrev pub byte_form : ℕ → Form
byte_form b = cond (eqb b 0) form.Many (cond (eqb b 1) form.One form.Two)

abbrev pub form_top : List ℕ → ℕ → Form
form_top m zero = form.One
form_top m (suc d) = byte_form (get_or m d 0)

abbrev pub less_one : ℕ → ℕ
less_one zero = zero
less_one (suc n) = n

abbrev pub refuses : Turn → ℕ → Bool
refuses Refused d = true
refuses (Go m) d = false
refuses (Leaf w n) d = false
refuses (Open w l u) d = false
refuses Part d = eqb d 0
refuses Close d = eqb d 0
refuses (Counted n) d = false
refuses Ended d = not (eqb d 0)

abbrev pub ends : Turn → Bool
ends Refused = false
ends (Go m) = false
ends (Leaf w n) = false
ends (Open w l u) = false
ends Part = false
ends Close = false
ends (Counted n) = false
ends Ended = true

abbrev pub pass_of : Mode → ℕ → Bool → ℕ → ℕ → ℕ → ℕ → ℕ → Pass
pass_of m d s l r h p b = record { mode = m; depth = d; second = s; left = l; rows = r; here = h; past = p; before = b }

-- before the first symbol
abbrev pub start_pass : Pass
start_pass = pass_of mode.Count 0 false 0 0 0 0 0

abbrev pub between_pass : Bool → ℕ → ℕ → ℕ → ℕ → ℕ → Pass
between_pass s (suc n) r h p b = pass_of mode.Begin 0 s (suc n) r h p b
between_pass false zero r h p b = pass_of mode.Count 0 true 0 0 0 r h
between_pass true zero r h p b = pass_of mode.Over 0 true 0 r h p b

abbrev pub completed_pass : Pass → ℕ → Pass
completed_pass p zero = between_pass p.second (less_one p.left) (p.rows + 1) (p.here + 1) p.past p.before
completed_pass p (suc d) = pass_of mode.After (suc d) p.second p.left (p.rows + 1) p.here p.past p.before

-- ---- a reader's state, as the code has it
-- the bytes of the open operators, the innermost last
abbrev pub FormsAre : List ℕ → ℕ → List Frame → Type 0
FormsAre m d [] = d ≡ 0
FormsAre m d (f ∷ fs) = (k : ℕ) × (d ≡ suc k) × (get_or m k 0 ≡ form_byte f.form) × FormsAre m k fs

-- rows of parts so far
unfoldable pub stack_size : List Frame → ℕ
stack_size [] = 0
stack_size (f ∷ fs) = size f.parts + stack_size fs

pub record Rel (r : State) (p : Pass) (m : List ℕ) : Type 0 where
  pub mode : p.mode ≡ r.mode
  pub forms : FormsAre m p.depth r.stack
  pub second : p.second ≡ r.second
  pub left : p.left ≡ r.left
  pub rows : p.rows ≡ stack_size r.stack + size r.here
  pub here : p.here ≡ count r.here
  pub past : p.past ≡ size r.before
  pub before : p.before ≡ count r.before

-- nothing is larger than the bytes read so far
pub record Bound (p : Pass) (n : ℕ) : Type 0 where
  pub depth : p.depth ≤ n
  pub rows : p.rows ≤ n
  pub here : p.here ≤ n
  pub past : p.past ≤ n
  pub before : p.before ≤ n

abbrev pub Follows : Step → Pass → List ℕ → Type 0
Follows refused p m = Unit {0}
Follows (going q) p m = Rel q p m
Follows ended p m = Unit {0}

-- a turn was taken
pub record Steps (t : Turn) (p : Pass) (m : List ℕ) (p' : Pass) (m' : List ℕ) : Type 0 where
  pub follows : (r : State) → Rel r p m → Follows (taken t r.stack r.second r.left r.here r.before) p' m'
  pub bound : (n : ℕ) → Bound p n → Bound p' (n + 1)
  pub size : length m' ≡ length m
