-- Private steps of the code: what a walk answers of the rest of a list, and a row's rules where it has asked.
-- Definitions only.
use Rattle.std.specs.Prelude.{Bool, true, false, cond, not, ◌&&◌, ◌||◌, List, [], ◌∷◌}
use Rattle.pmtl.specs.declared.Answer.{Answer}
use Rattle.pmtl.specs.declared.Answer.TheVariants.{False, True, Open}
use Rattle.pmtl.specs.Answer.{is_true, is_false, is_open, decided}
use Rattle.pmtl.specs.Book.{every, some, itself}

-- And, which stops at a false, or Or, which stops at a true, of the values that are left
abbrev pub joined : (stop : Bool) → List Bool → Bool
joined false vs = every itself vs
joined true vs = some itself vs

-- And, or Or if `any`, of the operands so far with one more: open if that is open
abbrev pub taken_in : (any : Bool) → Answer → Answer → Answer
taken_in any sofar False = cond any sofar False
taken_in any sofar True = cond any True sofar
taken_in any sofar Open = Open

-- early And or Or of the operands so far and those that are left
unfoldable pub early_so_far : (any : Bool) → Answer → List Answer → Answer
early_so_far any sofar [] = sofar
early_so_far any sofar (x ∷ xs) = cond (is_open x) Open (early_so_far any (taken_in any sofar x) xs)

-- early Implies and settled Implies
abbrev pub implied_by : Answer → Answer → Answer
implied_by l r = decided (is_true r || is_false l) (is_false r && is_true l)

-- the temporal rows' early rules, from whether lower is 0 and the set covers
abbrev pub early_historically : (zero covers : Bool) → Answer → Answer
early_historically zero covers x = cond (is_true x) True (cond (is_false x && zero) False (cond covers False Open))

abbrev pub early_once : (zero covers : Bool) → Answer → Answer
early_once zero covers x = cond (is_false x) False (cond (is_true x && zero) True (cond covers True Open))

-- Since, where right is not false and the set covers
abbrev pub early_covered : (zero : Bool) → Answer → Answer
early_covered zero l = decided (is_true l) (is_false l && zero)

-- an operand that decides And, or Or if `any`
abbrev pub decides : (any : Bool) → Answer → Bool
decides any x = cond any (is_true x) (is_false x)

-- settled And or Or of the operands so far and those that are left
unfoldable pub settled_so_far : (any : Bool) → Answer → List Answer → Answer
settled_so_far any sofar [] = sofar
settled_so_far any sofar (x ∷ xs) = cond (decides any x) x (settled_so_far any (taken_in any sofar x) xs)

-- the temporal rows' settled rules, from whether lower is 0 and the set is gone: Historically, where the set does not cover
abbrev pub settled_historically : (zero gone : Bool) → Answer → Answer
settled_historically zero gone x = decided (is_true x && gone) (is_false x && zero)

-- Once, where the set does not cover; and Since by right, where left does not decide it
abbrev pub settled_once : (zero gone : Bool) → Answer → Answer
settled_once zero gone x = decided (is_true x && zero) (is_false x && gone)

-- Since, as far as left decides it
abbrev pub settled_left : (zero covers : Bool) → Answer → Answer
settled_left zero covers l = decided (is_true l && covers) (is_false l && not zero)
