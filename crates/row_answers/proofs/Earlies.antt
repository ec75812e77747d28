-- What the walk of a list of early answers says of its first, and early rules where an operand is not asked. Assumes nothing.
use mathlib.Core.Path.{◌≡◌, refl, sym, ap, ◌∙◌}
use mathlib.Core.Bool.{Bool, true, false, cond, ◌&&◌, ◌||◌}
use mathlib.Core.List.{List, [], ◌∷◌}
use Rattle.pmtl.specs.declared.Answer.{Answer}
use Rattle.pmtl.specs.declared.Answer.TheVariants.{False, True, Open}
use Rattle.pmtl.specs.Answer.{is_true, is_false, is_open, known}
use Rattle.pmtl.specs.Book.{Range, every, some}
use Rattle.pmtl.specs.Book.Row.{conj, disj, implies, since}
use Rattle.pmtl.specs.Early.{early_rule, from_now}
use Rattle.row_answers.specs.Private.{taken_in, early_so_far, early_covered}

-- ---- And, Or
all_known : (held : Bool) (xs : List Answer) → early_so_far false (known held) xs ≡ cond (some is_open xs) Open (known (held && every is_true xs))
unfolding early_so_far some every
all_known true [] = refl
all_known false [] = refl
all_known held (Open ∷ xs) = refl
all_known true (False ∷ xs) = all_known false xs
all_known false (False ∷ xs) = all_known false xs
all_known true (True ∷ xs) = all_known true xs
all_known false (True ∷ xs) = all_known false xs

any_known : (held : Bool) (xs : List Answer) → early_so_far true (known held) xs ≡ cond (some is_open xs) Open (known (held || some is_true xs))
unfolding early_so_far some
any_known true [] = refl
any_known false [] = refl
any_known held (Open ∷ xs) = refl
any_known true (False ∷ xs) = any_known true xs
any_known false (False ∷ xs) = any_known false xs
any_known true (True ∷ xs) = any_known true xs
any_known false (True ∷ xs) = any_known true xs

pub early_and : (covers : Bool) (xs : List Answer) → early_so_far false True xs ≡ early_rule covers (conj xs)
unfolding early_rule
early_and covers xs = all_known true xs

pub early_or : (covers : Bool) (xs : List Answer) → early_so_far true False xs ≡ early_rule covers (disj xs)
unfolding early_rule
early_or covers xs = any_known false xs

-- the walk stops, goes on
pub early_stop : (any : Bool) (sofar x : Answer) (xs : List Answer) → is_open x ≡ true → Open ≡ early_so_far any sofar (x ∷ xs)
unfolding early_so_far
early_stop any sofar x xs h = ap (λ c. cond c Open (early_so_far any (taken_in any sofar x) xs)) (sym h)

pub early_on : (any : Bool) (sofar x : Answer) (xs : List Answer) → is_open x ≡ false → {y : Answer} → y ≡ taken_in any sofar x
    → early_so_far any y xs ≡ early_so_far any sofar (x ∷ xs)
unfolding early_so_far
early_on any sofar x xs h e = ap (λ z. early_so_far any z xs) e ∙ ap (λ c. cond c Open (early_so_far any (taken_in any sofar x) xs)) (sym h)

-- ---- Implies, Since
pub implies_true : (covers : Bool) (l r : Answer) → is_true r ≡ true → early_rule covers (implies l r) ≡ True
unfolding early_rule
implies_true covers l False h = cc
implies_true covers l True h = refl
implies_true covers l Open h = cc

pub since_false : (covers : Bool) (g : Range) (l r : Answer) → is_false r ≡ true → early_rule covers (since g l r) ≡ False
unfolding early_rule
since_false covers g l False h = refl
since_false covers g l True h = cc
since_false covers g l Open h = cc

pub since_open : (covers : Bool) (g : Range) (l r : Answer) → is_false r ≡ false → covers ≡ false → early_rule covers (since g l r) ≡ Open
unfolding early_rule
since_open false g l False h k = cc
since_open false g l True h k = refl
since_open false g l Open h k = refl
since_open true g l r h k = cc

pub since_covered : (covers : Bool) (g : Range) (l r : Answer) → is_false r ≡ false → covers ≡ true → early_rule covers (since g l r) ≡ early_covered (from_now g) l
unfolding early_rule
since_covered true g l False h k = cc
since_covered true g l True h k = refl
since_covered true g l Open h k = refl
since_covered false g l r h k = cc
