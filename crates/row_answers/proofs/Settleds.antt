-- What the walk of a list of settled answers says of its first, and settled rules where an operand is not asked. Assumes nothing.
use mathlib.Core.Path.{◌≡◌, refl, sym, ap, ◌∙◌}
use mathlib.Core.Bool.{Bool, true, false, cond, not, ◌&&◌, ◌||◌}
use mathlib.Core.List.{List, [], ◌∷◌}
use Rattle.pmtl.specs.declared.Answer.{Answer}
use Rattle.pmtl.specs.declared.Answer.TheVariants.{False, True, Open}
use Rattle.pmtl.specs.Answer.{is_true, is_false, is_open, reversed, decided}
use Rattle.pmtl.specs.Book.{Range, every, some}
use Rattle.pmtl.specs.Book.Row.{conj, disj, neg, implies, historically, once, since}
use Rattle.pmtl.specs.Early.{from_now}
use Rattle.pmtl.specs.Settled.{settled_true, settled_false, settled_rule}
use Rattle.row_answers.specs.Private.{taken_in, decides, settled_so_far, settled_historically, settled_once, settled_left}

-- ---- And, Or
all_open : (xs : List Answer) → settled_so_far false Open xs ≡ cond (some is_false xs) False Open
unfolding settled_so_far some
all_open [] = refl
all_open (False ∷ xs) = refl
all_open (True ∷ xs) = all_open xs
all_open (Open ∷ xs) = all_open xs

any_open : (xs : List Answer) → settled_so_far true Open xs ≡ cond (some is_true xs) True Open
unfolding settled_so_far some
any_open [] = refl
any_open (False ∷ xs) = any_open xs
any_open (True ∷ xs) = refl
any_open (Open ∷ xs) = any_open xs

pub settled_and : (covers gone : Bool) (xs : List Answer) → settled_so_far false True xs ≡ settled_rule covers gone (conj xs)
unfolding settled_so_far some every settled_true settled_false
settled_and covers gone [] = refl
settled_and covers gone (False ∷ xs) = refl
settled_and covers gone (True ∷ xs) = settled_and covers gone xs
settled_and covers gone (Open ∷ xs) = all_open xs

pub settled_or : (covers gone : Bool) (xs : List Answer) → settled_so_far true False xs ≡ settled_rule covers gone (disj xs)
unfolding settled_so_far some every settled_true settled_false
settled_or covers gone [] = refl
settled_or covers gone (False ∷ xs) = settled_or covers gone xs
settled_or covers gone (True ∷ xs) = refl
settled_or covers gone (Open ∷ xs) = any_open xs

-- the walk stops, goes on
pub settled_stop : (any : Bool) (sofar x : Answer) (xs : List Answer) → decides any x ≡ true → x ≡ settled_so_far any sofar (x ∷ xs)
unfolding settled_so_far
settled_stop any sofar x xs h = ap (λ c. cond c x (settled_so_far any (taken_in any sofar x) xs)) (sym h)

pub settled_on : (any : Bool) (sofar x : Answer) (xs : List Answer) → decides any x ≡ false → {y : Answer} → y ≡ taken_in any sofar x
    → settled_so_far any y xs ≡ settled_so_far any sofar (x ∷ xs)
unfolding settled_so_far
settled_on any sofar x xs h e = ap (λ z. settled_so_far any z xs) e ∙ ap (λ c. cond c x (settled_so_far any (taken_in any sofar x) xs)) (sym h)

-- ---- Not, Implies, Historically, Once
pub settled_not : (covers gone : Bool) (x : Answer) → reversed x ≡ settled_rule covers gone (neg x)
unfolding settled_true settled_false
settled_not covers gone False = refl
settled_not covers gone True = refl
settled_not covers gone Open = refl

pub implies_true : (covers gone : Bool) (l r : Answer) → is_true r ≡ true → settled_rule covers gone (implies l r) ≡ True
unfolding settled_true settled_false
implies_true covers gone l False h = cc
implies_true covers gone l True h = refl
implies_true covers gone l Open h = cc

pub historically_false : (covers gone : Bool) (g : Range) (x : Answer) → covers ≡ true → gone ≡ false → settled_rule covers gone (historically g x) ≡ False
unfolding settled_true settled_false
historically_false true false g False h n = refl
historically_false true false g True h n = refl
historically_false true false g Open h n = refl
historically_false true true g x h n = cc
historically_false false gone g x h n = cc

pub historically_asked : (covers gone : Bool) (g : Range) (x : Answer) → covers ≡ false → settled_rule covers gone (historically g x) ≡ settled_historically (from_now g) gone x
unfolding settled_true settled_false
historically_asked false gone g x h = refl
historically_asked true gone g x h = cc

pub once_true : (covers gone : Bool) (g : Range) (x : Answer) → covers ≡ true → settled_rule covers gone (once g x) ≡ True
unfolding settled_true settled_false
once_true true gone g x h = refl
once_true false gone g x h = cc

pub once_asked : (covers gone : Bool) (g : Range) (x : Answer) → covers ≡ false → settled_rule covers gone (once g x) ≡ settled_once (from_now g) gone x
unfolding settled_true settled_false
once_asked false gone g x h = refl
once_asked true gone g x h = cc

-- ---- Since
or-false : (a : Bool) → a || false ≡ a
or-false true = refl
or-false false = refl

by_left : (zero covers gone : Bool) (l r : Answer) → is_open (settled_left zero covers l) ≡ false
    → decided (is_true l && covers || is_true r && zero) (is_false r && gone || is_false l && not zero) ≡ settled_left zero covers l
by_left zero true gone True r h = refl
by_left zero false gone True r h = cc
by_left true covers gone False r h = cc
by_left false covers true False False h = refl
by_left false covers false False False h = refl
by_left false covers gone False True h = refl
by_left false covers gone False Open h = refl
by_left zero covers gone Open r h = cc

by_right : (zero covers gone : Bool) (l r : Answer) → is_open (settled_left zero covers l) ≡ true
    → decided (is_true l && covers || is_true r && zero) (is_false r && gone || is_false l && not zero) ≡ settled_once zero gone r
by_right zero true gone True r h = cc
by_right zero false gone True r h = ap (decided (is_true r && zero)) (or-false (is_false r && gone))
by_right true covers gone False r h = ap (decided (is_true r && true)) (or-false (is_false r && gone))
by_right false covers gone False r h = cc
by_right zero covers gone Open r h = ap (decided (is_true r && zero)) (or-false (is_false r && gone))

pub since_left : (covers gone : Bool) (g : Range) (l r : Answer) → is_open (settled_left (from_now g) covers l) ≡ false
    → settled_rule covers gone (since g l r) ≡ settled_left (from_now g) covers l
unfolding settled_true settled_false
since_left covers gone g l r h = by_left (from_now g) covers gone l r h

pub since_right : (covers gone : Bool) (g : Range) (l r : Answer) → is_open (settled_left (from_now g) covers l) ≡ true
    → settled_rule covers gone (since g l r) ≡ settled_once (from_now g) gone r
unfolding settled_true settled_false
since_right covers gone g l r h = by_right (from_now g) covers gone l r h
