-- Tests as facts: a test that passed is b ≡ true, one that failed b ≡ false. Assumes nothing.
use Prim.Native.Nat.{ℕ, ◌≤◌, ◌<◌}
use mathlib.Core.Path.{◌≡◌, refl, sym, ◌∙◌}
use mathlib.Core.Logic.{⊎_elim, ◌⊎◌, inl, inr}
use mathlib.Core.Bool.{Bool, true, false, not, ◌&&◌, ◌||◌, true≢false, false≢true}
use lib.Dec.{ltb}
use borrow.Author.Tests.{ltb-true, ltb-false}

pub either : (b : Bool) → (b ≡ true) ⊎ (b ≡ false)
either true = inl refl
either false = inr refl

pub lt_or_ge : (a b : ℕ) → (a < b) ⊎ (b ≤ a)
lt_or_ge a b = ⊎_elim (λ e. inl (ltb-true a b e)) (λ e. inr (ltb-false a b e)) (either (ltb a b))

pub clash : {b : Bool} → b ≡ true → b ≡ false → ⊥
clash p q = let z : ◌≡◌ {A = Bool} true false = sym p ∙ q in true≢false z

pub same_test : (a b : Bool) → (a ≡ true → b ≡ true) → (b ≡ true → a ≡ true) → a ≡ b
same_test true b f g = sym (f refl)
same_test false true f g = g refl
same_test false false f g = refl

pub fails_by : (a : Bool) → (a ≡ true → ⊥) → a ≡ false
fails_by true f = absurd (f refl)
fails_by false f = refl

pub and_left : (a b : Bool) → (a && b) ≡ true → a ≡ true
and_left true b h = refl
and_left false b h = h

pub and_right : (a b : Bool) → (a && b) ≡ true → b ≡ true
and_right true b h = h
and_right false b h = absurd (false≢true h)

pub and_intro : (a b : Bool) → a ≡ true → b ≡ true → (a && b) ≡ true
and_intro true b h k = k
and_intro false b h k = h

pub and_no_left : (a b : Bool) → a ≡ false → (a && b) ≡ false
and_no_left true b h = absurd (true≢false h)
and_no_left false b h = refl

pub and_no_right : (a b : Bool) → b ≡ false → (a && b) ≡ false
and_no_right true b h = h
and_no_right false b h = refl

pub or_left : (a b : Bool) → a ≡ true → (a || b) ≡ true
or_left true b h = refl
or_left false b h = absurd (false≢true h)

pub or_right : (a b : Bool) → b ≡ true → (a || b) ≡ true
or_right true b h = refl
or_right false b h = h

pub or_no : (a b : Bool) → a ≡ false → b ≡ false → (a || b) ≡ false
or_no true b h k = h
or_no false b h k = k

pub or_elim : {P : Type 0} (a b : Bool) → (a ≡ true → P) → (b ≡ true → P) → (a || b) ≡ true → P
or_elim true b f g h = f refl
or_elim false b f g h = g h

pub not_yes : (a : Bool) → a ≡ false → not a ≡ true
not_yes true h = absurd (true≢false h)
not_yes false h = refl

pub not_no : (a : Bool) → a ≡ true → not a ≡ false
not_no true h = refl
not_no false h = absurd (false≢true h)

-- from tests of operands to tests of what is made of them
pub and_mono : (a b c d : Bool) → (a ≡ true → c ≡ true) → (b ≡ true → d ≡ true) → (a && b) ≡ true → (c && d) ≡ true
and_mono a b c d f g h = and_intro _ _ (f (and_left _ _ h)) (g (and_right a _ h))

pub or_mono : (a b c d : Bool) → (a ≡ true → c ≡ true) → (b ≡ true → d ≡ true) → (a || b) ≡ true → (c || d) ≡ true
or_mono a b c d f g = or_elim a b (λ k. or_left _ _ (f k)) (λ k. or_right c _ (g k))

pub or_not_and : (a b c d : Bool) → (a ≡ true → c ≡ false) → (b ≡ true → d ≡ false) → (a || b) ≡ true → (c && d) ≡ false
or_not_and a b c d f g = or_elim a b (λ k. and_no_left _ _ (f k)) (λ k. and_no_right c _ (g k))

pub and_not_or : (a b c d : Bool) → (a ≡ true → c ≡ false) → (b ≡ true → d ≡ false) → (a && b) ≡ true → (c || d) ≡ false
and_not_or a b c d f g h = or_no _ _ (f (and_left _ _ h)) (g (and_right a _ h))
