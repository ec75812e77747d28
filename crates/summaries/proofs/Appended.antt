-- What a recount makes of one line more, the newest: it is what is noted of that call. Assumes nothing.
use Prim.Native.Nat.{ℕ, suc, ◌+◌, ◌-◌, ◌<◌, ◌≤◌, max}
use native.Mathlib.Omega.{arith}
use mathlib.Core.Path.{◌≡◌, refl, ap, ◌∙◌}
use mathlib.Core.Bool.{Bool, true, false, cond, not}
use mathlib.Core.List.{List, [], ◌∷◌, ◌++◌}
use lib.ListN.{length, length-append}
use lib.Seq.{get_or_at}
use lib.Dec.{ltb, eqb}
use borrow.Author.Tests.{eq-eqb, ne_eqb}
use Rattle.numbers.specs.Refusals.{ACCEPTED}
use Rattle.pmtl.specs.declared.Answer.{Answer}
use Rattle.pmtl.specs.declared.Answer.TheVariants.{False, True, Open}
use Rattle.pmtl.specs.Answer.{bit_of, digit_of, is_open}
use Rattle.report.specs.Lines.{CallLine}
use Rattle.summaries.specs.Recount.{word_on, is_false, is_settled, accepted_of, numbers_if, first_of, last_of, stretch_of, longest_of, recount}
use Rattle.ledger.specs.Ledger.{Entry, or_else, noted}

-- ---- one number more
pub one_longer : {A : Type 0} (xs : List A) (x : A) → length (xs ++ x ∷ []) ≡ suc (length xs)
one_longer xs x = length-append xs (x ∷ []) ∙ (omega arith)

new_last : (ns : List ℕ) (n : ℕ) → last_of (ns ++ n ∷ []) ≡ n
new_last ns n = let e : length (ns ++ n ∷ []) - 1 ≡ length ns = omega (arith, one_longer ns n) in rw e (get_or_at ns n [] 0 (length ns) refl)

-- ---- the lines that pass a test
-- calls are numbered from 1
abbrev pub Numbered : List CallLine → Type 0
Numbered [] = Unit {0}
Numbered (l ∷ ls) = (0 < l.number) × Numbered ls

pub numbered_more : (ls : List CallLine) (l : CallLine) → Numbered ls → 0 < l.number → Numbered (ls ++ l ∷ [])
numbered_more [] l ok h = (h, tt)
numbered_more (k ∷ ls) l ok h = (ok.0, numbered_more ls l ok.1 h)

module _ (test : CallLine → Bool) where
  numbers_yes : (ls : List CallLine) (l : CallLine) → test l ≡ true → numbers_if test (ls ++ l ∷ []) ≡ numbers_if test ls ++ l.number ∷ []
  unfolding numbers_if
  numbers_yes [] l e = rw e
  numbers_yes (k ∷ ls) l e = go (test k) (numbers_yes ls l e)
    where
      go : (z : Bool) → numbers_if test (ls ++ l ∷ []) ≡ numbers_if test ls ++ l.number ∷ []
          → cond z (k.number ∷ numbers_if test (ls ++ l ∷ [])) (numbers_if test (ls ++ l ∷ [])) ≡ cond z (k.number ∷ numbers_if test ls) (numbers_if test ls) ++ l.number ∷ []
      go true ih = ap (λ ns. k.number ∷ ns) ih
      go false ih = ih

  numbers_no : (ls : List CallLine) (l : CallLine) → test l ≡ false → numbers_if test (ls ++ l ∷ []) ≡ numbers_if test ls
  unfolding numbers_if
  numbers_no [] l e = rw e
  numbers_no (k ∷ ls) l e = ap (λ ns. cond (test k) (k.number ∷ ns) ns) (numbers_no ls l e)

  -- the first stays where there is one
  first_stays : (ls : List CallLine) → Numbered ls → (n : ℕ) → first_of (numbers_if test ls ++ n ∷ []) ≡ or_else (first_of (numbers_if test ls)) n
  unfolding numbers_if
  first_stays [] ok n = refl
  first_stays (k ∷ ls) ok n = go (test k) (first_stays ls ok.1 n)
    where
      go : (z : Bool) → first_of (numbers_if test ls ++ n ∷ []) ≡ or_else (first_of (numbers_if test ls)) n
          → let ns = cond z (k.number ∷ numbers_if test ls) (numbers_if test ls) in first_of (ns ++ n ∷ []) ≡ or_else (first_of ns) n
      go true ih = rw (ne_eqb k.number 0 (λ e. omega (arith, ok.0)))
      go false ih = ih

  -- ---- the stretch that reaches to the newest line, where so many came before the first
  unfoldable pub open_from : ℕ → List CallLine → ℕ
  open_from before [] = before
  open_from before (l ∷ ls) = open_from (cond (test l) (suc before) 0) ls

  open_more : (before : ℕ) (ls : List CallLine) (l : CallLine) → open_from before (ls ++ l ∷ []) ≡ cond (test l) (suc (open_from before ls)) 0
  unfolding open_from
  open_more before [] l = refl
  open_more before (k ∷ ls) l = open_more (cond (test k) (suc before) 0) ls l

  pub stretch_within : (ls : List CallLine) → stretch_of test ls ≤ longest_of test ls
  unfolding stretch_of longest_of
  stretch_within [] = omega arith
  stretch_within (l ∷ ls) = omega arith

  -- the longest stretch, where so many came before the first line
  abbrev longest_from : ℕ → List CallLine → ℕ
  longest_from before ls = max (before + stretch_of test ls) (longest_of test ls)

  from_yes : (before s l : ℕ) → max (before + suc s) (max (suc s) l) ≡ max (suc before + s) l
  from_yes before s l = omega arith

  from_no : (before l : ℕ) → max (before + 0) (max 0 l) ≡ max before l
  from_no before l = omega arith

  from_none : (s l : ℕ) → s ≤ l → max (0 + s) l ≡ l
  from_none s l h = omega arith

  max_over : (x y z : ℕ) → max x (max y z) ≡ max (max x y) z
  max_over x y z = omega arith

  long_from : (before : ℕ) (ls : List CallLine) (l : CallLine) → longest_from before (ls ++ l ∷ []) ≡ max (longest_from before ls) (cond (test l) (suc (open_from before ls)) 0)
  unfolding stretch_of longest_of open_from
  long_from before [] l = go (test l)
    where
      go : (z : Bool) → max (before + cond z 1 0) (max (cond z 1 0) 0) ≡ max (max (before + 0) 0) (cond z (suc before) 0)
      go true = omega arith
      go false = omega arith
  long_from before (k ∷ ls) l = go (test k) refl (long_from (suc before) ls l) (long_from 0 ls l)
    where
      go : (z : Bool) → test k ≡ z → longest_from (suc before) (ls ++ l ∷ []) ≡ max (longest_from (suc before) ls) (cond (test l) (suc (open_from (suc before) ls)) 0)
          → longest_from 0 (ls ++ l ∷ []) ≡ max (longest_from 0 ls) (cond (test l) (suc (open_from 0 ls)) 0)
          → longest_from before (k ∷ ls ++ l ∷ []) ≡ max (longest_from before (k ∷ ls)) (cond (test l) (suc (open_from before (k ∷ ls))) 0)
      go true e going fresh = rw (e, from_yes before (stretch_of test (ls ++ l ∷ [])) (longest_of test (ls ++ l ∷ [])), from_yes before (stretch_of test ls) (longest_of test ls)) going
      go false e going fresh =
          let now = rw (from_none (stretch_of test (ls ++ l ∷ [])) (longest_of test (ls ++ l ∷ [])) (stretch_within (ls ++ l ∷ [])), from_none (stretch_of test ls) (longest_of test ls) (stretch_within ls)) at fresh in
          rw (e, from_no before (longest_of test (ls ++ l ∷ [])), from_no before (longest_of test ls), now) (max_over before (longest_of test ls) _)

  longest_more : (ls : List CallLine) (l : CallLine) → longest_of test (ls ++ l ∷ []) ≡ max (longest_of test ls) (cond (test l) (suc (open_from 0 ls)) 0)
  longest_more ls l =
      rw (from_none (stretch_of test (ls ++ l ∷ [])) (longest_of test (ls ++ l ∷ [])) (stretch_within (ls ++ l ∷ [])), from_none (stretch_of test ls) (longest_of test ls) (stretch_within ls)) at (long_from 0 ls l)

-- ---- one line more
pub accepted_yes : (ls : List CallLine) (l : CallLine) → l.refusal ≡ ACCEPTED → accepted_of (ls ++ l ∷ []) ≡ accepted_of ls ++ l ∷ []
unfolding accepted_of
accepted_yes [] l e = rw (eq-eqb l.refusal ACCEPTED e)
accepted_yes (k ∷ ls) l e = go (eqb k.refusal ACCEPTED) (accepted_yes ls l e)
  where
    go : (z : Bool) → accepted_of (ls ++ l ∷ []) ≡ accepted_of ls ++ l ∷ []
        → cond z (k ∷ accepted_of (ls ++ l ∷ [])) (accepted_of (ls ++ l ∷ [])) ≡ cond z (k ∷ accepted_of ls) (accepted_of ls) ++ l ∷ []
    go true ih = ap (λ ks. k ∷ ks) ih
    go false ih = ih

pub accepted_no : (ls : List CallLine) (l : CallLine) → ¬ (l.refusal ≡ ACCEPTED) → accepted_of (ls ++ l ∷ []) ≡ accepted_of ls
unfolding accepted_of
accepted_no [] l e = rw (ne_eqb l.refusal ACCEPTED e)
accepted_no (k ∷ ls) l e = ap (λ ks. cond (eqb k.refusal ACCEPTED) (k ∷ ks) ks) (accepted_no ls l e)

accepted_numbered : (ls : List CallLine) → Numbered ls → Numbered (accepted_of ls)
unfolding accepted_of
accepted_numbered [] ok = tt
accepted_numbered (k ∷ ls) ok = go (eqb k.refusal ACCEPTED) (accepted_numbered ls ok.1)
  where
    go : (z : Bool) → Numbered (accepted_of ls) → Numbered (cond z (k ∷ accepted_of ls) (accepted_of ls))
    go true ih = (ok.0, ih)
    go false ih = ih

-- the entry that lines come to: a recount, but for how many were accepted, and the stretch that is not broken
abbrev pub entry_from : ℕ → List CallLine → Entry
entry_from p ls = let s = recount p ls in record {
  failed = s.failed;
  first = s.first;
  last = s.last;
  longest = s.longest;
  settled = s.settled;
  stretch = open_from (is_false p) 0 (accepted_of ls);
}

-- the line of a refused call changes nothing
pub entry_refused : (p : ℕ) (ls : List CallLine) (l : CallLine) → ¬ (l.refusal ≡ ACCEPTED) → entry_from p (ls ++ l ∷ []) ≡ entry_from p ls
unfolding recount
entry_refused p ls l e = rw (accepted_no ls l e)

false_is : (holds : Bool) → eqb (bit_of holds) 0 ≡ not holds
false_is true = refl
false_is false = refl

settled_is : (answer : Answer) → ltb (digit_of answer) 2 ≡ not (is_open answer)
settled_is False = refl
settled_is True = refl
settled_is Open = refl

-- that of an accepted one is noted
module _ (p : ℕ) (ls : List CallLine) (l : CallLine) (ok : Numbered ls) (accepted : l.refusal ≡ ACCEPTED)
    (holds : Bool) (value : (word_on p l).value ≡ bit_of holds) (answer : Answer) (settled : (word_on p l).settled ≡ digit_of answer) where
  abbrev before : List CallLine
  before = accepted_of ls

  fails : is_false p l ≡ not holds
  fails = ap (λ d. eqb d 0) value ∙ false_is holds

  settles : is_settled p l ≡ not (is_open answer)
  settles = ap (λ d. ltb d 2) settled ∙ settled_is answer

  settled_now_lem : (z : Bool) → is_settled p l ≡ not z → first_of (numbers_if (is_settled p) (before ++ l ∷ [])) ≡ cond z (first_of (numbers_if (is_settled p) before)) (or_else (first_of (numbers_if (is_settled p) before)) l.number)
  settled_now_lem true e = ap first_of (numbers_no (is_settled p) before l e)
  settled_now_lem false e = ap first_of (numbers_yes (is_settled p) before l e) ∙ first_stays (is_settled p) before (accepted_numbered ls ok) l.number

  pub entry_accepted : entry_from p (ls ++ l ∷ []) ≡ noted l.number holds (is_open answer) (entry_from p ls)
  unfolding recount noted
  entry_accepted =
      go holds fails
    where
      go : (z : Bool) → is_false p l ≡ not z → entry_from p (ls ++ l ∷ []) ≡ noted l.number z (is_open answer) (entry_from p ls)
      go true e = rw (accepted_yes ls l accepted, settled_now_lem (is_open answer) settles, longest_more (is_false p) before l, open_more (is_false p) 0 before l, numbers_no (is_false p) before l e, e)
      go false e = rw (accepted_yes ls l accepted, settled_now_lem (is_open answer) settles, longest_more (is_false p) before l, open_more (is_false p) 0 before l, numbers_yes (is_false p) before l e, e, new_last (numbers_if (is_false p) before) l.number, one_longer (numbers_if (is_false p) before) l.number, first_stays (is_false p) before (accepted_numbered ls ok) l.number)
