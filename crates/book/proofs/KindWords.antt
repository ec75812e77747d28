-- Kinds, the words that say them, and back. Assumes nothing.
use mathlib.Core.Path.{◌≡◌, refl, sym}
use Prim.Native.Nat.{ℕ, zero, suc, ◌<◌}
use native.Mathlib.Omega.{arith}
use borrow.Author.Tests.{le-leb}
use Rattle.std.specs.Prelude.{Result, Ok, Err}
use Rattle.std.specs.Result.{result_unwrap_or}
use Rattle.numbers.specs.declared.Refusal.{Refusal}
use Rattle.book.specs.Rows.{temporal}
use Rattle.book.specs.Kinds.{word_of_kind, kind_of_word, SaysKind}
use Rattle.book.specs.declared.kind.Kind.{Kind}
use Rattle.book.specs.declared.kind.Kind.TheVariants.{False, True, Atom, And, Or, Not, Implies, Historically, Once, Since}

pub kind_back : (k : Kind) → k ≡ kind_of_word (word_of_kind k)
unfolding kind_of_word
kind_back False = refl
kind_back True = refl
kind_back Atom = refl
kind_back And = refl
kind_back Or = refl
kind_back Not = refl
kind_back Implies = refl
kind_back Historically = refl
kind_back Once = refl
kind_back Since = refl

-- a word past the last kind counts as that
pub past_last : (word : ℕ) → 9 < word → Since ≡ kind_of_word word
unfolding kind_of_word
past_last zero l = absurd (omega arith)
past_last (suc zero) l = absurd (omega arith)
past_last (suc (suc zero)) l = absurd (omega arith)
past_last (suc (suc (suc zero))) l = absurd (omega arith)
past_last (suc (suc (suc (suc zero)))) l = absurd (omega arith)
past_last (suc (suc (suc (suc (suc zero))))) l = absurd (omega arith)
past_last (suc (suc (suc (suc (suc (suc zero)))))) l = absurd (omega arith)
past_last (suc (suc (suc (suc (suc (suc (suc zero))))))) l = absurd (omega arith)
past_last (suc (suc (suc (suc (suc (suc (suc (suc zero)))))))) l = absurd (omega arith)
past_last (suc (suc (suc (suc (suc (suc (suc (suc (suc k))))))))) l = refl

-- so that a word and its kind are temporal together
pub temporal_kind : (word : ℕ) → temporal (word_of_kind (kind_of_word word)) ≡ temporal word
unfolding kind_of_word
temporal_kind zero = refl
temporal_kind (suc zero) = refl
temporal_kind (suc (suc zero)) = refl
temporal_kind (suc (suc (suc zero))) = refl
temporal_kind (suc (suc (suc (suc zero)))) = refl
temporal_kind (suc (suc (suc (suc (suc zero))))) = refl
temporal_kind (suc (suc (suc (suc (suc (suc zero)))))) = refl
temporal_kind (suc (suc (suc (suc (suc (suc (suc zero))))))) = refl
temporal_kind (suc (suc (suc (suc (suc (suc (suc (suc zero)))))))) = refl
temporal_kind (suc (suc (suc (suc (suc (suc (suc (suc (suc zero))))))))) = refl
temporal_kind (suc (suc (suc (suc (suc (suc (suc (suc (suc (suc k)))))))))) = sym (le-leb 7 _ (omega arith))

pub said_kind : (word : ℕ) (said : Result Kind Refusal) → SaysKind word said → result_unwrap_or said Since ≡ kind_of_word word
said_kind word (Ok k) e = rw (← e) (kind_back k)
said_kind word (Err r) e = past_last word e.1
