-- A row's kind and the word that says it. Assumes nothing.
use Prim.Native.Nat.{ℕ, zero, suc, ◌<◌}
use native.Mathlib.Omega.{arith}
use mathlib.Core.Path.{◌≡◌, refl}
use Rattle.book.specs.Kinds.{word_of_kind, kind_of_word}

-- a word that says a kind is that kind's word
pub word_back : (w : ℕ) → w < 10 → word_of_kind (kind_of_word w) ≡ w
unfolding kind_of_word
word_back zero h = refl
word_back (suc zero) h = refl
word_back (suc (suc zero)) h = refl
word_back (suc (suc (suc zero))) h = refl
word_back (suc (suc (suc (suc zero)))) h = refl
word_back (suc (suc (suc (suc (suc zero))))) h = refl
word_back (suc (suc (suc (suc (suc (suc zero)))))) h = refl
word_back (suc (suc (suc (suc (suc (suc (suc zero))))))) h = refl
word_back (suc (suc (suc (suc (suc (suc (suc (suc zero)))))))) h = refl
word_back (suc (suc (suc (suc (suc (suc (suc (suc (suc zero))))))))) h = refl
word_back (suc (suc (suc (suc (suc (suc (suc (suc (suc (suc w)))))))))) h = absurd (omega arith)
