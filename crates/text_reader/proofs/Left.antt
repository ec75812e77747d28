-- What is left over of a text. Assumes nothing.
use Rattle.std.proofs.Common.{◌≡◌, ℕ, Bool, true, false, List, Ok, Err, sym, ◌∙◌, eqb, eqb-true}
use denote.Enum.Bare.{sameb}
use Rattle.numbers.specs.contracts.Refusal.{the_type}
use Rattle.numbers.specs.declared.Refusal.{Refusal}
use Rattle.numbers.specs.declared.Refusal.TheVariants.{BadWord}
use Rattle.numbers.specs.Refusals.{number_of, ACCEPTED, BAD_WORD, WRONG_LENGTH}
use Rattle.text.specs.Words.{next_word, supply_from}
use Rattle.text.specs.declared.words.Word.{Word}
use Rattle.text.proofs.Supplies.{word, refused}
use Rattle.text_reader.specs.Reads.{left_in, left_over}

-- the test of a refusal says the same as that of its number
pub bad_told : (r : Refusal) {b v : Bool} → b ≡ sameb the_type r BadWord → b ≡ v → eqb (number_of r) BAD_WORD ≡ v
bad_told BadWord e f = sym e ∙ f
bad_told _ e f = sym e ∙ f

module _ (s : List ℕ) (cursor : ℕ) where
  pub left_word : {w : Word} → next_word s cursor ≡ Ok w → WRONG_LENGTH ≡ left_over (supply_from s cursor)
  unfolding left_in
  left_word e = rw (word s cursor e).gave

  pub left_bad : {r : Refusal} → next_word s cursor ≡ Err r → eqb (number_of r) BAD_WORD ≡ true → number_of r ≡ left_over (supply_from s cursor)
  unfolding left_in
  left_bad {r} e f = rw (refused s cursor e, f) (eqb-true (number_of r) BAD_WORD f)

  pub left_none : {r : Refusal} → next_word s cursor ≡ Err r → eqb (number_of r) BAD_WORD ≡ false → ACCEPTED ≡ left_over (supply_from s cursor)
  unfolding left_in
  left_none {r} e f = rw (refused s cursor e, f)
