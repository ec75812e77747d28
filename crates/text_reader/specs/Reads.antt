-- Steps of reading a text's words into lent memory. No public contract cites these. Definitions only.
use Rattle.std.specs.Prelude.{◌≡◌, ℕ, Result, Ok, Err, ◌+◌, ◌-◌, ◌*◌, ◌<◌, ◌≤◌, true, cond, List, [], ◌∷◌, ◌++◌, map, length, take, drop, ◌==◌, nat_lt}
use Rattle.text.specs.Words.{parts, Supply, supply_from}
use Rattle.numbers.specs.Limits.{MOST_ATOMS}
use Rattle.book.specs.Reading.{got, refused, section, Sections, sections}
use Rattle.text_reader.specs.declared.Part.{Part}
use Rattle.numbers.specs.declared.Refusal.{Refusal}
use Rattle.numbers.specs.Refusals.{number_of, ACCEPTED, WRONG_LENGTH, BAD_WORD}

-- what is left of a supply past so many words
abbrev pub past : ℕ → Supply → Supply
past n s = record { words = drop n s.words; ending = s.ending }

-- so many words were there, and the reading goes on past them
pub record Took (input : List ℕ) (cursor count next : ℕ) : Type 0 where
  pub enough : count ≤ length (supply_from input cursor).words
  pub rest : supply_from input next ≡ past count (supply_from input cursor)

-- the reading ended before
pub record Ended (input : List ℕ) (cursor count number : ℕ) : Type 0 where
  pub short : length (supply_from input cursor).words < count
  pub ending : number ≡ (supply_from input cursor).ending

-- the words stand in a memory, past those that stood there
pub record WordsTook (input : List ℕ) (cursor count : ℕ) (m : List ℕ) (at : ℕ) (m' : List ℕ) (end next : ℕ) : Type 0 where
  pub took : Took input cursor count next
  pub place : end ≡ at + count
  pub stand : take end m' ≡ take at m ++ take count (supply_from input cursor).words

unfoldable pub WordsRead : List ℕ → ℕ → ℕ → List ℕ → ℕ → List ℕ → Result Part Refusal → Type 0
WordsRead input cursor count m at m' (Ok part) = WordsTook input cursor count m at m' part.end part.next
WordsRead input cursor count m at m' (Err refusal) = Ended input cursor count (number_of refusal)

-- a section was read: its count and its items stand in a memory, past what stood there
pub record SectionTook (input : List ℕ) (cursor limit size : ℕ) (m : List ℕ) (at : ℕ) (m' : List ℕ) (end next : ℕ) : Type 0 where
  pub count : ℕ
  pub items : List ℕ
  pub read : section (supply_from input cursor).ending limit size (supply_from input cursor).words ≡ got items (supply_from input next).words
  pub ending : (supply_from input next).ending ≡ (supply_from input cursor).ending
  pub few : count ≤ limit
  pub counted : length items ≡ size * count
  pub place : end ≡ at + 1 + size * count
  pub stand : take end m' ≡ take at m ++ count ∷ items

unfoldable pub SectionRead : List ℕ → ℕ → ℕ → ℕ → List ℕ → ℕ → List ℕ → Result Part Refusal → Type 0
SectionRead input cursor limit size m at m' (Ok part) = SectionTook input cursor limit size m at m' part.end part.next
SectionRead input cursor limit size m at m' (Err refusal) =
    section (supply_from input cursor).ending limit size (supply_from input cursor).words ≡ refused (number_of refusal)

-- the four sections were read: they stand in a memory as a book handed over in words
pub record BookTook (input m' : List ℕ) (end next : ℕ) : Type 0 where
  pub given : Sections
  pub read : sections (supply_from input 0).ending (supply_from input 0).words ≡ got given (supply_from input next).words
  pub ending : (supply_from input next).ending ≡ (supply_from input 0).ending
  pub place : end ≤ length m'
  pub stand : sections WRONG_LENGTH (take end m') ≡ got given []

unfoldable pub BookRead : List ℕ → List ℕ → Result Part Refusal → Type 0
BookRead input m' (Ok part) = BookTook input m' part.end part.next
BookRead input m' (Err refusal) = sections (supply_from input 0).ending (supply_from input 0).words ≡ refused (number_of refusal)

-- a state's word as a byte: a word over 1 as 2, which is refused as any other is
abbrev pub byte_of : ℕ → ℕ
byte_of w = cond (nat_lt 1 w) 2 w

-- the byte b is the digit of a bit, r
pub record Bit (b r : ℕ) : Type 0 where
  pub low : 48 ≤ b
  pub high : b ≤ 49
  pub value : r ≡ b - 48

-- of two bytes as one number, r is the bit that the first says, if it is one at all, and the second parts words
pub record BitIn (both r : ℕ) : Type 0 where
  pub told : (low high : ℕ) → low < 256 → both ≡ low + 256 * high → r < 2 → Bit low r × (parts high ≡ true)

-- n words, none more than asked for and each two bytes of the text, stand at the start of a memory, as bytes
pub record BitsTook (input : List ℕ) (cursor count : ℕ) (m' : List ℕ) (n : ℕ) : Type 0 where
  pub low : n ≤ count
  pub within : 2 * n ≤ length input - cursor
  pub took : Took input cursor n (cursor + 2 * n)
  pub stand : take n m' ≡ map byte_of (take n (supply_from input cursor).words)

-- words stand at the start of a memory, as bytes
pub record BytesTook (input : List ℕ) (cursor count : ℕ) (m' : List ℕ) (end next : ℕ) : Type 0 where
  pub took : Took input cursor count next
  pub place : end ≡ count
  pub stand : take count m' ≡ map byte_of (take count (supply_from input cursor).words)

unfoldable pub BytesRead : List ℕ → ℕ → ℕ → List ℕ → Result Part Refusal → Type 0
BytesRead input cursor count m' (Ok part) = BytesTook input cursor count m' part.end part.next
BytesRead input cursor count m' (Err refusal) = Ended input cursor count (number_of refusal)

-- a state was read: its words stand in a memory, as bytes
pub record StateTook (input : List ℕ) (cursor : ℕ) (m' : List ℕ) (end next : ℕ) : Type 0 where
  pub words : List ℕ
  pub read : section (supply_from input cursor).ending MOST_ATOMS 1 (supply_from input cursor).words ≡ got words (supply_from input next).words
  pub ending : (supply_from input next).ending ≡ (supply_from input cursor).ending
  pub place : end ≤ MOST_ATOMS
  pub stand : take end m' ≡ map byte_of words

unfoldable pub StateRead : List ℕ → ℕ → List ℕ → Result Part Refusal → Type 0
StateRead input cursor m' (Ok part) = StateTook input cursor m' part.end part.next
StateRead input cursor m' (Err refusal) = section (supply_from input cursor).ending MOST_ATOMS 1 (supply_from input cursor).words ≡ refused (number_of refusal)

-- what follows what takes up all of a text: nothing, or a word too many, or a bad one
unfoldable pub left_in : List ℕ → ℕ → ℕ
left_in [] ending = cond (ending == BAD_WORD) BAD_WORD ACCEPTED
left_in (w ∷ ws) ending = WRONG_LENGTH

abbrev pub left_over : Supply → ℕ
left_over t = left_in t.words t.ending
