-- REFERENCE 7.1 and 7.2: words in text. Definitions only.
use Rattle.std.specs.Prelude.{ℕ, Result, Ok, Err, suc, ◌+◌, ◌-◌, ◌*◌, Bool, true, false, not, ◌&&◌, ◌||◌, List, [], ◌∷◌, length, drop, ◌==◌, nat_le}
use Rattle.numbers.specs.Limits.{MAX}
use Rattle.numbers.specs.Refusals.{WRONG_LENGTH, BAD_WORD}
use Rattle.numbers.specs.declared.Refusal.{Refusal}
use Rattle.numbers.specs.declared.Refusal.TheVariants.{WrongLength, BadWord}
use Rattle.text.specs.declared.words.Word.{Word}

-- the bytes that part words
abbrev pub space : ℕ
space = 32

abbrev pub line_feed : ℕ
line_feed = 10

-- the first and the last digit
abbrev pub digit0 : ℕ
digit0 = 48

abbrev pub digit9 : ℕ
digit9 = 57

-- the most digits that a word has
abbrev pub most_digits : ℕ
most_digits = 20

-- the first where the test holds, else the second
unfoldable pub pick : {A : Type 0} → Bool → A → A → A
pick true a b = a
pick false a b = b

-- words are parted by spaces and line feeds
unfoldable pub parts : ℕ → Bool
parts b = b == space || b == line_feed

-- a word is spoilt by any byte but these
unfoldable pub digit : ℕ → Bool
digit b = nat_le digit0 b && nat_le b digit9

-- the bytes up to the first that parts words, or to the end
unfoldable pub letters : List ℕ → List ℕ
letters [] = []
letters (b ∷ s) = pick (parts b) [] (b ∷ letters s)

-- every letter is a digit
unfoldable pub all_digits : List ℕ → Bool
all_digits [] = true
all_digits (b ∷ w) = digit b && all_digits w

-- the number that digits say, after those that said n
unfoldable pub said : ℕ → List ℕ → ℕ
said n [] = n
said n (b ∷ w) = said (n * 10 + (b - digit0)) w

-- at least one letter, and no leading zero except 0 itself
unfoldable pub plain : List ℕ → Bool
plain [] = false
plain (b ∷ w) = pick (b == digit0) (length w == 0) true

-- a good word: digits, not too many, plain, and at most MAX
unfoldable pub good : List ℕ → Bool
good w = all_digits w && (nat_le (length w) most_digits && (plain w && nat_le (said 0 w) MAX))

-- a word that was read, and the place after it
abbrev pub read : ℕ → ℕ → Result Word Refusal
read number next = Ok (record { number = number; next = next })

-- what the word reads as that begins here, at the place given
unfoldable pub word_here : List ℕ → ℕ → Result Word Refusal
word_here s at = pick (good (letters s)) (read (said 0 (letters s)) (at + length (letters s))) (Err BadWord)

-- the next word of the bytes that are left, the first of which stands at the place given
unfoldable pub next_in : List ℕ → ℕ → Result Word Refusal
next_in [] at = Err WrongLength
next_in (b ∷ s) at = pick (parts b) (next_in s (suc at)) (word_here (b ∷ s) at)

-- the next word of a text from a place on
unfoldable pub next_word : List ℕ → ℕ → Result Word Refusal
next_word s at = next_in (drop at s) at

-- what a reader of words gets: good words, and the number that ends the reading after them
pub record Supply : Type 0 where
  pub words : List ℕ
  pub ending : ℕ

-- no word
abbrev pub ends : ℕ → Supply
ends r = record { words = []; ending = r }

-- one word more, before the others
abbrev pub gives : ℕ → Supply → Supply
gives w r = record { words = w ∷ r.words; ending = r.ending }

-- a word before others, if one begins
unfoldable pub begun : Bool → List ℕ → List (List ℕ) → List (List ℕ)
begun true w ws = w ∷ ws
begun false w ws = ws

-- the words of a text as they are written: its longest writtenWords of bytes that part none. The test says whether one is going on
unfoldable pub written_words : Bool → List ℕ → List (List ℕ)
written_words going [] = []
written_words going (b ∷ s) = begun (not going && not (parts b)) (letters (b ∷ s)) (written_words (not (parts b)) s)

-- what written words give: the numbers that they say, up to the first bad word or the end
unfoldable pub supplied : List (List ℕ) → Supply
supplied [] = ends WRONG_LENGTH
supplied (w ∷ ws) = pick (good w) (gives (said 0 w) (supplied ws)) (ends BAD_WORD)

-- what a text gives
unfoldable pub supply : List ℕ → Supply
supply s = supplied (written_words false s)

-- what a text gives from a place on
abbrev pub supply_from : List ℕ → ℕ → Supply
supply_from s at = supply (drop at s)
