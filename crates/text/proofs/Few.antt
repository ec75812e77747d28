-- How many words a text has, and the numbers that end its reading. Assumes nothing.
use Rattle.std.proofs.Common.{ℕ, suc, ◌+◌, ◌*◌, ◌<◌, ◌≤◌, Bool, true, false, cond, not, ◌&&◌, List, [], ◌∷◌, length, arith}
use Rattle.text.specs.Words.{pick, parts, letters, said, good, Supply, begun, written_words, supplied, supply}

-- ---- the words of a text: each takes a byte, and a byte parts it from the next
abbrev spare : Bool → ℕ
spare going = cond going 0 1

begun_few : (starts : Bool) (w : List ℕ) (ws : List (List ℕ)) → length (begun starts w ws) ≤ cond starts 1 0 + length ws
unfolding begun
begun_few true w ws = omega arith
begun_few false w ws = omega arith

written_few : (going : Bool) (s : List ℕ) → 2 * length (written_words going s) ≤ length s + spare going
unfolding written_words begun
written_few going [] = omega arith
written_few going (b ∷ s) = go going (parts b) (written_few (not (parts b)) s)
  where
    go : (going here : Bool) → 2 * length (written_words (not here) s) ≤ length s + spare (not here)
        → 2 * length (begun (not going && not here) (letters (b ∷ s)) (written_words (not here) s)) ≤ suc (length s) + spare going
    go true true h = omega arith
    go true false h = omega arith
    go false true h = omega arith
    go false false h = omega arith

-- a number that ends a reading
abbrev pub Small : ℕ → Type 0
Small n = (0 < n) × (n < 100)

pub record Supplied (written : ℕ) (s : Supply) : Type 0 where
  pub few : length s.words ≤ written
  pub ending : Small s.ending

supplied_few : (ws : List (List ℕ)) → Supplied (length ws) (supplied ws)
unfolding supplied pick
supplied_few [] = record { few = omega arith; ending = (omega arith, omega arith) }
supplied_few (w ∷ ws) = go (good w) (supplied_few ws)
  where
    go : (z : Bool) → Supplied (length ws) (supplied ws) → Supplied (suc (length ws)) (pick z (record { words = said 0 w ∷ (supplied ws).words; ending = (supplied ws).ending }) (record { words = []; ending = 13 }))
    go true r = record { few = omega (arith, r.few); ending = r.ending }
    go false r = record { few = omega arith; ending = (omega arith, omega arith) }

pub few_words : (input : List ℕ) → 2 * length (supply input).words ≤ length input + 1
unfolding supply
few_words input = omega (arith, written_few false input, (supplied_few (written_words false input)).few)

pub small_ending : (input : List ℕ) → Small (supply input).ending
unfolding supply
small_ending input = (supplied_few (written_words false input)).ending
