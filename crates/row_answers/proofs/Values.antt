-- What the walk of a list of values says of its first, and what atoms and sets say. Assumes nothing.
use Prim.Native.Nat.{ℕ, ◌≤◌, ◌<◌}
use mathlib.Core.Path.{◌≡◌, refl, sym, ap, ap₂, ◌∙◌}
use mathlib.Core.Bool.{Bool, true, false, not, beq}
use mathlib.Core.List.{List, [], ◌∷◌}
use Rattle.pmtl.specs.Book.{every, some}
use lib.ListN.{get_or}
use native.Mathlib.Omega.{arith}
use Rattle.numset.specs.Runs.{has}
use Rattle.ring.specs.Ring.{ringed, Rolling}
use Rattle.lists.proofs.Listed.{listed_at}
use Rattle.pmtl.specs.Monitor.{set_at}
use Rattle.memory.specs.Memory.{row_count, clock_of, width_word, kind_at, slot_at, atom_at, slot_words, is_one, state_of}
use Rattle.memory.specs.Kept.{Sound}
use Rattle.memory.proofs.Sets.{owner_set}
use Rattle.row_answers.specs.Private.{joined}

pub joined_nil : (stop : Bool) → not stop ≡ joined stop []
unfolding every some
joined_nil true = refl
joined_nil false = refl

pub joined_stop : (stop v : Bool) (vs : List Bool) → beq v stop ≡ true → stop ≡ joined stop (v ∷ vs)
unfolding every some
joined_stop true true vs h = refl
joined_stop false false vs h = refl
joined_stop true false vs h = let z : ◌≡◌ {A = Bool} false true = h in cc
joined_stop false true vs h = let z : ◌≡◌ {A = Bool} false true = h in cc

pub joined_on : (stop v : Bool) (vs : List Bool) → beq v stop ≡ false → joined stop vs ≡ joined stop (v ∷ vs)
unfolding every some
joined_on true false vs h = refl
joined_on false true vs h = refl
joined_on true true vs h = let z : ◌≡◌ {A = Bool} true false = h in cc
joined_on false false vs h = let z : ◌≡◌ {A = Bool} true false = h in cc

-- what an atom's word says is what the state says
pub atom_held : {m : List ℕ} → Sound m → (a : ℕ) → a < width_word m → get_or (state_of m).now.atoms a false ≡ is_one (atom_at m a)
unfolding state_of
atom_held {m} sound a h = listed_at (λ i. is_one (atom_at m i)) false (width_word m) a h

-- and what the search of a temporal row's set says
pub here_rolling : {m : List ℕ} {row slot : ℕ} {words : List ℕ} → Sound m → row < row_count m → 7 ≤ kind_at m row → slot ≡ slot_at m row → words ≡ slot_words m slot → Rolling words
here_rolling {m} {row} sound h k es ew =
    let inside = (sound.book.rows row h).slot k in
    rw (ew, es) (sound.sets (slot_at m row) (omega (arith, sound.book.temporal_few)))

pub here_held : {m : List ℕ} {row slot clock : ℕ} {words : List ℕ} → Sound m → row < row_count m → 7 ≤ kind_at m row → slot ≡ slot_at m row → words ≡ slot_words m slot → clock ≡ clock_of m
    → has (ringed words) clock ≡ has (set_at (state_of m) row) (state_of m).now.clock
unfolding state_of
here_held {m} {row} {slot} {clock} {words} sound h k es ew ec =
    let inside = (sound.book.rows row h).slot k in
    ap₂ has
    (ap ringed (ew ∙ ap (slot_words m) es) ∙ sym (owner_set m sound (slot_at m row) inside) ∙ ap (set_at (state_of m)) ((sound.book.rows row h).owner k))
    ec
