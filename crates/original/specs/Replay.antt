-- Calls made on the original: those that our monitor accepts, and all those that REFERENCE 5.3 allows. Definitions only.
use Rattle.std.specs.Prelude.{ℕ, Bool, true, false, cond, List, [], ◌∷◌, map, eqb}
use Rattle.pmtl.specs.Book.{Rows, Book}
use Rattle.pmtl.specs.Monitor.{State, initial, step}
use Rattle.pmtl.specs.Calls.{Call, time, state, stamped, turns, refusal, call, after, History, now_of, onto}
use Rattle.original.specs.Rust.{Ran, ◌>>=◌}
use Rattle.original.specs.Rust.Ran.{done}
use Rattle.original.specs.PmtlOracle.{PmtlOracle, update_state, update_time}
use Rattle.original.specs.Formulas.{oracle_of}

-- a state of the original: atom n is byte n
abbrev pub bits_of : List ℕ → List Bool
bits_of bytes = map (λ x. eqb x 1) bytes

-- a call made on the original, which has no stamped calls: that is its two, the one after the other
unfoldable pub made : PmtlOracle → Call → Ran PmtlOracle
made o (time t) = update_time o t
made o (state bytes) = update_state o (bits_of bytes)
made o (stamped t bytes) = update_time o t >>= λ p. update_state p (bits_of bytes)

-- the original after calls, the newest first, of which those are made that our monitor accepts
unfoldable pub replayed : Book → List Call → Ran PmtlOracle
replayed b [] = done (oracle_of b)
replayed b (k ∷ ks) = elim (eqb (call b.rows (after b.rows ks) k).number 0) [
  | true ↦ replayed b ks >>= λ o. made o k
  | false ↦ replayed b ks
]

-- the history of all calls that REFERENCE 5.3 allows, 2, 7 to 10 and 16 being refused: whatever number of runs their sets have
unfoldable pub allowed : Rows → List Call → History
allowed b [] = []
allowed b (k ∷ ks) = cond (eqb (refusal b (now_of b (allowed b ks)) k) 0) (onto (turns (now_of b (allowed b ks)) k) (allowed b ks)) (allowed b ks)

-- the original after all of those
unfoldable pub replayed_all : Book → List Call → Ran PmtlOracle
replayed_all b [] = done (oracle_of b)
replayed_all b (k ∷ ks) = elim (eqb (refusal b.rows (now_of b.rows (allowed b.rows ks)) k) 0) [
  | true ↦ replayed_all b ks >>= λ o. made o k
  | false ↦ replayed_all b ks
]

-- the state of a monitor with any room, after a history
unfoldable pub reached : Rows → History → State
reached b [] = initial b
reached b (s ∷ h) = step b (reached b h) s
