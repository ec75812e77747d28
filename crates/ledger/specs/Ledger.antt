-- What is kept call by call: the number of the last call, how many were accepted, and for each property what was counted of it. Definitions only.
use Rattle.std.specs.Prelude.{ℕ, suc, max, ◌≤◌, ◌<◌, ◌≡◌, Bool, cond, List, [], ◌∷◌, length, get_or, replicate, ltb, eqb}
use Rattle.lists.specs.Lists.{listed}
use Rattle.numbers.specs.Limits.{LAST_TIME}
use Rattle.numbers.specs.Refusals.{ACCEPTED}
use Rattle.pmtl.specs.Answer.{is_open}
use Rattle.pmtl.specs.Book.{Book, properties, property_at}
use Rattle.pmtl.specs.Sets.{Way}
use Rattle.pmtl.specs.Monitor.{State, value}
use Rattle.pmtl.specs.Settled.{settled}
use Rattle.pmtl.specs.Calls.{Call, Outcome, call, after_in}
use Rattle.ledger.specs.declared.Summary.{Summary}

-- the last call that is counted
abbrev pub LAST_COUNTED : ℕ
LAST_COUNTED = LAST_TIME

-- what is counted of a property: five fields of its summary, and how many accepted calls in a row, up to the last, left it false
pub record Entry : Type 0 where
  pub failed : ℕ
  pub first : ℕ
  pub last : ℕ
  pub longest : ℕ
  pub settled : ℕ
  pub stretch : ℕ

-- the number of the last call, refused ones counted, how many calls were accepted, and an entry for each property, assumes first
pub record Ledger : Type 0 where
  pub number : ℕ
  pub accepted : ℕ
  pub entries : List Entry

-- ---- before the first call
abbrev pub no_entry : Entry
no_entry = record { failed = 0; first = 0; last = 0; longest = 0; settled = 0; stretch = 0 }

abbrev pub blank_ledger : Book → Ledger
blank_ledger b = record { number = 0; accepted = 0; entries = replicate (length (properties b)) no_entry }

-- the entry of property p
abbrev pub entry_at : List Entry → ℕ → Entry
entry_at es p = get_or es p no_entry

-- a property's summary, by how many calls were accepted and its entry
abbrev pub summary_from : ℕ → Entry → Summary
summary_from accepted e = record {
  accepted = accepted;
  failed = e.failed;
  first = e.first;
  last = e.last;
  longest = e.longest;
  settled = e.settled;
}

abbrev pub summary_at : Ledger → ℕ → Summary
summary_at l p = summary_from l.accepted (entry_at l.entries p)

-- ---- one call
-- the number of a call that stands there already; n where none does
abbrev pub or_else : ℕ → ℕ → ℕ
or_else old n = cond (eqb old 0) n old

-- how many calls in a row left a property false, after one more: none where it holds now
abbrev pub stretch_after : Bool → ℕ → ℕ
stretch_after holds before = cond holds 0 (suc before)

-- a property's entry, after the accepted call n which left it holding or not, and settled or undecided
unfoldable pub noted : ℕ → (holds : Bool) → (undecided : Bool) → Entry → Entry
noted n holds undecided e = record {
  failed = cond holds e.failed (suc e.failed);
  first = cond holds e.first (or_else e.first n);
  last = cond holds e.last n;
  longest = max e.longest (stretch_after holds e.stretch);
  settled = cond undecided e.settled (or_else e.settled n);
  stretch = stretch_after holds e.stretch;
}

-- the entries, after the accepted call n which left this state
unfoldable pub entries_after : Book → ℕ → State → List Entry → List Entry
entries_after b n st es =
    listed (λ p. noted n (value b.rows st (property_at b p)) (is_open (settled b.rows st (property_at b p))) (entry_at es p)) (length (properties b))

-- the ledger after a call: a refused one changes the number alone; after the last call that is counted none changes anything
unfoldable pub next : Book → Outcome → Ledger → Ledger
next b o l = let n = suc l.number in
    cond (ltb l.number LAST_COUNTED)
    (cond (eqb o.number ACCEPTED)
    (record { number = n; accepted = suc l.accepted; entries = entries_after b n o.state l.entries })
    (record { number = n; accepted = l.accepted; entries = l.entries }))
    l

-- ---- a list of calls
-- from a state and a ledger on, the oldest first
unfoldable pub ledger_from : Book → State → Ledger → List Call → Ledger
ledger_from b st l [] = l
ledger_from b st l (k ∷ ks) = ledger_from b (call b.rows st k).state (next b (call b.rows st k) l) ks

-- from loading on in a way of monitoring, the newest first
unfoldable pub ledger_in : Way → Book → List Call → Ledger
ledger_in way b [] = blank_ledger b
ledger_in way b (k ∷ ks) = next b (call b.rows (after_in way b.rows ks) k) (ledger_in way b ks)

-- ---- numbers that can stand in a ledger
-- in an entry, after call n and so many accepted ones: none passes n, so that nothing wraps; and calls are named exactly if there are some
pub record EntryInBounds (n accepted : ℕ) (e : Entry) : Type 0 where
  pub failed : e.failed ≤ accepted
  pub last : e.last ≤ n
  pub first : e.first ≤ e.last
  pub longest : e.longest ≤ e.failed
  pub stretch : e.stretch ≤ e.longest
  pub settled : e.settled ≤ n
  pub none : e.failed ≡ 0 → e.last ≡ 0
  pub some : 0 < e.failed → 0 < e.first

-- in a ledger of so many properties
pub record LedgerInBounds (properties : ℕ) (l : Ledger) : Type 0 where
  pub number : l.number ≤ LAST_COUNTED
  pub accepted : l.accepted ≤ l.number
  pub each : length l.entries ≡ properties
  pub entries : (p : ℕ) → p < properties → EntryInBounds l.number l.accepted (entry_at l.entries p)
