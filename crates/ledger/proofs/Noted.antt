-- What one call makes of a ledger, field by field, and that nothing in it wraps. Assumes nothing.
use Prim.Native.Nat.{ℕ, suc, max, ◌<◌, ◌≤◌}
use native.Mathlib.Omega.{arith}
use native.Mathlib.Decide.{dec_lt, ℕ_discrete}
use mathlib.Core.Path.{◌≡◌, refl, ap, ◌∙◌}
use mathlib.Core.Bool.{Bool, true, false, cond}
use lib.ListN.{length, length-replicate, get_or-replicate}
use lib.Dec.{eqb}
use borrow.Author.Tests.{lt-ltb, le-ltb, eq-eqb, ne_eqb}
use Rattle.lists.specs.Lists.{listed}
use Rattle.lists.proofs.Listed.{listed_length, listed_at}
use Rattle.numbers.specs.Refusals.{ACCEPTED}
use Rattle.pmtl.specs.Answer.{is_open}
use Rattle.pmtl.specs.Book.{Book, properties, property_at}
use Rattle.pmtl.specs.Monitor.{value}
use Rattle.pmtl.specs.Settled.{settled}
use Rattle.pmtl.specs.Calls.{Outcome}
use Rattle.ledger.specs.Ledger.{LAST_COUNTED, Entry, Ledger, no_entry, blank_ledger, entry_at, or_else, stretch_after, noted, entries_after, next, EntryInBounds, LedgerInBounds}

-- ---- one property, after the accepted call n
module _ (n : ℕ) (holds undecided : Bool) (e : Entry) where
  pub failed_now : (noted n holds undecided e).failed ≡ cond holds e.failed (suc e.failed)
  unfolding noted
  failed_now = refl

  pub first_now : (noted n holds undecided e).first ≡ cond holds e.first (or_else e.first n)
  unfolding noted
  first_now = refl

  pub last_now : (noted n holds undecided e).last ≡ cond holds e.last n
  unfolding noted
  last_now = refl

  pub longest_now : (noted n holds undecided e).longest ≡ max e.longest (stretch_after holds e.stretch)
  unfolding noted
  longest_now = refl

  pub settled_now_lem : (noted n holds undecided e).settled ≡ cond undecided e.settled (or_else e.settled n)
  unfolding noted
  settled_now_lem = refl

  pub stretch_now : (noted n holds undecided e).stretch ≡ stretch_after holds e.stretch
  unfolding noted
  stretch_now = refl

-- ---- one call
module _ (b : Book) (o : Outcome) (l : Ledger) where
  -- what an accepted one makes of the entry of property p
  abbrev pub noted_at : ℕ → Entry
  noted_at p = noted (suc l.number) (value b.rows o.state (property_at b p)) (is_open (settled b.rows o.state (property_at b p))) (entry_at l.entries p)

  pub next_accepted : l.number < LAST_COUNTED → o.number ≡ ACCEPTED → next b o l ≡ record { number = suc l.number; accepted = suc l.accepted; entries = listed noted_at (length (properties b)) }
  unfolding next entries_after
  next_accepted h e = rw (lt-ltb l.number LAST_COUNTED h, eq-eqb o.number ACCEPTED e)

  -- a refused one changes the number alone
  pub next_refused : l.number < LAST_COUNTED → ¬ (o.number ≡ ACCEPTED) → next b o l ≡ record { number = suc l.number; accepted = l.accepted; entries = l.entries }
  unfolding next entries_after
  next_refused h e = rw (lt-ltb l.number LAST_COUNTED h, ne_eqb o.number ACCEPTED e)

  -- and after the last that is counted, none changes anything
  pub next_past : LAST_COUNTED ≤ l.number → next b o l ≡ l
  unfolding next
  next_past h = rw (le-ltb l.number LAST_COUNTED h)

  pub number_next : l.number < LAST_COUNTED → (next b o l).number ≡ suc l.number
  number_next h = go (ℕ_discrete o.number ACCEPTED)
    where
      go : Dec (o.number ≡ ACCEPTED) → (next b o l).number ≡ suc l.number
      go (yes e) = ap (λ (k : Ledger). k.number) (next_accepted h e)
      go (no e) = ap (λ (k : Ledger). k.number) (next_refused h e)

  pub entry_next : l.number < LAST_COUNTED → o.number ≡ ACCEPTED → (p : ℕ) → p < length (properties b) → entry_at (next b o l).entries p ≡ noted_at p
  entry_next h e p inside = ap (λ (k : Ledger). entry_at k.entries p) (next_accepted h e) ∙ listed_at noted_at no_entry (length (properties b)) p inside

  pub entries_refused : ¬ (o.number ≡ ACCEPTED) → (next b o l).entries ≡ l.entries
  entries_refused e = go (dec_lt l.number LAST_COUNTED)
    where
      go : Dec (l.number < LAST_COUNTED) → (next b o l).entries ≡ l.entries
      go (yes h) = ap (λ (k : Ledger). k.entries) (next_refused h e)
      go (no h) = ap (λ (k : Ledger). k.entries) (next_past (omega arith))

-- ---- the numbers in it
blank_entry : EntryInBounds 0 0 no_entry
blank_entry = record {
  failed = omega arith;
  last = omega arith;
  first = omega arith;
  longest = omega arith;
  stretch = omega arith;
  settled = omega arith;
  none = λ e. refl;
  some = λ h. absurd (omega arith);
}

pub blank_counts : (b : Book) → LedgerInBounds (length (properties b)) (blank_ledger b)
blank_counts b = record {
  number = omega arith;
  accepted = omega arith;
  each = length-replicate (length (properties b)) no_entry;
  entries = λ p h. rw (get_or-replicate (length (properties b)) p no_entry no_entry h) blank_entry;
}

later_entry : {n a : ℕ} {e : Entry} → EntryInBounds n a e → EntryInBounds (suc n) a e
later_entry c = record {
  failed = c.failed;
  last = omega (arith, c.last);
  first = c.first;
  longest = c.longest;
  stretch = c.stretch;
  settled = omega (arith, c.settled);
  none = c.none;
  some = c.some;
}

or_else_most : (old n k : ℕ) → old ≤ k → n ≤ k → or_else old n ≤ k
or_else_most old n k h h' = go (eqb old 0)
  where
    go : (z : Bool) → cond z n old ≤ k
    go true = h'
    go false = h

pub or_else_over : (old n : ℕ) → 0 < n → 0 < or_else old n
or_else_over old n h = go (ℕ_discrete old 0)
  where
    go : Dec (old ≡ 0) → 0 < or_else old n
    go (yes e) = rw (eq-eqb old 0 e) h
    go (no e) = rw (ne_eqb old 0 e) (omega arith)

noted_entry : {n a : ℕ} {e : Entry} → EntryInBounds n a e → (holds undecided : Bool) → EntryInBounds (suc n) (suc a) (noted (suc n) holds undecided e)
unfolding noted
noted_entry {n} {a} {e} c holds undecided = go holds
  where
    settled_most : (z : Bool) → cond z e.settled (or_else e.settled (suc n)) ≤ suc n
    settled_most true = omega (arith, c.settled)
    settled_most false = or_else_most e.settled (suc n) (suc n) (omega (arith, c.settled)) (omega arith)

    go : (holds : Bool) → EntryInBounds (suc n) (suc a) (noted (suc n) holds undecided e)
    go true = record {
      failed = omega (arith, c.failed);
      last = omega (arith, c.last);
      first = c.first;
      longest = omega (arith, c.longest);
      stretch = omega arith;
      settled = settled_most undecided;
      none = c.none;
      some = c.some;
    }
    go false = record {
      failed = omega (arith, c.failed);
      last = omega arith;
      first = or_else_most e.first (suc n) (suc n) (omega (arith, c.first, c.last)) (omega arith);
      longest = omega (arith, c.longest, c.stretch);
      stretch = omega arith;
      settled = settled_most undecided;
      none = λ z. absurd (omega arith);
      some = λ h. or_else_over e.first (suc n) (omega arith);
    }

pub next_counts : (b : Book) (o : Outcome) (l : Ledger) → LedgerInBounds (length (properties b)) l → LedgerInBounds (length (properties b)) (next b o l)
next_counts b o l c = go (dec_lt l.number LAST_COUNTED) (ℕ_discrete o.number ACCEPTED)
  where
    go : Dec (l.number < LAST_COUNTED) → Dec (o.number ≡ ACCEPTED) → LedgerInBounds (length (properties b)) (next b o l)
    go (no h) e = rw (next_past b o l (omega arith)) c
    go (yes h) (no e) = rw (next_refused b o l h e) (record { number = h; accepted = omega (arith, c.accepted); each = c.each; entries = λ p i. later_entry (c.entries p i) })
    go (yes h) (yes e) = rw (next_accepted b o l h e) (record {
      number = h;
      accepted = omega (arith, c.accepted);
      each = listed_length (noted_at b o l) (length (properties b));
      entries = λ p i. rw (listed_at (noted_at b o l) no_entry (length (properties b)) p i) (noted_entry (c.entries p i) _ _);
    })
