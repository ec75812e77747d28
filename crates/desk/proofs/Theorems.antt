-- What opening a desk and scanning at it promise, over any kits and any list of scans, the newest first, refused ones among them: the statement of the
-- desk, in its own terms, of the answers and slips that the code hands back. `desk_of kits` is the desk: where the kits are refused it has none.
-- Nothing is assumed.
use Prim.Native.Nat.{ℕ, ◌≤◌, ◌<◌}
use native.Mathlib.Omega.{arith}
use mathlib.Core.Path.{◌≡◌, refl, sym, ap, subst, ◌∙◌}
use mathlib.Core.Logic.{◌↔◌, ⊎_elim}
use mathlib.Core.Bool.{Bool, true, false, cond}
use mathlib.Core.List.{List}
use lib.ListN.{length}
use borrow.Author.Tests.{not-false}
use Rattle.lists.proofs.Tests.{lt_or_ge, fails_by, not_no}
use Rattle.pmtl.specs.declared.Answer.TheVariants.{False, Open}
use Rattle.numbers.specs.Refusals.{ACCEPTED, UNKNOWN_BARCODE, refused_with}
use Rattle.pmtl.specs.Calls.{Call, Outcome}
use Rattle.ring.specs.Ring.{turn_after}
use Rattle.memory.specs.Memory.{slot_words}
use Rattle.memory.proofs.Same.{same_temporals, same_words, clock_in}
use Rattle.notes.specs.Noting.{numbered}
use Rattle.property_answers.specs.Verdict.{verdict_of}
use Rattle.desk_rules.specs.Scans.{Kit, kit_at, Scan, desk_of, stopped, scan_number, taken}
use Rattle.desk_rules.specs.Words.{Stopped}
use Rattle.desk_rules.proofs.Words.{stopped_iff}
use Rattle.desk_rules.proofs.Places.{codes_length}
use Rattle.desk_rules.proofs.Theorems.{Few, few_numbers, scan_number_lem as number-in-desk-terms}
use Rattle.desk.specs.declared.Scanned.{Scanned}
use Rattle.desk.specs.Standing.{kit_count, Stands, Leaves, Scans, slip_for, kit_of}
use Rattle.desk.specs.Made.{Made}
use Rattle.desk.specs.Made.Made.{opens, scans}
use Rattle.desk.proofs.Standing.{after_codes, after_count}
use Rattle.desk.proofs.Holding.{made_after, value_is, settled_is}

-- a further scan may be made
pub made_stands : {kits : List Kit} {es : List Scan} {table m : List ℕ} → Made kits es table m → Stands table m
made_stands {kits} {es} made = record { kits = kits; scans = es; after = made_after made }

module _ {kits : List Kit} {es : List Scan} {table m : List ℕ} (made : Made kits es table m) where
  abbrev desk : List Kit
  desk = desk_of kits

  -- the desk has as many kits as its table says
  pub kit_count_is : kit_count table ≡ length desk
  kit_count_is = omega (arith, after_count (made_after made), codes_length desk)

  -- ---- a kit's answers
  module _ (k : ℕ) (l : k < length desk) where
    -- THE STATEMENT: the value handed back of a kit is false exactly if at some accepted scan so far its handout was scanned, and no promise of it existed
    -- before that scan, within the window, with no return of it scanned after the promise
    pub false_exactly_if : ((verdict_of m k).value ≡ false) ↔ Stopped (kit_at desk k) (taken desk es)
    false_exactly_if =
        let x = stopped (kit_at desk k) (taken desk es) in
        let s = stopped_iff (kit_at desk k) (taken desk es) in
        (λ h. s.0 (not-false x (sym (value_is made k l) ∙ h)), λ h. value_is made k l ∙ not_no x (s.1 h))

    -- so is the settled answer
    pub settled_false_exactly_if : ((verdict_of m k).settled ≡ False) ↔ Stopped (kit_at desk k) (taken desk es)
    settled_false_exactly_if =
        let s = stopped_iff (kit_at desk k) (taken desk es) in
        (λ h. s.0 (told (stopped (kit_at desk k) (taken desk es)) (sym (settled_is made k l) ∙ h)), λ h. settled_is made k l ∙ rw (s.1 h))
      where
        told : (z : Bool) → cond z False Open ≡ False → z ≡ true
        told true e = refl
        told false e = let y : ◌≡◌ {A = ℕ} 0 1 = cc in absurd (omega arith)

    -- else the value is true and the settled answer open
    pub else_open : ¬ Stopped (kit_at desk k) (taken desk es) → ((verdict_of m k).value ≡ true) × ((verdict_of m k).settled ≡ Open)
    else_open n =
        let x = kit_at desk k in
        let e : stopped x (taken desk es) ≡ false = fails_by (stopped x (taken desk es)) (λ h. n ((stopped_iff x (taken desk es)).0 h)) in
        (value_is made k l ∙ rw e, settled_is made k l ∙ rw e)

  -- ---- a further scan
  module _ {e : Scan} {m' : List ℕ} {r : Scanned} (s : Scans e table m m' r) where
    -- it is refused by its barcode and the hours of the accepted scans alone
    pub scan_number_lem : refused_with r.outcome ≡ scan_number desk (taken desk es) e
    scan_number_lem = let a = made_after made in
        s.leaves.number ∙ rw (a.book, after_codes a, a.state) (number-in-desk-terms kits es e)

    -- with 20, 7 or 8, or not at all
    pub only_these_numbers : Few (refused_with r.outcome)
    only_these_numbers = rw (scan_number_lem ∙ sym (number-in-desk-terms kits es e)) (few_numbers kits es e)

    -- a barcode of no kit changes nothing
    pub unknown_changes_nothing : refused_with r.outcome ≡ UNKNOWN_BARCODE → m' ≡ m
    unknown_changes_nothing = s.leaves.unknown

    -- a scan of a kit that is refused changes the number of the monitor's calls, and nothing else
    pub refused_changes_nothing_else : ¬ (refused_with r.outcome ≡ ACCEPTED) → ¬ (refused_with r.outcome ≡ UNKNOWN_BARCODE) → m' ≡ numbered m
    refused_changes_nothing_else = s.leaves.refused

-- ---- what is allowed for one input coincides
-- a scan at a desk has one answer and leaves one memory
leaves_unique : {o : Outcome} {ks : List Call} (m m₁ m₂ : List ℕ) (r q : ℕ) → Leaves o ks m m₁ r → Leaves o ks m m₂ q → m₁ ≡ m₂
leaves_unique m m₁ m₂ r q x y =
    let number : r ≡ q = x.number ∙ sym y.number in
    let book = x.book ∙ sym y.book in
    let state = x.state ∙ sym y.state in
    ⊎_elim
    (λ (z : r < 1).
    let slots = same_temporals m₁ m₂ x.kept.sound y.kept.sound book in
    same_words m₁ m₂ x.kept y.kept book state
    (λ j h.
    (x.turned (omega arith)).turns j h ∙ ap (λ (c : ℕ). turn_after c (slot_words m j)) (clock_in m₁ m₂ state) ∙ sym ((y.turned (omega arith)).turns j (omega arith)))
    (x.ledger ∙ sym y.ledger))
    (λ (z : 1 ≤ r).
    ⊎_elim
    (λ (known : r < UNKNOWN_BARCODE). x.refused (omega arith) (omega arith) ∙ sym (y.refused (omega arith) (omega arith)))
    (λ (over : UNKNOWN_BARCODE ≤ r).
    ⊎_elim
    (λ (more : UNKNOWN_BARCODE < r). x.refused (omega arith) (omega arith) ∙ sym (y.refused (omega arith) (omega arith)))
    (λ (unknown : r ≤ UNKNOWN_BARCODE). x.unknown (omega arith) ∙ sym (y.unknown (omega arith)))
    (lt_or_ge UNKNOWN_BARCODE r))
    (lt_or_ge r UNKNOWN_BARCODE))
    (lt_or_ge r 1)

pub scan_unique : {e : Scan} {table m m₁ m₂ : List ℕ} {r q : Scanned} → Scans e table m m₁ r → Scans e table m m₂ q → (refused_with r.outcome ≡ refused_with q.outcome) × (r.slip ≡ q.slip) × (m₁ ≡ m₂)
scan_unique {e} {table} {m} {m₁} {m₂} {r} {q} s t =
    let x = s.leaves in
    let y = t.leaves in
    let same = leaves_unique m m₁ m₂ (refused_with r.outcome) (refused_with q.outcome) x y in
    let kit = kit_of table e in
    (x.number ∙ sym y.number, s.slip ∙ ap (λ m'. slip_for kit (verdict_of m kit).settled (verdict_of m' kit).settled) same ∙ sym t.slip, same)

-- kits opened and any list of scans leave one table and one memory
pub made_unique : {kits : List Kit} {es : List Scan} {table table' m m' : List ℕ} → Made kits es table m → Made kits es table' m' → (table ≡ table') × (m ≡ m')
made_unique {m = m} {m'} (opens o) (opens p) =
    let a = o.after in
    let b = p.after in
    let few = a.kept.sound.book.temporal_few in (
      a.barcodes ∙ sym b.barcodes,
      same_words m m' a.kept b.kept (a.book ∙ sym b.book) (a.state ∙ sym b.state) (λ j h. o.turns j (omega arith) ∙ sym (p.turns j (omega arith))) (a.ledger ∙ sym b.ledger),
    )
made_unique {table = table} {table'} {m} {m'} (scans e made s) (scans _ {m = n} {r = q} made' t) =
    let before = made_unique made made' in
    (before.0, (scan_unique s (subst (λ (x : List ℕ). Scans e table x m' q) (sym before.1) (subst (λ (x : List ℕ). Scans e x n m' q) (sym before.0) t))).2)
