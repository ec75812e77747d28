-- What is proved of the kit desk, in its own terms: for the desk of any kits (`desk_of`: a refused one has no kit), any list of scans, the newest first,
-- refused ones among them, and a kit k of the desk. `taken` are the accepted scans. Nothing is assumed.
use Prim.Native.Nat.{ℕ, ◌<◌}
use native.Mathlib.Omega.{arith}
use mathlib.Core.Path.{◌≡◌, refl, sym, ap, ◌∙◌}
use mathlib.Core.Logic.{◌↔◌, ◌⊎◌, inl, inr}
use mathlib.Core.Bool.{Bool, true, false, cond, not}
use mathlib.Core.List.{List, ◌∷◌}
use lib.ListN.{length}
use lib.Dec.{eqb, ltb}
use borrow.Author.Tests.{not-false, eqb-true, eq-eqb, ne_eqb}
use Rattle.lists.proofs.Tests.{fails_by, not_no}
use Rattle.numbers.specs.Limits.{LAST_TIME}
use Rattle.numbers.specs.Refusals.{ACCEPTED, TOO_EARLY, TOO_LATE, UNKNOWN_BARCODE}
use Rattle.pmtl.specs.declared.Answer.TheVariants.{False, Open}
use Rattle.pmtl.specs.Book.{Rows, some}
use Rattle.pmtl.specs.Monitor.{value}
use Rattle.pmtl.specs.Settled.{settled}
use Rattle.pmtl.specs.Calls.{stamped, state, Outcome, call}
use Rattle.desk_rules.specs.Scans.{Kit, kit_at, Scan, codes, windows, desk_of, reads, promised, stopped, last_hour, scan_number, taken}
use Rattle.desk_rules.specs.Words.{Promised, Stopped}
use Rattle.desk_rules.specs.Rows.{PROMISE, HANDOUT, RETURN, atom_of, desk_rows, guarantee}
use Rattle.desk_rules.specs.Desk.{place_of, clear, one_on, scanned, desk_after}
use Rattle.desk_rules.proofs.Words.{promised_iff, stopped_iff}
use Rattle.desk_rules.proofs.Places.{promise_place, handout_place, return_place}
use Rattle.desk_rules.proofs.Opened.{desk_fine}
use Rattle.desk_rules.proofs.Scanned.{clear_number, scan_is, traced}
use Rattle.desk_rules.proofs.Settling.{value_is, settled_is}

-- 0, 20, 7 or 8
abbrev pub Few : ℕ → Type 0
Few n = (n ≡ ACCEPTED) ⊎ (n ≡ UNKNOWN_BARCODE) ⊎ (n ≡ TOO_EARLY) ⊎ (n ≡ TOO_LATE)

among : (desk : List Kit) (es : List Scan) (e : Scan) → Few (scan_number desk es e)
unfolding scan_number
among desk es e = go (some (eqb e.barcode) (codes desk)) (ltb e.hour (last_hour es)) (ltb LAST_TIME e.hour)
  where
    go : (known early late : Bool) → Few (cond known (cond early TOO_EARLY (cond late TOO_LATE ACCEPTED)) UNKNOWN_BARCODE)
    go false early late = inr (inl refl)
    go true true late = inr (inr (inl refl))
    go true false true = inr (inr (inr refl))
    go true false false = inl refl

-- `Stopped` looks for a promise before the handout's scan; one at that scan or before it is the same, since a handout is no promise and no return of its kit
pub at_or_before : (kits : List Kit) (k : ℕ) → k < length (desk_of kits) → (e : Scan) (es : List Scan) (t : ℕ) → e.barcode ≡ (kit_at (desk_of kits) k).handout
    → Promised (kit_at (desk_of kits) k) t (e ∷ es) ↔ Promised (kit_at (desk_of kits) k) t es
unfolding promised reads
at_or_before kits k l e es t h =
    let desk = desk_of kits in
    let x = kit_at desk k in
    let apart = (desk_fine kits).apart in
    let place = eqb-true (place_of e.barcode (codes desk)) (atom_of k HANDOUT) (handout_place desk apart e.barcode k l ∙ eq-eqb e.barcode x.handout h) in
    let p : eqb e.barcode x.promise ≡ false = sym (promise_place desk apart e.barcode k l) ∙ ne_eqb (place_of e.barcode (codes desk)) (atom_of k PROMISE) (λ y. omega arith) in
    let r : eqb e.barcode x.return ≡ false = sym (return_place desk apart e.barcode k l) ∙ ne_eqb (place_of e.barcode (codes desk)) (atom_of k RETURN) (λ y. omega arith) in
    let same : promised x t (e ∷ es) ≡ promised x t es = rw (p, r) in
    (λ q. (promised_iff x t es).0 (sym same ∙ (promised_iff x t (e ∷ es)).1 q), λ q. (promised_iff x t (e ∷ es)).0 (same ∙ (promised_iff x t es).1 q))

module _ (kits : List Kit) (scans : List Scan) where
  abbrev desk : List Kit
  desk = desk_of kits

  abbrev b : Rows
  b = desk_rows (windows desk)

  -- ---- a kit's answers
  module _ (k : ℕ) (l : k < length desk) where
    -- the value is false exactly if the kit is stopped by the accepted scans so far, and the settled answer, too; else that is open
    pub value_in_desk_terms : value b (desk_after desk scans) (guarantee k) ≡ not (stopped (kit_at desk k) (taken desk scans))
    value_in_desk_terms = let t = traced desk (desk_fine kits) scans in
        ap (λ s. value b s (guarantee k)) t.is ∙ value_is desk (desk_fine kits) k l (taken desk scans) t.timely

    pub settled_in_desk_terms : settled b (desk_after desk scans) (guarantee k) ≡ cond (stopped (kit_at desk k) (taken desk scans)) False Open
    settled_in_desk_terms = let t = traced desk (desk_fine kits) scans in
        ap (λ s. settled b s (guarantee k)) t.is ∙ settled_is desk (desk_fine kits) k l (taken desk scans) t.timely

    -- THE STATEMENT in words. The value is false exactly if at some accepted scan so far the kit's handout was scanned, and no promise of it existed
    -- before that scan, within the window, with no return of it scanned after the promise
    pub false_exactly_if : (value b (desk_after desk scans) (guarantee k) ≡ false) ↔ Stopped (kit_at desk k) (taken desk scans)
    false_exactly_if = let s = stopped_iff (kit_at desk k) (taken desk scans) in rw value_in_desk_terms
        (λ h. s.0 (not-false (stopped (kit_at desk k) (taken desk scans)) h), λ h. not_no (stopped (kit_at desk k) (taken desk scans)) (s.1 h))

    -- so is the settled answer
    pub settled_false_exactly_if : (settled b (desk_after desk scans) (guarantee k) ≡ False) ↔ Stopped (kit_at desk k) (taken desk scans)
    settled_false_exactly_if = let s = stopped_iff (kit_at desk k) (taken desk scans) in rw settled_in_desk_terms
        (λ h. s.0 (told (stopped (kit_at desk k) (taken desk scans)) h), λ h. rw (s.1 h))
      where
        told : (z : Bool) → cond z False Open ≡ False → z ≡ true
        told true e = refl
        told false e = let y : ◌≡◌ {A = ℕ} 0 1 = cc in absurd (omega arith)

    -- else the value is true and the settled answer open
    pub else_open : ¬ Stopped (kit_at desk k) (taken desk scans)
        → (value b (desk_after desk scans) (guarantee k) ≡ true) × (settled b (desk_after desk scans) (guarantee k) ≡ Open)
    else_open n =
        let x = kit_at desk k in
        let e : stopped x (taken desk scans) ≡ false = fails_by (stopped x (taken desk scans)) (λ h. n ((stopped_iff x (taken desk scans)).0 h)) in
        (value_in_desk_terms ∙ rw e, settled_in_desk_terms ∙ rw e)

  -- ---- a further scan
  module _ (e : Scan) where
    -- it is refused by its barcode and the hours of the accepted scans alone
    pub scan_number_lem : (scanned desk (desk_after desk scans) e).number ≡ scan_number desk (taken desk scans) e
    scan_number_lem = let t = traced desk (desk_fine kits) scans in
        ap (λ s. (scanned desk s e).number) t.is ∙ ap (λ (o : Outcome). o.number) (scan_is desk (desk_fine kits) (taken desk scans) t.timely e)

    -- with 20, 7 or 8, or not at all: there is always room
    pub few_numbers : Few (scanned desk (desk_after desk scans) e).number
    few_numbers = rw scan_number_lem (among desk (taken desk scans) e)

    -- a refused scan leaves no trace
    pub refused_no_trace : ¬ ((scanned desk (desk_after desk scans) e).number ≡ ACCEPTED) → desk_after desk (e ∷ scans) ≡ desk_after desk scans
    unfolding desk_after taken
    refused_no_trace n =
        let t = traced desk (desk_fine kits) scans in
        let u = traced desk (desk_fine kits) (e ∷ scans) in
        u.is ∙ rw (ne_eqb (scan_number desk (taken desk scans) e) 0 (rw scan_number_lem at n)) (sym t.is)

    -- after the stamped state the clear one is always accepted, so that a scan is whole or not at all
    pub clear_accepted :
        let width = length (codes desk) in
        let first = call b (desk_after desk scans) (stamped e.hour (one_on width (place_of e.barcode (codes desk)))) in
        (call b first.state (state (clear width))).number ≡ ACCEPTED
    clear_accepted = let t = traced desk (desk_fine kits) scans in rw t.is (clear_number desk (desk_fine kits) (taken desk scans) t.timely e)
