-- When a stop slip prints: at the scan at which the kit is stopped, once, and never again. Assumes nothing.
use Prim.Native.Nat.{ℕ, ◌/◌, ◌≤◌, ◌<◌}
use native.Mathlib.Omega.{arith}
use mathlib.Core.Path.{◌≡◌, refl, sym, ap, ◌∙◌}
use mathlib.Core.Logic.{◌↔◌, ⊎_elim}
use mathlib.Core.Bool.{Bool, true, false, cond, not, ◌&&◌}
use mathlib.Core.List.{List, [], ◌∷◌, ◌++◌}
use lib.ListN.{length}
use lib.Dec.{eqb}
use borrow.Author.Tests.{eqb-true, eq-eqb}
use Rattle.lists.proofs.Tests.{lt_or_ge, clash, fails_by, and_left, or_right, or_elim}
use Rattle.std.specs.Prelude.{Option, Some, None}
use Rattle.pmtl.specs.declared.Answer.{Answer}
use Rattle.pmtl.specs.declared.Answer.TheVariants.{False, Open}
use Rattle.pmtl.specs.Answer.{is_false}
use Rattle.property_answers.specs.Verdict.{verdict_of}
use Rattle.desk_rules.specs.Scans.{Kit, kit_at, Scan, reads, codes, desk_of, promised, stopped, scan_number, taken}
use Rattle.desk_rules.specs.Words.{Stopped}
use Rattle.desk_rules.specs.Rows.{atom_of, HANDOUT}
use Rattle.desk_rules.specs.Desk.{place_of}
use Rattle.desk_rules.proofs.Words.{reads_is, stopped_iff}
use Rattle.desk_rules.proofs.Places.{handout_place}
use Rattle.desk_rules.proofs.Opened.{desk_fine}
use Rattle.desk.specs.declared.Scanned.{Scanned}
use Rattle.desk.specs.Standing.{slip_for, kit_of, Scans}
use Rattle.desk.specs.Made.{Made}
use Rattle.desk.specs.Made.Made.{scans}
use Rattle.desk.proofs.Standing.{after_codes}
use Rattle.desk.proofs.Holding.{made_after, value_is, settled_is, settled_none}

-- ---- slips by two settled answers
slip_stops : (j k : ℕ) (before after : Answer) → is_false before ≡ false → is_false after ≡ true → j ≡ k → slip_for j before after ≡ Some k
unfolding slip_for
slip_stops j k before after b a e = rw (b, a, e)

-- what a slip of kit k says
record Says (j k : ℕ) (before after : Answer) : Type 0 where
  same : j ≡ k
  not_before : is_false before ≡ false
  now : is_false after ≡ true

stop_same : (j k : ℕ) → ◌≡◌ {A = Option ℕ} (Some j) (Some k) → j ≡ k
stop_same j k e = cc

slip_says : (j k : ℕ) (before after : Answer) → slip_for j before after ≡ Some k → Says j k before after
unfolding slip_for
slip_says j k before after = go (is_false before) refl (is_false after) refl
  where
    go : (b : Bool) → is_false before ≡ b → (a : Bool) → is_false after ≡ a → cond b None (cond a (Some j) None) ≡ Some k → Says j k before after
    go true x a y e = let z : ◌≡◌ {A = ℕ} 0 1 = cc in absurd (omega arith)
    go false x true y e = record { same = stop_same j k e; not_before = x; now = y }
    go false x false y e = let z : ◌≡◌ {A = ℕ} 0 1 = cc in absurd (omega arith)

by_stopped : (z : Bool) → is_false (cond z False Open) ≡ z
by_stopped true = refl
by_stopped false = refl

-- ---- stopped kits stay so
stays_cons : (x : Kit) (e : Scan) (es : List Scan) → stopped x es ≡ true → stopped x (e ∷ es) ≡ true
unfolding stopped
stays_cons x e es h = or_right (reads x.handout e && not (promised x e.hour es)) (stopped x es) h

stays_taken : (desk : List Kit) (x : Kit) (e : Scan) (es : List Scan) → stopped x (taken desk es) ≡ true → stopped x (taken desk (e ∷ es)) ≡ true
unfolding taken
stays_taken desk x e es h = go (eqb (scan_number desk (taken desk es) e) 0)
  where
    go : (z : Bool) → stopped x (cond z (e ∷ taken desk es) (taken desk es)) ≡ true
    go true = stays_cons x e (taken desk es) h
    go false = h

stays_all : (desk : List Kit) (x : Kit) (more es : List Scan) → stopped x (taken desk es) ≡ true → stopped x (taken desk (more ++ es)) ≡ true
stays_all desk x [] es h = h
stays_all desk x (e ∷ more) es h = stays_taken desk x e (more ++ es) (stays_all desk x more es h)

-- a kit that is stopped just now was handed out
handed_out : (desk : List Kit) (x : Kit) (e : Scan) (es : List Scan) → stopped x (taken desk es) ≡ false → stopped x (taken desk (e ∷ es)) ≡ true → reads x.handout e ≡ true
unfolding taken stopped
handed_out desk x e es n = go (eqb (scan_number desk (taken desk es) e) 0)
  where
    go : (z : Bool) → stopped x (cond z (e ∷ taken desk es) (taken desk es)) ≡ true → reads x.handout e ≡ true
    go true h = or_elim (reads x.handout e && not (promised x e.hour (taken desk es))) (stopped x (taken desk es)) (λ p. and_left _ _ p) (λ p. absurd (clash p n)) h
    go false h = absurd (clash h n)

-- ---- a scan at a desk
module _ {kits : List Kit} {es : List Scan} {table m : List ℕ} (made : Made kits es table m) {e : Scan} {m' : List ℕ} {r : Scanned} (s : Scans e table m m' r) where
  abbrev desk : List Kit
  desk = desk_of kits

  abbrev here : ℕ
  here = kit_of table e

  later : Made kits (e ∷ es) table m'
  later = scans e made s

  place_is : here ≡ place_of e.barcode (codes desk) / 3
  place_is = ap (λ cs. place_of e.barcode cs / 3) (after_codes (made_after made))

  false_before : (k : ℕ) → k < length desk → is_false (verdict_of m k).settled ≡ stopped (kit_at desk k) (taken desk es)
  false_before k l = ap is_false (settled_is made k l) ∙ by_stopped (stopped (kit_at desk k) (taken desk es))

  false_after : (k : ℕ) → k < length desk → is_false (verdict_of m' k).settled ≡ stopped (kit_at desk k) (taken desk (e ∷ es))
  false_after k l = ap is_false (settled_is later k l) ∙ by_stopped (stopped (kit_at desk k) (taken desk (e ∷ es)))

  -- just stopped
  record Just (k : ℕ) : Type 0 where
    inside : k < length desk
    not_before : stopped (kit_at desk k) (taken desk es) ≡ false
    now : stopped (kit_at desk k) (taken desk (e ∷ es)) ≡ true

  printed_just : (k : ℕ) → r.slip ≡ Some k → Just k
  printed_just k h =
      let y = slip_says here k (verdict_of m here).settled (verdict_of m' here).settled (sym s.slip ∙ h) in
      ⊎_elim (kit y) (none y) (lt_or_ge k (length desk))
    where
      kit : Says here k (verdict_of m here).settled (verdict_of m' here).settled → k < length desk → Just k
      kit y l = record {
        inside = l;
        not_before = sym (false_before k l) ∙ ap (λ i. is_false (verdict_of m i).settled) (sym y.same) ∙ y.not_before;
        now = sym (false_after k l) ∙ ap (λ i. is_false (verdict_of m' i).settled) (sym y.same) ∙ y.now;
      }

      none : Says here k (verdict_of m here).settled (verdict_of m' here).settled → length desk ≤ k → Just k
      none y l = absurd (clash y.now (ap is_false (settled_none later here (rw y.same l))))

  just_printed : (k : ℕ) → Just k → r.slip ≡ Some k
  just_printed k j =
      let x = kit_at desk k in
      let h = handed_out desk x e es j.not_before j.now in
      let p = eqb-true (place_of e.barcode (codes desk)) (atom_of k HANDOUT) (handout_place desk (desk_fine kits).apart e.barcode k j.inside ∙ eq-eqb e.barcode x.handout (reads_is x.handout e h)) in
      let q : here ≡ k = omega (arith, place_is, p) in
      s.slip ∙ slip_stops here k (verdict_of m here).settled (verdict_of m' here).settled
      (ap (λ i. is_false (verdict_of m i).settled) q ∙ false_before k j.inside ∙ j.not_before)
      (ap (λ i. is_false (verdict_of m' i).settled) q ∙ false_after k j.inside ∙ j.now)
      q

  -- the slip of kit k prints at a scan exactly if the kit is stopped by the accepted scans so far, this one with them, and was not before it
  pub slip_exactly_if : (k : ℕ)
      → (r.slip ≡ Some k) ↔ ((k < length desk) × (¬ Stopped (kit_at desk k) (taken desk es)) × Stopped (kit_at desk k) (taken desk (e ∷ es)))
  slip_exactly_if k = (to, fro)
    where
      to : r.slip ≡ Some k → (k < length desk) × (¬ Stopped (kit_at desk k) (taken desk es)) × Stopped (kit_at desk k) (taken desk (e ∷ es))
      to h = let j = printed_just k h in
          (j.inside, λ y. clash ((stopped_iff (kit_at desk k) (taken desk es)).1 y) j.not_before, (stopped_iff (kit_at desk k) (taken desk (e ∷ es))).0 j.now)

      fro : (k < length desk) × (¬ Stopped (kit_at desk k) (taken desk es)) × Stopped (kit_at desk k) (taken desk (e ∷ es)) → r.slip ≡ Some k
      fro h = just_printed k (record {
        inside = h.0;
        not_before = fails_by (stopped (kit_at desk k) (taken desk es)) (λ y. h.1 ((stopped_iff (kit_at desk k) (taken desk es)).0 y));
        now = (stopped_iff (kit_at desk k) (taken desk (e ∷ es))).1 h.2;
      })

  -- that is where its settled answer has just become false
  pub slip_just_settled : (k : ℕ) → (r.slip ≡ Some k) → (¬ ((verdict_of m k).settled ≡ False)) × ((verdict_of m' k).settled ≡ False)
  slip_just_settled k h =
      let j = printed_just k h in
      (λ y. clash (sym (false_before k j.inside) ∙ ap is_false y) j.not_before, settled_is later k j.inside ∙ rw j.now)

-- a slip that was printed never prints again, whatever is scanned
pub never_again : {kits : List Kit} {es : List Scan} {table m : List ℕ} (made : Made kits es table m) {e : Scan} {m₁ : List ℕ} {r : Scanned} (s : Scans e table m m₁ r) (k : ℕ) → r.slip ≡ Some k
    → (more : List Scan) {table' m₂ : List ℕ} → Made kits (more ++ e ∷ es) table' m₂ → {f : Scan} {m₃ : List ℕ} {q : Scanned} → Scans f table' m₂ m₃ q → ¬ (q.slip ≡ Some k)
never_again {kits} {es} made {e} s k h more made' t g =
    let j = printed_just made s k h in
    clash (stays_all (desk_of kits) (kit_at (desk_of kits) k) more (e ∷ es) j.now) (printed_just made' t k g).not_before

-- nor is it ever taken back: a kit that is settled false stays so, and its value is false
pub never_taken_back : {kits : List Kit} {es : List Scan} {table m : List ℕ} → Made kits es table m → (k : ℕ) → k < length (desk_of kits) → (verdict_of m k).settled ≡ False
    → (more : List Scan) {table' m' : List ℕ} → Made kits (more ++ es) table' m' → ((verdict_of m' k).value ≡ false) × ((verdict_of m' k).settled ≡ False)
never_taken_back {kits} {es} made k l h more later =
    let x = kit_at (desk_of kits) k in
    let now : stopped x (taken (desk_of kits) es) ≡ true = sym (by_stopped (stopped x (taken (desk_of kits) es))) ∙ ap is_false (sym (settled_is made k l) ∙ h) in
    let then = stays_all (desk_of kits) x more es now in
    (value_is later k l ∙ rw then, settled_is later k l ∙ rw then)
