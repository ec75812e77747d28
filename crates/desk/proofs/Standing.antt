-- Desks that are opened, and what a scan leaves of one. Assumes nothing.
use Prim.Native.Nat.{ℕ, zero, suc, ◌+◌, ◌*◌, ◌/◌, ◌≤◌, ◌<◌}
use native.Mathlib.Omega.{arith}
use mathlib.Core.Path.{◌≡◌, refl, sym, ap, ◌∙◌}
use mathlib.Core.Bool.{Bool, true, false}
use mathlib.Core.List.{List, [], ◌∷◌}
use lib.ListN.{length, get_or, set, take, drop, replicate, length-replicate}
use lib.Seq.{sets, length-sets, take-nil, take-set-lt, get_or-take}
use borrow.Author.Tests.{lt-ltb, le-ltb, eqb-true}
use Rattle.numbers.specs.Limits.{MOST_KITS}
use Rattle.numbers.specs.Refusals.{ACCEPTED, UNKNOWN_BARCODE, refused_with}
use Rattle.lists.specs.Lists.{listed, part}
use Rattle.std.specs.Prelude.{Result, Ok, Err, is_ok}
use Rattle.numbers.specs.declared.Refusal.{Refusal}
use Rattle.numbers.proofs.Refused.{never_0}
use Rattle.lists.proofs.Tests.{clash}
use Rattle.pmtl.specs.Book.{Rows, Book}
use Rattle.pmtl.specs.Monitor.{State, initial, step_by}
use Rattle.pmtl.specs.Calls.{Call, stamped, state, Outcome, call}
use Rattle.pmtl.proofs.Calls.{refused_stays, steps, call_accepts, accepts_call}
use Rattle.ledger.specs.Ledger.{blank_ledger, next, ledger_from}
use Rattle.ring.specs.Ring.{turn_after}
use Rattle.memory.specs.Memory.{begun_word, clock_of, slot_words, book_of, state_of, ledger_of}
use Rattle.memory.specs.Kept.{Kept}
use Rattle.memory.proofs.Same.{same_temporals}
use Rattle.book.specs.declared.loading.Loading.TheVariants.{Strict}
use Rattle.book.specs.Judging.{Loaded}
use Rattle.book.specs.Loading.{loaded_by}
use Rattle.loader.specs.Loading.{Loads}
use Rattle.calls.specs.Called.{Turned, Called}
use Rattle.calls.proofs.Stood.{turned_still}
use Rattle.trees.proofs.Built.{take_sets}
use Rattle.desk_rules.specs.Scans.{Kit, Scan, codes, windows, open_number, desk_of, Fine}
use Rattle.desk_rules.specs.Rows.{desk_rows, desk_book}
use Rattle.desk_rules.specs.Desk.{place_of, clear, one_on, pulse, scanned_at, scanned_in, desk_after}
use Rattle.desk_rules.proofs.Places.{codes_length}
use Rattle.desk_rules.proofs.Opened.{none_fine, accepted_fine, refused_desk, accepted_desk, desk_fine}
use Rattle.desk_rules.proofs.Loaded.{book_loads_strictly}
use Rattle.desk_rules.proofs.Scanned.{both_cleared, neither_cleared}
use Rattle.desk_rules.proofs.Theorems.{clear_accepted}
use Rattle.property_answers.specs.declared.Verdict.{Verdict}
use Rattle.property_answers.specs.Verdict.{verdict_of}
use Rattle.desk.specs.declared.Scanned.{Scanned}
use Rattle.desk.specs.Kits.{MOST_BARCODES, kits_in}
use Rattle.desk.specs.Counted.{pulse_calls, calls_at, calls_in, desk_ledger}
use Rattle.desk.specs.Standing.{TABLE_SIZE, table_of, codes_in, After, Stands, Opens, Leaves, slip_for, Scans}
use Rattle.desk.specs.Private.{BookPut, SetUp, Ready}
use Rattle.desk.proofs.Kits.{place_inside, kits_length, codes_many}
use Rattle.desk.proofs.Counted.{call_small, one_counted, both_counted, known_calls, unknown_calls}

-- ---- the table
pub table_put : (m w w₁ w₂ : List ℕ) (n : ℕ) → length w ≡ TABLE_SIZE → w₁ ≡ replicate (length w) 0 → w₂ ≡ sets (set w₁ 0 (3 * n)) 1 (codes (kits_in m n))
    → w₂ ≡ table_of (kits_in m n)
unfolding table_of
table_put m w w₁ w₂ n l e f = let k = codes_many m n in f ∙ rw (e, l, k)

pub table_long : (kits : List Kit) → length (table_of kits) ≡ TABLE_SIZE
unfolding table_of
table_long kits = length-sets (replicate TABLE_SIZE 0) 0 (length (codes kits) ∷ codes kits) ∙ length-replicate {A = ℕ} TABLE_SIZE 0

drop_take : (n : ℕ) (xs : List ℕ) → drop 1 (take (1 + n) xs) ≡ take n (drop 1 xs)
drop_take n xs = let e : 1 + n ≡ suc n = omega arith in rw e (go xs)
  where
    go : (xs : List ℕ) → drop 1 (take (suc n) xs) ≡ take n (drop 1 xs)
    go [] = sym (take-nil n)
    go (x ∷ xs) = refl

module _ (kits : List Kit) (few : length kits ≤ MOST_KITS) where
  take_table : take (1 + length (codes kits)) (table_of kits) ≡ length (codes kits) ∷ codes kits
  unfolding table_of
  take_table =
      let z : 1 + length (codes kits) ≡ 0 + suc (length (codes kits)) = omega arith in
      rw z (take_sets (replicate TABLE_SIZE 0) 0 (length (codes kits) ∷ codes kits) (omega (arith, codes_length kits, length-replicate {A = ℕ} TABLE_SIZE 0)))

  pub table_count : get_or (table_of kits) 0 0 ≡ length (codes kits)
  table_count =
      let n = length (codes kits) in
      sym (get_or-take (1 + n) (table_of kits) 0 0 (omega arith)) ∙ ap (λ (xs : List ℕ). get_or xs 0 0) take_table

  pub table_codes : codes_in (table_of kits) ≡ codes kits
  table_codes = rw table_count (sym (drop_take (length (codes kits)) (table_of kits)) ∙ ap (drop 1) take_table)

-- ---- opening
pub set_up : (kits : List Kit) → Fine kits → (words w : List ℕ) (end : ℕ) (m : List ℕ) (r : ℕ) → words ≡ part 0 end w → BookPut (windows kits) w end
    → Loads Strict words m r → SetUp kits m
set_up kits fine words w end m r e p l =
    let said : loaded_by Strict words ≡ record { number = ACCEPTED; book = desk_book (windows kits) } = ap (loaded_by Strict) (e ∙ p.are) ∙ book_loads_strictly kits fine in
    record {
      book = l.book ∙ ap (λ (x : Loaded). x.book) said;
      state = l.state ∙ ap (λ (x : Loaded). initial x.book.rows) said;
      turns = l.turns;
      ledger = l.ledger ∙ ap (λ (x : Loaded). blank_ledger x.book) said;
      kept = l.kept;
    }

none_given : (words : List ℕ) → kits_in words 0 ≡ []
unfolding kits_in listed
none_given words = refl

opened : (kits : List Kit) (table m : List ℕ) (r : ℕ) (desk : List Kit) → desk ≡ desk_of kits → r ≡ open_number kits → table ≡ table_of desk → SetUp desk m → Opens kits table m r
unfolding desk_after desk_ledger
opened kits table m r desk e n t s =
    let after : After kits [] table m = record {
      barcodes = t ∙ ap table_of e;
      book = s.book ∙ ap (λ ks. desk_book (windows ks)) e;
      state = s.state ∙ ap (λ ks. initial (desk_rows (windows ks))) e;
      ledger = s.ledger ∙ ap (λ ks. blank_ledger (desk_book (windows ks))) e;
      kept = s.kept;
    } in
    record { number = n; after = after; turns = s.turns; stands = record { kits = kits; scans = []; after = after } }

-- so many of the kits are taken: all of them, or none where the desk is refused
pub record Takes (words : List ℕ) (n k : ℕ) : Type 0 where
  pub desk : kits_in words k ≡ desk_of (kits_in words n)
  pub fine : Fine (kits_in words k)
  pub few : k ≤ MOST_KITS

takes : (words : List ℕ) (n k : ℕ) → kits_in words k ≡ desk_of (kits_in words n) → Fine (kits_in words k) → Takes words n k
takes words n k e f = record { desk = e; fine = f; few = omega (arith, f.few, kits_length words k) }

module _ (r : Result (Unit {0}) Refusal) {b : Bool} (e : b ≡ is_ok r) where
  pub ok_accepted : b ≡ true → refused_with r ≡ 0
  ok_accepted t = go r (sym e ∙ t)
    where
      go : (r : Result (Unit {0}) Refusal) → is_ok r ≡ true → refused_with r ≡ 0
      go (Ok x) h = refl
      go (Err q) h = absurd (clash h refl)

  pub err_refused : b ≡ false → ¬ (refused_with r ≡ 0)
  err_refused f = go r (sym e ∙ f)
    where
      go : (r : Result (Unit {0}) Refusal) → is_ok r ≡ false → ¬ (refused_with r ≡ 0)
      go (Ok x) h = absurd (clash refl h)
      go (Err q) h = never_0 q

module _ (words : List ℕ) (n : ℕ) {r : ℕ} (e : r ≡ open_number (kits_in words n)) where
  pub takes_all : {k : ℕ} → r ≡ 0 → k ≡ n → Takes words n k
  takes_all {k} z s = rw s (takes words n n (sym (accepted_desk (kits_in words n) (sym e ∙ z))) (accepted_fine (kits_in words n) (sym e ∙ z)))

  pub takes_none : {k : ℕ} → ¬ (r ≡ 0) → k ≡ 0 → Takes words n k
  takes_none {k} z s = rw s (takes words n 0 (none_given words ∙ sym (refused_desk (kits_in words n) (λ h. z (e ∙ h)))) (rw (none_given words) none_fine))

  pub opens : {k : ℕ} (table m : List ℕ) → Takes words n k → table ≡ table_of (kits_in words k) → SetUp (kits_in words k) m → Opens (kits_in words n) table m r
  opens {k} table m t p s = opened (kits_in words n) table m r (kits_in words k) t.desk e p s

-- ---- an atom on and off
take_zeros : (n k : ℕ) → n ≤ k → take n (replicate {A = ℕ} k 0) ≡ replicate n 0
take_zeros zero k h = refl
take_zeros (suc n) zero h = absurd (omega arith)
take_zeros (suc n) (suc k) h = ap (λ (xs : List ℕ). 0 ∷ xs) (take_zeros n k (omega arith))

off_is : (width : ℕ) (bytes : List ℕ) → width ≤ MOST_BARCODES → bytes ≡ take width (replicate MOST_BARCODES 0) → bytes ≡ clear width
off_is width bytes h e = e ∙ take_zeros width MOST_BARCODES h

on_is : (width place : ℕ) (bytes : List ℕ) → width ≤ MOST_BARCODES → place < width → bytes ≡ take width (set (replicate MOST_BARCODES 0) place 1) → bytes ≡ one_on width place
on_is width place bytes h l e = e ∙ take-set-lt width (replicate MOST_BARCODES 0) place 1 l ∙ ap (λ (xs : List ℕ). set xs place 1) (take_zeros width MOST_BARCODES h)

-- ---- a stamped call and a state call at its clock: the second finds nothing that lapsed
stamped_begun : (b : Rows) (st : State) (t : ℕ) (bytes : List ℕ) → (call b st (stamped t bytes)).number ≡ 0 → (call b st (stamped t bytes)).state.begun ≡ true
unfolding steps step_by
stamped_begun b st t bytes e = ap (λ (o : Outcome). o.state.begun) (accepts_call b st (stamped t bytes) (call_accepts b st (stamped t bytes) e))

state_clock : (b : Rows) (st : State) (bytes : List ℕ) → (call b st (state bytes)).number ≡ 0 → (call b st (state bytes)).state.now.clock ≡ st.now.clock
unfolding steps step_by
state_clock b st bytes e = ap (λ (o : Outcome). o.state.now.clock) (accepts_call b st (state bytes) (call_accepts b st (state bytes) e))

turned_on : (m m₁ m₂ : List ℕ) (t : ℕ) (on off : List ℕ) (r q : ℕ) → Called (stamped t on) m m₁ r → r ≡ 0 → Called (state off) m₁ m₂ q → q ≡ 0 → Turned m m₂
unfolding state_of
turned_on m m₁ m₂ t on off r q c z d y =
    let begun : begun_word m₁ ≡ 1 = eqb-true (begun_word m₁) 1 (ap (λ (st : State). st.begun) c.state ∙ stamped_begun (book_of m).rows (state_of m) t on (sym c.number ∙ z)) in
    let clock : clock_of m₂ ≡ clock_of m₁ = ap (λ (st : State). st.now.clock) d.state ∙ state_clock (book_of m₁).rows (state_of m₁) off (sym d.number ∙ y) in
    let slots = same_temporals m₂ m₁ d.kept.sound c.kept.sound d.book in
    record {
      turns = λ j h.
          (d.turned y).turns j h
          ∙ ap (λ (x : ℕ). turn_after x (slot_words m₁ j)) clock
          ∙ sym ((turned_still c.kept begun m₁ (λ i l. refl)).turns j (omega arith))
          ∙ (c.turned z).turns j (omega arith)
          ∙ ap (λ (x : ℕ). turn_after x (slot_words m j)) (sym clock);
    }

module _ (m : List ℕ) (t width place : ℕ) (ready : Ready m t width place) (here : place < width) where
  abbrev b : Rows
  b = (book_of m).rows

  abbrev first : Outcome
  first = call b (state_of m) (stamped t (one_on width place))

  pub pulse_refused : (m' bytes : List ℕ) (r : ℕ) → bytes ≡ take width (set (replicate MOST_BARCODES 0) place 1) → Called (stamped t bytes) m m' r → ¬ (r ≡ 0)
      → Leaves (pulse b width (state_of m) t place) (pulse_calls b width (state_of m) t place) m m' r
  unfolding pulse
  pulse_refused m' bytes r e c n =
      let q = on_is width place bytes ready.few here e in
      let made : call b (state_of m) (stamped t bytes) ≡ first = ap (λ bs. call b (state_of m) (stamped t bs)) q in
      let k : r ≡ first.number = c.number ∙ ap (λ (x : Outcome). x.number) made in
      let out : ¬ (first.number ≡ 0) = λ z. n (k ∙ z) in
      let o = neither_cleared b width (state_of m) first out in
      record {
        number = k ∙ sym (ap (λ (x : Outcome). x.number) o);
        state = c.state ∙ ap (λ (x : Outcome). x.state) made ∙ refused_stays b (state_of m) (stamped t (one_on width place)) out ∙ sym (ap (λ (x : Outcome). x.state) o);
        book = c.book;
        turned = λ z. absurd (n z);
        ledger = c.ledger ∙ ap (λ (x : Outcome). next (book_of m) x (ledger_of m)) made ∙ sym (one_counted (book_of m) width (state_of m) (ledger_of m) t place out);
        unknown = λ z. absurd (omega (arith, call_small b (state_of m) (stamped t (one_on width place))));
        refused = λ h known. c.refused h;
        kept = c.kept;
      }

  pub pulse_taken : (m₁ m₂ on off : List ℕ) (r q : ℕ) → on ≡ take width (set (replicate MOST_BARCODES 0) place 1) → Called (stamped t on) m m₁ r → r ≡ 0
      → off ≡ take width (replicate MOST_BARCODES 0) → Called (state off) m₁ m₂ q
      → Leaves (pulse b width (state_of m) t place) (pulse_calls b width (state_of m) t place) m m₂ q
  unfolding pulse
  pulse_taken m₁ m₂ on off r q e c z f d =
      let s = on_is width place on ready.few here e in
      let w = off_is width off ready.few f in
      let made : call b (state_of m) (stamped t on) ≡ first = ap (λ bs. call b (state_of m) (stamped t bs)) s in
      let k : r ≡ first.number = c.number ∙ ap (λ (x : Outcome). x.number) made in
      let u : state_of m₁ ≡ first.state = c.state ∙ ap (λ (x : Outcome). x.state) made in
      let j : ledger_of m₁ ≡ next (book_of m) first (ledger_of m) = c.ledger ∙ ap (λ (x : Outcome). next (book_of m) x (ledger_of m)) made in
      let v : (book_of m₁).rows ≡ b = ap (λ (x : Book). x.rows) c.book in
      let o = both_cleared b width (state_of m) first (sym k ∙ z) ready.clears in
      let second : call (book_of m₁).rows (state_of m₁) (state off) ≡ call b first.state (state (clear width)) = rw (v, u, w) in
      let zero : q ≡ 0 = d.number ∙ ap (λ (x : Outcome). x.number) second ∙ ready.clears in
      record {
        number = zero ∙ sym (ap (λ (x : Outcome). x.number) o);
        state = d.state ∙ ap (λ (x : Outcome). x.state) second ∙ sym (ap (λ (x : Outcome). x.state) o);
        book = d.book ∙ c.book;
        turned = λ h. turned_on m m₁ m₂ t on off r q c z d zero;
        ledger = d.ledger ∙ rw (second, c.book, j) (sym (both_counted (book_of m) width (state_of m) (ledger_of m) t place (sym k ∙ z)));
        unknown = λ h. absurd (omega (arith, zero));
        refused = λ n known. absurd (n zero);
        kept = d.kept;
      }

-- ---- a scan by its barcode's place
leaves_as : (o o' : Outcome) (ks ks' : List Call) (m m' : List ℕ) (r : ℕ) → o ≡ o' → ks ≡ ks' → Leaves o ks m m' r → Leaves o' ks' m m' r
leaves_as o o' ks ks' m m' r e f l = rw (← e, ← f) l

pub scanned_known : (b : Rows) (st : State) (m m' : List ℕ) (t width place r : ℕ) → place < width → Leaves (pulse b width st t place) (pulse_calls b width st t place) m m' r
    → Leaves (scanned_at b width st t place) (calls_at b width st t place) m m' r
unfolding scanned_at
scanned_known b st m m' t width place r h l =
    leaves_as (pulse b width st t place) (scanned_at b width st t place) (pulse_calls b width st t place) (calls_at b width st t place) m m' r
    (rw (lt-ltb place width h, scanned_at))
    (sym (known_calls b width st t place h))
    l

pub scanned_unknown : (m : List ℕ) (t width place : ℕ) → width ≤ place → Kept m
    → Leaves (scanned_at (book_of m).rows width (state_of m) t place) (calls_at (book_of m).rows width (state_of m) t place) m m UNKNOWN_BARCODE
unfolding scanned_at ledger_from
scanned_unknown m t width place h k =
    leaves_as (record { number = UNKNOWN_BARCODE; state = state_of m }) (scanned_at (book_of m).rows width (state_of m) t place)
    []
    (calls_at (book_of m).rows width (state_of m) t place)
    m
    m
    UNKNOWN_BARCODE
    (rw (le-ltb place width h, scanned_at))
    (sym (unknown_calls (book_of m).rows width (state_of m) t place h))
    (record { number = refl; state = refl; book = refl; turned = λ z. absurd (let e : ◌≡◌ {A = ℕ} UNKNOWN_BARCODE 0 = z in omega arith); ledger = refl; unknown = λ e. refl; refused = λ n known. absurd (known refl); kept = k })

-- ---- a scan at a desk
module _ {kits : List Kit} {scans : List Scan} {table m : List ℕ} (a : After kits scans table m) where
  abbrev desk : List Kit
  desk = desk_of kits

  pub after_codes : codes_in table ≡ codes desk
  after_codes = ap codes_in a.barcodes ∙ table_codes desk (desk_fine kits).few

  pub after_count : get_or table 0 0 ≡ length (codes desk)
  after_count = ap (λ (xs : List ℕ). get_or xs 0 0) a.barcodes ∙ table_count desk (desk_fine kits).few

  after_few : length (codes desk) ≤ MOST_BARCODES
  after_few = omega (arith, codes_length desk, (desk_fine kits).few)

  after_ready : (xs : List ℕ) (t c width place : ℕ) → width ≡ get_or table 0 0 → xs ≡ part 1 width table → place ≡ place_of c xs → Ready m t width place
  after_ready xs t c width place w x p =
      let k : width ≡ length (codes desk) = w ∙ after_count in
      let y : xs ≡ codes desk = x ∙ ap (λ n. part 1 n table) w ∙ after_codes in
      let q : place ≡ place_of c (codes desk) = p ∙ ap (place_of c) y in
      record {
        inside = omega (arith, place_inside c (codes desk));
        few = omega (arith, after_few);
        clears = rw (a.book, a.state, k, q) (clear_accepted kits scans (record { hour = t; barcode = c }));
        kept = a.kept;
      }

  -- what it leaves is a desk after one scan more
  pub after_scan : (e : Scan) (m' : List ℕ) (n : ℕ)
      → Leaves (scanned_in (book_of m).rows (codes_in table) (state_of m) e) (calls_in (book_of m).rows (codes_in table) (state_of m) e) m m' n → After kits (e ∷ scans) table m'
  unfolding desk_after desk_ledger
  after_scan e m' n l = record {
    barcodes = a.barcodes;
    book = l.book ∙ a.book;
    state = l.state ∙ rw (a.book, after_codes, a.state);
    ledger = l.ledger ∙ rw (a.book, after_codes, a.state, a.ledger);
    kept = l.kept;
  }

pub width_small : (table m : List ℕ) → Stands table m → get_or table 0 0 ≤ MOST_BARCODES
width_small table m s = omega (arith, after_count s.after, after_few s.after)

pub ready_scan : (table m xs : List ℕ) (t c width place : ℕ) → Stands table m → width ≡ get_or table 0 0 → xs ≡ part 1 width table → place ≡ place_of c xs → Ready m t width place
ready_scan table m xs t c width place s = after_ready s.after xs t c width place

-- ---- what a scan hands back
pub scan_made : (table m m' xs : List ℕ) (t c width place : ℕ) (r : Scanned) (before after : Verdict) → Stands table m → width ≡ get_or table 0 0 → xs ≡ part 1 width table
    → place ≡ place_of c xs → Leaves (scanned_at (book_of m).rows width (state_of m) t place) (calls_at (book_of m).rows width (state_of m) t place) m m' (refused_with r.outcome) → before ≡ verdict_of m (place / 3) → after ≡ verdict_of m' (place / 3)
    → r.slip ≡ slip_for (place / 3) before.settled after.settled → Scans (record { hour = t; barcode = c }) table m m' r
scan_made table m m' xs t c width place r before after s w x p l v v' q =
    let y : xs ≡ codes_in table = x ∙ ap (λ n. part 1 n table) w in
    let z : place ≡ place_of c (codes_in table) = p ∙ ap (place_of c) y in
    let k : width ≡ length (codes_in table) = w ∙ after_count s.after ∙ sym (ap length (after_codes s.after)) in
    let e : Scan = record { hour = t; barcode = c } in
    let o : Leaves (scanned_in (book_of m).rows (codes_in table) (state_of m) e) (calls_in (book_of m).rows (codes_in table) (state_of m) e) m m' (refused_with r.outcome) = rw (← k, ← z) l in
    record {
      leaves = o;
      slip = rw (← z, ← v, ← v') q;
      stands = record { kits = s.kits; scans = e ∷ s.scans; after = after_scan s.after e m' (refused_with r.outcome) o };
    }
