-- What each line does, stage by stage. Assumes nothing.
use Prim.Native.Nat.{ℕ, suc, ◌+◌, ◌≤◌, ◌<◌}
use mathlib.Core.Path.{◌≡◌, refl, sym, ap, subst, ◌∙◌}
use mathlib.Core.Bool.{Bool, true, false}
use mathlib.Core.List.{List, [], ◌∷◌}
use native.Mathlib.Omega.{arith}
use lib.ListN.{set}
use lib.Seq.{sets}
use lib.Dec.{eqb, ltb}
use borrow.Author.Tests.{eq-eqb, ne_eqb, lt-ltb, le-ltb, ltb-true, ltb-false, eqb-false}
use Rattle.numbers.specs.Limits.{MAX, MOST_KITS}
use Rattle.numbers.specs.Refusals.{ACCEPTED, WRONG_KITS, number_of, refused_with}
use Rattle.numbers.specs.declared.Refusal.{Refusal}
use Rattle.numbers.proofs.Refused.{never_0}
use Rattle.std.specs.Prelude.{Result, Ok, Err, None, min, cond}
use Rattle.text.specs.Words.{Supply}
use Rattle.memory.specs.Memory.{book_of, state_of}
use Rattle.property_answers.specs.Verdict.{verdict_in, verdict_of}
use Rattle.desk_rules.specs.Scans.{Kit, Scan}
use Rattle.desk_rules.specs.Desk.{scanned_in, desk_after}
use Rattle.desk.specs.declared.Scanned as of-scan
use Rattle.desk.specs.Kits.{KIT_WORDS, kits_in}
use Rattle.desk.specs.Counted.{desk_ledger}
use Rattle.desk.specs.Standing.{codes_in, kit_of, Stands, Opens, Scans}
use Rattle.line_words.specs.Line.{line_supply, blank, word_at, number_for}
use Rattle.desk_lines.specs.declared.Stage.{Stage}
use Rattle.desk_lines.specs.declared.Stage.TheVariants.{Awaited, Giving, Opened, Closed}
use Rattle.desk_lines.specs.declared.Event.TheVariants as code
use Rattle.desk_lines.specs.declared.Heard as of-heard
use Rattle.desk_lines.specs.Dialogue.Event.{Nothing, Scanned}
use Rattle.desk_lines.specs.Dialogue.{Heard, Held, Reply, says, unchanged, closed_by, COUNT_WORDS, count_heard, count_line, kit_put, with_kit, open_heard, opening, kit_given, kit_line, SCAN_WORDS, following, scan_event, scanning, scan_line, at_stage, reply_to}
use Rattle.desk_lines.specs.Does.{heard_of, held_of, Counts, Good, Does}

does_by : {a b : Reply} {r : of-heard.Heard} {words table m : List ℕ} → a ≡ b → Does b r words table m → Does a r words table m
does_by e d = rw e d

-- ---- the number of kits
module _ (count : ℕ) where
  pub no_kits : count ≡ 0 → closed_by WRONG_KITS ≡ count_heard count
  unfolding count_heard
  no_kits e = rw (eq-eqb count 0 e)

  pub too_many_kits : MOST_KITS < count → closed_by WRONG_KITS ≡ count_heard count
  unfolding count_heard
  too_many_kits h = rw (ne_eqb count 0 (λ e. omega arith), lt-ltb MOST_KITS count h)

  pub kits_counted : (count ≡ 0 → ⊥) → count ≤ MOST_KITS → says (Giving count 0) Nothing ≡ count_heard count
  unfolding count_heard
  kits_counted e h = rw (ne_eqb count 0 e, le-ltb MOST_KITS count h)

  count_counts : Counts (count_heard count).stage
  unfolding count_heard
  count_counts = by_none (eqb count 0) refl
    where
      by_many : (t : Bool) → ltb MOST_KITS count ≡ t → eqb count 0 ≡ false → Counts (count_heard count).stage
      by_many true e f = rw (f, e) tt
      by_many false e f = let p : count ≡ 0 → ⊥ = eqb-false count 0 f in rw (f, e) (omega arith, omega (arith, ltb-false MOST_KITS count e))

      by_none : (t : Bool) → eqb count 0 ≡ t → Counts (count_heard count).stage
      by_none true e = rw e tt
      by_none false e = by_many (ltb MOST_KITS count) refl e

module _ (s : Supply) where
  pub count_refused : (r : Refusal) → number_of r ≡ number_for COUNT_WORDS s → closed_by (number_of r) ≡ count_line s
  unfolding count_line
  count_refused r e = rw (ne_eqb (number_for COUNT_WORDS s) ACCEPTED (λ h. never_0 r (e ∙ h))) (ap closed_by e)

  pub count_accepted : {w : ℕ} → ACCEPTED ≡ number_for COUNT_WORDS s → w ≡ word_at s 0 → count_heard w ≡ count_line s
  unfolding count_line
  count_accepted e g = rw (eq-eqb (number_for COUNT_WORDS s) ACCEPTED (sym e)) (ap count_heard g)

  line_counts : Counts (count_line s).stage
  unfolding count_line
  line_counts = by_number (eqb (number_for COUNT_WORDS s) ACCEPTED) refl
    where
      by_number : (t : Bool) → eqb (number_for COUNT_WORDS s) ACCEPTED ≡ t → Counts (count_line s).stage
      by_number true e = rw e (count_counts (word_at s 0))
      by_number false e = rw e tt

-- ---- a kit
pub kit_put_lem : (m : List ℕ) (a : ℕ) (s : Supply) {w₀ w₁ w₂ w₃ : ℕ} → w₀ ≡ word_at s 0 → w₁ ≡ word_at s 1 → w₂ ≡ word_at s 2 → w₃ ≡ word_at s 3
    → set (set (set (set m a w₀) (a + 1) w₁) (a + 2) w₂) (a + 3) w₃ ≡ sets m a (word_at s 0 ∷ word_at s 1 ∷ word_at s 2 ∷ word_at s 3 ∷ [])
kit_put_lem m a s e₀ e₁ e₂ e₃ =
    let p₁ : a + 1 ≡ suc a = omega arith in
    let p₂ : a + 2 ≡ suc (suc a) = omega arith in
    let p₃ : a + 3 ≡ suc (suc (suc a)) = omega arith in
    rw (p₁, p₂, p₃, e₀, e₁, e₂, e₃)

module _ (opened : Result (Unit {0}) Refusal) where
  pub open_refused : (r : Refusal) (h : of-heard.Heard) → opened ≡ Err r → heard_of h ≡ closed_by (number_of r) → heard_of h ≡ open_heard (refused_with opened)
  unfolding open_heard
  open_refused r h e f = rw (e, ne_eqb (number_of r) ACCEPTED (never_0 r)) f

  pub open_accepted : {u : Unit {0}} → opened ≡ Ok u → heard_of (record { stage = Opened 0; event = code.Desk ACCEPTED }) ≡ open_heard (refused_with opened)
  unfolding open_heard
  open_accepted e = rw e refl

open_counts : (n : ℕ) → Counts (open_heard n).stage
unfolding open_heard
open_counts n = by_number (eqb n ACCEPTED) refl
  where
    by_number : (t : Bool) → eqb n ACCEPTED ≡ t → Counts (open_heard n).stage
    by_number true e = rw e tt
    by_number false e = rw e tt

counts_as : (r : of-heard.Heard) {h : Heard} {table m : List ℕ} → heard_of r ≡ h → Counts h.stage → Stands table m → Good r.stage table m
counts_as r e p st = record { counts = subst Counts (sym (ap (λ (x : Heard). x.stage) e)) p; stands = st }

giving_more : (count given : ℕ) (d : Held) → given < count → kit_given count given d ≡ unchanged d (says (Giving count given) Nothing)
unfolding kit_given
giving_more count given d h = rw (lt-ltb given count h)

giving_last : (count given : ℕ) (d : Held) → count ≤ given → kit_given count given d ≡ opening (kits_in d.words count) d
unfolding kit_given
giving_last count given d h = rw (le-ltb given count h)

opens_so : {kits : List Kit} (d : Held) {words table m : List ℕ} {n : ℕ} {r : of-heard.Heard} → words ≡ d.words → Opens kits table m n → heard_of r ≡ open_heard n → Does (opening kits d) r words table m
unfolding opening desk_after desk_ledger
opens_so {kits} d {n = n} e o h =
    record {
      heard = h ∙ ap open_heard o.number;
      held = rw (e, o.after.barcodes, o.after.book, o.after.state, o.after.ledger);
      good = counts_as _ h (open_counts n) o.stands;
    }

module _ (count given : ℕ) (s : Supply) (words : List ℕ) {table m : List ℕ} (g : Good (Giving count given) table m) where
  pub kit_refused : (r : Refusal) (h : of-heard.Heard) → number_of r ≡ number_for KIT_WORDS s → heard_of h ≡ closed_by (number_of r) → Does (kit_line count given s (held_of words table m)) h words table m
  unfolding kit_line
  kit_refused r x e h =
      does_by
      (rw (ne_eqb (number_for KIT_WORDS s) ACCEPTED (λ k. never_0 r (e ∙ k))))
      (record { heard = h ∙ ap closed_by e; held = refl; good = counts_as _ h tt g.stands })

  module _ (f : ACCEPTED ≡ number_for KIT_WORDS s) {words' : List ℕ} (w : words' ≡ kit_put given s words) where
    accepted : kit_line count given s (held_of words table m) ≡ kit_given count (suc given) (with_kit given s (held_of words table m))
    unfolding kit_line
    accepted = rw (eq-eqb (number_for KIT_WORDS s) ACCEPTED (sym f))

    pub kit_more : given + 1 < count → Does (kit_line count given s (held_of words table m)) (record { stage = Giving count (given + 1); event = code.Nothing }) words' table m
    kit_more h =
        let p : given + 1 ≡ suc given = omega arith in
        let k : given + 1 < count × count ≤ MOST_KITS = (h, g.counts.1) in
        does_by
        (accepted ∙ giving_more count (suc given) _ (omega arith))
        (record { heard = rw p; held = rw w; good = record { counts = k; stands = g.stands } })

    pub kit_last : {table' m' : List ℕ} {q : ℕ} {r : of-heard.Heard} → count ≤ given + 1 → Opens (kits_in words' count) table' m' q → heard_of r ≡ open_heard q
        → Does (kit_line count given s (held_of words table m)) r words' table' m'
    kit_last h o z =
        let v : kits_in words' count ≡ kits_in (kit_put given s words) count = ap (λ (x : List ℕ). kits_in x count) w in
        does_by
        (accepted ∙ giving_last count (suc given) _ (omega arith) ∙ ap (λ (kits : List Kit). opening kits (with_kit given s (held_of words table m))) (sym v))
        (opens_so (with_kit given s (held_of words table m)) w o z)

-- ---- a scan
pub next_number : (done n : ℕ) → n ≡ min (done + 1) MAX → n ≡ following done
unfolding following
next_number done n e = go (ltb done MAX) refl
  where
    go : (z : Bool) → ltb done MAX ≡ z → n ≡ cond z (suc done) MAX
    go true f = let h = ltb-true done MAX f in omega arith
    go false f = let h = ltb-false done MAX f in omega arith

scanned_so : (i : ℕ) (e : Scan) (words : List ℕ) {table m m' : List ℕ} {q : of-scan.Scanned} {n : ℕ} → Scans e table m m' q → n ≡ refused_with q.outcome
    → Does (scanning i e (held_of words table m)) (record { stage = Opened i; event = code.Scan i n q.slip }) words table m'
unfolding scanning
scanned_so i e words {table} {m} {m'} {q} sc z =
    let l = sc.leaves in
    let k = kit_of table e in
    let o = scanned_in (book_of m).rows (codes_in table) (state_of m) e in
    let after : verdict_of m' k ≡ verdict_in (book_of m) o.state k = rw (l.book, l.state) in
    record {
      heard = ap (says (Opened i)) (rw (z, l.number, sc.slip, after));
      held = rw (l.book, l.state, l.ledger);
      good = record { counts = tt; stands = sc.stands };
    }

module _ (done : ℕ) (s : Supply) {table m : List ℕ} {i : ℕ} (e : i ≡ following done) (words : List ℕ) where
  pub scan_refused : (r : Refusal) {n : ℕ} → number_of r ≡ number_for SCAN_WORDS s → n ≡ number_of r → Stands table m
      → Does (scan_line done s (held_of words table m)) (record { stage = Opened i; event = code.Scan i n None }) words table m
  unfolding scan_line scan_event
  scan_refused r f z st =
      does_by
      {b = unchanged (held_of words table m) (says (Opened (following done)) (Scanned (following done) (number_for SCAN_WORDS s)))}
      (rw (ne_eqb (number_for SCAN_WORDS s) ACCEPTED (λ k. never_0 r (f ∙ k))))
      (record { heard = rw (e, z, f); held = refl; good = record { counts = tt; stands = st } })

  pub scan_made : {t b n : ℕ} {m' : List ℕ} {q : of-scan.Scanned} → ACCEPTED ≡ number_for SCAN_WORDS s → t ≡ word_at s 0 → b ≡ word_at s 1 → Scans (record { hour = t; barcode = b }) table m m' q → n ≡ refused_with q.outcome
      → Does (scan_line done s (held_of words table m)) (record { stage = Opened i; event = code.Scan i n q.slip }) words table m'
  unfolding scan_line
  scan_made {t} {b} h x y sc z =
      does_by
      (rw (eq-eqb (number_for SCAN_WORDS s) ACCEPTED (sym h), ← e, ← x, ← y))
      (scanned_so i (record { hour = t; barcode = b }) words sc z)

-- ---- every line
module _ (stage : Stage) (line words table m : List ℕ) {b : Bool} (e : b ≡ blank (line_supply line)) where
  pub passed : b ≡ true → Good stage table m → Does (reply_to stage line (held_of words table m)) (record { stage = stage; event = code.Nothing }) words table m
  unfolding reply_to
  passed f g = does_by (rw (sym e ∙ f)) (record { heard = refl; held = refl; good = g })

  module _ (f : b ≡ false) where
    said : reply_to stage line (held_of words table m) ≡ at_stage stage (line_supply line) (held_of words table m)
    unfolding reply_to
    said = rw (sym e ∙ f)

    pub count_said : {r : of-heard.Heard} → stage ≡ Awaited → Stands table m → heard_of r ≡ count_line (line_supply line) → Does (reply_to stage line (held_of words table m)) r words table m
    unfolding at_stage
    count_said z st h =
        does_by
        (said ∙ ap (λ (x : Stage). at_stage x (line_supply line) (held_of words table m)) z)
        (record { heard = h; held = refl; good = counts_as _ h (line_counts (line_supply line)) st })

    pub given_so : {count given : ℕ} {r : of-heard.Heard} {words' table' m' : List ℕ} → stage ≡ Giving count given
        → Does (kit_line count given (line_supply line) (held_of words table m)) r words' table' m' → Does (reply_to stage line (held_of words table m)) r words' table' m'
    unfolding at_stage
    given_so z d = does_by (said ∙ ap (λ (x : Stage). at_stage x (line_supply line) (held_of words table m)) z) d

    pub scan_said : {done : ℕ} {r : of-heard.Heard} {words' table' m' : List ℕ} → stage ≡ Opened done
        → Does (scan_line done (line_supply line) (held_of words table m)) r words' table' m' → Does (reply_to stage line (held_of words table m)) r words' table' m'
    unfolding at_stage
    scan_said z d = does_by (said ∙ ap (λ (x : Stage). at_stage x (line_supply line) (held_of words table m)) z) d

    pub closed_said : stage ≡ Closed → Stands table m → Does (reply_to stage line (held_of words table m)) (record { stage = Closed; event = code.Nothing }) words table m
    unfolding at_stage
    closed_said z st =
        does_by
        (said ∙ ap (λ (x : Stage). at_stage x (line_supply line) (held_of words table m)) z)
        (record { heard = refl; held = refl; good = record { counts = tt; stands = st } })

pub as_given : {stage : Stage} {count given : ℕ} {table m : List ℕ} → stage ≡ Giving count given → Good stage table m → Good (Giving count given) table m
as_given e g = rw e at g
