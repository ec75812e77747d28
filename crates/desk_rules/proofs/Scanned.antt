-- Scans as calls: which are accepted, and what they leave. Assumes nothing.
use Prim.Native.Nat.{ℕ}
use native.Mathlib.Omega.{arith}
use mathlib.Core.Path.{◌≡◌, refl, sym, ap, ◌∙◌}
use mathlib.Core.Logic.{◌⊎◌, inl, inr, ⊎_elim}
use mathlib.Core.Bool.{Bool, true, false, cond}
use mathlib.Core.List.{List, [], ◌∷◌}
use lib.Dec.{ltb, eqb}
use borrow.Author.Tests.{ltb-false, eqb-true, eqb-false, eq-eqb, ne_eqb, le-ltb}
use Rattle.numbers.specs.Limits.{LAST_TIME}
use Rattle.numbers.specs.Refusals.{ACCEPTED, TOO_EARLY, TOO_LATE, UNKNOWN_BARCODE}
use Rattle.pmtl.specs.Book.{Rows, Ordered, some}
use Rattle.pmtl.specs.Monitor.{Snap, State, step_in}
use Rattle.pmtl.specs.Calls.{Call, state, stamped, turns, timed, stated, time_refusal, first_of, refusal, crowds, Outcome, play, call, after_in, after, History, now_of, onto, accepted}
use Rattle.pmtl.specs.Strict.{Strict}
use Rattle.pmtl.proofs.History.{now_run}
use Rattle.pmtl.proofs.Calls.{first_zero, trail}
use Rattle.pmtl.proofs.Strict.{never_eleven}
use Rattle.desk_rules.specs.Scans.{Kit, Scan, codes, windows, last_hour, scan_number, taken, Fine}
use Rattle.desk_rules.specs.Rows.{desk_rows}
use Rattle.desk_rules.specs.Desk.{place_of, clear, or_as_before, cleared, pulse, scanned_at, scanned, desk_after}
use Rattle.desk_rules.proofs.Rows.{desk_ordered, desk_strict}
use Rattle.desk_rules.proofs.Places.{place_in}
use Rattle.desk_rules.proofs.Past.{width, state_of, past, Timely, last_is, fine_scan, fine_none}

abbrev number_of : Outcome → ℕ
number_of o = o.number

-- ---- a strict book: a call is refused with nothing but what is wrong with the call itself
play_either : (b : Rows) (old st : State) (ns : List Snap) → ((play b old st ns).number ≡ 0) ⊎ ((play b old st ns).number ≡ 11)
unfolding play
play_either b old st [] = inl refl
play_either b old st (n ∷ ns) = go (crowds b st n) (play_either b old (step_in b st n) ns)
  where
    go : (z : Bool) → ((play b old (step_in b st n) ns).number ≡ 0) ⊎ ((play b old (step_in b st n) ns).number ≡ 11)
        → let o = elim z as (λ z. Outcome) [ true ↦ record { number = 11; state = old } | false ↦ play b old (step_in b st n) ns ] in (o.number ≡ 0) ⊎ (o.number ≡ 11)
    go true h = inr refl
    go false h = h

plays : (b : Rows) (st : State) (k : Call) → eqb (refusal b st.now k) 0 ≡ true → call b st k ≡ play b st st (turns st.now k)
unfolding call
plays b st k z = rw (z, call)

refuses : (b : Rows) (st : State) (k : Call) → eqb (refusal b st.now k) 0 ≡ false → (call b st k).number ≡ refusal b st.now k
unfolding call
refuses b st k z = rw (z, call)

module _ (b : Rows) (w : Ordered b) (strict : Strict b) where
  pub strict_number : (ks : List Call) (k : Call) → (call b (after b ks) k).number ≡ refusal b (after b ks).now k
  strict_number ks k = go (eqb (refusal b (after b ks).now k) 0) refl
    where
      go : (z : Bool) → eqb (refusal b (after b ks).now k) 0 ≡ z → (call b (after b ks) k).number ≡ refusal b (after b ks).now k
      go true z = ⊎_elim
          (λ h. ap number_of (plays b (after b ks) k z) ∙ h ∙ sym (eqb-true (refusal b (after b ks).now k) 0 z))
          (λ h. absurd (never_eleven b w strict ks k (ap number_of (plays b (after b ks) k z) ∙ h)))
          (play_either b (after b ks) (after b ks) (turns (after b ks).now k))
      go false z = refuses b (after b ks) k z

  now_is : (ks : List Call) (h : History) → accepted b ks ≡ h → (after b ks).now ≡ now_of b h
  now_is ks h e = ap (λ (st : State). st.now) (trail b ks).is ∙ now_run b (accepted b ks) ∙ ap (now_of b) e

  -- a call with which nothing is wrong leaves its snapshots
  pub accepted_more : (ks : List Call) (k : Call) (h : History) → accepted b ks ≡ h → refusal b (now_of b h) k ≡ 0
      → accepted b (k ∷ ks) ≡ onto (turns (now_of b h) k) h
  unfolding accepted
  accepted_more ks k h e z =
      let now = now_is ks h e in
      let n : (call b (after b ks) k).number ≡ 0 = strict_number ks k ∙ ap (λ s. refusal b s k) now ∙ z in
      rw (eq-eqb (call b (after b ks) k).number 0 n, now, e)

  pub number_is : (ks : List Call) (k : Call) (h : History) → accepted b ks ≡ h → (call b (after b ks) k).number ≡ refusal b (now_of b h) k
  number_is ks k h e = strict_number ks k ∙ ap (λ s. refusal b s k) (now_is ks h e)

-- ---- a stamped state and a clear one: both, or neither
stays_taken : (old : State) (o : Outcome) → o.number ≡ 0 → or_as_before old o ≡ record { number = 0; state = o.state }
unfolding or_as_before
stays_taken old o h = rw (eq-eqb o.number 0 h, or_as_before) (ap (λ n. record { number = n; state = o.state }) h)

pub both_cleared : (b : Rows) (n : ℕ) (old : State) (o : Outcome) → o.number ≡ 0 → (call b o.state (state (clear n))).number ≡ 0
    → cleared b n old o ≡ record { number = 0; state = (call b o.state (state (clear n))).state }
unfolding cleared
both_cleared b n old o h g = rw (eq-eqb o.number 0 h, cleared) (stays_taken old (call b o.state (state (clear n))) g)

pub neither_cleared : (b : Rows) (n : ℕ) (old : State) (o : Outcome) → ¬ (o.number ≡ 0) → cleared b n old o ≡ record { number = o.number; state = old }
unfolding cleared
neither_cleared b n old o h = rw (ne_eqb o.number 0 h, cleared)

first_none : (x : ℕ) → first_of x 0 ≡ x
unfolding first_of
first_none x = go (eqb x 0) refl
  where
    go : (z : Bool) → eqb x 0 ≡ z → cond z 0 x ≡ x
    go true z = sym (eqb-true x 0 z)
    go false z = refl

-- ---- the desk
module _ (kits : List Kit) (fine : Fine kits) where
  abbrev b : Rows
  b = desk_rows (windows kits)

  -- accepted scans as calls, the newest first
  unfoldable pub calls_of : List Scan → List Call
  calls_of [] = []
  calls_of (e ∷ es) = state (clear (width kits)) ∷ stamped e.hour (state_of kits e) ∷ calls_of es

  -- what is wrong with the hour of a scan
  abbrev hour_number : List Scan → Scan → ℕ
  hour_number es e = cond (ltb e.hour (last_hour es)) TOO_EARLY (cond (ltb LAST_TIME e.hour) TOO_LATE ACCEPTED)

  hour_timely : (es : List Scan) (e : Scan) → Timely kits es → hour_number es e ≡ 0 → Timely kits (e ∷ es)
  hour_timely es e l z =
      let p = first_zero (ltb e.hour (last_hour es)) 6 (cond (ltb LAST_TIME e.hour) TOO_LATE ACCEPTED) z in
      let q = first_zero (ltb LAST_TIME e.hour) 7 ACCEPTED p.1 in
      (ltb-false e.hour (last_hour es) p.0, ltb-false LAST_TIME e.hour q.0, l)

  timely_hour : (es : List Scan) (e : Scan) → Timely kits (e ∷ es) → hour_number es e ≡ 0
  timely_hour es e l = rw (le-ltb e.hour (last_hour es) l.0, le-ltb LAST_TIME e.hour l.1)

  stamped_refusal : (es : List Scan) (e : Scan) → refusal b (now_of b (past kits es)) (stamped e.hour (state_of kits e)) ≡ hour_number es e
  unfolding refusal
  stamped_refusal es e =
      ap (first_of (time_refusal (now_of b (past kits es)) e.hour)) (fine_scan kits fine.few e)
      ∙ first_none (time_refusal (now_of b (past kits es)) e.hour)
      ∙ ap (λ c. cond (ltb e.hour c) TOO_EARLY (cond (ltb LAST_TIME e.hour) TOO_LATE ACCEPTED)) (last_is kits es)

  clear_refusal : (s : Snap) → refusal b s (state (clear (width kits))) ≡ 0
  unfolding refusal
  clear_refusal s = fine_none kits fine.few

  abbrev once : (es : List Scan) (e : Scan) → List Call
  once es e = stamped e.hour (state_of kits e) ∷ calls_of es

  -- each of these calls is accepted
  stamped_leaves : (es : List Scan) (e : Scan) → Timely kits (e ∷ es) → accepted b (calls_of es) ≡ past kits es
      → let n₁ = timed (now_of b (past kits es)) e.hour in accepted b (once es e) ≡ stated n₁ (state_of kits e) ∷ n₁ ∷ past kits es
  unfolding onto
  stamped_leaves es e l ih = accepted_more b (desk_ordered (windows kits)) (desk_strict (windows kits)) (calls_of es) (stamped e.hour (state_of kits e)) (past kits es) ih (stamped_refusal es e ∙ timely_hour es e l)

  pub calls_leave : (es : List Scan) → Timely kits es → accepted b (calls_of es) ≡ past kits es
  unfolding calls_of past accepted onto
  calls_leave [] l = refl
  calls_leave (e ∷ es) l = let n₁ = timed (now_of b (past kits es)) e.hour in
      accepted_more b (desk_ordered (windows kits)) (desk_strict (windows kits)) (once es e) (state (clear (width kits))) (stated n₁ (state_of kits e) ∷ n₁ ∷ past kits es)
      (stamped_leaves es e l (calls_leave es l.2))
      (clear_refusal (stated n₁ (state_of kits e)))

  -- ---- one scan after accepted ones
  module _ (es : List Scan) (l : Timely kits es) (e : Scan) where
    abbrev st : State
    st = after b (calls_of es)

    pub stamped_number : (call b st (stamped e.hour (state_of kits e))).number ≡ hour_number es e
    stamped_number = number_is b (desk_ordered (windows kits)) (desk_strict (windows kits)) (calls_of es) (stamped e.hour (state_of kits e)) (past kits es) (calls_leave es l) ∙ stamped_refusal es e

    -- the second call is accepted, whether the first was or not
    pub clear_number : (call b (call b st (stamped e.hour (state_of kits e))).state (state (clear (width kits)))).number ≡ 0
    unfolding after_in
    clear_number = strict_number b (desk_ordered (windows kits)) (desk_strict (windows kits)) (once es e) (state (clear (width kits))) ∙ clear_refusal _

    pulse_is : (z : Bool) → eqb (hour_number es e) 0 ≡ z
        → pulse b (width kits) st e.hour (place_of e.barcode (codes kits)) ≡ record { number = hour_number es e; state = after b (calls_of (cond z (e ∷ es) es)) }
    unfolding pulse calls_of after_in
    pulse_is true z =
        let y = eqb-true (hour_number es e) 0 z in
        both_cleared b (width kits) st (call b st (stamped e.hour (state_of kits e))) (stamped_number ∙ y) clear_number
        ∙ ap (λ n. record { number = n; state = after b (calls_of (e ∷ es)) }) (sym y)
    pulse_is false z =
        neither_cleared b (width kits) st (call b st (stamped e.hour (state_of kits e))) (λ h. eqb-false (hour_number es e) 0 z (sym stamped_number ∙ h))
        ∙ ap (λ n. record { number = n; state = st }) stamped_number

    -- by whether the barcode is known
    scan_if : Bool → Outcome
    scan_if true = pulse b (width kits) st e.hour (place_of e.barcode (codes kits))
    scan_if false = record { number = UNKNOWN_BARCODE; state = st }

    pub scan_is : scanned kits st e ≡ record { number = scan_number kits es e; state = after b (calls_of (cond (eqb (scan_number kits es e) 0) (e ∷ es) es)) }
    unfolding scanned_at scan_number scan_if
    scan_is = ap scan_if (place_in e.barcode (codes kits)) ∙ go (some (eqb e.barcode) (codes kits))
      where
        go : (z : Bool) → scan_if z ≡ record { number = cond z (hour_number es e) UNKNOWN_BARCODE; state = after b (calls_of (cond (eqb (cond z (hour_number es e) UNKNOWN_BARCODE) 0) (e ∷ es) es)) }
        go true = pulse_is (eqb (hour_number es e) 0) refl
        go false = refl

    number_zero : scan_number kits es e ≡ 0 → hour_number es e ≡ 0
    unfolding scan_number
    number_zero = go (some (eqb e.barcode) (codes kits))
      where
        go : (z : Bool) → cond z (hour_number es e) UNKNOWN_BARCODE ≡ 0 → hour_number es e ≡ 0
        go true h = h
        go false h = absurd (omega arith)

    pub next_timely : (z : Bool) → eqb (scan_number kits es e) 0 ≡ z → Timely kits (cond z (e ∷ es) es)
    next_timely true z = hour_timely es e l (number_zero (eqb-true (scan_number kits es e) 0 z))
    next_timely false z = l

  -- ---- any list of scans, refused ones among them
  pub record Traced (es ts : List Scan) : Type 0 where
    pub is : desk_after kits es ≡ after b (calls_of ts)
    pub timely : Timely kits ts

  pub traced : (es : List Scan) → Traced es (taken kits es)
  unfolding desk_after taken calls_of after_in
  traced [] = record { is = refl; timely = tt }
  traced (e ∷ es) = let t = traced es in record {
    is = ap (λ s. (scanned kits s e).state) t.is ∙ ap (λ (o : Outcome). o.state) (scan_is (taken kits es) t.timely e);
    timely = next_timely (taken kits es) t.timely e (eqb (scan_number kits (taken kits es) e) 0) refl;
  }
