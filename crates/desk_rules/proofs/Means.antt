-- What a kit's guarantee means on the history of the accepted scans: that the kit is not stopped. Assumes nothing.
use Prim.Native.Nat.{ℕ, ◌+◌, ◌≤◌, ◌<◌}
use native.Mathlib.Omega.{arith}
use mathlib.Core.Path.{◌≡◌, refl, ap, ap₂, ◌∙◌}
use mathlib.Core.Bool.{Bool, true, false, not, ◌&&◌, ◌||◌}
use mathlib.Core.List.{List, [], ◌∷◌}
use lib.ListN.{length, get_or, get_or-map}
use lib.Dec.{leb}
use borrow.Author.Tests.{ne_eqb, le-leb}
use Rattle.numbers.specs.Limits.{MAX, LAST_TIME}
use Rattle.pmtl.specs.Book.{stop, in_range, map_row, Rows, row_at, Ordered}
use Rattle.pmtl.specs.Book.Row.{never}
use Rattle.pmtl.specs.Calls.{timed, stated, History, now_of}
use Rattle.pmtl.specs.Meaning.{Fact, since_some, instants, meaning_rule, meaning}
use Rattle.pmtl.proofs.Table.{answer_fix}
use Rattle.desk_rules.specs.Scans.{Kit, no_kit, kit_at, Scan, reads, codes, window_of, windows, repeats, promised, stopped, last_hour}
use Rattle.desk_rules.specs.Rows.{PROMISE, HANDOUT, RETURN, atom_of, row_of, within, kit_rows, desk_rows, guarantee}
use Rattle.desk_rules.proofs.Rows.{desk_ordered, rest, row_is}
use Rattle.desk_rules.proofs.Places.{windows_length}
use Rattle.desk_rules.proofs.Past.{state_of, past, on, clear_on, quiet, promise_on, handout_on, return_on, promise_not_handout, return_not_handout, Timely}

meaning_fix : (b : Rows) → Ordered b → (r : ℕ) → meaning b r ≡ meaning_rule b r (map_row (meaning b) (row_at b r))
unfolding meaning meaning_rule
meaning_fix b w r = answer_fix b (λ h. false) (meaning_rule b) w r refl

-- ---- ranges
in_window : (w c t : ℕ) → w ≤ LAST_TIME → c ≤ t → in_range (within w) c t ≡ leb t (c + w)
unfolding stop
in_window w c t h l = rw (ne_eqb w MAX (λ e. omega arith), le-leb (c + 0) t (omega arith))

in_open : (c t : ℕ) → c ≤ t → t ≤ MAX → in_range (within MAX) c t ≡ true
unfolding stop
in_open c t l m = rw (le-leb (c + 0) t (omega arith), le-leb t MAX m)

-- ---- the three snapshots of a scan, for Since and for Historically
three : {p₁ r₁ p₂ r₂ p₃ r₃ p r : Bool} (i₁ i₂ i₃ i x y : Bool) → p₁ ≡ false → r₁ ≡ false → p₂ ≡ p → r₂ ≡ r → p₃ ≡ false → r₃ ≡ false → i₂ ≡ i → x ≡ y
    → (p₁ && i₁ || not r₁ && (p₂ && i₂ || not r₂ && (p₃ && i₃ || not r₃ && x))) ≡ (p && i || not r && y)
three i₁ i₂ i₃ i x y e₁ e₂ e₃ e₄ e₅ e₆ e₇ e₈ = rw (e₁, e₂, e₃, e₄, e₅, e₆, e₇, e₈)

two : {p₂ r₂ p₃ r₃ p r : Bool} (i₂ i₃ x y : Bool) → p₂ ≡ p → r₂ ≡ r → p₃ ≡ false → r₃ ≡ false → x ≡ y
    → (p₂ && i₂ || not r₂ && (p₃ && i₃ || not r₃ && x)) ≡ (p && i₂ || not r && y)
two i₂ i₃ x y e₃ e₄ e₅ e₆ e₈ = rw (e₃, e₄, e₅, e₆, e₈)

off : {o : Bool} (x : Bool) → o ≡ false → not (not o || x) ≡ false
off x e = rw e

-- a handout is no promise and no return
at_handout : (h p r i x : Bool) → (h ≡ true → p ≡ false) → (h ≡ true → r ≡ false) → not (not h || (p && i || not r && x)) ≡ (h && not x)
at_handout false p r i x m n = refl
at_handout true p r i x m n = rw (m refl, n refl)

ever : (n₁ n₂ n₃ i₁ i₂ i₃ x n y : Bool) → n₁ ≡ false → n₂ ≡ n → n₃ ≡ false → i₂ ≡ true → x ≡ y
    → (n₁ && i₁ || true && (n₂ && i₂ || true && (n₃ && i₃ || true && x))) ≡ (n || y)
ever n₁ n₂ n₃ i₁ i₂ i₃ x n y e₁ e₂ e₃ e₄ e₅ = rw (e₁, e₂, e₃, e₄, e₅) (tail n y)
  where
    tail : (n y : Bool) → (n && true || y) ≡ (n || y)
    tail true y = refl
    tail false y = refl

-- ---- one kit, of a desk where no barcode is given twice
module _ (kits : List Kit) (apart : repeats (codes kits) ≡ false) (k : ℕ) (l : k < length kits) where
  abbrev ws : List ℕ
  ws = windows kits

  abbrev b : Rows
  b = desk_rows ws

  abbrev x : Kit
  x = kit_at kits k

  inside : k < length ws
  inside = omega (arith, windows_length kits)

  window_is : get_or ws k 0 ≡ x.window
  window_is = get_or-map window_of kits k no_kit

  -- what its rows mean
  abbrev is_on : ℕ → Fact
  is_on i h = on kits (atom_of k i) h

  abbrev no_return : Fact
  no_return h = not (is_on RETURN h)

  abbrev promised_now : Fact
  promised_now h = since_some (within x.window) no_return (is_on PROMISE) h (now_of b h).clock

  abbrev fine : Fact
  fine h = not (is_on HANDOUT h) || promised_now h

  abbrev wrong : Fact
  wrong h = not (fine h)

  mean : (i : ℕ) → meaning b (row_of k i) ≡ meaning_rule b (row_of k i) (map_row (meaning b) (get_or (kit_rows k x.window (rest ws k inside)) i never))
  mean i = meaning_fix b (desk_ordered ws) (row_of k i)
      ∙ ap (λ row. meaning_rule b (row_of k i) (map_row (meaning b) row)) (row_is ws k inside i)
      ∙ ap (λ w. meaning_rule b (row_of k i) (map_row (meaning b) (get_or (kit_rows k w (rest ws k inside)) i never))) window_is

  mean0 : meaning b (row_of k 0) ≡ is_on HANDOUT
  unfolding meaning_rule
  mean0 = mean 0

  mean1 : meaning b (row_of k 1) ≡ is_on RETURN
  unfolding meaning_rule
  mean1 = mean 1

  mean2 : meaning b (row_of k 2) ≡ no_return
  unfolding meaning_rule
  mean2 = mean 2 ∙ ap {B = Fact} (λ (f : Fact) h. not (f h)) mean1

  mean3 : meaning b (row_of k 3) ≡ is_on PROMISE
  unfolding meaning_rule
  mean3 = mean 3

  mean4 : meaning b (row_of k 4) ≡ promised_now
  unfolding meaning_rule instants
  mean4 = mean 4 ∙ ap₂ {C = Fact} (λ (f q : Fact) h. since_some (within x.window) f q h (now_of b h).clock) mean2 mean3

  mean5 : meaning b (row_of k 5) ≡ fine
  unfolding meaning_rule
  mean5 = mean 5 ∙ ap₂ {C = Fact} (λ (f q : Fact) h. not (f h) || q h) mean0 mean4

  pub instants_are : (h : History) (t : ℕ) → instants (map_row (meaning b) (row_at b (guarantee k))) h t ≡ since_some (within MAX) (λ h. true) wrong h t
  unfolding instants
  instants_are h t =
      ap (λ row. instants (map_row (meaning b) row) h t) (row_is ws k inside 6)
      ∙ ap (λ (f : Fact). since_some (within MAX) (λ h. true) (λ h. not (f h)) h t) mean5

  pub guarantee_means : (h : History) → meaning b (guarantee k) h ≡ not (since_some (within MAX) (λ h. true) wrong h (now_of b h).clock)
  unfolding meaning_rule instants
  guarantee_means h =
      ap (λ (f : Fact). f h) (mean 6)
      ∙ ap (λ (f : Fact). not (since_some (within MAX) (λ h. true) (λ h. not (f h)) h (now_of b h).clock)) mean5

  -- in desk terms
  module _ (small : x.window ≤ LAST_TIME) where
    since_is : (es : List Scan) → Timely kits es → (t : ℕ) → last_hour es ≤ t
        → since_some (within x.window) no_return (is_on PROMISE) (past kits es) t ≡ promised x t es
    unfolding since_some past promised
    since_is [] q t m = refl
    since_is (e ∷ es) q t m =
        three _ _ _ (leb t (e.hour + x.window)) _ _
        (clear_on kits (atom_of k PROMISE))
        (clear_on kits (atom_of k RETURN))
        (promise_on kits apart e k l)
        (return_on kits apart e k l)
        (quiet kits es (atom_of k PROMISE))
        (quiet kits es (atom_of k RETURN))
        (in_window x.window e.hour t small m)
        (since_is es q.2 t (omega arith))

    wrong_is : (e : Scan) (es : List Scan) → Timely kits (e ∷ es) → let n₁ = timed (now_of b (past kits es)) e.hour in
        wrong (stated n₁ (state_of kits e) ∷ n₁ ∷ past kits es) ≡ (reads x.handout e && not (promised x e.hour es))
    unfolding since_some
    wrong_is e es q =
        ap₂ (λ x y. not (not x || y)) (handout_on kits apart e k l)
        (two _ _ _ _ (promise_on kits apart e k l) (return_on kits apart e k l)
        (quiet kits es (atom_of k PROMISE)) (quiet kits es (atom_of k RETURN))
        (since_is es q.2 e.hour q.0))
        ∙ at_handout (reads x.handout e) (reads x.promise e) (reads x.return e) _ (promised x e.hour es)
        (promise_not_handout kits apart e k l)
        (return_not_handout kits apart e k l)

    pub stopped_is : (es : List Scan) → Timely kits es → (t : ℕ) → last_hour es ≤ t → t ≤ MAX
        → since_some (within MAX) (λ h. true) wrong (past kits es) t ≡ stopped x es
    unfolding since_some past stopped
    stopped_is [] q t m n = refl
    stopped_is (e ∷ es) q t m n =
        ever _ _ _ _ _ _ _ _ _
        (off _ (clear_on kits (atom_of k HANDOUT)))
        (wrong_is e es q)
        (off _ (quiet kits es (atom_of k HANDOUT)))
        (in_open e.hour t m n)
        (stopped_is es q.2 t (omega arith) n)
