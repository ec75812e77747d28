-- The history that accepted scans leave: three snapshots for each, and which atoms are on in them. Assumes nothing.
use Prim.Native.Nat.{ℕ, zero, suc, ◌≤◌, ◌<◌}
use native.Mathlib.Omega.{arith}
use mathlib.Core.Path.{◌≡◌, refl, sym, ap, ◌∙◌}
use mathlib.Core.Bool.{Bool, true, false}
use mathlib.Core.List.{List, [], ◌∷◌, map}
use lib.ListN.{length, get_or, set, replicate, length-replicate, length-set, get_or-map}
use lib.Seq.{get_or-set_same, get_or-set_other}
use lib.Dec.{ltb, eqb}
use borrow.Author.Tests.{eqb-true, eqb-false, ne_eqb, le-ltb}
use Rattle.numbers.specs.Limits.{MAX, LAST_TIME, MOST_KITS, MOST_ATOMS}
use Rattle.lists.proofs.Parts.{get_or_zeros}
use Rattle.pmtl.specs.Book.{Rows, width_of, some}
use Rattle.pmtl.specs.Calls.{timed, stated, state_refusal, History, now_of}
use Rattle.pmtl.proofs.History.{Legal}
use Rattle.desk_rules.specs.Scans.{Kit, kit_at, Scan, reads, codes, windows, repeats, last_hour}
use Rattle.desk_rules.specs.Rows.{PROMISE, HANDOUT, RETURN, atom_of, desk_rows}
use Rattle.desk_rules.specs.Desk.{place_of, clear, one_on}
use Rattle.desk_rules.proofs.Rows.{desk_width}
use Rattle.desk_rules.proofs.Places.{codes_length, windows_length, promise_place, handout_place, return_place}

-- ---- states with nothing on, or one atom
false_at : (n a : ℕ) → get_or (replicate n false) a false ≡ false
false_at zero a = refl
false_at (suc n) zero = refl
false_at (suc n) (suc a) = false_at n a

fine_clear : (n : ℕ) → some (ltb 1) (replicate n 0) ≡ false
unfolding some
fine_clear zero = refl
fine_clear (suc n) = fine_clear n

fine_one : (n i : ℕ) → some (ltb 1) (set (replicate n 0) i 1) ≡ false
unfolding some
fine_one zero i = refl
fine_one (suc n) zero = fine_clear n
fine_one (suc n) (suc i) = fine_one n i

-- byte y of a state with byte x on
one_on_lem : (n x y : ℕ) → y < n → eqb (get_or (one_on n x) y 0) 1 ≡ eqb x y
one_on_lem n x y h = go (eqb x y) refl
  where
    go : (z : Bool) → eqb x y ≡ z → eqb (get_or (one_on n x) y 0) 1 ≡ z
    go true z =
        let e : x ≡ y = eqb-true x y z in
        let g : ◌≡◌ {A = ℕ} (get_or (one_on n x) y 0) 1 = rw e (get_or-set_same (replicate n 0) y 1 0 (omega (arith, length-replicate {A = ℕ} n 0))) in
        ap (λ v. eqb v 1) g
    go false z = ap (λ v. eqb v 1) (get_or-set_other (replicate n 0) x y 1 0 (λ e. eqb-false x y z (sym e)) ∙ get_or_zeros n y)

abbrev pub atoms_in : List ℕ → List Bool
atoms_in bytes = map (λ x. eqb x 1) bytes

module _ (kits : List Kit) where
  abbrev b : Rows
  b = desk_rows (windows kits)

  abbrev pub width : ℕ
  width = length (codes kits)

  width_is : width_of b ≡ width
  width_is = omega (arith, desk_width (windows kits), windows_length kits, codes_length kits)

  -- the state that a scan becomes
  abbrev pub state_of : Scan → List ℕ
  state_of e = one_on width (place_of e.barcode (codes kits))

  -- ---- the history
  unfoldable pub past : List Scan → History
  past [] = []
  past (e ∷ es) = let n₁ = timed (now_of b (past es)) e.hour in stated n₁ (clear width) ∷ stated n₁ (state_of e) ∷ n₁ ∷ past es

  -- an atom now
  abbrev pub on : ℕ → History → Bool
  on a h = get_or (now_of b h).atoms a false

  pub clear_on : (a : ℕ) → get_or (atoms_in (clear width)) a false ≡ false
  clear_on a = get_or-map (λ x. eqb x 1) (clear width) a 0 ∙ ap (λ x. eqb x 1) (get_or_zeros width a)

  -- none is on between scans
  pub quiet : (es : List Scan) (a : ℕ) → on a (past es) ≡ false
  unfolding past
  quiet [] a = false_at (width_of b) a
  quiet (e ∷ es) a = clear_on a

  -- in a scan, its own
  module _ (apart : repeats (codes kits) ≡ false) (e : Scan) (k : ℕ) (l : k < length kits) where
    atom_on : (i : ℕ) → i < 3 → get_or (atoms_in (state_of e)) (atom_of k i) false ≡ eqb (place_of e.barcode (codes kits)) (atom_of k i)
    atom_on i h = get_or-map (λ x. eqb x 1) (state_of e) (atom_of k i) 0
        ∙ one_on_lem width (place_of e.barcode (codes kits)) (atom_of k i) (omega (arith, codes_length kits))

    pub promise_on : get_or (atoms_in (state_of e)) (atom_of k PROMISE) false ≡ reads (kit_at kits k).promise e
    unfolding reads
    promise_on = atom_on 0 (omega arith) ∙ promise_place kits apart e.barcode k l

    pub handout_on : get_or (atoms_in (state_of e)) (atom_of k HANDOUT) false ≡ reads (kit_at kits k).handout e
    unfolding reads
    handout_on = atom_on 1 (omega arith) ∙ handout_place kits apart e.barcode k l

    pub return_on : get_or (atoms_in (state_of e)) (atom_of k RETURN) false ≡ reads (kit_at kits k).return e
    unfolding reads
    return_on = atom_on 2 (omega arith) ∙ return_place kits apart e.barcode k l

    -- a handout is no promise and no return
    other_atom : (i : ℕ) → i < 3 → ¬ (i ≡ 1) → eqb (place_of e.barcode (codes kits)) (atom_of k HANDOUT) ≡ true → eqb (place_of e.barcode (codes kits)) (atom_of k i) ≡ false
    other_atom i h n z =
        let y = eqb-true (place_of e.barcode (codes kits)) (atom_of k HANDOUT) z in
        ne_eqb (place_of e.barcode (codes kits)) (atom_of k i) (λ q. n (omega arith))

    pub promise_not_handout : reads (kit_at kits k).handout e ≡ true → reads (kit_at kits k).promise e ≡ false
    unfolding reads
    promise_not_handout h =
        sym (promise_place kits apart e.barcode k l)
        ∙ other_atom 0 (omega arith) (λ z. omega arith) (handout_place kits apart e.barcode k l ∙ h)

    pub return_not_handout : reads (kit_at kits k).handout e ≡ true → reads (kit_at kits k).return e ≡ false
    unfolding reads
    return_not_handout h =
        sym (return_place kits apart e.barcode k l)
        ∙ other_atom 2 (omega arith) (λ z. omega arith) (handout_place kits apart e.barcode k l ∙ h)

  -- ---- hours in order
  abbrev pub Timely : List Scan → Type 0
  Timely [] = Unit {0}
  Timely (e ∷ es) = (last_hour es ≤ e.hour) × (e.hour ≤ LAST_TIME) × Timely es

  pub last_is : (es : List Scan) → (now_of b (past es)).clock ≡ last_hour es
  unfolding past
  last_is [] = refl
  last_is (e ∷ es) = refl

  pub past_legal : (es : List Scan) → Timely es → Legal b (past es)
  unfolding past
  past_legal [] l = tt
  past_legal (e ∷ es) l = (omega arith, small, (omega arith, small, (omega (arith, last_is es), small, past_legal es l.2)))
    where
      small : e.hour ≤ MAX
      small = omega arith

  pub last_small : (es : List Scan) → Timely es → last_hour es ≤ MAX
  last_small [] l = omega arith
  last_small (e ∷ es) l = omega arith

  -- ---- nothing is wrong with the states
  module _ (few : length kits ≤ MOST_KITS) where
    fine_state : (bytes : List ℕ) → length bytes ≡ width → some (ltb 1) bytes ≡ false → state_refusal b bytes ≡ 0
    fine_state bytes long fine =
        let w = width_is in
        rw (le-ltb MOST_ATOMS (length bytes) (omega (arith, codes_length kits)), le-ltb (width_of b) (length bytes) (omega arith), le-ltb (length bytes) (width_of b) (omega arith), fine)

    pub fine_scan : (e : Scan) → state_refusal b (state_of e) ≡ 0
    fine_scan e = fine_state (state_of e) (length-set (clear width) _ 1 ∙ length-replicate width 0) (fine_one width _)

    pub fine_none : state_refusal b (clear width) ≡ 0
    fine_none = fine_state (clear width) (length-replicate width 0) (fine_clear width)
