-- The kit desk in its own terms: kits, scans of barcodes, and when a kit is stopped. Definitions only.
use Rattle.std.specs.Prelude.{ℕ, ◌+◌, ◌≤◌, ◌≡◌, Bool, false, cond, not, ◌&&◌, ◌||◌, List, [], ◌∷◌, map, length, get_or, leb, ltb, eqb}
use Rattle.numbers.specs.Limits.{LAST_TIME, MOST_KITS}
use Rattle.numbers.specs.Refusals.{ACCEPTED, TOO_EARLY, TOO_LATE, WRONG_KITS, WINDOW_TOO_LONG, UNKNOWN_BARCODE}
use Rattle.pmtl.specs.Book.{some}

-- a kit: the barcodes that say it is promised, handed out and returned, and for how many hours a promise counts
pub record Kit : Type 0 where
  pub promise : ℕ
  pub handout : ℕ
  pub return : ℕ
  pub window : ℕ

-- kit k, the first of which is kit 0; one that is not there has nothing
abbrev pub no_kit : Kit
no_kit = record { promise = 0; handout = 0; return = 0; window = 0 }

abbrev pub kit_at : List Kit → ℕ → Kit
kit_at kits k = get_or kits k no_kit

-- a barcode scanned at an hour
pub record Scan : Type 0 where
  pub hour : ℕ
  pub barcode : ℕ

-- the scan is of this barcode
unfoldable pub reads : ℕ → Scan → Bool
reads code e = eqb e.barcode code

-- ---- what is wrong with the kits of a desk
-- all barcodes, those of the first kit first
abbrev pub codes : List Kit → List ℕ
codes [] = []
codes (x ∷ xs) = x.promise ∷ x.handout ∷ x.return ∷ codes xs

abbrev pub window_of : Kit → ℕ
window_of x = x.window

abbrev pub windows : List Kit → List ℕ
windows kits = map window_of kits

-- a number is given twice
unfoldable pub repeats : List ℕ → Bool
repeats [] = false
repeats (c ∷ cs) = some (eqb c) cs || repeats cs

-- no kit, too many, or a barcode given twice; then a window above the last time
unfoldable pub open_number : List Kit → ℕ
open_number kits =
    cond (eqb (length kits) 0 || ltb MOST_KITS (length kits) || repeats (codes kits)) WRONG_KITS
    (cond (some (ltb LAST_TIME) (windows kits)) WINDOW_TOO_LONG ACCEPTED)

-- the desk of these kits: a refused one has no kit
unfoldable pub desk_of : List Kit → List Kit
desk_of kits = cond (eqb (open_number kits) ACCEPTED) kits []

-- so of every desk: few kits, no barcode given twice, no window above the last time
pub record Fine (kits : List Kit) : Type 0 where
  pub few : length kits ≤ MOST_KITS
  pub apart : repeats (codes kits) ≡ false
  pub small : (k : ℕ) → (kit_at kits k).window ≤ LAST_TIME

-- ---- lists of scans, the newest first
-- at the hour t the kit is promised: a promise was scanned, at most its window ago, and no return after it
unfoldable pub promised : Kit → ℕ → List Scan → Bool
promised x t [] = false
promised x t (e ∷ es) = reads x.promise e && leb t (e.hour + x.window) || not (reads x.return e) && promised x t es

-- the kit is stopped: at some scan it was handed out and was not promised before; that scan is of the handout, so it is no promise itself
unfoldable pub stopped : Kit → List Scan → Bool
stopped x [] = false
stopped x (e ∷ es) = reads x.handout e && not (promised x e.hour es) || stopped x es

-- the hour of the newest
abbrev pub last_hour : List Scan → ℕ
last_hour [] = 0
last_hour (e ∷ es) = e.hour

-- what is wrong with a scan after accepted ones: a barcode of no kit; an hour before the last one; an hour above the last time
unfoldable pub scan_number : List Kit → List Scan → Scan → ℕ
scan_number kits es e =
    cond (some (eqb e.barcode) (codes kits)) (cond (ltb e.hour (last_hour es)) TOO_EARLY (cond (ltb LAST_TIME e.hour) TOO_LATE ACCEPTED))
    UNKNOWN_BARCODE

-- the accepted ones of some scans
unfoldable pub taken : List Kit → List Scan → List Scan
taken kits [] = []
taken kits (e ∷ es) = cond (eqb (scan_number kits (taken kits es) e) ACCEPTED) (e ∷ taken kits es) (taken kits es)
