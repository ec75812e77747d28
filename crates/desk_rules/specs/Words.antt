-- `promised` and `stopped` of Scans in words, by scans so many scans ago. Definitions only.
use Rattle.std.specs.Prelude.{ℕ, zero, suc, ◌+◌, ◌≤◌, ◌<◌, ◌≡◌, List, [], ◌∷◌}
use Rattle.desk_rules.specs.Scans.{Kit, Scan}

-- i scans ago e was scanned; `before` are the scans before it
abbrev pub Ago : ℕ → Scan → List Scan → List Scan → Type 0
Ago i e before [] = ⊥
Ago zero e before (x ∷ es) = (x ≡ e) × (es ≡ before)
Ago (suc i) e before (x ∷ es) = Ago i e before es

-- before the hour t, j scans ago, a promise of the kit was scanned, at most its window ago, and at no later scan a return of it
pub record Promised (x : Kit) (t : ℕ) (es : List Scan) : Type 0 where
  pub j : ℕ
  pub scan : Scan
  pub before : List Scan
  pub ago : Ago j scan before es
  pub is_promise : scan.barcode ≡ x.promise
  pub in_window : t ≤ scan.hour + x.window
  pub no_return : (m : ℕ) (e : Scan) (past : List Scan) → m < j → Ago m e past es → ¬ (e.barcode ≡ x.return)

-- i scans ago the kit's handout was scanned, and the kit was not promised then
pub record Stopped (x : Kit) (es : List Scan) : Type 0 where
  pub i : ℕ
  pub scan : Scan
  pub before : List Scan
  pub ago : Ago i scan before es
  pub is_handout : scan.barcode ≡ x.handout
  pub not_promised : ¬ Promised x scan.hour before
