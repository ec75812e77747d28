-- A desk's memory that came of opening it and of scans, by what `open` and `scan` promise. Definitions only.
use Rattle.std.specs.Prelude.{ℕ, List, [], ◌∷◌}
use Rattle.desk_rules.specs.Scans.{Kit, Scan}
use Rattle.desk.specs.declared.Scanned.{Scanned}
use Rattle.desk.specs.Standing.{Opens, Scans}

-- a desk of kits was opened, and then the scans were made, the newest first, refused ones among them: they left this table and this monitor's memory
pub data Made (kits : List Kit) : List Scan → List ℕ → List ℕ → Type 0 where
  opens : {table m : List ℕ} {r : ℕ} → Opens kits table m r → Made kits [] table m
  scans : (e : Scan) {es : List Scan} {table m m' : List ℕ} {r : Scanned} → Made kits es table m → Scans e table m m' r → Made kits (e ∷ es) table m'
