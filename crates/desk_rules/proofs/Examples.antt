-- A desk of one kit with a window of 6 hours, computed by the definitions: promised at 1 and handed out at 10, which is too late.
use mathlib.Core.Path.{◌≡◌, refl}
use mathlib.Core.Bool.{Bool, true, false}
use mathlib.Core.List.{List, [], ◌∷◌}
use Rattle.numset.specs.Runs.{has, covers, insert, union, kept}
use Rattle.pmtl.specs.Book.{stop, width_of, table, answer, every, some}
use Rattle.pmtl.specs.Sets.{gone, stays_if, added_if, renewed, set_rule_by}
use Rattle.pmtl.specs.Monitor.{initial_in, value_rule, value, step_by}
use Rattle.pmtl.specs.Calls.{Call, stamped, first_of, refusal, crowded, play, call, after_in, after}
use Rattle.desk_rules.specs.Scans.{Kit, Scan, reads, promised, stopped, scan_number, taken}
use Rattle.desk_rules.specs.Rows.{rows_from, desk_rows, guarantee}
use Rattle.desk_rules.specs.Desk.{place_of, or_as_before, cleared, pulse, scanned_at, desk_after}

abbrev pub eyepiece : Kit
eyepiece = record { promise = 100; handout = 101; return = 102; window = 6 }

-- the handout, a barcode of no kit, an hour that goes back, the promise
abbrev pub late : List Scan
late =
    record { hour = 10; barcode = 101 }
    ∷ record { hour = 2; barcode = 7 }
    ∷ record { hour = 0; barcode = 102 }
    ∷ record { hour = 1; barcode = 100 }
    ∷ []

-- in desk terms it is stopped
pub stopped_late : stopped eyepiece (taken (eyepiece ∷ []) late) ≡ true
unfolding reads promised stopped scan_number taken some
stopped_late = refl

-- and so the monitor says
unfoldable pub value_after : List Scan → Bool
unfolding has covers insert union kept stop width_of table answer every some gone stays_if added_if renewed set_rule_by initial_in value_rule value step_by first_of refusal crowded play call rows_from place_of or_as_before cleared pulse scanned_at desk_after
value_after es = value (desk_rows (6 ∷ [])) (desk_after (eyepiece ∷ []) es) (guarantee 0)

pub false_late : value_after late ≡ false
unfolding value_after
false_late = refl

-- without the clear state after each scan the promise would be seen again at 10, and the kit would not be stopped
abbrev pub unclear : List Call
unclear = stamped 10 (0 ∷ 1 ∷ 0 ∷ []) ∷ stamped 1 (1 ∷ 0 ∷ 0 ∷ []) ∷ []

unfoldable pub value_unclear : List Call → Bool
unfolding has covers insert union kept stop width_of table answer every some gone stays_if added_if renewed set_rule_by initial_in value_rule value step_by first_of refusal crowded play call after_in rows_from
value_unclear calls = value (desk_rows (6 ∷ [])) (after (desk_rows (6 ∷ [])) calls) (guarantee 0)

pub true_unclear : value_unclear unclear ≡ true
unfolding value_unclear
true_unclear = refl
