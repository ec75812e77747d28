-- Kits as they are given, in words. Definitions only.
use Rattle.std.specs.Prelude.{ℕ, ◌+◌, ◌*◌, List, get_or}
use Rattle.numbers.specs.Limits.{MOST_KITS}
use Rattle.lists.specs.Lists.{listed}
use Rattle.desk_rules.specs.Scans.{Kit}
use Rattle.desk_rules.specs.Rows.{KIT_ATOMS}

-- the words of a kit: its promise, handout and return barcode, and its window
abbrev pub KIT_WORDS : ℕ
KIT_WORDS = 4

-- the most words of kits, and the most barcodes
abbrev pub MOST_KIT_WORDS : ℕ
MOST_KIT_WORDS = KIT_WORDS * MOST_KITS

abbrev pub MOST_BARCODES : ℕ
MOST_BARCODES = KIT_ATOMS * MOST_KITS

-- kit k of the words, and the first n of them
abbrev pub kit_in : List ℕ → ℕ → Kit
kit_in words k = record {
  promise = get_or words (KIT_WORDS * k) 0;
  handout = get_or words (KIT_WORDS * k + 1) 0;
  return = get_or words (KIT_WORDS * k + 2) 0;
  window = get_or words (KIT_WORDS * k + 3) 0;
}

unfoldable pub kits_in : List ℕ → ℕ → List Kit
kits_in words n = listed (kit_in words) n
