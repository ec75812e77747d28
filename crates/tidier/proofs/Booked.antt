-- Laws of laying all properties of an accepted book. Assumes nothing.
use Prim.Native.Nat.{ℕ, suc, ◌+◌, ◌-◌, ◌*◌, ◌/◌, ◌≤◌, ◌<◌}
use mathlib.Core.Path.{◌≡◌, refl, sym, ap, ◌∙◌}
use mathlib.Core.Bool.{Bool, true}
use mathlib.Core.List.{List, [], ◌∷◌, ◌++◌, map, map-append}
use mathlib.Core.Logic.{⊎_elim}
use native.Mathlib.Omega.{arith}
use lib.ListN.{length, get_or, take, length-map, length-append, get_or-append}
use lib.Seq.{take-suc, take-length, get_or-append-add}
use Rattle.numbers.specs.Limits.{ROW_WORDS}
use Rattle.numbers.specs.Refusals.{ACCEPTED}
use Rattle.lists.proofs.Tests.{lt_or_ge}
use Rattle.lists.proofs.Parts.{part_length}
use Rattle.pmtl.specs.Book.{Rows, Book}
use Rattle.book.specs.Reading.{Sections}
use Rattle.book.specs.Rows.{count_of}
use Rattle.book.specs.Judging.{kind_in, arg_in, Loaded, book_in, loaded}
use Rattle.book.specs.Placing.{parts_of, Placed, Counted}
use Rattle.book.proofs.Placing.{accepted_book}
use Rattle.trees.specs.Forest.{Forest, none, ◌then◌, count, size, roots, entries}
use Rattle.trees.specs.Building.{all_rows, all_operands, Rooms}
use Rattle.trees.specs.Books.{joined}
use Rattle.trees.specs.Walking.{Held, HeldRow, Properties, rows_said}
use Rattle.trees.proofs.Built.{then_none}
use Rattle.trees.proofs.Walking.{said_ordered, said_count, all_held, assumes_there, guarantees_there, rows_are}
use Rattle.tidying.specs.declared.Step.{Step}
use Rattle.tidying.specs.Steps.{parts_at, fits, stepped_at, stepped_of, all_after}
use Rattle.tidying.proofs.Remade.{only, joined_append}
use Rattle.tidier.specs.Laying.{Fitted, target_of, laid_parts, done_parts, Lies, Layable, Kept, Visitable, Lays, LaysAll}
use Rattle.tidier.specs.declared.lay.Laid.{Laid}
use Rattle.tidier.specs.declared.lay.Site.{Site}
use Rattle.tidier.proofs.Adding.{kept_none, kept_then, layable_after}
use Rattle.tidier.proofs.Walked.{map_at, good_rows, Target, target_is}

-- ---- a book by its places
-- the places of an accepted book
pub placed_as : {words : List ℕ} {n o a g : ℕ} → (loaded words).number ≡ ACCEPTED → Counted words n o a g → Placed words ACCEPTED n o a g
placed_as ok c = record { number_is = sym ok; counted = λ _. c; none = λ z. absurd (z refl) }

module _ {words : List ℕ} {number n o a g : ℕ} (p : Placed words number n o a g) (ok : number ≡ ACCEPTED) where
  abbrev parts : Sections
  parts = parts_of words n o a g

  book_is : (loaded words).book ≡ book_in parts
  book_is = ap (λ (l : Loaded). l.book) (accepted_book words number n o a g p ok)

  pub assumes_are : (loaded words).book.assumes ≡ parts.assumes
  unfolding book_in
  assumes_are = ap (λ (b : Book). b.assumes) book_is

  pub guarantees_are : (loaded words).book.guarantees ≡ parts.guarantees
  unfolding book_in
  guarantees_are = ap (λ (b : Book). b.guarantees) book_is

  pub assumes_many : a ≡ length (loaded words).book.assumes
  unfolding parts_of
  assumes_many = let c = p.counted ok in sym (ap length assumes_are ∙ part_length (ROW_WORDS * n + o + 3) a words (omega (arith, c.long)))

  pub guarantees_many : g ≡ length (loaded words).book.guarantees
  unfolding parts_of
  guarantees_many = let c = p.counted ok in sym (ap length guarantees_are ∙ part_length (ROW_WORDS * n + o + a + 4) g words (omega (arith, c.long)))

  module _ {rs os : List ℕ} (er : rs ≡ parts.rows) (eo : os ≡ parts.operands) where
    pub said_book : rows_said rs os ≡ (loaded words).book.rows
    said_book = rows_are p ok er eo ∙ sym (ap (λ (b : Book). b.rows) book_is)

    pub fits_said : {z : Bool} (s : Step) → z ≡ fits (rows_said rs os) s → z ≡ fits (loaded words).book.rows s
    fits_said s e = rw said_book at e

    pub fit_said : (s : Step) → fits (loaded words).book.rows s ≡ true → fits (rows_said rs os) s ≡ true
    fit_said s e = rw said_book e

-- ---- properties, assumes first
pub first_property : (xs ys : List ℕ) (i : ℕ) → i < length xs → get_or xs i 0 ≡ get_or (xs ++ ys) i 0
first_property xs ys i h = sym (get_or-append xs ys 0 i h)

pub second_property : (xs ys : List ℕ) (i : ℕ) → length xs ≤ i → get_or ys (i - length xs) 0 ≡ get_or (xs ++ ys) i 0
second_property xs ys i h = let e : length xs + (i - length xs) ≡ i = omega arith in sym (rw e at (get_or-append-add xs ys (i - length xs) 0))

low_all : {rows operands xs ys : List ℕ} → Properties rows operands xs → Properties rows operands ys → (i : ℕ) → i < length xs + length ys → get_or (xs ++ ys) i 0 < length rows / ROW_WORDS
low_all {rows} {operands} {xs} {ys} p q i h = ⊎_elim (λ l. rw (← first_property xs ys i l) (p.inside i l)) (λ l. rw (← second_property xs ys i l) (q.inside (i - length xs) (omega arith))) (lt_or_ge i (length xs))

-- the properties of an accepted book, and a step that fits
pub record Source (rows operands : List ℕ) (s : Step) (xs ys : List ℕ) : Type 0 where
  pub held : Held rows operands
  pub fit : fits (rows_said rows operands) s ≡ true
  pub low : (i : ℕ) → i < length xs + length ys → get_or (xs ++ ys) i 0 < length rows / ROW_WORDS

pub source_of : {words rs os xs ys : List ℕ} {number n o a g : ℕ} (s : Step) (p : Placed words number n o a g) → number ≡ ACCEPTED → rs ≡ (parts_of words n o a g).rows → os ≡ (parts_of words n o a g).operands
    → xs ≡ (parts_of words n o a g).assumes → ys ≡ (parts_of words n o a g).guarantees → fits (loaded words).book.rows s ≡ true → Source rs os s xs ys
source_of {xs = xs} {ys} s p ok er eo ex ey f = record {
  held = all_held p ok er eo;
  fit = fit_said p ok er eo s f;
  low = low_all (assumes_there p ok er eo xs ex) (guarantees_there p ok er eo ys ey);
}

-- so many properties are laid
pub record Going (b : Rows) (s : Step) (xs ys rs₀ os₀ ts₀ : List ℕ) (i : ℕ) (l : Laid) (rs os ts : List ℕ) : Type 0 where
  pub lies : Lies (joined (take i (map (stepped_at b s) (xs ++ ys)))) l rs os ts
  pub kept : Kept rs₀ os₀ ts₀ l rs os ts
  pub low : i ≤ length xs + length ys

abbrev nothing : Laid
nothing = record { rows = 0; operands = 0; height = 0 }

pub going_start : (b : Rows) (s : Step) (xs ys rs os ts : List ℕ) → Going b s xs ys rs os ts 0 nothing rs os ts
unfolding joined size count entries roots all_rows all_operands
going_start b s xs ys rs os ts = record {
  lies = record {
    small = λ h. record { mem = record { rows = refl; operands = refl; tops = refl }; rows = refl; height = refl; balance = refl };
    large = λ h. absurd (omega arith);
  };
  kept = kept_none (omega arith) (omega arith);
  low = omega arith;
}

module _ {rows operands xs ys : List ℕ} {s : Step} (x : Source rows operands s xs ys) where
  abbrev b : Rows
  b = rows_said rows operands

  abbrev st : ℕ → Forest
  st = stepped_at b s

  module _ (i : ℕ) (h : i < length xs + length ys) (p : ℕ) (e : p ≡ get_or (xs ++ ys) i 0) where
    pub property_fitted : Fitted rows operands s p
    property_fitted = record { at = record { held = x.held; inside = rw e (x.low i h) }; fit = x.fit }

    module _ (t : ℕ) (et : t ≡ target_of b s p) where
      aim : Target b (said_ordered x.held) s x.fit (good_rows x.held) p t
      aim = rw et (target_is b (said_ordered x.held) s x.fit (good_rows x.held) p)

      pub property_row_lem : HeldRow rows t
      property_row_lem = record { operands = operands; held = x.held; inside = omega (arith, aim.low, property_fitted.at.inside) }

      module _ (c : ℕ) (ec : c ≡ count_of (kind_in rows t) (arg_in rows t)) where
        abbrev site : Laid → Site
        site l = record { step = s; row = t; left = c; base = l.height; laid = l }

        pub property_visit : {l : Laid} {p q r : ℕ} → Layable l p q r → Visitable rows operands (site l) p q r
        property_visit y = record { walk = record { held = x.held; inside = property_row_lem.inside; some = omega (arith, ec) }; fit = x.fit; stays = aim.stays; layable = y }

        none_done : (l : Laid) → done_parts b (site l) ≡ none
        unfolding joined
        none_done l =
            let z : length (parts_at b t) - c ≡ 0 = omega (arith, said_count x.held t property_row_lem.inside) in
            ap (λ (n : ℕ). joined (take n (laid_parts b s t))) z

        pub going_more : {rs₀ os₀ ts₀ rs os ts rs' os' ts' : List ℕ} {l l' : Laid} → Going b s xs ys rs₀ os₀ ts₀ i l rs os ts → Lays b (site l) rs os ts l' rs' os' ts' → Going b s xs ys rs₀ os₀ ts₀ (i + 1) l' rs' os' ts'
        going_more {l = l} y m =
            let ps = xs ++ ys in
            let g = joined (take i (map st ps)) in
            let z : i + 1 ≡ suc i = omega arith in
            let k : i < length (map st ps) = omega (arith, length-map ps st, length-append xs ys) in
            let more : joined (take (i + 1) (map st ps)) ≡ g then st t =
            ap (λ (n : ℕ). joined (take n (map st ps))) z ∙ ap joined (take-suc (map st ps) i none k) ∙ joined_append (take i (map st ps)) (get_or (map st ps) i none ∷ [])
            ∙ ap (λ (f : Forest). g then f) (only (get_or (map st ps) i none) ∙ map_at st ps i (omega (arith, length-append xs ys)) ∙ ap st (sym e) ∙ sym aim.same) in
            record {
              lies = rw more (m.holds g (λ q. (y.lies.small (rw (then_none g) at q)).height) (rw (← then_none g, ← none_done l) at y.lies));
              kept = kept_then y.kept m.kept;
              low = omega arith;
            }

  -- all of them
  pub going_all : {rs₀ os₀ ts₀ rs os ts words : List ℕ} {i : ℕ} {l : Laid} → Going b s xs ys rs₀ os₀ ts₀ i l rs os ts → length xs + length ys ≤ i → Rooms (length rs₀) (length os₀) (length ts₀)
      → b ≡ (loaded words).book.rows → (loaded words).book.assumes ≡ xs → (loaded words).book.guarantees ≡ ys → LaysAll words s l rs os ts
  unfolding stepped_of
  going_all {words = words} {i} y h r eb ex ey =
      let n : i ≡ length (map st (xs ++ ys)) = omega (arith, y.low, length-map (xs ++ ys) st, length-append xs ys) in
      let f : joined (take i (map st (xs ++ ys))) ≡ all_after (loaded words).book s =
      ap (λ (k : ℕ). joined (take k (map st (xs ++ ys)))) n ∙ ap joined (take-length (map st (xs ++ ys))) ∙ ap joined (map-append st xs ys) ∙ joined_append (map st xs) (map st ys)
      ∙ rw (← eb, ex, ey) refl in
      record { lies = rw f at y.lies; rooms = (layable_after r y.kept).rooms }
