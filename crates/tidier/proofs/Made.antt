-- Laws of making the steps of a list, one after another. Assumes nothing.
use Prim.Native.Nat.{ℕ, zero, suc, ◌+◌, ◌-◌, ◌*◌, ◌/◌, ◌≤◌, ◌<◌}
use mathlib.Core.Path.{◌≡◌, refl, sym, ap, ◌∙◌}
use mathlib.Core.Bool.{Bool, true, false, cond}
use mathlib.Core.List.{List, [], ◌∷◌, ◌++◌}
use mathlib.Core.Logic.{⊎_elim}
use native.Mathlib.Omega.{arith}
use lib.ListN.{length, take, drop, replicate, length-append}
use lib.Seq.{length-paste, length-take-le, take-length, take_at, drop-length}
use lib.Dec.{eqb, ltb}
use borrow.Author.Tests.{lt-ltb, le-ltb, eq-eqb, ne_eqb}
use Rattle.numbers.specs.Limits.{MOST_ROWS, MOST_OPERANDS}
use Rattle.numbers.specs.Refusals.{ACCEPTED, PAST_LIMIT, DOES_NOT_FIT}
use Rattle.lists.proofs.Tests.{lt_or_ge, or_left, or_no}
use Rattle.pmtl.specs.Book.{Book}
use Rattle.book.specs.Judging.{book_in, loaded}
use Rattle.book.specs.Placing.{parts_of, Counted}
use Rattle.book.proofs.Placing.{accepted, rows_counted, operands_counted, assumes_counted, guarantees_counted}
use Rattle.trees.proofs.Sums.{uses_many}
use Rattle.trees.specs.Forest.{Forest, ◌then◌, count, size, entries}
use Rattle.trees.specs.Building.{all_operands}
use Rattle.trees.specs.Putting.{MOST_WORDS, Lined, SectionsPut}
use Rattle.book.specs.declared.check.Places.{Places}
use Rattle.trees.proofs.Numbered.{size_then}
use Rattle.lists.specs.Lists.{part, put}
use Rattle.trees.proofs.Built.{count_then, take_sets, copied}
use Rattle.trees.proofs.Loaded.{accepted_words}
use Rattle.trees.proofs.Putting.{part_count, words_built}
use Rattle.tidying.specs.declared.Step.{Step}
use Rattle.tidying.specs.Steps.{fits, assumes_after, guarantees_after, words_after, past_limit}
use Rattle.tidying.specs.Tidied.{step_number, Tidying, done, refused, tidied_from, tidied, steps_of}
use Rattle.tidying.proofs.Accepted.{count_a, count_g}
use Rattle.tidying.proofs.Theorems.{step_gives, of_accepted, of_refused}
use Rattle.tidier.specs.Laying.{Small, LaysAll}
use Rattle.tidier.proofs.Booked.{placed_as}
use Rattle.tidier.specs.Tidies.{HandedBack, handed_back, new_book, zeros, lent_words, TidiedAs, step_at, Stepped, Standing, Fitting, Counting, Makes, Steps}
use Rattle.tidier.specs.declared.lay.Laid.{Laid}

-- ---- one step that fits
module _ (ws : List ℕ) (s : Step) (ok : (loaded ws).number ≡ ACCEPTED) (fit : fits (loaded ws).book.rows s ≡ true) where
  abbrev b : Book
  b = (loaded ws).book

  abbrev fs : Forest
  fs = assumes_after b s

  abbrev gs : Forest
  gs = guarantees_after b s

  number_past : (z : Bool) → past_limit (fs then gs) ≡ z → step_number b s ≡ cond z PAST_LIMIT ACCEPTED
  unfolding step_number
  number_past z e = rw (fit, e) refl

  assumes_count : count fs ≡ length b.assumes
  unfolding book_in
  assumes_count = let x = accepted_words ws ok in rw x.book_is (count_a x.all x.few x.ok s (rw x.book_is at fit))

  guarantees_count : count gs ≡ length b.guarantees
  unfolding book_in
  guarantees_count = let x = accepted_words ws ok in rw x.book_is (count_g x.all x.few x.ok s (rw x.book_is at fit))

  module _ {l : Laid} {rs os ts : List ℕ} (m : LaysAll ws s l rs os ts) where
    pub too_many : MOST_ROWS < l.rows → step_number b s ≡ PAST_LIMIT
    unfolding past_limit
    too_many h = number_past true (⊎_elim
        (λ k. or_left (ltb MOST_ROWS (size (fs then gs))) (ltb MOST_OPERANDS (length (all_operands (entries 0 (fs then gs))))) (lt-ltb MOST_ROWS (size (fs then gs)) k))
        (λ k. absurd (omega (arith, (m.lies.small k).rows, k, h)))
        (lt_or_ge MOST_ROWS (size (fs then gs))))

    module _ (h : l.rows ≤ MOST_ROWS) where
      few : size (fs then gs) ≤ MOST_ROWS
      few = ⊎_elim (λ k. absurd (omega (arith, m.lies.large k, h))) (λ k. k) (lt_or_ge MOST_ROWS (size (fs then gs)))

      small : Small (fs then gs) l rs os ts
      small = m.lies.small few

      operands_fit : l.operands ≤ length os
      operands_fit = omega (arith, small.balance, few, m.rooms.operands_long)

      pub not_past : ACCEPTED ≡ step_number b s
      unfolding past_limit
      not_past =
          let o : length (all_operands (entries 0 (fs then gs))) ≡ l.operands = sym (ap length small.mem.operands) ∙ length-take-le l.operands os operands_fit in
          sym (number_past false (or_no (ltb MOST_ROWS (size (fs then gs))) (ltb MOST_OPERANDS (length (all_operands (entries 0 (fs then gs)))))
          (le-ltb MOST_ROWS (size (fs then gs)) few) (le-ltb MOST_OPERANDS (length (all_operands (entries 0 (fs then gs)))) (omega (arith, o, small.balance, few)))))

      module _ {c : Places} (k : Counting ws l c) where
        both : count fs + count gs ≡ l.height
        both = sym (small.height ∙ count_then fs gs)

        pub lined : {words : ℕ} → MOST_WORDS ≤ words → Lined c words (length rs) (length os) (length ts)
        lined w = record {
          few = omega (arith, k.rows, h);
          balance = omega (arith, k.rows, k.operands, k.assumes, k.guarantees, assumes_count, guarantees_count, both, small.balance, small.rows);
          words_long = w;
          rows_long = m.rooms.rows_long;
          operands_long = m.rooms.operands_long;
          tops_long = m.rooms.tops_long;
        }

        pub put_words : {words : List ℕ} {end : ℕ} → SectionsPut c rs os ts words end → take end words ≡ words_after b s
        unfolding words_after
        put_words p =
            let ea : c.assumes ≡ count fs = k.assumes ∙ sym assumes_count in
            let eg : c.guarantees ≡ count gs = k.guarantees ∙ sym guarantees_count in
            p.are ∙ rw (k.rows, k.operands, ea, eg) (words_built fs gs small.mem (omega (arith, both, small.balance, few, m.rooms.tops_long)) operands_fit l.rows (small.rows ∙ size_then fs gs))

-- ---- a step made, or refused
pub makes_not : {words : List ℕ} {end : ℕ} {s : Step} {n : ℕ} → n ≡ step_number (loaded (take end words)).book s → (n ≡ ACCEPTED → ⊥) → Makes words end s (record { number = n; length = 0 }) words
makes_not k z = record { number_is = k; words_are = λ y. absurd (z y); inside = omega arith; size = refl }

pub misfit : (words : List ℕ) (end : ℕ) (s : Step) → fits (loaded (take end words)).book.rows s ≡ false → DOES_NOT_FIT ≡ step_number (loaded (take end words)).book s
unfolding step_number
misfit words end s e = rw e refl

-- a step that fits, of the book in the first words; ws is that book's words
module _ {words ws rs os ts : List ℕ} {end : ℕ} {s : Step} {l : Laid} (x : Fitting words end s) (ew : ws ≡ take end words) (m : LaysAll ws s l rs os ts) where
  here : LaysAll (take end words) s l rs os ts
  here = rw ew at m

  pub makes_past : MOST_ROWS < l.rows → Makes words end s (record { number = PAST_LIMIT; length = 0 }) words
  makes_past h = makes_not (sym (too_many (take end words) s x.standing.ok x.fit here h)) (λ z. omega arith)

  module _ (h : l.rows ≤ MOST_ROWS) {c : Places} {ws₂ : List ℕ} (ew₂ : ws₂ ≡ take end words) (k : Counting ws₂ l c) where
    counted : Counting (take end words) l c
    counted = rw ew₂ at k

    pub can_put : Lined c (length words) (length rs) (length os) (length ts)
    can_put = lined (take end words) s x.standing.ok x.fit here h counted x.standing.long

    pub makes_book : {words' : List ℕ} {n : ℕ} → SectionsPut c rs os ts words' n → length words' ≡ length words → Makes words end s (record { number = ACCEPTED; length = n }) words'
    makes_book p z = record {
      number_is = not_past (take end words) s x.standing.ok x.fit here h;
      words_are = λ y. put_words (take end words) s x.standing.ok x.fit here h counted p;
      inside = p.inside;
      size = z;
    }

-- ---- a list of steps
steps_length : (ws : List ℕ) → length (steps_of ws) ≡ length ws / 2
unfolding steps_of
steps_length [] = refl
steps_length (f ∷ []) = refl
steps_length (f ∷ r ∷ ws) = omega (arith, steps_length ws)

steps_from : (ws : List ℕ) (i : ℕ) → i < length ws / 2 → drop i (steps_of ws) ≡ step_at ws i ∷ drop (suc i) (steps_of ws)
unfolding steps_of step_at
steps_from [] i h = absurd (omega arith)
steps_from (f ∷ []) i h = absurd (omega arith)
steps_from (f ∷ r ∷ ws) zero h = refl
steps_from (f ∷ r ∷ ws) (suc i) h =
    let e : 2 * suc i ≡ suc (suc (2 * i)) = omega arith in
    let d : 2 * suc i + 1 ≡ suc (suc (2 * i + 1)) = omega arith in
    steps_from ws i (omega arith) ∙ rw (d, e) refl

-- what is still owed after i steps comes to what was owed at first
pub record Owed (words₀ : List ℕ) (end : ℕ) (steps words : List ℕ) (length' i : ℕ) : Type 0 where
  pub standing : Standing words length'
  pub owed : tidied_from (suc i) (take length' words) (drop i (steps_of steps)) ≡ tidied (take end words₀) (steps_of steps)
  pub low : i ≤ length steps / 2
  pub size : length words ≡ length words₀

pub owed_start : (words : List ℕ) (end : ℕ) (steps : List ℕ) → Standing words end → Owed words end steps words end 0
owed_start words end steps x = record { standing = x; owed = sym (of_accepted (take end words) (steps_of steps) x.ok); low = omega arith; size = refl }

module _ {words₀ steps words : List ℕ} {end length' i : ℕ} (x : Owed words₀ end steps words length' i) where
  module _ (h : i < length steps / 2) {words' : List ℕ} {s : Step} {r : Stepped} (es : s ≡ step_at steps i) (m : Makes words length' s r words') where
    abbrev bk : Book
    bk = (loaded (take length' words)).book

    next : (z : Bool) → eqb (step_number bk s) ACCEPTED ≡ z
        → elim z as (λ y. Tidying) [ true ↦ tidied_from (suc (suc i)) (words_after bk s) (drop (suc i) (steps_of steps)) | false ↦ refused (step_number bk s) (suc i) ] ≡ tidied (take end words₀) (steps_of steps)
    unfolding tidied_from
    next z e =
        ap (λ (y : Bool). elim y as (λ y. Tidying) [ true ↦ tidied_from (suc (suc i)) (words_after bk s) (drop (suc i) (steps_of steps)) | false ↦ refused (step_number bk s) (suc i) ]) (sym e)
        ∙ ap (tidied_from (suc i) (take length' words)) (ap (λ (q : Step). q ∷ drop (suc i) (steps_of steps)) es ∙ sym (steps_from steps i h))
        ∙ x.owed

    pub owed_more : r.number ≡ ACCEPTED → Owed words₀ end steps words' r.length (i + 1)
    owed_more z =
        let n : step_number bk s ≡ ACCEPTED = sym m.number_is ∙ z in
        let one : i + 1 ≡ suc i = omega arith in
        record {
          standing = record { inside = m.inside; long = rw m.size x.standing.long; ok = rw (m.words_are z) (step_gives (take length' words) x.standing.ok s n) };
          owed = rw (one, m.words_are z) (next true (eq-eqb (step_number bk s) ACCEPTED n));
          low = omega arith;
          size = m.size ∙ x.size;
        }

    pub owed_refused : (r.number ≡ ACCEPTED → ⊥) → Steps words₀ end steps (record { number = r.number; step = i + 1; length = 0 }) words'
    unfolding TidiedAs
    owed_refused z =
        let e = next false (ne_eqb (step_number bk s) ACCEPTED (λ y. z (m.number_is ∙ y))) in
        record { made = rw (← e) (m.number_is, omega arith, refl); size = m.size ∙ x.size }

  pub owed_done : length steps / 2 ≤ i → Steps words₀ end steps (record { number = ACCEPTED; step = 0; length = length' }) words
  unfolding tidied_from TidiedAs
  owed_done h =
      let n : i ≡ length (steps_of steps) = omega (arith, x.low, steps_length steps) in
      let d : drop i (steps_of steps) ≡ [] = ap (λ (k : ℕ). drop k (steps_of steps)) n ∙ drop-length (steps_of steps) in
      let e : done (take length' words) ≡ tidied (take end words₀) (steps_of steps) = rw d at x.owed in
      record { made = rw (← e) (refl, refl, refl, x.standing.inside); size = x.size }

-- ---- the book is copied first
copied_book : (m ws : List ℕ) → length ws ≤ length m → take (length ws) (put m 0 ws) ≡ ws
copied_book m ws h =
    let e : 0 + length ws ≡ length ws = omega arith in
    ap (take (length ws)) (copied m 0 ws (omega arith)) ∙ (rw e at (take_sets m 0 ws (omega arith)))

module _ (m ws : List ℕ) {m' : List ℕ} (e : m' ≡ put m 0 ws) (h : length ws ≤ length m) where
  same : length m' ≡ length m
  same = ap length e ∙ length-paste m 0 ws (length ws) (omega arith) (omega arith)

  pub stands : (loaded ws).number ≡ ACCEPTED → MOST_WORDS ≤ length m → Standing m' (length ws)
  stands ok long = record { inside = omega (arith, same); long = omega (arith, same); ok = rw (ap (take (length ws)) e, copied_book m ws h) ok }

  pub all_made : {steps words : List ℕ} {r : HandedBack} → Steps m' (length ws) steps r words → TidiedAs (tidied ws (steps_of steps)) r words
  all_made x = rw (ap (take (length ws)) e, copied_book m ws h) at x.made

-- ---- any words
drop_zeros : (n k : ℕ) → drop k (zeros n) ≡ zeros (n - k)
unfolding zeros
drop_zeros n zero = let e : n ≡ n - 0 = omega arith in ap (λ (m : ℕ). replicate m 0) e
drop_zeros zero (suc k) = let e : 0 ≡ 0 - suc k = omega arith in ap (λ (m : ℕ). replicate m 0) e
drop_zeros (suc n) (suc k) = let e : n - k ≡ suc n - suc k = omega arith in drop_zeros n k ∙ ap (λ (m : ℕ). replicate m 0) e

-- words over zeros, from the first on
over_zeros : (n : ℕ) (ws : List ℕ) → put (zeros n) 0 ws ≡ ws ++ zeros (n - length ws)
over_zeros n ws =
    let z : 0 + length ws ≡ length ws = omega arith in
    rw (z, take-length ws, drop_zeros n (length ws)) refl

as_zeros : {x : List ℕ} (n : ℕ) → x ≡ replicate n 0 → x ≡ zeros n
unfolding zeros
as_zeros n e = e

pub cleared : {x : List ℕ} (m : List ℕ) → length m ≡ MOST_WORDS → x ≡ replicate (length m) 0 → x ≡ zeros MOST_WORDS
cleared m h e = as_zeros (length m) e ∙ ap zeros h

same_tidied : (r : HandedBack) {n s l : ℕ} → r.number ≡ n → r.step ≡ s → r.length ≡ l → r ≡ record { number = n; step = s; length = l }
same_tidied r e f g = rw (← e, ← f, ← g) refl

pub made_inside : (t : Tidying) (r : HandedBack) (words : List ℕ) → TidiedAs t r words → r.length ≤ length words
unfolding TidiedAs
made_inside (done ws) r words y = y.3
made_inside (refused n k) r words y = let z = y.2 in omega arith

pub part_long : {x : List ℕ} {n : ℕ} (words : List ℕ) → n ≤ length words → x ≡ part 0 n words → length x ≡ n
part_long {x} {n} words h e = part_count words x 0 n (omega arith) e

pub handed_made : (t : Tidying) (r : HandedBack) (words : List ℕ) {m x out : List ℕ} → TidiedAs t r words → x ≡ part 0 r.length words → m ≡ zeros MOST_WORDS → out ≡ put m 0 x → (r ≡ handed_back t) × (out ≡ lent_words t)
unfolding TidiedAs handed_back new_book
handed_made (done ws) r words {x = x} y e c f =
    let n : r.length ≡ length ws = sym (ap length (sym y.2) ∙ length-take-le r.length words y.3) in
    (same_tidied r y.0 y.1 n, f ∙ ap (λ (z : List ℕ). put z 0 x) c ∙ ap (λ (z : List ℕ). put (zeros MOST_WORDS) 0 z) (e ∙ y.2) ∙ over_zeros MOST_WORDS ws)
handed_made (refused n k) r words {x = x} y e c f =
    let z = y.2 in
    (same_tidied r y.0 y.1 z, f ∙ ap (λ (z : List ℕ). put z 0 x) c ∙ ap (λ (z : List ℕ). put (zeros MOST_WORDS) 0 z) (e ∙ ap (λ (m : ℕ). part 0 m words) z) ∙ over_zeros MOST_WORDS [])

-- and the other way, for a caller
pub handed_as : (t : Tidying) (r : HandedBack) (out : List ℕ) → (r ≡ handed_back t) × (out ≡ lent_words t) → TidiedAs t r out
unfolding TidiedAs handed_back new_book
handed_as (done ws) r out e =
    rw (e.0, e.1) (refl, refl, take_at ws (zeros (MOST_WORDS - length ws)) (length ws) refl, omega (arith, length-append ws (zeros (MOST_WORDS - length ws))))
handed_as (refused n k) r out e = rw e.0 (refl, refl, refl)

-- a list of steps that is refused hands no words back
pub handed_none : (t : Tidying) (r : HandedBack) (words : List ℕ) {out : List ℕ} → TidiedAs t r words → (r.number ≡ ACCEPTED → ⊥) → out ≡ zeros MOST_WORDS → (r ≡ handed_back t) × (out ≡ lent_words t)
unfolding TidiedAs handed_back new_book
handed_none (done ws) r words y bad e = absurd (bad y.0)
handed_none (refused n k) r words y bad e = (same_tidied r y.0 y.1 y.2, e ∙ over_none)
  where
    over_none : zeros MOST_WORDS ≡ [] ++ zeros (MOST_WORDS - 0)
    over_none = refl

pub not_made : (words : List ℕ) {number : ℕ} (steps : List Step) (out : List ℕ) → number ≡ (loaded words).number → (number ≡ ACCEPTED → ⊥) → TidiedAs (tidied words steps) (record { number = number; step = 0; length = 0 }) out
unfolding TidiedAs
not_made words steps out k bad = rw (of_refused words steps (λ z. bad (k ∙ z))) (k, refl, refl)

-- an accepted book has room where any that is built has
pub short_book : {words : List ℕ} {n o a g : ℕ} → Counted words n o a g → (loaded words).number ≡ ACCEPTED → length words ≤ MOST_WORDS
short_book {words} {n} {o} {a} {g} c ok =
    let s = parts_of words n o a g in
    omega (
      arith,
      c.long,
      c.rows_few,
      uses_many s (accepted words ACCEPTED n o a g (placed_as ok c) refl),
      length-append (s.operands ++ s.assumes) s.guarantees,
      length-append s.operands s.assumes,
      rows_counted words n o a g c,
      operands_counted words n o a g c,
      assumes_counted words n o a g c,
      guarantees_counted words n o a g c,
    )
