-- The goals of `row_answers::settled`, `row_answers::settled_since` and `row_answers::settled_walk`. Assumes nothing.
use native.Mathlib.Omega.{arith}
use native.Mathlib.Nat.{lt_trans, le_refl}
use mathlib.Core.Path.{◌≡◌, refl, sym, ap, ap₂, ◌∙◌}
use mathlib.Core.Bool.{Bool}
use lib.Dec.{eqb, lit<, lit≤}
use Rattle.pmtl.specs.Answer.{is_open}
use Rattle.pmtl.specs.Early.{from_now}
use Rattle.row_answers.specs.Told.{covers_in, gone_in}
use Rattle.pmtl.specs.Book.Row.{neg, implies, historically, once, since}
use Rattle.pmtl.specs.Settled.{settled_true, settled_false}
use Rattle.memory.specs.Memory.{row_count, range_at, operand_at, row_said}
use Rattle.book.specs.Rows.{row_from, count_of}
use Rattle.memory.specs.Kept.{BookKept}
use Rattle.row_answers.specs.Private.{settled_so_far, settled_historically, settled_once, settled_left}
use Rattle.memory.proofs.Rows.{first_below, second_below, below_128}
use Rattle.row_answers.proofs.Answers.{read_words, word_said, said_true, said_open, zero_words, span_as, answer_read, answer_one, answer_two, walk_falls, row_falls, operand_falls, above_most, above_there, walking_start, walking_below, walking_more, walking_stop, walking_done, span_book, first_inside, second_inside, slot_as}
use Rattle.row_answers.proofs.Told.{not_both}
use Rattle.row_answers.proofs.Settleds.{settled_and, settled_or, settled_stop, settled_on, settled_not, implies_true, historically_false, historically_asked, once_true, once_asked, since_left, since_right}
use Rattle.pmtl.specs.declared.Answer.{Answer}
use Rattle.memory.specs.declared.RowSaid.{RowSaid}
use Rattle.row_answers.specs.Told.{settled_told}
use mathlib.Core.List.{List}
use Prim.Native.Nat.{ℕ, ◌<◌, ◌+◌, ◌*◌, ◌^◌}
use Rattle.row_answers.proofs.+settled_settled_since_settled_walk.Goals as goal

-- a row below is asked
asks : {m : List ℕ} {t row x : ℕ} → (row + 1) * 2 ^ 64 ≡ t → BookKept m → row < row_count m → x < row → ((x + 1) * 2 ^ 64 < t) × (BookKept m × (x < row_count m))
asks e kept inside lt = (row_falls e lt, (kept, lt_trans lt inside))

-- what left decides of a Since row
left_is : (m : List ℕ) (r : ℕ) {words : RowSaid} → words ≡ row_said m r → {z k : Bool} {v l : Answer} {x : ℕ}
    → l ≡ settled_left z k v → z ≡ eqb words.lower 0 → k ≡ covers_in m r → v ≡ settled_told m x → x ≡ operand_at m words.start
    → l ≡ settled_left (from_now (range_at m r)) (covers_in m r) (settled_told m (operand_at m words.start))
left_is m r ew {z} {k} {v} el ez ek ev ex =
    el
    ∙ ap₂ (λ z k. settled_left z k v) (zero_words m r ew ez) ek
    ∙ ap (λ x. settled_left (from_now (range_at m r)) (covers_in m r) x) (ev ∙ ap (settled_told m) ex)

pub settled-read_row-words-requires : goal.settled-read_row-words-requires
settled-read_row-words-requires t c = below_128 c.requires.book_kept c.requires.row_bound

pub settled-settled_walk-requires : goal.settled-settled_walk-requires
unfolding count_of
settled-settled_walk-requires t c =
    let sp = span_as (read_words c.args.monitor.now c.args.row c.requires.book_kept c.requires.row_bound c.read_row-words.ensures) (word_said c.in-And.is) in
    (walk_falls c.decreases (above_most c.read_row-words.result.arg sp) (omega (arith, sp.inside)), (c.requires.book_kept, span_book sp c.requires.row_bound))

pub settled-settled_walk-requires-in-Or : goal.settled-settled_walk-requires-in-Or
unfolding count_of
settled-settled_walk-requires-in-Or t c =
    let sp = span_as (read_words c.args.monitor.now c.args.row c.requires.book_kept c.requires.row_bound c.read_row-words.ensures) (word_said c.in-Or.is) in
    (walk_falls c.decreases (above_most c.read_row-words.result.arg sp) (omega (arith, sp.inside)), (c.requires.book_kept, span_book sp c.requires.row_bound))

pub settled-operand_at-requires : goal.settled-operand_at-requires
unfolding count_of
settled-operand_at-requires t c = first_inside (read_words c.args.monitor.now c.args.row c.requires.book_kept c.requires.row_bound c.read_row-words.ensures) (word_said c.in-Not.is) (lit< tt)

pub settled-settled-requires : goal.settled-settled-requires
unfolding count_of
settled-settled-requires t c = asks c.decreases c.requires.book_kept c.requires.row_bound (first_below (span_as (read_words c.args.monitor.now c.args.row c.requires.book_kept c.requires.row_bound c.read_row-words.ensures) (word_said c.in-Not.is)) (lit< tt) c.operand_at.ensures)

pub settled-overflow_add-words : goal.settled-overflow_add-words
unfolding count_of
settled-overflow_add-words t c = omega (arith, second_inside (read_words c.args.monitor.now c.args.row c.requires.book_kept c.requires.row_bound c.read_row-words.ensures) (word_said c.in-Implies.is) (lit< tt))

pub settled-operand_at-requires-in-Implies : goal.settled-operand_at-requires-in-Implies
unfolding count_of
settled-operand_at-requires-in-Implies t c = second_inside (read_words c.args.monitor.now c.args.row c.requires.book_kept c.requires.row_bound c.read_row-words.ensures) (word_said c.in-Implies.is) (lit< tt)

pub settled-settled-right-requires : goal.settled-settled-right-requires
unfolding count_of
settled-settled-right-requires t c = asks c.decreases c.requires.book_kept c.requires.row_bound (second_below (span_as (read_words c.args.monitor.now c.args.row c.requires.book_kept c.requires.row_bound c.read_row-words.ensures) (word_said c.in-Implies.is)) (lit< tt) c.operand_at-in-Implies.ensures)

pub settled-returns-then-eq : goal.settled-returns-then-eq
unfolding row_from count_of
settled-returns-then-eq t c =
    let right = c.settled-right in
    sym (answer_two _ _ (read_words c.args.monitor.now c.args.row c.requires.book_kept c.requires.row_bound c.read_row-words.ensures) (word_said c.in-Implies.is) implies (λ os. refl) (lit< tt) refl refl c.operand_at-in-Implies.ensures right.ensures
    ∙ implies_true _ _ _ right.result (said_true _ c.eq.ensures c.if-eq.true))

pub settled-operand_at-requires-in-Implies-2 : goal.settled-operand_at-requires-in-Implies-2
unfolding count_of
settled-operand_at-requires-in-Implies-2 t c = first_inside (read_words c.args.monitor.now c.args.row c.requires.book_kept c.requires.row_bound c.read_row-words.ensures) (word_said c.in-Implies.is) (lit< tt)

pub settled-settled-left-requires : goal.settled-settled-left-requires
unfolding count_of
settled-settled-left-requires t c = asks c.decreases c.requires.book_kept c.requires.row_bound (first_below (span_as (read_words c.args.monitor.now c.args.row c.requires.book_kept c.requires.row_bound c.read_row-words.ensures) (word_said c.in-Implies.is)) (lit< tt) c.operand_at-in-Implies-2.ensures)

pub settled-covers_at-requires : goal.settled-covers_at-requires
settled-covers_at-requires t c = slot_as (read_words c.args.monitor.now c.args.row c.requires.book_kept c.requires.row_bound c.read_row-words.ensures) (word_said c.in-Historically.is) (lit≤ tt)

pub settled-returns-then-covers_at : goal.settled-returns-then-covers_at
unfolding row_from count_of
settled-returns-then-covers_at t c =
    let covered = sym c.covers_at.ensures ∙ c.if-covers_at.true in
    sym (answer_one _ _ (read_words c.args.monitor.now c.args.row c.requires.book_kept c.requires.row_bound c.read_row-words.ensures) (word_said c.in-Historically.is) (historically (range_at c.args.monitor.now c.args.row)) (λ os. refl) (lit< tt) refl refl
    ∙ historically_false _ _ (range_at c.args.monitor.now c.args.row) _ covered (not_both c.args.monitor.now c.args.row covered))

pub settled-operand_at-requires-in-Historically : goal.settled-operand_at-requires-in-Historically
unfolding count_of
settled-operand_at-requires-in-Historically t c = first_inside (read_words c.args.monitor.now c.args.row c.requires.book_kept c.requires.row_bound c.read_row-words.ensures) (word_said c.in-Historically.is) (lit< tt)

pub settled-settled-x-requires : goal.settled-settled-x-requires
unfolding count_of
settled-settled-x-requires t c = asks c.decreases c.requires.book_kept c.requires.row_bound (first_below (span_as (read_words c.args.monitor.now c.args.row c.requires.book_kept c.requires.row_bound c.read_row-words.ensures) (word_said c.in-Historically.is)) (lit< tt) c.operand_at-in-Historically.ensures)

pub settled-gone_at-requires : goal.settled-gone_at-requires
settled-gone_at-requires t c = slot_as (read_words c.args.monitor.now c.args.row c.requires.book_kept c.requires.row_bound c.read_row-words.ensures) (word_said c.in-Historically.is) (lit≤ tt)

pub settled-covers_at-requires-in-Once : goal.settled-covers_at-requires-in-Once
settled-covers_at-requires-in-Once t c = slot_as (read_words c.args.monitor.now c.args.row c.requires.book_kept c.requires.row_bound c.read_row-words.ensures) (word_said c.in-Once.is) (lit≤ tt)

pub settled-returns-then-covers_at-2 : goal.settled-returns-then-covers_at-2
unfolding row_from count_of
settled-returns-then-covers_at-2 t c =
    sym (answer_one _ _ (read_words c.args.monitor.now c.args.row c.requires.book_kept c.requires.row_bound c.read_row-words.ensures) (word_said c.in-Once.is) (once (range_at c.args.monitor.now c.args.row)) (λ os. refl) (lit< tt) refl refl
    ∙ once_true _ _ (range_at c.args.monitor.now c.args.row) _ (sym c.covers_at-in-Once.ensures ∙ c.if-covers_at-2.true))

pub settled-operand_at-requires-in-Once : goal.settled-operand_at-requires-in-Once
unfolding count_of
settled-operand_at-requires-in-Once t c = first_inside (read_words c.args.monitor.now c.args.row c.requires.book_kept c.requires.row_bound c.read_row-words.ensures) (word_said c.in-Once.is) (lit< tt)

pub settled-settled-x-requires-in-Once : goal.settled-settled-x-requires-in-Once
unfolding count_of
settled-settled-x-requires-in-Once t c = asks c.decreases c.requires.book_kept c.requires.row_bound (first_below (span_as (read_words c.args.monitor.now c.args.row c.requires.book_kept c.requires.row_bound c.read_row-words.ensures) (word_said c.in-Once.is)) (lit< tt) c.operand_at-in-Once.ensures)

pub settled-gone_at-requires-in-Once : goal.settled-gone_at-requires-in-Once
settled-gone_at-requires-in-Once t c = slot_as (read_words c.args.monitor.now c.args.row c.requires.book_kept c.requires.row_bound c.read_row-words.ensures) (word_said c.in-Once.is) (lit≤ tt)

pub settled-settled_since-requires : goal.settled-settled_since-requires
unfolding count_of
settled-settled_since-requires t c =
    let e = read_words c.args.monitor.now c.args.row c.requires.book_kept c.requires.row_bound c.read_row-words.ensures in
    (walk_falls c.decreases (le_refl c.args.row) (lit≤ tt), (c.requires.book_kept, (c.requires.row_bound, (span_as e (word_said c.in-Since.is), (c.read_row-words.ensures, (slot_as e (word_said c.in-Since.is) (lit≤ tt)).1)))))

pub settled-returns-in-False : goal.settled-returns-in-False
unfolding settled_true settled_false row_from count_of
settled-returns-in-False t c = sym (answer_read _ _ (read_words c.args.monitor.now c.args.row c.requires.book_kept c.requires.row_bound c.read_row-words.ensures) (word_said c.in-False.is))

pub settled-returns-in-True : goal.settled-returns-in-True
unfolding settled_true settled_false row_from count_of
settled-returns-in-True t c = sym (answer_read _ _ (read_words c.args.monitor.now c.args.row c.requires.book_kept c.requires.row_bound c.read_row-words.ensures) (word_said c.in-True.is))

pub settled-returns-in-Atom : goal.settled-returns-in-Atom
unfolding settled_true settled_false row_from count_of
settled-returns-in-Atom t c = sym (answer_read _ _ (read_words c.args.monitor.now c.args.row c.requires.book_kept c.requires.row_bound c.read_row-words.ensures) (word_said c.in-Atom.is))

pub settled-returns-in-And : goal.settled-returns-in-And
unfolding row_from count_of
settled-returns-in-And t c = c.settled_walk.ensures ∙ settled_and _ _ _ ∙ sym (answer_read _ _ (read_words c.args.monitor.now c.args.row c.requires.book_kept c.requires.row_bound c.read_row-words.ensures) (word_said c.in-And.is))

pub settled-returns-in-Or : goal.settled-returns-in-Or
unfolding row_from count_of
settled-returns-in-Or t c = c.settled_walk-in-Or.ensures ∙ settled_or _ _ _ ∙ sym (answer_read _ _ (read_words c.args.monitor.now c.args.row c.requires.book_kept c.requires.row_bound c.read_row-words.ensures) (word_said c.in-Or.is))

pub settled-returns-in-Not : goal.settled-returns-in-Not
unfolding row_from count_of
settled-returns-in-Not t c = c.negated.ensures ∙ settled_not _ _ _ ∙ sym (answer_one _ _ (read_words c.args.monitor.now c.args.row c.requires.book_kept c.requires.row_bound c.read_row-words.ensures) (word_said c.in-Not.is) neg (λ os. refl) (lit< tt) c.operand_at.ensures c.settled.ensures)

pub settled-returns-else-eq : goal.settled-returns-else-eq
unfolding settled_true settled_false row_from count_of
settled-returns-else-eq t c =
    c.implied.ensures
    ∙ sym (answer_two _ _ (read_words c.args.monitor.now c.args.row c.requires.book_kept c.requires.row_bound c.read_row-words.ensures) (word_said c.in-Implies.is) implies (λ os. refl) (lit< tt) c.operand_at-in-Implies-2.ensures c.settled-left.ensures c.operand_at-in-Implies.ensures c.settled-right.ensures)

pub settled-returns-else-covers_at : goal.settled-returns-else-covers_at
unfolding row_from count_of
settled-returns-else-covers_at t c =
    let x = c.settled-x in
    c.settled_historically.ensures ∙ ap₂ (λ z n. settled_historically z n x.result) (zero_words c.args.monitor.now c.args.row c.read_row-words.ensures c.from_now.ensures) c.gone_at.ensures
    ∙ sym (answer_one _ _ (read_words c.args.monitor.now c.args.row c.requires.book_kept c.requires.row_bound c.read_row-words.ensures) (word_said c.in-Historically.is) (historically (range_at c.args.monitor.now c.args.row)) (λ os. refl) (lit< tt) c.operand_at-in-Historically.ensures x.ensures
    ∙ historically_asked _ _ (range_at c.args.monitor.now c.args.row) x.result (sym c.covers_at.ensures ∙ c.if-covers_at.false))

pub settled-returns-else-covers_at-2 : goal.settled-returns-else-covers_at-2
unfolding row_from count_of
settled-returns-else-covers_at-2 t c =
    let x = c.settled-x-in-Once in
    c.settled_once.ensures ∙ ap₂ (λ z n. settled_once z n x.result) (zero_words c.args.monitor.now c.args.row c.read_row-words.ensures c.from_now-in-Once.ensures) c.gone_at-in-Once.ensures
    ∙ sym (answer_one _ _ (read_words c.args.monitor.now c.args.row c.requires.book_kept c.requires.row_bound c.read_row-words.ensures) (word_said c.in-Once.is) (once (range_at c.args.monitor.now c.args.row)) (λ os. refl) (lit< tt) c.operand_at-in-Once.ensures x.ensures
    ∙ once_asked _ _ (range_at c.args.monitor.now c.args.row) x.result (sym c.covers_at-in-Once.ensures ∙ c.if-covers_at-2.false))

pub settled-returns-in-Since : goal.settled-returns-in-Since
unfolding row_from count_of
settled-returns-in-Since t c =
    let e = read_words c.args.monitor.now c.args.row c.requires.book_kept c.requires.row_bound c.read_row-words.ensures in
    c.settled_since.ensures
    ∙ sym (answer_two _ _ e (word_said c.in-Since.is) (since (range_at c.args.monitor.now c.args.row)) (λ os. refl) (lit< tt) refl refl refl refl)

pub settled_since-operand_at-requires : goal.settled_since-operand_at-requires
settled_since-operand_at-requires t c = omega (arith, c.requires.span.inside)

pub settled_since-settled-left-requires : goal.settled_since-settled-left-requires
settled_since-settled-left-requires t c =
    let lt = first_below c.requires.span (lit< tt) c.operand_at.ensures in
    (operand_falls c.decreases lt (lit< tt), (c.requires.book_kept, lt_trans lt c.requires.row_bound))

pub settled_since-covers_at-requires : goal.settled_since-covers_at-requires
settled_since-covers_at-requires t c = (below_128 c.requires.book_kept c.requires.row_bound, c.requires.words_value.1)

pub settled_since-overflow_add-words : goal.settled_since-overflow_add-words
settled_since-overflow_add-words t c = omega (arith, c.requires.span.inside)

pub settled_since-operand_at-requires-then-eq : goal.settled_since-operand_at-requires-then-eq
settled_since-operand_at-requires-then-eq t c = omega (arith, c.requires.span.inside)

pub settled_since-settled-right-requires : goal.settled_since-settled-right-requires
settled_since-settled-right-requires t c =
    let lt = second_below c.requires.span (lit< tt) c.operand_at-then-eq.ensures in
    (operand_falls c.decreases lt (lit< tt), (c.requires.book_kept, lt_trans lt c.requires.row_bound))

pub settled_since-gone_at-requires : goal.settled_since-gone_at-requires
settled_since-gone_at-requires t c = (below_128 c.requires.book_kept c.requires.row_bound, c.requires.words_value.1)

pub settled_since-returns-then-eq : goal.settled_since-returns-then-eq
settled_since-returns-then-eq t c =
    let right = c.settled-right in
    c.settled_once.ensures
    ∙ ap₂ (λ z n. settled_once z n right.result) (zero_words c.args.monitor.now c.args.row c.requires.words_value.0 c.from_now-then-eq.ensures) c.gone_at.ensures
    ∙ ap (λ x. settled_once (from_now (range_at c.args.monitor.now c.args.row)) (gone_in c.args.monitor.now c.args.row) x) (right.ensures ∙ ap (settled_told c.args.monitor.now) c.operand_at-then-eq.ensures)
    ∙ sym (since_right _ _ (range_at c.args.monitor.now c.args.row) _ _ (ap is_open (sym (left_is c.args.monitor.now c.args.row c.requires.words_value.0 c.settled_left-by_left.ensures c.from_now.ensures c.covers_at.ensures c.settled-left.ensures c.operand_at.ensures)) ∙ said_open _ c.eq.ensures c.if-eq.true))

pub settled_since-returns : goal.settled_since-returns
settled_since-returns t c =
    let e = left_is c.args.monitor.now c.args.row c.requires.words_value.0 c.settled_left-by_left.ensures c.from_now.ensures c.covers_at.ensures c.settled-left.ensures c.operand_at.ensures in
    e ∙ sym (since_left _ _ (range_at c.args.monitor.now c.args.row) _ _ (ap is_open (sym e) ∙ said_open _ c.eq.ensures c.if-eq.false))

pub settled_walk-loop-at-init : goal.settled_walk-loop-at-init
settled_walk-loop-at-init t c = walking_start (settled_told c.args.monitor.now) (settled_so_far c.args.any c.args.sofar) c.requires.span (omega arith)

pub settled_walk-settled-x-requires : goal.settled_walk-settled-x-requires
settled_walk-settled-x-requires t c =
    let e = c.operand_at.ensures in (
      operand_falls c.decreases (above_there c.args.monitor.now c.args.place c.args.left c.loop-at.at c.loop-at.auto.at c.loop-at-test.true e) (omega (arith, c.loop-at.auto.at)),
      (c.requires.book_kept, walking_below c.loop-at.invariant (omega arith) e),
    )

pub settled_walk-returns-then-decides_it : goal.settled_walk-returns-then-decides_it
settled_walk-returns-then-decides_it t c =
    walking_stop c.loop-at.invariant c.requires.book_kept.long (omega arith) c.operand_at.ensures c.settled-x.ensures (λ vs. settled_stop c.args.any c.loop-at.sofar c.settled-x.result vs (sym c.decides_it.ensures ∙ c.if-decides_it.true))

pub settled_walk-loop-at-preserved : goal.settled_walk-loop-at-preserved
settled_walk-loop-at-preserved t c =
    walking_more c.loop-at.invariant c.requires.book_kept.long (omega arith) c.operand_at.ensures c.settled-x.ensures (settled_so_far c.args.any c.taken_in-sofar.result)
    (λ vs. settled_on c.args.any c.loop-at.sofar c.settled-x.result vs (sym c.decides_it.ensures ∙ c.if-decides_it.false) c.taken_in-sofar.ensures) (omega arith)

pub settled_walk-returns : goal.settled_walk-returns
unfolding settled_so_far
settled_walk-returns t c = walking_done c.loop-at.invariant (omega arith) refl
