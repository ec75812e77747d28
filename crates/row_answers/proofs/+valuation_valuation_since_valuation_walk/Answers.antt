-- The goals of `row_answers::valuation`, `row_answers::valuation_since` and `row_answers::valuation_walk`. Assumes nothing.
use native.Mathlib.Omega.{arith}
use native.Mathlib.Nat.{lt_trans, le_refl}
use mathlib.Core.Path.{◌≡◌, refl, sym, ap, ap₂, ◌∙◌}
use mathlib.Core.Bool.{Bool}
use lib.Dec.{lit<, lit≤}
use Rattle.pmtl.specs.Answer.{is_false}
use Rattle.pmtl.specs.Book.Row.{neg, implies, historically, once, since}
use Rattle.pmtl.specs.Early.{early_rule}
use Rattle.memory.specs.Memory.{row_count, range_at, operand_at}
use Rattle.book.specs.Rows.{row_from, count_of}
use Rattle.memory.specs.Kept.{BookKept}
use Rattle.row_answers.specs.Private.{early_so_far, early_historically, early_once, early_covered}
use Rattle.memory.proofs.Rows.{first_below, second_below, below_128}
use Rattle.row_answers.proofs.Answers.{read_words, word_said, said_true, said_false, said_open, zero_words, span_as, answer_read, answer_one, answer_two, walk_falls, row_falls, operand_falls, above_most, above_there, walking_start, walking_below, walking_more, walking_stop, walking_done, span_book, first_inside, second_inside, slot_as}
use Rattle.row_answers.proofs.Earlies.{early_and, early_or, early_stop, early_on, implies_true, since_false, since_open, since_covered}
use Rattle.pmtl.specs.declared.Answer.{Answer}
use Rattle.row_answers.specs.Told.{early_told}
use mathlib.Core.List.{List}
use Prim.Native.Nat.{ℕ, ◌<◌, ◌+◌, ◌*◌, ◌^◌}
use Rattle.row_answers.proofs.+valuation_valuation_since_valuation_walk.Goals as goal

-- a row below is asked
asks : {m : List ℕ} {t row x : ℕ} → (row + 1) * 2 ^ 64 ≡ t → BookKept m → row < row_count m → x < row → ((x + 1) * 2 ^ 64 < t) × (BookKept m × (x < row_count m))
asks e kept inside lt = (row_falls e lt, (kept, lt_trans lt inside))

-- right is false, or not
right_is : (m : List ℕ) (y : ℕ) {x : ℕ} {v : Answer} {b : Bool} → is_false v ≡ b → v ≡ early_told m x → x ≡ operand_at m y → is_false (early_told m (operand_at m y)) ≡ b
right_is m y eb ev ex = ap is_false (sym (ev ∙ ap (early_told m) ex)) ∙ eb

pub valuation-read_row-words-requires : goal.valuation-read_row-words-requires
valuation-read_row-words-requires t c = below_128 c.requires.book_kept c.requires.row_bound

pub valuation-valuation_walk-requires : goal.valuation-valuation_walk-requires
unfolding count_of
valuation-valuation_walk-requires t c =
    let sp = span_as (read_words c.args.monitor.now c.args.row c.requires.book_kept c.requires.row_bound c.read_row-words.ensures) (word_said c.in-And.is) in
    (walk_falls c.decreases (above_most c.read_row-words.result.arg sp) (omega (arith, sp.inside)), (c.requires.book_kept, span_book sp c.requires.row_bound))

pub valuation-valuation_walk-requires-in-Or : goal.valuation-valuation_walk-requires-in-Or
unfolding count_of
valuation-valuation_walk-requires-in-Or t c =
    let sp = span_as (read_words c.args.monitor.now c.args.row c.requires.book_kept c.requires.row_bound c.read_row-words.ensures) (word_said c.in-Or.is) in
    (walk_falls c.decreases (above_most c.read_row-words.result.arg sp) (omega (arith, sp.inside)), (c.requires.book_kept, span_book sp c.requires.row_bound))

pub valuation-operand_at-requires : goal.valuation-operand_at-requires
unfolding count_of
valuation-operand_at-requires t c = first_inside (read_words c.args.monitor.now c.args.row c.requires.book_kept c.requires.row_bound c.read_row-words.ensures) (word_said c.in-Not.is) (lit< tt)

pub valuation-valuation-requires : goal.valuation-valuation-requires
unfolding count_of
valuation-valuation-requires t c = asks c.decreases c.requires.book_kept c.requires.row_bound (first_below (span_as (read_words c.args.monitor.now c.args.row c.requires.book_kept c.requires.row_bound c.read_row-words.ensures) (word_said c.in-Not.is)) (lit< tt) c.operand_at.ensures)

pub valuation-overflow_add-words : goal.valuation-overflow_add-words
unfolding count_of
valuation-overflow_add-words t c = omega (arith, second_inside (read_words c.args.monitor.now c.args.row c.requires.book_kept c.requires.row_bound c.read_row-words.ensures) (word_said c.in-Implies.is) (lit< tt))

pub valuation-operand_at-requires-in-Implies : goal.valuation-operand_at-requires-in-Implies
unfolding count_of
valuation-operand_at-requires-in-Implies t c = second_inside (read_words c.args.monitor.now c.args.row c.requires.book_kept c.requires.row_bound c.read_row-words.ensures) (word_said c.in-Implies.is) (lit< tt)

pub valuation-valuation-right-requires : goal.valuation-valuation-right-requires
unfolding count_of
valuation-valuation-right-requires t c = asks c.decreases c.requires.book_kept c.requires.row_bound (second_below (span_as (read_words c.args.monitor.now c.args.row c.requires.book_kept c.requires.row_bound c.read_row-words.ensures) (word_said c.in-Implies.is)) (lit< tt) c.operand_at-in-Implies.ensures)

pub valuation-returns-then-eq : goal.valuation-returns-then-eq
unfolding row_from count_of
valuation-returns-then-eq t c =
    let right = c.valuation-right in
    sym (answer_two _ _ (read_words c.args.monitor.now c.args.row c.requires.book_kept c.requires.row_bound c.read_row-words.ensures) (word_said c.in-Implies.is) implies (λ os. refl) (lit< tt) refl refl c.operand_at-in-Implies.ensures right.ensures
    ∙ implies_true _ _ right.result (said_true _ c.eq.ensures c.if-eq.true))

pub valuation-operand_at-requires-in-Implies-2 : goal.valuation-operand_at-requires-in-Implies-2
unfolding count_of
valuation-operand_at-requires-in-Implies-2 t c = first_inside (read_words c.args.monitor.now c.args.row c.requires.book_kept c.requires.row_bound c.read_row-words.ensures) (word_said c.in-Implies.is) (lit< tt)

pub valuation-valuation-left-requires : goal.valuation-valuation-left-requires
unfolding count_of
valuation-valuation-left-requires t c = asks c.decreases c.requires.book_kept c.requires.row_bound (first_below (span_as (read_words c.args.monitor.now c.args.row c.requires.book_kept c.requires.row_bound c.read_row-words.ensures) (word_said c.in-Implies.is)) (lit< tt) c.operand_at-in-Implies-2.ensures)

pub valuation-operand_at-requires-in-Historically : goal.valuation-operand_at-requires-in-Historically
unfolding count_of
valuation-operand_at-requires-in-Historically t c = first_inside (read_words c.args.monitor.now c.args.row c.requires.book_kept c.requires.row_bound c.read_row-words.ensures) (word_said c.in-Historically.is) (lit< tt)

pub valuation-valuation-x-requires : goal.valuation-valuation-x-requires
unfolding count_of
valuation-valuation-x-requires t c = asks c.decreases c.requires.book_kept c.requires.row_bound (first_below (span_as (read_words c.args.monitor.now c.args.row c.requires.book_kept c.requires.row_bound c.read_row-words.ensures) (word_said c.in-Historically.is)) (lit< tt) c.operand_at-in-Historically.ensures)

pub valuation-covers_at-requires : goal.valuation-covers_at-requires
valuation-covers_at-requires t c = slot_as (read_words c.args.monitor.now c.args.row c.requires.book_kept c.requires.row_bound c.read_row-words.ensures) (word_said c.in-Historically.is) (lit≤ tt)

pub valuation-operand_at-requires-in-Once : goal.valuation-operand_at-requires-in-Once
unfolding count_of
valuation-operand_at-requires-in-Once t c = first_inside (read_words c.args.monitor.now c.args.row c.requires.book_kept c.requires.row_bound c.read_row-words.ensures) (word_said c.in-Once.is) (lit< tt)

pub valuation-valuation-x-requires-in-Once : goal.valuation-valuation-x-requires-in-Once
unfolding count_of
valuation-valuation-x-requires-in-Once t c = asks c.decreases c.requires.book_kept c.requires.row_bound (first_below (span_as (read_words c.args.monitor.now c.args.row c.requires.book_kept c.requires.row_bound c.read_row-words.ensures) (word_said c.in-Once.is)) (lit< tt) c.operand_at-in-Once.ensures)

pub valuation-covers_at-requires-in-Once : goal.valuation-covers_at-requires-in-Once
valuation-covers_at-requires-in-Once t c = slot_as (read_words c.args.monitor.now c.args.row c.requires.book_kept c.requires.row_bound c.read_row-words.ensures) (word_said c.in-Once.is) (lit≤ tt)

pub valuation-valuation_since-requires : goal.valuation-valuation_since-requires
unfolding count_of
valuation-valuation_since-requires t c =
    let e = read_words c.args.monitor.now c.args.row c.requires.book_kept c.requires.row_bound c.read_row-words.ensures in
    (walk_falls c.decreases (le_refl c.args.row) (lit≤ tt), (c.requires.book_kept, (c.requires.row_bound, (span_as e (word_said c.in-Since.is), (c.read_row-words.ensures, (slot_as e (word_said c.in-Since.is) (lit≤ tt)).1)))))

pub valuation-returns-in-False : goal.valuation-returns-in-False
unfolding early_rule row_from count_of
valuation-returns-in-False t c = sym (answer_read _ _ (read_words c.args.monitor.now c.args.row c.requires.book_kept c.requires.row_bound c.read_row-words.ensures) (word_said c.in-False.is))

pub valuation-returns-in-True : goal.valuation-returns-in-True
unfolding early_rule row_from count_of
valuation-returns-in-True t c = sym (answer_read _ _ (read_words c.args.monitor.now c.args.row c.requires.book_kept c.requires.row_bound c.read_row-words.ensures) (word_said c.in-True.is))

pub valuation-returns-in-Atom : goal.valuation-returns-in-Atom
unfolding early_rule row_from count_of
valuation-returns-in-Atom t c = sym (answer_read _ _ (read_words c.args.monitor.now c.args.row c.requires.book_kept c.requires.row_bound c.read_row-words.ensures) (word_said c.in-Atom.is))

pub valuation-returns-in-And : goal.valuation-returns-in-And
unfolding row_from count_of
valuation-returns-in-And t c = c.valuation_walk.ensures ∙ early_and _ _ ∙ sym (answer_read _ _ (read_words c.args.monitor.now c.args.row c.requires.book_kept c.requires.row_bound c.read_row-words.ensures) (word_said c.in-And.is))

pub valuation-returns-in-Or : goal.valuation-returns-in-Or
unfolding row_from count_of
valuation-returns-in-Or t c = c.valuation_walk-in-Or.ensures ∙ early_or _ _ ∙ sym (answer_read _ _ (read_words c.args.monitor.now c.args.row c.requires.book_kept c.requires.row_bound c.read_row-words.ensures) (word_said c.in-Or.is))

pub valuation-returns-in-Not : goal.valuation-returns-in-Not
unfolding early_rule row_from count_of
valuation-returns-in-Not t c = c.negated.ensures ∙ sym (answer_one _ _ (read_words c.args.monitor.now c.args.row c.requires.book_kept c.requires.row_bound c.read_row-words.ensures) (word_said c.in-Not.is) neg (λ os. refl) (lit< tt) c.operand_at.ensures c.valuation.ensures)

pub valuation-returns-else-eq : goal.valuation-returns-else-eq
unfolding early_rule row_from count_of
valuation-returns-else-eq t c =
    c.implied.ensures
    ∙ sym (answer_two _ _ (read_words c.args.monitor.now c.args.row c.requires.book_kept c.requires.row_bound c.read_row-words.ensures) (word_said c.in-Implies.is) implies (λ os. refl) (lit< tt) c.operand_at-in-Implies-2.ensures c.valuation-left.ensures c.operand_at-in-Implies.ensures c.valuation-right.ensures)

pub valuation-returns-in-Historically : goal.valuation-returns-in-Historically
unfolding early_rule row_from count_of
valuation-returns-in-Historically t c =
    let x = c.valuation-x in
    c.early_historically.ensures ∙ ap₂ (λ z k. early_historically z k x.result) (zero_words c.args.monitor.now c.args.row c.read_row-words.ensures c.from_now.ensures) c.covers_at.ensures
    ∙ sym (answer_one _ _ (read_words c.args.monitor.now c.args.row c.requires.book_kept c.requires.row_bound c.read_row-words.ensures) (word_said c.in-Historically.is) (historically (range_at c.args.monitor.now c.args.row)) (λ os. refl) (lit< tt) c.operand_at-in-Historically.ensures x.ensures)

pub valuation-returns-in-Once : goal.valuation-returns-in-Once
unfolding early_rule row_from count_of
valuation-returns-in-Once t c =
    let x = c.valuation-x-in-Once in
    c.early_once.ensures ∙ ap₂ (λ z k. early_once z k x.result) (zero_words c.args.monitor.now c.args.row c.read_row-words.ensures c.from_now-in-Once.ensures) c.covers_at-in-Once.ensures
    ∙ sym (answer_one _ _ (read_words c.args.monitor.now c.args.row c.requires.book_kept c.requires.row_bound c.read_row-words.ensures) (word_said c.in-Once.is) (once (range_at c.args.monitor.now c.args.row)) (λ os. refl) (lit< tt) c.operand_at-in-Once.ensures x.ensures)

pub valuation-returns-in-Since : goal.valuation-returns-in-Since
unfolding row_from count_of
valuation-returns-in-Since t c =
    let e = read_words c.args.monitor.now c.args.row c.requires.book_kept c.requires.row_bound c.read_row-words.ensures in
    c.valuation_since.ensures
    ∙ sym (answer_two _ _ e (word_said c.in-Since.is) (since (range_at c.args.monitor.now c.args.row)) (λ os. refl) (lit< tt) refl refl refl refl)

pub valuation_since-overflow_add-words : goal.valuation_since-overflow_add-words
valuation_since-overflow_add-words t c = omega (arith, c.requires.span.inside)

pub valuation_since-operand_at-requires : goal.valuation_since-operand_at-requires
valuation_since-operand_at-requires t c = omega (arith, c.requires.span.inside)

pub valuation_since-valuation-right-requires : goal.valuation_since-valuation-right-requires
valuation_since-valuation-right-requires t c =
    let lt = second_below c.requires.span (lit< tt) c.operand_at.ensures in
    (operand_falls c.decreases lt (lit< tt), (c.requires.book_kept, lt_trans lt c.requires.row_bound))

pub valuation_since-returns-then-eq : goal.valuation_since-returns-then-eq
valuation_since-returns-then-eq t c =
    sym (since_false _ (range_at c.args.monitor.now c.args.row) _ _ (right_is c.args.monitor.now _ (said_false _ c.eq.ensures c.if-eq.true) c.valuation-right.ensures c.operand_at.ensures))

pub valuation_since-covers_at-requires : goal.valuation_since-covers_at-requires
valuation_since-covers_at-requires t c = (below_128 c.requires.book_kept c.requires.row_bound, c.requires.words_value.1)

pub valuation_since-operand_at-requires-then-covers_at : goal.valuation_since-operand_at-requires-then-covers_at
valuation_since-operand_at-requires-then-covers_at t c = omega (arith, c.requires.span.inside)

pub valuation_since-valuation-left-requires : goal.valuation_since-valuation-left-requires
valuation_since-valuation-left-requires t c =
    let lt = first_below c.requires.span (lit< tt) c.operand_at-then-covers_at.ensures in
    (operand_falls c.decreases lt (lit< tt), (c.requires.book_kept, lt_trans lt c.requires.row_bound))

pub valuation_since-returns-then-covers_at : goal.valuation_since-returns-then-covers_at
valuation_since-returns-then-covers_at t c =
    let left = c.valuation-left in
    c.early_covered.ensures
    ∙ ap₂ early_covered (zero_words c.args.monitor.now c.args.row c.requires.words_value.0 c.from_now.ensures) (left.ensures ∙ ap (early_told c.args.monitor.now) c.operand_at-then-covers_at.ensures)
    ∙ sym (since_covered _ (range_at c.args.monitor.now c.args.row) _ _ (right_is c.args.monitor.now _ (said_false _ c.eq.ensures c.if-eq.false) c.valuation-right.ensures c.operand_at.ensures) (sym c.covers_at.ensures ∙ c.if-covers_at.true))

pub valuation_since-returns : goal.valuation_since-returns
valuation_since-returns t c =
    sym (since_open _ (range_at c.args.monitor.now c.args.row) _ _ (right_is c.args.monitor.now _ (said_false _ c.eq.ensures c.if-eq.false) c.valuation-right.ensures c.operand_at.ensures) (sym c.covers_at.ensures ∙ c.if-covers_at.false))

pub valuation_walk-loop-at-init : goal.valuation_walk-loop-at-init
valuation_walk-loop-at-init t c = walking_start (early_told c.args.monitor.now) (early_so_far c.args.any c.args.sofar) c.requires.span (omega arith)

pub valuation_walk-valuation-x-requires : goal.valuation_walk-valuation-x-requires
valuation_walk-valuation-x-requires t c =
    let e = c.operand_at.ensures in (
      operand_falls c.decreases (above_there c.args.monitor.now c.args.place c.args.left c.loop-at.at c.loop-at.auto.at c.loop-at-test.true e) (omega (arith, c.loop-at.auto.at)),
      (c.requires.book_kept, walking_below c.loop-at.invariant (omega arith) e),
    )

pub valuation_walk-returns-then-eq : goal.valuation_walk-returns-then-eq
valuation_walk-returns-then-eq t c =
    walking_stop c.loop-at.invariant c.requires.book_kept.long (omega arith) c.operand_at.ensures c.valuation-x.ensures (λ vs. early_stop c.args.any c.loop-at.sofar c.valuation-x.result vs (said_open _ c.eq.ensures c.if-eq.true))

pub valuation_walk-loop-at-preserved : goal.valuation_walk-loop-at-preserved
valuation_walk-loop-at-preserved t c =
    walking_more c.loop-at.invariant c.requires.book_kept.long (omega arith) c.operand_at.ensures c.valuation-x.ensures (early_so_far c.args.any c.taken_in-sofar.result)
    (λ vs. early_on c.args.any c.loop-at.sofar c.valuation-x.result vs (said_open _ c.eq.ensures c.if-eq.false) c.taken_in-sofar.ensures) (omega arith)

pub valuation_walk-returns : goal.valuation_walk-returns
unfolding early_so_far
valuation_walk-returns t c = walking_done c.loop-at.invariant (omega arith) refl
