-- The goals of `row_answers::output` and `row_answers::output_walk`. Assumes nothing.
use native.Mathlib.Omega.{arith}
use native.Mathlib.Nat.{lt_trans}
use mathlib.Core.Logic.{⊎_elim}
use mathlib.Core.Path.{◌≡◌, refl, sym, ap, ◌∙◌}
use mathlib.Core.Bool.{not}
use lib.Dec.{lit<, lit≤}
use Rattle.pmtl.specs.Book.Row.{neg, implies}
use Rattle.pmtl.specs.Monitor.{value_rule, value}
use Rattle.memory.specs.Memory.{row_count}
use Rattle.book.specs.Rows.{row_from, count_of}
use Rattle.memory.specs.Kept.{Sound}
use Rattle.memory.specs.Tables.{value_of}
use Rattle.row_answers.specs.Private.{joined}
use Rattle.memory.proofs.Rows.{below_128, first_below, second_below}
use Rattle.row_answers.proofs.Answers.{read_words, word_said, span_as, first_inside, second_inside, answer_read, answer_one, answer_two, above_most, above_there, walking_start, walking_below, walking_more, walking_stop, walking_done, span_book, atom_as, atom_named, walk_falls, row_falls, operand_falls, temporal_as}
use Rattle.row_answers.proofs.Values.{joined_nil, joined_stop, joined_on, atom_held}
use mathlib.Core.List.{List}
use Prim.Native.Nat.{ℕ, ◌<◌, ◌+◌, ◌*◌, ◌^◌}
use Rattle.row_answers.proofs.+output_output_walk.Goals as goal

-- a row below is asked
asks : {m : List ℕ} {t row x : ℕ} → (row + 1) * 2 ^ 64 ≡ t → Sound m → row < row_count m → x < row → ((x + 1) * 2 ^ 64 < t) × (Sound m × (x < row_count m))
asks e kept inside lt = (row_falls e lt, (kept, lt_trans lt inside))

pub output-read_row-words-requires : goal.output-read_row-words-requires
output-read_row-words-requires t c = below_128 c.requires.sound.book c.requires.row_bound

pub output-atom_at-requires : goal.output-atom_at-requires
output-atom_at-requires t c = atom_as (read_words c.args.monitor.now c.args.row c.requires.sound.book c.requires.row_bound c.read_row-words.ensures) (word_said c.in-Atom.is)

pub output-output_walk-requires : goal.output-output_walk-requires
unfolding count_of
output-output_walk-requires t c =
    let sp = span_as (read_words c.args.monitor.now c.args.row c.requires.sound.book c.requires.row_bound c.read_row-words.ensures) (word_said c.in-And.is) in
    (walk_falls c.decreases (above_most c.read_row-words.result.arg sp) (omega (arith, sp.inside)), (c.requires.sound, span_book sp c.requires.row_bound))

pub output-output_walk-requires-in-Or : goal.output-output_walk-requires-in-Or
unfolding count_of
output-output_walk-requires-in-Or t c =
    let sp = span_as (read_words c.args.monitor.now c.args.row c.requires.sound.book c.requires.row_bound c.read_row-words.ensures) (word_said c.in-Or.is) in
    (walk_falls c.decreases (above_most c.read_row-words.result.arg sp) (omega (arith, sp.inside)), (c.requires.sound, span_book sp c.requires.row_bound))

pub output-operand_at-requires : goal.output-operand_at-requires
unfolding count_of
output-operand_at-requires t c = first_inside (read_words c.args.monitor.now c.args.row c.requires.sound.book c.requires.row_bound c.read_row-words.ensures) (word_said c.in-Not.is) (lit< tt)

pub output-output-requires : goal.output-output-requires
unfolding count_of
output-output-requires t c = asks c.decreases c.requires.sound c.requires.row_bound (first_below (span_as (read_words c.args.monitor.now c.args.row c.requires.sound.book c.requires.row_bound c.read_row-words.ensures) (word_said c.in-Not.is)) (lit< tt) c.operand_at.ensures)

pub output-operand_at-requires-in-Implies : goal.output-operand_at-requires-in-Implies
unfolding count_of
output-operand_at-requires-in-Implies t c = first_inside (read_words c.args.monitor.now c.args.row c.requires.sound.book c.requires.row_bound c.read_row-words.ensures) (word_said c.in-Implies.is) (lit< tt)

pub output-output-requires-in-Implies : goal.output-output-requires-in-Implies
unfolding count_of
output-output-requires-in-Implies t c = asks c.decreases c.requires.sound c.requires.row_bound (first_below (span_as (read_words c.args.monitor.now c.args.row c.requires.sound.book c.requires.row_bound c.read_row-words.ensures) (word_said c.in-Implies.is)) (lit< tt) c.operand_at-in-Implies.ensures)

pub output-overflow_add-words : goal.output-overflow_add-words
unfolding count_of
output-overflow_add-words t c = omega (arith, second_inside (read_words c.args.monitor.now c.args.row c.requires.sound.book c.requires.row_bound c.read_row-words.ensures) (word_said c.in-Implies.is) (lit< tt))

pub output-operand_at-requires-then-output : goal.output-operand_at-requires-then-output
unfolding count_of
output-operand_at-requires-then-output t c = second_inside (read_words c.args.monitor.now c.args.row c.requires.sound.book c.requires.row_bound c.read_row-words.ensures) (word_said c.in-Implies.is) (lit< tt)

pub output-output-requires-then-output : goal.output-output-requires-then-output
unfolding count_of
output-output-requires-then-output t c = asks c.decreases c.requires.sound c.requires.row_bound (second_below (span_as (read_words c.args.monitor.now c.args.row c.requires.sound.book c.requires.row_bound c.read_row-words.ensures) (word_said c.in-Implies.is)) (lit< tt) c.operand_at-then-output.ensures)

pub output-here_at-requires : goal.output-here_at-requires
output-here_at-requires t c = record { sound = c.requires.sound; row_bound = (c.requires.row_bound, temporal_as (read_words c.args.monitor.now c.args.row c.requires.sound.book c.requires.row_bound c.read_row-words.ensures) (word_said c.in-Historically.is) (lit≤ tt)) }

pub output-here_at-requires-in-Once : goal.output-here_at-requires-in-Once
output-here_at-requires-in-Once t c = let e = read_words c.args.monitor.now c.args.row c.requires.sound.book c.requires.row_bound c.read_row-words.ensures in record { sound = c.requires.sound; row_bound = (c.requires.row_bound, ⊎_elim (λ k. temporal_as e (word_said k) (lit≤ tt)) (λ k. temporal_as e (word_said k) (lit≤ tt)) c.in-Once.is) }

pub output-returns-in-False : goal.output-returns-in-False
unfolding value value_rule row_from count_of
output-returns-in-False t c = sym (answer_read _ _ (read_words c.args.monitor.now c.args.row c.requires.sound.book c.requires.row_bound c.read_row-words.ensures) (word_said c.in-False.is))

pub output-returns-in-True : goal.output-returns-in-True
unfolding value value_rule row_from count_of
output-returns-in-True t c = sym (answer_read _ _ (read_words c.args.monitor.now c.args.row c.requires.sound.book c.requires.row_bound c.read_row-words.ensures) (word_said c.in-True.is))

pub output-returns-in-Atom : goal.output-returns-in-Atom
unfolding value value_rule row_from count_of
output-returns-in-Atom t c =
    c.atom_at.ensures ∙ sym (answer_read _ _ (read_words c.args.monitor.now c.args.row c.requires.sound.book c.requires.row_bound c.read_row-words.ensures) (word_said c.in-Atom.is) ∙ atom_held c.requires.sound c.read_row-words.result.arg (atom_named (read_words c.args.monitor.now c.args.row c.requires.sound.book c.requires.row_bound c.read_row-words.ensures) (word_said c.in-Atom.is)))

pub output-returns-in-And : goal.output-returns-in-And
unfolding value value_rule row_from count_of
output-returns-in-And t c = c.output_walk.ensures ∙ sym (answer_read _ _ (read_words c.args.monitor.now c.args.row c.requires.sound.book c.requires.row_bound c.read_row-words.ensures) (word_said c.in-And.is))

pub output-returns-in-Or : goal.output-returns-in-Or
unfolding value value_rule row_from count_of
output-returns-in-Or t c = c.output_walk-in-Or.ensures ∙ sym (answer_read _ _ (read_words c.args.monitor.now c.args.row c.requires.sound.book c.requires.row_bound c.read_row-words.ensures) (word_said c.in-Or.is))

pub output-returns-in-Not : goal.output-returns-in-Not
unfolding value value_rule row_from count_of
output-returns-in-Not t c = sym (answer_one _ _ (read_words c.args.monitor.now c.args.row c.requires.sound.book c.requires.row_bound c.read_row-words.ensures) (word_said c.in-Not.is) neg (λ os. refl) (lit< tt) c.operand_at.ensures c.output.ensures)

pub output-returns-then-output : goal.output-returns-then-output
unfolding value value_rule row_from count_of
output-returns-then-output t c = sym (answer_two _ _ (read_words c.args.monitor.now c.args.row c.requires.sound.book c.requires.row_bound c.read_row-words.ensures) (word_said c.in-Implies.is) implies (λ os. refl) (lit< tt) c.operand_at-in-Implies.ensures (sym c.if-output.true ∙ c.output-in-Implies.ensures) c.operand_at-then-output.ensures c.output-then-output.ensures)

pub output-returns-else-output : goal.output-returns-else-output
unfolding value value_rule row_from count_of
output-returns-else-output t c = sym (answer_two _ _ (read_words c.args.monitor.now c.args.row c.requires.sound.book c.requires.row_bound c.read_row-words.ensures) (word_said c.in-Implies.is) implies (λ os. refl) (lit< tt) c.operand_at-in-Implies.ensures (sym c.if-output.false ∙ c.output-in-Implies.ensures) refl refl)

pub output-returns-in-Historically : goal.output-returns-in-Historically
unfolding value value_rule row_from count_of
output-returns-in-Historically t c = ap not c.here_at.ensures ∙ sym (answer_read _ _ (read_words c.args.monitor.now c.args.row c.requires.sound.book c.requires.row_bound c.read_row-words.ensures) (word_said c.in-Historically.is))

pub output-returns-in-Once : goal.output-returns-in-Once
unfolding value value_rule row_from count_of
output-returns-in-Once t c =
    let e = read_words c.args.monitor.now c.args.row c.requires.sound.book c.requires.row_bound c.read_row-words.ensures in
    c.here_at-in-Once.ensures ∙ sym (⊎_elim (λ k. answer_read _ _ e (word_said k)) (λ k. answer_read _ _ e (word_said k)) c.in-Once.is)

pub output_walk-loop-at-init : goal.output_walk-loop-at-init
output_walk-loop-at-init t c = walking_start (value_of c.args.monitor.now) (joined c.args.stop) c.requires.span (omega arith)

pub output_walk-output-requires : goal.output_walk-output-requires
output_walk-output-requires t c =
    let e = c.operand_at.ensures in (
      operand_falls c.decreases (above_there c.args.monitor.now c.args.place c.args.left c.loop-at.at c.loop-at.auto.at c.loop-at-test.true e) (omega (arith, c.loop-at.auto.at)),
      (c.requires.sound, walking_below c.loop-at.invariant (omega arith) e),
    )

pub output_walk-returns-then-output-stop : goal.output_walk-returns-then-output-stop
output_walk-returns-then-output-stop t c =
    walking_stop c.loop-at.invariant c.requires.sound.book.long (omega arith) c.operand_at.ensures c.output.ensures (λ vs. joined_stop c.args.stop _ vs c.if-output-stop.true)

pub output_walk-loop-at-preserved : goal.output_walk-loop-at-preserved
output_walk-loop-at-preserved t c =
    walking_more c.loop-at.invariant c.requires.sound.book.long (omega arith) c.operand_at.ensures c.output.ensures (joined c.args.stop) (λ vs. joined_on c.args.stop _ vs c.if-output-stop.false) (omega arith)

pub output_walk-returns : goal.output_walk-returns
output_walk-returns t c = walking_done c.loop-at.invariant (omega arith) (joined_nil c.args.stop)
