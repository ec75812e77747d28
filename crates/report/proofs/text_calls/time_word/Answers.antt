-- `report::text_calls::time_word` meets its contract. Assumes nothing.
use Rattle.std.proofs.Common.{⊎_elim}
use Rattle.report.specs.Private.{time_word}
use Rattle.report.proofs.text_calls.time_word.Goals as goal

pub returns-in-State : goal.returns-in-State
unfolding time_word
returns-in-State c = rw c.in-State.is

pub returns-in-Time : goal.returns-in-Time
unfolding time_word
returns-in-Time c = ⊎_elim (λ e. rw e c.next_number.ensures) (λ e. rw e c.next_number.ensures) c.in-Time.is
