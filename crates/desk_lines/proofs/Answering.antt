-- A line that was heard and answered. Assumes nothing.
use Prim.Native.Nat.{ℕ, ◌≤◌}
use mathlib.Core.Path.{◌≡◌, ap, ap₂, ◌∙◌}
use mathlib.Core.List.{List}
use lib.ListN.{length}
use Rattle.memory.specs.Memory.{book_of, state_of}
use Rattle.buffer_writer.specs.Buffer.{handed, in_buffer}
use Rattle.desk.specs.Standing.{kit_count}
use Rattle.desk_lines.specs.declared.Heard as code
use Rattle.desk_lines.specs.Dialogue.{Heard, Held, Reply}
use Rattle.desk_lines.specs.Bytes.{kit_words, event_bytes, reply_bytes}
use Rattle.desk_lines.specs.Longest.{LONGEST_ANSWER}
use Rattle.desk_lines.specs.Does.{event_of, Does, Answers}

pub answered_so : {reply : Reply} {r : code.Heard} {words table m out out' : List ℕ} {n : ℕ} → Does reply r words table m
    → handed n out' ≡ in_buffer out (event_bytes (event_of r.event) (kit_words (book_of m) (state_of m) (kit_count table))) → length (reply_bytes reply) ≤ LONGEST_ANSWER
    → Answers reply (record { stage = r.stage; length = n }) words table m out out'
answered_so {out = out} d w f =
    record {
      stage = ap (λ (h : Heard). h.stage) d.heard;
      held = d.held;
      written = w ∙ ap₂ (λ (h : Heard) (x : Held). in_buffer out (event_bytes h.event (kit_words x.book x.state (kit_count x.table)))) d.heard d.held;
      fits = f;
      good = d.good;
    }
