use Rattle.buffer_writer.proofs.Writes.{and_then, same_bytes}
use Rattle.book_writer.specs.Layout.{row_line}
use Rattle.text.specs.Words.{space}
use Rattle.text.specs.Decimals.{decimal}
use Prim.Native.Nat.{ℕ}
use mathlib.Core.Path.{ap}
use mathlib.Core.List.{◌∷◌}
use Rattle.book_writer.proofs.put_row.Goals as goal

-- src/lib.rt:35:1
pub returns : goal.returns
unfolding row_line
returns c = and_then (same_bytes c.put_number-a.ensures (ap decimal c.kind_in.ensures)) (and_then (same_bytes c.put_word-b.ensures (ap (λ (z : ℕ). space ∷ decimal z) c.arg_in.ensures)) (and_then (same_bytes c.put_word-c.ensures (ap (λ (z : ℕ). space ∷ decimal z) c.lower_in.ensures)) (and_then (same_bytes c.put_word-d.ensures (ap (λ (z : ℕ). space ∷ decimal z) c.upper_in.ensures)) c.put_bytes.ensures)))
