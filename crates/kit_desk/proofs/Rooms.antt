-- Every answer fits the room that the program has for it. Assumes nothing.
use Prim.Native.Nat.{ℕ, ◌≤◌}
use native.Mathlib.Omega.{arith}
use mathlib.Core.Path.{◌≡◌}
use mathlib.Core.List.{List}
use lib.ListN.{length}
use Rattle.buffer_writer.specs.Buffer.{handed, in_buffer}
use Rattle.desk_lines.specs.Longest.{LONGEST_ANSWER}
use Rattle.desk_lines.proofs.Longest.{length_whole}

pub within_room : (out bytes : List ℕ) {out' : List ℕ} {n : ℕ} → handed n out' ≡ in_buffer out bytes → length bytes ≤ LONGEST_ANSWER → length out ≡ LONGEST_ANSWER
    → length out' ≡ LONGEST_ANSWER → n ≤ length out'
within_room out bytes w fits l l' = omega (arith, length_whole out bytes w (omega arith))
