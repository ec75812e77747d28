-- A byte more of a line is kept, or there is no room for it. Assumes nothing.
use Prim.Native.Nat.{ℕ, suc, ◌+◌, ◌≤◌, ◌<◌}
use native.Mathlib.Omega.{arith}
use mathlib.Core.Path.{◌≡◌, sym, ap, ◌∙◌}
use mathlib.Core.List.{List, [], ◌∷◌, ◌++◌}
use lib.ListN.{length, take, set, length-append}
use lib.Seq.{length-take-le, take_all, take-append_seam, take-suc-set}
use Rattle.kit_desk.specs.Keeps.{Keeps}

module _ (line : List ℕ) (held byte : ℕ) where
  pub one_more : held < length line → Keeps line held byte (set line held byte) (held + 1)
  one_more h =
      let e : held + 1 ≡ suc held = omega arith in
      let n = length-take-le held line (omega arith) in
      record {
        inside = omega arith;
        kept = rw e (take-suc-set line held byte h ∙ sym (take_all (length line) (take held line ++ byte ∷ []) (omega (arith, length-append (take held line) (byte ∷ [])))));
      }

  pub no_more : held ≤ length line → length line ≤ held → Keeps line held byte line held
  no_more h k =
      let e : held ≡ length line = omega arith in
      let n : length (take held line) ≡ length line = length-take-le held line h ∙ e in
      record { inside = h; kept = sym (ap (λ i. take i (take held line ++ byte ∷ [])) (sym n) ∙ take-append_seam (take held line) (byte ∷ [])) }
