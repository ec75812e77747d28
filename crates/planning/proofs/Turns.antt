-- A value put into the table: one that stays as it is, and one that turns. Assumes nothing.
use Prim.Native.Nat.{ℕ, ◌+◌}
use mathlib.Core.Path.{◌≡◌, refl, sym, ap, ◌∙◌}
use mathlib.Core.Bool.{Bool, true, false, not, beq, true≢false}
use mathlib.Core.List.{List}
use lib.ListN.{set}
use lib.Seq.{set-get_or}
use mir.Val.{bool_byte}
use Rattle.pmtl.specs.Answer.{bit_of}
use Rattle.memory.specs.Layout.{VALUES}
use Rattle.planning.specs.Plan.{held_in, turned_to, IsBit}

stays : (old value : Bool) → beq value old ≡ true → (bit_of old ≡ bit_of value) × (false ≡ turned_to old value)
stays true true e = (refl, refl)
stays true false e = absurd (true≢false (sym e))
stays false true e = absurd (true≢false (sym e))
stays false false e = (refl, refl)

turns : (old value : Bool) → beq value old ≡ false → (bool_byte (not old) ≡ bit_of value) × (true ≡ turned_to old value)
turns true true e = absurd (true≢false e)
turns true false e = (refl, refl)
turns false true e = (refl, refl)
turns false false e = absurd (true≢false e)

module _ (m : List ℕ) (r : ℕ) (value : Bool) {old : Bool} (eo : old ≡ held_in m r) where
  pub put_same : IsBit m r → beq value old ≡ true → (m ≡ set m (VALUES + r) (bit_of value)) × (false ≡ turned_to (held_in m r) value)
  put_same bit e =
      let s = stays old value e in
      (sym (ap (set m (VALUES + r)) (sym (bit ∙ ap bit_of (sym eo) ∙ s.0)) ∙ set-get_or m (VALUES + r) 0), s.1 ∙ ap (λ (o : Bool). turned_to o value) eo)

  pub put_turned : {word : ℕ} → word ≡ bool_byte (not old) → beq value old ≡ false → (set m (VALUES + r) word ≡ set m (VALUES + r) (bit_of value)) × (true ≡ turned_to (held_in m r) value)
  put_turned ew e =
      let t = turns old value e in
      (ap (set m (VALUES + r)) (ew ∙ t.0), t.1 ∙ ap (λ (o : Bool). turned_to o value) eo)
