-- Laws of laying a row over others. Assumes nothing.
use Prim.Native.Nat.{ℕ, ◌+◌, ◌-◌, ◌≤◌, ◌<◌}
use mathlib.Core.Path.{◌≡◌, refl, sym, ap, ◌∙◌}
use mathlib.Core.Bool.{Bool, true, false}
use mathlib.Core.List.{List, [], ◌∷◌}
use mathlib.Core.Logic.{⊎_elim}
use native.Mathlib.Omega.{arith}
use Rattle.lists.proofs.Tests.{lt_or_ge}
use lib.ListN.{length}
use Rattle.numbers.specs.Limits.{MOST_ROWS}
use Rattle.trees.specs.Forest.{head_of, Forest, one, ◌then◌, count, size}
use Rattle.trees.specs.Building.{Rooms, RoomFor, Emitted}
use Rattle.trees.specs.declared.rows.RowWords.{RowWords}
use Rattle.book.specs.declared.kind.Kind.TheVariants.{Not}
use Rattle.trees.proofs.Numbered.{roots_length}
use Rattle.trees.proofs.Built.{count_then, size_more, count_more}
use Rattle.tidying.specs.declared.Form.{Form}
use Rattle.tidier.specs.Laying.{negated_if, Small, full_laid, Layable, Kept, Base, Adds, AddsNot, Ends, words_at, form_at, over_all}
use Rattle.tidier.specs.declared.lay.Laid.{Laid}
use Rattle.tidier.specs.declared.lay.Site.{Site}

-- nothing was stored
pub kept_none : {l' : Laid} {rs os ts : List ℕ} → l'.rows ≤ MOST_ROWS + 1 → l'.operands + l'.height ≤ l'.rows → Kept rs os ts l' rs os ts
kept_none h k = record { few = h; balance = k; rows_size = refl; operands_size = refl; tops_size = refl }

pub kept_then : {l₁ l₂ : Laid} {rs os ts rs₁ os₁ ts₁ rs₂ os₂ ts₂ : List ℕ} → Kept rs os ts l₁ rs₁ os₁ ts₁ → Kept rs₁ os₁ ts₁ l₂ rs₂ os₂ ts₂ → Kept rs os ts l₂ rs₂ os₂ ts₂
kept_then x y = record { few = y.few; balance = y.balance; rows_size = y.rows_size ∙ x.rows_size; operands_size = y.operands_size ∙ x.operands_size; tops_size = y.tops_size ∙ x.tops_size }

pub layable_after : {l : Laid} {rs os ts rs' os' ts' : List ℕ} → Rooms (length rs) (length os) (length ts) → Kept rs os ts l rs' os' ts' → Layable l (length rs') (length os') (length ts')
layable_after r k = record { few = k.few; balance = k.balance; rooms = record { rows_long = rw k.rows_size r.rows_long; operands_long = rw k.operands_size r.operands_long; tops_long = rw k.tops_size r.tops_long } }

full_kept : {rs os ts : List ℕ} → Kept rs os ts full_laid rs os ts
full_kept = record { few = omega arith; balance = omega arith; rows_size = refl; operands_size = refl; tops_size = refl }

-- ---- a row
module _ {l r : Laid} {base : ℕ} {w : RowWords} {rs os ts : List ℕ} (e : r ≡ full_laid) where
  full_adds : ((g f : Forest) → Base base g f → Small (g then f) l rs os ts → size (g then f) < MOST_ROWS → ⊥) → Adds l base w rs os ts r rs os ts
  full_adds no_room = rw e (record {
    kept = full_kept;
    holds = λ g f h b y q.
        let s = size_more g f h in
        record {
          small = λ k. absurd (no_room g f b (y.small (omega (arith, s, k))) (omega (arith, s, k)));
          large = λ k. omega arith;
        };
  })

  pub adds_full : MOST_ROWS ≤ l.rows → Adds l base w rs os ts r rs os ts
  adds_full h = full_adds (λ g f b y k. omega (arith, y.rows, h, k))

  pub adds_absurd : l.height < base → Adds l base w rs os ts r rs os ts
  adds_absurd h = full_adds (λ g f b y k. omega (arith, y.height, count_then g f, b (omega (arith, k)), h))

pub room_for : (l : Laid) (base rows operands tops : ℕ) → Layable l rows operands tops → l.rows < MOST_ROWS → base ≤ l.height → RoomFor (record { row = l.rows; base = base; height = l.height; operands = l.operands }) rows operands tops
room_for l base rows operands tops x h k = record {
  row_fits = omega (arith, x.rooms.rows_long);
  in_order = k;
  tops_there = omega (arith, x.balance, x.rooms.tops_long);
  top_fits = omega (arith, x.balance, x.rooms.tops_long);
  operands_fit = omega (arith, x.balance, x.rooms.operands_long);
}

pub adds_row : {rs os ts rs' os' ts' : List ℕ} (l : Laid) (base : ℕ) (w : RowWords) {rows operands tops : ℕ} → Layable l rows operands tops → l.rows < MOST_ROWS → base ≤ l.height
    → Emitted rs os ts (record { row = l.rows; base = base; height = l.height; operands = l.operands }) w rs' os' ts'
    → Adds l base w rs os ts (record { rows = l.rows + 1; operands = l.operands + (l.height - base); height = base + 1 }) rs' os' ts'
adds_row l base w x h k m = record {
  kept = record { few = omega arith; balance = omega (arith, x.balance); rows_size = m.rows_size; operands_size = m.operands_size; tops_size = m.tops_size };
  holds = λ g f head b y q.
      let s = size_more g f head in
      record {
        small = λ z.
            let u : size (g then f) ≤ MOST_ROWS = omega (arith, s, z) in
            let v = y.small u in
            let c = b u in
            record {
              mem = m.holds g f head v.mem c (v.height ∙ count_then g f) v.rows q;
              rows = omega (arith, v.rows, s);
              height = omega (arith, c, count_more g f head);
              balance = omega (arith, v.balance, s);
            };
        large = λ z. absurd (⊎_elim (λ v. omega (arith, y.large v, h)) (λ v. omega (arith, (y.small v).rows, s, z, h)) (lt_or_ge MOST_ROWS (size (g then f))));
      };
}

-- ---- a Not
module _ {l r : Laid} {rs os ts : List ℕ} where
  pub not_full : r ≡ full_laid → l.height ≡ 0 → AddsNot true l rs os ts r rs os ts
  unfolding negated_if
  not_full e h = rw e (record {
    kept = full_kept;
    holds = λ g f c y.
        let s = size_more g f (head_of Not 0 0 0) in
        record {
          small = λ k. absurd (omega (arith, (y.small (omega (arith, s, k))).height, count_then g f, c, h));
          large = λ k. omega arith;
        };
  })

  pub not_laid : {rs' os' ts' : List ℕ} → Adds l (l.height - 1) (record { kind = 5; arg = 1; lower = 0; upper = 0 }) rs os ts r rs' os' ts' → AddsNot true l rs os ts r rs' os' ts'
  unfolding negated_if
  not_laid m = record {
    kept = m.kept;
    holds = λ g f c y.
        m.holds g f (head_of Not 0 0 0) (λ k. omega (arith, (y.small k).height, count_then g f, c)) y
        (ap (λ (n : ℕ). 5 ∷ n ∷ 0 ∷ 0 ∷ []) (sym c ∙ sym (roots_length (size g) f)));
  }

pub not_none : {l : Laid} {rs os ts : List ℕ} {a b c : ℕ} → Layable l a b c → AddsNot false l rs os ts l rs os ts
unfolding negated_if
not_none x = record { kept = kept_none x.few x.balance; holds = λ g f c y. y }

-- ---- a row whose parts are laid
pub ends : {rows rs os ts rs₁ os₁ ts₁ rs₂ os₂ ts₂ : List ℕ} {l₁ l₂ : Laid} {v : Site} {w : RowWords} {over : Bool} (f : Form) → f ≡ form_at v.step v.row → w ≡ words_at rows f v.row → over ≡ over_all f
    → Adds v.laid v.base w rs os ts l₁ rs₁ os₁ ts₁ → AddsNot over l₁ rs₁ os₁ ts₁ l₂ rs₂ os₂ ts₂ → Ends rows v rs os ts l₂ rs₂ os₂ ts₂
unfolding count
ends form ef ew eo x y = record {
  kept = kept_then x.kept y.kept;
  holds = λ g f h b z q. rw (eo, ef) at (y.holds g (one h f) refl (x.holds g f h b z (rw (ew, ef) q)));
}
