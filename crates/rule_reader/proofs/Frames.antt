-- Laws of the rows that are built as a text is read. Assumes nothing.
use Prim.Native.Nat.{ℕ, zero, suc, ◌+◌, ◌*◌, ◌-◌, ◌≤◌, ◌<◌}
use mathlib.Core.Path.{◌≡◌, refl, sym, ap, subst, ◌∙◌}
use mathlib.Core.Bool.{Bool, true, false}
use mathlib.Core.List.{List, [], ◌∷◌}
use native.Mathlib.Omega.{arith}
use lib.ListN.{length, get_or, set, length-set}
use lib.Seq.{sets, length-sets, get_or-set_same, get_or-set_other}
use Rattle.book.specs.Judging.{kind_in, arg_in, lower_in, upper_in}
use Rattle.trees.specs.Forest.{head_of, Forest, none, one, ◌then◌, count, size, roots}
use Rattle.rule_scanner.specs.Reading.{Frame, State, state_of, between, completed, next_part, closed, finished, taken}
use Rattle.book.specs.Kinds.{word_of_kind}
use Rattle.trees.specs.Building.{arg_of, row_words, Mem, Emitted}
use Rattle.trees.proofs.Numbered.{roots_length}
use Rattle.trees.proofs.Built.{then_none, then_assoc, count_then, size_more, count_more}
use Rattle.trees.specs.declared.rows.RowWords.{RowWords}
use Rattle.trees.specs.declared.rows.Spot.{Spot}
use Rattle.book.specs.declared.kind.Kind.{Kind}
use Rattle.book.specs.declared.kind.Kind.TheVariants.{False, True, And, Or, Not, Implies, Historically, Once, Since}
use Rattle.rule_scanner.specs.declared.turns.Mode.{Mode}
use Rattle.rule_scanner.specs.declared.turns.Turn.{Turn}
use Rattle.rule_scanner.specs.declared.turns.Turn.TheVariants.{Refused, Go, Leaf, Open, Part, Close, Counted, Ended}
use Rattle.rule_reader.specs.Laying.{laid, forest, FramesIn, Lies, LiesAfter, NotAtom, NoAtoms, Sane, site_of, Lays, LaysRows}
use Rattle.rule_reader.specs.declared.lay.Laid.{Laid}

-- ---- properties in order
pub forest_between : (s : Bool) (n : ℕ) (h b : Forest) → (s ≡ false → b ≡ none) → forest (between s n h b) ≡ b then h
unfolding laid ◌then◌
forest_between s (suc n) h b f = refl
forest_between true zero h b f = refl
forest_between false zero h b f = rw (f refl) (then_none h)

pub forest_completed : (t : Forest) (o : List Frame) (s : Bool) (n : ℕ) (h b : Forest) → (s ≡ false → b ≡ none) → forest (completed t o s n h b) ≡ laid o (b then h) then t
unfolding laid
forest_completed t (x ∷ o) s n h b f = sym (then_assoc (laid o (b then h)) x.parts t)
forest_completed t [] s zero h b f = forest_between s 0 (h then t) b f ∙ sym (then_assoc b h t)
forest_completed t [] s (suc n) h b f = forest_between s n (h then t) b f ∙ sym (then_assoc b h t)

-- ---- open operators
frames_between : (fm : List ℕ) (s : Bool) (n : ℕ) (h b x : Forest) → FramesIn fm (between s n h b).stack x
frames_between fm s (suc n) h b x = tt
frames_between fm true zero h b x = tt
frames_between fm false zero h b x = tt

frames_completed : (fm : List ℕ) (t : Forest) (o : List Frame) (s : Bool) (n : ℕ) (h b : Forest) → FramesIn fm o (b then h) → FramesIn fm (completed t o s n h b).stack ((completed t o s n h b).before then (completed t o s n h b).here)
frames_completed fm t (x ∷ o) s n h b k = k
frames_completed fm t [] s zero h b k = frames_between fm s 0 (h then t) b _
frames_completed fm t [] s (suc n) h b k = frames_between fm s n (h then t) b _

-- a property is complete
pub lies_completed : {l : Laid} {fm rs os ts : List ℕ} (t : Forest) (o : List Frame) (s : Bool) (n : ℕ) (h b : Forest) → (s ≡ false → b ≡ none) → FramesIn fm o (b then h)
    → Mem rs os ts l.operands (laid o (b then h) then t) → l.height ≡ count (laid o (b then h) then t) → l.operands + l.height ≡ size (laid o (b then h) then t) → Lies (completed t o s n h b) l fm rs os ts
lies_completed {l} {fm} {rs} {os} {ts} t o s n h b f k m c z =
    let e = forest_completed t o s n h b f in
    record { mem = rw e m; height = rw e c; balance = rw e z; frames = frames_completed fm t o s n h b k }

-- ---- a row is made with no parts
leaf_words : (w : Kind) (a n : ℕ) → word_of_kind w ∷ arg_of w a 0 ∷ 0 ∷ 0 ∷ [] ≡ row_words (record { head = head_of w a 0 0; operands = roots n none })
unfolding roots
leaf_words w a n = refl

none_count : count none ≡ 0
unfolding count
none_count = refl

abbrev spot_of : ℕ → ℕ → ℕ → ℕ → Spot
spot_of row base height at = record { row = row; base = base; height = height; operands = at }

abbrev words_with : ℕ → ℕ → ℕ → ℕ → RowWords
words_with kind arg lower upper = record { kind = kind; arg = arg; lower = lower; upper = upper }

module _ {rs os ts rs' os' ts' : List ℕ} (depth row : ℕ) (l : Laid) where
  pub lays_leaf : (w : Kind) (a kind arg : ℕ) (l' : Laid) → kind ≡ word_of_kind w → arg ≡ arg_of w a 0 → l'.operands ≡ l.operands → l'.height ≡ l.height + 1
      → Emitted rs os ts (spot_of row l.height l.height l.operands) (words_with kind arg 0 0) rs' os' ts' → LaysRows (Leaf w a) (site_of depth row l) rs os ts l' rs' os' ts'
  lays_leaf w a kind arg l' ek ea eo eh e = record {
    over = λ fm. record {
      holds = λ r sane d z y. after fm r sane z y;
      frames_size = refl;
      rows_size = e.rows_size;
      operands_size = e.operands_size;
      tops_size = e.tops_size;
    };
  }
    where
      after : (fm : List ℕ) (r : State) → Sane (Leaf w a) r → row ≡ size (forest r) → Lies r l fm rs os ts → Lies (completed (one (head_of w a 0 0) none) r.stack r.second r.left r.here r.before) l' fm rs' os' ts'
      after fm r sane z y =
          let g = forest r in
          let i = head_of w a 0 0 in
          let q = then_none g in
          let v : l.operands + (l.height - l.height) ≡ l'.operands = omega arith in
          let m : Mem rs' os' ts' (l.operands + (l.height - l.height)) (g then one i none) = e.holds g none i (rw q y.mem) y.height (omega (arith, y.height, none_count)) (rw q z) (rw (ek, ea) (leaf_words w a (size g))) in
          let c : l'.height ≡ count (g then one i none) = omega (arith, y.height, count_more g none i) in
          let b : l'.operands + l'.height ≡ size (g then one i none) = omega (arith, y.balance, size_more g none i, ap size q) in
          lies_completed (one i none) r.stack r.second r.left r.here r.before sane.first y.frames (rw v at m) c b

-- ---- a bracket closes
not_atom : (w : Kind) (a n : ℕ) → NotAtom w → arg_of w a n ≡ n
not_atom False a n k = refl
not_atom True a n k = refl
not_atom And a n k = refl
not_atom Or a n k = refl
not_atom Not a n k = refl
not_atom Implies a n k = refl
not_atom Historically a n k = refl
not_atom Once a n k = refl
not_atom Since a n k = refl
not_atom Rattle.book.specs.declared.kind.Kind.TheVariants.Atom a n k = elim k [ ]

-- there are no fewer rows than when it opened
pub base_low : {l : Laid} {fm rs os ts : List ℕ} (depth top : ℕ) (r : State) → (depth ≡ 0 → ⊥) → top ≡ depth - 1 → depth ≡ length r.stack → Lies r l fm rs os ts → arg_in fm top ≤ l.height
unfolding laid
base_low {l} {fm} depth top r some et d y = by_stack r.stack d y.height y.frames
  where
    by_stack : (o : List Frame) → depth ≡ length o → l.height ≡ count (laid o (r.before then r.here)) → FramesIn fm o (r.before then r.here) → arg_in fm top ≤ l.height
    by_stack [] d h f = absurd (some d)
    by_stack (x ∷ o) d h f =
        let v : length o ≡ top = omega arith in
        let w : arg_in fm top ≡ count (laid o (r.before then r.here)) = rw v at f.1 in
        omega (arith, count_then (laid o (r.before then r.here)) x.parts)

module _ {fm rs os ts rs' os' ts' : List ℕ} (depth row : ℕ) (l : Laid) where
  pub lays_close : (top kind base arg lower upper : ℕ) (l' : Laid) → (depth ≡ 0 → ⊥) → top ≡ depth - 1 → kind ≡ kind_in fm top → base ≡ arg_in fm top → arg ≡ l.height - base → lower ≡ lower_in fm top → upper ≡ upper_in fm top
      → base ≤ l.height → l'.operands ≡ l.operands + (l.height - base) → l'.height ≡ base + 1
      → Emitted rs os ts (spot_of row base l.height l.operands) (words_with kind arg lower upper) rs' os' ts' → Lays Close (site_of depth row l) fm rs os ts l' fm rs' os' ts'
  unfolding laid
  lays_close top kind base arg lower upper l' some et ek eb ea el eu low eo eh e = record {
    holds = λ r sane d z y. after r.stack r.second r.left r.here r.before sane.first sane.operators d z y.mem y.height y.balance y.frames;
    frames_size = refl;
    rows_size = e.rows_size;
    operands_size = e.operands_size;
    tops_size = e.tops_size;
  }
    where
      after : (o : List Frame) (s : Bool) (n : ℕ) (h b : Forest) → (s ≡ false → b ≡ none) → NoAtoms o → depth ≡ length o → row ≡ size (laid o (b then h)) → Mem rs os ts l.operands (laid o (b then h)) → l.height ≡ count (laid o (b then h)) → l.operands + l.height ≡ size (laid o (b then h)) → FramesIn fm o (b then h)
          → LiesAfter (closed o s n h b) l' fm rs' os' ts'
      after [] s n h b f a d z m c k fr = tt
      after (x ∷ o) s n h b f a d z m c k fr =
          let g = laid o (b then h) in
          let q = x.parts in
          let i = x.head in
          let v : length o ≡ top = omega arith in
          let w : base ≡ count g = eb ∙ ap (arg_in fm) (sym v) ∙ fr.1 in
          let t = count_then g q in
          let j : l.height - base ≡ length (roots (size g) q) = omega (arith, roots_length (size g) q) in
          let ra : arg ≡ arg_of i.word i.atom (length (roots (size g) q)) = ea ∙ j ∙ sym (not_atom i.word i.atom (length (roots (size g) q)) a.0) in
          let rk : kind ≡ word_of_kind i.word = ek ∙ ap (kind_in fm) (sym v) ∙ fr.0 in
          let rl : lower ≡ i.lower = el ∙ ap (lower_in fm) (sym v) ∙ fr.2 in
          let ru : upper ≡ i.upper = eu ∙ ap (upper_in fm) (sym v) ∙ fr.3 in
          let y : Mem rs' os' ts' (l.operands + (l.height - base)) (g then one i q) = e.holds g q i m w (omega arith) z (rw (rk, ra, rl, ru)) in
          let hc : l'.height ≡ count (g then one i q) = omega (arith, count_more g q i) in
          let hb : l'.operands + l'.height ≡ size (g then one i q) = omega (arith, size_more g q i) in
          lies_completed (one i q) o s n h b f fr.4 (rw (← eo) at y) hc hb

-- ---- a bracket opens
module _ (fm : List ℕ) (k a b c d : ℕ) (room : 4 * k + 4 ≤ length fm) where
  abbrev framed : List ℕ
  framed = sets fm (4 * k) (a ∷ b ∷ c ∷ d ∷ [])

  under : (i : ℕ) → i < 4 * k → get_or framed i 0 ≡ get_or fm i 0
  under i h =
      get_or-set_other (set (set (set fm (4 * k) a) (suc (4 * k)) b) (suc (suc (4 * k))) c) (suc (suc (suc (4 * k)))) i d 0 (λ z. omega arith)
      ∙ get_or-set_other (set (set fm (4 * k) a) (suc (4 * k)) b) (suc (suc (4 * k))) i c 0 (λ z. omega arith)
      ∙ get_or-set_other (set fm (4 * k) a) (suc (4 * k)) i b 0 (λ z. omega arith)
      ∙ get_or-set_other fm (4 * k) i a 0 (λ z. omega arith)

  frames_keep : (o : List Frame) (x : Forest) → length o ≤ k → FramesIn fm o x → FramesIn framed o x
  frames_keep [] x h f = tt
  frames_keep (y ∷ o) x h f =
      (under (4 * length o) (omega arith) ∙ f.0, under (4 * length o + 1) (omega arith) ∙ f.1, under (4 * length o + 2) (omega arith) ∙ f.2, under (4 * length o + 3) (omega arith) ∙ f.3, frames_keep o x (omega arith) f.4)

  long1 : length (set fm (4 * k) a) ≡ length fm
  long1 = length-set fm (4 * k) a

  long2 : length (set (set fm (4 * k) a) (suc (4 * k)) b) ≡ length fm
  long2 = length-set (set fm (4 * k) a) (suc (4 * k)) b ∙ long1

  long3 : length (set (set (set fm (4 * k) a) (suc (4 * k)) b) (suc (suc (4 * k))) c) ≡ length fm
  long3 = length-set (set (set fm (4 * k) a) (suc (4 * k)) b) (suc (suc (4 * k))) c ∙ long2

  kind_set : kind_in framed k ≡ a
  kind_set =
      get_or-set_other (set (set (set fm (4 * k) a) (suc (4 * k)) b) (suc (suc (4 * k))) c) (suc (suc (suc (4 * k)))) (4 * k) d 0 (λ z. omega arith)
      ∙ get_or-set_other (set (set fm (4 * k) a) (suc (4 * k)) b) (suc (suc (4 * k))) (4 * k) c 0 (λ z. omega arith)
      ∙ get_or-set_other (set fm (4 * k) a) (suc (4 * k)) (4 * k) b 0 (λ z. omega arith)
      ∙ get_or-set_same fm (4 * k) a 0 (omega arith)

  arg_set : arg_in framed k ≡ b
  arg_set =
      let e : 4 * k + 1 ≡ suc (4 * k) = omega arith in
      rw e (get_or-set_other (set (set (set fm (4 * k) a) (suc (4 * k)) b) (suc (suc (4 * k))) c) (suc (suc (suc (4 * k)))) (suc (4 * k)) d 0 (λ z. omega arith)
      ∙ get_or-set_other (set (set fm (4 * k) a) (suc (4 * k)) b) (suc (suc (4 * k))) (suc (4 * k)) c 0 (λ z. omega arith)
      ∙ get_or-set_same (set fm (4 * k) a) (suc (4 * k)) b 0 (omega (arith, long1)))

  lower_set : lower_in framed k ≡ c
  lower_set =
      let e : 4 * k + 2 ≡ suc (suc (4 * k)) = omega arith in
      rw e (get_or-set_other (set (set (set fm (4 * k) a) (suc (4 * k)) b) (suc (suc (4 * k))) c) (suc (suc (suc (4 * k)))) (suc (suc (4 * k))) d 0 (λ z. omega arith)
      ∙ get_or-set_same (set (set fm (4 * k) a) (suc (4 * k)) b) (suc (suc (4 * k))) c 0 (omega (arith, long2)))

  upper_set : upper_in framed k ≡ d
  upper_set =
      let e : 4 * k + 3 ≡ suc (suc (suc (4 * k))) = omega arith in
      rw e (get_or-set_same (set (set (set fm (4 * k) a) (suc (4 * k)) b) (suc (suc (4 * k))) c) (suc (suc (suc (4 * k)))) d 0 (omega (arith, long3)))

module _ {fm fm' rs os ts : List ℕ} (depth row : ℕ) (l : Laid) where
  pub lays_open : (w : Kind) (x u kind base : ℕ) → 4 * depth + 4 ≤ length fm → kind ≡ word_of_kind w → base ≡ l.height → fm' ≡ sets fm (4 * depth) (kind ∷ base ∷ x ∷ u ∷ []) → Lays (Open w x u) (site_of depth row l) fm rs os ts l fm' rs os ts
  unfolding laid
  lays_open w x u kind base room ek eb e = record {
    holds = λ r sane d z y.
        let q = then_none (forest r) in
        let low : length r.stack ≤ depth = omega arith in
        record {
          mem = rw q y.mem;
          height = rw q y.height;
          balance = rw q y.balance;
          frames = rw (e, ← d) (
            kind_set fm depth kind base x u room ∙ ek,
            arg_set fm depth kind base x u room ∙ eb ∙ y.height,
            lower_set fm depth kind base x u room,
            upper_set fm depth kind base x u room,
            subst (λ (m : List ℕ). FramesIn m r.stack (r.before then r.here)) (sym e) (frames_keep fm depth kind base x u room r.stack (r.before then r.here) low y.frames),
          );
        };
    frames_size = ap length e ∙ length-sets fm (4 * depth) (kind ∷ base ∷ x ∷ u ∷ []);
    rows_size = refl;
    operands_size = refl;
    tops_size = refl;
  }

-- ---- nothing is made
over : (o : List Frame) (l : Laid) (fm rs os ts : List ℕ) → LiesAfter (finished o) l fm rs os ts
over [] l fm rs os ts = tt
over (x ∷ o) l fm rs os ts = tt

from_empty : (o : List Frame) (h b : Forest) → o ≡ [] → h ≡ none → laid o (b then h) ≡ b then none
unfolding laid
from_empty o h b eo eh = rw (eo, eh)

module _ {fm rs os ts : List ℕ} (depth row : ℕ) (l : Laid) where
  still : (t : Turn) → ((r : State) → Sane t r → Lies r l fm rs os ts → LiesAfter (taken t r.stack r.second r.left r.here r.before) l fm rs os ts) → Lays t (site_of depth row l) fm rs os ts l fm rs os ts
  still t f = record { holds = λ r sane d z y. f r sane y; frames_size = refl; rows_size = refl; operands_size = refl; tops_size = refl }

  pub lays_go : (m : Mode) → Lays (Go m) (site_of depth row l) fm rs os ts l fm rs os ts
  lays_go m = still (Go m) (λ r sane y. record { mem = y.mem; height = y.height; balance = y.balance; frames = y.frames })

  pub lays_refused : Lays Refused (site_of depth row l) fm rs os ts l fm rs os ts
  lays_refused = still Refused (λ r sane y. tt)

  pub lays_ended : Lays Ended (site_of depth row l) fm rs os ts l fm rs os ts
  lays_ended = still Ended (λ r sane y. over r.stack l fm rs os ts)

  part : (o : List Frame) (s : Bool) (n : ℕ) (h b : Forest) (m : Mode) → Lies (state_of m o s n h b) l fm rs os ts → LiesAfter (next_part o s n h b) l fm rs os ts
  unfolding laid
  part [] s n h b m y = tt
  part (x ∷ o) s n h b m y = record { mem = y.mem; height = y.height; balance = y.balance; frames = y.frames }

  pub lays_part : Lays Part (site_of depth row l) fm rs os ts l fm rs os ts
  lays_part = still Part (λ r sane y. part r.stack r.second r.left r.here r.before r.mode (record { mem = y.mem; height = y.height; balance = y.balance; frames = y.frames }))

  counted : (a : ℕ) (s : Bool) (b : Forest) → (s ≡ false → b ≡ none) → Mem rs os ts l.operands (b then none) → l.height ≡ count (b then none) → l.operands + l.height ≡ size (b then none) → Lies (between s a none b) l fm rs os ts
  counted a s b f m c z =
      let e = forest_between s a none b f in
      record { mem = rw e m; height = rw e c; balance = rw e z; frames = frames_between fm s a none b _ }

  pub lays_counted : (a : ℕ) → Lays (Counted a) (site_of depth row l) fm rs os ts l fm rs os ts
  lays_counted a = still (Counted a) (λ r sane y.
      let e = from_empty r.stack r.here r.before sane.counting.0 sane.counting.1 in
      counted a r.second r.before sane.first (rw e at y.mem) (rw e at y.height) (rw e at y.balance))

-- ---- as the code has it
module _ {fm rs os ts : List ℕ} where
  pub lays_absurd : (depth row : ℕ) (l : Laid) → 0 < depth → l.height < arg_in fm (depth - 1) → Lays Close (site_of depth row l) fm rs os ts l fm rs os ts
  lays_absurd depth row l some h = record {
    holds = λ r sane d z y. let k = base_low depth (depth - 1) r (λ z. omega arith) refl d y in absurd (omega arith);
    frames_size = refl;
    rows_size = refl;
    operands_size = refl;
    tops_size = refl;
  }
