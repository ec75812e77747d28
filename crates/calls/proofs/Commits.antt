-- The sets changed in place, one by one. Assumes nothing.
use Prim.Native.Nat.{ℕ, ◌+◌, ◌*◌, ◌-◌, ◌≤◌, ◌<◌, min}
use mathlib.Core.Path.{◌≡◌, refl, sym, ap, ap₂, ◌∙◌}
use mathlib.Core.Logic.{⊎_elim}
use mathlib.Core.Bool.{true}
use mathlib.Core.List.{List, ◌++◌}
use native.Mathlib.Omega.{arith}
use lib.ListN.{length, get_or, take, drop, get_or-append}
use lib.Seq.{get_or-append-add, get_or-take, get_or-drop, length-take-le, take_at, drop_at}
use borrow.Author.Tests.{ltb-true}
use borrow.Rule.Slice.PartMut.{put_mid, same_len_mid}
use Rattle.numset.specs.Runs.{Runs, SET_WORDS, fits, kept}
use Rattle.ring.specs.Ring.{ringed, Rolling, rolled, turn_after}
use Rattle.ring.proofs.Rolls.{rolled_length}
use Rattle.lists.proofs.Tests.{lt_or_ge}
use Rattle.pmtl.specs.Book.{Range, start, stop}
use Rattle.memory.specs.Layout.{ROWS, ROW, OWNERS, SET, SIZE}
use Rattle.lists.specs.Lists.{part}
use Rattle.memory.specs.Memory.{clock_of, temporals, lower_at, upper_at, owner_at, set_start, slot_words, range_at}
use Rattle.lists.proofs.Parts.{word_at, part_length, part_same}
use Rattle.set_change.specs.Change.{changed, counted_from}
use Rattle.set_change.proofs.Changes.{changed_0}
use Rattle.planning.specs.Plan.{counts_from, set_after}
use Rattle.calls.specs.Private.{Held, Roomy, Fit, Fitting, Written}

-- ---- a part of a memory put anew
module _ (b k : ℕ) (xs ys : List ℕ) (hb : b + k ≤ length xs) (hk : length ys ≡ k) where
  put_length : length (put_mid b k xs ys) ≡ length xs
  put_length = same_len_mid b k xs ys (hk ∙ sym (part_length b k xs hb))

  front : length (take b xs) ≡ b
  front = length-take-le b xs (omega arith)

  put_below : (i : ℕ) → i < b → get_or (put_mid b k xs ys) i 0 ≡ get_or xs i 0
  put_below i h = get_or-append (take b xs) (ys ++ drop k (drop b xs)) 0 i (rw front h) ∙ get_or-take b xs i 0 h

  put_above : (i : ℕ) → b + k ≤ i → get_or (put_mid b k xs ys) i 0 ≡ get_or xs i 0
  put_above i h =
      let d : ℕ = i - (b + k) in
      let e : List ℕ = drop k (drop b xs) in
      word_at (put_mid b k xs ys) i (b + (k + d)) (omega arith)
      ∙ (rw front at (get_or-append-add (take b xs) (ys ++ e) (k + d) 0))
      ∙ (rw hk at (get_or-append-add ys e d 0))
      ∙ get_or-drop k (drop b xs) d 0 ∙ get_or-drop b xs (k + d) 0
      ∙ word_at xs (b + (k + d)) i (omega arith)

  put_here : part b k (put_mid b k xs ys) ≡ ys
  put_here = ap (take k) (drop_at (take b xs) _ b front) ∙ take_at ys _ k hk

  put_under : (a n : ℕ) → a + n ≤ b → part a n (put_mid b k xs ys) ≡ part a n xs
  put_under a n h = part_same a n xs (put_mid b k xs ys) (omega arith) put_length (λ i lt. put_below (a + i) (omega arith))

  put_over : (a n : ℕ) → b + k ≤ a → a + n ≤ length xs → part a n (put_mid b k xs ys) ≡ part a n xs
  put_over a n h l = part_same a n xs (put_mid b k xs ys) l put_length (λ i lt. put_above (a + i) (omega arith))

-- from a up to e, which is a set's words on
pub put_as : (a e : ℕ) (m : List ℕ) {ys zs : List ℕ} → e ≡ a + SET → ys ≡ zs → put_mid a (e - a) m ys ≡ put_mid a SET m zs
put_as a e m h q = let d : e - a ≡ SET = omega arith in ap₂ (λ (k : ℕ) (x : List ℕ). put_mid a k m x) d q

-- ---- one set
pub room_is : (s : Runs) → fits SET_WORDS s ≡ true → 2 * length s < SET_WORDS
room_is s e = ltb-true (2 * length s) SET_WORDS e

module _ {m : List ℕ} {mode s t c j : ℕ} (f : Roomy m mode s t c j) {p : List ℕ} (e : p ≡ slot_words m j) where
  pub roomy_good : Rolling p
  roomy_good = rw e f.good

  pub roomy_room : fits SET_WORDS (changed mode s t c (ringed p)) ≡ true
  roomy_room = rw e f.room

  pub roomy_done : {ys : List ℕ} → ys ≡ rolled (turn_after c p) (changed mode s t c (ringed p)) → ys ≡ rolled (turn_after c (slot_words m j)) (changed mode s t c (ringed (slot_words m j)))
  roomy_done h = h ∙ ap (λ (w : List ℕ). rolled (turn_after c w) (changed mode s t c (ringed w))) e

module _ {m : List ℕ} {j : ℕ} (f : Held m j) {p : List ℕ} (e : p ≡ slot_words m j) where
  pub held_good : Rolling p
  held_good = rw e f.good

  pub held_done : (c : ℕ) {ys : List ℕ} → ys ≡ rolled (turn_after c p) (kept c (ringed p)) → ys ≡ rolled (turn_after c (slot_words m j)) (kept c (ringed (slot_words m j)))
  held_done c h = h ∙ ap (λ (w : List ℕ). rolled (turn_after c w) (kept c (ringed w))) e

module _ {m : List ℕ} {c mode j : ℕ} (f : Fit m c mode j) where
  pub fit_held : Held m j
  fit_held = record { long = f.bounded.long; inside = f.inside; good = f.good }

  -- where the set stays and nothing is added
  pub commit_stays : {m' : List ℕ} → mode ≡ 0 → m' ≡ put_mid (set_start j) SET m (rolled (turn_after c (slot_words m j)) (kept c (ringed (slot_words m j)))) → m' ≡ put_mid (set_start j) SET m (rolled (turn_after c (slot_words m j)) (set_after m c mode j))
  commit_stays e h =
      let g : Range = range_at m (owner_at m j) in
      h ∙ sym (ap (λ (s : Runs). put_mid (set_start j) SET m (rolled (turn_after c (slot_words m j)) s)) (changed_0 (start g (counts_from m c mode)) (stop g c) c (ringed (slot_words m j)) mode e))

  module _ {s t : ℕ} (es : s ≡ start (range_at m (owner_at m j)) (counts_from m c mode)) (et : t ≡ stop (range_at m (owner_at m j)) c) where
    pub fit_roomy : Roomy m mode s t c j
    fit_roomy = record { long = f.bounded.long; inside = f.inside; good = f.good; room = rw (es, et) f.room }

    pub fit_done : {m' : List ℕ} → m' ≡ put_mid (set_start j) SET m (rolled (turn_after c (slot_words m j)) (changed mode s t c (ringed (slot_words m j)))) → m' ≡ put_mid (set_start j) SET m (rolled (turn_after c (slot_words m j)) (set_after m c mode j))
    fit_done h = h ∙ rw (es, et)

-- ---- one after the other
pub written_start : (m : List ℕ) (c : ℕ) (f : ℕ → Runs) → length m ≡ SIZE → Written m c f 0 m
written_start m c f e = record { long = e; below = λ i h. refl; new = λ j h. absurd (omega arith); old = λ j h l. refl; beyond = λ i h. refl }

written_more : {m m₁ m₂ : List ℕ} {c : ℕ} {f : ℕ → Runs} {n : ℕ} → Written m c f n m₁ → n < 32 → m₂ ≡ put_mid (set_start n) SET m₁ (rolled (turn_after c (slot_words m n)) (f n)) → Written m c f (n + 1) m₂
written_more {m} {m₁} {m₂} {c} {f} {n} w h e =
    let new : List ℕ = rolled (turn_after c (slot_words m n)) (f n) in
    let hb : set_start n + SET ≤ length m₁ = let l = w.long in omega arith in
    let hk : length new ≡ SET = rolled_length (turn_after c (slot_words m n)) (f n) in
    let l = w.long in
    rw e
    (record {
      long = put_length (set_start n) SET m₁ new hb hk ∙ w.long;
      below = λ i lt. put_below (set_start n) SET m₁ new hb hk i (omega arith) ∙ w.below i lt;
      new = λ j lt.
          ⊎_elim
          (λ (p : j < n). put_under (set_start n) SET m₁ new hb hk (set_start j) SET (omega arith) ∙ w.new j p)
          (λ (p : n ≤ j). let d : j ≡ n = omega arith in rw d (put_here (set_start n) SET m₁ new hb hk)) (lt_or_ge j n);
      old = λ j le lt. put_over (set_start n) SET m₁ new hb hk (set_start j) SET (omega arith) (omega arith) ∙ w.old j (omega arith) lt;
      beyond = λ i le. put_above (set_start n) SET m₁ new hb hk i (omega arith) ∙ w.beyond i le;
    })

module _ {m : List ℕ} {c : ℕ} {modes : List ℕ} (fitting : Fitting m c modes) {n : ℕ} (h : n < temporals m) {m₁ : List ℕ} (w : Written m c (λ j. set_after m c (get_or modes j 0) j) n m₁) where
  under : n < 32
  under = omega (arith, fitting.timely.sound.book.temporal_few)

  owner_same : owner_at m₁ n ≡ owner_at m n
  owner_same = let u = under in w.below (OWNERS + n) (omega arith)

  owner_small : owner_at m n < 128
  owner_small = let b = fitting.timely.sound.book in omega (arith, b.few, b.owned n h)

  lower_same : lower_at m₁ (owner_at m n) ≡ lower_at m (owner_at m n)
  lower_same = let u = owner_small in w.below (ROWS + ROW * owner_at m n + 2) (omega arith)

  upper_same : upper_at m₁ (owner_at m n) ≡ upper_at m (owner_at m n)
  upper_same = let u = owner_small in w.below (ROWS + ROW * owner_at m n + 3) (omega arith)

  range_same : range_at m₁ (owner_at m₁ n) ≡ range_at m (owner_at m n)
  range_same = ap (range_at m₁) owner_same ∙ ap₂ (λ (l u : ℕ). record { lower = l; upper = u }) lower_same upper_same

  set_same : slot_words m₁ n ≡ slot_words m n
  set_same = w.old n (omega arith) under

  clock_same : clock_of m₁ ≡ clock_of m
  clock_same = w.below 2 (omega arith)

  after_same : (mode : ℕ) → set_after m₁ c mode n ≡ set_after m c mode n
  after_same mode =
      ap₂ (λ (g : Range) (s : Runs). changed mode (start g (counts_from m₁ c mode)) (stop g c) c s) range_same (ap (λ (x : List ℕ). ringed x) set_same)
      ∙ ap (λ (before : ℕ). changed mode (start (range_at m (owner_at m n)) (counted_from (min (before + 1) c) c mode)) (stop (range_at m (owner_at m n)) c) c (ringed (slot_words m n))) clock_same

  pub commit_fit : Fit m₁ c (get_or modes n 0) n
  commit_fit =
      let t = fitting.timely in
      let row = t.sound.book.rows (owner_at m n) (t.sound.book.owned n h) in
      record {
        inside = under;
        bounded = rw owner_same (record { long = w.long; inside = owner_small; clock = t.clock; lower = rw lower_same row.lower; upper = rw upper_same row.upper });
        good = rw set_same (t.sound.sets n under);
        room = ap (λ (s : Runs). fits SET_WORDS s) (after_same (get_or modes n 0)) ∙ fitting.room n h;
      }

  pub commit_more : {m₂ : List ℕ} → m₂ ≡ put_mid (set_start n) SET m₁ (rolled (turn_after c (slot_words m₁ n)) (set_after m₁ c (get_or modes n 0) n)) → Written m c (λ j. set_after m c (get_or modes j 0) j) (n + 1) m₂
  commit_more e =
      written_more w under (e ∙ ap₂ (λ (x : List ℕ) (s : Runs). put_mid (set_start n) SET m₁ (rolled (turn_after c x) s)) set_same (after_same (get_or modes n 0)))
