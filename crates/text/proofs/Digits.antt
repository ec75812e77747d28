-- Laws of decimal digits, for the proofs of `decimals` and for whoever writes numbers (`at_most_20`, `all_shown`). Assumes nothing.
use Rattle.std.proofs.Common.{◌≡◌, ℕ, zero, suc, ◌+◌, ◌-◌, ◌/◌, ◌%◌, ◌^◌, ◌<◌, ◌≤◌, Bool, true, false, eqb, ltb, leb, List, [], ◌∷◌, ◌++◌, length, get_or, take, drop, set, replicate, sym, refl, ap, ◌∙◌, append-nil, pow-suc, add-one, arith, length-append, length-drop, length-set, take-append-drop, length-take-le, take_all, drop-cons, get_or-take, take-suc, get_or-set_same, take-take, take-suc-set, take_at, drop-set-lt, drop_at, le-ltb, ne_eqb, le-leb, leb-true}
use lib.ListN.{length-replicate}
use lib.Seq.{drop-append-le, take-set-le, drop-length}
use borrow.Author.Tests.{lt-leb}
use Rattle.text.specs.Words.{pick}
use Rattle.text.specs.Decimals.{or_else, digits_before, before, decimal, shown, lastly, Counted}

onto_none : (f : ℕ) (l : List ℕ) → digits_before f 0 l ≡ l
unfolding digits_before
onto_none zero l = refl
onto_none (suc f) l = refl

-- more steps than enough change nothing
enough : (f g n : ℕ) (l : List ℕ) → n ≤ f → n ≤ g → digits_before f n l ≡ digits_before g n l
unfolding digits_before
enough zero g n l h k = let e : n ≡ 0 = omega arith in rw e (sym (onto_none g l))
enough (suc f) zero n l h k = let e : n ≡ 0 = omega arith in rw e (onto_none (suc f) l)
enough (suc f) (suc g) n l h k = by_zero (eqb n 0) refl (λ p q. enough f g (n / 10) ((48 + n % 10) ∷ l) p q)
  where
    by_zero : (t : Bool) → eqb n 0 ≡ t → (n / 10 ≤ f → n / 10 ≤ g → digits_before f (n / 10) ((48 + n % 10) ∷ l) ≡ digits_before g (n / 10) ((48 + n % 10) ∷ l)) → or_else (eqb n 0) l (λ (d : ℕ). digits_before f (n / 10) (d ∷ l)) (48 + n % 10) ≡ or_else (eqb n 0) l (λ (d : ℕ). digits_before g (n / 10) (d ∷ l)) (48 + n % 10)
    by_zero true e r = rw e
    by_zero false e r = rw e (r (omega arith) (omega arith))

one : (f n : ℕ) (l : List ℕ) → 0 < n → digits_before (suc f) n l ≡ digits_before f (n / 10) ((48 + n % 10) ∷ l)
unfolding digits_before
one f n l h = rw (ne_eqb n 0 (omega arith))

pub step : (n : ℕ) (l : List ℕ) → 0 < n → before n l ≡ before (n / 10) ((48 + n % 10) ∷ l)
step n l h = enough n (suc n) n l (omega arith) (omega arith) ∙ one n n l h ∙ enough n (n / 10) (n / 10) ((48 + n % 10) ∷ l) (omega arith) (omega arith)

longer : (f n : ℕ) (l : List ℕ) → length l ≤ length (digits_before f n l)
unfolding digits_before
longer zero n l = omega arith
longer (suc f) n l = by_zero (eqb n 0) refl (longer f (n / 10) ((48 + n % 10) ∷ l))
  where
    by_zero : (t : Bool) → eqb n 0 ≡ t → suc (length l) ≤ length (digits_before f (n / 10) ((48 + n % 10) ∷ l)) → length l ≤ length (or_else (eqb n 0) l (λ (d : ℕ). digits_before f (n / 10) (d ∷ l)) (48 + n % 10))
    by_zero true e r = rw e (omega arith)
    by_zero false e r = rw e (omega arith)

same_len : (f n : ℕ) (l k : List ℕ) → length l ≡ length k → length (digits_before f n l) ≡ length (digits_before f n k)
unfolding digits_before
same_len zero n l k e = e
same_len (suc f) n l k e = by_zero (eqb n 0) refl (same_len f (n / 10) ((48 + n % 10) ∷ l) ((48 + n % 10) ∷ k) (ap suc e))
  where
    by_zero : (t : Bool) → eqb n 0 ≡ t → length (digits_before f (n / 10) ((48 + n % 10) ∷ l)) ≡ length (digits_before f (n / 10) ((48 + n % 10) ∷ k)) → length (or_else (eqb n 0) l (λ (d : ℕ). digits_before f (n / 10) (d ∷ l)) (48 + n % 10)) ≡ length (or_else (eqb n 0) k (λ (d : ℕ). digits_before f (n / 10) (d ∷ k)) (48 + n % 10))
    by_zero true q r = rw q e
    by_zero false q r = rw q r

-- ---- counting the digits
pub record Counting (n k rest : ℕ) : Type 0 where
  pub low : k + rest + rest ≤ n + 1
  pub size : length (before rest (replicate k 0)) ≡ length (decimal n)

pub count_start : (n : ℕ) → Counting n 1 (n / 10)
unfolding decimal
count_start n = record { low = omega arith; size = same_len (n / 10) (n / 10) (0 ∷ []) ((48 + n % 10) ∷ []) refl }

pub count_more : {n k rest : ℕ} → Counting n k rest → 0 < rest → Counting n (k + 1) (rest / 10)
count_more {n} {k} {rest} g h =
    record {
      low = omega (arith, g.low);
      size = rw add-one (same_len (rest / 10) (rest / 10) (0 ∷ replicate k 0) ((48 + rest % 10) ∷ replicate k 0) refl ∙ sym (ap length (step rest (replicate k 0) h)) ∙ g.size);
    }

pub count_done : {n k rest : ℕ} → Counting n k rest → rest ≤ 0 → k ≡ length (decimal n)
count_done {n} {k} {rest} g h =
    let e : rest ≡ 0 = omega arith in
    sym (length-replicate k 0) ∙ sym (ap length (onto_none 0 (replicate k 0))) ∙ sym (ap (λ (r : ℕ). length (before r (replicate k 0))) e) ∙ g.size

-- ---- writing them
drop_set : (m : List ℕ) (i v : ℕ) → i < length m → drop i (set m i v) ≡ v ∷ drop (suc i) m
drop_set m i v h =
    let z : i < length (set m i v) = rw length-set h in
    drop-cons (set m i v) i 0 z ∙ rw (get_or-set_same m i v 0 h, drop-set-lt (suc i) m i v (omega arith))

-- the digits of `rest`, at least one, before what stands from i on, are those of n
pub record Spelling (n : ℕ) (m₀ : List ℕ) (m : List ℕ) (i rest : ℕ) : Type 0 where
  pub size : length m ≡ length m₀
  pub low : i ≤ length m₀
  pub room : length (decimal n) ≤ length m₀
  pub front : take i m ≡ take i m₀
  pub back : before (rest / 10) ((48 + rest % 10) ∷ drop i m) ≡ decimal n

pub spell_start : (n : ℕ) (m : List ℕ) → length (decimal n) ≤ length m → Spelling n m m (length m) n
unfolding decimal
spell_start n m h = record { size = refl; low = omega arith; room = h; front = refl; back = rw (drop-length m) }

module _ {n : ℕ} {m₀ m : List ℕ} {i rest : ℕ} (g : Spelling n m₀ m i rest) where
  pub spell_room : 1 ≤ i
  spell_room =
      let b = longer (rest / 10) (rest / 10) ((48 + rest % 10) ∷ drop i m) in
      let c = ap length g.back in
      let d = length-drop i m in
      omega (arith, g.size, g.room, g.low)

  module _ (j v : ℕ) (e : j ≡ i - 1) (f : v ≡ 48 + rest % 10) where
    written : drop j (set m j v) ≡ (48 + rest % 10) ∷ drop i m
    written =
        let o : 1 ≤ i = spell_room in
        let s : suc j ≡ i = omega arith in
        let r : j < length m = omega (arith, g.size, g.low) in
        drop_set m j v r ∙ rw (s, f)

    kept : take j (set m j v) ≡ take j m₀
    kept =
        let o : 1 ≤ i = spell_room in
        take-set-le j m j v (omega arith) ∙ sym (take-take j i m (omega arith)) ∙ ap (take j) g.front ∙ take-take j i m₀ (omega arith)

    pub spell_more : (rest / 10 ≡ 0 → ⊥) → Spelling n m₀ (set m j v) j (rest / 10)
    spell_more h =
        record {
          size = length-set m j v ∙ g.size;
          low = omega (arith, g.low);
          room = g.room;
          front = kept;
          back = rw written (sym (step (rest / 10) ((48 + rest % 10) ∷ drop i m) (omega arith)) ∙ g.back);
        }

    pub spell_done : rest / 10 ≡ 0 → (j ≡ length m₀ - length (shown n (length m₀))) × (set m j v ≡ lastly n m₀)
    unfolding shown lastly pick
    spell_done h =
        let o : 1 ≤ i = spell_room in
        let d : drop j (set m j v) ≡ decimal n = written ∙ sym (onto_none 0 ((48 + rest % 10) ∷ drop i m)) ∙ sym (ap (λ (r : ℕ). before r ((48 + rest % 10) ∷ drop i m)) h) ∙ g.back in
        let l = ap length d in
        let p = length-drop j (set m j v) in
        let q = length-set m j v in
        let k : j ≡ length m₀ - length (decimal n) = omega (arith, g.size, g.low) in
        let w : set m j v ≡ take j m₀ ++ decimal n = sym (take-append-drop j (set m j v)) ∙ rw (kept, d) in
        rw (le-leb (length (decimal n)) (length m₀) g.room) (k, rw (← k) w)

pub no_room : (n : ℕ) (m : List ℕ) → length m < length (decimal n) → (length m ≡ length m - length (shown n (length m))) × (m ≡ lastly n m)
unfolding shown lastly pick
no_room n m h = rw (lt-leb (length (decimal n)) (length m) h) (omega arith, sym (append-nil (take (length m - 0) m) ∙ take_all (length m - 0) m (omega arith)))

-- the last part is the digits
pub part : (n : ℕ) (m₀ m : List ℕ) (i : ℕ) → i ≡ length m₀ - length (shown n (length m₀)) → m ≡ lastly n m₀ → take (length m - i) (drop i m) ≡ shown n (length m₀)
unfolding lastly
part n m₀ m i e f =
    let l : length (take i m₀) ≡ i = length-take-le i m₀ (omega arith) in
    let w : m ≡ take i m₀ ++ shown n (length m₀) = rw e f in
    let z = ap length w in
    let y = length-append (take i m₀) (shown n (length m₀)) in
    let d : drop i m ≡ shown n (length m₀) = rw w (drop_at (take i m₀) (shown n (length m₀)) i l) in
    rw d (take_all (length m - i) (shown n (length m₀)) (omega arith))

pub shown_fits : (n room : ℕ) → length (shown n room) ≤ room
unfolding shown pick
shown_fits n room = by_room (leb (length (decimal n)) room) refl
  where
    by_room : (t : Bool) → leb (length (decimal n)) room ≡ t → length (pick (leb (length (decimal n)) room) (decimal n) []) ≤ room
    by_room true e = rw e (leb-true (length (decimal n)) room e)
    by_room false e = rw e (omega arith)

pub ends_there : (n room i o : ℕ) (l : List ℕ) → i ≡ room - length (shown n room) → l ≡ shown n room → i + o + length l ≡ o + room
ends_there n room i o l e f = omega (arith, shown_fits n room, ap length f)

-- ---- a number below a power of ten has at most so many digits, and one of 64 bits at most 20
short : (k f n : ℕ) (l : List ℕ) → n < 10 ^ k → length (digits_before f n l) ≤ k + length l
unfolding digits_before
short k zero n l h = omega arith
short zero (suc f) n l h = let e : n ≡ 0 = omega arith in rw e (omega arith)
short (suc k) (suc f) n l h = by_zero (eqb n 0) refl (λ p. short k f (n / 10) ((48 + n % 10) ∷ l) p)
  where
    by_zero : (t : Bool) → eqb n 0 ≡ t → (n / 10 < 10 ^ k → length (digits_before f (n / 10) ((48 + n % 10) ∷ l)) ≤ k + suc (length l)) → length (or_else (eqb n 0) l (λ (d : ℕ). digits_before f (n / 10) (d ∷ l)) (48 + n % 10)) ≤ suc k + length l
    by_zero true e r = rw e (omega arith)
    by_zero false e r = rw e (omega (arith, r (omega (arith, pow-suc 10 k))))

pub at_most : (k n : ℕ) → n < 10 ^ suc k → length (decimal n) ≤ suc k
unfolding decimal
at_most k n h = omega (arith, short k (n / 10) (n / 10) ((48 + n % 10) ∷ []) (omega (arith, pow-suc 10 k)))

pub at_most_20 : (n : ℕ) → n < 2 ^ 64 → length (decimal n) ≤ 20
at_most_20 n h = at_most 19 n (omega arith)

pub plenty : (n size : ℕ) → 20 ≤ size → n < 2 ^ 64 → false ≡ ltb size (length (decimal n))
plenty n size h k = sym (le-ltb size (length (decimal n)) (omega (arith, at_most_20 n k)))

pub all_shown : (n : ℕ) → n < 2 ^ 64 → shown n 20 ≡ decimal n
unfolding shown pick
all_shown n h = rw (le-leb (length (decimal n)) 20 (at_most_20 n h))

-- ---- a number below ten has one digit
pub one_place : (n : ℕ) → n < 10 → (48 + n) ∷ [] ≡ decimal n
unfolding decimal
one_place n h =
    let q : n / 10 ≡ 0 = omega arith in
    let r : n % 10 ≡ n = omega arith in
    rw (q, r) (sym (onto_none 0 ((48 + n) ∷ [])))

-- ---- counting up
onto : (f n : ℕ) (l k : List ℕ) → digits_before f n (l ++ k) ≡ digits_before f n l ++ k
unfolding digits_before
onto zero n l k = refl
onto (suc f) n l k = by_zero (eqb n 0) refl (onto f (n / 10) ((48 + n % 10) ∷ l) k)
  where
    by_zero : (t : Bool) → eqb n 0 ≡ t → digits_before f (n / 10) ((48 + n % 10) ∷ (l ++ k)) ≡ digits_before f (n / 10) ((48 + n % 10) ∷ l) ++ k → or_else (eqb n 0) (l ++ k) (λ (d : ℕ). digits_before f (n / 10) (d ∷ (l ++ k))) (48 + n % 10) ≡ or_else (eqb n 0) l (λ (d : ℕ). digits_before f (n / 10) (d ∷ l)) (48 + n % 10) ++ k
    by_zero true e r = rw e
    by_zero false e r = rw e r

last_apart : (n : ℕ) → decimal n ≡ before (n / 10) [] ++ (48 + n % 10) ∷ []
unfolding decimal
last_apart n = onto (n / 10) (n / 10) [] ((48 + n % 10) ∷ [])

same_ends : (g b : List ℕ) (y x : ℕ) → g ++ y ∷ [] ≡ b ++ x ∷ [] → (g ≡ b) × (y ≡ x)
same_ends g b y x h =
    let e : length g ≡ length b = omega (arith, length-append g (y ∷ []), length-append b (x ∷ []), ap length h) in
    let t : g ≡ b = sym (take_at g (y ∷ []) (length b) e) ∙ ap (take (length b)) h ∙ take_at b (x ∷ []) (length b) refl in
    let d : y ∷ [] ≡ x ∷ [] = sym (drop_at g (y ∷ []) (length b) e) ∙ ap (drop (length b)) h ∙ drop_at b (x ∷ []) (length b) refl in
    (t, cc)

some : (n : ℕ) → 1 ≤ length (decimal n)
unfolding decimal
some n = longer (n / 10) (n / 10) ((48 + n % 10) ∷ [])

put_last : (m : List ℕ) (k v : ℕ) → length m ≡ suc k → set m k v ≡ take k m ++ v ∷ []
put_last m k v e = sym (take_all (suc k) (set m k v) (omega (arith, length-set m k v))) ∙ take-suc-set m k v (omega arith)

-- the digits of n end m, from `first` on, and k is the place of the last
module _ (k n : ℕ) (m : List ℕ) (first : ℕ) (size : length m ≡ suc k) (digits : drop first m ≡ decimal n) where
  below : first ≤ length (take k m)
  below = omega (arith, some n, ap length digits, length-drop first m, length-take-le k m (omega arith))

  whole : m ≡ take k m ++ get_or m k 0 ∷ []
  whole = sym (take_all (suc k) m (omega arith)) ∙ take-suc m k 0 (omega arith)

  ends : (drop first (take k m) ≡ before (n / 10) []) × (get_or m k 0 ≡ 48 + n % 10)
  ends = same_ends (drop first (take k m)) (before (n / 10) []) (get_or m k 0) (48 + n % 10) (sym (drop-append-le first (take k m) (get_or m k 0 ∷ []) below) ∙ ap (drop first) (sym whole) ∙ digits ∙ last_apart n)

  -- the last digit is not 9: it alone is another
  last_more : (v : ℕ) → v ≡ get_or m k 0 + 1 → get_or m k 0 < 57 → drop first (take k m ++ v ∷ []) ≡ decimal (n + 1)
  last_more v e h =
      let q : (n + 1) / 10 ≡ n / 10 = omega (arith, ends.1) in
      let r : 48 + (n + 1) % 10 ≡ v = omega (arith, ends.1) in
      drop-append-le first (take k m) (v ∷ []) below ∙ ap (λ (l : List ℕ). l ++ v ∷ []) ends.0 ∙ sym (last_apart (n + 1) ∙ rw (q, r))

-- digits before another are those of a number
tens : (q : ℕ) (l : List ℕ) → l ≡ before q [] → 0 < length l → l ≡ decimal q
unfolding digits_before decimal
tens zero l e h = absurd (omega (arith, ap length e))
tens (suc q) l e h = e ∙ step (suc q) [] (omega arith)

module _ {n : ℕ} {m : List ℕ} {first : ℕ} (g : Counted n m first) where
  pub inside : first ≤ length m
  inside = omega (arith, some n, ap length g.digits, length-drop first m)

  pub one_more : (v : ℕ) → v ≡ get_or m 19 0 + 1 → get_or m 19 0 < 57 → Counted (n + 1) (set m 19 v) first
  one_more v e h =
      record {
        size = length-set m 19 v ∙ g.size;
        digits = ap (drop first) (put_last m 19 v g.size) ∙ last_more 19 n m first g.size g.digits v e h;
      }

  -- the last digit is 9 and the one before it is not: these two are others
  module _ (v : ℕ) (two : first < 19) (e : v ≡ get_or m 18 0 + 1) (h : get_or m 18 0 < 57) (nine : 57 ≤ get_or m 19 0) where
    long : length (take 19 m) ≡ 19
    long = length-take-le 19 m (omega (arith, g.size))

    last : get_or m 19 0 ≡ 48 + n % 10
    last = (ends 19 n m first g.size g.digits).1

    before_last : drop first (take 19 m) ≡ decimal (n / 10)
    before_last = tens (n / 10) (drop first (take 19 m)) (ends 19 n m first g.size g.digits).0 (omega (arith, length-drop first (take 19 m), long))

    tens_up : drop first (take 18 m ++ v ∷ []) ≡ decimal (n / 10 + 1)
    tens_up =
        let same = get_or-take 19 m 18 0 (omega arith) in
        ap (λ (l : List ℕ). drop first (l ++ v ∷ [])) (sym (take-take 18 19 m (omega arith)))
        ∙ last_more 18 (n / 10) (take 19 m) first long before_last v (omega (arith, same)) (omega (arith, same))

    fits : first ≤ length (take 18 m ++ v ∷ [])
    fits = omega (arith, length-append (take 18 m) (v ∷ []), length-take-le 18 m (omega (arith, g.size)))

    next : decimal (n / 10 + 1) ++ 48 ∷ [] ≡ decimal (n + 1)
    unfolding decimal
    next =
        let q : (n + 1) / 10 ≡ n / 10 + 1 = omega (arith, last) in
        let r : 48 + (n + 1) % 10 ≡ 48 = omega (arith, last) in
        ap (λ (l : List ℕ). l ++ 48 ∷ []) (sym (step (n / 10 + 1) [] (omega arith))) ∙ sym (last_apart (n + 1) ∙ rw (q, r))

    pub ten_more : Counted (n + 1) (set (set m 18 v) 19 48) first
    ten_more =
        let s = length-set m 18 v ∙ g.size in
        let placed = put_last (set m 18 v) 19 48 s ∙ ap (λ (l : List ℕ). l ++ 48 ∷ []) (take-suc-set m 18 v (omega (arith, g.size))) in
        record {
          size = length-set (set m 18 v) 19 48 ∙ s;
          digits = ap (drop first) placed ∙ drop-append-le first (take 18 m ++ v ∷ []) (48 ∷ []) fits ∙ ap (λ (l : List ℕ). l ++ 48 ∷ []) tens_up ∙ next;
        }

pub anew : (n : ℕ) (m₀ m : List ℕ) (i : ℕ) → n < 2 ^ 64 → length m₀ ≡ 20 → length m ≡ length m₀ → i ≡ length m₀ - length (shown n (length m₀)) → m ≡ lastly n m₀ → Counted n m i
anew n m₀ m i few size kept e f =
    record {
      size = kept ∙ size;
      digits = sym (take_all (length m - i) (drop i m) (omega (arith, length-drop i m))) ∙ part n m₀ m i e f ∙ ap (shown n) size ∙ all_shown n few;
    }

pub from_zero : Counted 0 (replicate 20 48) 19
from_zero = record { size = refl; digits = one_place 0 (omega arith) }
