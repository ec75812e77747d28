-- Words and the set that they hold: `pack` holds its runs, and good words are the `pack` of theirs. Assumes nothing.
use Prim.Native.Nat.{ℕ, zero, suc, ◌+◌, ◌*◌, ◌-◌, ◌^◌, ◌≤◌, ◌<◌}
use mathlib.Core.Path.{◌≡◌, refl, sym, ap, ap₂, ◌∙◌}
use mathlib.Core.List.{List, [], ◌∷◌, ◌++◌, append_assoc}
use native.Mathlib.Omega.{arith}
use lib.ListN.{length, get_or, take, drop, replicate, take-append-drop, length-append, length-drop, length-replicate, get_or-replicate}
use lib.Seq.{take-suc, ext_get_or, get_or-drop, get_or-append-add, get_or_at}
use Rattle.numset.specs.Runs.{run, Runs, lo, hi, runs_to, runs, Under, Good, has, words, pack}
use Rattle.lists.proofs.Parts.{get_or_zeros}
use Rattle.numset.proofs.Laws.{good_canonical}
use Rattle.numset.proofs.Unique.{unique}
use Rattle.numset.proofs.Words.{at, length_runs}

-- ---- what `pack` makes
pub length_words : (rs : Runs) → length (words rs) ≡ 2 * length rs
unfolding words
length_words [] = refl
length_words (run l u ∷ rs) = length-append (words rs) (l ∷ u ∷ []) ∙ omega (arith, length_words rs)

runs_words : (x : ℕ) (rs : Runs) (t : List ℕ) → runs_to (x ∷ words rs ++ t) (length rs) ≡ rs
unfolding words runs_to
runs_words x [] t = refl
runs_words x (run l u ∷ rs) t =
    let e = append_assoc (words rs) (l ∷ u ∷ []) t in
    let m : List ℕ = x ∷ (words rs ++ l ∷ u ∷ t) in
    let k = length_words rs in
    let a : lo m (length rs) ≡ l = at m (2 * length rs + 1) (suc (2 * length rs)) (omega arith) ∙ get_or_at (words rs) l (u ∷ t) 0 (2 * length rs) k in
    let b : hi m (length rs) ≡ u =
    at m (2 * length rs + 2) (suc (2 * length rs + 1)) (omega arith) ∙ rw (← k) (get_or-append-add (words rs) (l ∷ u ∷ t) 1 0) in
    let c : run (lo m (length rs)) (hi m (length rs)) ∷ runs_to m (length rs) ≡ run l u ∷ rs = rw (a, b, runs_words x rs (l ∷ u ∷ t)) in
    ap (λ (s : List ℕ). runs_to (x ∷ s) (suc (length rs))) e ∙ c

pub length_pack : (n : ℕ) (rs : Runs) → 2 * length rs < n → length (pack n rs) ≡ n
unfolding pack
length_pack n rs h =
    let k = length_words rs in
    let a = length-append (words rs) (replicate (n - (2 * length rs + 1)) 0) in
    let b = length-replicate {A = ℕ} (n - (2 * length rs + 1)) 0 in
    omega arith

pub runs_pack : (n : ℕ) (rs : Runs) → runs (pack n rs) ≡ rs
unfolding pack
runs_pack n rs = runs_words (length rs) rs _

pub good_pack : (n : ℕ) (rs : Runs) → 2 * length rs < n → Under (2 ^ 64 + 1) rs → Good (pack n rs)
unfolding pack
good_pack n rs h w =
    record {
      room = omega (arith, length_pack n rs h);
      apart = rw (runs_pack n rs) w;
      rest = λ i p.
          let k = length_words rs in
          let z : List ℕ = replicate (n - (2 * length rs + 1)) 0 in
          let d : ℕ = i - (2 * length rs + 1) in
          at (pack n rs) i (suc (2 * length rs + d)) (omega arith)
          ∙ (rw k at (get_or-append-add (words rs) z d 0)) ∙ get_or_zeros (n - (2 * length rs + 1)) d;
    }

-- ---- good words are the `pack` of their runs
take_two : (ms : List ℕ) (j : ℕ) → j + 1 < length ms → take (j + 2) ms ≡ take j ms ++ get_or ms j 0 ∷ get_or ms (j + 1) 0 ∷ []
take_two ms j h =
    let e : j + 2 ≡ suc (j + 1) = omega arith in
    let f : j + 1 ≡ suc j = omega arith in
    ap (λ (k : ℕ). take k ms) e
    ∙ take-suc ms (j + 1) 0 h
    ∙ ap (λ (k : ℕ). take k ms ++ get_or ms (j + 1) 0 ∷ []) f
    ∙ rw (take-suc ms j 0 (omega arith)) (append_assoc (take j ms) (get_or ms j 0 ∷ []) (get_or ms (j + 1) 0 ∷ []))

words_take : (x : ℕ) (ms : List ℕ) (n : ℕ) → 2 * n ≤ length ms → words (runs_to (x ∷ ms) n) ≡ take (2 * n) ms
unfolding words runs_to
words_take x ms zero h = refl
words_take x ms (suc n) h =
    let e : 2 * suc n ≡ 2 * n + 2 = omega arith in
    let a : lo (x ∷ ms) n ≡ get_or ms (2 * n) 0 = at (x ∷ ms) (2 * n + 1) (suc (2 * n)) (omega arith) in
    let b : hi (x ∷ ms) n ≡ get_or ms (2 * n + 1) 0 = at (x ∷ ms) (2 * n + 2) (suc (2 * n + 1)) (omega arith) in
    rw (words_take x ms n (omega arith), a, b) (sym (take_two ms (2 * n) (omega arith)) ∙ ap (λ (k : ℕ). take k ms) (sym e))

zeros_drop : (ms : List ℕ) (j : ℕ) → ((i : ℕ) → j ≤ i → get_or ms i 0 ≡ 0) → drop j ms ≡ replicate (length ms - j) 0
zeros_drop ms j f =
    ext_get_or 0 (drop j ms) (replicate (length ms - j) 0) (length-drop j ms ∙ sym (length-replicate (length ms - j) 0))
    (λ i h. get_or-drop j ms i 0 ∙ f (j + i) (omega arith) ∙ sym (get_or-replicate (length ms - j) i 0 0 (rw length-drop at h)))

pub packed : (m : List ℕ) → Good m → m ≡ pack (length m) (runs m)
unfolding pack
packed [] g = absurd (let r = g.room in omega arith)
packed (x ∷ ms) g =
    let r = g.room in
    let e : suc (length ms) - (2 * x + 1) ≡ length ms - 2 * x = omega arith in
    let z = zeros_drop ms (2 * x) (λ i h. g.rest (suc i) (omega arith)) in
    rw (length_runs (x ∷ ms) x, words_take x ms x (omega arith), e, ← z) (ap (λ (t : List ℕ). x ∷ t) (sym (take-append-drop (2 * x) ms)))

-- good words of one length with the same members are equal
pub unique_words : (m m' : List ℕ) → Good m → Good m' → length m ≡ length m' → ((t : ℕ) → has (runs m) t ≡ has (runs m') t) → m ≡ m'
unique_words m m' g g' k e =
    packed m g ∙ ap₂ pack k (unique (runs m) (runs m') (good_canonical g) (good_canonical g') e) ∙ sym (packed m' g')

-- ---- the empty set
pub zeros_pack : (n : ℕ) → 0 < n → replicate n 0 ≡ pack n []
unfolding pack words
zeros_pack zero h = absurd (omega arith)
zeros_pack (suc n) h = let e : suc n - (2 * 0 + 1) ≡ n = omega arith in rw e

pub good_none : (n : ℕ) → 0 < n → Good (pack n [])
unfolding Under
good_none n h = good_pack n [] (omega arith) tt

pub good_zeros : (n : ℕ) → 0 < n → Good (replicate n 0)
good_zeros n h = rw (zeros_pack n h) (good_none n h)
