-- Reading back what is written of lines that a report can have gives the lines. Assumes nothing.
use Prim.Native.Nat.{ℕ, ◌+◌, ◌≤◌, ◌<◌}
use native.Mathlib.Omega.{arith}
use native.Mathlib.Decide.{ℕ_discrete}
use mathlib.Core.Path.{◌≡◌, refl, sym, ap, ap₂, ◌∙◌}
use mathlib.Core.Bool.{Bool, true, false, cond}
use mathlib.Core.List.{List, [], ◌∷◌, ◌++◌, map, append-nil, append_assoc}
use lib.ListN.{length, get_or}
use lib.Dec.{leb, eqb}
use borrow.Author.Tests.{eq-eqb, ne_eqb, leb-true}
use Rattle.text.specs.Words.{space, line_feed, digit0, digit, all_digits, said}
use Rattle.text.specs.Decimals.{digits_before, decimal}
use Rattle.lists.proofs.Tests.{and_left, and_right}
use Rattle.text.proofs.Back.{decimal_digits, decimal_says}
use Rattle.text.proofs.Digits.{one_place}
use Rattle.numbers.specs.Refusals.{ACCEPTED}
use Rattle.ledger.specs.declared.Summary.{Summary}
use Rattle.std.specs.Prelude.{Option, Some, None}
use Rattle.book.specs.declared.strict.Excess.{Excess}
use Rattle.book.specs.Strict.{over}
use Rattle.report.specs.Lines.{PropertyWord, Rest, nothing, told, CallLine, end, stop, Line, book, called, summed, last}
use Rattle.report.specs.Report.{excess_words, book_line, stop_line, end_line, last_line, property_word, property_words, rest_words, call_line, summary_line, line, written}
use Rattle.slip.specs.Back.{before, pieces, word_in, word_then, rest_in, excess_said, sums, summary_in, line_in, lines_in, Proper, AllProper}

-- ---- bytes without the one that parts them
abbrev Clear : ℕ → List ℕ → Type 0
Clear by [] = Unit {0}
Clear by (x ∷ xs) = (x ≡ by → ⊥) × Clear by xs

clear_append : (by : ℕ) (xs ys : List ℕ) → Clear by xs → Clear by ys → Clear by (xs ++ ys)
clear_append by [] ys p q = q
clear_append by (x ∷ xs) ys p q = (p.0, clear_append by xs ys p.1 q)

digit_within : (x : ℕ) → digit x ≡ true → (48 ≤ x) × (x ≤ 57)
unfolding digit
digit_within x e = (leb-true 48 x (and_left (leb 48 x) (leb x 57) e), leb-true x 57 (and_right (leb 48 x) (leb x 57) e))

clear_digits : (by : ℕ) → by < digit0 → (xs : List ℕ) → all_digits xs ≡ true → Clear by xs
unfolding all_digits
clear_digits by h [] a = tt
clear_digits by h (x ∷ xs) a =
    let w = digit_within x (and_left (digit x) (all_digits xs) a) in
    ((λ e. omega arith), clear_digits by h xs (and_right (digit x) (all_digits xs) a))

clear_decimal : (by : ℕ) → by < digit0 → (n : ℕ) → Clear by (decimal n)
clear_decimal by h n = clear_digits by h (decimal n) (decimal_digits n)

-- ---- the first piece, and one alone
first_piece : (by : ℕ) (w rest : List ℕ) → Clear by w → pieces by (w ++ by ∷ rest) ≡ w ∷ pieces by rest
unfolding pieces before
first_piece by [] rest c = rw (eq-eqb by by refl)
first_piece by (x ∷ w) rest c = rw (ne_eqb x by c.0, first_piece by w rest c.1)

one_piece : (by : ℕ) (w : List ℕ) → 0 < length w → Clear by w → pieces by w ≡ w ∷ []
unfolding pieces before
one_piece by [] h c = absurd (omega arith)
one_piece by (x ∷ []) h c = rw (ne_eqb x by c.0)
one_piece by (x ∷ y ∷ w) h c = rw (ne_eqb x by c.0, one_piece by (y ∷ w) (omega arith) c.1)

-- a number has a digit, and its first is one
some_digit : (n : ℕ) → 0 < length (decimal n)
unfolding decimal digits_before said
some_digit n = go (decimal n) refl
  where
    go : (w : List ℕ) → decimal n ≡ w → 0 < length w
    go [] e =
        let z : n ≡ 0 = sym (decimal_says n) ∙ ap (said 0) e in
        let q : length (decimal 0) ≡ 0 = ap (λ m. length (decimal m)) (sym z) ∙ ap length e in
        absurd (omega arith)
    go (x ∷ w) e = omega arith

first_digit : (w : List ℕ) → 0 < length w → all_digits w ≡ true → get_or w 0 0 ≤ 57
unfolding all_digits
first_digit [] h a = absurd (omega arith)
first_digit (x ∷ w) h a = (digit_within x (and_left (digit x) (all_digits w) a)).1

-- ---- the words of properties
abbrev bytes_of : PropertyWord → List ℕ
bytes_of v = (digit0 + v.value) ∷ (digit0 + v.early) ∷ (digit0 + v.settled) ∷ []

clear_word : (by : ℕ) → by < digit0 → (v : PropertyWord) → Clear by (bytes_of v)
clear_word by h v = ((λ e. omega arith), ((λ e. omega arith), ((λ e. omega arith), tt)))

same_word : {a b c a' b' c' : ℕ} → a ≡ a' → b ≡ b' → c ≡ c' → ◌≡◌ {A = PropertyWord} (record { value = a; early = b; settled = c }) (record { value = a'; early = b'; settled = c' })
same_word p q r = rw (p, q, r)

word_back : (v : PropertyWord) → word_in (bytes_of v) ≡ v
unfolding word_in
word_back v = same_word (omega arith) (omega arith) (omega arith)

-- ---- what follows the refusal
rest_pieces : Rest → List (List ℕ)
rest_pieces nothing = []
rest_pieces (told ws count) = map bytes_of ws ++ decimal count ∷ []

number_piece : (n : ℕ) → pieces space (decimal n) ≡ decimal n ∷ []
number_piece n = one_piece space (decimal n) (some_digit n) (clear_decimal space (omega arith) n)

told_parted : (w : List ℕ) (ws : List PropertyWord) (count : ℕ) → Clear space w → pieces space (w ++ (property_words ws ++ space ∷ decimal count)) ≡ w ∷ (map bytes_of ws ++ decimal count ∷ [])
unfolding property_words property_word
told_parted w [] count c = first_piece space w (decimal count) c ∙ ap (λ ps. w ∷ ps) (number_piece count)
told_parted w (v ∷ ws) count c =
    first_piece space w (bytes_of v ++ (property_words ws ++ space ∷ decimal count)) c
    ∙ ap (λ ps. w ∷ ps) (told_parted (bytes_of v) ws count (clear_word space (omega arith) v))

rest_parted : (w : List ℕ) (r : Rest) → 0 < length w → Clear space w → pieces space (w ++ rest_words r) ≡ w ∷ rest_pieces r
unfolding rest_words rest_pieces
rest_parted w nothing h c = rw append-nil (one_piece space w h c)
rest_parted w (told ws count) h c = told_parted w ws count c

one_first : (w : List ℕ) (xs : List (List ℕ)) (y : List ℕ) → rest_in (w ∷ (xs ++ y ∷ [])) ≡ word_then (word_in w) (rest_in (xs ++ y ∷ []))
unfolding rest_in
one_first w [] y = refl
one_first w (x ∷ xs) y = refl

told_back : (ws : List PropertyWord) (count : ℕ) → rest_in (map bytes_of ws ++ decimal count ∷ []) ≡ told ws count
unfolding rest_in word_then
told_back [] count = ap (told []) (decimal_says count)
told_back (v ∷ ws) count =
    one_first (bytes_of v) (map bytes_of ws) (decimal count) ∙ ap₂ word_then (word_back v) (told_back ws count)

rest_back : (r : Rest) → rest_in (rest_pieces r) ≡ r
unfolding rest_pieces rest_in
rest_back nothing = refl
rest_back (told ws count) = told_back ws count

clear_words : (ws : List PropertyWord) → Clear line_feed (property_words ws)
unfolding property_words property_word
clear_words [] = tt
clear_words (v ∷ ws) = ((λ e. omega arith), clear_append line_feed (bytes_of v) (property_words ws) (clear_word line_feed (omega arith) v) (clear_words ws))

clear_rest : (r : Rest) → Clear line_feed (rest_words r)
unfolding rest_words
clear_rest nothing = tt
clear_rest (told ws count) = clear_append line_feed (property_words ws) (space ∷ decimal count) (clear_words ws) ((λ e. omega arith), clear_decimal line_feed (omega arith) count)

-- ---- what strict loading refuses
excess_pieces : Option Excess → List (List ℕ)
excess_pieces None = []
excess_pieces (Some o) = decimal o.row ∷ decimal o.count ∷ []

excess_parted : (w : List ℕ) (e : Option Excess) → 0 < length w → Clear space w → pieces space (w ++ excess_words e) ≡ w ∷ excess_pieces e
unfolding excess_words excess_pieces
excess_parted w None h c = rw append-nil (one_piece space w h c)
excess_parted w (Some o) h c =
    first_piece space w (decimal o.row ++ space ∷ decimal o.count) c
    ∙ ap (λ ps. w ∷ ps) (first_piece space (decimal o.row) (decimal o.count) (clear_decimal space (omega arith) o.row) ∙ ap (λ ps. decimal o.row ∷ ps) (number_piece o.count))

excess_back : (e : Option Excess) → excess_said (excess_pieces e) ≡ e
unfolding excess_pieces excess_said
excess_back None = refl
excess_back (Some o) = ap₂ (λ row count. Some (over row count)) (decimal_says o.row) (decimal_says o.count)

clear_excess : (e : Option Excess) → Clear line_feed (excess_words e)
unfolding excess_words
clear_excess None = tt
clear_excess (Some o) =
    ((λ h. omega arith), clear_append line_feed (decimal o.row) (space ∷ decimal o.count) (clear_decimal line_feed (omega arith) o.row) ((λ h. omega arith), clear_decimal line_feed (omega arith) o.count))

-- ---- a line without its line feed
abbrev numbered : List ℕ → ℕ → List ℕ
numbered w n = w ++ space ∷ decimal n

abbrev called_body : CallLine → List ℕ
called_body l = decimal l.number ++ space ∷ (decimal l.refusal ++ rest_words l.rest)

-- numbers parted by a space
abbrev then_number : ℕ → List ℕ → List ℕ
then_number n rest = decimal n ++ space ∷ rest

abbrev summary_body : Summary → List ℕ
summary_body s =
    then_number s.accepted (then_number s.failed (then_number s.first (then_number s.last (then_number s.longest (decimal s.settled)))))

abbrev summary_pieces : Summary → List (List ℕ)
summary_pieces s = decimal s.accepted ∷ decimal s.failed ∷ decimal s.first ∷ decimal s.last ∷ decimal s.longest ∷ decimal s.settled ∷ []

body : Line → List ℕ
body (book n e) = numbered (98 ∷ 111 ∷ 111 ∷ 107 ∷ []) n ++ excess_words e
body (called l) = called_body l
body (summed s) = summary_body s
body (last end) = 101 ∷ 110 ∷ 100 ∷ []
body (last (stop n)) = numbered (115 ∷ 116 ∷ 111 ∷ 112 ∷ []) n

regroup : (a b c d e f z rest : List ℕ) → (a ++ b ++ c ++ d ++ e ++ f ++ z) ++ rest ≡ (a ++ (b ++ (c ++ (d ++ (e ++ f))))) ++ (z ++ rest)
regroup a b c d e f z rest = simp append_assoc

line_body : (l : Line) (rest : List ℕ) → line l ++ rest ≡ body l ++ line_feed ∷ rest
unfolding line body book_line stop_line end_line last_line call_line summary_line
line_body (book n e) rest = simp append_assoc
line_body (called l) rest = simp append_assoc
line_body (summed s) rest =
    let after : ℕ → List ℕ = λ n. space ∷ decimal n in
    regroup (decimal s.accepted) (after s.failed) (after s.first) (after s.last) (after s.longest) (after s.settled) (line_feed ∷ []) rest
line_body (last end) rest = refl
line_body (last (stop n)) rest = simp append_assoc

clear_number : (n : ℕ) (rest : List ℕ) → Clear line_feed rest → Clear line_feed (then_number n rest)
clear_number n rest c = clear_append line_feed (decimal n) (space ∷ rest) (clear_decimal line_feed (omega arith) n) ((λ e. omega arith), c)

clear_body : (l : Line) → Clear line_feed (body l)
unfolding body
clear_body (book n e) = (
  (λ h. omega arith),
  (
    (λ h. omega arith),
    (
      (λ h. omega arith),
      (
        (λ h. omega arith),
        (
          (λ h. omega arith),
          clear_append line_feed (decimal n) (excess_words e) (clear_decimal line_feed (omega arith) n) (clear_excess e),
        ),
      ),
    ),
  ),
)
clear_body (called l) =
    clear_append line_feed (decimal l.number) (space ∷ (decimal l.refusal ++ rest_words l.rest)) (clear_decimal line_feed (omega arith) l.number)
    ((λ e. omega arith), clear_append line_feed (decimal l.refusal) (rest_words l.rest) (clear_decimal line_feed (omega arith) l.refusal) (clear_rest l.rest))
clear_body (summed s) =
    clear_number s.accepted _ (clear_number s.failed _ (clear_number s.first _ (clear_number s.last _ (clear_number s.longest _ (clear_decimal line_feed (omega arith) s.settled)))))
clear_body (last end) = ((λ e. omega arith), ((λ e. omega arith), ((λ e. omega arith), tt)))
clear_body (last (stop n)) = ((λ e. omega arith), ((λ e. omega arith), ((λ e. omega arith), ((λ e. omega arith), ((λ e. omega arith), clear_decimal line_feed (omega arith) n)))))

-- ---- a call's line is no summary
neither : (z : Bool) → cond z false false ≡ false
neither true = refl
neither false = refl

no_summary : (l : CallLine) → Proper (called l) → (r : Rest) → l.rest ≡ r → sums (decimal l.number ∷ decimal l.refusal ∷ rest_pieces r) ≡ false
unfolding sums rest_pieces
no_summary l ok nothing e = refl
no_summary l ok (told [] count) e = refl
no_summary l ok (told (v ∷ vs) count) e = go (ℕ_discrete l.refusal ACCEPTED)
  where
    go : Dec (l.refusal ≡ ACCEPTED) → sums (decimal l.number ∷ decimal l.refusal ∷ rest_pieces (told (v ∷ vs) count)) ≡ false
    go (yes z) = rw (decimal_says l.refusal, eq-eqb l.refusal ACCEPTED z) (neither (eqb (length (decimal l.number ∷ decimal l.refusal ∷ (map bytes_of (v ∷ vs) ++ decimal count ∷ []))) 6))
    go (no z) = let n = ok z in let y : ◌≡◌ {A = ℕ} 0 1 = cc in absurd (omega arith)

-- ---- a summary is one
a_number : (n : ℕ) (rest : List ℕ) (ps : List (List ℕ)) → pieces space rest ≡ ps → pieces space (then_number n rest) ≡ decimal n ∷ ps
a_number n rest ps e = first_piece space (decimal n) rest (clear_decimal space (omega arith) n) ∙ ap (λ qs. decimal n ∷ qs) e

summary_parted : (s : Summary) → pieces space (summary_body s) ≡ summary_pieces s
summary_parted s =
    a_number s.accepted _ _ (a_number s.failed _ _ (a_number s.first _ _ (a_number s.last _ _ (a_number s.longest _ _ (number_piece s.settled)))))

a_summary : (s : Summary) → Proper (summed s) → sums (summary_pieces s) ≡ true
unfolding sums
a_summary s ok = rw (decimal_says s.failed) (go (ℕ_discrete s.failed 0))
  where
    go : Dec (s.failed ≡ 0) → cond (eqb s.failed 0) (eqb (length (decimal s.first)) 1) true ≡ true
    go (yes z) = rw (eq-eqb s.failed 0 z, ok z, ← one_place 0 (omega arith))
    go (no z) = rw (ne_eqb s.failed 0 z)

summary_back : (s : Summary) → summary_in (summary_pieces s) ≡ s
unfolding summary_in
summary_back s = rw (decimal_says s.accepted, decimal_says s.failed, decimal_says s.first, decimal_says s.last, decimal_says s.longest, decimal_says s.settled)

body_back : (l : Line) → Proper l → line_in (pieces space (body l)) ≡ l
unfolding body line_in
body_back (book n e) ok =
    rw (
      first_piece space (98 ∷ 111 ∷ 111 ∷ 107 ∷ []) (decimal n ++ excess_words e) ((λ h. omega arith), ((λ h. omega arith), ((λ h. omega arith), ((λ h. omega arith), tt)))),
      excess_parted (decimal n) e (some_digit n) (clear_decimal space (omega arith) n),
      decimal_says n,
      excess_back e,
    )
body_back (called l) ok =
    let d = first_digit (decimal l.number) (some_digit l.number) (decimal_digits l.number) in
    rw (
      first_piece space (decimal l.number) (decimal l.refusal ++ rest_words l.rest) (clear_decimal space (omega arith) l.number),
      rest_parted (decimal l.refusal) l.rest (some_digit l.refusal) (clear_decimal space (omega arith) l.refusal),
      ne_eqb (get_or (decimal l.number) 0 0) 98 (λ e. omega arith),
      ne_eqb (get_or (decimal l.number) 0 0) 115 (λ e. omega arith),
      no_summary l ok l.rest refl,
      decimal_says l.number,
      decimal_says l.refusal,
      rest_back l.rest,
    )
body_back (summed s) ok =
    let d = first_digit (decimal s.accepted) (some_digit s.accepted) (decimal_digits s.accepted) in
    rw (
      summary_parted s,
      ne_eqb (get_or (decimal s.accepted) 0 0) 98 (λ e. omega arith),
      ne_eqb (get_or (decimal s.accepted) 0 0) 115 (λ e. omega arith),
      a_summary s ok,
      summary_back s,
    )
body_back (last end) ok =
    rw (one_piece space (101 ∷ 110 ∷ 100 ∷ []) (omega arith) ((λ e. omega arith), ((λ e. omega arith), ((λ e. omega arith), tt))))
body_back (last (stop n)) ok =
    rw (first_piece space (115 ∷ 116 ∷ 111 ∷ 112 ∷ []) (decimal n) ((λ e. omega arith), ((λ e. omega arith), ((λ e. omega arith), ((λ e. omega arith), tt)))), number_piece n, decimal_says n)

-- ---- lines one after the other
pub lines_back : (ls : List Line) → AllProper ls → lines_in (written ls) ≡ ls
unfolding lines_in written pieces
lines_back [] ok = refl
lines_back (l ∷ ls) ok =
    rw (line_body l (written ls), first_piece line_feed (body l) (written ls) (clear_body l))
    (ap₂ (λ x xs. x ∷ xs) (body_back l ok.0) (lines_back ls ok.1))
