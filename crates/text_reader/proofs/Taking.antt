-- Laws of reading words into lent memory. Assumes nothing.
use Rattle.std.proofs.Common.{◌≡◌, ℕ, suc, ◌+◌, ◌-◌, ◌*◌, ◌%◌, ◌^◌, ◌<◌, ◌≤◌, min, max, true, Result, Ok, Err, List, [], ◌∷◌, ◌++◌, map, length, get_or, take, drop, set, sym, refl, ap, ◌∙◌, subst, ⊎_elim, append_assoc, append-nil, add-one, arith, length-append, length-drop, length-set, length-take-le, drop-cons, take-suc, take-suc-set, take_at, drop_at, le-ltb, lt-ltb}
use mathlib.Core.List.{map-append}
use Rattle.lists.proofs.Tests.{lt_or_ge}
use Rattle.text.specs.Words.{Supply, parts, next_word, supply_from}
use Rattle.text.specs.declared.words.Word.{Word}
use Rattle.text.proofs.Letters.{next_is_bit}
use Rattle.text.proofs.Supplies.{word, refused as ended}
use Rattle.numbers.specs.Limits.{MOST_ATOMS, ROW_WORDS}
use Rattle.book.specs.Reading.{section, next as andNext, sections, got, refused}
use Rattle.text_reader.specs.Reads.{byte_of, Bit, BitIn, Took, Ended, WordsTook, WordsRead, SectionTook, SectionRead, BitsTook, BytesTook, BytesRead, StateTook, StateRead, BookTook, BookRead}
use Rattle.text_reader.specs.declared.Part.{Part}
use Rattle.numbers.specs.declared.Refusal.{Refusal}
use Rattle.numbers.specs.Refusals.{number_of}

-- ---- one word more
record Next (ws : List ℕ) (i w : ℕ) (rest : List ℕ) : Type 0 where
  pub there : i < length ws
  pub taken : take (i + 1) ws ≡ take i ws ++ w ∷ []
  pub left : drop (i + 1) ws ≡ rest

next_of : (ws : List ℕ) (i w : ℕ) (rest : List ℕ) → drop i ws ≡ w ∷ rest → Next ws i w rest
next_of ws i w rest e =
    let h : i < length ws = omega (arith, ap length e, length-drop i ws) in
    let d : get_or ws i 0 ∷ drop (suc i) ws ≡ w ∷ rest = sym (drop-cons ws i 0 h) ∙ e in
    let v : get_or ws i 0 ≡ w = cc in
    record { there = h; taken = rw add-one (take-suc ws i 0 h ∙ rw v); left = rw add-one (cc) }

-- i of `count` words are taken, and the next is looked for from `from` on
pub record Taking (input : List ℕ) (cursor count i from : ℕ) : Type 0 where
  pub low : i ≤ count
  pub took : Took input cursor i from

pub take_start : (input : List ℕ) (cursor count : ℕ) → Taking input cursor count 0 cursor
take_start input cursor count = record { low = omega arith; took = record { enough = omega arith; rest = refl } }

module _ {input : List ℕ} {cursor count i from : ℕ} (g : Taking input cursor count i from) where
  ahead : {w : Word} → next_word input from ≡ Ok w → Next (supply_from input cursor).words i w.number (supply_from input w.next).words
  ahead {w} e =
      let k = word input from e in
      next_of (supply_from input cursor).words i w.number (supply_from input w.next).words (sym (ap (λ (s : Supply). s.words) g.took.rest) ∙ ap (λ (s : Supply). s.words) k.gave)

  pub take_more : {w : Word} → next_word input from ≡ Ok w → i < count → Taking input cursor count (i + 1) w.next
  take_more {w} e h =
      let k = word input from e in
      let n = ahead e in
      let z : (supply_from input w.next).ending ≡ (supply_from input cursor).ending = sym (ap (λ (s : Supply). s.ending) k.gave) ∙ ap (λ (s : Supply). s.ending) g.took.rest in
      record {
        low = omega arith;
        took = record { enough = omega (arith, n.there); rest = rw (n.left, ← z) };
      }

  pub take_stop : {r : Refusal} → next_word input from ≡ Err r → i < count → Ended input cursor count (number_of r)
  take_stop {r} e h =
      let k = ended input from e in
      let l : drop i (supply_from input cursor).words ≡ [] = sym (ap (λ (s : Supply). s.words) g.took.rest) ∙ ap (λ (s : Supply). s.words) k in
      record {
        short = omega (arith, ap length l, length-drop i (supply_from input cursor).words, g.took.enough);
        ending = sym (ap (λ (s : Supply). s.ending) k) ∙ ap (λ (s : Supply). s.ending) g.took.rest;
      }

  pub take_done : count ≤ i → Took input cursor count from
  take_done h = let e : count ≡ i = omega (arith, g.low) in rw e g.took

-- ---- words, into a memory
pub record Standing (input : List ℕ) (cursor count : ℕ) (m₀ : List ℕ) (at : ℕ) (m : List ℕ) (i from : ℕ) : Type 0 where
  pub taking : Taking input cursor count i from
  pub size : length m ≡ length m₀
  pub stand : take (at + i) m ≡ take at m₀ ++ take i (supply_from input cursor).words

pub stand_start : (input : List ℕ) (cursor count : ℕ) (m : List ℕ) (at : ℕ) → Standing input cursor count m at m 0 cursor
stand_start input cursor count m at =
    let e : at + 0 ≡ at = omega arith in
    record { taking = take_start input cursor count; size = refl; stand = rw (e, append-nil) }

module _ {input : List ℕ} {cursor count : ℕ} {m₀ : List ℕ} {at : ℕ} {m : List ℕ} {i from : ℕ} (g : Standing input cursor count m₀ at m i from) where
  pub stand_more : {w : Word} → next_word input from ≡ Ok w → i < count → at + count ≤ length m₀ → Standing input cursor count m₀ at (set m (at + i) w.number) (i + 1) w.next
  stand_more {w} e h room =
      let n = ahead g.taking e in
      let k : at + i < length m = omega (arith, g.size) in
      let p : at + (i + 1) ≡ suc (at + i) = omega arith in
      record {
        taking = take_more g.taking e h;
        size = length-set m (at + i) w.number ∙ g.size;
        stand = rw p (take-suc-set m (at + i) w.number k ∙ rw (g.stand, n.taken, append_assoc));
      }

  pub stand_stop : {r : Refusal} → next_word input from ≡ Err r → i < count → Ended input cursor count (number_of r)
  stand_stop e h = take_stop g.taking e h

  pub stand_done : count ≤ i → WordsTook input cursor count m₀ at m (at + count) from
  stand_done h =
      let e : count ≡ i = omega (arith, g.taking.low) in
      record { took = take_done g.taking h; place = refl; stand = rw e g.stand }

-- ---- a state's words, as bytes
pub record Turning (input : List ℕ) (cursor count : ℕ) (m₀ m : List ℕ) (i from : ℕ) : Type 0 where
  pub taking : Taking input cursor count i from
  pub size : length m ≡ length m₀
  pub stand : take i m ≡ map byte_of (take i (supply_from input cursor).words)

pub turn_start : (input : List ℕ) (cursor count : ℕ) (m : List ℕ) → Turning input cursor count m m 0 cursor
turn_start input cursor count m = record { taking = take_start input cursor count; size = refl; stand = refl }

module _ {input : List ℕ} {cursor count : ℕ} {m₀ m : List ℕ} {i from : ℕ} (g : Turning input cursor count m₀ m i from) where
  pub turn_more : {w : Word} {v : ℕ} → next_word input from ≡ Ok w → v ≡ byte_of w.number → i < count → count ≤ length m₀ → Turning input cursor count m₀ (set m i v) (i + 1) w.next
  turn_more {w} {v} e f h room =
      let n = ahead g.taking e in
      let k : i < length m = omega (arith, g.size) in
      record {
        taking = take_more g.taking e h;
        size = length-set m i v ∙ g.size;
        stand = ap (λ (j : ℕ). take j (set m i v)) (add-one i) ∙ take-suc-set m i v k ∙ rw (g.stand, f, n.taken) (sym (map-append byte_of (take i (supply_from input cursor).words) (w.number ∷ [])));
      }

  pub turn_stop : {r : Refusal} → next_word input from ≡ Err r → i < count → Ended input cursor count (number_of r)
  turn_stop e h = take_stop g.taking e h

  pub turn_done : count ≤ i → BytesTook input cursor count m count from
  turn_done h =
      let e : count ≡ i = omega (arith, g.taking.low) in
      record { took = take_done g.taking h; place = refl; stand = rw e g.stand }

-- ---- as far as they are bits, two bytes of the text each
pub record Telling (input : List ℕ) (cursor count : ℕ) (m₀ m : List ℕ) (i from : ℕ) : Type 0 where
  pub turning : Turning input cursor count m₀ m i from
  pub place : from ≡ cursor + 2 * i
  pub parted : parts (get_or input from 0) ≡ true

pub tell_start : (input : List ℕ) (cursor count : ℕ) (m : List ℕ) → parts (get_or input cursor 0) ≡ true → Telling input cursor count m m 0 cursor
tell_start input cursor count m h = record { turning = turn_start input cursor count m; place = omega arith; parted = h }

bit_byte : (w : ℕ) → w ≤ 1 → w ≡ byte_of w
bit_byte w h = rw (le-ltb 1 w h)

module _ {input : List ℕ} {cursor count : ℕ} {m₀ m : List ℕ} {i from : ℕ} (g : Telling input cursor count m₀ m i from) where
  pub tell_more : i < count → count ≤ length m₀ → cursor + 2 * count < length input → 48 ≤ get_or input (from + 1) 0 → get_or input (from + 1) 0 ≤ 49 → parts (get_or input (from + 2) 0) ≡ true → Telling input cursor count m₀ (set m i (get_or input (from + 1) 0 - 48)) (i + 1) (from + 2)
  tell_more h room long low high q =
      let w = get_or input (from + 1) 0 - 48 in
      let e = next_is_bit input from (omega (arith, g.place)) g.parted low high q in
      record {
        turning = turn_more g.turning e (bit_byte w (omega arith)) h room;
        place = omega (arith, g.place);
        parted = q;
      }

  pub tell_done : cursor + 2 * count < length input → BitsTook input cursor count m i
  tell_done long = record { low = g.turning.taking.low; within = omega (arith, g.turning.taking.low); took = rw (← g.place) g.turning.taking.took; stand = g.turning.stand }

-- the same of all words, told at the end: `most` is the largest bit, or what is none
pub record Telling_all (input : List ℕ) (cursor count : ℕ) (m₀ m : List ℕ) (most i : ℕ) : Type 0 where
  pub low : i ≤ count
  pub size : length m ≡ length m₀
  pub told : most < 2 → Telling input cursor count m₀ m i (cursor + 2 * i)

pub all_start : (input : List ℕ) (cursor count : ℕ) (m : List ℕ) → parts (get_or input cursor 0) ≡ true → Telling_all input cursor count m m 0 0
all_start input cursor count m h =
    let e : cursor + 2 * 0 ≡ cursor = omega arith in
    record { low = omega arith; size = refl; told = λ _. rw e (tell_start input cursor count m h) }

module _ {input : List ℕ} {cursor count : ℕ} {m₀ m : List ℕ} {most i : ℕ} (g : Telling_all input cursor count m₀ m most i) where
  pub all_more : {b v most' : ℕ} → i < count → count ≤ length m₀ → cursor + 2 * count < length input → (b < 2 → Bit (get_or input (cursor + 2 * i + 1) 0) b × (parts (get_or input (cursor + 2 * i + 2) 0) ≡ true)) → v ≡ b % 256 → most' ≡ max most b → Telling_all input cursor count m₀ (set m i v) most' (i + 1)
  all_more {b} {v} {most'} h room long is_bit low top =
      record {
        low = omega arith;
        size = length-set m i v ∙ g.size;
        told = λ few.
            let t = is_bit (omega arith) in
            let same : v ≡ get_or input (cursor + 2 * i + 1) 0 - 48 = omega (arith, t.0.value) in
            let e : cursor + 2 * (i + 1) ≡ cursor + 2 * i + 2 = omega arith in
            rw (e, same) (tell_more (g.told (omega arith)) h room long t.0.low t.0.high t.1);
      }

  pub all_done : most < 2 → count ≤ i → cursor + 2 * count < length input → BitsTook input cursor count m count
  all_done few h long =
      let e : count ≡ i = omega (arith, g.low) in
      subst (λ (n : ℕ). BitsTook input cursor count m n) (sym e) (tell_done (g.told few) long)

-- two bytes that are no distance upwards, but for a bit, around 2 ^ 16, from the one pair or the other
unwrapped : (a n : ℕ) → a < 2 ^ 16 → a % 2 ^ 16 ≡ n → n ≡ a
unwrapped a n h e = omega arith

under : (x near : ℕ) → near ≡ min x 8194 → near < 8194 → x ≡ near
under x near e h = omega arith

both : (low high t n : ℕ) → low < 256 → t < 2 → low + 256 * high ≡ t + 256 * n + 48 → (low ≡ 48 + t) × (high ≡ n)
both low high t n l h e = (omega arith, omega arith)

said : (low high w x near n t : ℕ) → low < 256 → w ≡ low + 256 * high → (x + 48) % 2 ^ 16 ≡ w → near ≡ min x 8194 → t < 2 → n ≤ 32 → near ≡ t + 256 * n → (low ≡ 48 + t) × (high ≡ n)
said low high w x near n t l p q m h few e =
    let a : x ≡ near = under x near m (omega (arith, e, h, few)) in
    let b : w ≡ x + 48 = unwrapped (x + 48) w (omega (arith, a, e, h, few)) q in
    both low high t n l h (sym p ∙ b ∙ ap (λ (k : ℕ). k + 48) (a ∙ e))

bit_said : {low t : ℕ} → low ≡ 48 + t → t < 2 → Bit low t
bit_said e h = record { low = omega arith; high = omega arith; value = omega arith }

is_bit : (low high w x near d e r : ℕ) → low < 256 → w ≡ low + 256 * high → (x + 48) % 2 ^ 16 ≡ w → near ≡ min x 8194 → (d + 2560) % 2 ^ 16 ≡ near → (e + 8192) % 2 ^ 16 ≡ near → r ≡ min d e → r < 2 → Bit low r × (parts high ≡ true)
unfolding parts
is_bit low high w x near d e r l p q n f s m z = ⊎_elim fed spaced (lt_or_ge d e)
  where
    fed : d < e → Bit low r × (parts high ≡ true)
    fed k =
        let same : r ≡ d = omega (arith, m, k) in
        let t = said low high w x near 10 r l p q n z (omega arith) (unwrapped (d + 2560) near (omega (arith, same, z)) f ∙ ap (λ (i : ℕ). i + 2560) (sym same)) in
        (bit_said t.0 z, rw t.1)

    spaced : e ≤ d → Bit low r × (parts high ≡ true)
    spaced k =
        let same : r ≡ e = omega (arith, m, k) in
        let t = said low high w x near 32 r l p q n z (omega arith) (unwrapped (e + 8192) near (omega (arith, same, z)) s ∙ ap (λ (i : ℕ). i + 8192) (sym same)) in
        (bit_said t.0 z, rw t.1)

pub bit_in : (w x near d e r : ℕ) → (x + 48) % 2 ^ 16 ≡ w → near ≡ min x 8194 → (d + 2560) % 2 ^ 16 ≡ near → (e + 8192) % 2 ^ 16 ≡ near → r ≡ min d e → BitIn w r
bit_in w x near d e r q n f s m = record { told = λ low high l p. is_bit low high w x near d e r l p q n f s m }

pub tell_none : (input : List ℕ) (cursor count : ℕ) (m : List ℕ) → BitsTook input cursor count m 0
tell_none input cursor count m =
    let e : cursor + 2 * 0 ≡ cursor = omega arith in
    record { low = omega arith; within = omega arith; took = rw e (take_start input cursor count).took; stand = refl }

pub turn_told : {input : List ℕ} {cursor count : ℕ} {m : List ℕ} {i : ℕ} → BitsTook input cursor count m i → Turning input cursor count m m i (cursor + 2 * i)
turn_told b = record { taking = record { low = b.low; took = b.took }; size = refl; stand = b.stand }

pub room_kept : {count size size' : ℕ} → count ≤ size → size' ≡ size → count ≤ size'
room_kept h e = rw e h

-- ---- a section
module _ (input : List ℕ) (cursor limit size : ℕ) where
  pub section_none : {r : Refusal} → next_word input cursor ≡ Err r → section (supply_from input cursor).ending limit size (supply_from input cursor).words ≡ refused (number_of r)
  unfolding section
  section_none e = rw (ended input cursor e)

  module _ {count : Word} (e : next_word input cursor ≡ Ok count) where
    pub section_over : limit < count.number → section (supply_from input cursor).ending limit size (supply_from input cursor).words ≡ refused 2
    unfolding section
    section_over h = rw ((word input cursor e).gave, lt-ltb limit count.number h)

    pub section_short : {r : ℕ} → count.number ≤ limit → Ended input count.next (size * count.number) r → section (supply_from input cursor).ending limit size (supply_from input cursor).words ≡ refused r
    unfolding section
    section_short h k = rw ((word input cursor e).gave, le-ltb limit count.number h, lt-ltb (length (supply_from input count.next).words) (size * count.number) k.short, k.ending)

    pub section_whole : {next : ℕ} → count.number ≤ limit → Took input count.next (size * count.number) next → section (supply_from input cursor).ending limit size (supply_from input cursor).words ≡ got (take (size * count.number) (supply_from input count.next).words) (supply_from input next).words
    unfolding section
    section_whole h k = rw ((word input cursor e).gave, le-ltb limit count.number h, le-ltb (length (supply_from input count.next).words) (size * count.number) k.enough, k.rest)

    pub section_on : {next : ℕ} → Took input count.next (size * count.number) next → (supply_from input next).ending ≡ (supply_from input cursor).ending
    section_on k = rw ((word input cursor e).gave, k.rest)

    pub section_took : {m m' : List ℕ} {at end next : ℕ} → count.number ≤ limit → at < length m → WordsTook input count.next (size * count.number) (set m at count.number) (at + 1) m' end next → SectionTook input cursor limit size m at m' end next
    section_took {m} {m'} {at} h room k =
        record {
          count = count.number;
          items = take (size * count.number) (supply_from input count.next).words;
          read = section_whole h k.took;
          ending = section_on k.took;
          few = h;
          counted = length-take-le (size * count.number) (supply_from input count.next).words k.took.enough;
          place = k.place;
          stand = k.stand ∙ rw (add-one, take-suc-set m at count.number room, append_assoc);
        }

-- ---- a state
module _ (input : List ℕ) (cursor : ℕ) {count : Word} (e : next_word input cursor ≡ Ok count) (few : count.number ≤ MOST_ATOMS) where
  one : 1 * count.number ≡ count.number
  one = omega arith

  pub state_took : {m' : List ℕ} {end next : ℕ} → BytesTook input count.next count.number m' end next → StateTook input cursor m' end next
  state_took {m'} {end} {next} k =
      let t : Took input count.next (1 * count.number) next = rw one k.took in
      record {
        words = take count.number (supply_from input count.next).words;
        read = section_whole input cursor MOST_ATOMS 1 e few t ∙ rw one;
        ending = section_on input cursor MOST_ATOMS 1 e t;
        place = omega (arith, k.place);
        stand = rw k.place k.stand;
      }

  pub state_short : {r : ℕ} → Ended input count.next count.number r → section (supply_from input cursor).ending MOST_ATOMS 1 (supply_from input cursor).words ≡ refused r
  state_short k = section_short input cursor MOST_ATOMS 1 e few (rw one k)

-- ---- by what was read
pub section_read : (input : List ℕ) (cursor limit size : ℕ) (m : List ℕ) (at : ℕ) (m' : List ℕ) (r : Result Part Refusal) {count : Word} → next_word input cursor ≡ Ok count → count.number ≤ limit → at < length m → WordsRead input count.next (size * count.number) (set m at count.number) (at + 1) m' r → SectionRead input cursor limit size m at m' r
unfolding WordsRead SectionRead
section_read input cursor limit size m at m' (Ok p) e h room k = section_took input cursor limit size e h room k
section_read input cursor limit size m at m' (Err n) e h room k = section_short input cursor limit size e h k

pub state_read : (input : List ℕ) (cursor : ℕ) (m' : List ℕ) (r : Result Part Refusal) {count : Word} → next_word input cursor ≡ Ok count → count.number ≤ MOST_ATOMS → BytesRead input count.next count.number m' r → StateRead input cursor m' r
unfolding BytesRead StateRead
state_read input cursor m' (Ok p) e h k = state_took input cursor e h k
state_read input cursor m' (Err n) e h k = state_short input cursor e h k

-- ---- the book
-- a section that stands in words is read from them again
section_back : (limit size count : ℕ) (items rest : List ℕ) → count ≤ limit → length items ≡ size * count → section 1 limit size (count ∷ items ++ rest) ≡ got items rest
unfolding section
section_back limit size count items rest h e =
    let k : size * count ≤ length (items ++ rest) = omega (arith, length-append items rest) in
    rw (le-ltb limit count h, le-ltb (length (items ++ rest)) (size * count) k, take_at items rest (size * count) e, drop_at items rest (size * count) e)

pub section_is : (input : List ℕ) (cursor limit size : ℕ) (m : List ℕ) (at : ℕ) (m' : List ℕ) {r : Result Part Refusal} {p : Part} → SectionRead input cursor limit size m at m' r → r ≡ Ok p → SectionTook input cursor limit size m at m' p.end p.next
unfolding SectionRead
section_is input cursor limit size m at m' k e = rw e at k

section_not : (input : List ℕ) (cursor limit size : ℕ) (m : List ℕ) (at : ℕ) (m' : List ℕ) {r : Result Part Refusal} {n : Refusal} → SectionRead input cursor limit size m at m' r → r ≡ Err n → section (supply_from input cursor).ending limit size (supply_from input cursor).words ≡ refused (number_of n)
unfolding SectionRead
section_not input cursor limit size m at m' k e = rw e at k

book_not : (input m' : List ℕ) {r : Result Part Refusal} {n : Refusal} → r ≡ Err n → sections (supply_from input 0).ending (supply_from input 0).words ≡ refused (number_of n) → BookRead input m' r
unfolding BookRead
book_not input m' e k = rw e k

pub no_rows : (input m m₁ : List ℕ) {r : Result Part Refusal} {n : Refusal} → SectionRead input 0 128 ROW_WORDS m 0 m₁ r → r ≡ Err n → BookRead input m₁ r
unfolding sections andNext
no_rows input m m₁ k e = book_not input m₁ e (rw (section_not input 0 128 ROW_WORDS m 0 m₁ k e))

module _ {input m m₁ : List ℕ} {a i : ℕ} (rows : SectionTook input 0 128 ROW_WORDS m 0 m₁ a i) where
  pub no_operands : (m₂ : List ℕ) {r : Result Part Refusal} {n : Refusal} → SectionRead input i 128 1 m₁ a m₂ r → r ≡ Err n → BookRead input m₂ r
  unfolding sections andNext
  no_operands m₂ k e =
      let s = rw rows.ending at (section_not input i 128 1 m₁ a m₂ k e) in
      book_not input m₂ e (rw (rows.read, s))

  module _ {m₂ : List ℕ} {b j : ℕ} (operands : SectionTook input i 128 1 m₁ a m₂ b j) where
    second : section (supply_from input 0).ending 128 1 (supply_from input i).words ≡ got operands.items (supply_from input j).words
    second = rw rows.ending at operands.read

    pub no_assumes : (m₃ : List ℕ) {r : Result Part Refusal} {n : Refusal} → SectionRead input j 16 1 m₂ b m₃ r → r ≡ Err n → BookRead input m₃ r
    unfolding sections andNext
    no_assumes m₃ k e =
        let s = rw (operands.ending, rows.ending) at (section_not input j 16 1 m₂ b m₃ k e) in
        book_not input m₃ e (rw (rows.read, second, s))

    module _ {m₃ : List ℕ} {c k : ℕ} (assumes : SectionTook input j 16 1 m₂ b m₃ c k) where
      third : section (supply_from input 0).ending 16 1 (supply_from input j).words ≡ got assumes.items (supply_from input k).words
      third = rw (operands.ending, rows.ending) at assumes.read

      no_guarantees : (m₄ : List ℕ) (n : Refusal) → SectionRead input k 16 1 m₃ c m₄ (Err n) → BookRead input m₄ (Err n)
      unfolding sections andNext
      no_guarantees m₄ n q =
          let s = rw (assumes.ending, operands.ending, rows.ending) at (section_not input k 16 1 m₃ c m₄ q refl) in
          book_not input m₄ refl (rw (rows.read, second, third, s))

      module _ {m₄ : List ℕ} {end next : ℕ} (guarantees : SectionTook input k 16 1 m₃ c m₄ end next) where
        fourth : section (supply_from input 0).ending 16 1 (supply_from input k).words ≡ got guarantees.items (supply_from input next).words
        fourth = rw (assumes.ending, operands.ending, rows.ending) at guarantees.read

        abbrev last : List ℕ
        last = guarantees.count ∷ guarantees.items

        abbrev from_assumes : List ℕ
        from_assumes = assumes.count ∷ assumes.items ++ last

        abbrev from_operands : List ℕ
        from_operands = operands.count ∷ operands.items ++ from_assumes

        words : take end m₄ ≡ rows.count ∷ rows.items ++ from_operands
        words =
            guarantees.stand ∙ rw (assumes.stand, operands.stand, rows.stand)
            (append_assoc (rows.count ∷ rows.items ++ operands.count ∷ operands.items) (assumes.count ∷ assumes.items) (guarantees.count ∷ guarantees.items)
            ∙ append_assoc (rows.count ∷ rows.items) (operands.count ∷ operands.items) (assumes.count ∷ assumes.items ++ guarantees.count ∷ guarantees.items))

        last_back : section 1 16 1 last ≡ got guarantees.items []
        last_back = ap (section 1 16 1) (sym (append-nil last)) ∙ section_back 16 1 guarantees.count guarantees.items [] guarantees.few guarantees.counted

        pub book_took : 676 ≤ length m₄ → BookTook input m₄ end next
        unfolding sections andNext
        book_took room =
            record {
              given = record { rows = rows.items; operands = operands.items; assumes = assumes.items; guarantees = guarantees.items };
              read = rw (rows.read, second, third, fourth);
              ending = guarantees.ending ∙ assumes.ending ∙ operands.ending ∙ rows.ending;
              place = omega (arith, rows.place, rows.few, operands.place, operands.few, assumes.place, assumes.few, guarantees.place, guarantees.few);
              stand = rw (
                words,
                section_back 128 ROW_WORDS rows.count rows.items from_operands rows.few rows.counted,
                section_back 128 1 operands.count operands.items from_assumes operands.few operands.counted,
                section_back 16 1 assumes.count assumes.items last assumes.few assumes.counted,
                last_back,
              );
            }

      pub book_read : (m₄ : List ℕ) (r : Result Part Refusal) → 676 ≤ length m₄ → SectionRead input k 16 1 m₃ c m₄ r → BookRead input m₄ r
      unfolding SectionRead BookRead
      book_read m₄ (Ok p) room q = book_took q room
      book_read m₄ (Err n) room q = no_guarantees m₄ n q
