-- What loading, in each of its ways, and the calls promise over any list of calls: the memory holds the definitions' monitor after those calls, so
-- that the demands hold of the answers that the code hands back. The history is that of the way of monitoring: of the accepted calls, or with a
-- time call put in at every instant between. Nothing is assumed.
use Prim.Native.Nat.{ℕ, suc, ◌≤◌, ◌<◌}
use mathlib.Core.Path.{◌≡◌, sym, ap, ap₂, subst, ◌∙◌}
use native.Mathlib.Omega.{arith}
use mathlib.Core.Logic.{◌↔◌, ⊎_elim}
use mathlib.Core.Bool.{Bool, true, not}
use mathlib.Core.List.{List, ◌∷◌, ◌++◌}
use lib.ListN.{get_or}
use Rattle.numbers.specs.Refusals.{ACCEPTED}
use Rattle.lists.proofs.Tests.{lt_or_ge}
use Rattle.numset.specs.Runs.{has, kept}
use Rattle.ring.specs.Ring.{ringed, turn_after}
use Rattle.ring.proofs.Turns.{turn_still}
use Rattle.pmtl.specs.Answer.{known}
use Rattle.pmtl.specs.Book.{Range, map_row, Rows, Book, property_at, row_at}
use Rattle.pmtl.specs.Book.Row.{historically, once, since}
use Rattle.pmtl.specs.Monitor.{State, set_at, fullest, value}
use Rattle.pmtl.specs.Early.{early}
use Rattle.pmtl.specs.Settled.{settled}
use Rattle.pmtl.specs.Calls.{Call, Outcome, call, after_in}
use Rattle.pmtl.specs.Again.{unchanged}
use Rattle.pmtl.specs.Meaning.{instants, meaning}
use Rattle.pmtl.specs.Past.{run, held, SomeCall, SinceCall}
use Rattle.pmtl.proofs.EachRun.{none_before_kept}
use Rattle.pmtl.proofs.Doubled.{doubled as doubled-call}
use Rattle.lasts.specs.Lasting.{history_in}
use Rattle.lasts.proofs.Loaded.{words_fit}
use Rattle.lasts.proofs.EitherWay.{value_is as value_in, early_is as early_in_lem, settled_is as settled_in, count_is as count-in, sets_are_instants as sets-in, demand_2 as means, demand_3 as stays, once_holds as once-means, historically_holds as historically-means, since_holds as since-means, never_eleven as strict-never, no_older_run as older}
use Rattle.ledger.specs.Ledger.{LAST_COUNTED, Ledger, next, ledger_in}
use Rattle.ledger.proofs.Noted.{next_accepted}
use Rattle.memory.specs.Layout.{FULLEST, LEDGER}
use Rattle.memory.specs.Memory.{clock_of, temporals, owner_at, slot_words, turn_at, book_of, state_of, ledger_of}
use Rattle.memory.specs.Kept.{Kept}
use Rattle.memory.proofs.Sets.{owner_set}
use Rattle.memory.proofs.Same.{clock_in, same_temporals, same_below, same_words}
use Rattle.property_answers.specs.declared.Verdict.{Verdict}
use Rattle.property_answers.specs.Verdict.{verdict_in, verdict_of}
use Rattle.calls.specs.Called.{Called}
use Rattle.book.specs.declared.loading.Loading.{Loading}
use Rattle.book.specs.Judging.{loaded}
use Rattle.book.specs.Strict.{strictly}
use Rattle.book.specs.Loading.{way_in}
use Rattle.book.proofs.Admitted.{admitted_strict}
use Rattle.oracle.specs.Made.{Made, book_said}
use Rattle.oracle.specs.Made.Made.{loads, calls}

-- load and the calls leave memories that the next call may be made on
pub made_kept : {way : Loading} {words : List ℕ} {ks : List Call} {m : List ℕ} → Made way words ks m → Kept m
made_kept (loads l) = l.kept
made_kept (calls k made c) = c.kept

-- the memory holds the book that was loaded
pub made_book : {way : Loading} {words : List ℕ} {ks : List Call} {m : List ℕ} → Made way words ks m → book_of m ≡ book_said way words
made_book (loads l) = l.book
made_book (calls k made c) = c.book ∙ made_book made

-- and the definitions' state after those calls
pub made_state : {way : Loading} {words : List ℕ} {ks : List Call} {m : List ℕ} → Made way words ks m → state_of m ≡ after_in (way_in way) (book_said way words).rows ks
unfolding after_in
made_state (loads l) = l.state
made_state (calls k made c) =
    c.state ∙ ap₂ (λ (b : Book) (st : State). (call b.rows st k).state) (made_book made) (made_state made)

-- and the ledger of those calls
next_same : (k : Call) {b b' : Book} {st st' : State} {l l' : Ledger} → b ≡ b' → st ≡ st' → l ≡ l' → next b (call b.rows st k) l ≡ next b' (call b'.rows st' k) l'
next_same k eb es el = cc

pub made_ledger : {way : Loading} {words : List ℕ} {ks : List Call} {m : List ℕ} → Made way words ks m → ledger_of m ≡ ledger_in (way_in way) (book_said way words) ks
unfolding ledger_in
made_ledger (loads l) = l.ledger
made_ledger (calls k made c) =
    c.ledger ∙ next_same k (made_book made) (made_state made) (made_ledger made)

-- a call handed back the definitions' number
pub made_number : {way : Loading} {words : List ℕ} {ks : List Call} {m m' : List ℕ} {k : Call} {r : ℕ} → Made way words ks m → Called k m m' r
    → r ≡ (call (book_said way words).rows (after_in (way_in way) (book_said way words).rows ks) k).number
made_number {k = k} made c = c.number ∙ ap₂ (λ (b : Book) (st : State). (call b.rows st k).number) (made_book made) (made_state made)

-- the count that it handed back is that of the definitions' state after it
pub made_count : {way : Loading} {words : List ℕ} {ks : List Call} {m m' : List ℕ} {k : Call} {r count : ℕ} → Made way words ks m → Called k m m' r → count ≡ fullest (state_of m')
    → count ≡ fullest (after_in (way_in way) (book_said way words).rows (k ∷ ks))
made_count {k = k} made c e = e ∙ ap fullest (made_state (calls k made c))

-- the answers of property i are the definitions'
pub made_verdict : {way : Loading} {words : List ℕ} {ks : List Call} {m : List ℕ} → Made way words ks m → (i : ℕ) → verdict_of m i ≡ verdict_in (book_said way words) (after_in (way_in way) (book_said way words).rows ks) i
made_verdict made i = ap₂ (λ (b : Book) (st : State). verdict_in b st i) (made_book made) (made_state made)

-- so is the clock
pub made_clock : {way : Loading} {words : List ℕ} {ks : List Call} {m : List ℕ} → Made way words ks m → clock_of m ≡ (after_in (way_in way) (book_said way words).rows ks).now.clock
unfolding state_of
made_clock made = ap (λ (st : State). st.now.clock) (made_state made)

-- and so are the three answers of a property, each by itself
module _ {way : Loading} {words : List ℕ} {ks : List Call} {m : List ℕ} (made : Made way words ks m) (i : ℕ) where
  pub value_is : (verdict_of m i).value ≡ value (book_said way words).rows (after_in (way_in way) (book_said way words).rows ks) (property_at (book_said way words) i)
  unfolding verdict_in
  value_is = ap (λ (v : Verdict). v.value) (made_verdict made i)

  pub early_is : (verdict_of m i).early ≡ early (book_said way words).rows (after_in (way_in way) (book_said way words).rows ks) (property_at (book_said way words) i)
  unfolding verdict_in
  early_is = ap (λ (v : Verdict). v.early) (made_verdict made i)

  pub settled_is : (verdict_of m i).settled ≡ settled (book_said way words).rows (after_in (way_in way) (book_said way words).rows ks) (property_at (book_said way words) i)
  unfolding verdict_in
  settled_is = ap (λ (v : Verdict). v.settled) (made_verdict made i)

-- THE DEFINITION of the way: what is handed back of a property is what the ordinary monitor answers on the history of the way
pub answers_are : {way : Loading} {words : List ℕ} {ks : List Call} {m : List ℕ} → Made way words ks m → (i : ℕ)
    → verdict_of m i ≡ verdict_in (book_said way words) (run (book_said way words).rows (history_in (way_in way) (book_said way words).rows ks)) i
unfolding verdict_in
answers_are {way} {words} {ks} made i =
    let b : Book = book_said way words in
    let fit = words_fit way words in
    let r : ℕ = property_at b i in
    made_verdict made i
    ∙ (λ j. record {
      value = value_in (way_in way) b.rows fit ks r j;
      early = early_in_lem (way_in way) b.rows fit ks r j;
      settled = settled_in (way_in way) b.rows fit ks r j;
    })

-- so is the count
pub count_is : {way : Loading} {words : List ℕ} {ks : List Call} {m : List ℕ} → Made way words ks m
    → fullest (state_of m) ≡ fullest (run (book_said way words).rows (history_in (way_in way) (book_said way words).rows ks))
count_is {way} {words} {ks} made = ap fullest (made_state made) ∙ count-in (way_in way) (book_said way words).rows (words_fit way words) ks

-- and each set in the memory has, from its clock on, the instants that REFERENCE 3.5 defines from that history
pub sets_are_instants : {way : Loading} {words : List ℕ} {ks : List Call} {m : List ℕ} → Made way words ks m → (r t : ℕ) → clock_of m ≤ t
    → has (set_at (state_of m) r) t ≡ instants (map_row (meaning (book_said way words).rows) (row_at (book_said way words).rows r)) (history_in (way_in way) (book_said way words).rows ks) t
sets_are_instants {way} {words} {ks} made r t h =
    ap (λ (st : State). has (set_at st r) t) (made_state made)
    ∙ sets-in (way_in way) (book_said way words).rows (words_fit way words) ks r t (rw (← made_clock made) h)

-- DEMAND 2: the value handed back of a property is what its row means on the history of the way
pub demand_2 : {way : Loading} {words : List ℕ} {ks : List Call} {m : List ℕ} → Made way words ks m → (i : ℕ)
    → (verdict_of m i).value ≡ meaning (book_said way words).rows (property_at (book_said way words) i) (history_in (way_in way) (book_said way words).rows ks)
demand_2 {way} {words} {ks} made i =
    value_is made i ∙ means (way_in way) (book_said way words).rows (words_fit way words) ks (property_at (book_said way words) i)

-- DEMAND 3: if settled is handed back true or false, then now and after every further list of calls the value handed back is that, and settled is that
pub demand_3 : {way : Loading} {words : List ℕ} {ks : List Call} {m : List ℕ} → Made way words ks m → (i : ℕ) (x : Bool) → (verdict_of m i).settled ≡ known x
    → (more : List Call) {m' : List ℕ} → Made way words (more ++ ks) m' → ((verdict_of m' i).value ≡ x) × ((verdict_of m' i).settled ≡ known x)
demand_3 {way} {words} {ks} made i x e more later =
    let b : Book = book_said way words in
    let s = stays (way_in way) b.rows (words_fit way words) ks (property_at b i) more x (sym (settled_is made i) ∙ e) in
    (value_is later i ∙ s.0, settled_is later i ∙ s.1)

-- IT NEVER RUNS OUT: from strict loading on, whatever the words, no call is ever answered 11, refused ones among those before it
pub never_eleven : {way : Loading} → strictly way ≡ true → {words : List ℕ} {ks : List Call} {m m' : List ℕ} {k : Call} {r : ℕ} → Made way words ks m → Called k m m' r → ¬ (r ≡ 11)
never_eleven {way} strict {words} {ks} {k = k} made c e =
    strict-never (way_in way) (book_said way words).rows (words_fit way words) (admitted_strict way strict (loaded words)) ks k (sym (made_number made c) ∙ e)

-- ---- demand 2 in words: of a property whose row is temporal, and the clock that the memory has
module _ {way : Loading} {words : List ℕ} {ks : List Call} {m : List ℕ} (made : Made way words ks m) (i : ℕ) where
  -- Once is handed back true exactly if its argument held after some accepted call whose range, counted from that call, contains now
  pub once_holds : (g : Range) (o : ℕ) → row_at (book_said way words).rows (property_at (book_said way words) i) ≡ once g o
      → ((verdict_of m i).value ≡ true)
      ↔ SomeCall (book_said way words).rows g (held (book_said way words).rows o) (history_in (way_in way) (book_said way words).rows ks) (clock_of m)
  once_holds g o e =
      rw (value_is made i, made_clock made) (once-means (way_in way) (book_said way words).rows (words_fit way words) ks (property_at (book_said way words) i) g o e)

  -- Historically exactly if its argument failed after no such call
  pub historically_holds : (g : Range) (o : ℕ) → row_at (book_said way words).rows (property_at (book_said way words) i) ≡ historically g o
      → ((verdict_of m i).value ≡ true)
      ↔ ¬ (SomeCall (book_said way words).rows g (λ past. not (held (book_said way words).rows o past)) (history_in (way_in way) (book_said way words).rows ks) (clock_of m))
  historically_holds g o e =
      rw (value_is made i, made_clock made) (historically-means (way_in way) (book_said way words).rows (words_fit way words) ks (property_at (book_said way words) i) g o e)

  -- Since exactly if right held after some such call and left after every later one
  pub since_holds : (g : Range) (left right : ℕ) → row_at (book_said way words).rows (property_at (book_said way words) i) ≡ since g left right
      → ((verdict_of m i).value ≡ true)
      ↔ SinceCall (book_said way words).rows g (held (book_said way words).rows left) (held (book_said way words).rows right) (history_in (way_in way) (book_said way words).rows ks) (clock_of m)
  since_holds g left right e =
      rw (value_is made i, made_clock made) (since-means (way_in way) (book_said way words).rows (words_fit way words) ks (property_at (book_said way words) i) g left right e)

-- ---- where the rings begin
-- nothing has lapsed in a set that calls left, so its ring begins where it would once that was dropped
made_turn : {way : Loading} {words : List ℕ} {ks : List Call} {m : List ℕ} → Made way words ks m → (j : ℕ) → j < temporals m → turn_at m j ≡ turn_after (clock_of m) (slot_words m j)
unfolding state_of
made_turn {way} {words} {ks} {m} made j h =
    let kept-now = made_kept made in
    let few = kept-now.sound.book.temporal_few in
    let b : Rows = (book_said way words).rows in
    let own : ringed (slot_words m j) ≡ set_at (after_in (way_in way) b ks) (owner_at m j) = sym (owner_set m kept-now.sound j h) ∙ ap (λ (st : State). set_at st (owner_at m j)) (made_state made) in
    turn_still (slot_words m j) (clock_of m) (kept-now.sound.sets j (omega arith)).turn
    (ap₂ kept (made_clock made) own ∙ none_before_kept (after_in (way_in way) b ks).now.clock (set_at (after_in (way_in way) b ks) (owner_at m j)) (older (way_in way) b (words_fit way words) ks (owner_at m j)) ∙ sym own)

-- ---- what is allowed for one input coincides
-- a call on a memory has one answer and leaves one memory
pub called_unique : {k : Call} {m m' m'' : List ℕ} {r q : ℕ} → Called k m m' r → Called k m m'' q → (r ≡ q) × (m' ≡ m'')
called_unique {k} {m} {m'} {m''} {r} {q} c d =
    let number = c.number ∙ sym d.number in
    let book = c.book ∙ sym d.book in
    let state = c.state ∙ sym d.state in (
      number,
      ⊎_elim
          (λ (z : r < 1).
          let slots = same_temporals m' m'' c.kept.sound d.kept.sound book in
          same_words m' m'' c.kept d.kept book state
          (λ j h.
          (c.turned (omega arith)).turns j h
          ∙ ap (λ (x : ℕ). turn_after x (slot_words m j)) (clock_in m' m'' state)
          ∙ sym ((d.turned (omega arith)).turns j (omega arith)))
          (c.ledger ∙ sym d.ledger))
          (λ (z : 1 ≤ r). c.refused (omega arith) ∙ sym (d.refused (omega arith)))
          (lt_or_ge r 1),
    )

-- so have words loaded and any list of calls
pub made_unique : {way : Loading} {words : List ℕ} {ks : List Call} {m m' : List ℕ} → Made way words ks m → Made way words ks m' → m ≡ m'
made_unique {m = m} {m'} (loads a) (loads b) =
    let few = a.kept.sound.book.temporal_few in
    same_words m m' a.kept b.kept (a.book ∙ sym b.book) (a.state ∙ sym b.state) (λ j h. a.turns j (omega arith) ∙ sym (b.turns j (omega arith))) (a.ledger ∙ sym b.ledger)
made_unique {m = m} {m'} (calls k a c) (calls _ {r = q} b d) = (called_unique c (subst (λ (x : List ℕ). Called k x m' q) (sym (made_unique a b)) d)).1

-- ---- a call that changes nothing but the ledger
-- where the definitions' call leaves their state as it is, the call hands back 0 and leaves the memory, word for word up to the ledger
pub stays_word_for_word : {way : Loading} {words : List ℕ} {ks : List Call} {m m' : List ℕ} {k : Call} {r : ℕ} → Made way words ks m → Called k m m' r
    → call (book_said way words).rows (after_in (way_in way) (book_said way words).rows ks) k ≡ unchanged (after_in (way_in way) (book_said way words).rows ks)
    → (r ≡ ACCEPTED) × ((i : ℕ) → i < LEDGER → get_or m' i 0 ≡ get_or m i 0)
unfolding after_in
stays_word_for_word {m = m} {m' = m'} {k = k} made c e =
    let state_is = made_state (calls k made c) ∙ ap (λ (o : Outcome). o.state) e ∙ sym (made_state made) in
    let number = made_number made c ∙ ap (λ (o : Outcome). o.number) e in
    let slots = same_temporals m' m c.kept.sound (made_kept made).sound c.book in (
      number,
      same_below m' m c.kept (made_kept made) c.book state_is
          (λ j h. (c.turned number).turns j h ∙ ap (λ (x : ℕ). turn_after x (slot_words m j)) (clock_in m' m state_is) ∙ sym (made_turn made j (omega arith))),
    )

-- DOUBLED: an accepted call made again at once with the same content hands back 0 and the same count, and the memory stays, word for word up to the
-- ledger
module _ {way : Loading} {words : List ℕ} {ks : List Call} {m m' m'' : List ℕ} {k : Call} {r q : ℕ} (made : Made way words ks m) (first : Called k m m' r) (taken : r ≡ ACCEPTED) (second : Called k m' m'' q) where
  pub doubled : (q ≡ ACCEPTED) × ((i : ℕ) → i < LEDGER → get_or m'' i 0 ≡ get_or m' i 0)
  doubled =
      stays_word_for_word (calls k made first) second
      (doubled-call (way_in way) (book_said way words).rows (words_fit way words).ordered ks k (sym (made_number made first) ∙ taken))

  pub doubled_count : {count again : ℕ} → count ≡ fullest (state_of m') → again ≡ fullest (state_of m'') → again ≡ count
  doubled_count e e' = e' ∙ sym second.kept.tables.counts.right ∙ doubled.1 FULLEST (omega arith) ∙ first.kept.tables.counts.right ∙ sym e

  -- in the ledger it is a call of its own, and one more that was accepted
  pub doubled_is_counted : (ledger_of m').number < LAST_COUNTED → ((ledger_of m'').number ≡ suc (ledger_of m').number) × ((ledger_of m'').accepted ≡ suc (ledger_of m').accepted)
  doubled_is_counted h =
      let o = call (book_of m').rows (state_of m') k in
      let e = second.ledger ∙ next_accepted (book_of m') o (ledger_of m') h (sym second.number ∙ doubled.0) in
      (ap (λ (l : Ledger). l.number) e, ap (λ (l : Ledger). l.accepted) e)
