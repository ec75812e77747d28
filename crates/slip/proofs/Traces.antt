-- A call that leaves the state as it was, as a refused one does, leaves no trace in the other lines of calls: they are those of the text without it; a
-- refused one none in the summaries, either, but for the numbers of calls. Assumes nothing.
use Prim.Native.Nat.{ℕ, zero, suc, ◌+◌, ◌-◌, ◌≤◌, ◌<◌}
use native.Mathlib.Omega.{arith}
use mathlib.Core.Path.{◌≡◌, refl, sym, ap, ap₂, subst, ◌∙◌}
use mathlib.Core.Bool.{Bool, true, false, cond}
use mathlib.Core.List.{List, [], ◌∷◌, ◌++◌, map, map-append, reverse, reverse_aux, append_assoc}
use lib.ListN.{length, get_or, take, drop}
use lib.Dec.{ltb}
use borrow.Author.Tests.{lt-ltb, le-ltb}
use lib.Seq.{split_at, length-take-le, take-append_seam, get_or-append_seam}
use Rattle.std.specs.Prelude.{None}
use Rattle.numbers.specs.Limits.{LONGEST_INPUT}
use Rattle.numbers.specs.Refusals.{ACCEPTED}
use Rattle.text.specs.Words.{supply}
use Rattle.lists.specs.Lists.{listed}
use Rattle.lists.proofs.Listed.{listed_agree}
use Rattle.pmtl.specs.Book.{Book, properties}
use Rattle.pmtl.specs.Sets.{Way}
use Rattle.pmtl.specs.Monitor.{State, initial_in}
use Rattle.pmtl.specs.Calls.{Call, Outcome, call, after_in}
use Rattle.pmtl.proofs.Theorems.{refused_changes_nothing}
use Rattle.book.specs.Reading.{Read, got, refused, Sections}
use Rattle.book.specs.declared.loading.Loading.{Loading}
use Rattle.book.specs.Loading.{way_in, admitted}
use Rattle.book.specs.Judging.{Loaded, loaded_from}
use Rattle.ledger.specs.declared.Summary.{Summary}
use Rattle.report.specs.Lines.{CallLine, Ending, end, stop, Line, book, called, summed, last, CallsRead, call_then, calls_from, calls_after, line_of, lines_of, lines}
use Rattle.summaries.specs.Recount.{recount}
use Rattle.summaries.specs.Renumbered.{renumbered_line, renumbered}
use Rattle.summaries.proofs.Theorems.{refused_line_no_trace}
use Rattle.slip.specs.Says.{sections_said, words_after, calls_said, no_line, missing_call, recounts, closing}
use Rattle.slip.specs.TakenOut.{call_words, all_words, Fits, AllFit, CallAt, TakenOut, lower_from, lowered, without, unsummed}
use Rattle.text.proofs.Few.{small_ending}
use Rattle.slip.proofs.Calls.{all_words_lem, Heard, calls_read, calls_then, first_call, first_calls_lem}
use Rattle.slip.proofs.Places.{at_place, lines_length, lines_at, lines_recounted, loads_as, read_as, called_line}

-- ---- lines of calls, one after the other
lines_then : (w : Way) (b : Book) (done : ℕ) (past xs ys : List Call)
    → lines_of b done (after_in w b.rows past) (xs ++ ys) ≡ lines_of b done (after_in w b.rows past) xs ++ lines_of b (done + length xs) (after_in w b.rows (reverse_aux xs past)) ys
unfolding lines_of after_in
lines_then w b done past [] ys = let e : done + 0 ≡ done = omega arith in rw e
lines_then w b done past (x ∷ xs) ys =
    let e : done + suc (length xs) ≡ suc done + length xs = omega arith in
    rw e (ap (λ ls. line_of b (suc done) (call b.rows (after_in w b.rows past) x) ∷ ls) (lines_then w b (suc done) (x ∷ past) xs ys))

-- ---- numbers, where call i is taken out
number_before : (i n : ℕ) → n < i → lower_from i n ≡ n
number_before i n h = rw (lt-ltb n i h)

number_after_lem : (i n : ℕ) → i ≤ suc n → lower_from i (suc n) ≡ n
number_after_lem i n h = rw (le-ltb (suc n) i h) (omega arith)

number_none : (i : ℕ) → lower_from i 0 ≡ 0
number_none i = go (ltb 0 i)
  where
    go : (z : Bool) → cond z 0 (0 - 1) ≡ 0
    go true = refl
    go false = omega arith

module _ (b : Book) (i : ℕ) where
  by_number : (n : ℕ) {m : ℕ} (o : Outcome) → lower_from i n ≡ m → renumbered_line (lower_from i) (line_of b n o) ≡ line_of b m o
  unfolding line_of
  by_number n o e = rw e

  olds_stay : (done : ℕ) (st : State) (ks : List Call) → done + length ks < i → map (renumbered_line (lower_from i)) (lines_of b done st ks) ≡ lines_of b done st ks
  unfolding lines_of
  olds_stay done st [] h = refl
  olds_stay done st (k ∷ ks) h =
      ap₂ (λ (x : CallLine) xs. x ∷ xs) (by_number (suc done) (call b.rows st k) (number_before i (suc done) (omega arith))) (olds_stay (suc done) (call b.rows st k).state ks (omega arith))

  news_fall : (done : ℕ) (st : State) (ks : List Call) → i ≤ suc done → map (renumbered_line (lower_from i)) (lines_of b (suc done) st ks) ≡ lines_of b done st ks
  unfolding lines_of
  news_fall done st [] h = refl
  news_fall done st (k ∷ ks) h =
      ap₂ (λ (x : CallLine) xs. x ∷ xs) (by_number (suc (suc done)) (call b.rows st k) (number_after_lem i (suc done) (omega arith))) (news_fall (suc done) (call b.rows st k).state ks (omega arith))

-- ---- one taken out of some
cut_at : {A : Type 0} (xs : List A) (x : A) (ys : List A) → take (length xs) (xs ++ x ∷ ys) ++ drop (suc (length xs)) (xs ++ x ∷ ys) ≡ xs ++ ys
cut_at [] x ys = refl
cut_at (y ∷ xs) x ys = ap (λ l. y ∷ l) (cut_at xs x ys)

called_length : (cs : List CallLine) → length (map called cs) ≡ length cs
called_length [] = refl
called_length (c ∷ cs) = ap suc (called_length cs)

called_lowered : (i : ℕ) (cs : List CallLine) → map (lowered i) (map called cs) ≡ map called (map (renumbered_line (lower_from i)) cs)
called_lowered i [] = refl
called_lowered i (c ∷ cs) = ap (λ ls. called (renumbered_line (lower_from i) c) ∷ ls) (called_lowered i cs)

summed_lowered : (i : ℕ) (ss : List Summary) → map (lowered i) (map summed ss) ≡ map summed (map (renumbered (lower_from i)) ss)
summed_lowered i [] = refl
summed_lowered i (s ∷ ss) = ap (λ ls. summed (renumbered (lower_from i) s) ∷ ls) (summed_lowered i ss)

map_listed : {A B : Type 0} (f : A → B) (g : ℕ → A) (n : ℕ) → map f (listed g n) ≡ listed (λ p. f (g p)) n
unfolding listed
map_listed f g zero = refl
map_listed f g (suc n) = map-append f (listed g n) (g n ∷ []) ∙ ap (λ xs. xs ++ f (g n) ∷ []) (map_listed f g n)

-- a report's lines, by those of its calls
abbrev reported : Book → List CallLine → Ending → List Line
reported b cs e = book ACCEPTED None ∷ map called cs ++ closing b cs e

-- without one line of a call
without_call : (olds : List CallLine) (l : CallLine) (news : List CallLine) (after : List Line)
    → without (suc (length olds)) (book ACCEPTED None ∷ map called (olds ++ l ∷ news) ++ after)
    ≡ book ACCEPTED None ∷ map called (map (renumbered_line (lower_from (suc (length olds)))) (olds ++ news)) ++ map (lowered (suc (length olds))) after
unfolding without
without_call olds l news after =
    let i = suc (length olds) in
    let head : List Line = book ACCEPTED None ∷ map called olds in
    let rest : List Line = map called news ++ after in
    let parts : book ACCEPTED None ∷ map called (olds ++ l ∷ news) ++ after ≡ head ++ called l ∷ rest =
    ap (λ ls. book ACCEPTED None ∷ ls ++ after) (map-append called olds (l ∷ news)) ∙ append_assoc head (called l ∷ map called news) after in
    let place : suc (length olds) ≡ length head = ap suc (sym (called_length olds)) in
    ap₂ (λ n ls. map (lowered i) (take n ls ++ drop (suc n) ls)) place parts
    ∙ ap (map (lowered i)) (cut_at head (called l) rest ∙ sym (append_assoc head (map called news) after) ∙ ap (λ ls. book ACCEPTED None ∷ ls ++ after) (sym (map-append called olds news)))
    ∙ map-append (lowered i) (book ACCEPTED None ∷ map called (olds ++ news)) after
    ∙ ap (λ ls. book ACCEPTED None ∷ ls ++ map (lowered i) after) (called_lowered i (olds ++ news))

-- ---- the lines of calls, one of which leaves the state as it was
module _ (w : Way) (b : Book) (before : List Call) (k : Call) (later : List Call)
    (stays : (call b.rows (after_in w b.rows (reverse before)) k).state ≡ after_in w b.rows (reverse before)) where
  abbrev there : ℕ
  there = length before

  abbrev state : State
  state = after_in w b.rows (reverse before)

  abbrev olds : List CallLine
  olds = lines_of b 0 (initial_in w b.rows) before

  abbrev its : CallLine
  its = line_of b (suc there) (call b.rows state k)

  abbrev news : List CallLine
  news = lines_of b (suc there) state later

  abbrev with_its : List CallLine
  with_its = olds ++ its ∷ news

  -- with it and without it
  with_lines : lines_of b 0 (initial_in w b.rows) (before ++ k ∷ later) ≡ with_its
  unfolding lines_of after_in
  with_lines =
      let e : 0 + length before ≡ length before = omega arith in
      lines_then w b 0 [] before (k ∷ later)
      ∙ ap (λ n. olds ++ lines_of b n state (k ∷ later)) e
      ∙ ap (λ st. olds ++ its ∷ lines_of b (suc there) st later) stays

  without_lines : lines_of b 0 (initial_in w b.rows) (before ++ later) ≡ map (renumbered_line (lower_from (suc there))) (olds ++ news)
  unfolding after_in
  without_lines =
      let e : 0 + length before ≡ length before = omega arith in
      lines_then w b 0 [] before later
      ∙ ap (λ n. olds ++ lines_of b n state later) e
      ∙ ap₂ (λ (xs ys : List CallLine). xs ++ ys) (sym (olds_stay b (suc there) 0 (initial_in w b.rows) before (omega arith))) (sym (news_fall b (suc there) there state later (omega arith)))
      ∙ sym (map-append (renumbered_line (lower_from (suc there))) olds news)

  olds_length : length olds ≡ there
  olds_length = lines_length b 0 (initial_in w b.rows) before

  -- without its line, all but what follows the lines of calls
  cut : (e : Ending) → without (suc there) (reported b (lines_of b 0 (initial_in w b.rows) (before ++ k ∷ later)) e)
      ≡ book ACCEPTED None ∷ map called (lines_of b 0 (initial_in w b.rows) (before ++ later)) ++ map (lowered (suc there)) (closing b with_its e)
  cut e =
      ap (λ cs. without (suc there) (reported b cs e)) with_lines
      ∙ ap (λ n. without (suc n) (reported b with_its e)) (sym olds_length)
      ∙ without_call olds its news (closing b with_its e)
      ∙ ap (λ n. book ACCEPTED None ∷ map called (map (renumbered_line (lower_from (suc n))) (olds ++ news)) ++ map (lowered (suc n)) (closing b with_its e)) olds_length
      ∙ ap (λ cs. book ACCEPTED None ∷ map called cs ++ map (lowered (suc there)) (closing b with_its e)) (sym without_lines)

  -- that follows, too, where the call is refused: of a summary only the numbers of calls fall
  closing_cut : ¬ ((call b.rows state k).number ≡ ACCEPTED) → (e : Ending) → map (lowered (suc there)) (closing b with_its e) ≡ closing b (lines_of b 0 (initial_in w b.rows) (before ++ later)) e
  unfolding closing line_of
  closing_cut n (stop m) = refl
  closing_cut n end =
      let f = lower_from (suc there) in
      let count = length (properties b) in
      map-append (lowered (suc there)) (map summed (recounts b with_its)) (last end ∷ [])
      ∙ ap (λ ls. ls ++ last end ∷ [])
      (summed_lowered (suc there) (recounts b with_its)
      ∙ ap (map summed)
      (map_listed (renumbered f) (λ p. recount p with_its) count
      ∙ listed_agree (λ p. renumbered f (recount p with_its)) (λ p. recount p (lines_of b 0 (initial_in w b.rows) (before ++ later))) count
      (λ p h. sym (refused_line_no_trace f (number_none (suc there)) p olds its news n) ∙ ap (recount p) (sym without_lines))))

-- ---- lines without the summaries
unsummed_called : (cs : List CallLine) (after : List Line) → unsummed (map called cs ++ after) ≡ map called cs ++ unsummed after
unfolding unsummed
unsummed_called [] after = refl
unsummed_called (c ∷ cs) after = ap (λ ls. called c ∷ ls) (unsummed_called cs after)

unsummed_last : (ss : List Summary) (e : Ending) → unsummed (map summed ss ++ last e ∷ []) ≡ last e ∷ []
unfolding unsummed
unsummed_last [] e = refl
unsummed_last (s ∷ ss) e = unsummed_last ss e

unsummed_closing : (b : Book) (cs : List CallLine) (e : Ending) → unsummed (closing b cs e) ≡ last e ∷ []
unfolding closing
unsummed_closing b cs end = unsummed_last (recounts b cs) end
unsummed_closing b cs (stop n) = unsummed_last [] (stop n)

unsummed_lowered : (i : ℕ) (b : Book) (cs : List CallLine) (e : Ending) → unsummed (map (lowered i) (closing b cs e)) ≡ last e ∷ []
unfolding closing
unsummed_lowered i b cs end =
    ap unsummed (map-append (lowered i) (map summed (recounts b cs)) (last end ∷ []) ∙ ap (λ ls. ls ++ last end ∷ []) (summed_lowered i (recounts b cs))) ∙ unsummed_last (map (renumbered (lower_from i)) (recounts b cs)) end
unsummed_lowered i b cs (stop n) = unsummed_last [] (stop n)

unsummed_whole : (cs : List CallLine) (after : List Line) {e : Ending} → unsummed after ≡ last e ∷ [] → unsummed (book ACCEPTED None ∷ map called cs ++ after) ≡ book ACCEPTED None ∷ map called cs ++ last e ∷ []
unfolding unsummed
unsummed_whole cs after {e} h = ap (λ ls. book ACCEPTED None ∷ ls) (unsummed_called cs after ∙ ap (λ ls. map called cs ++ ls) h)

-- ---- the calls of the text, and of the text without one
module _ (way : Loading) {input : List ℕ} {i : ℕ} (c : CallAt input i) where
  abbrev onward : ℕ → CallsRead
  onward ending = calls_from ending (c.fewer - length c.before) c.rest

  with_it : (ending : ℕ) → calls_after ending (suc c.fewer ∷ (all_words c.before ++ (call_words c.itself ++ c.rest))) ≡ calls_then c.before (call_then c.itself (onward ending))
  unfolding calls_after
  with_it ending =
      let n : ℕ = c.fewer - length c.before in
      let e : suc c.fewer ≡ length c.before + suc n = omega (arith, c.counted) in
      ap (λ m. calls_from ending m (all_words c.before ++ (call_words c.itself ++ c.rest))) e
      ∙ first_calls_lem ending c.before c.fits_before (suc n) (call_words c.itself ++ c.rest)
      ∙ ap (calls_then c.before) (first_call ending n c.itself c.rest c.fits)

  without_it : (ending : ℕ) → calls_after ending (c.fewer ∷ (all_words c.before ++ c.rest)) ≡ calls_then c.before (onward ending)
  unfolding calls_after
  without_it ending =
      let n : ℕ = c.fewer - length c.before in
      let e : c.fewer ≡ length c.before + n = omega (arith, c.counted) in
      ap (λ m. calls_from ending m (all_words c.before ++ c.rest)) e ∙ first_calls_lem ending c.before c.fits_before n c.rest

  -- the calls that the text says
  pub calls_are : calls_said input ≡ c.before ++ c.itself ∷ (onward (supply input).ending).calls
  calls_are = ap (λ (r : CallsRead). r.calls) (read_as way input c.words ∙ with_it (supply input).ending)

  module _ (fits : length input ≤ LONGEST_INPUT) (z : (admitted way (loaded_from c.book)).number ≡ ACCEPTED) where
    abbrev loaded : Book
    loaded = (admitted way (loaded_from c.book)).book

    abbrev later : CallsRead
    later = onward (supply input).ending

    abbrev outcome : Outcome
    outcome = call loaded.rows (after_in (way_in way) loaded.rows (reverse c.before)) c.itself

    abbrev lines_by : CallsRead → List Line
    lines_by r = reported loaded (lines_of loaded 0 (initial_in (way_in way) loaded.rows) r.calls) r.ends

    lines_are : lines way input ≡ lines_by (calls_then c.before (call_then c.itself later))
    lines_are = lines_recounted way input fits c.words z ∙ ap lines_by (with_it (supply input).ending)

    others_are : {other : List ℕ} → TakenOut c other → lines way other ≡ lines_by (calls_then c.before later)
    others_are {other} t =
        lines_recounted way other t.short t.words z
        ∙ ap lines_by (ap (λ e. calls_after e (c.fewer ∷ (all_words c.before ++ c.rest))) t.ending ∙ without_it (supply input).ending)

    -- the line says what came of the call
    its_line : {l : CallLine} → get_or (lines way input) i no_line ≡ called l → l.refusal ≡ outcome.number
    unfolding after_in line_of
    its_line {l} h =
        let ks = c.before ++ c.itself ∷ later.calls in
        let cs = lines_of loaded 0 (initial_in (way_in way) loaded.rows) ks in
        let q = at_place cs loaded cs later.ends (length c.before) l (ap₂ (λ ls n. get_or ls n no_line) (sym lines_are) (sym c.place) ∙ h) in
        let a = lines_at (way_in way) loaded 0 [] ks (length c.before) (omega (arith, q.0, lines_length loaded 0 (initial_in (way_in way) loaded.rows) ks)) in
        ap (λ (x : CallLine). x.refusal) (sym q.1 ∙ a)
        ∙ ap₂ (λ xs k. (call loaded.rows (after_in (way_in way) loaded.rows (reverse xs)) k).number) (take-append_seam c.before (c.itself ∷ later.calls)) (get_or-append_seam c.before c.itself later.calls missing_call)

    -- without its line, where it leaves the state as it was
    module _ (stays : outcome.state ≡ after_in (way_in way) loaded.rows (reverse c.before)) where
      abbrev left : List CallLine
      left = lines_of loaded 0 (initial_in (way_in way) loaded.rows) (c.before ++ later.calls)

      abbrev line_lowered : List Line
      line_lowered = map (lowered (suc (length c.before))) (closing loaded (with_its (way_in way) loaded c.before c.itself later.calls stays) later.ends)

      line_cut : without i (lines way input) ≡ book ACCEPTED None ∷ map called left ++ line_lowered
      line_cut = ap₂ without c.place lines_are ∙ cut (way_in way) loaded c.before c.itself later.calls stays later.ends

      -- all but the summaries
      pub lines_cut : {other : List ℕ} → TakenOut c other → unsummed (lines way other) ≡ unsummed (without i (lines way input))
      lines_cut t =
          ap unsummed (others_are t)
          ∙ unsummed_whole left (closing loaded left later.ends) (unsummed_closing loaded left later.ends)
          ∙ sym (unsummed_whole left line_lowered (unsummed_lowered (suc (length c.before)) loaded _ later.ends))
          ∙ ap unsummed (sym line_cut)

      -- and these, too, where it was refused
      all_cut : ¬ (outcome.number ≡ ACCEPTED) → {other : List ℕ} → TakenOut c other → lines way other ≡ without i (lines way input)
      all_cut n t =
          others_are t
          ∙ ap (λ ls. book ACCEPTED None ∷ map called left ++ ls) (sym (closing_cut (way_in way) loaded c.before c.itself later.calls stays n later.ends))
          ∙ sym line_cut

  pub no_trace : {l : CallLine} → get_or (lines way input) i no_line ≡ called l → ¬ (l.refusal ≡ ACCEPTED) → {other : List ℕ} → TakenOut c other → lines way other ≡ without i (lines way input)
  no_trace h n t =
      let k = called_line way input i h in
      let z : (admitted way (loaded_from c.book)).number ≡ ACCEPTED = ap (λ (x : Loaded). x.number) (sym (loads_as way input c.words)) ∙ k.loads in
      let refused : ¬ ((outcome k.fits z).number ≡ ACCEPTED) = λ y. n (its_line k.fits z h ∙ y) in
      all_cut k.fits z (refused_changes_nothing (admitted way (loaded_from c.book)).book.rows _ c.itself refused) refused t

-- ---- every line of a call has its words in the text
fit_take : (j : ℕ) (ks : List Call) → AllFit ks → AllFit (take j ks)
fit_take zero ks f = tt
fit_take (suc j) [] f = tt
fit_take (suc j) (k ∷ ks) f = (f.0, fit_take j ks f.1)

fit_at : (j : ℕ) (ks : List Call) → AllFit ks → Fits (get_or ks j missing_call)
fit_at j [] f = tt
fit_at zero (k ∷ ks) f = f.0
fit_at (suc j) (k ∷ ks) f = fit_at j ks f.1

split_words : (j : ℕ) (ks : List Call) (left : List ℕ) → j < length ks
    → all_words ks ++ left ≡ all_words (take j ks) ++ (call_words (get_or ks j missing_call) ++ (all_words (drop (suc j) ks) ++ left))
unfolding all_words
split_words j ks left h =
    let a = all_words (take j ks) in
    let k = call_words (get_or ks j missing_call) in
    let d = all_words (drop (suc j) ks) in
    ap (λ xs. xs ++ left) (ap all_words (split_at ks j missing_call h) ∙ all_words_lem (take j ks) (get_or ks j missing_call ∷ drop (suc j) ks))
    ∙ append_assoc a (k ++ d) left
    ∙ ap (λ l. a ++ l) (append_assoc k d left)

module _ (input : List ℕ) where
  heard_at : {s : Sections} {count : ℕ} {ws : List ℕ} → sections_said input ≡ got s (count ∷ ws) → (r : CallsRead) → Heard count ws r → (j : ℕ) → j < length r.calls → CallAt input (suc j)
  heard_at {s} {count} {ws} e r h j l =
      let n = length-take-le j r.calls (omega arith) in
      record {
        book = s;
        fewer = count - 1;
        before = take j r.calls;
        itself = get_or r.calls j missing_call;
        rest = all_words (drop (suc j) r.calls) ++ h.left;
        place = ap suc (sym n);
        counted = omega (arith, h.counted);
        fits_before = fit_take j r.calls h.fit;
        fits = fit_at j r.calls h.fit;
        words = e ∙ ap₂ (λ m xs. got s (m ∷ xs)) (omega (arith, h.counted)) (h.are ∙ split_words j r.calls h.left l);
      }

  said_at : (r : Read Sections) → sections_said input ≡ r → (j : ℕ) → j < length (calls_after (supply input).ending (words_after r)).calls → CallAt input (suc j)
  unfolding calls_after words_after
  said_at (got s []) e j h = absurd (omega arith)
  said_at (got s (count ∷ ws)) e j h = heard_at e (calls_from (supply input).ending count ws) (calls_read (supply input).ending (small_ending input) count ws) j h
  said_at (refused n) e j h = absurd (omega arith)

  pub call_at : (way : Loading) (i : ℕ) {l : CallLine} → get_or (lines way input) i no_line ≡ called l → CallAt input i
  call_at way i h = let k = called_line way input i h in subst (CallAt input) (sym k.place) (said_at (sections_said input) refl k.others k.said)
