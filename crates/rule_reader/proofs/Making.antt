-- Laws of the loop that builds a book's rows. Assumes nothing.
use Prim.Native.Nat.{ℕ, zero, suc, ◌+◌, ◌*◌, ◌≤◌}
use mathlib.Core.Path.{◌≡◌, refl, sym, ap, ◌∙◌}
use mathlib.Core.Bool.{Bool, true, false, false≢true}
use mathlib.Core.List.{List, [], ◌∷◌}
use native.Mathlib.Omega.{arith}
use lib.ListN.{length}
use Rattle.numbers.specs.Limits.{MOST_ROWS, ROW_WORDS}
use Rattle.trees.specs.Forest.{Head, head_of, Forest, none, one, ◌then◌, count, size, roots, entries}
use Rattle.rule_scanner.specs.Reading.{turn, begun, parting, closing, form_of, first_mode, Frame, State, start, form_in, between, completed, Step, refused, going, ended, taken, move, Outcome, read, wrong, onward, reading, read_text}
use Rattle.rule_scanner.specs.Symbols.{Placed, symbols}
use Rattle.rule_scanner.specs.Steps.{Next}
use Rattle.rule_scanner.specs.Scanning.{form_top, refuses, ends, start_pass, FormsAre, stack_size, Rel, Steps}
use Rattle.trees.specs.Building.{all_rows, all_operands}
use Rattle.rule_scanner.proofs.Sound.{by_symbol, Op, Frames, FrameOk, AfterOk, Ok, OkOf, ok_start, ok_next}
use Rattle.trees.proofs.Numbered.{size_then}
use Rattle.trees.proofs.Built.{then_none, count_then}
use Rattle.rule_scanner.proofs.Passing.{Reader, refused_is, ended_is, going_is, turned_is, moved, steps, not_end}
use Rattle.book.specs.declared.kind.Kind.{Kind}
use Rattle.book.specs.declared.kind.Kind.TheVariants.{False, True, Atom, And, Or, Not, Implies, Historically, Once, Since}
use Rattle.rule_scanner.specs.declared.symbols.Symbol.{Symbol}
use Rattle.rule_scanner.specs.declared.turns.Mode.{Mode}
use Rattle.rule_scanner.specs.declared.turns.Mode.TheVariants as mode
use Rattle.rule_scanner.specs.declared.turns.Form.{Form}
use Rattle.rule_scanner.specs.declared.turns.Form.TheVariants as form
use Rattle.rule_scanner.specs.declared.turns.Turn.{Turn}
use Rattle.rule_scanner.specs.declared.turns.Turn.TheVariants.{Refused, Go, Leaf, Open, Part, Close, Counted, Ended}
use Rattle.rule_scanner.specs.declared.scan.Pass.{Pass}
use Rattle.trees.specs.Building.{Rooms}
use Rattle.rule_reader.specs.Laying.{laid, forest, Lies, need, Counting, NotAtom, NoAtoms, Sane, site_of, Lays, Small, Builds}
use Rattle.rule_reader.specs.declared.lay.Laid.{Laid}
use Rattle.rule_reader.proofs.Frames.{forest_between, forest_completed}

-- ---- a count is wanted once, where nothing of its section is there
abbrev NotCount : Mode → Type 0
NotCount mode.Count = ⊥
NotCount mode.Begin = Unit {0}
NotCount mode.First = Unit {0}
NotCount mode.After = Unit {0}
NotCount mode.Atom = Unit {0}
NotCount (mode.Left w) = Unit {0}
NotCount (mode.Lower w) = Unit {0}
NotCount (mode.Comma w l) = Unit {0}
NotCount (mode.Upper w l) = Unit {0}
NotCount (mode.Right w l u) = Unit {0}
NotCount (mode.Open w l u) = Unit {0}
NotCount mode.Over = Unit {0}

abbrev FitsTurn : Mode → Turn → Type 0
FitsTurn m Refused = Unit {0}
FitsTurn m (Go x) = NotCount x
FitsTurn m (Leaf w n) = Unit {0}
FitsTurn m (Open w l u) = Unit {0}
FitsTurn m Part = Unit {0}
FitsTurn m Close = Unit {0}
FitsTurn m (Counted n) = m ≡ mode.Count
FitsTurn m Ended = Unit {0}

begun_fits : (m : Mode) (w : Kind) → FitsTurn m (begun w)
begun_fits m False = tt
begun_fits m True = tt
begun_fits m Atom = tt
begun_fits m And = tt
begun_fits m Or = tt
begun_fits m Not = tt
begun_fits m Implies = tt
begun_fits m Historically = tt
begun_fits m Once = tt
begun_fits m Since = tt

closing_fits : (m : Mode) (f : Form) → FitsTurn m (closing f)
closing_fits m form.Many = tt
closing_fits m form.One = tt
closing_fits m form.Two = tt

parting_fits : (m : Mode) (f : Form) → FitsTurn m (parting f)
parting_fits m form.Many = tt
parting_fits m form.One = tt
parting_fits m form.Two = tt

fits : (m : Mode) (f : Form) (y : Symbol) → FitsTurn m (turn m f y)
fits mode.Count f = by_symbol (λ y t. FitsTurn mode.Count t) _ _ _ _ _ _ _ _ _ (λ w. tt) (λ n. refl) tt tt tt tt tt tt tt tt
fits mode.Begin f = by_symbol (λ y t. FitsTurn mode.Begin t) _ _ _ _ _ _ _ _ _ (λ w. begun_fits mode.Begin w) (λ n. tt) tt tt tt tt tt tt tt tt
fits mode.First f = by_symbol (λ y t. FitsTurn mode.First t) _ _ _ _ _ _ _ _ _ (λ w. begun_fits mode.First w) (λ n. tt) tt tt tt tt tt tt tt tt
fits mode.After f = by_symbol (λ y t. FitsTurn mode.After t) _ _ _ _ _ _ _ _ _ (λ w. tt) (λ n. tt) tt tt tt (closing_fits mode.After f) (parting_fits mode.After f) tt tt tt
fits mode.Atom f = by_symbol (λ y t. FitsTurn mode.Atom t) _ _ _ _ _ _ _ _ _ (λ w. tt) (λ n. tt) tt tt tt tt tt tt tt tt
fits (mode.Left w) f = by_symbol (λ y t. FitsTurn (mode.Left w) t) _ _ _ _ _ _ _ _ _ (λ w. tt) (λ n. tt) tt tt tt tt tt tt tt tt
fits (mode.Lower w) f = by_symbol (λ y t. FitsTurn (mode.Lower w) t) _ _ _ _ _ _ _ _ _ (λ w. tt) (λ n. tt) tt tt tt tt tt tt tt tt
fits (mode.Comma w l) f = by_symbol (λ y t. FitsTurn (mode.Comma w l) t) _ _ _ _ _ _ _ _ _ (λ w. tt) (λ n. tt) tt tt tt tt tt tt tt tt
fits (mode.Upper w l) f = by_symbol (λ y t. FitsTurn (mode.Upper w l) t) _ _ _ _ _ _ _ _ _ (λ w. tt) (λ n. tt) tt tt tt tt tt tt tt tt
fits (mode.Right w l u) f = by_symbol (λ y t. FitsTurn (mode.Right w l u) t) _ _ _ _ _ _ _ _ _ (λ w. tt) (λ n. tt) tt tt tt tt tt tt tt tt
fits (mode.Open w l u) f = by_symbol (λ y t. FitsTurn (mode.Open w l u) t) _ _ _ _ _ _ _ _ _ (λ w. tt) (λ n. tt) tt tt tt tt tt tt tt tt
fits mode.Over f = by_symbol (λ y t. FitsTurn mode.Over t) _ _ _ _ _ _ _ _ _ (λ w. tt) (λ n. tt) tt tt tt tt tt tt tt tt

abbrev EmptyIn : Mode → Forest → Type 0
EmptyIn mode.Count h = h ≡ none
EmptyIn mode.Begin h = Unit {0}
EmptyIn mode.First h = Unit {0}
EmptyIn mode.After h = Unit {0}
EmptyIn mode.Atom h = Unit {0}
EmptyIn (mode.Left w) h = Unit {0}
EmptyIn (mode.Lower w) h = Unit {0}
EmptyIn (mode.Comma w l) h = Unit {0}
EmptyIn (mode.Upper w l) h = Unit {0}
EmptyIn (mode.Right w l u) h = Unit {0}
EmptyIn (mode.Open w l u) h = Unit {0}
EmptyIn mode.Over h = Unit {0}

not_count : (m : Mode) (h : Forest) → NotCount m → EmptyIn m h
not_count mode.Begin h k = tt
not_count mode.First h k = tt
not_count mode.After h k = tt
not_count mode.Atom h k = tt
not_count (mode.Left w) h k = tt
not_count (mode.Lower w) h k = tt
not_count (mode.Comma w l) h k = tt
not_count (mode.Upper w l) h k = tt
not_count (mode.Right w l u) h k = tt
not_count (mode.Open w l u) h k = tt
not_count mode.Over h k = tt
not_count mode.Count h k = elim k [ ]

pub record Tidy (r : State) : Type 0 where
  pub first : r.second ≡ false → r.before ≡ none
  pub empty : EmptyIn r.mode r.here

abbrev TidyAfter : Step → Type 0
TidyAfter refused = Unit {0}
TidyAfter (going q) = Tidy q
TidyAfter ended = Unit {0}

tidy_between : (s : Bool) (n : ℕ) (h b : Forest) → (s ≡ false → b ≡ none) → Tidy (between s n h b)
tidy_between s (suc n) h b f = record { first = f; empty = tt }
tidy_between false zero h b f = record { first = λ e. absurd (false≢true (sym e)); empty = refl }
tidy_between true zero h b f = record { first = f; empty = tt }

tidy_completed : (t : Forest) (o : List Frame) (s : Bool) (n : ℕ) (h b : Forest) → (s ≡ false → b ≡ none) → Tidy (completed t o s n h b)
tidy_completed t (x ∷ o) s n h b f = record { first = f; empty = tt }
tidy_completed t [] s zero h b f = tidy_between s 0 (h then t) b f
tidy_completed t [] s (suc n) h b f = tidy_between s n (h then t) b f

first_empty : (f : Form) (h : Forest) → EmptyIn (first_mode f) h
first_empty form.Many h = tt
first_empty form.One h = tt
first_empty form.Two h = tt

tidy_after : (m : Mode) (t : Turn) (o : List Frame) (s : Bool) (n : ℕ) (h b : Forest) → FitsTurn m t → (s ≡ false → b ≡ none) → TidyAfter (taken t o s n h b)
tidy_after m Refused o s n h b k f = tt
tidy_after m (Go x) o s n h b k f = record { first = f; empty = not_count x h k }
tidy_after m (Leaf w a) o s n h b k f = tidy_completed (one (head_of w a 0 0) none) o s n h b f
tidy_after m (Open w l u) o s n h b k f = record { first = f; empty = first_empty (form_of w) h }
tidy_after m Part [] s n h b k f = tt
tidy_after m Part (x ∷ o) s n h b k f = record { first = f; empty = tt }
tidy_after m Close [] s n h b k f = tt
tidy_after m Close (x ∷ o) s n h b k f = tidy_completed (one x.head x.parts) o s n h b f
tidy_after m (Counted a) o s n h b k f = tidy_between s a none b f
tidy_after m Ended [] s n h b k f = tt
tidy_after m Ended (x ∷ o) s n h b k f = tt

-- ---- what a turn asks for is there
not_atom : (w : Kind) (a l u : ℕ) → Op w a l u → NotAtom w
not_atom And a l u k = tt
not_atom Or a l u k = tt
not_atom Not a l u k = tt
not_atom Implies a l u k = tt
not_atom Historically a l u k = tt
not_atom Once a l u k = tt
not_atom Since a l u k = tt
not_atom False a l u k = elim k [ ]
not_atom True a l u k = elim k [ ]
not_atom Atom a l u k = elim k [ ]

one_frame : (f : Frame) (n : ℕ) → FrameOk f n → NotAtom f.head.word
one_frame f n k = not_atom f.head.word f.head.atom f.head.lower f.head.upper k.op

frames_operators : (o : List Frame) → Frames o → NoAtoms o
frames_operators [] k = tt
frames_operators (f ∷ o) k = (one_frame f (count f.parts) k.0, frames_operators o k.1)

after_operators : (o : List Frame) → AfterOk o → NoAtoms o
after_operators [] k = tt
after_operators (f ∷ o) k = (one_frame f k.0.0 k.0.2, frames_operators o k.1)

none_open : (o : List Frame) → o ≡ [] → NoAtoms o
none_open o e = rw e tt

operators : (m : Mode) (o : List Frame) (s : Bool) (n : ℕ) (h b : Forest) → Ok m o s n h b → NoAtoms o
operators mode.Count o s n h b k = none_open o k.mode
operators mode.Begin o s n h b k = frames_operators o k.mode.0
operators mode.First o s n h b k = frames_operators o k.mode.0
operators mode.After o s n h b k = after_operators o k.mode.0
operators mode.Atom o s n h b k = frames_operators o k.mode.0
operators (mode.Left w) o s n h b k = frames_operators o k.mode.0
operators (mode.Lower w) o s n h b k = frames_operators o k.mode.0
operators (mode.Comma w l) o s n h b k = frames_operators o k.mode.0
operators (mode.Upper w l) o s n h b k = frames_operators o k.mode.0
operators (mode.Right w l u) o s n h b k = frames_operators o k.mode.0
operators (mode.Open w l u) o s n h b k = frames_operators o k.mode.0
operators mode.Over o s n h b k = none_open o k.mode.0

counting : (t : Turn) (m : Mode) (o : List Frame) (s : Bool) (n : ℕ) (h b : Forest) → FitsTurn m t → Ok m o s n h b → EmptyIn m h → Counting t o h
counting Refused m o s n h b k g e = tt
counting (Go x) m o s n h b k g e = tt
counting (Leaf w a) m o s n h b k g e = tt
counting (Open w l u) m o s n h b k g e = tt
counting Part m o s n h b k g e = tt
counting Close m o s n h b k g e = tt
counting (Counted a) m o s n h b k g e = let x : Ok mode.Count o s n h b = rw k at g in (x.mode, rw k at e)
counting Ended m o s n h b k g e = tt

sane_of : (r : State) (y : Symbol) → OkOf r → Tidy r → Sane (turn r.mode (form_in r.stack) y) r
sane_of r y k t = record {
  first = t.first;
  counting = counting (turn r.mode (form_in r.stack) y) r.mode r.stack r.second r.left r.here r.before (fits r.mode (form_in r.stack) y) k t.empty;
  operators = operators r.mode r.stack r.second r.left r.here r.before k;
}

tidy_next : (r : State) (y : Symbol) (q : State) → Tidy r → move r y ≡ going q → Tidy q
unfolding move
tidy_next r y q t e =
    let k : TidyAfter (going q) = rw e at (tidy_after r.mode (turn r.mode (form_in r.stack) y) r.stack r.second r.left r.here r.before (fits r.mode (form_in r.stack) y) t.first) in
    k

-- ---- rows and open brackets never get fewer
abbrev Grows : ℕ → Step → Type 0
Grows n refused = Unit {0}
Grows n (going q) = n ≡ size (forest q) + length q.stack
Grows n ended = Unit {0}

between_stack : (s : Bool) (n : ℕ) (h b : Forest) → length (between s n h b).stack ≡ 0
between_stack s (suc n) h b = refl
between_stack false zero h b = refl
between_stack true zero h b = refl

completed_stack : (t : Forest) (o : List Frame) (s : Bool) (n : ℕ) (h b : Forest) → length (completed t o s n h b).stack ≡ length o
completed_stack t (x ∷ o) s n h b = refl
completed_stack t [] s zero h b = between_stack s 0 (h then t) b
completed_stack t [] s (suc n) h b = between_stack s n (h then t) b

size_none : size none ≡ 0
unfolding size
size_none = refl

size_one : (i : Head) (p : Forest) → size (one i p) ≡ size p + 1
unfolding size
size_one i p = refl

grows : (t : Turn) (o : List Frame) (s : Bool) (n : ℕ) (h b : Forest) → (s ≡ false → b ≡ none) → Counting t o h → Grows (size (laid o (b then h)) + length o + need t) (taken t o s n h b)
unfolding laid
grows Refused o s n h b f c = tt
grows (Go x) o s n h b f c = omega arith
grows (Leaf w a) o s n h b f c =
    let t = one (head_of w a 0 0) none in
    omega (arith, completed_stack t o s n h b, ap size (forest_completed t o s n h b f), size_then (laid o (b then h)) t, size_one (head_of w a 0 0) none, size_none)
grows (Open w l u) o s n h b f c = omega (arith, ap size (then_none (laid o (b then h))))
grows Part [] s n h b f c = tt
grows Part (x ∷ o) s n h b f c = omega arith
grows Close [] s n h b f c = tt
grows Close (x ∷ o) s n h b f c =
    let t = one x.head x.parts in
    omega (arith, completed_stack t o s n h b, ap size (forest_completed t o s n h b f), size_then (laid o (b then h)) t, size_one x.head x.parts, size_then (laid o (b then h)) x.parts)
grows (Counted a) o s n h b f c =
    omega (arith, between_stack s a none b, ap size (forest_between s a none b f), ap length c.0, ap (λ (z : List Frame). size (laid z (b then h))) c.0, ap (λ (z : Forest). size (b then z)) c.1)
grows Ended [] s n h b f c = tt
grows Ended (x ∷ o) s n h b f c = tt

-- the end stands where nothing is open
ended_closed : (t : Turn) (o : List Frame) (s : Bool) (n : ℕ) (h b : Forest) → taken t o s n h b ≡ ended → o ≡ []
ended_closed Refused o s n h b e = let z : ◌≡◌ {A = ℕ} 0 1 = cc in absurd (omega arith)
ended_closed (Go x) o s n h b e = let z : ◌≡◌ {A = ℕ} 0 1 = cc in absurd (omega arith)
ended_closed (Leaf w a) o s n h b e = let z : ◌≡◌ {A = ℕ} 0 1 = cc in absurd (omega arith)
ended_closed (Open w l u) o s n h b e = let z : ◌≡◌ {A = ℕ} 0 1 = cc in absurd (omega arith)
ended_closed Part [] s n h b e = let z : ◌≡◌ {A = ℕ} 0 1 = cc in absurd (omega arith)
ended_closed Part (x ∷ o) s n h b e = let z : ◌≡◌ {A = ℕ} 0 1 = cc in absurd (omega arith)
ended_closed Close [] s n h b e = let z : ◌≡◌ {A = ℕ} 0 1 = cc in absurd (omega arith)
ended_closed Close (x ∷ o) s n h b e = let z : ◌≡◌ {A = ℕ} 0 1 = cc in absurd (omega arith)
ended_closed (Counted a) o s n h b e = let z : ◌≡◌ {A = ℕ} 0 1 = cc in absurd (omega arith)
ended_closed Ended [] s n h b e = refl
ended_closed Ended (x ∷ o) s n h b e = let z : ◌≡◌ {A = ℕ} 0 1 = cc in absurd (omega arith)

closed_size : (o : List Frame) (x : Forest) → o ≡ [] → size (laid o x) + length o ≡ size x
unfolding laid
closed_size o x e = rw e (omega arith)

pub room : (ps : List Placed) (r : State) (a g : Forest) → OkOf r → Tidy r → reading r ps ≡ read a g → size (forest r) + length r.stack ≤ size a + size g
unfolding reading move
room [] r a g k t e = let z : ◌≡◌ {A = ℕ} 0 1 = cc in absurd (omega arith)
room (p ∷ ps) r a g k t e = by_step (move r p.symbol) refl e
    (grows (turn r.mode (form_in r.stack) p.symbol) r.stack r.second r.left r.here r.before t.first (sane_of r p.symbol k t).counting)
    (λ q m f. room ps q a g (ok_next r k p.symbol q m) (tidy_next r p.symbol q t m) f)
    (ended_closed (turn r.mode (form_in r.stack) p.symbol) r.stack r.second r.left r.here r.before)
  where
    by_step : (m : Step) → move r p.symbol ≡ m → onward m r p.at (λ q. reading q ps) ≡ read a g → Grows (size (forest r) + length r.stack + need (turn r.mode (form_in r.stack) p.symbol)) m
        → ((q : State) → move r p.symbol ≡ going q → reading q ps ≡ read a g → size (forest q) + length q.stack ≤ size a + size g) → (m ≡ ended → r.stack ≡ []) → size (forest r) + length r.stack ≤ size a + size g
    by_step refused m f w c o = let z : ◌≡◌ {A = ℕ} 0 1 = cc in absurd (omega arith)
    by_step (going q) m f w c o = let x = c q m f in omega arith
    by_step ended m f w c o = let u : r.before ≡ a = cc in let v : r.here ≡ g = cc in omega (arith, closed_size r.stack (r.before then r.here) (o refl), size_then r.before r.here, ap size u, ap size v)

closed_forest : (o : List Frame) (x : Forest) → o ≡ [] → laid o x ≡ x
unfolding laid
closed_forest o x e = rw e

-- ---- the loop
pub record Maker (s : List ℕ) (at : ℕ) (p : Pass) (m₀ m : List ℕ) (l : Laid) (fm rs os ts : List ℕ) : Type 0 where
  pub reader : Reader s at p m₀ m
  pub ok : OkOf reader.state
  pub tidy : Tidy reader.state
  pub lies : Lies reader.state l fm rs os ts
  pub frames_long : ROW_WORDS * MOST_ROWS ≤ length fm
  pub rooms : Rooms (length rs) (length os) (length ts)

size_laid : (o : List Frame) (x : Forest) → size (laid o x) ≡ stack_size o + size x
unfolding laid stack_size
size_laid [] x = omega arith
size_laid (f ∷ o) x = omega (arith, size_then (laid o x) f.parts, size_laid o x)

depth_is : (m : List ℕ) (d : ℕ) (o : List Frame) → FormsAre m d o → d ≡ length o
depth_is m d [] f = f
depth_is m d (x ∷ o) f = let e = f.1 in omega (arith, depth_is m f.0 o f.3)

row_is : (r : State) (p : Pass) (m : List ℕ) → Rel r p m → p.past + p.rows ≡ size (forest r)
row_is r p m k = omega (arith, k.past, k.rows, size_laid r.stack (r.before then r.here), size_then r.before r.here)

pub maker_start : (s m fm rs os ts : List ℕ) (l : Laid) → l.operands ≡ 0 → l.height ≡ 0 → ROW_WORDS * MOST_ROWS ≤ length fm → Rooms (length rs) (length os) (length ts) → Maker s 0 start_pass m m l fm rs os ts
unfolding read_text symbols stack_size size count laid ◌then◌ all_rows all_operands entries roots
maker_start s m fm rs os ts l eo eh a b = record {
  reader = record {
    state = start;
    rel = record { mode = refl; forms = refl; second = refl; left = refl; rows = refl; here = refl; past = refl; before = refl };
    bound = record { depth = omega arith; rows = omega arith; here = omega arith; past = omega arith; before = omega arith };
    inside = omega arith;
    left = refl;
    size = refl;
  };
  ok = ok_start;
  tidy = record { first = λ e. refl; empty = refl };
  lies = record { mem = record { rows = refl; operands = rw eo; tops = refl }; height = eh; balance = omega arith; frames = tt };
  frames_long = a;
  rooms = b;
}

small_is : (x : Outcome) → Small x → (a : Forest) × (g : Forest) × (x ≡ read a g) × (size a + size g ≤ MOST_ROWS)
unfolding Small
small_is (read a g) k = (a, g, refl, k)
small_is (wrong at) k = absurd k

module _ {s : List ℕ} {at : ℕ} {p : Pass} {m₀ m : List ℕ} {l : Laid} {fm rs os ts : List ℕ} (g : Maker s at p m₀ m l fm rs os ts) {y : Symbol} {place next : ℕ} (n : Next s at y place next) {t : Turn} (e : t ≡ turn p.mode (form_top m p.depth) y) where
  sane : Sane t g.reader.state
  sane = rw (turned_is g.reader n e) (sane_of g.reader.state y g.ok g.tidy)

  to_next : (q : State) → taken t g.reader.state.stack g.reader.state.second g.reader.state.left g.reader.state.here g.reader.state.before ≡ going q → (read_text s ≡ reading q n.later) × OkOf q × Tidy q
  to_next q w =
      let m = moved g.reader n e ∙ w in
      (steps g.reader n e ∙ rw w, ok_next g.reader.state g.ok y q m, tidy_next g.reader.state y q g.tidy m)

  pub maker_balance : l.operands + l.height ≡ p.past + p.rows
  maker_balance = g.lies.balance ∙ sym (row_is g.reader.state p m g.reader.rel)

  pub maker_room : Small (read_text s) → refuses t p.depth ≡ false → ends t ≡ false → p.past + p.rows + p.depth + need t ≤ MOST_ROWS
  maker_room small h i =
      let r = g.reader.state in
      let w = going_is t m p.depth r.stack r.second r.left r.here r.before g.reader.rel.forms h i in
      let k = small_is (read_text s) small in
      let x = to_next w.0 w.1 in
      let z = room n.later w.0 k.0 k.1 x.1 x.2 (sym x.0 ∙ k.2) in
      let v : size (forest r) + length r.stack + need t ≡ size (forest w.0) + length w.0.stack = rw w.1 at (grows t r.stack r.second r.left r.here r.before sane.first sane.counting) in
      omega (arith, k.3, row_is r p m g.reader.rel, depth_is m p.depth r.stack g.reader.rel.forms)

  pub maker_wrong : refuses t p.depth ≡ true → (k : ℕ) → Builds (read_text s) k rs os ts
  unfolding Builds
  maker_wrong h k =
      let r = g.reader.state in
      rw (steps g.reader n e, refused_is t m p.depth r.stack r.second r.left r.here r.before g.reader.rel.forms h) tt

  pub maker_done : refuses t p.depth ≡ false → ends t ≡ true → Builds (read_text s) l.operands rs os ts
  unfolding Builds
  maker_done h i =
      let r = g.reader.state in
      let x = ended_is t m p.depth r.stack r.second r.left r.here r.before g.reader.rel.forms h i in
      let f = closed_forest r.stack (r.before then r.here) x.1 in
      rw (steps g.reader n e, x.0) (rw f at g.lies.mem, omega (arith, g.lies.height, g.lies.balance, ap size f, ap count f, size_then r.before r.here, count_then r.before r.here))

  pub maker_more : {p' : Pass} {m' : List ℕ} {l' : Laid} {fm' rs' os' ts' : List ℕ} → refuses t p.depth ≡ false → ends t ≡ false → Steps t p m p' m' → Lays t (site_of p.depth (p.past + p.rows) l) fm rs os ts l' fm' rs' os' ts' → Maker s next p' m₀ m' l' fm' rs' os' ts'
  maker_more {p'} {m'} {l'} {fm'} {rs'} {os'} {ts'} h i z y =
      let r = g.reader.state in
      let w = going_is t m p.depth r.stack r.second r.left r.here r.before g.reader.rel.forms h i in
      let x = to_next w.0 w.1 in
      let b = z.bound at g.reader.bound in
      let u = n.further (not_end g.reader n e h i) in
      record {
        reader = record {
          state = w.0;
          rel = rw w.1 at (z.follows r g.reader.rel);
          bound = record { depth = omega (arith, b.depth); rows = omega (arith, b.rows); here = omega (arith, b.here); past = omega (arith, b.past); before = omega (arith, b.before) };
          inside = n.inside;
          left = sym (steps g.reader n e ∙ rw (w.1, n.others (not_end g.reader n e h i)));
          size = z.size ∙ g.reader.size;
        };
        ok = x.1;
        tidy = x.2;
        lies = rw w.1 at (y.holds r sane (depth_is m p.depth r.stack g.reader.rel.forms) (row_is r p m g.reader.rel) g.lies);
        frames_long = omega (arith, y.frames_size, g.frames_long);
        rooms = record {
          rows_long = omega (arith, y.rows_size, g.rooms.rows_long);
          operands_long = omega (arith, y.operands_size, g.rooms.operands_long);
          tops_long = omega (arith, y.tops_size, g.rooms.tops_long);
        };
      }
