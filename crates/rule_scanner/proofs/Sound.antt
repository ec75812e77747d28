-- What the reader accepts is the writing of some properties. Assumes nothing.
use Prim.Native.Nat.{ℕ, zero, suc, ◌+◌, ◌<◌}
use mathlib.Core.Path.{◌≡◌, refl, sym, ap, ◌∙◌}
use mathlib.Core.Bool.{Bool, true, false}
use mathlib.Core.List.{List, [], ◌∷◌, ◌++◌, append-nil, append_assoc, map}
use native.Mathlib.Omega.{arith}
use lib.Dec.{eqb}
use Rattle.text.specs.Words.{pick}
use Rattle.numbers.specs.Limits.{MAX}
use Rattle.rule_scanner.specs.Symbols.{Placed}
use Rattle.trees.specs.Forest.{Head, head_of, Forest, none, tree, one, ◌then◌, count, Fit, Good}
use Rattle.rule_scanner.specs.Writing.{upper_said, range_said, head_said, shut, one_said, written, file_said}
use Rattle.rule_scanner.specs.Starred.{is_comma, plainly, starred_one, starred}
use Rattle.rule_scanner.specs.Reading.{on, turn, begun, parting, closing, form_of, first_mode, parted, Frame, frame_of, State, state_of, start, form_in, between, completed, Step, refused, going, ended, taken, move, read, onward, reading}
use Rattle.book.specs.declared.kind.Kind.{Kind}
use Rattle.book.specs.declared.kind.Kind.TheVariants.{False, True, Atom, And, Or, Not, Implies, Historically, Once, Since}
use Rattle.rule_scanner.specs.declared.symbols.Symbol.{Symbol}
use Rattle.rule_scanner.specs.declared.symbols.Symbol.TheVariants.{Name, Number, Left, Right, Opens, Closes, Comma, Star, Bad, End}
use Rattle.rule_scanner.specs.declared.turns.Mode.{Mode}
use Rattle.rule_scanner.specs.declared.turns.Mode.TheVariants as mode
use Rattle.rule_scanner.specs.declared.turns.Form.{Form}
use Rattle.rule_scanner.specs.declared.turns.Form.TheVariants as form
use Rattle.rule_scanner.specs.declared.turns.Turn.{Turn}
use Rattle.rule_scanner.specs.declared.turns.Turn.TheVariants.{Refused, Open, Part, Close}

abbrev commas : List Symbol
commas = Comma ∷ []

-- ---- what was read so far
unfoldable trailed : Forest → List Symbol
trailed none = []
trailed (tree h p s) = one_said h (written [] commas p) ++ (Comma ∷ trailed s)

abbrev head_all : Head → List Symbol
head_all h = Name h.word ∷ head_said h

-- open operators, each with a part that is being read
unfoldable opened : List Frame → List Symbol
opened [] = []
opened (f ∷ fs) = opened fs ++ (head_all f.head ++ trailed f.parts)

-- and where the innermost has just had one
abbrev stack_after : List Frame → List Symbol
stack_after [] = []
stack_after (f ∷ fs) = opened fs ++ (head_all f.head ++ written [] commas f.parts)

abbrev stack_said : Mode → List Frame → List Symbol
stack_said mode.Count o = opened o
stack_said mode.Begin o = opened o
stack_said mode.First o = opened o
stack_said mode.After o = stack_after o
stack_said mode.Atom o = opened o
stack_said (mode.Left w) o = opened o
stack_said (mode.Lower w) o = opened o
stack_said (mode.Comma w l) o = opened o
stack_said (mode.Upper w l) o = opened o
stack_said (mode.Right w l u) o = opened o
stack_said (mode.Open w l u) o = opened o
stack_said mode.Over o = opened o

-- a head, but for its bracket
abbrev open_said : Kind → ℕ → ℕ → List Symbol
open_said False l u = []
open_said True l u = []
open_said Atom l u = []
open_said And l u = []
open_said Or l u = []
open_said Not l u = []
open_said Implies l u = []
open_said Historically l u = range_said l u []
open_said Once l u = range_said l u []
open_said Since l u = range_said l u []

abbrev mode_said : Mode → List Symbol
mode_said mode.Count = []
mode_said mode.Begin = []
mode_said mode.First = []
mode_said mode.After = []
mode_said mode.Atom = Name Atom ∷ []
mode_said (mode.Left w) = Name w ∷ []
mode_said (mode.Lower w) = Name w ∷ Left ∷ []
mode_said (mode.Comma w l) = Name w ∷ Left ∷ Number l ∷ []
mode_said (mode.Upper w l) = Name w ∷ Left ∷ Number l ∷ Comma ∷ []
mode_said (mode.Right w l u) = Name w ∷ Left ∷ Number l ∷ Comma ∷ upper_said u ∷ []
mode_said (mode.Open w l u) = Name w ∷ open_said w l u
mode_said mode.Over = []

-- a section: its count, and its properties so far
abbrev section : ℕ → Forest → List Symbol
section n h = Number (count h + n) ∷ written [] [] h

abbrev sections : Bool → ℕ → Forest → Forest → List Symbol
sections false n h b = section n h
sections true n h b = section 0 b ++ section n h

-- the sections before the one whose count is wanted
abbrev before : Bool → Forest → List Symbol
before false b = []
before true b = section 0 b

-- all that a state has read
abbrev so_far : Mode → List Frame → Bool → ℕ → Forest → Forest → List Symbol
so_far mode.Count o s n h b = before s b
so_far mode.Begin o s n h b = sections s n h b ++ (opened o ++ [])
so_far mode.First o s n h b = sections s n h b ++ (opened o ++ [])
so_far mode.After o s n h b = sections s n h b ++ (stack_after o ++ [])
so_far mode.Atom o s n h b = sections s n h b ++ (opened o ++ mode_said mode.Atom)
so_far (mode.Left w) o s n h b = sections s n h b ++ (opened o ++ mode_said (mode.Left w))
so_far (mode.Lower w) o s n h b = sections s n h b ++ (opened o ++ mode_said (mode.Lower w))
so_far (mode.Comma w l) o s n h b = sections s n h b ++ (opened o ++ mode_said (mode.Comma w l))
so_far (mode.Upper w l) o s n h b = sections s n h b ++ (opened o ++ mode_said (mode.Upper w l))
so_far (mode.Right w l u) o s n h b = sections s n h b ++ (opened o ++ mode_said (mode.Right w l u))
so_far (mode.Open w l u) o s n h b = sections s n h b ++ (opened o ++ mode_said (mode.Open w l u))
so_far mode.Over o s n h b = sections s n h b ++ (opened o ++ [])

-- ---- what holds of a state
abbrev pub Op : Kind → ℕ → ℕ → ℕ → Type 0
Op False a l u = ⊥
Op True a l u = ⊥
Op Atom a l u = ⊥
Op And a l u = (a ≡ 0) × (l ≡ 0) × (u ≡ 0)
Op Or a l u = (a ≡ 0) × (l ≡ 0) × (u ≡ 0)
Op Not a l u = (a ≡ 0) × (l ≡ 0) × (u ≡ 0)
Op Implies a l u = (a ≡ 0) × (l ≡ 0) × (u ≡ 0)
Op Historically a l u = a ≡ 0
Op Once a l u = a ≡ 0
Op Since a l u = a ≡ 0

abbrev pub Timed : Kind → Type 0
Timed False = ⊥
Timed True = ⊥
Timed Atom = ⊥
Timed And = ⊥
Timed Or = ⊥
Timed Not = ⊥
Timed Implies = ⊥
Timed Historically = Unit {0}
Timed Once = Unit {0}
Timed Since = Unit {0}

-- an operator of this form takes this part and those that this form says, after n parts
abbrev pub Owes : Form → Form → ℕ → Type 0
Owes form.Many form.Many n = Unit {0}
Owes form.Many form.One n = ⊥
Owes form.Many form.Two n = ⊥
Owes form.One form.Many n = ⊥
Owes form.One form.One n = n ≡ 0
Owes form.One form.Two n = ⊥
Owes form.Two form.Many n = ⊥
Owes form.Two form.One n = n ≡ 1
Owes form.Two form.Two n = n ≡ 0

abbrev Takes : Form → ℕ → Type 0
Takes form.Many n = Unit {0}
Takes form.One n = n ≡ 1
Takes form.Two n = n ≡ 2

pub record FrameOk (f : Frame) (n : ℕ) : Type 0 where
  pub op : Op f.head.word f.head.atom f.head.lower f.head.upper
  pub owes : Owes (form_of f.head.word) f.form n
  pub good : Good f.parts

abbrev pub Frames : List Frame → Type 0
Frames [] = Unit {0}
Frames (f ∷ fs) = FrameOk f (count f.parts) × Frames fs

abbrev pub AfterOk : List Frame → Type 0
AfterOk [] = ⊥
AfterOk (f ∷ fs) = ((n : ℕ) × (count f.parts ≡ suc n) × FrameOk f n) × Frames fs

abbrev pub FirstOk : List Frame → Type 0
FirstOk [] = ⊥
FirstOk (f ∷ fs) = (f.parts ≡ none) × (form_of f.head.word ≡ form.Many)

abbrev pub ModeOk : Mode → List Frame → Bool → ℕ → Type 0
ModeOk mode.Count o s n = o ≡ []
ModeOk mode.Begin o s n = Frames o × (0 < n)
ModeOk mode.First o s n = Frames o × (0 < n) × FirstOk o
ModeOk mode.After o s n = AfterOk o × (0 < n)
ModeOk mode.Atom o s n = Frames o × (0 < n)
ModeOk (mode.Left w) o s n = Frames o × (0 < n) × Timed w
ModeOk (mode.Lower w) o s n = Frames o × (0 < n) × Timed w
ModeOk (mode.Comma w l) o s n = Frames o × (0 < n) × Timed w
ModeOk (mode.Upper w l) o s n = Frames o × (0 < n) × Timed w
ModeOk (mode.Right w l u) o s n = Frames o × (0 < n) × Timed w
ModeOk (mode.Open w l u) o s n = Frames o × (0 < n) × Op w 0 l u
ModeOk mode.Over o s n = (o ≡ []) × (n ≡ 0) × (s ≡ true)

pub record Ok (m : Mode) (o : List Frame) (s : Bool) (n : ℕ) (h b : Forest) : Type 0 where
  pub mode : ModeOk m o s n
  pub here : Good h
  pub past : Good b

-- the last of symbols that follow one
unfoldable last_of : Symbol → List Symbol → Symbol
last_of c [] = c
last_of c (y ∷ ys) = last_of y ys

-- a symbol is read on
record Onto (old : List Symbol) (y : Symbol) (m : Mode) (o : List Frame) (s : Bool) (n : ℕ) (h b : Forest) : Type 0 where
  ok : Ok m o s n h b
  wrote : Symbol
  alike : starred_one (is_comma (last_of End old)) y ≡ wrote
  said : so_far m o s n h b ≡ old ++ (wrote ∷ [])

abbrev Stepped : Forest → Forest → List Symbol → Symbol → Step → Type 0
Stepped h b old y refused = Unit {0}
Stepped h b old y (going q) = Onto old y q.mode q.stack q.second q.left q.here q.before
Stepped h b old y ended = (y ≡ End) × (old ≡ section 0 b ++ section 0 h)

-- ---- a line of the table
pub by_symbol : (P : Symbol → Turn → Type 0) (nm : Kind → Turn) (nu : ℕ → Turn) (l r o c k s e : Turn) → ((w : Kind) → P (Name w) (nm w)) → ((n : ℕ) → P (Number n) (nu n)) → P Left l → P Right r → P Opens o → P Closes c → P Comma k → P Star s → P Bad Refused → P End e → (y : Symbol) → P y (on nm nu l r o c k s e y)
by_symbol P nm nu l r o c k s e a1 a2 a3 a4 a5 a6 a7 a8 a9 a10 (Name w) = a1 w
by_symbol P nm nu l r o c k s e a1 a2 a3 a4 a5 a6 a7 a8 a9 a10 (Number n) = a2 n
by_symbol P nm nu l r o c k s e a1 a2 a3 a4 a5 a6 a7 a8 a9 a10 Left = a3
by_symbol P nm nu l r o c k s e a1 a2 a3 a4 a5 a6 a7 a8 a9 a10 Right = a4
by_symbol P nm nu l r o c k s e a1 a2 a3 a4 a5 a6 a7 a8 a9 a10 Opens = a5
by_symbol P nm nu l r o c k s e a1 a2 a3 a4 a5 a6 a7 a8 a9 a10 Closes = a6
by_symbol P nm nu l r o c k s e a1 a2 a3 a4 a5 a6 a7 a8 a9 a10 Comma = a7
by_symbol P nm nu l r o c k s e a1 a2 a3 a4 a5 a6 a7 a8 a9 a10 Star = a8
by_symbol P nm nu l r o c k s e a1 a2 a3 a4 a5 a6 a7 a8 a9 a10 Bad = a9
by_symbol P nm nu l r o c k s e a1 a2 a3 a4 a5 a6 a7 a8 a9 a10 End = a10

-- ---- writing, one property more
snoc : (x y z : List Symbol) (w : Symbol) → x ++ (y ++ (z ++ (w ∷ []))) ≡ (x ++ (y ++ z)) ++ (w ∷ [])
snoc x y z w = simp append_assoc

written_more : (c : List Symbol) (p : Forest) (h : Head) (q : Forest) → written c c (p then one h q) ≡ written c c p ++ (c ++ one_said h (written [] commas q))
unfolding written ◌then◌
written_more c none h q = simp append-nil
written_more c (tree i k s) h q = rw (written_more c s h q) (simp append_assoc)

trailed_more : (p : Forest) (h : Head) (q : Forest) → written [] commas (p then one h q) ≡ trailed p ++ one_said h (written [] commas q)
unfolding written trailed ◌then◌
trailed_more none h q = append-nil (one_said h (written [] commas q))
trailed_more (tree i k none) h q = simp (append-nil, append_assoc)
trailed_more (tree i k (tree j l s)) h q =
    ap (λ (x : List Symbol). one_said i (written [] commas k) ++ (Comma ∷ x)) (trailed_more (tree j l s) h q)
    ∙ sym (append_assoc (one_said i (written [] commas k)) (Comma ∷ trailed (tree j l s)) (one_said h (written [] commas q)))

-- a comma after the parts
trailed_comma : (p : Forest) → 0 < count p → trailed p ≡ written [] commas p ++ (Comma ∷ [])
unfolding written trailed count
trailed_comma none h = absurd (omega arith)
trailed_comma (tree i k none) h = rw (append-nil (one_said i (written [] commas k)))
trailed_comma (tree i k (tree j l s)) h = rw (trailed_comma (tree j l s) (omega arith)) (simp append_assoc)

comma_said : (x y z w : List Symbol) → x ++ ((y ++ (z ++ (w ++ (Comma ∷ [])))) ++ []) ≡ (x ++ ((y ++ (z ++ w)) ++ [])) ++ (Comma ∷ [])
comma_said x y z w = simp (append-nil, append_assoc)

-- ---- laws of properties in a row
count_more : (p : Forest) (h : Head) (q : Forest) → count (p then one h q) ≡ suc (count p)
unfolding count ◌then◌
count_more none h q = refl
count_more (tree i k s) h q = ap suc (count_more s h q)

good_more : (p : Forest) (h : Head) (q : Forest) → Good p → Good (one h q) → Good (p then one h q)
unfolding ◌then◌
good_more none h q g k = k
good_more (tree i l s) h q g k = (g.0, g.1, good_more s h q g.2 k)

sections_more : (s : Bool) (n : ℕ) (h b : Forest) (i : Head) (p : Forest) → sections s n (h then one i p) b ≡ sections s (suc n) h b ++ one_said i (written [] commas p)
sections_more false n h b i p =
    let e : count (h then one i p) + n ≡ count h + suc n = omega (arith, count_more h i p) in
    rw (e, written_more [] h i p)
sections_more true n h b i p =
    let e : count (h then one i p) + n ≡ count h + suc n = omega (arith, count_more h i p) in
    rw (e, written_more [] h i p) (sym (append_assoc (section 0 b) (section (suc n) h) (one_said i (written [] commas p))))

-- ---- symbols and heads
-- a symbol that is written as it stands there
abbrev Keeps : List Symbol → Symbol → Type 0
Keeps old y = starred_one (is_comma (last_of End old)) y ≡ y

as_it_is : (old : List Symbol) (y : Symbol) → plainly y ≡ y → Keeps old y
as_it_is old y e = by_test (is_comma (last_of End old))
  where
    by_test : (t : Bool) → starred_one t y ≡ y
    by_test true = e
    by_test false = refl

last_append : (c : Symbol) (x y : List Symbol) → last_of c (x ++ y) ≡ last_of (last_of c x) y
unfolding last_of
last_append c [] y = refl
last_append c (z ∷ x) y = last_append z x y

-- after a head that ends in this symbol
last_in : (x y z : List Symbol) → last_of End (x ++ (y ++ z)) ≡ last_of (last_of (last_of End x) y) z
last_in x y z = last_append End x (y ++ z) ∙ last_append (last_of End x) y z

-- no property ends in a comma
no_parts : (p : Forest) → count p ≡ 0 → p ≡ none
unfolding count
no_parts none e = refl
no_parts (tree h p s) e = absurd (omega arith)

last_shut : (c : Symbol) (x y : List Symbol) → is_comma (last_of c (x ++ (y ++ (Closes ∷ [])))) ≡ false
unfolding last_of
last_shut c x y = rw (last_append c x (y ++ (Closes ∷ [])), last_append (last_of c x) y (Closes ∷ []))

last_one : (c : Symbol) (w : Kind) (a l u : ℕ) (p : Forest) → Fit w a l u (count p) → is_comma (last_of c (one_said (head_of w a l u) (written [] commas p))) ≡ false
unfolding one_said head_said shut written last_of
last_one c False a l u p t = rw (no_parts p t.0)
last_one c True a l u p t = rw (no_parts p t.0)
last_one c Atom a l u p t = rw (no_parts p t.0)
last_one c And a l u p t = last_shut c (head_all (head_of And a l u)) (written [] commas p)
last_one c Or a l u p t = last_shut c (head_all (head_of Or a l u)) (written [] commas p)
last_one c Not a l u p t = last_shut c (head_all (head_of Not a l u)) (written [] commas p)
last_one c Implies a l u p t = last_shut c (head_all (head_of Implies a l u)) (written [] commas p)
last_one c Historically a l u p t = last_shut c (head_all (head_of Historically a l u)) (written [] commas p)
last_one c Once a l u p t = last_shut c (head_all (head_of Once a l u)) (written [] commas p)
last_one c Since a l u p t = last_shut c (head_all (head_of Since a l u)) (written [] commas p)

last_section : (b : Forest) → Good b → (c : Symbol) → is_comma c ≡ false → is_comma (last_of c (written [] [] b)) ≡ false
unfolding written last_of
last_section none g c e = e
last_section (tree h p s) g c e =
    rw (last_append c (one_said h (written [] commas p)) (written [] [] s))
    (last_section s g.2 (last_of c (one_said h (written [] commas p))) (last_one c h.word h.atom h.lower h.upper p g.0))

before_keeps : (s : Bool) (b : Forest) (m : ℕ) → Good b → Keeps (before s b) (Number m)
unfolding last_of
before_keeps false b m g = refl
before_keeps true b m g = rw (last_section b g (Number (count b + 0)) refl)

-- ---- states
abbrev pub OkOf : State → Type 0
OkOf q = Ok q.mode q.stack q.second q.left q.here q.before

abbrev so_far_of : State → List Symbol
so_far_of q = so_far q.mode q.stack q.second q.left q.here q.before

between_ok : (s : Bool) (n : ℕ) (h b : Forest) → Good h → Good b → OkOf (between s n h b)
between_ok s (suc n) h b g k = record { mode = (tt, omega arith); here = g; past = k }
between_ok false zero h b g k = record { mode = refl; here = tt; past = g }
between_ok true zero h b g k = record { mode = (refl, refl, refl); here = g; past = k }

between_said : (s : Bool) (n : ℕ) (h b : Forest) → so_far_of (between s n h b) ≡ sections s n h b
unfolding opened
between_said s (suc n) h b = append-nil (sections s (suc n) h b)
between_said false zero h b = refl
between_said true zero h b = append-nil (sections true 0 h b)

counted_said : (s : Bool) (m : ℕ) (b : Forest) → sections s m none b ≡ before s b ++ (Number m ∷ [])
unfolding written count
counted_said false m b = let e : 0 + m ≡ m = omega arith in rw e
counted_said true m b = let e : 0 + m ≡ m = omega arith in rw e

max_star : upper_said MAX ≡ Star
unfolding pick
max_star = refl

onto : (old : List Symbol) (y : Symbol) → Keeps old y → (q : State) → OkOf q → so_far_of q ≡ old ++ (y ∷ []) → Onto old y q.mode q.stack q.second q.left q.here q.before
onto old y a q k e = record { ok = k; wrote = y; alike = a; said = e }

-- a property is complete
finish : (o : List Frame) (s : Bool) (n : ℕ) (h b : Forest) (i : Head) (p : Forest) (old : List Symbol) (y : Symbol) → Keeps old y → Good (one i p) → Frames o → 0 < n → Good h → Good b → sections s n h b ++ (opened o ++ one_said i (written [] commas p)) ≡ old ++ (y ∷ []) → Stepped h b old y (going (completed (one i p) o s n h b))
unfolding opened
finish [] s zero h b i p old y a g k l gh gb e = absurd (omega arith)
finish [] s (suc n) h b i p old y a g k l gh gb e =
    onto old y a (between s n (h then one i p) b) (between_ok s n (h then one i p) b (good_more h i p gh g) gb) (between_said s n (h then one i p) b ∙ sections_more s n h b i p ∙ e)
finish (f ∷ fs) s n h b i p old y a g k l gh gb e =
    onto old y a (state_of mode.After (frame_of f.head f.form (f.parts then one i p) ∷ fs) s n h b)
    (record {
      mode = (((count f.parts, count_more f.parts i p, record { op = k.0.op; owes = k.0.owes; good = good_more f.parts i p k.0.good g }), k.1), l);
      here = gh;
      past = gb;
    })
    (rw (trailed_more f.parts i p) (simp append-nil (simp append_assoc at e)))

-- ---- a symbol, by what is wanted
module _ (o : List Frame) (s : Bool) (n : ℕ) (h b : Forest) (gh : Good h) (gb : Good b) where
  abbrev st : Mode → State
  st m = state_of m o s n h b

  module _ (k : Frames o) (l : 0 < n) where
    -- one symbol more of a head
    onward_in : (m : Mode) (x : List Symbol) (y : Symbol) → Keeps (sections s n h b ++ (opened o ++ x)) y → OkOf (st m) → so_far_of (st m) ≡ sections s n h b ++ (opened o ++ (x ++ (y ∷ []))) → Stepped h b (sections s n h b ++ (opened o ++ x)) y (going (st m))
    onward_in m x y a g e = onto (sections s n h b ++ (opened o ++ x)) y a (st m) g (e ∙ snoc (sections s n h b) (opened o) x y)

    leaf : (w : Kind) (a : ℕ) (x : List Symbol) (y : Symbol) → Keeps (sections s n h b ++ (opened o ++ x)) y → Fit w a 0 0 0 → one_said (head_of w a 0 0) [] ≡ x ++ (y ∷ []) → Stepped h b (sections s n h b ++ (opened o ++ x)) y (going (completed (one (head_of w a 0 0) none) o s n h b))
    unfolding written count
    leaf w a x y j g e = finish o s n h b (head_of w a 0 0) none (sections s n h b ++ (opened o ++ x)) y j (g, tt, tt) k l gh gb (rw e (snoc (sections s n h b) (opened o) x y))

    begun_step : (w : Kind) → Stepped h b (sections s n h b ++ (opened o ++ [])) (Name w) (taken (begun w) o s n h b)
    unfolding one_said head_said shut
    begun_step False = leaf False 0 [] (Name False) (as_it_is (sections s n h b ++ (opened o ++ [])) (Name False) refl) (refl, refl, refl, refl) refl
    begun_step True = leaf True 0 [] (Name True) (as_it_is (sections s n h b ++ (opened o ++ [])) (Name True) refl) (refl, refl, refl, refl) refl
    begun_step Atom = onward_in mode.Atom [] (Name Atom) (as_it_is (sections s n h b ++ (opened o ++ [])) (Name Atom) refl) (record { mode = (k, l); here = gh; past = gb }) refl
    begun_step And = onward_in (mode.Open And 0 0) [] (Name And) (as_it_is (sections s n h b ++ (opened o ++ [])) (Name And) refl) (record { mode = (k, l, (refl, refl, refl)); here = gh; past = gb }) refl
    begun_step Or = onward_in (mode.Open Or 0 0) [] (Name Or) (as_it_is (sections s n h b ++ (opened o ++ [])) (Name Or) refl) (record { mode = (k, l, (refl, refl, refl)); here = gh; past = gb }) refl
    begun_step Not = onward_in (mode.Open Not 0 0) [] (Name Not) (as_it_is (sections s n h b ++ (opened o ++ [])) (Name Not) refl) (record { mode = (k, l, (refl, refl, refl)); here = gh; past = gb }) refl
    begun_step Implies = onward_in (mode.Open Implies 0 0) [] (Name Implies) (as_it_is (sections s n h b ++ (opened o ++ [])) (Name Implies) refl) (record { mode = (k, l, (refl, refl, refl)); here = gh; past = gb }) refl
    begun_step Historically = onward_in (mode.Left Historically) [] (Name Historically) (as_it_is (sections s n h b ++ (opened o ++ [])) (Name Historically) refl) (record { mode = (k, l, tt); here = gh; past = gb }) refl
    begun_step Once = onward_in (mode.Left Once) [] (Name Once) (as_it_is (sections s n h b ++ (opened o ++ [])) (Name Once) refl) (record { mode = (k, l, tt); here = gh; past = gb }) refl
    begun_step Since = onward_in (mode.Left Since) [] (Name Since) (as_it_is (sections s n h b ++ (opened o ++ [])) (Name Since) refl) (record { mode = (k, l, tt); here = gh; past = gb }) refl

    -- an upper bound, in digits or not
    upper_step : (w : Kind) (x u : ℕ) (y : Symbol) → Timed w → plainly y ≡ upper_said u → Stepped h b (so_far_of (st (mode.Upper w x))) y (going (st (mode.Right w x u)))
    unfolding last_of
    upper_step w x u y t e = record {
      ok = record { mode = (k, l, t); here = gh; past = gb };
      wrote = upper_said u;
      alike = rw (last_in (sections s n h b) (opened o) (mode_said (mode.Upper w x))) e;
      said = snoc (sections s n h b) (opened o) (mode_said (mode.Upper w x)) (upper_said u);
    }

    right_step : (w : Kind) (x u : ℕ) → Timed w → Stepped h b (so_far_of (st (mode.Right w x u))) Right (going (st (mode.Open w x u)))
    right_step Historically x u t = onward_in (mode.Open Historically x u) (mode_said (mode.Right Historically x u)) Right (as_it_is (so_far_of (st (mode.Right Historically x u))) Right refl) (record { mode = (k, l, refl); here = gh; past = gb }) refl
    right_step Once x u t = onward_in (mode.Open Once x u) (mode_said (mode.Right Once x u)) Right (as_it_is (so_far_of (st (mode.Right Once x u))) Right refl) (record { mode = (k, l, refl); here = gh; past = gb }) refl
    right_step Since x u t = onward_in (mode.Open Since x u) (mode_said (mode.Right Since x u)) Right (as_it_is (so_far_of (st (mode.Right Since x u))) Right refl) (record { mode = (k, l, refl); here = gh; past = gb }) refl
    right_step False x u t = elim t [ ]
    right_step True x u t = elim t [ ]
    right_step Atom x u t = elim t [ ]
    right_step And x u t = elim t [ ]
    right_step Or x u t = elim t [ ]
    right_step Not x u t = elim t [ ]
    right_step Implies x u t = elim t [ ]

    -- a bracket opens
    head_all_lem : (w : Kind) (x u : ℕ) → Op w 0 x u → head_all (head_of w 0 x u) ≡ mode_said (mode.Open w x u) ++ (Opens ∷ [])
    unfolding head_said
    head_all_lem And x u t = refl
    head_all_lem Or x u t = refl
    head_all_lem Not x u t = refl
    head_all_lem Implies x u t = refl
    head_all_lem Historically x u t = refl
    head_all_lem Once x u t = refl
    head_all_lem Since x u t = refl
    head_all_lem False x u t = elim t [ ]
    head_all_lem True x u t = elim t [ ]
    head_all_lem Atom x u t = elim t [ ]

    first_owes : (f : Form) → Owes f f 0
    first_owes form.Many = tt
    first_owes form.One = refl
    first_owes form.Two = refl

    open_step : (w : Kind) (x u : ℕ) → Op w 0 x u → Stepped h b (so_far_of (st (mode.Open w x u))) Opens (taken (Open w x u) o s n h b)
    unfolding opened trailed count
    open_step w x u t = by_form (form_of w) refl
      where
        new : Frame
        new = frame_of (head_of w 0 x u) (form_of w) none

        frames : Frames (frame_of (head_of w 0 x u) (form_of w) none ∷ o)
        frames = (record { op = t; owes = first_owes (form_of w); good = tt }, k)

        said : sections s n h b ++ (opened (frame_of (head_of w 0 x u) (form_of w) none ∷ o) ++ []) ≡ so_far_of (st (mode.Open w x u)) ++ (Opens ∷ [])
        said = ap (λ (z : List Symbol). sections s n h b ++ ((opened o ++ (z ++ [])) ++ [])) (head_all_lem w x u t) ∙ simp (append-nil, append_assoc)

        by_form : (f : Form) → form_of w ≡ f → Stepped h b (so_far_of (st (mode.Open w x u))) Opens (going (state_of (first_mode f) (frame_of (head_of w 0 x u) (form_of w) none ∷ o) s n h b))
        by_form form.Many e = onto (so_far_of (st (mode.Open w x u))) Opens (as_it_is (so_far_of (st (mode.Open w x u))) Opens refl) (state_of mode.First (frame_of (head_of w 0 x u) (form_of w) none ∷ o) s n h b) (record { mode = (frames, l, (refl, e)); here = gh; past = gb }) said
        by_form form.One e = onto (so_far_of (st (mode.Open w x u))) Opens (as_it_is (so_far_of (st (mode.Open w x u))) Opens refl) (state_of mode.Begin (frame_of (head_of w 0 x u) (form_of w) none ∷ o) s n h b) (record { mode = (frames, l); here = gh; past = gb }) said
        by_form form.Two e = onto (so_far_of (st (mode.Open w x u))) Opens (as_it_is (so_far_of (st (mode.Open w x u))) Opens refl) (state_of mode.Begin (frame_of (head_of w 0 x u) (form_of w) none ∷ o) s n h b) (record { mode = (frames, l); here = gh; past = gb }) said

-- a part is over
takes_one : (w : Kind) (f : Form) (n : ℕ) → closing f ≡ Close → Owes (form_of w) f n → Takes (form_of w) (suc n)
takes_one w f n = by_forms (form_of w) f
  where
    by_forms : (g f : Form) → closing f ≡ Close → Owes g f n → Takes g (suc n)
    by_forms form.Many form.Many c e = tt
    by_forms form.One form.One c e = omega arith
    by_forms form.Two form.One c e = omega arith
    by_forms form.Two form.Two c e = let z : ◌≡◌ {A = ℕ} 0 1 = cc in absurd (omega arith)
    by_forms form.Many form.One c e = elim e [ ]
    by_forms form.Many form.Two c e = elim e [ ]
    by_forms form.One form.Many c e = elim e [ ]
    by_forms form.One form.Two c e = elim e [ ]
    by_forms form.Two form.Many c e = elim e [ ]

owes_more : (w : Kind) (f : Form) (n : ℕ) → parting f ≡ Part → Owes (form_of w) f n → Owes (form_of w) (parted f) (suc n)
owes_more w f n = by_forms (form_of w) f
  where
    by_forms : (g f : Form) → parting f ≡ Part → Owes g f n → Owes g (parted f) (suc n)
    by_forms form.Many form.Many c e = tt
    by_forms form.One form.One c e = let z : ◌≡◌ {A = ℕ} 0 1 = cc in absurd (omega arith)
    by_forms form.Two form.One c e = let z : ◌≡◌ {A = ℕ} 0 1 = cc in absurd (omega arith)
    by_forms form.Two form.Two c e = omega arith
    by_forms form.Many form.One c e = elim e [ ]
    by_forms form.Many form.Two c e = elim e [ ]
    by_forms form.One form.Many c e = elim e [ ]
    by_forms form.One form.Two c e = elim e [ ]
    by_forms form.Two form.Many c e = elim e [ ]

fit_of : (w : Kind) (a l u n : ℕ) → Op w a l u → Takes (form_of w) n → Fit w a l u n
fit_of And a l u n p t = p
fit_of Or a l u n p t = p
fit_of Not a l u n p t = (t, p.0, p.1, p.2)
fit_of Implies a l u n p t = (t, p.0, p.1, p.2)
fit_of Historically a l u n p t = (t, p)
fit_of Once a l u n p t = (t, p)
fit_of Since a l u n p t = (t, p)
fit_of False a l u n p t = elim p [ ]
fit_of True a l u n p t = elim p [ ]
fit_of Atom a l u n p t = elim p [ ]

shuts : (w : Kind) (a l u : ℕ) → Op w a l u → shut w ≡ Closes ∷ []
unfolding shut
shuts And a l u p = refl
shuts Or a l u p = refl
shuts Not a l u p = refl
shuts Implies a l u p = refl
shuts Historically a l u p = refl
shuts Once a l u p = refl
shuts Since a l u p = refl
shuts False a l u p = elim p [ ]
shuts True a l u p = elim p [ ]
shuts Atom a l u p = elim p [ ]

module _ (i : Head) (f : Form) (p : Forest) (fs : List Frame) (s : Bool) (n : ℕ) (h b : Forest) (gh : Good h) (gb : Good b) (k : Frames fs) (l : 0 < n) where
  close_step : Op i.word i.atom i.lower i.upper → Takes (form_of i.word) (count p) → Good p → Stepped h b (sections s n h b ++ ((opened fs ++ (head_all i ++ written [] commas p)) ++ [])) Closes (going (completed (one i p) fs s n h b))
  unfolding one_said
  close_step o t g =
      finish fs s n h b i p (sections s n h b ++ ((opened fs ++ (head_all i ++ written [] commas p)) ++ [])) Closes (as_it_is (sections s n h b ++ ((opened fs ++ (head_all i ++ written [] commas p)) ++ [])) Closes refl) (fit_of i.word i.atom i.lower i.upper (count p) o t, g, tt) k l gh gb
      (ap (λ (z : List Symbol). sections s n h b ++ (opened fs ++ (head_all i ++ (written [] commas p ++ z)))) (shuts i.word i.atom i.lower i.upper o) ∙ simp (append-nil, append_assoc))

  after_close : (m : ℕ) → count p ≡ suc m → FrameOk (frame_of i f p) m → Stepped h b (so_far_of (state_of mode.After (frame_of i f p ∷ fs) s n h b)) Closes (taken (closing f) (frame_of i f p ∷ fs) s n h b)
  after_close m e t = by_form f refl
    where
      by_form : (g : Form) → f ≡ g → Stepped h b (so_far_of (state_of mode.After (frame_of i f p ∷ fs) s n h b)) Closes (taken (closing g) (frame_of i f p ∷ fs) s n h b)
      by_form form.Many c = close_step t.op (rw e (takes_one i.word f m (rw c) t.owes)) t.good
      by_form form.One c = close_step t.op (rw e (takes_one i.word f m (rw c) t.owes)) t.good
      by_form form.Two c = tt

  after_comma : (m : ℕ) → count p ≡ suc m → FrameOk (frame_of i f p) m → Stepped h b (so_far_of (state_of mode.After (frame_of i f p ∷ fs) s n h b)) Comma (taken (parting f) (frame_of i f p ∷ fs) s n h b)
  unfolding opened
  after_comma m e t = by_form f refl
    where
      next : parting f ≡ Part → Stepped h b (so_far_of (state_of mode.After (frame_of i f p ∷ fs) s n h b)) Comma (going (state_of mode.Begin (frame_of i (parted f) p ∷ fs) s n h b))
      next c =
          onto (so_far_of (state_of mode.After (frame_of i f p ∷ fs) s n h b)) Comma (as_it_is (so_far_of (state_of mode.After (frame_of i f p ∷ fs) s n h b)) Comma refl) (state_of mode.Begin (frame_of i (parted f) p ∷ fs) s n h b)
          (record { mode = ((record { op = t.op; owes = rw e (owes_more i.word f m c t.owes); good = t.good }, k), l); here = gh; past = gb })
          (ap (λ (z : List Symbol). sections s n h b ++ ((opened fs ++ (head_all i ++ z)) ++ [])) (trailed_comma p (omega arith)) ∙ comma_said (sections s n h b) (opened fs) (head_all i) (written [] commas p))

      by_form : (g : Form) → f ≡ g → Stepped h b (so_far_of (state_of mode.After (frame_of i f p ∷ fs) s n h b)) Comma (taken (parting g) (frame_of i f p ∷ fs) s n h b)
      by_form form.Many c = next (rw c)
      by_form form.One c = tt
      by_form form.Two c = next (rw c)

-- ---- every symbol
first_step : (o : List Frame) (s : Bool) (n : ℕ) (h b : Forest) → Good h → Good b → Frames o → 0 < n → FirstOk o → Stepped h b (so_far_of (state_of mode.First o s n h b)) Closes (taken Close o s n h b)
unfolding opened trailed written count
first_step (f ∷ fs) s n h b gh gb k l q =
    rw q.0 (close_step f.head f.form none fs s n h b gh gb k.1 l k.0.op (rw q.1 tt) tt)
first_step [] s n h b gh gb k l q = elim q [ ]

sound : (m : Mode) (o : List Frame) (s : Bool) (n : ℕ) (h b : Forest) → Ok m o s n h b → (y : Symbol) → Stepped h b (so_far m o s n h b) y (taken (turn m (form_in o) y) o s n h b)
unfolding one_said head_said shut written opened last_of
sound mode.Count o s n h b k = by_symbol (λ y t. Stepped h b (before s b) y (taken t o s n h b)) _ _ _ _ _ _ _ _ _ (λ w. tt) (λ m. onto (before s b) (Number m) (before_keeps s b m k.past) (between s m none b) (between_ok s m none b tt k.past) (between_said s m none b ∙ counted_said s m b)) tt tt tt tt tt tt tt tt
sound mode.Begin o s n h b k = by_symbol (λ y t. Stepped h b (so_far mode.Begin o s n h b) y (taken t o s n h b)) _ _ _ _ _ _ _ _ _ (λ w. begun_step o s n h b k.here k.past k.mode.0 k.mode.1 w) (λ m. tt) tt tt tt tt tt tt tt tt
sound mode.First o s n h b k = by_symbol (λ y t. Stepped h b (so_far mode.First o s n h b) y (taken t o s n h b)) _ _ _ _ _ _ _ _ _ (λ w. begun_step o s n h b k.here k.past k.mode.0 k.mode.1 w) (λ m. tt) tt tt tt (first_step o s n h b k.here k.past k.mode.0 k.mode.1 k.mode.2) tt tt tt tt
sound mode.After [] s n h b k = absurd k.mode.0
sound mode.After (f ∷ o) s n h b k =
    let a = k.mode.0.0 in
    by_symbol (λ y t. Stepped h b (so_far mode.After (f ∷ o) s n h b) y (taken t (f ∷ o) s n h b)) _ _ _ _ _ _ _ _ _ (λ w. tt) (λ m. tt) tt tt tt
    (after_close f.head f.form f.parts o s n h b k.here k.past k.mode.0.1 k.mode.1 a.0 a.1 a.2)
    (after_comma f.head f.form f.parts o s n h b k.here k.past k.mode.0.1 k.mode.1 a.0 a.1 a.2) tt tt tt
sound mode.Atom o s n h b k = by_symbol (λ y t. Stepped h b (so_far mode.Atom o s n h b) y (taken t o s n h b)) _ _ _ _ _ _ _ _ _ (λ w. tt) (λ m. leaf o s n h b k.here k.past k.mode.0 k.mode.1 Atom m (Name Atom ∷ []) (Number m) (rw (last_in (sections s n h b) (opened o) (Name Atom ∷ []))) (refl, refl, refl) refl) tt tt tt tt tt tt tt tt
sound (mode.Left w) o s n h b k = by_symbol (λ y t. Stepped h b (so_far (mode.Left w) o s n h b) y (taken t o s n h b)) _ _ _ _ _ _ _ _ _ (λ w. tt) (λ m. tt) (onward_in o s n h b k.here k.past k.mode.0 k.mode.1 (mode.Lower w) (mode_said (mode.Left w)) Left (as_it_is (so_far (mode.Left w) o s n h b) Left refl) (record { mode = k.mode; here = k.here; past = k.past }) refl) tt tt tt tt tt tt tt
sound (mode.Lower w) o s n h b k = by_symbol (λ y t. Stepped h b (so_far (mode.Lower w) o s n h b) y (taken t o s n h b)) _ _ _ _ _ _ _ _ _ (λ w. tt) (λ m. onward_in o s n h b k.here k.past k.mode.0 k.mode.1 (mode.Comma w m) (mode_said (mode.Lower w)) (Number m) (rw (last_in (sections s n h b) (opened o) (mode_said (mode.Lower w)))) (record { mode = k.mode; here = k.here; past = k.past }) refl) tt tt tt tt tt tt tt tt
sound (mode.Comma w l) o s n h b k = by_symbol (λ y t. Stepped h b (so_far (mode.Comma w l) o s n h b) y (taken t o s n h b)) _ _ _ _ _ _ _ _ _ (λ w. tt) (λ m. tt) tt tt tt tt (onward_in o s n h b k.here k.past k.mode.0 k.mode.1 (mode.Upper w l) (mode_said (mode.Comma w l)) Comma (as_it_is (so_far (mode.Comma w l) o s n h b) Comma refl) (record { mode = k.mode; here = k.here; past = k.past }) refl) tt tt tt
sound (mode.Upper w l) o s n h b k = by_symbol (λ y t. Stepped h b (so_far (mode.Upper w l) o s n h b) y (taken t o s n h b)) _ _ _ _ _ _ _ _ _ (λ w. tt) (λ m. upper_step o s n h b k.here k.past k.mode.0 k.mode.1 w l m (Number m) k.mode.2 refl) tt tt tt tt tt (upper_step o s n h b k.here k.past k.mode.0 k.mode.1 w l MAX Star k.mode.2 (sym max_star)) tt tt
sound (mode.Right w l u) o s n h b k = by_symbol (λ y t. Stepped h b (so_far (mode.Right w l u) o s n h b) y (taken t o s n h b)) _ _ _ _ _ _ _ _ _ (λ w. tt) (λ m. tt) tt (right_step o s n h b k.here k.past k.mode.0 k.mode.1 w l u k.mode.2) tt tt tt tt tt tt
sound (mode.Open w l u) o s n h b k = by_symbol (λ y t. Stepped h b (so_far (mode.Open w l u) o s n h b) y (taken t o s n h b)) _ _ _ _ _ _ _ _ _ (λ w. tt) (λ m. tt) tt tt (open_step o s n h b k.here k.past k.mode.0 k.mode.1 w l u k.mode.2) tt tt tt tt tt
sound mode.Over o s n h b k = by_symbol (λ y t. Stepped h b (so_far mode.Over o s n h b) y (taken t o s n h b)) _ _ _ _ _ _ _ _ _ (λ w. tt) (λ m. tt) tt tt tt tt tt tt tt (rw k.mode.0 (refl, rw (k.mode.1, k.mode.2) (append-nil (section 0 b ++ section 0 h))))

file_said_lem : (a g : Forest) → (section 0 a ++ section 0 g) ++ (End ∷ []) ≡ file_said a g
unfolding file_said
file_said_lem a g =
    let e : count a + 0 ≡ count a = omega arith in
    let f : count g + 0 ≡ count g = omega arith in
    append_assoc (section 0 a) (section 0 g) (End ∷ []) ∙ rw (e, f)

-- ---- a text that is accepted
pub record Accepted (ss : List Symbol) (ps : List Placed) (a g : Forest) : Type 0 where
  pub assumes : Good a
  pub guarantees : Good g
  pub read : List Symbol
  pub rest : List Symbol
  pub others : List Symbol
  pub ends : read ≡ others ++ (End ∷ [])
  pub whole : map (λ (p : Placed). p.symbol) ps ≡ read ++ rest
  pub said : starred End (ss ++ read) ≡ file_said a g

starred_append : (c : Symbol) (x y : List Symbol) → starred c (x ++ y) ≡ starred c x ++ starred (last_of c x) y
unfolding starred last_of
starred_append c [] y = refl
starred_append c (z ∷ x) y = ap (λ (l : List Symbol). starred_one (is_comma c) z ∷ l) (starred_append z x y)

-- a comma stays one, and nothing else becomes one
comma_stays : (t : Bool) (y : Symbol) → is_comma (starred_one t y) ≡ is_comma y
unfolding pick
comma_stays false y = refl
comma_stays true (Name w) = refl
comma_stays true (Number n) = by_test (eqb n MAX)
  where
    by_test : (u : Bool) → is_comma (pick u Star (Number n)) ≡ false
    by_test true = refl
    by_test false = refl
comma_stays true Left = refl
comma_stays true Right = refl
comma_stays true Opens = refl
comma_stays true Closes = refl
comma_stays true Comma = refl
comma_stays true Star = refl
comma_stays true Bad = refl
comma_stays true End = refl

last_starred : (c d : Symbol) (x : List Symbol) → is_comma c ≡ is_comma d → is_comma (last_of d (starred c x)) ≡ is_comma (last_of c x)
unfolding starred last_of
last_starred c d [] e = sym e
last_starred c d (y ∷ x) e = last_starred y (starred_one (is_comma c) y) x (sym (comma_stays (is_comma c) y))

-- one symbol more
one_starred : (x old : List Symbol) (y w : Symbol) → starred End x ≡ old → starred_one (is_comma (last_of End old)) y ≡ w → starred End (x ++ (y ∷ [])) ≡ old ++ (w ∷ [])
unfolding starred
one_starred x old y w e f =
    starred_append End x (y ∷ [])
    ∙ ap (λ (l : List Symbol). l ++ (starred_one (is_comma (last_of End x)) y ∷ [])) e
    ∙ ap (λ (z : Symbol). old ++ (z ∷ [])) (ap (λ (t : Bool). starred_one t y) (sym (last_starred End End x refl) ∙ ap (λ (l : List Symbol). is_comma (last_of End l)) e) ∙ f)

accepts : (ps : List Placed) (r : State) (ss : List Symbol) (a g : Forest) → OkOf r → starred End ss ≡ so_far_of r → reading r ps ≡ read a g → Accepted ss ps a g
unfolding reading move
accepts [] r ss a g k e f = let z : ◌≡◌ {A = ℕ} 0 1 = cc in absurd (omega arith)
accepts (p ∷ ps) r ss a g k e f = by_step (taken (turn r.mode (form_in r.stack) p.symbol) r.stack r.second r.left r.here r.before) f (sound r.mode r.stack r.second r.left r.here r.before k p.symbol) (λ q tt ok e f. accepts ps q tt a g ok e f)
  where
    by_step : (m : Step) → onward m r p.at (λ q. reading q ps) ≡ read a g → Stepped r.here r.before (so_far_of r) p.symbol m → ((q : State) (tt : List Symbol) → OkOf q → starred End tt ≡ so_far_of q → reading q ps ≡ read a g → Accepted tt ps a g) → Accepted ss (p ∷ ps) a g
    by_step refused h t c = let z : ◌≡◌ {A = ℕ} 0 1 = cc in absurd (omega arith)
    by_step (going q) h t c =
        let u = c q (ss ++ (p.symbol ∷ [])) t.ok (one_starred ss (so_far_of r) p.symbol t.wrote e t.alike ∙ sym t.said) h in
        record {
          assumes = u.assumes;
          guarantees = u.guarantees;
          read = p.symbol ∷ u.read;
          rest = u.rest;
          others = p.symbol ∷ u.others;
          ends = ap (λ (z : List Symbol). p.symbol ∷ z) u.ends;
          whole = ap (λ (z : List Symbol). p.symbol ∷ z) u.whole;
          said = ap (starred End) (sym (append_assoc ss (p.symbol ∷ []) u.read)) ∙ u.said;
        }
    by_step ended h t c =
        let v : r.before ≡ a = cc in
        let w : r.here ≡ g = cc in
        record {
          assumes = rw (← v) k.past;
          guarantees = rw (← w) k.here;
          read = p.symbol ∷ [];
          rest = map (λ (p : Placed). p.symbol) ps;
          others = [];
          ends = ap (λ (z : Symbol). z ∷ []) t.0;
          whole = refl;
          said =
              one_starred ss (so_far_of r) p.symbol End e (rw t.0 (as_it_is (so_far_of r) End refl))
              ∙ ap (λ (z : List Symbol). z ++ (End ∷ [])) t.1
              ∙ rw (v, w) (file_said_lem a g);
        }

-- what is accepted is the writing of the properties that are read, but that an upper bound of the largest number may stand in digits
pub accepted : (ps : List Placed) (a g : Forest) → reading start ps ≡ read a g → Accepted [] ps a g
unfolding starred
accepted ps a g e = accepts ps start [] a g (record { mode = refl; here = tt; past = tt }) refl e

pub ok_start : OkOf start
ok_start = record { mode = refl; here = tt; past = tt }

pub ok_next : (r : State) → OkOf r → (y : Symbol) (q : State) → move r y ≡ going q → OkOf q
unfolding move
ok_next r k y q e =
    let t : Stepped r.here r.before (so_far_of r) y (going q) = rw e at (sound r.mode r.stack r.second r.left r.here r.before k y) in
    t.ok
