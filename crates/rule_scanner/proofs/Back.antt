-- Written properties are read back. Assumes nothing.
use Prim.Native.Nat.{ℕ, suc, ◌<◌}
use mathlib.Core.Path.{◌≡◌, refl, sym, ◌∙◌}
use mathlib.Core.Bool.{Bool, true, false}
use mathlib.Core.List.{List, [], ◌∷◌, ◌++◌, append-nil, append_assoc, map}
use native.Mathlib.Omega.{arith}
use lib.Dec.{eqb}
use borrow.Author.Tests.{eqb-true}
use Rattle.text.specs.Words.{pick}
use Rattle.numbers.specs.Limits.{MAX}
use Rattle.rule_scanner.specs.Symbols.{Placed}
use Rattle.trees.proofs.Built.{then_none, then_assoc}
use Rattle.trees.specs.Forest.{Head, head_of, Forest, none, tree, one, ◌then◌, count, Fit, Good}
use Rattle.rule_scanner.specs.Writing.{range_said, head_said, shut, one_said, written, file_said}
use Rattle.rule_scanner.specs.Reading.{parting, closing, form_of, first_mode, parted, Frame, frame_of, State, state_of, start, between, completed, Step, refused, going, ended, move, read, onward, reading}
use Rattle.book.specs.declared.kind.Kind.{Kind}
use Rattle.book.specs.declared.kind.Kind.TheVariants.{False, True, Atom, And, Or, Not, Implies, Historically, Once, Since}
use Rattle.rule_scanner.specs.declared.symbols.Symbol.{Symbol}
use Rattle.rule_scanner.specs.declared.symbols.Symbol.TheVariants.{Name, Number, Opens, Closes, Comma, End}
use Rattle.rule_scanner.specs.declared.turns.Mode.{Mode}
use Rattle.rule_scanner.specs.declared.turns.Mode.TheVariants as mode
use Rattle.rule_scanner.specs.declared.turns.Form.{Form}
use Rattle.rule_scanner.specs.declared.turns.Form.TheVariants as form
use Rattle.rule_scanner.specs.declared.turns.Turn.TheVariants.{Close, Part}

-- ---- symbols with no places
abbrev pub and_then : Step → (State → Step) → Step
and_then refused k = refused
and_then (going q) k = k q
and_then ended k = ended

-- what symbols make of a reader
unfoldable pub through : State → List Symbol → Step
through r [] = going r
through r (y ∷ ys) = and_then (move r y) (λ q. through q ys)

through_append : (ys zs : List Symbol) (r : State) → through r (ys ++ zs) ≡ and_then (through r ys) (λ q. through q zs)
unfolding through
through_append [] zs r = refl
through_append (y ∷ ys) zs r = by_step (move r y) (λ q. through_append ys zs q)
  where
    by_step : (m : Step) → ((q : State) → through q (ys ++ zs) ≡ and_then (through q ys) (λ q. through q zs)) → and_then m (λ q. through q (ys ++ zs)) ≡ and_then (and_then m (λ q. through q ys)) (λ q. through q zs)
    by_step refused f = refl
    by_step (going q) f = f q
    by_step ended f = refl

pub and_on : (r : State) (ys zs : List Symbol) {q : State} {m : Step} → through r ys ≡ going q → through q zs ≡ m → through r (ys ++ zs) ≡ m
and_on r ys zs e f = through_append ys zs r ∙ rw e f

-- ---- properties in a row
pub then_one : (q : Forest) (i : Head) (p k : Forest) → (q then one i p) then k ≡ q then tree i p k
unfolding ◌then◌
then_one q i p k = then_assoc q (one i p) k

-- ---- what an operator takes
abbrev Takes : Form → ℕ → Type 0
Takes form.Many n = Unit {0}
Takes form.One n = n ≡ 1
Takes form.Two n = n ≡ 2

-- the form after the commas between parts
abbrev last_form : Form → Forest → Form
last_form f none = f
last_form f (tree h p none) = f
last_form f (tree h p (tree i q s)) = last_form (parted f) (tree i q s)

comma_next : (f : Form) (n : ℕ) → Takes f (suc (suc n)) → (parting f ≡ Part) × Takes (parted f) (suc n)
comma_next form.Many n t = (refl, tt)
comma_next form.One n t = absurd (omega arith)
comma_next form.Two n t = (refl, omega arith)

closes_now : (f : Form) (p : Forest) → 0 < count p → Takes f (count p) → closing (last_form f p) ≡ Close
unfolding count
closes_now f none h t = absurd (omega arith)
closes_now form.Many (tree i q none) h t = refl
closes_now form.One (tree i q none) h t = refl
closes_now form.Two (tree i q none) h t = absurd (omega arith)
closes_now f (tree i q (tree j r s)) h t = closes_now (parted f) (tree j r s) (omega arith) (comma_next f (count s) t).1

-- ---- one property, given how its parts are read
module _ (o : List Frame) (sec : Bool) (n : ℕ) (hh bb : Forest) where
  abbrev In : Mode → Frame → State
  In m f = state_of m (f ∷ o) sec n hh bb

  -- parts are read into an open operator
  abbrev Inner : Forest → Type 0
  Inner p = (f : Form) → 0 < count p → Takes f (count p) → (g : Head) (q : Forest) → through (In mode.Begin (frame_of g f q)) (written [] (Comma ∷ []) p) ≡ going (In mode.After (frame_of g (last_form f p) (q then p)))

  closing_step : (f : Form) (g : Head) (p : Forest) → closing f ≡ Close → through (In mode.After (frame_of g f p)) (Closes ∷ []) ≡ going (completed (one g p) o sec n hh bb)
  unfolding through move
  closing_step f g p e = rw e

  as_begin : (f : Form) (k : Frame) (w : Kind) (zs : List Symbol) → through (In (first_mode f) k) (Name w ∷ zs) ≡ through (In mode.Begin k) (Name w ∷ zs)
  unfolding through move
  as_begin form.Many k w zs = refl
  as_begin form.One k w zs = refl
  as_begin form.Two k w zs = refl

  inside : (f : Form) (g : Head) (p : Forest) → Inner p → Takes f (count p) → through (In (first_mode f) (frame_of g f none)) (written [] (Comma ∷ []) p ++ (Closes ∷ [])) ≡ going (completed (one g p) o sec n hh bb)
  unfolding through move written one_said count ◌then◌
  inside form.Many g none i t = refl
  inside form.One g none i t = absurd (omega arith)
  inside form.Two g none i t = absurd (omega arith)
  inside f g (tree h p s) i t =
      as_begin f (frame_of g f none) h.word (((head_said h ++ (written [] (Comma ∷ []) p ++ shut h.word)) ++ written (Comma ∷ []) (Comma ∷ []) s) ++ (Closes ∷ []))
      ∙ and_on (In mode.Begin (frame_of g f none)) (written [] (Comma ∷ []) (tree h p s)) (Closes ∷ []) (i f (omega arith) t g none)
      (closing_step (last_form f (tree h p s)) g (tree h p s) (closes_now f (tree h p s) (omega arith) t))

  abbrev At : Mode → State
  At m = state_of m o sec n hh bb

  no_parts : (p : Forest) → count p ≡ 0 → p ≡ none
  unfolding count
  no_parts none e = refl
  no_parts (tree h p s) e = absurd (omega arith)

  range_read : (w : Kind) (l u : ℕ) (zs : List Symbol) → through (At (mode.Left w)) (range_said l u (Opens ∷ []) ++ zs) ≡ through (In (first_mode (form_of w)) (frame_of (head_of w 0 l u) (form_of w) none)) zs
  unfolding through move pick
  range_read w l u zs = by_test (eqb u MAX) refl
    where
      by_test : (t : Bool) → eqb u MAX ≡ t → through (At (mode.Left w)) (range_said l u (Opens ∷ []) ++ zs) ≡ through (In (first_mode (form_of w)) (frame_of (head_of w 0 l u) (form_of w) none)) zs
      by_test true e = let v : u ≡ MAX = eqb-true u MAX e in rw (e, v)
      by_test false e = rw e

  reads_one : (w : Kind) (a l u : ℕ) (p : Forest) → Inner p → Fit w a l u (count p) → through (At mode.Begin) (one_said (head_of w a l u) (written [] (Comma ∷ []) p)) ≡ going (completed (one (head_of w a l u) p) o sec n hh bb)
  unfolding through move one_said head_said shut written
  reads_one False a l u p i t = rw (no_parts p t.0, t.1, t.2, t.3)
  reads_one True a l u p i t = rw (no_parts p t.0, t.1, t.2, t.3)
  reads_one Atom a l u p i t = rw (no_parts p t.0, t.1, t.2)
  reads_one And a l u p i t = rw (t.0, t.1, t.2) (inside form.Many (head_of And 0 0 0) p i tt)
  reads_one Or a l u p i t = rw (t.0, t.1, t.2) (inside form.Many (head_of Or 0 0 0) p i tt)
  reads_one Not a l u p i t = rw (t.1, t.2, t.3) (inside form.One (head_of Not 0 0 0) p i t.0)
  reads_one Implies a l u p i t = rw (t.1, t.2, t.3) (inside form.Two (head_of Implies 0 0 0) p i t.0)
  reads_one Historically a l u p i t = rw t.1 (range_read Historically l u (written [] (Comma ∷ []) p ++ (Closes ∷ [])) ∙ inside form.One (head_of Historically 0 l u) p i t.0)
  reads_one Once a l u p i t = rw t.1 (range_read Once l u (written [] (Comma ∷ []) p ++ (Closes ∷ [])) ∙ inside form.One (head_of Once 0 l u) p i t.0)
  reads_one Since a l u p i t = rw t.1 (range_read Since l u (written [] (Comma ∷ []) p ++ (Closes ∷ [])) ∙ inside form.Two (head_of Since 0 l u) p i t.0)

-- ---- parts in an operator, properties in a section
comma_step : (o : List Frame) (sec : Bool) (n : ℕ) (hh bb : Forest) (g : Head) (f : Form) (q : Forest) (zs : List Symbol) → parting f ≡ Part → through (In o sec n hh bb mode.After (frame_of g f q)) (Comma ∷ zs) ≡ through (In o sec n hh bb mode.Begin (frame_of g (parted f) q)) zs
unfolding through move
comma_step o sec n hh bb g f q zs e = rw e

pub reads_parts : (p : Forest) → Good p → (o : List Frame) (sec : Bool) (n : ℕ) (hh bb : Forest) → Inner o sec n hh bb p
unfolding written count
reads_parts none ok o sec n hh bb f h t g q = absurd (omega arith)
reads_parts (tree i p none) ok o sec n hh bb f h t g q =
    rw (append-nil (one_said i (written [] (Comma ∷ []) p)))
    (reads_one (frame_of g f q ∷ o) sec n hh bb i.word i.atom i.lower i.upper p (reads_parts p ok.1 (frame_of g f q ∷ o) sec n hh bb) ok.0)
reads_parts (tree i p (tree j k s)) ok o sec n hh bb f h t g q =
    let c = comma_next f (count s) t in
    and_on (In o sec n hh bb mode.Begin (frame_of g f q)) (one_said i (written [] (Comma ∷ []) p)) (written (Comma ∷ []) (Comma ∷ []) (tree j k s))
    (reads_one (frame_of g f q ∷ o) sec n hh bb i.word i.atom i.lower i.upper p (reads_parts p ok.1 (frame_of g f q ∷ o) sec n hh bb) ok.0)
    (comma_step o sec n hh bb g f (q then one i p) (written [] (Comma ∷ []) (tree j k s)) c.0
    ∙ reads_parts (tree j k s) ok.2 o sec n hh bb (parted f) (omega arith) c.1 g (q then one i p)
    ∙ rw (then_one q i p (tree j k s)))

pub reads_lines : (p : Forest) → Good p → (sec : Bool) (hh bb : Forest) → through (between sec (count p) hh bb) (written [] [] p) ≡ going (between sec 0 (hh then p) bb)
unfolding written count through
reads_lines none ok sec hh bb = rw (then_none hh)
reads_lines (tree i p s) ok sec hh bb =
    and_on (between sec (suc (count s)) hh bb) (one_said i (written [] (Comma ∷ []) p)) (written [] [] s)
    (reads_one [] sec (suc (count s)) hh bb i.word i.atom i.lower i.upper p (reads_parts p ok.1 [] sec (suc (count s)) hh bb) ok.0)
    (reads_lines s ok.2 sec (hh then one i p) bb ∙ rw (then_one hh i p s))

-- a file
abbrev pub over : Forest → Forest → State
over a g = state_of mode.Over [] true 0 g a

pub reads_file : (a g : Forest) → Good a → Good g → through start ((Number (count a) ∷ written [] [] a) ++ (Number (count g) ∷ written [] [] g)) ≡ going (over a g)
unfolding through move ◌then◌
reads_file a g oka okg =
    and_on (between false (count a) none none) (written [] [] a) (Number (count g) ∷ written [] [] g)
    (reads_lines a oka false none none)
    (reads_lines g okg true none a)

-- ---- with places
-- where symbols lead to, reading goes on
pub leads : (ys zs : List Symbol) (ps : List Placed) (r q : State) → map (λ (p : Placed). p.symbol) ps ≡ ys ++ zs → through r ys ≡ going q → (qs : List Placed) × (map (λ (p : Placed). p.symbol) qs ≡ zs) × (reading r ps ≡ reading q qs)
unfolding through reading
leads [] zs ps r q e f = let v : r ≡ q = cc in (ps, e, rw v)
leads (y ∷ ys) zs [] r q e f = let z : ◌≡◌ {A = ℕ} 0 1 = cc in absurd (omega arith)
leads (y ∷ ys) zs (p ∷ ps) r q e f =
    let v : p.symbol ≡ y = cc in
    let w : map (λ (p : Placed). p.symbol) ps ≡ ys ++ zs = cc in
    by_step (move r y) refl (rw v) f (λ m h. leads ys zs ps m q w h)
  where
    by_step : (m : Step) → move r y ≡ m → reading r (p ∷ ps) ≡ onward (move r y) r p.at (λ q. reading q ps) → and_then (move r y) (λ q. through q ys) ≡ going q → ((k : State) → through k ys ≡ going q → (qs : List Placed) × (map (λ (p : Placed). p.symbol) qs ≡ zs) × (reading k ps ≡ reading q qs)) → (qs : List Placed) × (map (λ (p : Placed). p.symbol) qs ≡ zs) × (reading r (p ∷ ps) ≡ reading q qs)
    by_step refused g h x k = let y : refused ≡ going q = rw g at x in let z : ◌≡◌ {A = ℕ} 0 1 = cc in absurd (omega arith)
    by_step (going m) g h x k = let y : through m ys ≡ going q = rw g at x in let t = k m y in (t.0, t.1, h ∙ rw g t.2)
    by_step ended g h x k = let y : ended ≡ going q = rw g at x in let z : ◌≡◌ {A = ℕ} 0 1 = cc in absurd (omega arith)

-- a text whose symbols are those of a file, with any blanks between them, is read as that file
pub reads_back : (a g : Forest) (ps : List Placed) → Good a → Good g → map (λ (p : Placed). p.symbol) ps ≡ file_said a g → reading start ps ≡ read a g
unfolding file_said reading move
reads_back a g ps oka okg e =
    let t = leads ((Number (count a) ∷ written [] [] a) ++ (Number (count g) ∷ written [] [] g)) (End ∷ []) ps start (over a g) (e ∙ sym (append_assoc (Number (count a) ∷ written [] [] a) (Number (count g) ∷ written [] [] g) (End ∷ []))) (reads_file a g oka okg) in
    t.2 ∙ last t.0 t.1
  where
    last : (qs : List Placed) → map (λ (p : Placed). p.symbol) qs ≡ End ∷ [] → reading (over a g) qs ≡ read a g
    last [] h = let z : ◌≡◌ {A = ℕ} 0 1 = cc in absurd (omega arith)
    last (q ∷ qs) h = let v : q.symbol ≡ End = cc in rw v
