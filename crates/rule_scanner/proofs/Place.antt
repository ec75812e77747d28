-- The place of a refusal is where the first symbol begins that cannot stand there: what was read before it can be completed, and with it nothing can. Assumes nothing.
use Prim.Native.Nat.{ℕ, zero, suc}
use mathlib.Core.Path.{◌≡◌, refl, ap}
use mathlib.Core.Bool.{Bool, true, false}
use mathlib.Core.Logic.{◌⊎◌, inl, inr, ⊎_elim}
use mathlib.Core.List.{List, [], ◌∷◌, ◌++◌, map}
use native.Mathlib.Omega.{arith}
use Rattle.rule_scanner.specs.Symbols.{Placed}
use Rattle.trees.specs.Forest.{Head, head_of, Forest, none, one, ◌then◌}
use Rattle.rule_scanner.specs.Reading.{form_of, first_mode, Frame, frame_of, State, state_of, between, completed, Step, refused, going, ended, move, wrong, onward, reading}
use Rattle.rule_scanner.proofs.Back.{through}
use Rattle.rule_scanner.proofs.Sound.{Ok, OkOf, ok_next}
use Rattle.book.specs.declared.kind.Kind.{Kind}
use Rattle.book.specs.declared.kind.Kind.TheVariants.{True, Atom}
use Rattle.rule_scanner.specs.declared.symbols.Symbol.{Symbol}
use Rattle.rule_scanner.specs.declared.symbols.Symbol.TheVariants.{Name, Number, Left, Right, Opens, Closes, Comma, End}
use Rattle.rule_scanner.specs.declared.turns.Mode.{Mode}
use Rattle.rule_scanner.specs.declared.turns.Mode.TheVariants as mode
use Rattle.rule_scanner.specs.declared.turns.Form.{Form}
use Rattle.rule_scanner.specs.declared.turns.Form.TheVariants as form

-- symbols after which the text may end
pub record Viable (r : State) : Type 0 where
  pub more : List Symbol
  pub state : State
  pub leads : through r more ≡ going state
  pub end : move state End ≡ ended

-- one symbol, and what it leads to
on : (r q : State) (y : Symbol) → move r y ≡ going q → Viable q → Viable r
unfolding through
on r q y e v = record { more = y ∷ v.more; state = v.state; leads = rw e v.leads; end = v.end }

-- between properties: a true for each that is still to come
between_goes : (n : ℕ) (s : Bool) (h b : Forest) → Viable (between s n h b)
unfolding move through
between_goes zero true h b = record { more = []; state = state_of mode.Over [] true 0 h b; leads = refl; end = refl }
between_goes zero false h b = on (between false zero h b) (between true zero none h) (Number 0) refl (record { more = []; state = state_of mode.Over [] true 0 none h; leads = refl; end = refl })
between_goes (suc n) s h b = on (between s (suc n) h b) (between s n (h then one (head_of True 0 0 0) none) b) (Name True) refl (between_goes n s (h then one (head_of True 0 0 0) none) b)

-- a part is complete: the bracket is closed, after a true where another part is owed
closes_goes : (i : Head) (g : Form) (p : Forest) (o : List Frame) (s : Bool) (n : ℕ) (h b : Forest) → ((k : Forest) → Viable (completed k o s n h b)) → Viable (state_of mode.After (frame_of i g p ∷ o) s n h b)
unfolding move
closes_goes i form.Many p o s n h b c = on (state_of mode.After (frame_of i form.Many p ∷ o) s n h b) (completed (one i p) o s n h b) Closes refl (c (one i p))
closes_goes i form.One p o s n h b c = on (state_of mode.After (frame_of i form.One p ∷ o) s n h b) (completed (one i p) o s n h b) Closes refl (c (one i p))
closes_goes i form.Two p o s n h b c =
    let q = p then one (head_of True 0 0 0) none in
    on (state_of mode.After (frame_of i form.Two p ∷ o) s n h b) (state_of mode.Begin (frame_of i form.One p ∷ o) s n h b) Comma refl
    (on (state_of mode.Begin (frame_of i form.One p ∷ o) s n h b) (state_of mode.After (frame_of i form.One q ∷ o) s n h b) (Name True) refl
    (on (state_of mode.After (frame_of i form.One q ∷ o) s n h b) (completed (one i q) o s n h b) Closes refl (c (one i q))))

completed_goes : (o : List Frame) (t : Forest) (s : Bool) (n : ℕ) (h b : Forest) → Viable (completed t o s n h b)
completed_goes [] t s zero h b = between_goes zero s (h then t) b
completed_goes [] t s (suc n) h b = between_goes n s (h then t) b
completed_goes (f ∷ o) t s n h b = closes_goes f.head f.form (f.parts then t) o s n h b (λ k. completed_goes o k s n h b)

module _ (o : List Frame) (s : Bool) (n : ℕ) (h b : Forest) where
  abbrev st : Mode → State
  st m = state_of m o s n h b

  begin_goes : Viable (st mode.Begin)
  unfolding move
  begin_goes = on (st mode.Begin) (completed (one (head_of True 0 0 0) none) o s n h b) (Name True) refl (completed_goes o (one (head_of True 0 0 0) none) s n h b)

  first_goes : Viable (st mode.First)
  unfolding move
  first_goes = on (st mode.First) (completed (one (head_of True 0 0 0) none) o s n h b) (Name True) refl (completed_goes o (one (head_of True 0 0 0) none) s n h b)

  atom_goes : Viable (st mode.Atom)
  unfolding move
  atom_goes = on (st mode.Atom) (completed (one (head_of Atom 0 0 0) none) o s n h b) (Number 0) refl (completed_goes o (one (head_of Atom 0 0 0) none) s n h b)

inside_goes : (f : Form) (o : List Frame) (s : Bool) (n : ℕ) (h b : Forest) → Viable (state_of (first_mode f) o s n h b)
inside_goes form.Many o s n h b = first_goes o s n h b
inside_goes form.One o s n h b = begin_goes o s n h b
inside_goes form.Two o s n h b = begin_goes o s n h b

module _ (w : Kind) (o : List Frame) (s : Bool) (n : ℕ) (h b : Forest) where
  open_goes : (l u : ℕ) → Viable (state_of (mode.Open w l u) o s n h b)
  unfolding move
  open_goes l u = on (state_of (mode.Open w l u) o s n h b) (state_of (first_mode (form_of w)) (frame_of (head_of w 0 l u) (form_of w) none ∷ o) s n h b) Opens refl (inside_goes (form_of w) (frame_of (head_of w 0 l u) (form_of w) none ∷ o) s n h b)

  right_goes : (l u : ℕ) → Viable (state_of (mode.Right w l u) o s n h b)
  unfolding move
  right_goes l u = on (state_of (mode.Right w l u) o s n h b) (state_of (mode.Open w l u) o s n h b) Right refl (open_goes l u)

  upper_goes : (l : ℕ) → Viable (state_of (mode.Upper w l) o s n h b)
  unfolding move
  upper_goes l = on (state_of (mode.Upper w l) o s n h b) (state_of (mode.Right w l 0) o s n h b) (Number 0) refl (right_goes l 0)

  comma_goes : (l : ℕ) → Viable (state_of (mode.Comma w l) o s n h b)
  unfolding move
  comma_goes l = on (state_of (mode.Comma w l) o s n h b) (state_of (mode.Upper w l) o s n h b) Comma refl (upper_goes l)

  lower_goes : Viable (state_of (mode.Lower w) o s n h b)
  unfolding move
  lower_goes = on (state_of (mode.Lower w) o s n h b) (state_of (mode.Comma w 0) o s n h b) (Number 0) refl (comma_goes 0)

  left_goes : Viable (state_of (mode.Left w) o s n h b)
  unfolding move
  left_goes = on (state_of (mode.Left w) o s n h b) (state_of (mode.Lower w) o s n h b) Left refl lower_goes

viable_in : (m : Mode) (o : List Frame) (s : Bool) (n : ℕ) (h b : Forest) → Ok m o s n h b → Viable (state_of m o s n h b)
unfolding move through
viable_in mode.Count o s n h b k = on (state_of mode.Count o s n h b) (between s 0 none b) (Number 0) refl (between_goes 0 s none b)
viable_in mode.Begin o s n h b k = begin_goes o s n h b
viable_in mode.First o s n h b k = first_goes o s n h b
viable_in mode.After [] s n h b k = absurd k.mode.0
viable_in mode.After (f ∷ o) s n h b k = closes_goes f.head f.form f.parts o s n h b (λ t. completed_goes o t s n h b)
viable_in mode.Atom o s n h b k = atom_goes o s n h b
viable_in (mode.Left w) o s n h b k = left_goes w o s n h b
viable_in (mode.Lower w) o s n h b k = lower_goes w o s n h b
viable_in (mode.Comma w l) o s n h b k = comma_goes w o s n h b l
viable_in (mode.Upper w l) o s n h b k = upper_goes w o s n h b l
viable_in (mode.Right w l u) o s n h b k = right_goes w o s n h b l u
viable_in (mode.Open w l u) o s n h b k = open_goes w o s n h b l u
viable_in mode.Over o s n h b k = record { more = []; state = state_of mode.Over o s n h b; leads = refl; end = rw k.mode.0 }

-- what was read so far can be completed
pub viable : (r : State) → OkOf r → Viable r
viable r k = viable_in r.mode r.stack r.second r.left r.here r.before k

-- ---- the place
pub record WrongAt (r : State) (ps : List Placed) (at : ℕ) : Type 0 where
  pub earlier : List Placed
  pub symbol : Placed
  pub later : List Placed
  pub whole : ps ≡ earlier ++ (symbol ∷ later)
  pub place : symbol.at ≡ at
  pub state : State
  pub leads : through r (map (λ (p : Placed). p.symbol) earlier) ≡ going state
  pub cannot : move state symbol.symbol ≡ refused
  pub could : Viable state

-- either a symbol cannot stand where it stands, the first such, and its place is told; or the symbols run out, which those of a text do not
pub first_wrong : (ps : List Placed) (r : State) (at : ℕ) → OkOf r → reading r ps ≡ wrong at → WrongAt r ps at ⊎ ((q : State) × (through r (map (λ (p : Placed). p.symbol) ps) ≡ going q))
unfolding reading through
first_wrong [] r at k e = inr (r, refl)
first_wrong (p ∷ ps) r at k e = by_step (move r p.symbol) refl e (λ q j f. first_wrong ps q at j f)
  where
    by_step : (m : Step) → move r p.symbol ≡ m → onward m r p.at (λ q. reading q ps) ≡ wrong at → ((q : State) → OkOf q → reading q ps ≡ wrong at → WrongAt q ps at ⊎ ((x : State) × (through q (map (λ (p : Placed). p.symbol) ps) ≡ going x))) → WrongAt r (p ∷ ps) at ⊎ ((q : State) × (through r (map (λ (p : Placed). p.symbol) (p ∷ ps)) ≡ going q))
    by_step refused f g c = let v : p.at ≡ at = cc in inl (record { earlier = []; symbol = p; later = ps; whole = refl; place = v; state = r; leads = refl; cannot = f; could = viable r k })
    by_step ended f g c = let z : ◌≡◌ {A = ℕ} 0 1 = cc in absurd (omega arith)
    by_step (going q) f g c = ⊎_elim
        (λ x. inl (record { earlier = p ∷ x.earlier; symbol = x.symbol; later = x.later; whole = ap (λ (z : List Placed). p ∷ z) x.whole; place = x.place; state = x.state; leads = rw f x.leads; cannot = x.cannot; could = x.could }))
        (λ x. inr (x.0, rw f x.1))
        (c q (ok_next r k p.symbol q f) g)
