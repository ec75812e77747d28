-- Laws of a reader's state as the code has it, for the proofs of `scan`. Assumes nothing.
use Prim.Native.Nat.{ℕ, zero, suc, ◌+◌, ◌-◌, ◌≤◌, ◌<◌}
use mathlib.Core.Path.{◌≡◌, refl, sym, ap, ◌∙◌}
use mathlib.Core.Bool.{Bool, true, false, not, false≢true}
use mathlib.Core.List.{List, [], ◌∷◌}
use native.Mathlib.Omega.{arith}
use lib.ListN.{length, get_or, set, length-set}
use lib.Seq.{get_or-set_same, get_or-set_other}
use borrow.Author.Tests.{eq-eqb, ne_eqb, eqb-true, eqb-false}
use Rattle.trees.specs.Forest.{Head, head_of, Forest, none, tree, one, ◌then◌, count, size}
use Rattle.rule_scanner.specs.Reading.{turn, form_of, first_mode, parted, Frame, frame_of, State, state_of, start, form_in, between, completed, refused, going, ended, finished, next_part, closed, taken, move, onward, reading, read_text}
use Rattle.rule_scanner.specs.Symbols.{symbols}
use Rattle.rule_scanner.specs.Steps.{symbols_from, Next}
use Rattle.rule_scanner.specs.Scanning.{scanned, form_byte, byte_form, form_top, less_one, refuses, ends, pass_of, between_pass, completed_pass, FormsAre, stack_size, Rel, Bound, Follows, Steps}
use Rattle.book.specs.declared.kind.Kind.{Kind}
use Rattle.rule_scanner.specs.declared.symbols.Symbol.{Symbol}
use Rattle.rule_scanner.specs.declared.symbols.Symbol.TheVariants as symbol
use Rattle.rule_scanner.specs.declared.turns.Mode.{Mode}
use Rattle.rule_scanner.specs.declared.turns.Mode.TheVariants as mode
use Rattle.rule_scanner.specs.declared.turns.Form.{Form}
use Rattle.rule_scanner.specs.declared.turns.Form.TheVariants as form
use Rattle.rule_scanner.specs.declared.turns.Turn.{Turn}
use Rattle.rule_scanner.specs.declared.turns.Turn.TheVariants.{Refused, Go, Leaf, Open, Part, Close, Counted, Ended}
use Rattle.rule_scanner.specs.declared.scan.Pass.{Pass}
use Rattle.rule_scanner.specs.declared.scan.Extent.{Extent}
use Rattle.std.specs.Prelude.{Result, Ok, Err}

pub top_byte : (m : List ℕ) (d : ℕ) → (d ≡ 0 → ⊥) → byte_form (get_or m (d - 1) 0) ≡ form_top m d
top_byte m zero e = absurd (e refl)
top_byte m (suc d) e = let v : suc d - 1 ≡ d = omega arith in rw v

pub less_is : (n : ℕ) → n - 1 ≡ less_one n
less_is zero = omega arith
less_is (suc n) = omega arith

-- ---- bounds
bound_between : (s : Bool) (l r h p b n : ℕ) → r ≤ n → h ≤ n → p ≤ n → b ≤ n → Bound (between_pass s l r h p b) n
bound_between s (suc l) r h p b n a c d e = record { depth = omega arith; rows = a; here = c; past = d; before = e }
bound_between false zero r h p b n a c d e = record { depth = omega arith; rows = omega arith; here = omega arith; past = a; before = c }
bound_between true zero r h p b n a c d e = record { depth = omega arith; rows = a; here = c; past = d; before = e }

bound_completed : (p : Pass) (d n : ℕ) → d ≤ n → Bound p n → Bound (completed_pass p d) (n + 1)
bound_completed p zero n h k =
    bound_between p.second (less_one p.left) (p.rows + 1) (p.here + 1) p.past p.before (n + 1) (omega (arith, k.rows)) (omega (arith, k.here)) (omega (arith, k.past)) (omega (arith, k.before))
bound_completed p (suc d) n h k = record { depth = omega arith; rows = omega (arith, k.rows); here = omega (arith, k.here); past = omega (arith, k.past); before = omega (arith, k.before) }

-- ---- what is related
rel_between : (s : Bool) (l : ℕ) (h b : Forest) (r k p q : ℕ) (m : List ℕ) → r ≡ size h → k ≡ count h → p ≡ size b → q ≡ count b → Rel (between s l h b) (between_pass s l r k p q) m
unfolding stack_size size count
rel_between s (suc l) h b r k p q m a c d e = record { mode = refl; forms = refl; second = refl; left = refl; rows = omega arith; here = c; past = d; before = e }
rel_between false zero h b r k p q m a c d e = record { mode = refl; forms = refl; second = refl; left = refl; rows = refl; here = refl; past = a; before = c }
rel_between true zero h b r k p q m a c d e = record { mode = refl; forms = refl; second = refl; left = refl; rows = omega arith; here = c; past = d; before = e }

pub size_then : (f g : Forest) → size (f then g) ≡ size f + size g
unfolding size ◌then◌
size_then none g = omega arith
size_then (tree h p s) g = omega (arith, size_then s g)

pub count_then : (f : Forest) (i : Head) (g : Forest) → count (f then one i g) ≡ count f + 1
unfolding count ◌then◌
count_then none i g = refl
count_then (tree h p s) i g = omega (arith, count_then s i g)

pub size_one : (i : Head) (g : Forest) → size (one i g) ≡ size g + 1
unfolding size
size_one i g = refl

rel_completed : (o : List Frame) (s : Bool) (n : ℕ) (h b : Forest) (i : Head) (g : Forest) (p : Pass) (d : ℕ) (m : List ℕ) → FormsAre m d o → p.second ≡ s → p.left ≡ n → p.rows ≡ size g + stack_size o + size h → p.here ≡ count h → p.past ≡ size b → p.before ≡ count b → Rel (completed (one i g) o s n h b) (completed_pass p d) m
unfolding stack_size
rel_completed [] s zero h b i g p d m f es el er eh ep eb =
    rw (f, es, el) (rel_between s 0 (h then one i g) b (p.rows + 1) (p.here + 1) p.past p.before m (omega (arith, size_then h (one i g), size_one i g)) (omega (arith, count_then h i g)) ep eb)
rel_completed [] s (suc n) h b i g p d m f es el er eh ep eb =
    rw (f, es, el) (rel_between s n (h then one i g) b (p.rows + 1) (p.here + 1) p.past p.before m (omega (arith, size_then h (one i g), size_one i g)) (omega (arith, count_then h i g)) ep eb)
rel_completed (x ∷ o) s n h b i g p d m f es el er eh ep eb =
    rw f.1 (record {
      mode = refl;
      forms = (f.0, refl, f.2, f.3);
      second = es;
      left = el;
      rows = omega (arith, size_then x.parts (one i g), size_one i g);
      here = eh;
      past = ep;
      before = eb;
    })

-- ---- bytes under a store
forms_keep : (m : List ℕ) (k v : ℕ) (d : ℕ) (o : List Frame) → d ≤ k → FormsAre m d o → FormsAre (set m k v) d o
forms_keep m k v d [] h f = f
forms_keep m k v d (x ∷ o) h f =
    let e = f.1 in
    (f.0, f.1, get_or-set_other m k f.0 v 0 (λ z. omega arith) ∙ f.2, forms_keep m k v f.0 o (omega arith) f.3)

byte_back : (f : Form) → byte_form (form_byte f) ≡ f
byte_back form.Many = refl
byte_back form.One = refl
byte_back form.Two = refl

pub top_is : (m : List ℕ) (d : ℕ) (o : List Frame) → FormsAre m d o → form_top m d ≡ form_in o
top_is m d [] f = rw f
top_is m d (x ∷ o) f = rw (f.1, f.2) (byte_back x.form)

leaf_rows : (a b c : ℕ) → a ≡ b + c → a ≡ size none + b + c
unfolding size
leaf_rows a b c h = omega arith

none_size : 0 ≡ size none
unfolding size
none_size = refl

none_count : 0 ≡ count none
unfolding count
none_count = refl

new_rows : (i : Head) (f : Form) (o : List Frame) (n : ℕ) → stack_size o + n ≡ stack_size (frame_of i f none ∷ o) + n
unfolding stack_size size
new_rows i f o n = omega arith

finished_any : (o : List Frame) (p : Pass) (m : List ℕ) → Follows (finished o) p m
finished_any [] p m = tt
finished_any (x ∷ o) p m = tt

-- ---- turns
module _ (p : Pass) (m : List ℕ) where
  abbrev with_mode : Mode → ℕ → Pass
  with_mode x d = pass_of x d p.second p.left p.rows p.here p.past p.before

  more : (x : Mode) (d n : ℕ) → d ≤ n + 1 → Bound p n → Bound (with_mode x d) (n + 1)
  more x d n h k = record { depth = h; rows = omega (arith, k.rows); here = omega (arith, k.here); past = omega (arith, k.past); before = omega (arith, k.before) }

  pub step_go : (x : Mode) → Steps (Go x) p m (with_mode x p.depth) m
  step_go x = record {
    follows = λ r g. record { mode = refl; forms = g.forms; second = g.second; left = g.left; rows = g.rows; here = g.here; past = g.past; before = g.before };
    bound = λ n k. more x p.depth n (omega (arith, k.depth)) k;
    size = refl;
  }

  pub step_leaf : (w : Kind) (a : ℕ) (q : Pass) → q ≡ completed_pass p p.depth → Steps (Leaf w a) p m q m
  step_leaf w a q e = record {
    follows = λ r g. rw e (rel_completed r.stack r.second r.left r.here r.before (head_of w a 0 0) none p p.depth m g.forms g.second g.left (leaf_rows p.rows (stack_size r.stack) (size r.here) g.rows) g.here g.past g.before);
    bound = λ n k. rw e (bound_completed p p.depth n k.depth k);
    size = refl;
  }

  pub step_open : (w : Kind) (l u : ℕ) (q : Pass) (v : ℕ) → p.depth < length m → q ≡ with_mode (first_mode (form_of w)) (p.depth + 1) → v ≡ form_byte (form_of w) → Steps (Open w l u) p m q (set m p.depth v)
  step_open w l u q v h e f = record {
    follows = λ r g. rw e (record {
      mode = refl;
      forms = (p.depth, omega arith, get_or-set_same m p.depth v 0 h ∙ f, forms_keep m p.depth v p.depth r.stack (omega arith) g.forms);
      second = g.second;
      left = g.left;
      rows = g.rows ∙ new_rows (head_of w 0 l u) (form_of w) r.stack (size r.here);
      here = g.here;
      past = g.past;
      before = g.before;
    });
    bound = λ n k. rw e (more (first_mode (form_of w)) (p.depth + 1) n (omega (arith, k.depth)) k);
    size = length-set m p.depth v;
  }

  pub step_counted : (a : ℕ) (q : Pass) → q ≡ between_pass p.second a 0 0 p.past p.before → Steps (Counted a) p m q m
  step_counted a q e = record {
    follows = λ r g. rw (e, g.second) (rel_between r.second a none r.before 0 0 p.past p.before m none_size none_count g.past g.before);
    bound = λ n k. rw e (bound_between p.second a 0 0 p.past p.before (n + 1) (omega arith) (omega arith) (omega (arith, k.past)) (omega (arith, k.before)));
    size = refl;
  }

  pub step_refused : Steps Refused p m p m
  step_refused = record { follows = λ r g. tt; bound = λ n k. more p.mode p.depth n (omega (arith, k.depth)) k; size = refl }

  pub step_ended : Steps Ended p m p m
  step_ended = record { follows = λ r g. finished_any r.stack p m; bound = λ n k. more p.mode p.depth n (omega (arith, k.depth)) k; size = refl }

  module _ (k : ℕ) (at : k ≡ p.depth - 1) (some : p.depth ≡ 0 → ⊥) where
    follows_part : (v : ℕ) (o : List Frame) (s : Bool) (n : ℕ) (h b : Forest) → k < length m → v ≡ form_byte (parted (byte_form (get_or m k 0))) → Rel (state_of p.mode o s n h b) p m → Follows (next_part o s n h b) (with_mode mode.Begin p.depth) (set m k v)
    unfolding stack_size
    follows_part v [] s n h b l f g = tt
    follows_part v (x ∷ o) s n h b l f g =
        let d = g.forms.1 in
        let e : g.forms.0 ≡ k = omega arith in
        let y : get_or m k 0 ≡ form_byte x.form = rw e at g.forms.2 in
        record {
          mode = refl;
          forms = (k, omega arith, get_or-set_same m k v 0 l ∙ f ∙ rw (y, byte_back x.form), forms_keep m k v k o (omega arith) (rw e at g.forms.3));
          second = g.second;
          left = g.left;
          rows = g.rows;
          here = g.here;
          past = g.past;
          before = g.before;
        }

    pub step_part : (q : Pass) (v : ℕ) → k < length m → q ≡ with_mode mode.Begin p.depth → v ≡ form_byte (parted (byte_form (get_or m k 0))) → Steps Part p m q (set m k v)
    step_part q v l e f = record {
      follows = λ r g. rw e (follows_part v r.stack r.second r.left r.here r.before l f (record { mode = refl; forms = g.forms; second = g.second; left = g.left; rows = g.rows; here = g.here; past = g.past; before = g.before }));
      bound = λ n j. rw e (more mode.Begin p.depth n (omega (arith, j.depth)) j);
      size = length-set m k v;
    }

    follows_close : (o : List Frame) (s : Bool) (n : ℕ) (h b : Forest) → Rel (state_of p.mode o s n h b) p m → Follows (closed o s n h b) (completed_pass p k) m
    unfolding stack_size
    follows_close [] s n h b g = tt
    follows_close (x ∷ o) s n h b g =
        let d = g.forms.1 in
        let e : g.forms.0 ≡ k = omega arith in
        rel_completed o s n h b x.head x.parts p k m (rw e at g.forms.3) g.second g.left g.rows g.here g.past g.before

    pub step_close : (q : Pass) → q ≡ completed_pass p k → Steps Close p m q m
    step_close q e = record {
      follows = λ r g. rw e (follows_close r.stack r.second r.left r.here r.before (record { mode = refl; forms = g.forms; second = g.second; left = g.left; rows = g.rows; here = g.here; past = g.past; before = g.before }));
      bound = λ n j. rw e (bound_completed p k n (omega (arith, j.depth)) j);
      size = refl;
    }

pub part_some : (t : Turn) (d : ℕ) → refuses t d ≡ false → t ≡ Part → d ≡ 0 → ⊥
part_some t d h e = eqb-false d 0 (rw e at h)

pub close_some : (t : Turn) (d : ℕ) → refuses t d ≡ false → t ≡ Close → d ≡ 0 → ⊥
close_some t d h e = eqb-false d 0 (rw e at h)

-- ---- refused, ended, going on
pub refused_is : (t : Turn) (m : List ℕ) (d : ℕ) (o : List Frame) (s : Bool) (n : ℕ) (h b : Forest) → FormsAre m d o → refuses t d ≡ true → taken t o s n h b ≡ refused
refused_is Refused m d o s n h b f e = refl
refused_is (Go x) m d o s n h b f e = absurd (false≢true e)
refused_is (Leaf w a) m d o s n h b f e = absurd (false≢true e)
refused_is (Open w l u) m d o s n h b f e = absurd (false≢true e)
refused_is Part m d [] s n h b f e = refl
refused_is Part m d (x ∷ o) s n h b f e = let v = eqb-true d 0 e in let w = f.1 in absurd (omega arith)
refused_is Close m d [] s n h b f e = refl
refused_is Close m d (x ∷ o) s n h b f e = let v = eqb-true d 0 e in let w = f.1 in absurd (omega arith)
refused_is (Counted a) m d o s n h b f e = absurd (false≢true e)
refused_is Ended m d [] s n h b f e = absurd (false≢true (sym (ap not (eq-eqb d 0 f)) ∙ e))
refused_is Ended m d (x ∷ o) s n h b f e = refl

pub ended_is : (t : Turn) (m : List ℕ) (d : ℕ) (o : List Frame) (s : Bool) (n : ℕ) (h b : Forest) → FormsAre m d o → refuses t d ≡ false → ends t ≡ true → (taken t o s n h b ≡ ended) × (o ≡ [])
ended_is Refused m d o s n h b f e g = absurd (false≢true g)
ended_is (Go x) m d o s n h b f e g = absurd (false≢true g)
ended_is (Leaf w a) m d o s n h b f e g = absurd (false≢true g)
ended_is (Open w l u) m d o s n h b f e g = absurd (false≢true g)
ended_is Part m d o s n h b f e g = absurd (false≢true g)
ended_is Close m d o s n h b f e g = absurd (false≢true g)
ended_is (Counted a) m d o s n h b f e g = absurd (false≢true g)
ended_is Ended m d [] s n h b f e g = (refl, refl)
ended_is Ended m d (x ∷ o) s n h b f e g = absurd (false≢true (sym e ∙ ap not (ne_eqb d 0 (λ z. omega (arith, f.1)))))

pub going_is : (t : Turn) (m : List ℕ) (d : ℕ) (o : List Frame) (s : Bool) (n : ℕ) (h b : Forest) → FormsAre m d o → refuses t d ≡ false → ends t ≡ false → (q : State) × (taken t o s n h b ≡ going q)
going_is Refused m d o s n h b f e g = absurd (false≢true (sym e))
going_is (Go x) m d o s n h b f e g = (_, refl)
going_is (Leaf w a) m d o s n h b f e g = (_, refl)
going_is (Open w l u) m d o s n h b f e g = (_, refl)
going_is Part m d [] s n h b f e g = absurd (eqb-false d 0 e f)
going_is Part m d (x ∷ o) s n h b f e g = (_, refl)
going_is Close m d [] s n h b f e g = absurd (eqb-false d 0 e f)
going_is Close m d (x ∷ o) s n h b f e g = (_, refl)
going_is (Counted a) m d o s n h b f e g = (_, refl)
going_is Ended m d o s n h b f e g = absurd (false≢true (sym g))

end_stops : (x : Mode) (f : Form) (d : ℕ) → refuses (turn x f symbol.End) d ≡ false → ends (turn x f symbol.End) ≡ false → ⊥
end_stops mode.Count f d e g = false≢true (sym e)
end_stops mode.Begin f d e g = false≢true (sym e)
end_stops mode.First f d e g = false≢true (sym e)
end_stops mode.After f d e g = false≢true (sym e)
end_stops mode.Atom f d e g = false≢true (sym e)
end_stops (mode.Left w) f d e g = false≢true (sym e)
end_stops (mode.Lower w) f d e g = false≢true (sym e)
end_stops (mode.Comma w l) f d e g = false≢true (sym e)
end_stops (mode.Upper w l) f d e g = false≢true (sym e)
end_stops (mode.Right w l u) f d e g = false≢true (sym e)
end_stops (mode.Open w l u) f d e g = false≢true (sym e)
end_stops mode.Over f d e g = false≢true (sym g)

-- ---- the loop
pub record Reader (s : List ℕ) (at : ℕ) (p : Pass) (m₀ m : List ℕ) : Type 0 where
  pub state : State
  pub rel : Rel state p m
  pub bound : Bound p at
  pub inside : at ≤ length s
  pub left : reading state (symbols_from s at) ≡ read_text s
  pub size : length m ≡ length m₀

pub reader_start : (s m : List ℕ) → Reader s 0 (pass_of mode.Count 0 false 0 0 0 0 0) m m
unfolding read_text symbols stack_size size count
reader_start s m = record {
  state = start;
  rel = record { mode = refl; forms = refl; second = refl; left = refl; rows = refl; here = refl; past = refl; before = refl };
  bound = record { depth = omega arith; rows = omega arith; here = omega arith; past = omega arith; before = omega arith };
  inside = omega arith;
  left = refl;
  size = refl;
}

module _ {s : List ℕ} {at : ℕ} {p : Pass} {m₀ m : List ℕ} (g : Reader s at p m₀ m) {y : Symbol} {place next : ℕ} (n : Next s at y place next) {t : Turn} (e : t ≡ turn p.mode (form_top m p.depth) y) where
  pub turned_is : t ≡ turn g.state.mode (form_in g.state.stack) y
  turned_is = e ∙ rw (g.rel.mode, top_is m p.depth g.state.stack g.rel.forms)

  pub moved : move g.state y ≡ taken t g.state.stack g.state.second g.state.left g.state.here g.state.before
  unfolding move
  moved = rw turned_is

  pub steps : read_text s ≡ onward (taken t g.state.stack g.state.second g.state.left g.state.here g.state.before) g.state place (λ q. reading q n.later)
  unfolding reading
  steps = sym g.left ∙ rw (n.first, moved)

  pub reader_wrong : refuses t p.depth ≡ true → Err place ≡ scanned (read_text s)
  unfolding scanned
  reader_wrong h = rw (steps, refused_is t m p.depth g.state.stack g.state.second g.state.left g.state.here g.state.before g.rel.forms h)

  pub reader_right : refuses t p.depth ≡ false → ends t ≡ true → (k : ℕ) → k ≡ p.past + p.rows → Ok (record { rows = k; assumes = p.before; guarantees = p.here }) ≡ scanned (read_text s)
  unfolding scanned stack_size
  reader_right h i k f =
      let x = ended_is t m p.depth g.state.stack g.state.second g.state.left g.state.here g.state.before g.rel.forms h i in
      let r : p.rows ≡ stack_size [] + size g.state.here = g.rel.rows ∙ ap (λ (o : List Frame). stack_size o + size g.state.here) x.1 in
      let v : k ≡ size g.state.before + size g.state.here = omega (arith, g.rel.past) in
      rw (steps, x.0, v, g.rel.before, g.rel.here)

  pub not_end : refuses t p.depth ≡ false → ends t ≡ false → y ≡ symbol.End → ⊥
  not_end h i f = let v : t ≡ turn p.mode (form_top m p.depth) symbol.End = e ∙ rw f in end_stops p.mode (form_top m p.depth) p.depth (rw v at h) (rw v at i)

  pub reader_further : refuses t p.depth ≡ false → ends t ≡ false → at < next
  reader_further h i = n.further (not_end h i)

  pub reader_more : {p' : Pass} {m' : List ℕ} → refuses t p.depth ≡ false → ends t ≡ false → Steps t p m p' m' → Reader s next p' m₀ m'
  reader_more {p'} {m'} h i z =
      let w = going_is t m p.depth g.state.stack g.state.second g.state.left g.state.here g.state.before g.rel.forms h i in
      let b = z.bound at g.bound in
      let l = n.further (not_end h i) in
      record {
        state = w.0;
        rel = rw w.1 at (z.follows g.state g.rel);
        bound = record { depth = omega (arith, b.depth); rows = omega (arith, b.rows); here = omega (arith, b.here); past = omega (arith, b.past); before = omega (arith, b.before) };
        inside = n.inside;
        left = sym (steps ∙ rw (w.1, n.others (not_end h i)));
        size = z.size ∙ g.size;
      }
