-- What is proved of written properties. Assumes nothing.
use Prim.Native.Nat.{ℕ}
use mathlib.Core.Path.{◌≡◌, refl, sym, ap, ◌∙◌}
use mathlib.Core.Bool.{Bool}
use mathlib.Core.Logic.{⊎_elim}
use mathlib.Core.List.{List, [], ◌∷◌, ◌++◌, append-nil, append_assoc, map, map-append}
use native.Mathlib.Omega.{arith}
use lib.ListN.{length}
use Rattle.rule_scanner.specs.Symbols.{Placed, symbols}
use Rattle.trees.specs.Forest.{Forest, Good}
use Rattle.rule_scanner.specs.Writing.{file_said}
use Rattle.rule_scanner.specs.Starred.{starred}
use Rattle.rule_scanner.specs.Reading.{turn, form_in, Frame, State, start, Step, refused, going, ended, taken, move, read, wrong, read_text}
use Rattle.rule_scanner.proofs.Back.{and_then, through, reads_back}
use Rattle.rule_scanner.proofs.Sound.{Accepted, accepted, ok_start}
use Rattle.rule_scanner.proofs.Place.{WrongAt, first_wrong}
use Rattle.rule_scanner.proofs.Ends.{NotEnd, NoEnd, EndsAt, text_ends}
use Rattle.rule_scanner.specs.declared.symbols.Symbol.{Symbol}
use Rattle.rule_scanner.specs.declared.symbols.Symbol.TheVariants.{End}
use Rattle.rule_scanner.specs.declared.turns.Mode.{Mode}
use Rattle.rule_scanner.specs.declared.turns.Mode.TheVariants as mode

-- a text whose symbols are those of a file, with any blanks between them, is read as that file
pub read_written : (s : List ℕ) (a g : Forest) → Good a → Good g → map (λ (p : Placed). p.symbol) (symbols s) ≡ file_said a g → read_text s ≡ read a g
unfolding read_text
read_written s a g ga gg e = reads_back a g (symbols s) ga gg e

-- a text that is read is the writing of the properties that it is read as, to its end, but that an upper bound of the largest number may stand in digits
pub record WrittenAs (s : List ℕ) (a g : Forest) : Type 0 where
  pub assumes : Good a
  pub guarantees : Good g
  pub said : starred End (map (λ (p : Placed). p.symbol) (symbols s)) ≡ file_said a g

abbrev bare : List Placed → List Symbol
bare ps = map (λ (p : Placed). p.symbol) ps

not_end : (y : Symbol) → NotEnd y → y ≡ End → ⊥
not_end y h e = rw e at h

-- nothing stands after the end
none_after : (os : List Placed) (xs rest : List Symbol) → NoEnd os → bare os ++ (End ∷ []) ≡ xs ++ (End ∷ rest) → rest ≡ []
none_after [] [] rest n e = cc
none_after [] (x ∷ []) rest n e = let z : ◌≡◌ {A = ℕ} 0 1 = cc in absurd (omega arith)
none_after [] (x ∷ y ∷ xs) rest n e = let z : ◌≡◌ {A = ℕ} 0 1 = cc in absurd (omega arith)
none_after (o ∷ os) [] rest n e = absurd (not_end o.symbol n.0 (cc))
none_after (o ∷ os) (x ∷ xs) rest n e = none_after os xs rest n.1 (cc)

pub read_is_written : (s : List ℕ) (a g : Forest) → read_text s ≡ read a g → WrittenAs s a g
unfolding read_text
read_is_written s a g e = record { assumes = k.assumes; guarantees = k.guarantees; said = ap (starred End) whole ∙ k.said }
  where
    k : Accepted [] (symbols s) a g
    k = accepted (symbols s) a g e

    t : EndsAt (symbols s) (length s)
    t = text_ends s

    to_end : bare t.others ++ (End ∷ []) ≡ k.others ++ (End ∷ k.rest)
    to_end =
        sym (ap bare t.whole ∙ map-append (λ (p : Placed). p.symbol) t.others (record { symbol = End; at = length s } ∷ []))
        ∙ k.whole
        ∙ ap (λ (z : List Symbol). z ++ k.rest) k.ends
        ∙ append_assoc k.others (End ∷ []) k.rest

    whole : bare (symbols s) ≡ k.read
    whole = k.whole ∙ ap (λ (z : List Symbol). k.read ++ z) (none_after t.others k.others k.rest t.none to_end) ∙ append-nil k.read

-- ---- a refusal's place
-- nothing goes on after the end
end_stops : (m : Mode) (o : List Frame) (s : Bool) (n : ℕ) (h b : Forest) (q : State) → taken (turn m (form_in o) End) o s n h b ≡ going q → ⊥
end_stops mode.Count o s n h b q e = let z : ◌≡◌ {A = ℕ} 0 1 = cc in omega arith
end_stops mode.Begin o s n h b q e = let z : ◌≡◌ {A = ℕ} 0 1 = cc in omega arith
end_stops mode.First o s n h b q e = let z : ◌≡◌ {A = ℕ} 0 1 = cc in omega arith
end_stops mode.After o s n h b q e = let z : ◌≡◌ {A = ℕ} 0 1 = cc in omega arith
end_stops mode.Atom o s n h b q e = let z : ◌≡◌ {A = ℕ} 0 1 = cc in omega arith
end_stops (mode.Left w) o s n h b q e = let z : ◌≡◌ {A = ℕ} 0 1 = cc in omega arith
end_stops (mode.Lower w) o s n h b q e = let z : ◌≡◌ {A = ℕ} 0 1 = cc in omega arith
end_stops (mode.Comma w l) o s n h b q e = let z : ◌≡◌ {A = ℕ} 0 1 = cc in omega arith
end_stops (mode.Upper w l) o s n h b q e = let z : ◌≡◌ {A = ℕ} 0 1 = cc in omega arith
end_stops (mode.Right w l u) o s n h b q e = let z : ◌≡◌ {A = ℕ} 0 1 = cc in omega arith
end_stops (mode.Open w l u) o s n h b q e = let z : ◌≡◌ {A = ℕ} 0 1 = cc in omega arith
end_stops mode.Over [] s n h b q e = let z : ◌≡◌ {A = ℕ} 0 1 = cc in omega arith
end_stops mode.Over (f ∷ o) s n h b q e = let z : ◌≡◌ {A = ℕ} 0 1 = cc in omega arith

not_past : (ys : List Symbol) (r q : State) → through r (ys ++ (End ∷ [])) ≡ going q → ⊥
unfolding through move
not_past [] r q e = by_step (taken (turn r.mode (form_in r.stack) End) r.stack r.second r.left r.here r.before) refl e
  where
    by_step : (m : Step) → taken (turn r.mode (form_in r.stack) End) r.stack r.second r.left r.here r.before ≡ m → and_then m (λ x. through x []) ≡ going q → ⊥
    by_step refused f g = let z : ◌≡◌ {A = ℕ} 0 1 = cc in omega arith
    by_step (going x) f g = end_stops r.mode r.stack r.second r.left r.here r.before x f
    by_step ended f g = let z : ◌≡◌ {A = ℕ} 0 1 = cc in omega arith
not_past (y ∷ ys) r q e = by_step (taken (turn r.mode (form_in r.stack) y) r.stack r.second r.left r.here r.before) e (λ x f. not_past ys x q f)
  where
    by_step : (m : Step) → and_then m (λ x. through x (ys ++ (End ∷ []))) ≡ going q → ((x : State) → through x (ys ++ (End ∷ [])) ≡ going q → ⊥) → ⊥
    by_step refused g c = let z : ◌≡◌ {A = ℕ} 0 1 = cc in omega arith
    by_step (going x) g c = c x g
    by_step ended g c = let z : ◌≡◌ {A = ℕ} 0 1 = cc in omega arith

-- 13's place is where the first symbol begins that cannot stand there: what stands before it can be completed, and with it nothing can
pub wrong_place : (s : List ℕ) (at : ℕ) → read_text s ≡ wrong at → WrongAt start (symbols s) at
unfolding read_text
wrong_place s at e = ⊎_elim (λ x. x) (λ x. absurd (past x)) (first_wrong (symbols s) start at ok_start e)
  where
    t : EndsAt (symbols s) (length s)
    t = text_ends s

    past : (q : State) × (through start (map (λ (p : Placed). p.symbol) (symbols s)) ≡ going q) → ⊥
    past x = not_past (map (λ (p : Placed). p.symbol) t.others) start x.0 (sym (ap (through start) (ap (map (λ (p : Placed). p.symbol)) t.whole ∙ map-append (λ (p : Placed). p.symbol) t.others (record { symbol = End; at = length s } ∷ []))) ∙ x.1)
