-- Laws of printing symbols. Assumes nothing.
use Prim.Native.Nat.{ℕ}
use mathlib.Core.Path.{◌≡◌, refl, sym, ap, ◌∙◌}
use mathlib.Core.List.{List, [], ◌∷◌, ◌++◌, append-nil, append_assoc}
use borrow.Author.Tests.{eq-eqb, ne_eqb}
use Rattle.numbers.specs.Limits.{MAX}
use Rattle.text.specs.Words.{pick}
use Rattle.text.specs.Decimals.{decimal}
use Rattle.trees.specs.Forest.{Head, head_of}
use Rattle.rule_scanner.specs.Writing.{upper_said, range_said, head_said, shut, one_said}
use Rattle.buffer_writer.specs.Finish.{Wrote}
use Rattle.buffer_writer.proofs.Writes.{and_then}
use Rattle.book.specs.declared.kind.Kind.{Kind}
use Rattle.book.specs.declared.kind.Kind.TheVariants.{False, True, Atom, And, Or, Not, Implies, Historically, Once, Since}
use Rattle.rule_scanner.specs.declared.symbols.Symbol.{Symbol}
use Rattle.rule_scanner.specs.declared.symbols.Symbol.TheVariants.{Name, Opens}
use Rattle.rule_printer.specs.Printing.{word_spelled, spell, spelled}

pub upper_star : (u : ℕ) → u ≡ MAX → spell (upper_said u) ≡ 42 ∷ []
unfolding pick spell
upper_star u e = rw (eq-eqb u MAX e)

pub upper_number : (u : ℕ) → (u ≡ MAX → ⊥) → spell (upper_said u) ≡ decimal u
unfolding pick spell
upper_number u e = rw (ne_eqb u MAX e)

pub none_put : (m : List ℕ) (at : ℕ) → Wrote m at [] m at
none_put m at = record { same = λ rest. refl }

-- a head, by its word
pub head_put_lem : {m m₁ m₂ : List ℕ} {at at₁ at₂ : ℕ} {x : List ℕ} (w v : Kind) (a l u : ℕ) → w ≡ v → spelled (head_said (head_of v a l u)) ≡ x → Wrote m at (word_spelled w) m₁ at₁ → Wrote m₁ at₁ x m₂ at₂ → Wrote m at (spelled (Name w ∷ head_said (head_of w a l u))) m₂ at₂
unfolding spelled spell
head_put_lem w v a l u e f p q = let g : spelled (head_said (head_of w a l u)) ≡ _ = ap (λ (z : Kind). spelled (head_said (head_of z a l u))) e ∙ f in and_then p (rw g q)

pub said_false : (a l u : ℕ) → spelled (head_said (head_of False a l u)) ≡ []
unfolding spelled spell head_said
said_false a l u = refl

pub said_true : (a l u : ℕ) → spelled (head_said (head_of True a l u)) ≡ []
unfolding spelled spell head_said
said_true a l u = refl

pub said_atom : (a l u : ℕ) → spelled (head_said (head_of Atom a l u)) ≡ decimal a
unfolding spelled spell head_said
said_atom a l u = append-nil (decimal a)

pub said_and : (a l u : ℕ) → spelled (head_said (head_of And a l u)) ≡ 40 ∷ []
unfolding spelled spell head_said
said_and a l u = refl

pub said_or : (a l u : ℕ) → spelled (head_said (head_of Or a l u)) ≡ 40 ∷ []
unfolding spelled spell head_said
said_or a l u = refl

pub said_not : (a l u : ℕ) → spelled (head_said (head_of Not a l u)) ≡ 40 ∷ []
unfolding spelled spell head_said
said_not a l u = refl

pub said_implies : (a l u : ℕ) → spelled (head_said (head_of Implies a l u)) ≡ 40 ∷ []
unfolding spelled spell head_said
said_implies a l u = refl

pub said_hist : (a l u : ℕ) → spelled (head_said (head_of Historically a l u)) ≡ spelled (range_said l u (Opens ∷ []))
unfolding spelled spell head_said
said_hist a l u = refl

pub said_once : (a l u : ℕ) → spelled (head_said (head_of Once a l u)) ≡ spelled (range_said l u (Opens ∷ []))
unfolding spelled spell head_said
said_once a l u = refl

pub said_since : (a l u : ℕ) → spelled (head_said (head_of Since a l u)) ≡ spelled (range_said l u (Opens ∷ []))
unfolding spelled spell head_said
said_since a l u = refl

-- a property's bytes, from those of its parts
pub spelled_append : (x y : List Symbol) → spelled (x ++ y) ≡ spelled x ++ spelled y
unfolding spelled
spelled_append [] y = refl
spelled_append (z ∷ x) y = ap (λ (l : List ℕ). spell z ++ l) (spelled_append x y) ∙ sym (append_assoc (spell z) (spelled x) (spelled y))

pub one_spelled : (h : Head) (inner : List Symbol) → spelled (one_said h inner) ≡ spelled (Name h.word ∷ head_said h) ++ (spelled inner ++ spelled (shut h.word))
unfolding one_said
one_spelled h inner =
    spelled_append (Name h.word ∷ head_said h) (inner ++ shut h.word)
    ∙ ap (λ (l : List ℕ). spelled (Name h.word ∷ head_said h) ++ l) (spelled_append inner (shut h.word))
