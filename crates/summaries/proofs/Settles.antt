-- The call at which a property settled is 0 exactly if the property is open: by demand 3, what settled stays settled. Assumes nothing.
use Prim.Native.Nat.{ℕ, suc, ◌<◌, ◌≤◌}
use native.Mathlib.Omega.{arith}
use native.Mathlib.Decide.{ℕ_discrete}
use mathlib.Core.Path.{◌≡◌, refl, sym, ap, ◌∙◌}
use mathlib.Core.Logic.{◌↔◌}
use mathlib.Core.Bool.{Bool, true, false, cond}
use mathlib.Core.List.{List, [], ◌∷◌}
use lib.ListN.{length, get_or-replicate}
use Rattle.numbers.specs.Refusals.{ACCEPTED}
use Rattle.pmtl.specs.declared.Answer.{Answer}
use Rattle.pmtl.specs.declared.Answer.TheVariants.{False, True, Open}
use Rattle.pmtl.specs.Answer.{is_open, known}
use Rattle.pmtl.specs.Book.{Book, properties, property_at}
use Rattle.pmtl.specs.Sets.{Way}
use Rattle.pmtl.specs.Monitor.{initial_in}
use Rattle.pmtl.specs.Settled.{settled}
use Rattle.pmtl.specs.Calls.{Call, call, after_in}
use Rattle.pmtl.proofs.Answers.{settled_before}
use Rattle.pmtl.proofs.Theorems.{refused_changes_nothing}
use Rattle.lasts.specs.Flat.{Fit}
use Rattle.lasts.proofs.EitherWay.{demand_3}
use Rattle.ledger.specs.Ledger.{LAST_COUNTED, Entry, no_entry, entry_at, summary_at, or_else, ledger_in}
use Rattle.ledger.proofs.Noted.{settled_now_lem, or_else_over, entry_next, entries_refused}
use Rattle.summaries.proofs.Counting.{ledger_number}

not_known : (x : Bool) → known x ≡ Open → ⊥
not_known true e = let z : ◌≡◌ {A = ℕ} 0 1 = cc in omega arith
not_known false e = let z : ◌≡◌ {A = ℕ} 0 1 = cc in omega arith

module _ (way : Way) (b : Book) (fit : Fit way b.rows) (p : ℕ) (inside : p < length (properties b)) where
  abbrev answer_of : List Call → Answer
  answer_of calls = settled b.rows (after_in way b.rows calls) (property_at b p)

  abbrev field_of : List Call → ℕ
  field_of calls = (summary_at (ledger_in way b calls) p).settled

  -- what is open was open
  was_open : (ks : List Call) (k : Call) → answer_of (k ∷ ks) ≡ Open → answer_of ks ≡ Open
  was_open ks k e = go (answer_of ks) refl
    where
      go : (a : Answer) → answer_of ks ≡ a → a ≡ Open
      go False q = absurd (not_known false (sym (demand_3 way b.rows fit ks (property_at b p) (k ∷ []) false q).1 ∙ e))
      go True q = absurd (not_known true (sym (demand_3 way b.rows fit ks (property_at b p) (k ∷ []) true q).1 ∙ e))
      go Open q = refl

  -- an accepted call: the field as it was, or this call
  field_accepted : (ks : List Call) (k : Call) → length ks < LAST_COUNTED → (call b.rows (after_in way b.rows ks) k).number ≡ ACCEPTED
      → field_of (k ∷ ks) ≡ cond (is_open (answer_of (k ∷ ks))) (field_of ks) (or_else (field_of ks) (suc (ledger_in way b ks).number))
  unfolding ledger_in after_in
  field_accepted ks k h e =
      let o = call b.rows (after_in way b.rows ks) k in
      ap (λ (x : Entry). x.settled) (entry_next b o (ledger_in way b ks) (omega (arith, ledger_number way b ks)) e p inside)
      ∙ settled_now_lem (suc (ledger_in way b ks).number) _ (is_open (answer_of (k ∷ ks))) (entry_at (ledger_in way b ks).entries p)

  field_refused : (ks : List Call) (k : Call) → ¬ ((call b.rows (after_in way b.rows ks) k).number ≡ ACCEPTED) → field_of (k ∷ ks) ≡ field_of ks
  unfolding ledger_in
  field_refused ks k e = ap (λ es. (entry_at es p).settled) (entries_refused b (call b.rows (after_in way b.rows ks) k) (ledger_in way b ks) e)

  answer_refused : (ks : List Call) (k : Call) → ¬ ((call b.rows (after_in way b.rows ks) k).number ≡ ACCEPTED) → answer_of (k ∷ ks) ≡ answer_of ks
  unfolding after_in
  answer_refused ks k e = ap (λ st. settled b.rows st (property_at b p)) (refused_changes_nothing b.rows (after_in way b.rows ks) k e)

  by_answer : (old n : ℕ) (x before : Answer) → 0 < n → (x ≡ Open → before ≡ Open) → (old ≡ 0) ↔ (before ≡ Open) → (cond (is_open x) old (or_else old n) ≡ 0) ↔ (x ≡ Open)
  by_answer old n Open before h was same = (λ e. refl, λ e. same.1 (was refl))
  by_answer old n False before h was same = (λ e. absurd (omega (arith, or_else_over old n h)), λ e. absurd (not_known false e))
  by_answer old n True before h was same = (λ e. absurd (omega (arith, or_else_over old n h)), λ e. absurd (not_known true e))

  pub settled_zero : (calls : List Call) → length calls ≤ LAST_COUNTED → (field_of calls ≡ 0) ↔ (answer_of calls ≡ Open)
  unfolding ledger_in after_in initial_in
  settled_zero [] h =
      (λ e. settled_before b.rows (initial_in way b.rows) refl (property_at b p), λ e. ap (λ (x : Entry). x.settled) (get_or-replicate (length (properties b)) p no_entry no_entry inside))
  settled_zero (k ∷ ks) h = go (ℕ_discrete (call b.rows (after_in way b.rows ks) k).number ACCEPTED) (settled_zero ks (omega arith))
    where
      go : Dec ((call b.rows (after_in way b.rows ks) k).number ≡ ACCEPTED) → (field_of ks ≡ 0) ↔ (answer_of ks ≡ Open) → (field_of (k ∷ ks) ≡ 0) ↔ (answer_of (k ∷ ks) ≡ Open)
      go (yes e) ih =
          let r = by_answer (field_of ks) (suc (ledger_in way b ks).number) (answer_of (k ∷ ks)) (answer_of ks) (omega arith) (was_open ks k) ih in
          let f = field_accepted ks k h e in
          (λ z. r.0 (sym f ∙ z), λ z. f ∙ r.1 z)
      go (no e) ih =
          let f = field_refused ks k e in
          let a = answer_refused ks k e in
          (λ z. a ∙ ih.0 (sym f ∙ z), λ z. f ∙ ih.1 (sym a ∙ z))
