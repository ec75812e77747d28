-- What a desk's memory holds after scans, and the answers of its kits. Assumes nothing.
use Prim.Native.Nat.{ℕ, zero, suc, ◌+◌, ◌≤◌, ◌<◌}
use native.Mathlib.Omega.{arith}
use mathlib.Core.Path.{◌≡◌, refl, ap, ◌∙◌}
use mathlib.Core.Bool.{cond, not}
use mathlib.Core.List.{List}
use lib.ListN.{length, get_or}
use Rattle.pmtl.specs.declared.Answer.TheVariants.{False, Open}
use Rattle.pmtl.specs.Book.{property_at}
use Rattle.pmtl.specs.Monitor.{value}
use Rattle.pmtl.specs.Settled.{settled}
use Rattle.pmtl.proofs.Answers.{settled_out}
use Rattle.property_answers.specs.declared.Verdict.{Verdict}
use Rattle.property_answers.specs.Verdict.{verdict_in, verdict_of}
use Rattle.desk_rules.specs.Scans.{Kit, kit_at, Scan, windows, desk_of, stopped, taken}
use Rattle.desk_rules.specs.Rows.{desk_rows, guarantee, guarantees_from, desk_book}
use Rattle.desk_rules.specs.Desk.{desk_after}
use Rattle.desk_rules.proofs.Places.{windows_length}
use Rattle.desk_rules.proofs.Theorems.{value_in_desk_terms, settled_in_desk_terms}
use Rattle.desk.specs.Standing.{After}
use Rattle.desk.specs.Made.{Made}
use Rattle.desk.specs.Made.Made.{opens, scans}
use Rattle.desk.proofs.Standing.{after_scan}

-- ---- what stands in the memory
pub made_after : {kits : List Kit} {es : List Scan} {table m : List ℕ} → Made kits es table m → After kits es table m
made_after (opens o) = o.after
made_after (scans e made s) = after_scan (made_after made) e _ _ s.leaves

-- the guarantee of kit k is property k
guarantee_at : (j n k d : ℕ) → k < n → get_or (guarantees_from j n) k d ≡ guarantee (j + k)
unfolding guarantees_from
guarantee_at j zero k d h = absurd (omega arith)
guarantee_at j (suc n) zero d h = let e : j + 0 ≡ j = omega arith in rw e
guarantee_at j (suc n) (suc k) d h = let e : j + suc k ≡ suc j + k = omega arith in rw e (guarantee_at (suc j) n k d (omega arith))

no_guarantee_at : (j n k d : ℕ) → n ≤ k → get_or (guarantees_from j n) k d ≡ d
unfolding guarantees_from
no_guarantee_at j zero k d h = refl
no_guarantee_at j (suc n) zero d h = absurd (omega arith)
no_guarantee_at j (suc n) (suc k) d h = no_guarantee_at (suc j) n k d (omega arith)

module _ {kits : List Kit} {es : List Scan} {table m : List ℕ} (made : Made kits es table m) where
  abbrev desk : List Kit
  desk = desk_of kits

  abbrev ws : List ℕ
  ws = windows desk

  many : length ws ≡ length desk
  many = windows_length desk

  verdict_is : (k : ℕ) → verdict_of m k ≡ verdict_in (desk_book ws) (desk_after desk es) k
  verdict_is k = let a = made_after made in rw (a.book, a.state)

  module _ (k : ℕ) (l : k < length desk) where
    row_is : property_at (desk_book ws) k ≡ guarantee k
    row_is = let e : 0 + k ≡ k = omega arith in guarantee_at 0 (length ws) k (length (desk_rows ws)) (omega (arith, many)) ∙ rw e

    pub value_is : (verdict_of m k).value ≡ not (stopped (kit_at desk k) (taken desk es))
    unfolding verdict_in
    value_is = ap (λ (v : Verdict). v.value) (verdict_is k) ∙ ap (value (desk_rows ws) (desk_after desk es)) row_is ∙ value_in_desk_terms kits es k l

    pub settled_is : (verdict_of m k).settled ≡ cond (stopped (kit_at desk k) (taken desk es)) False Open
    unfolding verdict_in
    settled_is = ap (λ (v : Verdict). v.settled) (verdict_is k) ∙ ap (settled (desk_rows ws) (desk_after desk es)) row_is ∙ settled_in_desk_terms kits es k l

  -- what is no kit of the desk is never stopped
  pub settled_none : (k : ℕ) → length desk ≤ k → (verdict_of m k).settled ≡ Open
  unfolding verdict_in
  settled_none k l =
      let r : property_at (desk_book ws) k ≡ length (desk_rows ws) = no_guarantee_at 0 (length ws) k (length (desk_rows ws)) (omega (arith, many)) in
      ap (λ (v : Verdict). v.settled) (verdict_is k) ∙ ap (settled (desk_rows ws) (desk_after desk es)) r ∙ settled_out (desk_rows ws) (desk_after desk es) (length (desk_rows ws)) (omega arith)
