-- What is written after a line, byte by byte. Assumes nothing.
use Prim.Native.Nat.{ℕ, ◌+◌}
use mathlib.Core.Path.{◌≡◌, refl, ◌∙◌}
use mathlib.Core.List.{List, [], ◌∷◌, append-nil}
use native.Mathlib.Numerals.{add-one}
use borrow.Author.Tests.{eq-eqb, ne_eqb}
use Rattle.numbers.specs.Refusals.{WRONG_LENGTH}
use Rattle.std.specs.Prelude.{Option, Some, None}
use Rattle.text.specs.Words.{space, digit0}
use Rattle.text.specs.Decimals.{decimal}
use Rattle.pmtl.specs.Book.{Book}
use Rattle.pmtl.specs.Monitor.{State}
use Rattle.pmtl.specs.Answer.{bit_of, digit_of}
use Rattle.property_answers.specs.declared.Verdict.{Verdict}
use Rattle.property_answers.specs.Verdict.{verdict_in}
use Rattle.buffer_writer.specs.Buffer.{handed, in_buffer}
use Rattle.buffer_writer.specs.Finish.{finish, Wrote}
use Rattle.buffer_writer.proofs.Writes.{and_then, at_end, whole}
use Rattle.desk_lines.specs.declared.Stage.{Stage}
use Rattle.desk_lines.specs.declared.Stage.TheVariants.{Awaited, Giving, Opened, Closed}
use Rattle.desk_lines.specs.declared.Event as code
use Rattle.desk_lines.specs.declared.Event.TheVariants.{Nothing, Desk, Scan}
use Rattle.desk_lines.specs.Does.{event_of}
use Rattle.desk_lines.specs.Dialogue.{scan_event}
use Rattle.desk_lines.specs.Bytes.{desk_word, slip_word, end_line, ended, numbered, kit_word, kit_words, scan_bytes, event_bytes, last_bytes}

nothing_wrote : (out : List ℕ) → Wrote out 0 [] out 0
nothing_wrote out = record { same = λ rest. refl }

pub numbered_wrote : (word : List ℕ) (n : ℕ) {m m₁ m₂ m₃ : List ℕ} {at at₁ at₂ at₃ : ℕ} → Wrote m at word m₁ at₁ → Wrote m₁ at₁ (decimal n) m₂ at₂ → Wrote m₂ at₂ ended m₃ at₃
    → Wrote m at (numbered word n) m₃ at₃
unfolding numbered
numbered_wrote word n p q r = and_then (and_then p q) r

-- ---- the answers of the kits
pub kit_bytes : {v w : Verdict} {a b c : ℕ} → v ≡ w → a ≡ digit0 + bit_of v.value → b ≡ digit0 + digit_of v.early → c ≡ digit0 + digit_of v.settled → space ∷ a ∷ b ∷ c ∷ [] ≡ kit_word w
unfolding kit_word
kit_bytes z e f g = rw (e, f, g, z)

-- those of the first kits are written
pub record Wording (b : Book) (st : State) (out₀ : List ℕ) (at : ℕ) (out : List ℕ) (p k : ℕ) : Type 0 where
  pub wrote : Wrote out₀ at (kit_words b st k) out p

pub word_start : (b : Book) (st : State) (out : List ℕ) (at : ℕ) → Wording b st out at out at 0
unfolding kit_words
word_start b st out at = record { wrote = record { same = λ rest. refl } }

module _ {b : Book} {st : State} {out₀ : List ℕ} {at : ℕ} {out : List ℕ} {p k : ℕ} (g : Wording b st out₀ at out p k) where
  pub word_more : {out' : List ℕ} {p' : ℕ} → Wrote out p (kit_word (verdict_in b st k)) out' p' → Wording b st out₀ at out' p' (k + 1)
  unfolding kit_words
  word_more w = record { wrote = rw add-one (and_then g.wrote w) }

  pub word_done : {count : ℕ} → k ≡ count → Wrote out₀ at (kit_words b st count) out p
  word_done e = rw (← e) g.wrote

-- ---- the line of a scan
module _ (i n : ℕ) (answers : List ℕ) {m m₁ m₂ m₃ : List ℕ} {at at₁ at₂ at₃ : ℕ} (a : Wrote m at (decimal i) m₁ at₁) (b : Wrote m₁ at₁ (space ∷ []) m₂ at₂) (c : Wrote m₂ at₂ (decimal n) m₃ at₃) where
  pub scan_wrote : {m₄ m₅ : List ℕ} {at₄ at₅ : ℕ} → n ≡ 0 → Wrote m₃ at₃ answers m₄ at₄ → Wrote m₄ at₄ ended m₅ at₅ → Wrote m at (scan_bytes i n answers) m₅ at₅
  unfolding scan_bytes
  scan_wrote e p q = rw (eq-eqb n 0 e) (and_then (and_then (and_then a (and_then b c)) p) q)

  pub refused_wrote : {m₄ : List ℕ} {at₄ : ℕ} → (n ≡ 0 → ⊥) → Wrote m₃ at₃ ended m₄ at₄ → Wrote m at (scan_bytes i n answers) m₄ at₄
  unfolding scan_bytes
  refused_wrote e q = rw (ne_eqb n 0 e, append-nil) (and_then (and_then a (and_then b c)) q)

-- ---- what is said
module _ (event : code.Event) (answers : List ℕ) {out : List ℕ} where
  pub said_nothing : event ≡ Nothing → Wrote out 0 (event_bytes (event_of event) answers) out 0
  unfolding event_bytes
  said_nothing e = rw e (nothing_wrote out)

  pub said_desk : {n : ℕ} {out' : List ℕ} {p : ℕ} → event ≡ Desk n → Wrote out 0 (numbered desk_word n) out' p → Wrote out 0 (event_bytes (event_of event) answers) out' p
  unfolding event_bytes
  said_desk e w = rw e w

  module _ {i n : ℕ} {slip : Option ℕ} (e : event ≡ Scan i n slip) {out₁ : List ℕ} {p₁ : ℕ} (w : Wrote out 0 (scan_bytes i n answers) out₁ p₁) where
    pub said_scan : slip ≡ None → Wrote out 0 (event_bytes (event_of event) answers) out₁ p₁
    unfolding event_bytes scan_event
    said_scan f = rw (e, f) w

    pub said_slip : {kit : ℕ} {out₂ : List ℕ} {p₂ : ℕ} → slip ≡ Some kit → Wrote out₁ p₁ (numbered slip_word kit) out₂ p₂ → Wrote out 0 (event_bytes (event_of event) answers) out₂ p₂
    unfolding event_bytes scan_event
    said_slip f v = rw (e, f) (and_then w v)

module _ (stage : Stage) {out : List ℕ} where
  pub last_awaited : {out' : List ℕ} {p : ℕ} → stage ≡ Awaited → Wrote out 0 (numbered desk_word WRONG_LENGTH) out' p → Wrote out 0 (last_bytes stage) out' p
  unfolding last_bytes
  last_awaited e w = rw e w

  pub last_giving : {count given : ℕ} {out' : List ℕ} {p : ℕ} → stage ≡ Giving count given → Wrote out 0 (numbered desk_word WRONG_LENGTH) out' p → Wrote out 0 (last_bytes stage) out' p
  unfolding last_bytes
  last_giving e w = rw e w

  pub last_opened : {done : ℕ} {out' : List ℕ} {p : ℕ} → stage ≡ Opened done → Wrote out 0 end_line out' p → Wrote out 0 (last_bytes stage) out' p
  unfolding last_bytes
  last_opened e w = rw e w

  pub last_closed : stage ≡ Closed → Wrote out 0 (last_bytes stage) out 0
  unfolding last_bytes
  last_closed e = rw e (nothing_wrote out)

-- what is written from the start is what is handed back
pub handed_whole : {out out' : List ℕ} {end n : ℕ} {bytes out'' : List ℕ} → Wrote out 0 bytes out' end → handed n out'' ≡ finish out' end [] → handed n out'' ≡ in_buffer out bytes
handed_whole {out} {bytes = bytes} w f = f ∙ at_end w ∙ whole out bytes
