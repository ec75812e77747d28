-- The original passes over what a state has past the largest atom: it goes on as with the first entries alone. Assumes nothing.
use Prim.Native.Nat.{ℕ, ◌≤◌, ◌<◌}
use native.Mathlib.Omega.{arith}
use mathlib.Core.Path.{◌≡◌, sym, ap, ◌∙◌}
use mathlib.Core.Logic.{⊎_elim}
use mathlib.Core.List.{List, ◌∷◌, map}
use lib.ListN.{length, take}
use lib.Seq.{length-take-le, take_all, take-take}
use Rattle.lists.proofs.Tests.{lt_or_ge}
use Rattle.numbers.specs.Limits.{LAST_TIME}
use Rattle.pmtl.specs.Book.{Book, Ordered, width_of}
use Rattle.pmtl.specs.Calls.{state, stamped, timed, History, now_of}
use Rattle.original.specs.Rust.Ran.{done}
use Rattle.original.specs.Proper.{Fits}
use Rattle.original.specs.Replay.{made}
use Rattle.original.proofs.Fulls.{Clocks}
use Rattle.original.proofs.Replays.{is_one, oracle_at, time_at, state_at}
use Rattle.original.proofs.Panics.{late}

module _ (b : Book) (w : Ordered b.rows) (fit : Fits b.rows) (h : History) (l : Clocks b.rows h) (bytes : List ℕ) where
  abbrev first : List ℕ
  first = take (width_of b.rows) bytes

  none_extra : length bytes < width_of b.rows → made (oracle_at b h) (state bytes) ≡ made (oracle_at b h) (state first)
  none_extra p = ap (λ (xs : List ℕ). made (oracle_at b h) (state xs)) (sym (take_all (width_of b.rows) bytes (omega arith)))

  some_extra : width_of b.rows ≤ length bytes → made (oracle_at b h) (state bytes) ≡ made (oracle_at b h) (state first)
  some_extra p =
      (state_at b w fit h l bytes p).is
      ∙ ap (λ (xs : List ℕ). done (oracle_at b (record { clock = (now_of b.rows h).clock; atoms = map is_one xs } ∷ h))) (sym (take-take (width_of b.rows) (width_of b.rows) bytes (omega arith)))
      ∙ sym (state_at b w fit h l first (omega (arith, length-take-le (width_of b.rows) bytes p))).is

  pub extra_in_state : made (oracle_at b h) (state bytes) ≡ made (oracle_at b h) (state first)
  extra_in_state = ⊎_elim none_extra some_extra (lt_or_ge (length bytes) (width_of b.rows))

module _ (b : Book) (w : Ordered b.rows) (fit : Fits b.rows) (h : History) (l : Clocks b.rows h) (t : ℕ) (k : t ≤ LAST_TIME) (bytes : List ℕ) where
  -- in a stamped call, too: its time panics, or the state comes after it
  pub extra_in_stamped : made (oracle_at b h) (stamped t bytes) ≡ made (oracle_at b h) (stamped t (take (width_of b.rows) bytes))
  unfolding made
  extra_in_stamped =
      ⊎_elim
      (λ p. rw (late (oracle_at b h) t p))
      (λ p. let q = time_at b w fit h l t p k in rw q.is (extra_in_state b w fit (timed (now_of b.rows h) t ∷ h) q.clocks bytes))
      (lt_or_ge t (now_of b.rows h).clock)
