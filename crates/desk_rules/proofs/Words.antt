-- `promised` and `stopped` are what Words says of them. Assumes nothing.
use Prim.Native.Nat.{ℕ, zero, suc, ◌+◌, ◌≤◌, ◌<◌}
use native.Mathlib.Omega.{arith}
use native.Mathlib.Nat.{not-suc-le-zero, le_of_suc-le-suc}
use mathlib.Core.Path.{◌≡◌, refl, ap, ◌∙◌}
use mathlib.Core.Logic.{◌↔◌}
use mathlib.Core.Bool.{true, false, not, ◌&&◌, false≢true}
use mathlib.Core.List.{List, [], ◌∷◌}
use lib.Dec.{leb}
use borrow.Author.Tests.{leb-true, le-leb, not-true, eqb-true, eq-eqb}
use Rattle.lists.proofs.Tests.{clash, fails_by, and_left, and_right, and_intro, or_left, or_right, or_elim, not_yes}
use Rattle.desk_rules.specs.Scans.{Kit, Scan, reads, promised, stopped}
use Rattle.desk_rules.specs.Words.{Ago, Promised, Stopped}

pub reads_is : (c : ℕ) (e : Scan) → reads c e ≡ true → e.barcode ≡ c
unfolding reads
reads_is c e h = eqb-true e.barcode c h

is_reads : (c : ℕ) (e : Scan) → e.barcode ≡ c → reads c e ≡ true
unfolding reads
is_reads c e h = eq-eqb e.barcode c h

module _ (x : Kit) where
  -- ---- promised
  promised_said : (t : ℕ) (es : List Scan) → promised x t es ≡ true → Promised x t es
  unfolding promised
  promised_said t [] h = absurd (false≢true h)
  promised_said t (e ∷ es) h =
      or_elim (reads x.promise e && leb t (e.hour + x.window)) (not (reads x.return e) && promised x t es)
      (λ p. record {
        j = 0;
        scan = e;
        before = es;
        ago = (refl, refl);
        is_promise = reads_is x.promise e (and_left _ _ p);
        in_window = leb-true t (e.hour + x.window) (and_right (reads x.promise e) _ p);
        no_return = λ m r past l a. absurd (not-suc-le-zero l);
      })
      (λ p. more (not-true (reads x.return e) (and_left _ _ p)) (promised_said t es (and_right (not (reads x.return e)) _ p))) h
    where
      more : reads x.return e ≡ false → Promised x t es → Promised x t (e ∷ es)
      more n q = record {
        j = suc q.j;
        scan = q.scan;
        before = q.before;
        ago = q.ago;
        is_promise = q.is_promise;
        in_window = q.in_window;
        no_return = none;
      }
        where
          none : (m : ℕ) (r : Scan) (past : List Scan) → m < suc q.j → Ago m r past (e ∷ es) → ¬ (r.barcode ≡ x.return)
          none zero r past l a y = clash (is_reads x.return e (ap (λ (s : Scan). s.barcode) a.0 ∙ y)) n
          none (suc m) r past l a y = q.no_return m r past (le_of_suc-le-suc l) a y

  said_promised : (t j : ℕ) (s : Scan) (b es : List Scan) → Ago j s b es → s.barcode ≡ x.promise → t ≤ s.hour + x.window
      → ((m : ℕ) (e : Scan) (past : List Scan) → m < j → Ago m e past es → ¬ (e.barcode ≡ x.return)) → promised x t es ≡ true
  unfolding promised
  said_promised t j s b [] a p q n = absurd a
  said_promised t zero s b (e ∷ es) a p q n = rw a.0 (or_left _ _ (and_intro (reads x.promise s) _ (is_reads x.promise s p) (le-leb t (s.hour + x.window) q)))
  said_promised t (suc j) s b (e ∷ es) a p q n =
      or_right (reads x.promise e && leb t (e.hour + x.window)) _
      (and_intro _ _ (not_yes (reads x.return e) (fails_by (reads x.return e) (λ y. n 0 e es (omega arith) (refl, refl) (reads_is x.return e y))))
      (said_promised t j s b es a p q (λ m r past l c. n (suc m) r past (omega arith) c)))

  pub promised_iff : (t : ℕ) (es : List Scan) → (promised x t es ≡ true) ↔ Promised x t es
  promised_iff t es = (promised_said t es, λ q. said_promised t q.j q.scan q.before es q.ago q.is_promise q.in_window q.no_return)

  -- ---- stopped
  stopped_said : (es : List Scan) → stopped x es ≡ true → Stopped x es
  unfolding stopped
  stopped_said [] h = absurd (false≢true h)
  stopped_said (e ∷ es) h =
      or_elim (reads x.handout e && not (promised x e.hour es)) (stopped x es)
      (λ p. record {
        i = 0;
        scan = e;
        before = es;
        ago = (refl, refl);
        is_handout = reads_is x.handout e (and_left _ _ p);
        not_promised = λ q. clash ((promised_iff e.hour es).1 q) (not-true (promised x e.hour es) (and_right (reads x.handout e) _ p));
      })
      (λ p. let q = stopped_said es p in record { i = suc q.i; scan = q.scan; before = q.before; ago = q.ago; is_handout = q.is_handout; not_promised = q.not_promised }) h

  said_stopped : (i : ℕ) (s : Scan) (b es : List Scan) → Ago i s b es → s.barcode ≡ x.handout → ¬ Promised x s.hour b → stopped x es ≡ true
  unfolding stopped
  said_stopped i s b [] a p n = absurd a
  said_stopped zero s b (e ∷ es) a p n = rw (a.0, a.1) (or_left _ _
      (and_intro (reads x.handout s) _ (is_reads x.handout s p) (not_yes (promised x s.hour b) (fails_by (promised x s.hour b) (λ h. n ((promised_iff s.hour b).0 h))))))
  said_stopped (suc i) s b (e ∷ es) a p n = or_right (reads x.handout e && not (promised x e.hour es)) _ (said_stopped i s b es a p n)

  pub stopped_iff : (es : List Scan) → (stopped x es ≡ true) ↔ Stopped x es
  stopped_iff es = (stopped_said es, λ q. said_stopped q.i q.scan q.before es q.ago q.is_handout q.not_promised)
