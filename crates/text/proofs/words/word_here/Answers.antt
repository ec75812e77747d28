use Rattle.text.proofs.Letters.{start, told, more, fits, passes, too_big, bad_letter, is_word, over, over_end}
use Rattle.std.proofs.Common.{◌≡◌, length, sym, ◌∙◌, arith, ltb-false, ltb-true}
use Rattle.text.proofs.words.word_here.Goals as goal

pub loop-next-init : goal.loop-next-init
loop-next-init c = (start _ _, omega arith)

pub returns-then-not-parts : goal.returns-then-not-parts
returns-then-not-parts c = bad_letter _ _ _ _ c.loop-next.invariant.0 c.loop-next-test.true (sym c.digit.ensures ∙ c.in_default.is) (sym c.parts.ensures ∙ c.if-not-parts.true)

pub returns-in_default : goal.returns-in_default
returns-in_default c =
    let asked = c.requires in
    is_word _ _ _ _ c.loop-next.invariant.0 asked.0 asked.1 c.if-input-at-eq-ZERO.false (over _ _ c.loop-next-test.true (sym c.parts.ensures ∙ c.if-not-parts.false)) c.loop-next.invariant.1

pub passes-requires : goal.passes-requires
passes-requires c = (told _ (sym c.in-Some.ensures)).small

pub overflow_mul-number : goal.overflow_mul-number
overflow_mul-number c = let k = fits _ _ (told _ (sym c.in-Some.ensures)).small (ltb-false _ _ (sym c.passes.ensures ∙ c.if-passes.false)) in omega arith

pub overflow_add-number : goal.overflow_add-number
overflow_add-number c = let k = fits _ _ (told _ (sym c.in-Some.ensures)).small (ltb-false _ _ (sym c.passes.ensures ∙ c.if-passes.false)) in omega arith

pub returns-then-passes : goal.returns-then-passes
returns-then-passes c =
    let e = sym c.in-Some.ensures in
    too_big _ _ _ _ c.loop-next.invariant.0 c.loop-next-test.true e (passes _ _ (told _ e).small (ltb-true _ _ (sym c.passes.ensures ∙ c.if-passes.true)))

pub loop-next-preserved : goal.loop-next-preserved
loop-next-preserved c =
    let e = sym c.in-Some.ensures in
    (more _ _ _ _ c.loop-next.invariant.0 c.loop-next-test.true e, fits _ _ (told _ e).small (ltb-false _ _ (sym c.passes.ensures ∙ c.if-passes.false)))

pub returns : goal.returns
returns c =
    let asked = c.requires in
    let end : c.loop-next.next ≡ length c.args.input.now = omega arith in
    rw (← end) (is_word _ _ _ _ c.loop-next.invariant.0 asked.0 asked.1 c.if-input-at-eq-ZERO.false (over_end _ _ c.loop-next-test.false) c.loop-next.invariant.1)
