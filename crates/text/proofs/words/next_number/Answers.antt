-- Where the first digit follows one parting byte and is not 0, `number_here` reads the word; elsewhere `other_word` does.
use Rattle.std.proofs.Common.{sym, ◌∙◌, arith}
use Rattle.text.proofs.words.next_number.Goals as goal

pub number_here-requires : goal.number_here-requires
number_here-requires c =
    record { at_in_bounds = (omega arith, sym c.parts.ensures ∙ c.if-parts.true); first_value = (sym c.in-Some.ensures, c.if-first-gt0.true) }
