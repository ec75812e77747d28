use Rattle.rule_scanner.proofs.Scanning.{not_blank, after_blanks, only_blanks}
use Rattle.rule_scanner.proofs.symbols.next_symbol.Goals as goal

pub symbol_here-requires : goal.symbol_here-requires
symbol_here-requires c = (c.if-at-input.true, not_blank _ _ _ c.run_end-at.ensures.0 c.if-at-input.true)

pub returns-then-at-input : goal.returns-then-at-input
returns-then-at-input c = after_blanks _ _ _ c.run_end-at.ensures.0 c.symbol_here.ensures

pub returns : goal.returns
returns c = only_blanks _ _ _ c.run_end-at.ensures.0 c.if-at-input.false c.run_end-at.ensures.1
