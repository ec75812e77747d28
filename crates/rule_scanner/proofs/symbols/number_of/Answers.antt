use Rattle.rule_scanner.proofs.Scanning.{number_good, number_bad}
use Rattle.rule_scanner.proofs.symbols.number_of.Goals as goal

pub returns-in-Ok : goal.returns-in-Ok
returns-in-Ok c = number_good _ c.requires.0 c.requires.1 c.next_word.ensures c.in-Ok.is

pub returns-in-Err : goal.returns-in-Err
returns-in-Err c = number_bad _ c.requires.0 c.requires.1 c.next_word.ensures c.in-Err.is
