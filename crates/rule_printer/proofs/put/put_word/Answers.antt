use Rattle.rule_printer.specs.Printing.{word_spelled}
use Rattle.rule_printer.proofs.put.put_word.Goals as goal

-- src/put.rt:13:1
pub returns-in-False : goal.returns-in-False
unfolding word_spelled
returns-in-False c = rw c.in-False.is c.put_bytes.ensures

-- src/put.rt:13:1
pub returns-in-True : goal.returns-in-True
unfolding word_spelled
returns-in-True c = rw c.in-True.is c.put_bytes-in-True.ensures

-- src/put.rt:13:1
pub returns-in-Atom : goal.returns-in-Atom
unfolding word_spelled
returns-in-Atom c = rw c.in-Atom.is c.put_bytes-in-Atom.ensures

-- src/put.rt:13:1
pub returns-in-And : goal.returns-in-And
unfolding word_spelled
returns-in-And c = rw c.in-And.is c.put_bytes-in-And.ensures

-- src/put.rt:13:1
pub returns-in-Or : goal.returns-in-Or
unfolding word_spelled
returns-in-Or c = rw c.in-Or.is c.put_bytes-in-Or.ensures

-- src/put.rt:13:1
pub returns-in-Not : goal.returns-in-Not
unfolding word_spelled
returns-in-Not c = rw c.in-Not.is c.put_bytes-in-Not.ensures

-- src/put.rt:13:1
pub returns-in-Implies : goal.returns-in-Implies
unfolding word_spelled
returns-in-Implies c = rw c.in-Implies.is c.put_bytes-in-Implies.ensures

-- src/put.rt:13:1
pub returns-in-Historically : goal.returns-in-Historically
unfolding word_spelled
returns-in-Historically c = rw c.in-Historically.is c.put_bytes-in-Historically.ensures

-- src/put.rt:13:1
pub returns-in-Once : goal.returns-in-Once
unfolding word_spelled
returns-in-Once c = rw c.in-Once.is c.put_bytes-in-Once.ensures

-- src/put.rt:13:1
pub returns-in-Since : goal.returns-in-Since
unfolding word_spelled
returns-in-Since c = rw c.in-Since.is c.put_bytes-in-Since.ensures
