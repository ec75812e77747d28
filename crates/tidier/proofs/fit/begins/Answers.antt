use Rattle.tidier.proofs.fit.begins.Goals as goal

pub returns : goal.returns
returns c = rw (c.kind_in.ensures, c.word.ensures)
