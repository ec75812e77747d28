-- `property_summaries::summary_at` meets its contract. Assumes nothing.
use Rattle.property_summaries.proofs.Bridge.{summary_in_lem}
use Rattle.property_summaries.proofs.summary_at.Goals as goal

pub returns : goal.returns
returns c = summary_in_lem c.args.monitor.now c.args.i c.requires.i_bound c.taken.ensures c.entry_word.ensures c.entry_word-2.ensures c.entry_word-3.ensures c.entry_word-4.ensures c.entry_word-5.ensures
