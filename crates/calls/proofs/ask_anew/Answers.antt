-- `calls::ask_anew` meets its contract. Assumes nothing.
use mathlib.Core.Path.{sym, ◌∙◌}
use Rattle.tables.proofs.Puts.{told_sound, news_some, news_none}
use Rattle.tables.proofs.Reach.{told_still_founded}
use Rattle.calls.proofs.Advances.{renewed_asked, renewed_above, renewed_still}
use Rattle.calls.proofs.ask_anew.Goals as goal

pub retell-news-requires : goal.retell-news-requires
retell-news-requires c = c.requires.sound

pub ask_all-requires : goal.ask_all-requires
ask_all-requires c = let d = c.requires in rw c.retell-news.ensures.0 (told_sound d.sound, told_still_founded d.sound d.founded)

pub returns-then-first : goal.returns-then-first
returns-then-first c = renewed_asked c.requires c.retell-news.ensures.0 c.ask_all.ensures

pub ask-requires : goal.ask-requires
ask-requires c = rw c.retell-news.ensures.0 (told_sound c.requires.sound)

pub returns-in-Some : goal.returns-in-Some
returns-in-Some c =
    let told = c.retell-news.ensures in
    let news = news_some _ _ (sym c.in-Some.is ∙ told.1) in
    renewed_above c.requires c.if-first.false told.0 news.0 news.1 c.ask.ensures

pub returns-in_default : goal.returns-in_default
returns-in_default c = let told = c.retell-news.ensures in renewed_still c.requires told.0 (news_none _ _ (sym c.in_default.is ∙ told.1)) c.if-first.false
