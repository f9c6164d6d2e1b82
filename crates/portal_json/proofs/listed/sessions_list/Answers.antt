use Rattle.portal_json.proofs.ListedLemmas.{list_text_is, with_part}
use Rattle.portal_json.proofs.listed.sessions_list.Goals as goal

pub returns-clause-ok : goal.returns-clause-ok
returns-clause-ok g c = with_part c.in_ok-put_list.ensures c.new-text.ensures.bytes
    (list_text_is g.T.Entry.shown c.args.entries.now)
