use Rattle.portal_commands.proofs.Common.{Keeps-refl, between}
use Rattle.portal_commands.specs.Bounds.{place_value}
use Rattle.portal_commands.proofs.AnswerLemmas.{no_memory}
use Rattle.portal_commands.proofs.answering.answer_with_settings.Goals as goal

pub returns-in_default : goal.returns-in_default
returns-in_default g c =
    let unread = g.R.Read.remaining c.args.input.now in
    let sent = g.W.Write.contents c.args.output.now in
    let place = place_value g.P.Place g.P.Stored.Desk c.args.place in
    no_memory place (between unread unread sent sent) (g.E.Write.contents c.args.errors.now)
    (g.E.Write.contents c.report.new.errors) c.args.moment c.args.seed c.args.settings c.report.result
    c.args.db (Keeps-refl unread, Keeps-refl sent) c.report.ensures.status c.report.ensures.prints
