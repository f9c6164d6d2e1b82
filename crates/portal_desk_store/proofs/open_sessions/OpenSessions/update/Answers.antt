use Rattle.portal_desk_store.proofs.Common.{rules, subst, sym, ap, ◌∙◌, ◌∷◌, entry, is_open_at, OpenAt}
use Rattle.portal_desk_store.proofs.Common.{HasOpenSessions, IsAscending, sessions_after_changes}
use Rattle.std.proofs.lemmas.Fn.{filter_same}
use Rattle.portal_desk_store.proofs.ListLemmas.{has_after, has_pruned, open_at}
use Rattle.portal_desk_store.proofs.open_sessions.OpenSessions.update.Goals as goal

-- below its limit the list keeps the sessions that have ended
pub returns-then-len-limit : goal.returns-then-len-limit
returns-then-len-limit c = λ H legal command t follows ch has.
    has_after H legal command t follows c.args.changes.now ch c.args.self has
    c.moment_of-moment.result c.moment_of-moment.ensures c.apply_to_sessions.new.sessions.items
    (λ up. c.in_ok-apply_to_sessions.ensures
    (subst (λ (o : OpenAt). IsAscending o.sessions) (sym c.self.view_is) up)
    ∙ ap (λ (o : OpenAt). sessions_after_changes c.args.changes.now o.sessions) c.self.view_is)

-- at its limit they are dropped
pub returns : goal.returns
returns c = λ H legal command t follows ch has.
    let after = has_after H legal command t follows c.args.changes.now ch c.args.self has
    c.moment_of-moment.result c.moment_of-moment.ensures c.apply_to_sessions.new.sessions.items
    (λ up. c.in_ok-apply_to_sessions.ensures
    (subst (λ (o : OpenAt). IsAscending o.sessions) (sym c.self.view_is) up)
    ∙ ap (λ (o : OpenAt). sessions_after_changes c.args.changes.now o.sessions) c.self.view_is) in
    subst (HasOpenSessions (entry t command ∷ H)) (sym c.new.ensures)
    (has_pruned (entry t command ∷ H)
    (open_at c.moment_of-moment.result c.apply_to_sessions.new.sessions.items) after
    c.retain.new.self.items
    (filter_same _ (is_open_at c.moment_of-moment.result) _ (λ x b f' k. search rules) _ _
    c.retain.ensures.filtered))
