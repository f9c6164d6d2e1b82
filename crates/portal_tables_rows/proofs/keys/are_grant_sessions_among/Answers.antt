use Rattle.portal_tables_rows.proofs.Common.{◌≡◌, rules, map, nat_eq, Decides-eqb}
use Rattle.portal_tables_rows.proofs.KeyLemmas.{among_is}
use Rattle.portal_tables_rows.specs.declared.grants.GrantValue.{GrantValue}
use Rattle.portal_tables_rows.proofs.keys.are_grant_sessions_among.Goals as goal

pub returns-clause-among : goal.returns-clause-among
returns-clause-among c =
    let keys : c.in_ok-keys.keys.items ≡ map (λ (x : GrantValue). x.session) c.args.grants.now =
    search rules in
    among_is nat_eq Decides-eqb (map (λ (x : GrantValue). x.session) c.args.grants.now) c.args.sessions.now
    c.are_among.result (rw (← keys, ← c.deref.ensures.value) c.are_among.ensures.among)
