use Rattle.portal_tables.proofs.Common.{Option, option_map, map, subst, grants_of, GrantRow, grant_kept}
use Rattle.portal_model.specs.Rows.{grant_rows}
use Rattle.portal_tables_sql.specs.Finds.{Finds}
use Rattle.portal_tables_rows.specs.Sums.{grant_read}
use Rattle.portal_tables_rows.specs.declared.grants.GrantValue.{GrantValue}
use Rattle.portal_tables.proofs.ShownLemmas.{of_rows, shown_as}
use Rattle.portal_tables.proofs.redemptions.read_grant.Goals as goal

pub returns-in-Some : goal.returns-in-Some
returns-in-Some g c =
    shown_as g.S.Store (λ h legal is. subst (λ (o : Option GrantValue). Finds (λ (x : GrantRow). x.number)
    c.args.number (map grant_kept (grant_rows (grants_of h))) (option_map grant_read o)) c.in-Some.is is.1)
    (of_rows g.S.Store c.in_ok-grant.ensures)
