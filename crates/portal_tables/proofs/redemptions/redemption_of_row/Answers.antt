use Rattle.portal_tables.proofs.SessionRows.{redemption_told}
use Rattle.portal_tables.proofs.ShownLemmas.{next_fails, shown_as, shown_then}
use Rattle.portal_tables.proofs.redemptions.redemption_of_row.Goals as goal

pub returns-in_err-extended : goal.returns-in_err-extended
returns-in_err-extended g c = next_fails g.S.Store _ c.from_residual-in_err-extended.result
    c.from_residual-in_err-extended.ensures.1 c.in_ok-session.ensures.reads.looks
    c.in_err-extended.ensures.looks

pub returns : goal.returns
returns g c =
    let session = c.in_ok-session.session in
    shown_as g.S.Store (λ h legal is among.
    redemption_told h legal c.args.grant.now session c.args.t c.in_ok-extended.extended c.is_open_row.result
    among c.in_ok-session.ensures.device is.0.0 is.0.1
    (is.1 among is.0.0 is.0.1) (λ s found. c.is_open_row.ensures h s is.0.0 found))
    (shown_then g.S.Store c.in_ok-session.ensures.reads c.in_ok-extended.ensures)
