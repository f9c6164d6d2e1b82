use Rattle.portal_tables.proofs.Common.{◌≡◌, ◌∙◌, sym, subst, ap, List, map, take, length, filter_map}
use Rattle.portal_tables.proofs.Common.{nat_lt, grants_of}
use Rattle.portal_model.specs.Redemptions.{first_redemptions, redemptions_among}
use Rattle.portal_tables_rows.specs.declared.grants.GrantValue.{GrantValue}
use Rattle.portal_tables.specs.RedemptionLists.{AreGrantsOf, redemption_numbered}
use Rattle.portal_tables.proofs.BatchLemmas.{first_rows}
use Rattle.portal_tables.proofs.RedemptionRows.{last_shown, row_number}
use Rattle.portal_tables.proofs.ShownLemmas.{next_fails, of_rows, shown_as, shown_then}
use Rattle.portal_tables.proofs.redemptions.read_last_redemptions.Goals as goal

pub returns-in_err-redemptions : goal.returns-in_err-redemptions
returns-in_err-redemptions g c = next_fails g.S.Store _ c.from_residual-in_err-redemptions.result
    c.from_residual-in_err-redemptions.ensures.1 c.in_ok-listed.ensures.reads.looks
    c.in_err-redemptions.ensures.looks

pub returns : goal.returns
returns g c =
    let code = c.args.code.now in
    let t = c.args.t in
    let rows = c.in_ok-listed.listed.items in
    let redemptions = c.in_ok-redemptions.redemptions.items in
    let all : c.as_slice-rows.result.now ≡ rows = c.as_slice-rows.ensures.value in
    let shown : take c.min-shown.result c.as_slice-rows.result.now ≡ take 100 rows =
    ap (λ n. take n c.as_slice-rows.result.now) c.min-shown.ensures
    ∙ first_rows 100 c.as_slice-rows.result.now ∙ ap (take 100) all in
    shown_as g.S.Store (λ h legal is.
    subst (λ n. (redemptions, nat_lt 100 n) ≡ first_redemptions (redemptions_among h t code (grants_of h)))
    (sym (ap length all))
    (last_shown h legal t code c.in_ok-listed.ensures.code rows is.0.1 redemptions
    (subst (λ (rs : List GrantValue). AreGrantsOf h rs
    → redemptions ≡ filter_map (redemption_numbered h t) (map row_number rs)) shown is.1)))
    (shown_then g.S.Store (of_rows g.S.Store c.in_ok-listed.ensures.reads) c.in_ok-redemptions.ensures)
