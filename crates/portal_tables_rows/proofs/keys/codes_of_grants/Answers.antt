use Rattle.portal_tables_rows.proofs.Common.{All, All-push, map, take_all, ap, refl, sym, subst, ◌∙◌, IsCode}
use Rattle.portal_tables_rows.proofs.Common.{text_of, GrantValue, grant_read}
use Rattle.portal_tables_rows.proofs.Compose.{made_more}
use Rattle.portal_tables_rows.proofs.keys.codes_of_grants.Goals as goal

pub loop-grant-preserved : goal.loop-grant-preserved
loop-grant-preserved c =
    let done = c.loop-grant.codes.items in
    let grant = c.grant-item.result in
    record {
      read = made_more text_of (λ (x : GrantValue). (grant_read x).code) done c.push.new.self.items grant.code
          c.args.grants.now c.loop-grant.grant-index grant c.loop-grant.invariant.read
          c.in_ok-push.ensures.items
          c.loop-grant-test.true c.grant-item.is refl;
      codes = subst (All IsCode) (sym c.in_ok-push.ensures.items)
          (All-push IsCode done grant.code c.loop-grant.invariant.codes c.text.ensures.spells.is_code);
    }

pub returns-clause-read : goal.returns-clause-read
returns-clause-read c = c.loop-grant.invariant.read ∙ ap (map (λ (x : GrantValue). (grant_read x).code))
    (take_all c.loop-grant.grant-index c.args.grants.now c.loop-grant-test.false)
