use Rattle.portal_json.proofs.Common.{ap, ◌∙◌, None, has_float}
use Rattle.portal_json.specs.Bodies.{own_details_body, own_details_data}
use Rattle.portal_json.proofs.ObjectLemmas.{text_along}
use Rattle.portal_json.proofs.DetailsLemmas.{details_in_order, whole_details}
use Rattle.portal_json.proofs.details.own_details_text.Goals as goal

pub text_of_value-requires : goal.text_of_value-requires
text_of_value-requires c = ap has_float (c.in_ok-value.ensures ∙ details_in_order None c.args.details.now)
    ∙ whole_details None c.args.details.now

pub returns-clause-ok : goal.returns-clause-ok
unfolding own_details_body
returns-clause-ok c = text_along c.text_of_value.result _ (own_details_data c.args.details.now)
    (c.in_ok-value.ensures ∙ details_in_order None c.args.details.now) c.text_of_value.ensures.ok
