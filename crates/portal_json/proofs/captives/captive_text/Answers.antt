use Rattle.portal_json.proofs.Common.{◌≡◌, refl, ◌∙◌, option_map, List, ℕ, Bor, Option, object, no_members}
use Rattle.portal_json.proofs.Common.{put_all, captive_keys, captive_data}
use Rattle.portal_model.specs.declared.captive.Captive.{Captive}
use Rattle.portal_json.specs.Bodies.{captive_body}
use Rattle.portal_json.proofs.ObjectLemmas.{put_all-rising, text_along}
use Rattle.portal_json.proofs.captives.captive_text.Goals as goal

in_order : (state : Captive) (portal : List ℕ) (venue : Option (List ℕ))
    → object (put_all (captive_keys state portal venue) no_members) ≡ captive_data state portal venue
in_order state portal venue = put_all-rising (captive_keys state portal venue) refl

pub returns-clause-ok : goal.returns-clause-ok
unfolding captive_body
returns-clause-ok c =
    let venue = option_map (λ (url : Bor (List ℕ)). url.now) c.args.venue_url in
    text_along c.text_of_value.result _ (captive_data c.args.state.now c.args.portal_url.now venue)
    (c.in_ok-value.ensures ∙ in_order c.args.state.now c.args.portal_url.now venue) c.text_of_value.ensures.ok
