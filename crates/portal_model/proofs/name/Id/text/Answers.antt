use Rattle.portal_model.proofs.Padding.{ok-where, id-utf8}
use Rattle.portal_model.proofs.name.Id.text.Goals as goal

pub unwrap-requires : goal.unwrap-requires
unwrap-requires c =
    ok-where _ _ _ _ _ c.from_utf8.result c.from_utf8.ensures.cases (id-utf8 _ c.self.invariant.text)
