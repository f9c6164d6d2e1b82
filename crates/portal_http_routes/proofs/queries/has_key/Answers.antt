use Rattle.portal_http_routes.proofs.Common.{◌≡◌, List, [], ℕ, Option, ap, subst, Bor}
use Rattle.portal_http_routes.specs.Queries.{is_any, values_of}
use Rattle.portal_http_routes.proofs.QueryLemmas.{fewer, first, other, compared, values_left, now_of}
use Rattle.portal_http_routes.proofs.queries.has_key.Goals as goal

pub returns-then-eq : goal.returns-then-eq
returns-then-eq c =
    let key = c.args.key.now in
    let query = c.in-Some.fields.now in
    let keyed = compared key query _ _ _ _ c.split_at_byte.ensures.front c.split_at_byte-in-Some.ensures.front
    c.eq.ensures c.if-eq.true in
    let total = subst (λ (left : Option (Bor (List ℕ))). values_left key (now_of left)
    ≡ values_of key c.args.query.now) c.in-Some.is c.loop-left.invariant in
    ap is_any (first key query _ keyed total)

pub loop-left-smaller : goal.loop-left-smaller
loop-left-smaller c = rw (c.split_at_byte.ensures.back, c.in-Some.is) (fewer 38 c.in-Some.fields.now)

pub loop-left-preserved : goal.loop-left-preserved
loop-left-preserved c =
    let key = c.args.key.now in
    let query = c.in-Some.fields.now in
    let keyed = compared key query _ _ _ _ c.split_at_byte.ensures.front c.split_at_byte-in-Some.ensures.front
    c.eq.ensures c.if-eq.false in
    let total = subst (λ (left : Option (Bor (List ℕ))). values_left key (now_of left)
    ≡ values_of key c.args.query.now) c.in-Some.is c.loop-left.invariant in
    rw c.split_at_byte.ensures.back (other key query [] _ keyed total)
