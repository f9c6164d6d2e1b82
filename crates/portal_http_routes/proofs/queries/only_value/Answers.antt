use Rattle.portal_http_routes.proofs.Common.{◌≡◌, ◌++◌, List, ℕ, Option, refl, ap, ◌∙◌, subst, sym, Bor}
use Rattle.portal_http_routes.proofs.Common.{value_of}
use Rattle.portal_http_routes.specs.Queries.{values_of}
use Rattle.portal_http_routes.proofs.QueryLemmas.{fewer, first, other, none_before, one_before, or_empty}
use Rattle.portal_http_routes.proofs.QueryLemmas.{compared, seen, values_left, now_of}
use Rattle.portal_http_routes.proofs.queries.only_value.Goals as goal

pub returns-then-is_some : goal.returns-then-is_some
returns-then-is_some c =
    let key = c.args.key.now in
    let query = c.in-Some.fields.now in
    let keyed = compared key query _ _ _ _ c.split_at_byte.ensures.front c.split_at_byte-in-Some.ensures.front
    c.eq.ensures c.if-eq.true in
    let total = subst (λ (left : Option (Bor (List ℕ))).
    seen (now_of c.loop-left.found) ++ values_left key (now_of left) ≡ values_of key c.args.query.now)
    c.in-Some.is c.loop-left.invariant in
    one_before c.loop-left.found key query _ (sym c.is_some.ensures ∙ c.if-is_some.true) keyed total

pub loop-left-smaller-else-is_some : goal.loop-left-smaller-else-is_some
loop-left-smaller-else-is_some c =
    rw (c.split_at_byte.ensures.back, c.in-Some.is) (fewer 38 c.in-Some.fields.now)

pub loop-left-preserved-else-is_some : goal.loop-left-preserved-else-is_some
loop-left-preserved-else-is_some c =
    let key = c.args.key.now in
    let query = c.in-Some.fields.now in
    let keyed = compared key query _ _ _ _ c.split_at_byte.ensures.front c.split_at_byte-in-Some.ensures.front
    c.eq.ensures c.if-eq.true in
    let total = subst (λ (left : Option (Bor (List ℕ))).
    seen (now_of c.loop-left.found) ++ values_left key (now_of left) ≡ values_of key c.args.query.now)
    c.in-Some.is c.loop-left.invariant in
    let rest = none_before c.loop-left.found _ _ (sym c.is_some.ensures ∙ c.if-is_some.false) total in
    let value = or_empty _ _ _ _ c.unwrap_or.ensures refl c.split_at_byte-in-Some.ensures.back
    ∙ ap value_of c.split_at_byte.ensures.front in
    rw (value, c.split_at_byte.ensures.back) (first key query _ keyed rest)

pub loop-left-smaller : goal.loop-left-smaller
loop-left-smaller c = rw (c.split_at_byte.ensures.back, c.in-Some.is) (fewer 38 c.in-Some.fields.now)

pub loop-left-preserved : goal.loop-left-preserved
loop-left-preserved c =
    let key = c.args.key.now in
    let query = c.in-Some.fields.now in
    let keyed = compared key query _ _ _ _ c.split_at_byte.ensures.front c.split_at_byte-in-Some.ensures.front
    c.eq.ensures c.if-eq.false in
    let total = subst (λ (left : Option (Bor (List ℕ))).
    seen (now_of c.loop-left.found) ++ values_left key (now_of left) ≡ values_of key c.args.query.now)
    c.in-Some.is c.loop-left.invariant in
    rw c.split_at_byte.ensures.back (other key query _ _ keyed total)
