use Rattle.portal_tables_rows.proofs.Common.{ℕ, Ok, sym, ◌∙◌, eqb-true, Decides-eqb}
use Rattle.std.specs.HashSet.{IsFromIterResult}
use Rattle.std.proofs.lemmas.Iterator.Adapters.{YieldsList-from_vec, fact_from_collect}
use Rattle.std.proofs.lemmas.Map.Made.{IsDistinct-from_count, distinct_count-from_IsDistinct}
use Rattle.std.proofs.lemmas.Map.Made.{hash_set_len-from_list}
use Rattle.portal_tables_rows.proofs.keys.are_distinct.Goals as goal

pub returns-clause-distinct : goal.returns-clause-distinct
returns-clause-distinct g c =
    let keys = c.args.keys.items in
    let laws = g.met.K.Eq.laws in
    let made : IsFromIterResult g.K.PartialEq.eq keys c.in_ok-set.set =
    fact_from_collect {E = ℕ} (IsFromIterResult g.K.PartialEq.eq) (Ok c.in_ok-set.set) c.in_ok-set.ensures.ran
    (YieldsList-from_vec keys c.into_iter.ensures.rest (c.into_iter.ensures.len ∙ c.args.keys.ok.0)) in
    let stored = c.len.ensures.len ∙ hash_set_len-from_list laws keys c.in_ok-set.set made in
    let all = c.len-count.ensures ∙ c.args.keys.ok.0 in (
      λ on. IsDistinct-from_count laws keys (sym stored ∙ eqb-true c.len.result c.len-count.result on ∙ all),
      λ apart. (Decides-eqb c.len.result c.len-count.result).1
          (stored ∙ distinct_count-from_IsDistinct laws keys apart ∙ sym all),
    )
