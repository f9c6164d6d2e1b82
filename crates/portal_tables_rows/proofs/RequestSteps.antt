-- The rows after the INSERT of a request.
use Rattle.portal_tables_rows.proofs.Common.{refl, lit≤, cast_null, cast_int, cast_or_null, RequestRow}
use Rattle.portal_tables_rows.proofs.Common.{requests, request_cells, with_request}
use Rattle.portal_tables_rows.proofs.HoldsLemmas.{requests_now}
use Rattle.portal_tables_rows.proofs.TableSteps.{LeadsTo, adds}
use Rattle.portal_tables_sql.proofs.RequestTexts as texts
use Rattle.portal_tables_rows.proofs.OthersLemmas.{kept_others, own_named}
use Rattle.portal_tables_sql.specs.declared.our_tables.OurTable.TheVariants as our
use Rattle.portal_tables_rows.proofs.RequestCells.{cast_text_or_null}

pub add_request : (p : RequestRow) → LeadsTo texts.add_request_text (request_cells p) (with_request p)
add_request p old new count ran t h =
    let place = (h.places our.Requests) in
    let exists = (h.tables_exist.tables our.Requests (lit≤ tt, tt)).exists in
    let k = adds texts.add_request_text (request_cells p) old new count ran (requests place.tree) exists
    texts.add_request_terms 11 (texts.add_request_means old.now.schema place.at place.tree exists)
    refl request_cells t.requests p (h.store our.Requests (lit≤ tt, tt))
    (simp (cast_null, cast_int, cast_or_null, cast_text_or_null)) in
    (requests_now h _ k.0 k.1, kept_others old.now (requests place.tree) new.now (own_named our.Requests) k.0)
