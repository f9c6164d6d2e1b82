use Rattle.portal_tables_rows.proofs.Common.{refl, subst, sym, IfOk-weaker, VoucherValue, voucher_read}
use Rattle.std.specs.List.{IsDistinct}
use Rattle.portal_tables_rows.specs.Audit.{same_place}
use Rattle.portal_tables_rows.specs.contracts.keys.PlaceKeyPartialEq.TheImpl as derived
use Rattle.portal_tables_rows.specs.declared.keys.PlaceKey.{PlaceKey}
use Rattle.portal_tables_rows.proofs.KeyLemmas.{distinct_as}
use Rattle.portal_tables_rows.proofs.keys.are_places_distinct.Goals as goal

abbrev place_of : VoucherValue → PlaceKey
place_of v = record { batch = v.batch; place = v.place }

pub returns-clause-distinct : goal.returns-clause-distinct
returns-clause-distinct c =
    let vouchers = c.args.vouchers.now in
    let e = derived.eq-value.it in
    let places = c.in_ok-places_of_vouchers.ensures.places in
    IfOk-weaker c.are_distinct.result _ _
    (λ distinct same. (
      λ on. distinct_as e same_place place_of voucher_read vouchers (λ x y h k. refl)
          (subst (IsDistinct e) places (same.0 on)),
      λ apart. same.1 (subst (IsDistinct e) (sym places)
          (distinct_as same_place e voucher_read place_of vouchers (λ x y h k. refl) apart)),
    )) c.are_distinct.ensures.distinct
