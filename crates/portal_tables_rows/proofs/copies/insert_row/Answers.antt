use Rattle.portal_tables_rows.proofs.Common.{ap, sym, ◌∙◌, ◌++◌, ◌∷◌, [], refl, map, take}
use Rattle.portal_tables_rows.proofs.Common.{take_all, take_more, ◌<◌, length, arith}
use Rattle.portal_tables_rows.proofs.Common.{map-append, Null}
use Rattle.sqlite.specs.Values.{bound, bound_value}
use Rattle.sqlite_value.specs.Value.{owned}
use Rattle.portal_tables_rows.proofs.CopySteps.{row_added}
use Rattle.portal_tables_rows.proofs.copies.insert_row.Goals as goal

pub loop-at-init : goal.loop-at-init
loop-at-init g c = record { tx = refl; bound = ap bound c.new-params.ensures.items }

pub loop-at-preserved : goal.loop-at-preserved
loop-at-preserved g c =
    let row = c.args.row.now in
    let at = c.loop-at.at in
    let within : at < length row = omega (arith, c.loop-at-test.true, c.column_count-at-end.ensures) in
    record {
      tx = refl;
      bound = ap bound c.in_ok-push.ensures.items ∙ map-append _ c.loop-at.params.items _
          ∙ ap (λ l. l ++ bound_value (owned c.in_ok-get_ref.field-0) ∷ []) c.loop-at.invariant.bound
          ∙ ap (λ v. map bound_value (take at row) ++ bound_value v ∷ []) (c.in_ok-get_ref.ensures.ok.1)
          ∙ sym (ap (map bound_value) (take_more row at Null within)
          ∙ map-append bound_value (take at row) _);
    }

pub returns : goal.returns
returns g c = row_added g.S.Store c.args.table c.args.row.now (bound c.as_slice.result.now)
    c.insert_statement.ensures
    (ap bound c.as_slice.ensures.value ∙ c.loop-at.invariant.bound
    ∙ ap (map bound_value) (take_all c.loop-at.at c.args.row.now
    (omega (arith, c.loop-at-test.false, c.column_count-at-end.ensures)))) c.write.ensures
