use Rattle.portal_tables_rows.proofs.Common.{w64, refl, subst, to_z_pos, bound_number, AnswerCells}
use Rattle.portal_tables_rows.proofs.Common.{RequestRow, row_of_request, text_of_caller, Writes, with_request}
use Rattle.std.specs.String.{string_bytes}
use Rattle.portal_ledger.specs.Ledger.{kept_with}
use Rattle.portal_ledger.specs.Fingerprint.{Fingerprint}
use Rattle.portal_tables_rows.specs.Words.{row_cells}
use Rattle.portal_tables_rows.proofs.RequestSteps.{add_request}
use Rattle.portal_tables_rows.proofs.RequestCells.{bound_word}
use Rattle.portal_tables_rows.proofs.WritesLemmas.{writes_run}
use Rattle.portal_tables_rows.proofs.requests.insert_request.Goals as goal

pub returns : goal.returns
returns g c =
    let fields = c.mark.inside in
    let seen : Fingerprint = record {
      caller = fields.caller;
      number = fields.number;
      method = string_bytes fields.method;
      path = string_bytes fields.path;
      body = fields.body.items;
    } in
    let row = c.answer_row-row.result in
    let with : AnswerCells → RequestRow = λ a. record {
      caller = text_of_caller seen.caller;
      number = seen.number;
      method = seen.method;
      path = seen.path;
      body = seen.body;
      answer = a;
    } in
    subst (λ (m : Fingerprint). Writes g.S.Store (with_request (row_of_request
    (kept_with m c.args.answer.now))) c.args.tx.now c.write.new.tx c.write.result) c.mark.view_is
    (subst (λ a. Writes g.S.Store (with_request (with a)) c.args.tx.now c.write.new.tx c.write.result)
    c.answer_row-row.ensures
    (writes_run g.S.Store (add_request (with (row_cells row)))
    (rw (
      c.params-to_sql.ensures,
      c.params-to_sql-2.ensures,
      c.params-to_sql-3.ensures,
      c.params-to_sql-4.ensures,
      c.params-to_sql-5.ensures,
      c.params-to_sql-6.ensures,
      c.params-to_sql-7.ensures,
      c.params-to_sql-8.ensures,
      c.params-to_sql-9.ensures,
      c.params-to_sql-10.ensures,
      c.as_bytes.ensures,
      c.of-text.ensures.text,
      c.text.ensures.value,
      c.as_str.ensures.value,
      c.as_str-2.ensures.value,
      c.as_slice.ensures.value,
      c.in_ok-n1.ensures.value,
      to_z_pos w64 row.n1 (c.in_ok-n1.ensures.fits.0 refl),
      c.in_ok-n2.ensures,
      c.in_ok-n3.ensures,
      bound_word row.word,
      bound_number row.n2,
      bound_number row.n3,
    ) at c.write.ensures)))
