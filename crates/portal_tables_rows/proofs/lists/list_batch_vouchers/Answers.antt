use Rattle.portal_tables_rows.proofs.Common.{bytes_eq, VoucherRow, by_place}
use Rattle.portal_tables_rows.proofs.ListReading.{batch_rows_are, batch_taken}
use Rattle.portal_tables_rows.proofs.ManyValues.{lists_vouchers}
use Rattle.portal_tables_rows.proofs.lists.list_batch_vouchers.Goals as goal

pub returns : goal.returns
returns g c =
    lists_vouchers g.S.Store _ _ (λ (v : VoucherRow). bytes_eq c.args.batch.now v.batch) by_place
    (batch_taken _) (λ rows shown t h. batch_rows_are _ _ c.args.batch.now rows shown t h)
    (rw (c.params-to_sql.ensures, c.text.ensures.value) at c.read_many.ensures.reads)
