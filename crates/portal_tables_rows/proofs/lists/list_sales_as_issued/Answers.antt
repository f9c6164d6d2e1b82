use Rattle.portal_tables_rows.proofs.Common.{◌<◌, ◌^◌, w64, map, filter, refl, arith, to_z_pos, map-map}
use Rattle.portal_tables_rows.proofs.Common.{VoucherRow, IsOwnSale, is_within, sale_cells, sale_columns}
use Rattle.portal_tables_rows.proofs.Common.{sale_read}
use Rattle.portal_tables_rows.proofs.OwnRows.{own_rows, own_sales}
use Rattle.portal_tables_rows.proofs.Listing.{exact_sale}
use Rattle.portal_tables_rows.proofs.ListReading.{sold_rows_are, sold_taken}
use Rattle.portal_tables_rows.proofs.ManyValues.{reads_many, tells_whole}
use Rattle.portal_tables_rows.proofs.lists.list_sales_as_issued.Goals as goal

pub returns : goal.returns
returns g c =
    let low : c.get.result < 2 ^ 63 = omega arith in
    let high : c.get-2.result < 2 ^ 63 = omega arith in
    reads_many g.S.Store _ _ (sold_taken _ _)
    (λ rows shown t h.
    let sold =
    map sale_columns (filter (λ (v : VoucherRow). is_within c.args.from c.args.to v.sold) t.vouchers) in
    let are = sold_rows_are _ _ c.args.from c.args.to rows t h shown in
    record {
      is = (tells_whole sale_cells 2 (λ x. refl) exact_sale IsOwnSale (λ v. map sale_read v.items)
          (λ v. map-map sale_cells sale_read v.items) sold rows are).is;
      owns = λ own. own_rows sale_cells 2 (λ x. refl) IsOwnSale sold rows are
          (own_sales c.args.from c.args.to t.vouchers own);
    })
    (rw (
      c.params-to_sql.ensures,
      c.params-to_sql-2.ensures,
      to_z_pos w64 c.get.result low,
      to_z_pos w64 c.get-2.result high,
      c.get.ensures.value,
      c.get-2.ensures.value,
    ) at c.read_many.ensures.reads)
