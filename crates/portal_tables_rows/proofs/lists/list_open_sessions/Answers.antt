use Rattle.portal_tables_rows.proofs.Common.{◌<◌, ◌^◌, w64, map, filter, refl, arith, to_z_pos, map-map}
use Rattle.portal_tables_rows.proofs.Common.{whole_session_cells, whole_session_read}
use Rattle.portal_tables_rows.proofs.Common.{IsOwnWholeSession, is_open_row}
use Rattle.portal_tables_rows.proofs.Cells.{exact_whole_session}
use Rattle.portal_tables_rows.proofs.ManyValues.{own_sessions, reads_many, tells_whole}
use Rattle.portal_tables_rows.proofs.OpenReading.{open_rows_are, open_taken, own_open}
use Rattle.portal_tables_sql.proofs.TableLemmas.{always}
use Rattle.portal_tables_sql.specs.declared.our_tables.OurTable.TheVariants as our
use Rattle.portal_tables_rows.proofs.lists.list_open_sessions.Goals as goal

pub returns-clause-reads : goal.returns-clause-reads
returns-clause-reads g c =
    let small : c.get.result < 2 ^ 63 = omega arith in
    let at = c.args.at in
    reads_many g.S.Store _ _ (open_taken _)
    (λ rows shown t h.
    let was = h.store our.Sessions (always _, tt) in
    let it = tells_whole whole_session_cells 8 (λ x. refl) exact_whole_session IsOwnWholeSession
    (λ v. map whole_session_read v.items) (λ v. map-map whole_session_cells whole_session_read v.items)
    (filter (is_open_row at) was.whole) rows (open_rows_are _ _ at rows shown t h) in
    record {
      is = λ vs cut. record {
        whole = was.whole;
        their_rows = was.their_rows;
        their_totals = was.their_totals;
        are = it.is vs cut;
      };
      owns = λ own. it.owns (own_open at was.whole
          (own_sessions was.whole t.sessions t.totals was.their_rows was.their_totals own.0 own.1));
    })
    (rw (c.params-to_sql.ensures, to_z_pos w64 c.get.result small, c.get.ensures.value)
    at c.read_many.ensures.reads)
