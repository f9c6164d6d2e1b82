use Rattle.portal_tables_rows.proofs.Common.{◌<◌, ◌^◌, w64, refl, arith, to_z_pos, bound_number, bound_signed}
use Rattle.portal_tables_rows.proofs.Common.{whole_session_read}
use Rattle.portal_tables_rows.proofs.InsertSteps.{add_whole_session}
use Rattle.portal_tables_rows.proofs.WritesLemmas.{writes_run}
use Rattle.portal_tables_rows.proofs.inserts.insert_whole_session.Goals as goal

pub returns : goal.returns
returns g c =
    let opened : c.get.result < 2 ^ 63 = omega arith in
    writes_run g.S.Store (add_whole_session (whole_session_read c.args.session.now))
    (rw (
      c.params-to_sql.ensures,
      c.params-to_sql-2.ensures,
      c.params-to_sql-3.ensures,
      c.params-to_sql-4.ensures,
      c.params-to_sql-5.ensures,
      c.params-to_sql-6.ensures,
      c.params-to_sql-7.ensures,
      c.params-to_sql-8.ensures,
      c.in_ok-integer.ensures.value,
      to_z_pos w64 c.args.session.now.number (c.in_ok-integer.ensures.fits.0 refl),
      c.text-text.ensures.value,
      c.text.ensures.value,
      to_z_pos w64 c.get.result opened,
      c.get.ensures.value,
      c.in_ok-integer-2.ensures.value,
      to_z_pos w64 c.args.session.now.used (c.in_ok-integer-2.ensures.fits.0 refl),
      c.seconds_or_null.ensures,
      c.seconds_or_null-2.ensures,
      bound_number c.args.session.now.closed,
      bound_number c.args.session.now.ends,
      bound_signed c.args.session.now.remaining,
    ) at c.write.ensures)
