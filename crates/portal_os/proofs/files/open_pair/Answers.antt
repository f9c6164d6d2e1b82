use Rattle.std.proofs.Common.{◌∙◌, sym, subst}
use Rattle.portal_commands.specs.Places.{IsDatabaseError}
use Rattle.portal_os.proofs.LeftLemmas.{refuses_files}
use Rattle.portal_os.proofs.OpeningLemmas.{clean_by, open_by}
use Rattle.portal_os.proofs.files.open_pair.Goals as goal

pub returns-in-Ok-attach_store-clause-represents : goal.returns-in-Ok-attach_store-clause-represents
returns-in-Ok-attach_store-clause-represents g c L shown = λ is.
    let clean = clean_by c.in-Ok.conn (c.in-Ok-attach_store.ensures.fault_free is) in
    c.in-Ok-attach_store.ensures.attaches L (c.in-Ok.ensures.opens.opened L shown clean) is

pub returns-in-Ok-attach_store-clause-found : goal.returns-in-Ok-attach_store-clause-found
returns-in-Ok-attach_store-clause-found g c =
    λ is. c.in-Ok.ensures.opens.found (clean_by c.in-Ok.conn (c.in-Ok-attach_store.ensures.fault_free is))

pub returns-in-Ok-attach_store-clause-opened : goal.returns-in-Ok-attach_store-clause-opened
returns-in-Ok-attach_store-clause-opened g c = λ is.
    let clean = clean_by c.in-Ok.conn (c.in-Ok-attach_store.ensures.fault_free is) in (
      c.in-Ok.conn,
      c.in-Ok.ensures.opens.from clean,
      λ L shown.
          let at = c.in-Ok.ensures.opens.opened L shown clean in
          (at, c.in-Ok-attach_store.ensures.attaches L at is, c.in-Ok-attach_store.ensures.others L at is),
    )

pub returns-in-Err-attach_store-clause-fails : goal.returns-in-Err-attach_store-clause-fails
returns-in-Err-attach_store-clause-fails g c =
    let it = c.in-Err-attach_store.ensures in (
      it.fails.0,
      c.unattached-trouble.ensures.error ∙ it.fails.1,
      c.in-Ok.conn,
      λ honest.
          let refused = it.fails.2 honest in
          let clean = clean_by c.in-Ok.conn refused.0 in (
            c.in-Ok.ensures.opens.found clean,
            (c.in-Ok.ensures.opens.from clean).0,
            refused.1,
            λ L shown. refused.2 L (c.in-Ok.ensures.opens.opened L shown clean),
            λ other. it.kept honest (open_by c.in-Ok.conn (c.in-Ok.ensures.opens.live clean))
                (λ is. other (c.unattached-trouble.ensures.error ∙ is)),
          ),
      it.spares,
    )

pub returns-in-Err-clause-fails : goal.returns-in-Err-clause-fails
returns-in-Err-clause-fails g c =
    refuses_files g.P.FilePair.image c.args.purpose c.in-Err.left c.in-Err.error _
    (c.trouble_at.ensures.error ∙ c.program_error.ensures) c.in-Err.ensures.refuses

pub returns-in-Err-attach_store-clause-kept : goal.returns-in-Err-attach_store-clause-kept
returns-in-Err-attach_store-clause-kept g c L shown = λ honest.
    let it = c.in-Err-attach_store.ensures in
    let clean = clean_by c.in-Ok.conn (it.fails.2 honest).0 in
    it.holds L (c.in-Ok.ensures.opens.opened L shown clean) honest

pub returns-in-Err-attach_store-clause-why : goal.returns-in-Err-attach_store-clause-why
returns-in-Err-attach_store-clause-why g c = (
  subst IsDatabaseError (sym c.unattached-trouble.ensures.error) c.in-Err-attach_store.ensures.why,
  c.unattached-trouble.ensures.at,
)
