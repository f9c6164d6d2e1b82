use Rattle.portal_os.proofs.Common.{subst, Image}
use Rattle.portal_os.proofs.LeftLemmas.{follows, leaves_only}
use Rattle.portal_os.specs.Opening.{IsFoundFor}
use Rattle.portal_tables.proofs.OpeningLemmas.{untouched_at}
use Rattle.portal_os.proofs.opening.open_store.Goals as goal

pub returns-in-Ok-open_with_clock-clause-opens : goal.returns-in-Ok-open_with_clock-clause-opens
returns-in-Ok-open_with_clock-clause-opens g c =
    let it = c.in-Ok-open_with_clock.ensures.opens in
    rw (← c.in-Ok.ensures.holds)
    (record { opened = it.opened; found = it.found; from = it.from; live = it.live })

pub returns-in-Err-open_with_clock-clause-kept : goal.returns-in-Err-open_with_clock-clause-kept
returns-in-Err-open_with_clock-clause-kept g c L shown = (
  c.in-Err-open_with_clock.left,
  c.into_files.ensures,
  c.in-Err-open_with_clock.ensures.kept L
      (untouched_at L c.in-Ok.files g.P.FilePair.image c.in-Ok.ensures.holds c.in-Ok.ensures.only shown),
)

pub returns-in-Err-open_with_clock-clause-refuses : goal.returns-in-Err-open_with_clock-clause-refuses
returns-in-Err-open_with_clock-clause-refuses g c = (
  c.in-Err-open_with_clock.left,
  c.into_files.ensures,
  λ missing. follows (leaves_only g.P.FilePair.image c.in-Ok.files c.in-Err-open_with_clock.left
      c.in-Ok.ensures.only)
      (c.in-Err-open_with_clock.ensures.untouched
      (λ found. missing (subst (λ (i : Image). IsFoundFor i c.args.purpose) c.in-Ok.ensures.holds found))),
)
