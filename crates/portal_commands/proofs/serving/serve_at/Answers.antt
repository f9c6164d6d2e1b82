use Rattle.portal_commands.proofs.Common.{[], inl, inr, refl, arith, Keeps-refl}
use Rattle.portal_commands.proofs.serving.serve_at.Goals as goal

pub returns-in_default-clause-prints : goal.returns-in_default-clause-prints
returns-in_default-clause-prints g c =
    inr (
      c.plain.result,
      inr (c.plain.ensures.error, c.plain.ensures.line),
      (c.report.ensures.status, Keeps-refl _, c.report.ensures.prints),
    )

pub returns-in_default-clause-serves : goal.returns-in_default-clause-serves
returns-in_default-clause-serves g c = λ honest old represents. (old, represents, ([], [], omega arith, refl))

pub returns-in-Err-clause-prints : goal.returns-in-Err-clause-prints
returns-in-Err-clause-prints g c = inr (
  c.in-Err.trouble,
  inl c.in-Err.ensures.why,
  (c.report-in-Err.ensures.status, Keeps-refl _, c.report-in-Err.ensures.prints),
)

pub returns-in-Err-clause-serves : goal.returns-in-Err-clause-serves
returns-in-Err-clause-serves g c = λ honest old represents. (old, represents, ([], [], omega arith, refl))

pub returns-clause-prints : goal.returns-clause-prints
returns-clause-prints g c = inl c.serve.ensures.prints

pub returns-clause-serves : goal.returns-clause-serves
returns-clause-serves g c = λ honest old represents.
    let it = c.serve.ensures.serves honest old represents in (it.0, it.1, it.2.0)

pub returns-in_default-clause-turns : goal.returns-in_default-clause-turns
returns-in_default-clause-turns g c = λ honest old represents. (
  old,
  represents,
  inl (
    c.plain.result,
    inr (c.plain.ensures.error, c.plain.ensures.line),
    (c.report.ensures.status, Keeps-refl _, c.report.ensures.prints),
    refl,
  ),
)

pub returns-in-Err-clause-turns : goal.returns-in-Err-clause-turns
returns-in-Err-clause-turns g c = λ honest old represents. (
  old,
  represents,
  inl (
    c.in-Err.trouble,
    inl (c.in-Err.ensures.why, c.in-Err.ensures.fails),
    (c.report-in-Err.ensures.status, Keeps-refl _, c.report-in-Err.ensures.prints),
    refl,
  ),
)

pub returns-clause-turns : goal.returns-clause-turns
returns-clause-turns g c = λ honest old represents.
    let it = c.serve.ensures.turns honest old represents in (
      it.0,
      it.1,
      inr (c.in-Ok-listen.host, c.serve.new.host, it.2.0, c.in-Ok-listen.ensures.bound, it.2.1, it.2.2),
    )
