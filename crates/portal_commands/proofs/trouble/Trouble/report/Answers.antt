use Rattle.portal_commands.proofs.trouble.Trouble.report.Goals as goal

pub returns-clause-prints : goal.returns-clause-prints
returns-clause-prints g c = (
  g.E.Write.contents c.report-status.new.errors,
  c.report-status.ensures.prints,
  c.print_second_line.ensures,
)
