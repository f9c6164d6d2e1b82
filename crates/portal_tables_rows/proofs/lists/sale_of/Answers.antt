use Rattle.std.proofs.Common.{ap, sym}
use Rattle.portal_tables_rows.proofs.lists.sale_of.Goals as goal

pub returns-in-Some-clause-read : goal.returns-in-Some-clause-read
returns-in-Some-clause-read c = ap (λ sold. (c.args.voucher.now.batch, sold)) (sym c.in-Some.is)
