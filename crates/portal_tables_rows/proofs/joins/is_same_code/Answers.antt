use Rattle.portal_tables_rows.proofs.Common.{ap, text_of, bytes_eq-Decides}
use Rattle.portal_tables_rows.proofs.SameCode.{same_code}
use Rattle.portal_tables_rows.proofs.joins.is_same_code.Goals as goal

pub returns : goal.returns
returns c =
    let a = c.args.a.now in
    let b = c.args.b.now in
    rw c.eq.ensures (
      λ on. ap text_of ((bytes_eq-Decides a b).0 on),
      λ same. (bytes_eq-Decides a b).1 (same_code a b c.signs.ensures.code c.signs-2.ensures.code same),
    )
