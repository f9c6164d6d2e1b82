use Rattle.portal_tables.proofs.Common.{◌≡◌, ◌≤◌, state, ReadsOnly, HasTables, OfHistory, grants_of}
use Rattle.portal_model.specs.Redemptions.{is_in_session}
use Rattle.portal_tables.specs.RedemptionLists.{IsOpenedAt, grants_below}
use Rattle.portal_tables.proofs.redemptions.is_in_older.Given as goal

-- none of the redemptions that were read is in the session
abbrev pub invariant-loop-next : goal.invariant-loop-next
invariant-loop-next g l = record {
  low : l.next ≤ l.number;
  found : OfHistory (state g.S.Store l.fn.conn) (state g.S.Store l.conn)
      (λ h. IsOpenedAt h l.session l.opened → is_in_session l.session (grants_below (grants_of h) l.number)
      ≡ is_in_session l.session (grants_below (grants_of h) l.next));
  looks : ReadsOnly HasTables (state g.S.Store l.fn.conn) (state g.S.Store l.conn);
}

abbrev pub decreases-loop-next : goal.decreases-loop-next
decreases-loop-next g l = l.next
