use Rattle.std.proofs.Common.{refl}
use Rattle.portal_model.proofs.test_vectors.history_vectors_hold.Goals as goal

pub returns : goal.returns
returns c = record {
  issue_sell_redeem = ((refl, refl), (refl, refl), (refl, refl), (refl, refl), refl, refl);
  clock_set_back = refl;
  used_up = refl;
  extended_before_end = ((refl, refl), refl, refl);
  new_session_at_end = ((refl, refl), refl, refl);
  bytes_counted = ((refl, refl), refl, (refl, refl), refl, (refl, refl));
  shape_and_extend_refused = (refl, refl, refl, refl);
  refund_of_unused_uses = ((refl, refl), refl, refl);
  not_sold_then_expired = (refl, refl, (refl, refl), refl);
  close_session = ((refl, refl), refl, refl, refl, (refl, refl));
  allowance_full = ((refl, refl), refl, refl, refl);
  desk_refusals = (refl, refl);
  limited_in_both = (refl, refl, refl, refl);
  first_plan_extends = (refl, refl);
  loads = refl;
  issues = refl;
  sales = refl;
  vouchers = refl;
  openings = refl;
  extensions = refl;
  numbers_full = (refl, refl, refl, refl, refl, refl);
  refunds = refl;
  sessions = refl;
}
