-- The answer to an accepted command, read from the history that contains the command.
use Rattle.std.specs.Prelude.{◌-◌, ◌∷◌, [], length, nat_eq, Option, Some, None, option_map, option_and_then}
use Rattle.portal_model.specs.declared.command.Command.TheVariants.{Load, Issue, Sell, Redeem, Report, Refund}
use Rattle.portal_model.specs.declared.command.Command.TheVariants.{Close}
use Rattle.portal_model.specs.declared.change.Answer.{Answer}
use Rattle.portal_model.specs.declared.change.Answer.TheVariants.{LoadAnswer, IssueAnswer, SellAnswer}
use Rattle.portal_model.specs.declared.change.Answer.TheVariants.{RedeemAnswer, ReportAnswer, RefundAnswer}
use Rattle.portal_model.specs.declared.change.Answer.TheVariants.{CloseAnswer}
use Rattle.portal_model.specs.History.{History, entry, batch_of, voucher_of, session_of, last_session_of}
use Rattle.portal_model.specs.History.{head_of, is_open_at}

-- the answer to the newest entry; a redemption extended a session if the number of sessions is unchanged
abbrev pub last_answer : History → Option Answer
last_answer [] = None
last_answer (entry t (Load plans) ∷ H) = Some (LoadAnswer (length plans))
last_answer (entry t (Issue b p codes) ∷ H) = option_map (λ batch. IssueAnswer b (length codes) batch.expires)
    (batch_of (entry t (Issue b p codes) ∷ H) b)
last_answer (entry t (Sell c) ∷ H) =
    option_map (λ v. SellAnswer c v.plan.price) (voucher_of (entry t (Sell c) ∷ H) c)
last_answer (entry t (Redeem d c) ∷ H) =
    let now = entry t (Redeem d c) ∷ H in
    option_and_then (λ v. option_map (λ s. RedeemAnswer (nat_eq (head_of now).sessions (head_of H).sessions)
    s.number (v.plan.uses - v.redeemed)) (last_session_of now d)) (voucher_of now c)
last_answer (entry t (Report n bytes) ∷ H) =
    option_map (λ s. ReportAnswer (is_open_at t s) n s.used) (session_of (entry t (Report n bytes) ∷ H) n)
last_answer (entry t (Refund c) ∷ H) =
    option_and_then (λ v. option_map (λ amount. RefundAnswer amount c) v.refund)
    (voucher_of (entry t (Refund c) ∷ H) c)
last_answer (entry t (Close n) ∷ H) = Some (CloseAnswer n)
