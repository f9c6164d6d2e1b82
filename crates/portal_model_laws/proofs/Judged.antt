-- The verdicts on commands are the same from the rows as from the history.
use Rattle.portal_model_laws.proofs.Common.{refl, ap, sym, Load, Issue, Sell, Redeem, Report, Refund, Close}
use Rattle.portal_model_laws.proofs.Common.{head_of, issue_change, sell_change, redeem_change, report_change}
use Rattle.portal_model_laws.proofs.Common.{refund_change, close_change, plans_of, issue_verdict}
use Rattle.portal_model_laws.proofs.Common.{sell_verdict, redeem_verdict, report_verdict, refund_verdict}
use Rattle.portal_model_laws.proofs.Common.{close_verdict}
use Rattle.portal_model_laws.specs.Laws.{RowsJudgeAlike}
use Rattle.portal_model_laws.proofs.Plans.{plan_is_row}
use Rattle.portal_model_laws.proofs.Keys.{batch_is_row}
use Rattle.portal_model_laws.proofs.Vouchers.{voucher_is_row, issued_codes_are_rows}
use Rattle.portal_model_laws.proofs.Sessions.{session_is_row, last_session_is_row}
use Rattle.portal_model_laws.proofs.Held.{held_plans_decide_load}

pub rows_judge_alike : RowsJudgeAlike
rows_judge_alike H legal (Load plans) t =
    let alike = held_plans_decide_load H (plans_of H) plans (λ i d h. refl) t in
    record { verdict = sym alike.verdict; changes = sym alike.changes }
rows_judge_alike H legal (Issue b p codes) t =
    let plan = plan_is_row H p in
    let batch = batch_is_row H legal b in
    let taken = issued_codes_are_rows H legal codes in
    record {
      verdict = λ i. issue_verdict (plan i) (batch i) (taken i) codes t;
      changes = ap (λ o. issue_change o b codes t) plan;
    }
rows_judge_alike H legal (Sell c) t =
    let voucher = voucher_is_row H legal c in
    record { verdict = ap (λ o. sell_verdict o t) voucher; changes = ap (λ o. sell_change o t) voucher }
rows_judge_alike H legal (Redeem d c) t =
    let voucher = voucher_is_row H legal c in
    let last = last_session_is_row H legal d in
    record {
      verdict = λ i. redeem_verdict (head_of H) (voucher i) (last i) t;
      changes = λ i. redeem_change (head_of H) (voucher i) (last i) d t;
    }
rows_judge_alike H legal (Report n bytes) t =
    let session = session_is_row H legal n in
    record { verdict = ap report_verdict session; changes = ap (λ o. report_change o bytes t) session }
rows_judge_alike H legal (Refund c) t =
    let voucher = voucher_is_row H legal c in
    record { verdict = ap refund_verdict voucher; changes = ap (λ o. refund_change o t) voucher }
rows_judge_alike H legal (Close n) t =
    let session = session_is_row H legal n in
    record { verdict = ap close_verdict session; changes = ap (λ o. close_change o t) session }
