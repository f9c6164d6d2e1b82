-- Lists, verdicts and changes, computed from the rows alone.
use Rattle.std.specs.Prelude.{ℕ, Bool, List, [], ◌∷◌, ◌++◌, map, filter, is_some, Option, Some, bytes_eq}
use Rattle.std.specs.List.{list_any, filter_map}
use Rattle.std.specs.Option.{option_to_list}
use Rattle.portal_model.specs.declared.command.Command.{Command}
use Rattle.portal_model.specs.declared.command.Command.TheVariants.{Load, Issue, Sell, Redeem, Report, Refund}
use Rattle.portal_model.specs.declared.command.Command.TheVariants.{Close}
use Rattle.portal_model.specs.declared.change.Changes.{Changes}
use Rattle.portal_model.specs.declared.plan.Plan.{Plan}
use Rattle.portal_model.specs.declared.record.Session.{Session}
use Rattle.portal_model.specs.declared.refusal.Refusal.{Refusal}
use Rattle.portal_model.specs.Change.{plan_among, load_change, issue_change, sell_change, redeem_change}
use Rattle.portal_model.specs.Change.{report_change, refund_change, close_change}
use Rattle.portal_model.specs.Rows.{Rows, VoucherRow, batch_among, row_among, voucher_from, session_from}
use Rattle.portal_model.specs.Rows.{last_session_from}
use Rattle.portal_model.specs.Verdict.{load_verdict, issue_verdict, sell_verdict, redeem_verdict}
use Rattle.portal_model.specs.Verdict.{report_verdict, refund_verdict, close_verdict}

-- the sessions of the rows, in their order
abbrev pub sessions_from : Rows → List Session
sessions_from r = filter_map (λ row. session_from r row.number) r.sessions

-- the codes of a batch, in the order of its rows
abbrev pub codes_from : Rows → List ℕ → List (List ℕ)
codes_from r id = map (λ v. v.code) (filter (λ v. bytes_eq v.batch id) r.vouchers)

-- whether one of the codes is in the rows
abbrev pub any_taken : List VoucherRow → List (List ℕ) → Bool
any_taken rows codes = list_any (λ code. is_some (row_among rows code)) codes

-- the rows with the ids of the list, in the order of the list
abbrev pub held_among : List Plan → List Plan → List Plan
held_among rows [] = []
held_among rows (p ∷ listed) = option_to_list (plan_among rows p.id) ++ held_among rows listed

-- the verdict of each command, over the records that are read from the rows
abbrev pub verdict_from : Rows → Command → ℕ → Option Refusal
verdict_from r (Load plans) t = load_verdict (plan_among r.plans) plans
verdict_from r (Issue b p codes) t =
    issue_verdict (plan_among r.plans p) (batch_among r.batches b) (any_taken r.vouchers codes) codes t
verdict_from r (Sell c) t = sell_verdict (voucher_from r c) t
verdict_from r (Redeem d c) t = redeem_verdict r.head (voucher_from r c) (last_session_from r d) t
verdict_from r (Report n bytes) t = report_verdict (session_from r n)
verdict_from r (Refund c) t = refund_verdict (voucher_from r c)
verdict_from r (Close n) t = close_verdict (session_from r n)

-- the changes of each command, over the records that are read from the rows
abbrev pub changes_from : Rows → Command → ℕ → Option Changes
changes_from r (Load plans) t = Some (load_change (plan_among r.plans) plans t)
changes_from r (Issue b p codes) t = issue_change (plan_among r.plans p) b codes t
changes_from r (Sell c) t = sell_change (voucher_from r c) t
changes_from r (Redeem d c) t = redeem_change r.head (voucher_from r c) (last_session_from r d) d t
changes_from r (Report n bytes) t = report_change (session_from r n) bytes t
changes_from r (Refund c) t = refund_change (voucher_from r c) t
changes_from r (Close n) t = close_change (session_from r n) t
