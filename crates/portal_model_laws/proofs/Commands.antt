-- What holds of a command and its changes, by the kinds of commands.
use Rattle.portal_model_laws.proofs.Common.{◌≡◌, ℕ, List, length, Some, subst, option_map, Command, Load}
use Rattle.portal_model_laws.proofs.Common.{Issue, Sell, Redeem, Report, Refund, Close, Changes, IssueChange}
use Rattle.portal_model_laws.proofs.Common.{SellChange, ReportChange, RefundChange, CloseChange, Plan}
use Rattle.portal_model_laws.proofs.Common.{Voucher, Session, History, IssuedVoucher, plan_of, issued_of}
use Rattle.portal_model_laws.proofs.Common.{uses_of, voucher_of, voucher_row, batch_row, amount_left}
use Rattle.portal_model_laws.proofs.Common.{session_of, last_session_of, kept_if, is_open_at, head_of}
use Rattle.portal_model_laws.proofs.Common.{changes_of, load_change, redemption}
use Rattle.portal_model_laws.proofs.Basics.{by_map, some-same}

-- what holds of each kind of command, with the record that its changes were made of
pub record OfEach (H : History) (t : ℕ) (P : Command → Changes → Type 0) : Type 0 where
  pub load : (plans : List Plan) → P (Load plans) (load_change (plan_of H) plans t)
  pub issue : (b p : List ℕ) (codes : List (List ℕ)) (plan : Plan) → plan_of H p ≡ Some plan
      → P (Issue b p codes)
      (IssueChange (record { at = t; batch = batch_row t b (length codes) plan; codes = codes }))
  pub sell : (c : List ℕ) (i : IssuedVoucher) → issued_of H c ≡ Some i
      → P (Sell c) (SellChange (record { at = t; voucher = voucher_row H c i }))
  pub redeem : (d c : List ℕ) (i : IssuedVoucher) → issued_of H c ≡ Some i
      → P (Redeem d c) (redemption (head_of H) (kept_if (is_open_at t) (last_session_of H d))
      d t (voucher_row H c i))
  pub report : (n bytes : ℕ) (s : Session) → session_of H n ≡ Some s
      → P (Report n bytes) (ReportChange (record { at = t; session = s; bytes = bytes }))
  pub refund : (c : List ℕ) (i : IssuedVoucher) → issued_of H c ≡ Some i
      → P (Refund c) (RefundChange (record {
        at = t;
        voucher = voucher_row H c i;
        amount = amount_left i.plan (uses_of H c);
      }))
  pub close : (n : ℕ) (s : Session) → session_of H n ≡ Some s
      → P (Close n) (CloseChange (record { at = t; session = s }))

by_voucher : (P : Changes → Type 0) (f : Voucher → Changes) (H : History) (c : List ℕ) (ch : Changes)
    → option_map f (voucher_of H c) ≡ Some ch
    → ((i : IssuedVoucher) → issued_of H c ≡ Some i → P (f (voucher_row H c i))) → P ch
by_voucher P f H c ch e h =
    by_map P f (voucher_of H c) ch e (λ v is. by_map (λ w. P (f w)) (voucher_row H c) (issued_of H c) v is h)

-- what holds of each kind of command holds of every command
pub by_command : (H : History) (t : ℕ) (P : Command → Changes → Type 0) → OfEach H t P
    → (command : Command) (ch : Changes) → changes_of H command t ≡ Some ch → P command ch
by_command H t P each (Load plans) ch e =
    subst (P (Load plans)) (some-same (load_change (plan_of H) plans t) ch e) (each.load plans)
by_command H t P each (Issue b p codes) ch e =
    by_map (P (Issue b p codes)) _ (plan_of H p) ch e (each.issue b p codes)
by_command H t P each (Sell c) ch e = by_voucher (P (Sell c)) _ H c ch e (each.sell c)
by_command H t P each (Redeem d c) ch e = by_voucher (P (Redeem d c))
    (redemption (head_of H) (kept_if (is_open_at t) (last_session_of H d)) d t) H c ch e (each.redeem d c)
by_command H t P each (Report n bytes) ch e =
    by_map (P (Report n bytes)) _ (session_of H n) ch e (each.report n bytes)
by_command H t P each (Refund c) ch e = by_voucher (P (Refund c)) _ H c ch e (each.refund c)
by_command H t P each (Close n) ch e = by_map (P (Close n)) _ (session_of H n) ch e (each.close n)
