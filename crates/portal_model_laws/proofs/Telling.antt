-- The answer to a command agrees with the history that contains it.
use Rattle.portal_model_laws.proofs.Common.{◌≡◌, ℕ, ◌+◌, ◌-◌, List, ◌∷◌, length, Option, Some, None, refl}
use Rattle.portal_model_laws.proofs.Common.{arith, ap, sym, ◌∙◌, bytes_eq, nat_eq, is_some, option_map}
use Rattle.portal_model_laws.proofs.Common.{option_and_then, unwrap_or, Sell, Redeem, Refund, Changes, Batch}
use Rattle.portal_model_laws.proofs.Common.{Voucher, Session, Head, entry, History, IssuedVoucher}
use Rattle.portal_model_laws.proofs.Common.{RefundEntry, refund_entry_at, issued_of, uses_of, refund_of}
use Rattle.portal_model_laws.proofs.Common.{plan_of, batch_of, batch_row, voucher_of, voucher_row, Grant}
use Rattle.portal_model_laws.proofs.Common.{grants_of, grant_at, last_number, session_of, last_session_of}
use Rattle.portal_model_laws.proofs.Common.{kept_if, is_open_at, head_of, answer_of, redemption}
use Rattle.portal_model_laws.proofs.Common.{session_after, sessions_after, with_report, IsLegal}
use Rattle.portal_model.specs.declared.change.Answer.TheVariants.{IssueAnswer as Issued_answer, SellAnswer}
use Rattle.portal_model.specs.declared.change.Answer.TheVariants.{RedeemAnswer, ReportAnswer, RefundAnswer}
use Rattle.portal_model.specs.declared.change.Answer.TheVariants.{CloseAnswer}
use Rattle.portal_model_laws.specs.Laws.{AnswersFollow}
use Rattle.portal_model_laws.specs.Answering.{last_answer}
use Rattle.portal_model_laws.proofs.Basics.{bytes_refl, nat_eq-refl, nat_eq-other, cond-true}
use Rattle.portal_model_laws.proofs.Commands.{OfEach, by_command}
use Rattle.portal_model_laws.proofs.Placing.{kept-some, number-of, granted, redeem_leads}
use Rattle.portal_model_laws.proofs.Openings.{report_session}
use Rattle.portal_model_laws.proofs.Opens.{last-new, last-kept}

abbrev IsTold : History → Changes → Type 0
IsTold H ch = last_answer H ≡ Some (answer_of ch)

-- the last session of the device after its redemption is the one that the redemption left
last_after : (H : History) (t : ℕ) (d c : List ℕ) (i : IssuedVoucher) (running : Option Session)
    → kept_if (is_open_at t) (last_session_of H d) ≡ running
    → last_number (granted (grants_of H) running d c i t ∷ grants_of H) d
    ≡ (session_after (head_of H) i.plan running d t).number
last_after H t d c i None is =
    last-new (granted (grants_of H) None d c i t) (grants_of H) d (omega arith) (bytes_refl d)
last_after H t d c i (Some s) is =
    let gs : List Grant = grants_of H in
    let last : session_of H (last_number gs d) ≡ Some s =
    kept-some (is_open_at t) (last_session_of H d) s is in
    let same : s.number ≡ last_number gs d = number-of H gs (last_number gs d) s last in
    last-kept (granted gs (Some s) d c i t) gs d same ∙ sym same

is_extended : (head : Head) (running : Option Session)
    → nat_eq (sessions_after head.sessions running) head.sessions ≡ is_some running
is_extended head None = nat_eq-other (head.sessions + 1) head.sessions (λ e. omega arith)
is_extended head (Some s) = nat_eq-refl head.sessions

redeem_told : (H : History) → IsLegal H → (t : ℕ) (d c : List ℕ) (i : IssuedVoucher) → issued_of H c ≡ Some i
    → IsTold (entry t (Redeem d c) ∷ H)
    (redemption (head_of H) (kept_if (is_open_at t) (last_session_of H d)) d t (voucher_row H c i))
redeem_told H legal t d c i is =
    let now : History = entry t (Redeem d c) ∷ H in
    let gs : List Grant = grants_of H in
    let running : Option Session = kept_if (is_open_at t) (last_session_of H d) in
    let v : Voucher = voucher_row H c i in
    let s : Session = session_after (head_of H) i.plan running d t in
    let leaves = redeem_leads H legal d c t v (ap (option_map (voucher_row H c)) is) in
    let one : grants_of now ≡ granted gs running d c i t ∷ gs =
    ap (λ o. unwrap_or (option_map (grant_at t d c gs running) o) gs) is in
    let voucher : voucher_of now c ≡ Some (record v { redeemed = v.redeemed + 1 }) =
    leaves.voucher c ∙ cond-true (bytes_eq c c) (Some (record v { redeemed = v.redeemed + 1 }))
    (voucher_of H c) (bytes_refl c) in
    let last : last_session_of now d ≡ Some s =
    ap (λ (x : List Grant). session_of now (last_number x d)) one
    ∙ ap (session_of now) (last_after H t d c i running refl)
    ∙ leaves.session s.number
    ∙ cond-true (nat_eq s.number s.number) (Some s) (session_of H s.number) (nat_eq-refl s.number) in
    let extended : nat_eq (head_of now).sessions (head_of H).sessions ≡ is_some running =
    ap (λ (x : Head). nat_eq x.sessions (head_of H).sessions) leaves.head ∙ is_extended (head_of H) running in
    let left : v.plan.uses - (v.redeemed + 1) ≡ v.plan.uses - v.redeemed - 1 = omega arith in
    (λ i. option_and_then (λ (x : Voucher). option_map
    (λ (r : Session). RedeemAnswer (extended i) r.number (x.plan.uses - x.redeemed)) (last i)) (voucher i))
    ∙ ap (λ (n : ℕ). Some (RedeemAnswer (is_some running) s.number n)) left

each-told : (H : History) → IsLegal H → (t : ℕ) → OfEach H t (λ command ch. IsTold (entry t command ∷ H) ch)
each-told H legal t = record {
  load = λ plans. refl;
  issue = λ b p codes plan is.
      ap (option_map (λ (r : Batch). Issued_answer b (length codes) r.expires))
      (cond-true (bytes_eq b b) (option_map (batch_row t b (length codes)) (plan_of H p)) (batch_of H b)
      (bytes_refl b) ∙ ap (option_map (batch_row t b (length codes))) is);
  sell = λ c i is. ap (λ o.
      option_map (λ v. SellAnswer c v.plan.price) (option_map (voucher_row (entry t (Sell c) ∷ H) c) o)) is;
  redeem = redeem_told H legal t;
  report = λ n bytes s is.
      let number : s.number ≡ n = number-of H (grants_of H) n s is in
      ap (option_map (λ (r : Session). ReportAnswer (is_open_at t r) n r.used))
      (report_session H t n bytes s is n ∙ cond-true (nat_eq s.number n) (Some (with_report bytes s))
      (session_of H n) (ap (λ (m : ℕ). nat_eq m n) number ∙ nat_eq-refl n))
      ∙ ap (λ (m : ℕ). Some (ReportAnswer (is_open_at t (with_report bytes s)) m (with_report bytes s).used))
      (sym number);
  refund = λ c i is.
      ap (λ o. option_and_then (λ v. option_map (λ amount. RefundAnswer amount c) v.refund)
      (option_map (voucher_row (entry t (Refund c) ∷ H) c) o)) is
      ∙ ap (λ o. option_map (λ amount. RefundAnswer amount c) (option_map (λ (r : RefundEntry). r.amount) o))
      (cond-true (bytes_eq c c) (option_map (refund_entry_at t (uses_of H c)) (issued_of H c)) (refund_of H c)
      (bytes_refl c) ∙ ap (option_map (refund_entry_at t (uses_of H c))) is);
  close = λ n s is. ap (λ (m : ℕ). Some (CloseAnswer m)) (sym (number-of H (grants_of H) n s is));
}

pub answers_follow : AnswersFollow
answers_follow H legal command t follows ch e =
    by_command H t (λ command ch. IsTold (entry t command ∷ H) ch) (each-told H legal t) command ch e
