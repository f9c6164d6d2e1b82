-- What an accepted command found in the records.
use Rattle.portal_model_laws.proofs.Common.{cond, ◌≡◌, ℕ, ◌<◌, Bool, true, false, List, Option, Some, None}
use Rattle.portal_model_laws.proofs.Common.{refl, leb-false, is_some, is_none, nat_le, nat_lt, ◌||◌, Plan}
use Rattle.portal_model_laws.proofs.Common.{Batch, Voucher, Session, Head, expiry, kept_if, is_open_at}
use Rattle.portal_model_laws.proofs.Common.{greatest_moment, has_duplicate, issue_verdict, sell_verdict}
use Rattle.portal_model_laws.proofs.Common.{voucher_refusal, place_verdict, else_verdict, redeem_verdict}
use Rattle.portal_model_laws.proofs.Common.{report_verdict, refund_verdict, close_verdict}
use Rattle.portal_model.specs.declared.refusal.Refusal.{Refusal}
use Rattle.portal_model_laws.proofs.Basics.{is_some-none, or-false}

-- if no check gives an error, the first does not hold and none of the others gives one
pub passed : (b : Bool) (r : Refusal) (others : Option Refusal) → cond b (Some r) others ≡ None
    → (b ≡ false) × (others ≡ None)
passed true r others e = cc
passed false r others e = (refl, e)

-- if two verdicts together give no error, neither does
pub neither-refuses : (a b : Option Refusal) → else_verdict a b ≡ None → (a ≡ None) × (b ≡ None)
neither-refuses None b e = (refl, e)
neither-refuses (Some r) b e = cc

pub record IsIssuable (plan : Option Plan) (batch : Option Batch) (taken : Bool)
    (codes : List (List ℕ)) (t : ℕ) : Type 0 where
  pub plan_is : Plan
  pub known : plan ≡ Some plan_is
  pub unknown : batch ≡ None
  pub timely : nat_lt greatest_moment (expiry t plan_is) ≡ false
  pub free : taken ≡ false
  pub once : has_duplicate codes ≡ false

pub issuable : (plan : Option Plan) (batch : Option Batch) (taken : Bool) (codes : List (List ℕ)) (t : ℕ)
    → issue_verdict plan batch taken codes t ≡ None → IsIssuable plan batch taken codes t
issuable None batch taken codes t e = cc
issuable (Some p) batch taken codes t e =
    let new = passed (is_some batch) _ _ e in
    let timely = passed (nat_lt greatest_moment (expiry t p)) _ _ new.1 in
    let apart = passed (taken || has_duplicate codes) _ _ timely.1 in
    let parts = or-false taken (has_duplicate codes) apart.0 in
    record {
      plan_is = p;
      known = refl;
      unknown = is_some-none batch new.0;
      timely = timely.0;
      free = parts.0;
      once = parts.1;
    }

pub sellable : (o : Option Voucher) (t : ℕ) → sell_verdict o t ≡ None
    → (v : Voucher) × (o ≡ Some v) × (v.sold ≡ None)
sellable None t e = cc
sellable (Some v) t e = (v, refl, is_some-none v.sold (passed (is_some v.sold) _ _ e).0)

pub redeemable : (head : Head) (o : Option Voucher) (last : Option Session) (t : ℕ)
    → redeem_verdict head o last t ≡ None
    → (v : Voucher) × (o ≡ Some v) × (voucher_refusal v t ≡ None)
    × (place_verdict head v.plan t (kept_if (is_open_at t) last) ≡ None)
redeemable head None last t e = cc
redeemable head (Some v) last t e =
    let both =
    neither-refuses (voucher_refusal v t) (place_verdict head v.plan t (kept_if (is_open_at t) last)) e in
    (v, refl, both.0, both.1)

-- a voucher that may be redeemed has a use left
pub use-left : (v : Voucher) (t : ℕ) → voucher_refusal v t ≡ None → v.redeemed < v.plan.uses
use-left v t e =
    let sold = passed (is_none v.sold) _ _ e in
    let kept = passed (is_some v.refund) _ _ sold.1 in
    let live = passed (nat_le v.expires t) _ _ kept.1 in
    leb-false v.plan.uses v.redeemed (passed (nat_le v.plan.uses v.redeemed) _ _ live.1).0

pub reportable : (o : Option Session) → report_verdict o ≡ None → (s : Session) × (o ≡ Some s)
reportable None e = cc
reportable (Some s) e = (s, refl)

pub refundable : (o : Option Voucher) → refund_verdict o ≡ None
    → (v : Voucher) × (o ≡ Some v) × (v.refund ≡ None)
refundable None e = cc
refundable (Some v) e =
    let sold = passed (is_none v.sold) _ _ e in
    let kept = passed (is_some v.refund) _ _ sold.1 in
    (v, refl, is_some-none v.refund kept.0)

pub closable : (o : Option Session) → close_verdict o ≡ None
    → (s : Session) × (o ≡ Some s) × (s.closed ≡ None)
closable None e = cc
closable (Some s) e = (s, refl, is_some-none s.closed (passed (is_some s.closed) _ _ e).0)
