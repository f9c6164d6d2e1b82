-- The bytes of a response determine whether it is a 200, and whether it is that of a desk that has stopped.
use Rattle.portal_http.proofs.Common.{◌≡◌, ◌+◌, ◌-◌, ◌≤◌, ℕ, Bool, true, false, List, ◌++◌, length, drop}
use Rattle.portal_http.proofs.Common.{nat_eq, nat_le, refl, sym, ◌∙◌, ap, arith, Option, None, ◌≢◌, codes}
use Rattle.portal_http.proofs.Common.{Answer, Refusal, Stopped, status_of, SettingsValue, last_lines}
use Rattle.portal_http.proofs.Common.{media_type_of, phrase_of, Json, IsRefusal, is_ok}
use Rattle.std.specs.Fmt.{digits}
use Rattle.std.specs.List.{ends_with}
use Rattle.std.specs.Cmp.Lexicographic.{pointwise}
use Rattle.std.proofs.lemmas.Bool.Decides.{nat_tests}
use Rattle.std.proofs.lemmas.List.{length-append}
use Rattle.std.proofs.Math.Seq.{drop-append-add}
use Rattle.httpdate.specs.Date.{date_text}
use Rattle.serde_json.proofs.OnLiterals.{serde_json_on_literals}
use Rattle.portal_model.specs.declared.takings.DayTakings.{DayTakings}
use Rattle.portal_model.specs.declared.captive.Captive.{Captive}
use Rattle.portal_model.specs.declared.captive.OpenSession.{OpenSession}
use Rattle.portal_model.specs.declared.details.SessionDetails.{SessionDetails}
use Rattle.portal_model.specs.declared.batches.BatchState.{BatchState}
use Rattle.portal_model.specs.declared.record.Batch.{Batch}
use Rattle.portal_model.specs.declared.record.Voucher.{Voucher}
use Rattle.portal_model.specs.declared.redemptions.Redemption.{Redemption}
use Rattle.portal_files.specs.declared.sheet.BatchSheet.{BatchSheet}
use Rattle.portal_json.specs.Bodies.{error_body}
use Rattle.portal_http_message.specs.Bytes.{head_bytes}
use Rattle.portal_http.specs.Replies.{IsError, IsState, IsSheet, IsVoucher, IsTakings, AreSessions, IsAnswer}
use Rattle.portal_http.specs.Replies.{IsDetails, IsOwnDetails, AreDetails, AreBatches, IsBatch, AreVouchers}
use Rattle.portal_http.specs.Replies.{AreRedemptions}

-- the body of the refusal of a desk that stopped
abbrev stopped_body : List ℕ
stopped_body = codes "{\"error\":\"stopped\"}"

abbrev ends_stopped : List ℕ → Bool
ends_stopped response = ends_with nat_eq response stopped_body

-- ---- 200

ok_line : (phrase date media_type : List ℕ) (size : ℕ) (last body : List ℕ)
    → is_ok (head_bytes 200 phrase date media_type size last ++ body) ≡ true
unfolding head_bytes digits
ok_line phrase date media_type size last body = refl

pub state_ok : (settings : SettingsValue) (captive : Captive) (moment : ℕ) (response : List ℕ)
    → IsState settings captive moment response → is_ok response ≡ true
unfolding IsState
state_ok settings captive moment response (date, dated, same) = ap is_ok same ∙ ok_line _ _ _ _ _ _

pub sheet_ok : (settings : SettingsValue) (sheet : BatchSheet) (moment : ℕ) (response : List ℕ)
    → IsSheet settings sheet moment response → is_ok response ≡ true
unfolding IsSheet
sheet_ok settings sheet moment response (text, is_file, (date, dated, same)) =
    ap is_ok same ∙ ok_line _ _ _ _ _ _

pub voucher_ok : (voucher : Voucher) (moment : ℕ) (response : List ℕ)
    → IsVoucher voucher moment response → is_ok response ≡ true
unfolding IsVoucher
voucher_ok voucher moment response (date, dated, same) = ap is_ok same ∙ ok_line _ _ _ _ _ _

pub takings_ok : (days : List DayTakings) (moment : ℕ) (response : List ℕ)
    → IsTakings days moment response → is_ok response ≡ true
unfolding IsTakings
takings_ok days moment response (text, is_report, (date, dated, same)) = ap is_ok same ∙ ok_line _ _ _ _ _ _

pub sessions_ok : (sessions : List OpenSession) (moment : ℕ) (response : List ℕ)
    → AreSessions sessions moment response → is_ok response ≡ true
unfolding AreSessions
sessions_ok sessions moment response (date, dated, same) = ap is_ok same ∙ ok_line _ _ _ _ _ _

pub details_ok : (details : SessionDetails) (moment : ℕ) (response : List ℕ)
    → IsDetails details moment response → is_ok response ≡ true
unfolding IsDetails
details_ok details moment response (date, dated, same) = ap is_ok same ∙ ok_line _ _ _ _ _ _

pub own_details_ok : (details : SessionDetails) (moment : ℕ) (response : List ℕ)
    → IsOwnDetails details moment response → is_ok response ≡ true
unfolding IsOwnDetails
own_details_ok details moment response (date, dated, same) = ap is_ok same ∙ ok_line _ _ _ _ _ _

pub open_details_ok : (sessions : List SessionDetails) (moment : ℕ) (response : List ℕ)
    → AreDetails sessions moment response → is_ok response ≡ true
unfolding AreDetails
open_details_ok sessions moment response (date, dated, same) = ap is_ok same ∙ ok_line _ _ _ _ _ _

pub batches_ok : (states : List BatchState) (more : Bool) (moment : ℕ) (response : List ℕ)
    → AreBatches states more moment response → is_ok response ≡ true
unfolding AreBatches
batches_ok states more moment response (date, dated, same) = ap is_ok same ∙ ok_line _ _ _ _ _ _

pub batch_ok : (batch : Batch × List Voucher) (moment : ℕ) (response : List ℕ)
    → IsBatch batch moment response → is_ok response ≡ true
unfolding IsBatch
batch_ok (batch, vouchers) moment response (date, dated, same) = ap is_ok same ∙ ok_line _ _ _ _ _ _

pub vouchers_ok : (vouchers : List Voucher) (more : Bool) (moment : ℕ) (response : List ℕ)
    → AreVouchers vouchers more moment response → is_ok response ≡ true
unfolding AreVouchers
vouchers_ok vouchers more moment response (date, dated, same) = ap is_ok same ∙ ok_line _ _ _ _ _ _

pub redemptions_ok : (listed : List Redemption × Bool) (moment : ℕ) (response : List ℕ)
    → AreRedemptions listed moment response → is_ok response ≡ true
unfolding AreRedemptions
redemptions_ok (redemptions, more) moment response (date, dated, same) = ap is_ok same ∙ ok_line _ _ _ _ _ _

pub answer_ok : (answer : Answer) (moment : ℕ) (response : List ℕ)
    → IsAnswer answer moment response → is_ok response ≡ true
unfolding IsAnswer
answer_ok answer moment response (date, dated, same) = ap is_ok same ∙ ok_line _ _ _ _ _ _

-- ---- refusals

refused_begins : (r : Refusal) (phrase date media_type : List ℕ) (size : ℕ) (last body : List ℕ)
    → is_ok (head_bytes (status_of r) phrase date media_type size last ++ body) ≡ false
unfolding head_bytes digits
refused_begins Stopped phrase date media_type size last body = refl
refused_begins _ phrase date media_type size last body = refl

pub refused_off : (r : Refusal) (allow : Option (List ℕ)) (moment : ℕ) (response : List ℕ)
    → IsError r allow moment response → is_ok response ≡ false
unfolding IsError
refused_off r allow moment response (date, dated, same) =
    ap is_ok same ∙ refused_begins r (phrase_of (status_of r)) (date_text date) (media_type_of Json)
    (length (error_body r)) (last_lines allow) (error_body r)

-- the refusal is that of a desk that stopped
abbrev is_stop : Refusal → Bool
is_stop Stopped = true
is_stop _ = false

-- no body of a refusal is shorter than that of a desk that stopped, and no other ends like it
body_is_long : (r : Refusal) → nat_le (length stopped_body) (length (error_body r)) ≡ true
unfolding error_body serde_json_on_literals
body_is_long Stopped = refl
body_is_long _ = refl

body_ends : (r : Refusal) → ends_stopped (error_body r) ≡ is_stop r
unfolding error_body serde_json_on_literals
body_ends Stopped = refl
body_ends _ = refl

-- the end of a text is that of its last part, where that is long enough
ends_in : (front back end : List ℕ) → length end ≤ length back
    → ends_with nat_eq (front ++ back) end ≡ ends_with nat_eq back end
ends_in front back end long =
    let at : length (front ++ back) - length end ≡ length front + (length back - length end) =
    omega (arith, length-append front back) in
    ap (λ (n : ℕ). pointwise nat_eq end (drop n (front ++ back))) at
    ∙ ap (pointwise nat_eq end) (drop-append-add front back (length back - length end))

refused_ends : (r : Refusal) (head : List ℕ) → ends_stopped (head ++ error_body r) ≡ is_stop r
refused_ends r head =
    let long : length stopped_body ≤ length (error_body r) = grind (arith, nat_tests, body_is_long r) in
    ends_in head (error_body r) stopped_body long ∙ body_ends r

tells_stop : (r : Refusal) (allow : Option (List ℕ)) (moment : ℕ) (response : List ℕ)
    → IsError r allow moment response → ends_stopped response ≡ is_stop r
unfolding IsError
tells_stop r allow moment response (date, dated, same) =
    ap ends_stopped same ∙ refused_ends r (head_bytes (status_of r) (phrase_of (status_of r)) (date_text date)
    (media_type_of Json) (length (error_body r)) (last_lines allow))

other_is_no_stop : (r : Refusal) → r ≢ Stopped → is_stop r ≡ false
other_is_no_stop Stopped other = absurd (other refl)
other_is_no_stop _ other = refl

-- the response of another refusal is not that of a desk that stopped
pub other_apart : (r : Refusal) (allow : Option (List ℕ)) (moment : ℕ) (response : List ℕ) → r ≢ Stopped
    → IsError r allow moment response → ¬ IsRefusal Stopped moment response
other_apart r allow moment response other is over =
    let one = sym (tells_stop r allow moment response is ∙ other_is_no_stop r other)
    ∙ tells_stop Stopped None moment response over in
    absurd (cc)

-- nor is a 200
pub ok_apart : (moment : ℕ) (response : List ℕ) → is_ok response ≡ true → ¬ IsRefusal Stopped moment response
ok_apart moment response ok over = let off = refused_off Stopped None moment response over in absurd (cc)
