-- A reply is determined, byte for byte, and the ledger after it.
use Rattle.portal_http.proofs.Common.{◌≡◌, inl, inr, ℕ, List, Bool, Option, Some, None, Result, Ok, Err, sym}
use Rattle.portal_http.proofs.Common.{subst, ◌∙◌, MatchOption, Accepted, Ledger, history_of, IsSound}
use Rattle.portal_http.proofs.Common.{accepted_at, repeat_in, SettingsValue, Operation, Rejection}
use Rattle.portal_http.proofs.Common.{IsReply, IsCommand, IsVerdict, IsQueryReply, IsRefusal}
use Rattle.portal_http.proofs.Common.{History, Refusal, Answer, answer_of, verdict, status_of}
use Rattle.portal_http.proofs.Common.{CaptiveJson, Csv, IsResponse, Json, PlainText, voucher_of, sheet_of}
use Rattle.portal_http.proofs.Common.{takings_over}
use Rattle.portal_codes.specs.Code.{PrintedTextSpells, SpellingIsUnique}
use Rattle.portal_files.specs.Laws.{FixesPrintFile, FixesReport}
use Rattle.portal_files.specs.declared.sheet.BatchSheet.{BatchSheet}
use Rattle.portal_http_message.specs.Bytes.{ResponseIsFixed}
use Rattle.portal_http_request.specs.Laws.{ChecksAreExact}
use Rattle.portal_http_request.specs.Rejection.{allow_of, error_of}
use Rattle.portal_http_request.specs.declared.operation.Operation.TheVariants as operation
use Rattle.portal_json.specs.Bodies.{captive_body, answer_body, error_body, voucher_body, sessions_body}
use Rattle.portal_json.specs.Bodies.{details_body, own_details_body, open_details_body}
use Rattle.portal_json.specs.Bodies.{batches_body, batch_body, vouchers_body, redemptions_body}
use Rattle.portal_ledger.specs.Laws.{SoundIsLegal}
use Rattle.portal_model.specs.Batches.{AreStatesAfter, batch_state, batch_with_vouchers}
use Rattle.portal_model.specs.Batches.{before_of}
use Rattle.portal_model.specs.Verdict.{IsLegal}
use Rattle.portal_model.specs.declared.refusal.Refusal.TheVariants.{UnknownBatch, UnknownCode, UnknownSession}
use Rattle.portal_model.specs.Captive.{captive_of, open_sessions_of}
use Rattle.portal_model.specs.Details.{session_details_of, last_details_of, open_details_of}
use Rattle.portal_model.specs.Redemptions.{last_redemptions_of}
use Rattle.portal_model.specs.declared.batches.BatchState.{BatchState}
use Rattle.portal_model.specs.declared.change.Changes.{Changes}
use Rattle.portal_model.specs.declared.record.Voucher.{Voucher}
use Rattle.portal_model.specs.declared.takings.DayTakings.{DayTakings}
use Rattle.portal_model_laws.specs.Laws.{KeysAreUnique, RowsAreTyped}
use Rattle.portal_http.specs.Headline.{ResponseIsUnique}
use Rattle.portal_http.specs.Replies.{IsError, IsState, IsSheet, IsVoucher, IsTakings, AreSessions}
use Rattle.portal_http.specs.Replies.{IsDetails, IsOwnDetails, AreDetails, AreBatches, IsBatch, AreVouchers}
use Rattle.portal_http.specs.Replies.{AreRedemptions, IsAnswer}
use Rattle.portal_http.proofs.ListedOnce.{states_once, vouchers_once}

-- two texts of which this holds are one
abbrev IsOnce : (List ℕ → Type 0) → Type 0
IsOnce Is = (one other : List ℕ) → Is one → Is other → one ≡ other

-- what is said of a record, or of none
option_once : {A : Type 0} (o : Option A) (No : List ℕ → Type 0) (Is : A → List ℕ → Type 0) → IsOnce No
    → ((x : A) → IsOnce (Is x)) → IsOnce (λ bytes. MatchOption o (No bytes) (λ x. Is x bytes))
option_once None No Is none some one other = none one other
option_once (Some x) No Is none some one other = some x one other

module _ (fixed : ResponseIsFixed) where
  error_once : (r : Refusal) (allow : Option (List ℕ)) (moment : ℕ) → IsOnce (IsError r allow moment)
  unfolding IsError
  error_once r allow moment = fixed (status_of r) moment Json allow (error_body r)

  refusal_once : (r : Refusal) (moment : ℕ) → IsOnce (IsRefusal r moment)
  refusal_once r moment = error_once r None moment

  answer_once : (answer : Answer) (moment : ℕ) → IsOnce (IsAnswer answer moment)
  unfolding IsAnswer
  answer_once answer moment = fixed 200 moment Json None (answer_body answer)

  -- ---- commands

  verdict_once : (o : Option Refusal) (L : Ledger) (a : Accepted) (moment : ℕ) (one other : List ℕ)
      (after also : Ledger) → IsVerdict o L a moment one after → IsVerdict o L a moment other also
      → (one ≡ other) × (after ≡ also)
  verdict_once (Some r) L a moment one other after also is so =
      (refusal_once r moment one other is.0 so.0, is.1 ∙ sym so.1)
  verdict_once None L a moment one other after also (c, made, shown, next) (d, again, told, later) =
      let both : Some c ≡ Some d = sym made ∙ again in
      let same : c ≡ d = cc (both) in (
        answer_once (answer_of d) moment one other
            (subst (λ (x : Changes). IsAnswer (answer_of x) moment one) same shown) told,
        next ∙ sym later,
      )

  command_once : (kept : Result (Option Answer) Refusal) (L : Ledger) (a : Accepted) (moment : ℕ)
      (one other : List ℕ) (after also : Ledger) → IsCommand kept L a moment one after
      → IsCommand kept L a moment other also → (one ≡ other) × (after ≡ also)
  command_once (Err r) L a moment one other after also is so =
      (refusal_once r moment one other is.0 so.0, is.1 ∙ sym so.1)
  command_once (Ok (Some answer)) L a moment one other after also is so =
      (answer_once answer moment one other is.0 so.0, is.1 ∙ sym so.1)
  command_once (Ok None) L a moment one other after also is so =
      verdict_once (verdict (history_of L) a.command a.at) L a moment one other after also is so

  -- ---- what only reads

  module _ (print_file : FixesPrintFile) (report : FixesReport) (settings : SettingsValue) (moment : ℕ) where
    sheet_once : (sheet : BatchSheet) → IsOnce (IsSheet settings sheet moment)
    unfolding IsSheet
    sheet_once sheet one other (text, is, response) (next, so, again) =
        fixed 200 moment Csv None next one other
        (subst (λ (t : List ℕ). IsResponse 200 moment Csv None t one)
        (print_file settings.zone sheet text next is so) response) again

    takings_once : (days : List DayTakings) → IsOnce (IsTakings days moment)
    unfolding IsTakings
    takings_once days one other (text, is, response) (next, so, again) =
        fixed 200 moment PlainText None next one other
        (subst (λ (t : List ℕ). IsResponse 200 moment PlainText None t one) (report days text next is so)
        response)
        again

    batches_once : (states again : List BatchState) (more rest : Bool) (one other : List ℕ)
        → (states ≡ again) × (more ≡ rest) → AreBatches states more moment one
        → AreBatches again rest moment other
        → one ≡ other
    unfolding AreBatches
    batches_once states again more rest one other (same, so) is also =
        fixed 200 moment Json None (batches_body again rest) one other
        (subst (λ (b : List ℕ). IsResponse 200 moment Json None b one) (λ i. batches_body (same i) (so i)) is)
        also

    vouchers_told : (vouchers again : List Voucher) (more rest : Bool) (one other : List ℕ)
        → (vouchers ≡ again) × (more ≡ rest) → AreVouchers vouchers more moment one
        → AreVouchers again rest moment other → one ≡ other
    unfolding AreVouchers
    vouchers_told vouchers again more rest one other (same, so) is also =
        fixed 200 moment Json None (vouchers_body again rest) one other
        (subst (λ (b : List ℕ). IsResponse 200 moment Json None b one) (λ i. vouchers_body (same i) (so i))
        is) also

    module _ (keys : KeysAreUnique) (typed : RowsAreTyped) (printed : PrintedTextSpells)
        (spelling : SpellingIsUnique) (H : History) (legal : IsLegal H) where
      unknown : (r : Refusal) → IsOnce (IsRefusal r moment)
      unknown r = refusal_once r moment

      query_once : (asked : Operation) → IsOnce (IsQueryReply settings asked H moment)
      unfolding IsState IsVoucher AreSessions IsDetails IsOwnDetails AreDetails IsBatch AreRedemptions
      query_once (operation.State device) =
          fixed 200 moment CaptiveJson None
          (captive_body (captive_of H device moment) settings.portal_url settings.venue_url)
      query_once (operation.Sheet id) =
          option_once (sheet_of H id) (IsRefusal UnknownBatch moment) (λ sheet. IsSheet settings sheet moment)
          (unknown UnknownBatch) sheet_once
      query_once (operation.Voucher code) =
          option_once (voucher_of H code) (IsRefusal UnknownCode moment) (λ v. IsVoucher v moment)
          (unknown UnknownCode) (λ v. fixed 200 moment Json None (voucher_body v))
      query_once (operation.Takings range) = takings_once (takings_over settings.zone H range)
      query_once operation.OpenSessions =
          fixed 200 moment Json None (sessions_body (open_sessions_of H moment))
      query_once operation.OpenDetails =
          fixed 200 moment Json None (open_details_body (open_details_of H moment))
      query_once (operation.Session number) =
          option_once (session_details_of H number moment) (IsRefusal UnknownSession moment)
          (λ details. IsDetails details moment) (unknown UnknownSession)
          (λ details. fixed 200 moment Json None (details_body details))
      query_once (operation.LastSession device) =
          option_once (last_details_of H device moment) (IsRefusal UnknownSession moment)
          (λ details. IsDetails details moment) (unknown UnknownSession)
          (λ details. fixed 200 moment Json None (details_body details))
      query_once (operation.OwnSession device) =
          option_once (last_details_of H device moment) (IsRefusal UnknownSession moment)
          (λ details. IsOwnDetails details moment) (unknown UnknownSession)
          (λ details. fixed 200 moment Json None (own_details_body details))
      query_once (operation.Batches before limit) =
          option_once (before_of H before) (IsRefusal UnknownBatch moment)
          (λ place bytes. (states : List BatchState) × (more : Bool)
          × AreStatesAfter H place limit states more × AreBatches states more moment bytes)
          (unknown UnknownBatch)
          (λ place one other (states, more, is, response) (again, rest, so, told).
          batches_once states again more rest one other
          (states_once keys H legal place limit states again more rest is so) response told)
      query_once (operation.Batch id) =
          option_once (batch_with_vouchers H id) (IsRefusal UnknownBatch moment)
          (λ batch. IsBatch batch moment)
          (unknown UnknownBatch)
          (λ batch. fixed 200 moment Json None (batch_body (batch_state batch.0 batch.1) batch.1))
      query_once (operation.Vouchers start) =
          λ one other (vouchers, more, is, response) (again, rest, so, told).
          vouchers_told vouchers again more rest one other
          (vouchers_once printed spelling typed H legal start vouchers again more rest is so) response told
      query_once (operation.Redemptions code) =
          option_once (last_redemptions_of H code moment) (IsRefusal UnknownCode moment)
          (λ listed. AreRedemptions listed moment) (unknown UnknownCode)
          (λ listed. fixed 200 moment Json None (redemptions_body listed.0 listed.1))
      query_once (operation.Act command mark) = λ one other is so. absurd is

module _ (checked_once : ChecksAreExact) (fixed : ResponseIsFixed) (print_file : FixesPrintFile)
    (report : FixesReport) (sound_is_legal : SoundIsLegal) (keys : KeysAreUnique) (typed : RowsAreTyped)
    (printed : PrintedTextSpells) (spelling : SpellingIsUnique) where
  -- the reply to what only reads
  read_once : (settings : SettingsValue) (asked : Operation) (L : Ledger) (moment : ℕ) (one other : List ℕ)
      (after also : Ledger) → IsSound L
      → IsQueryReply settings asked (history_of L) moment one × (after ≡ L)
      → IsQueryReply settings asked (history_of L) moment other × (also ≡ L) → (one ≡ other) × (after ≡ also)
  read_once settings asked L moment one other after also sound is so = (
    query_once fixed print_file report settings moment keys typed printed spelling (history_of L)
        (sound_is_legal L sound) asked one other is.0 so.0,
    is.1 ∙ sym so.1,
  )

  reply_once : (settings : SettingsValue) (asked : Result Operation Rejection) (L : Ledger) (moment : ℕ)
      (one other : List ℕ) (after also : Ledger) → IsSound L → IsReply settings asked L moment one after
      → IsReply settings asked L moment other also → (one ≡ other) × (after ≡ also)
  reply_once settings (Err rejected) L moment one other after also sound is so =
      (error_once fixed (error_of rejected) (allow_of rejected) moment one other is.0 so.0, is.1 ∙ sym so.1)
  reply_once settings (Ok (operation.Act command mark)) L moment one other after also sound is so =
      command_once fixed (repeat_in L mark) L (accepted_at L moment command mark) moment one other after also
      is so
  reply_once settings (Ok (operation.State device)) L moment one other after also sound is so =
      read_once settings (operation.State device) L moment one other after also sound is so
  reply_once settings (Ok (operation.Sheet id)) L moment one other after also sound is so =
      read_once settings (operation.Sheet id) L moment one other after also sound is so
  reply_once settings (Ok (operation.Voucher code)) L moment one other after also sound is so =
      read_once settings (operation.Voucher code) L moment one other after also sound is so
  reply_once settings (Ok (operation.Takings range)) L moment one other after also sound is so =
      read_once settings (operation.Takings range) L moment one other after also sound is so
  reply_once settings (Ok operation.OpenSessions) L moment one other after also sound is so =
      read_once settings operation.OpenSessions L moment one other after also sound is so
  reply_once settings (Ok operation.OpenDetails) L moment one other after also sound is so =
      read_once settings operation.OpenDetails L moment one other after also sound is so
  reply_once settings (Ok (operation.Session number)) L moment one other after also sound is so =
      read_once settings (operation.Session number) L moment one other after also sound is so
  reply_once settings (Ok (operation.LastSession device)) L moment one other after also sound is so =
      read_once settings (operation.LastSession device) L moment one other after also sound is so
  reply_once settings (Ok (operation.OwnSession device)) L moment one other after also sound is so =
      read_once settings (operation.OwnSession device) L moment one other after also sound is so
  reply_once settings (Ok (operation.Batches before limit)) L moment one other after also sound is so =
      read_once settings (operation.Batches before limit) L moment one other after also sound is so
  reply_once settings (Ok (operation.Batch id)) L moment one other after also sound is so =
      read_once settings (operation.Batch id) L moment one other after also sound is so
  reply_once settings (Ok (operation.Vouchers start)) L moment one other after also sound is so =
      read_once settings (operation.Vouchers start) L moment one other after also sound is so
  reply_once settings (Ok (operation.Redemptions code)) L moment one other after also sound is so =
      read_once settings (operation.Redemptions code) L moment one other after also sound is so

  pub response_is_unique : ResponseIsUnique
  response_is_unique settings L a one other after also sound (inl (w, checked, is)) (inl (v, again, so)) f g =
      let same : w ≡ v = checked_once settings a.seed a.bytes w v checked again in
      reply_once settings v L a.moment one other after also sound
      (subst (λ (x : Result Operation Rejection). IsReply settings x L a.moment one after) same is) so
  response_is_unique settings L a one other after also sound (inr is) so f g = absurd (f is)
  response_is_unique settings L a one other after also sound (inl is) (inr so) f g = absurd (g so)
