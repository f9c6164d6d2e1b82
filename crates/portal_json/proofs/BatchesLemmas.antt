-- The texts of batches and of vouchers.
use Rattle.portal_json.proofs.Common.{◌≡◌, ℕ, Bool, true, false, List, [], ◌∷◌, ◌++◌, Option, Some, None}
use Rattle.portal_json.proofs.Common.{refl, append_assoc, append-nil, compact_text}
use Rattle.std.specs.Prelude.{codes}
use Rattle.json.specs.Print.{escape, escape_byte}
use Rattle.serde_json.specs.Data.{boolean}
use Rattle.portal_codes.specs.Code.{IsCode, text_of}
use Rattle.portal_model.specs.declared.batches.BatchState.{BatchState}
use Rattle.portal_model.specs.declared.plan.Plan.{Plan}
use Rattle.portal_model.specs.declared.record.Voucher.{Voucher}
use Rattle.portal_model.specs.IdText.{IsIdText}
use Rattle.portal_json.specs.Bodies.{batch_data, batch_state_data, batch_voucher_data, batches_data}
use Rattle.portal_json.specs.Bodies.{voucher_data, vouchers_data}
use Rattle.portal_json.specs.Listed.{batch_before, between, entries_between, number_or_null, word_of_flag}
use Rattle.portal_json.proofs.ListedLemmas.{code_plain, id_plain, joined, list_is}

-- a text under a key
abbrev pub text_part : List ℕ → List ℕ → List ℕ
text_part before value = before ++ (value ++ codes "\"")

-- what is appended for a voucher
abbrev pub voucher_parts : Voucher → List (List ℕ)
voucher_parts v =
    text_part (codes "{\"batch\":\"") v.batch
    ∷ text_part (codes ",\"code\":\"") (text_of v.code)
    ∷ between (codes ",\"expires\":") (Some v.expires) []
    ∷ text_part (codes ",\"plan\":\"") v.plan.id
    ∷ between (codes ",\"redeemed\":") (Some v.redeemed) []
    ∷ (codes ",\"refund\":" ++ (number_or_null v.refund ++ []))
    ∷ (codes ",\"sold\":" ++ (number_or_null v.sold ++ []))
    ∷ between (codes ",\"uses\":") (Some v.plan.uses) (codes "}")
    ∷ []

voucher_of : (code batch : List ℕ) (plan : Plan) (expires redeemed : ℕ) (refund sold : Option ℕ)
    → let v : Voucher = record {
      code = code;
      batch = batch;
      plan = plan;
      expires = expires;
      sold = sold;
      refund = refund;
      redeemed = redeemed;
    } in
    escape batch ≡ batch → escape (text_of code) ≡ text_of code → escape plan.id ≡ plan.id
    → joined (voucher_parts v) ≡ compact_text (voucher_data v)
unfolding escape_byte
voucher_of code batch plan expires redeemed None None issued coded planned =
    simp (append_assoc, append-nil, issued, coded, planned) refl
voucher_of code batch plan expires redeemed None (Some t) issued coded planned =
    simp (append_assoc, append-nil, issued, coded, planned) refl
voucher_of code batch plan expires redeemed (Some n) None issued coded planned =
    simp (append_assoc, append-nil, issued, coded, planned) refl
voucher_of code batch plan expires redeemed (Some n) (Some t) issued coded planned =
    simp (append_assoc, append-nil, issued, coded, planned) refl

pub voucher_text_is : (v : Voucher) → IsIdText v.batch → IsCode v.code → IsIdText v.plan.id
    → joined (voucher_parts v) ≡ compact_text (voucher_data v)
voucher_text_is v batch_id is_code plan_id =
    voucher_of v.code v.batch v.plan v.expires v.redeemed v.refund v.sold (id_plain v.batch batch_id)
    (code_plain v.code is_code) (id_plain v.plan.id plan_id)

-- what is appended for a voucher in its batch
abbrev pub batch_voucher_parts : Voucher → List (List ℕ)
batch_voucher_parts v =
    text_part (codes "{\"code\":\"") (text_of v.code)
    ∷ between (codes ",\"redeemed\":") (Some v.redeemed) []
    ∷ (codes ",\"refund\":" ++ (number_or_null v.refund ++ []))
    ∷ (codes ",\"sold\":" ++ (number_or_null v.sold ++ codes "}"))
    ∷ []

batch_voucher_of : (code batch : List ℕ) (plan : Plan) (expires redeemed : ℕ) (refund sold : Option ℕ)
    → let v : Voucher = record {
      code = code;
      batch = batch;
      plan = plan;
      expires = expires;
      sold = sold;
      refund = refund;
      redeemed = redeemed;
    } in
    escape (text_of code) ≡ text_of code
    → joined (batch_voucher_parts v) ≡ compact_text (batch_voucher_data v)
unfolding escape_byte
batch_voucher_of code batch plan expires redeemed None None coded =
    simp (append_assoc, append-nil, coded) refl
batch_voucher_of code batch plan expires redeemed None (Some t) coded =
    simp (append_assoc, append-nil, coded) refl
batch_voucher_of code batch plan expires redeemed (Some n) None coded =
    simp (append_assoc, append-nil, coded) refl
batch_voucher_of code batch plan expires redeemed (Some n) (Some t) coded =
    simp (append_assoc, append-nil, coded) refl

pub batch_voucher_text_is : (v : Voucher) → IsCode v.code
    → joined (batch_voucher_parts v) ≡ compact_text (batch_voucher_data v)
batch_voucher_text_is v is_code =
    batch_voucher_of v.code v.batch v.plan v.expires v.redeemed v.refund v.sold (code_plain v.code is_code)

-- what is appended for a batch
abbrev pub batch_parts : List ℕ → BatchState → List (List ℕ)
batch_parts behind s =
    text_part (codes "{\"batch\":\"") s.batch.id
    ∷ between (codes ",\"count\":") (Some s.batch.size) []
    ∷ between (codes ",\"expires\":") (Some s.batch.expires) []
    ∷ between (codes ",\"issued\":") (Some s.batch.issued) []
    ∷ text_part (codes ",\"plan\":\"") s.batch.plan
    ∷ between (codes ",\"refunded\":") (Some s.refunded) []
    ∷ between (codes ",\"sold\":") (Some s.sold) []
    ∷ between (codes ",\"used-up\":") (Some s.used_up) behind
    ∷ []

batch_of : (behind : List ℕ) (s : BatchState) → escape s.batch.id ≡ s.batch.id
    → escape s.batch.plan ≡ s.batch.plan → joined (batch_parts behind s) ≡ batch_before behind s
batch_of behind s named planned = simp (append_assoc, append-nil, named, planned) refl

pub batch_parts_are : (behind : List ℕ) (s : BatchState) → IsIdText s.batch.id → IsIdText s.batch.plan
    → joined (batch_parts behind s) ≡ batch_before behind s
batch_parts_are behind s batch_id plan_id =
    batch_of behind s (id_plain s.batch.id batch_id) (id_plain s.batch.plan plan_id)

-- ---- the bodies

pub batch_text_is : (s : BatchState) → batch_before (codes "}") s ≡ compact_text (batch_state_data s)
unfolding escape_byte
batch_text_is s = simp append_assoc refl

pub flag_is : (flag : Bool) → word_of_flag flag ≡ compact_text (boolean flag)
flag_is false = refl
flag_is true = refl

pub batches_text_is : (states : List BatchState) (more : Bool)
    → (codes "{\"batches\":[" ++ (entries_between batch_state_data states ++ codes "]"))
    ++ (codes ",\"more\":" ++ (word_of_flag more ++ codes "}")) ≡ compact_text (batches_data states more)
unfolding escape_byte
batches_text_is states more =
    simp (append_assoc, list_is batch_state_data states, flag_is more) refl

pub vouchers_text_is : (vouchers : List Voucher) (more : Bool)
    → (codes "{\"more\":" ++ (word_of_flag more ++ codes ","))
    ++ (codes "\"vouchers\":[" ++ (entries_between voucher_data vouchers ++ codes "]}"))
    ≡ compact_text (vouchers_data vouchers more)
unfolding escape_byte
vouchers_text_is vouchers more =
    simp (append_assoc, list_is voucher_data vouchers, flag_is more) refl

pub whole_text_is : (s : BatchState) (vouchers : List Voucher) → batch_before (codes ",") s
    ++ (codes "\"vouchers\":[" ++ (entries_between batch_voucher_data vouchers ++ codes "]}"))
    ≡ compact_text (batch_data s vouchers)
unfolding escape_byte
whole_text_is s vouchers = simp (append_assoc, list_is batch_voucher_data vouchers) refl
