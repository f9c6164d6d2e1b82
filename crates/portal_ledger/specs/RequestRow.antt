-- A kept request as a row of portal_requests.
use Rattle.std.specs.Prelude.{ℕ, Bool, true, false, List, codes, Option, Some, None}
use Rattle.portal_codes.specs.Code.{IsCode, text_of}
use Rattle.portal_model.specs.Device.{text_of_device}
use Rattle.portal_model.specs.declared.change.Answer.{Answer}
use Rattle.portal_model.specs.declared.change.Answer.TheVariants.{LoadAnswer, IssueAnswer, SellAnswer}
use Rattle.portal_model.specs.declared.change.Answer.TheVariants.{RedeemAnswer, ReportAnswer, RefundAnswer}
use Rattle.portal_model.specs.declared.change.Answer.TheVariants.{CloseAnswer}
use Rattle.portal_ledger.specs.declared.caller.Caller.{Caller}
use Rattle.portal_ledger.specs.declared.caller.Caller.TheVariants.{Desk, Gateway, Guest}
use Rattle.portal_ledger.specs.declared.request.KeptRequest.{KeptRequest}
use Rattle.portal_ledger.specs.Fingerprint.{IsFingerprint}

-- an answer, in the columns for its kind
pub record AnswerCells : Type 0 where
  pub kind : ℕ
  pub word : Option (List ℕ)
  pub n1 : ℕ
  pub n2 : Option ℕ
  pub n3 : Option ℕ

abbrev pub cells : ℕ → Option (List ℕ) → ℕ → Option ℕ → Option ℕ → AnswerCells
cells kind word n1 n2 n3 = record { kind = kind; word = word; n1 = n1; n2 = n2; n3 = n3 }

abbrev pub boolean : Bool → ℕ
boolean true = 1
boolean false = 0

abbrev pub cells_of : Answer → AnswerCells
cells_of (LoadAnswer plans) = cells 1 None plans None None
cells_of (IssueAnswer batch count expires) = cells 2 (Some batch) count (Some expires) None
cells_of (SellAnswer code price) = cells 3 (Some (text_of code)) price None None
cells_of (RedeemAnswer extended session uses_left) =
    cells 4 None session (Some uses_left) (Some (boolean extended))
cells_of (ReportAnswer still_open session used) = cells 5 None session (Some used) (Some (boolean still_open))
cells_of (RefundAnswer amount code) = cells 6 (Some (text_of code)) amount None None
cells_of (CloseAnswer session) = cells 7 None session None None

-- the code of an answer is a code
abbrev pub IsAnswerTyped : Answer → Type 0
IsAnswerTyped (SellAnswer code price) = IsCode code
IsAnswerTyped (RefundAnswer amount code) = IsCode code
IsAnswerTyped _ = Unit {0}

-- the fingerprint and the code of the answer are typed
pub record IsKeptTyped (k : KeptRequest) : Type 0 where
  pub mark : IsFingerprint k.mark
  pub answer : IsAnswerTyped k.answer

-- the text of a caller
abbrev pub text_of_caller : Caller → List ℕ
text_of_caller Desk = codes "desk"
text_of_caller Gateway = codes "gateway"
text_of_caller (Guest device) = text_of_device device

-- a row of portal_requests
pub record RequestRow : Type 0 where
  pub caller : List ℕ
  pub number : List ℕ
  pub method : List ℕ
  pub path : List ℕ
  pub body : List ℕ
  pub answer : AnswerCells

abbrev pub row_of_request : KeptRequest → RequestRow
row_of_request k = record {
  caller = text_of_caller k.mark.caller;
  number = k.mark.number;
  method = k.mark.method;
  path = k.mark.path;
  body = k.mark.body;
  answer = cells_of k.answer;
}
