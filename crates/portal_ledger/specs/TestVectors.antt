-- Test vectors: the answers to idempotent requests. Each line holds by computing the definitions.
use Rattle.std.specs.Prelude.{◌≡◌, ℕ, false, List, [], ◌∷◌, codes, Some, None}
use Rattle.portal_model.specs.declared.command.Command.{Command}
use Rattle.portal_model.specs.declared.command.Command.TheVariants.{Issue, Sell, Redeem}
use Rattle.portal_model.specs.declared.change.Answer.TheVariants.{IssueAnswer, RedeemAnswer}
use Rattle.portal_model.specs.declared.refusal.Refusal.TheVariants.{IdReused, NotSold, UsedUp}
use Rattle.portal_model.specs.History.{entry, History}
use Rattle.portal_model.specs.TestVectors.{hour, history_with_plans, device1, device2, code1, code3}
use Rattle.portal_model.specs.TestVectors.{hour_sold, hour_redeemed}
use Rattle.portal_ledger.specs.declared.caller.Caller.TheVariants.{Desk, Guest}
use Rattle.portal_ledger.specs.Fingerprint.{Fingerprint}
use Rattle.portal_ledger.specs.Ledger.{accepted_command, Ledger, history_of, kept_with, requests_of}
use Rattle.portal_ledger.specs.Replies.{acts, command_answer, refuses, IsCallReply}

-- a ledger of requests without idempotency keys
abbrev pub without_fingerprint : History → Ledger
without_fingerprint [] = []
without_fingerprint (entry t command ∷ H) = accepted_command t command None ∷ without_fingerprint H

-- the redemption by that guest with that key and that body
abbrev pub redeems : List ℕ → List ℕ → List ℕ → Fingerprint
redeems device number body = record {
  caller = Guest device;
  number = number;
  method = codes "POST";
  path = codes "/portal/redeem";
  body = body;
}

-- a body with the code of the hour, and one with another code
abbrev pub hour_body : List ℕ
hour_body = codes "{\"code\":\"3N55-WA4S-KH53\"}"

abbrev pub other_body : List ℕ
other_body = codes "{\"code\":\"2222-2222-2222\"}"

-- an hour, redeemed at 1000 with the key a1
abbrev pub with_fingerprint : Ledger
with_fingerprint = accepted_command 1000 (Redeem device1 code3)
    (Some (redeems device1 (codes "a1") hour_body)) ∷ without_fingerprint hour_sold

-- a repetition gets the same answer and adds nothing; the same key with another code is an error
abbrev pub RedemptionWithKey : Type 0
RedemptionWithKey =
    let mark = redeems device1 (codes "a1") hour_body in
    IsCallReply (without_fingerprint hour_sold) (acts (Redeem device1 code3) (Some mark)) 1000
    (command_answer (RedeemAnswer false 1 0)) with_fingerprint
    × (history_of with_fingerprint ≡ hour_redeemed)
    × (requests_of with_fingerprint ≡ kept_with mark (RedeemAnswer false 1 0) ∷ [])
    × IsCallReply with_fingerprint (acts (Redeem device1 code3) (Some mark)) 5000
    (command_answer (RedeemAnswer false 1 0)) with_fingerprint
    × IsCallReply with_fingerprint (acts (Redeem device1 code1)
    (Some (redeems device1 (codes "a1") other_body))) 5000 (refuses IdReused) with_fingerprint

-- the key a1 of another guest is another key: the command is decided anew
abbrev pub KeyPerCaller : Type 0
KeyPerCaller = IsCallReply with_fingerprint (acts (Redeem device2 code3)
    (Some (redeems device2 (codes "a1") hour_body))) 5000 (refuses UsedUp) with_fingerprint

-- the hour as it is issued, not yet sold
abbrev pub hour_issued : Ledger
hour_issued = accepted_command 1000 (Issue (codes "b1") hour.id (code3 ∷ [])) None
    ∷ without_fingerprint history_with_plans

-- a refused command does not use its key: the same request is decided anew once the voucher is sold
abbrev pub RefusedKeyIsFree : Type 0
RefusedKeyIsFree =
    let mark = redeems device1 (codes "b1") hour_body in
    let sold = accepted_command 1000 (Sell code3) None ∷ hour_issued in
    IsCallReply hour_issued (acts (Redeem device1 code3) (Some mark)) 1000 (refuses NotSold) hour_issued
    × IsCallReply sold (acts (Redeem device1 code3) (Some mark)) 1000 (command_answer
    (RedeemAnswer false 1 0)) (accepted_command 1000 (Redeem device1 code3) (Some mark) ∷ sold)

-- the issue of a batch of one code, with the key n1
abbrev pub orders : Fingerprint
orders = record {
  caller = Desk;
  number = codes "n1";
  method = codes "POST";
  path = codes "/desk/batches/b1";
  body = codes "{\"plan\":\"hour\",\"count\":1}";
}

-- repeated, with other codes made for it: the same answer, and one batch
abbrev pub BatchWithKey : Type 0
BatchWithKey =
    let batch : List ℕ → Command = λ code. Issue (codes "b1") hour.id (code ∷ []) in
    let issued = accepted_command 1000 (batch code1) (Some orders) ∷ without_fingerprint history_with_plans in
    IsCallReply (without_fingerprint history_with_plans) (acts (batch code1) (Some orders)) 1000
    (command_answer (IssueAnswer (codes "b1") 1 2593000)) issued
    × IsCallReply issued (acts (batch code3) (Some orders)) 2000
    (command_answer (IssueAnswer (codes "b1") 1 2593000)) issued
