-- Test vectors of the details of a session.
use Rattle.std.specs.Prelude.{◌≡◌, ℕ, ◌∷◌, Option, Some, None, option_map, codes}
use Rattle.portal_model.specs.declared.command.Command.TheVariants.{Redeem, Report, Close}
use Rattle.portal_model.specs.declared.details.End.{End}
use Rattle.portal_model.specs.declared.details.End.TheVariants.{Closed, Time, Bytes}
use Rattle.portal_model.specs.declared.details.SessionDetails.{SessionDetails}
use Rattle.portal_model.specs.Details.{session_details_of, last_details_of}
use Rattle.portal_model.specs.History.{History, entry}
use Rattle.portal_model.specs.TestVectors.{device1, device2, code1, hour_redeemed, second_sold, gig_redeemed}
use Rattle.portal_model.specs.TestVectors.{sold_on}
use Rattle.portal_model.specs.VerdictVectors.{both, code4, history_of_plans}

-- the first hour of the first device, with those seconds left
abbrev pub hour_details : Option ℕ → Option End → ℕ → SessionDetails
hour_details at ended left = record {
  at = at;
  bytes = None;
  device = device1;
  ended = ended;
  opened = 1000;
  plan = codes "hour";
  seconds = Some left;
  number = 1;
  used = 0;
}

-- an hour from 1000 on is open until its end; a session that was closed keeps that reason past its end
abbrev pub DetailsOfHour : Type 0
DetailsOfHour =
    let H = entry 2000 (Close 1) ∷ hour_redeemed in
    (session_details_of hour_redeemed 1 4599 ≡ Some (hour_details None None 1))
    × (session_details_of hour_redeemed 1 4600 ≡ Some (hour_details (Some 4600) (Some Time) 0))
    × (session_details_of hour_redeemed 1 900 ≡ Some (hour_details None None 3600))
    × (session_details_of H 1 3000 ≡ Some (hour_details (Some 2000) (Some Closed) 1600))
    × (session_details_of H 1 5000 ≡ Some (hour_details (Some 2000) (Some Closed) 0))
    × (session_details_of H 0 3000 ≡ None) × (session_details_of H 2 3000 ≡ None)

-- the last byte ends a session, and its end has no time
abbrev pub DetailsOfBytes : Type 0
DetailsOfBytes =
    session_details_of (entry 1000 (Report 1 1073741824) ∷ gig_redeemed) 1 1000 ≡ Some (record {
      at = None;
      bytes = Some 0;
      device = device2;
      ended = Some Bytes;
      opened = 1000;
      plan = codes "gig";
      seconds = None;
      number = 1;
      used = 1073741824;
    })

-- the first reason for which session 1 has ended at t
abbrev pub ended_in : History → ℕ → Option (Option End)
ended_in H t = option_map (λ s. s.ended) (session_details_of H 1 t)

-- of two limits that are both reached, time is the first reason
abbrev pub DetailsOfBoth : Type 0
DetailsOfBoth =
    let H = entry 1000 (Redeem device1 code4) ∷ sold_on (codes "b1") both code4 history_of_plans in
    let K = entry 1000 (Report 1 1073741824) ∷ H in
    (ended_in H 4599 ≡ Some None) × (ended_in K 4599 ≡ Some (Some Bytes))
    × (ended_in K 4600 ≡ Some (Some Time)) × (ended_in (entry 2000 (Close 1) ∷ K) 4600 ≡ Some (Some Closed))

-- an extended session has the plan that opened it; the last session of a device is the newest
abbrev pub DetailsOfLast : Type 0
DetailsOfLast =
    (last_details_of (entry 4599 (Redeem device1 code1) ∷ second_sold) device1 4600
    ≡ Some (hour_details None None 3600))
    × (last_details_of (entry 4600 (Redeem device1 code1) ∷ second_sold) device1 4600
    ≡ Some (record (hour_details None None 3600) { opened = 4600; number = 2 }))
    × (last_details_of second_sold device2 4600 ≡ None)
