-- Test vectors of what is told of batches, and of redemptions.
use Rattle.std.specs.Prelude.{◌≡◌, ℕ, Bool, true, false, List, [], ◌∷◌, Option, Some, None, option_map, codes}
use Rattle.portal_model.specs.declared.batches.BatchState.{BatchState}
use Rattle.portal_model.specs.declared.command.Command.TheVariants.{Issue, Sell, Redeem, Refund, Close}
use Rattle.portal_model.specs.declared.plan.Plan.{Plan}
use Rattle.portal_model.specs.declared.redemptions.Redemption.{Redemption}
use Rattle.portal_model.specs.Batches.{batch_state, batch_with_vouchers, begins_with, is_after, before_of}
use Rattle.portal_model.specs.History.{History, entry, batch_row}
use Rattle.portal_model.specs.Redemptions.{redemptions_of}
use Rattle.portal_model.specs.TestVectors.{hour, gig, device1, code1, code2, code3}
use Rattle.portal_model.specs.TestVectors.{history_with_plans, hour_sold, second_sold}
use Rattle.portal_model.specs.TestVectors.{gig_redeemed, peta_redeemed}

-- the state of the batch of that id after a history
abbrev pub state_in : History → List ℕ → Option BatchState
state_in H id = option_map (λ both. batch_state both.0 both.1) (batch_with_vouchers H id)

-- a batch of that plan, issued at 1000, with so many vouchers, and how many were sold, refunded and used up
abbrev pub issued_state : List ℕ → Plan → ℕ → ℕ → ℕ → ℕ → BatchState
issued_state id plan size sold refunded used_up = record {
  batch = batch_row 1000 id size plan;
  sold = sold;
  refunded = refunded;
  used_up = used_up;
}

-- two hours, of which the first is sold
abbrev pub two_issued : History
two_issued = entry 1100 (Sell code1) ∷ entry 1000 (Issue (codes "b7") (codes "hour") (code1 ∷ code3 ∷ []))
    ∷ history_with_plans

-- a voucher counts as sold whatever became of it; one that was refunded before its last use is not used up;
-- an unknown batch has no state
abbrev pub StatesOfBatches : Type 0
StatesOfBatches =
    (state_in two_issued (codes "b7") ≡ Some (issued_state (codes "b7") hour 2 1 0 0))
    × (state_in hour_sold (codes "b1") ≡ Some (issued_state (codes "b1") hour 1 1 0 0))
    × (state_in second_sold (codes "b1") ≡ Some (issued_state (codes "b1") hour 1 1 0 1))
    × (state_in second_sold (codes "b2") ≡ Some (issued_state (codes "b2") hour 1 1 0 0))
    × (state_in gig_redeemed (codes "b1") ≡ Some (issued_state (codes "b1") gig 1 1 0 0))
    × (state_in (entry 1000 (Refund code2) ∷ gig_redeemed) (codes "b1")
    ≡ Some (issued_state (codes "b1") gig 1 1 1 0))
    × (state_in second_sold (codes "b3") ≡ None)

-- a code is found by its first characters as they are printed, and not by others
abbrev pub BeginningsOfCodes : Type 0
BeginningsOfCodes =
    (begins_with (codes "3N55") code3 ≡ true) × (begins_with (codes "3N55-WA") code3 ≡ true)
    × (begins_with (codes "3N55-WA4S-KH5") code3 ≡ true) × (begins_with (codes "N55") code3 ≡ false)
    × (begins_with (codes "3N54") code3 ≡ false) × (begins_with (codes "3N55-WB") code3 ≡ false)

-- the batch comes after that one, which was issued at 1000 with the id b2
abbrev pub is_after_b2 : ℕ → List ℕ → Bool
is_after_b2 t id = is_after (Some (batch_row 1000 (codes "b2") 1 hour)) (batch_row t id 1 hour)

-- batches of one second follow by their ids, the greater first
abbrev pub OrderOfBatches : Type 0
OrderOfBatches =
    (is_after_b2 999 (codes "b9") ≡ true) × (is_after_b2 1000 (codes "b1") ≡ true)
    × (is_after_b2 1000 (codes "b10") ≡ true) × (is_after_b2 1000 (codes "b2") ≡ false)
    × (is_after_b2 1000 (codes "b3") ≡ false) × (is_after_b2 1001 (codes "b1") ≡ false)
    × (before_of second_sold (Some (codes "b3")) ≡ None) × (before_of second_sold None ≡ Some None)
    × (before_of second_sold (Some (codes "b2")) ≡ Some (Some (batch_row 1000 (codes "b2") 1 hour)))

-- a redemption by the first device in session 1
abbrev pub in_first : ℕ → Bool → Bool → Redemption
in_first at extended is_open =
    record { at = at; device = device1; extended = extended; is_open = is_open; session = 1 }

-- the redemption that opened a session did not extend it, and any later one in it did, also in the same
-- second; the newest comes first; a voucher that is not redeemed has none, and an unknown one has no list
abbrev pub RedemptionsOfCodes : Type 0
RedemptionsOfCodes =
    let H = entry 4599 (Redeem device1 code1) ∷ second_sold in
    (redemptions_of H code3 4600 ≡ Some (in_first 1000 false true ∷ []))
    × (redemptions_of H code1 4600 ≡ Some (in_first 4599 true true ∷ []))
    × (redemptions_of H code1 8200 ≡ Some (in_first 4599 true false ∷ []))
    × (redemptions_of (entry 4600 (Close 1) ∷ H) code1 4600 ≡ Some (in_first 4599 true false ∷ []))
    × (redemptions_of (peta_redeemed 2) code1 900
    ≡ Some (in_first 1000 true true ∷ in_first 1000 false true ∷ []))
    × (redemptions_of two_issued code3 2000 ≡ Some []) × (redemptions_of two_issued code2 2000 ≡ None)
