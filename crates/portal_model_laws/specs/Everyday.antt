-- A history in which each of the seven commands occurs, in which one redemption opens a session and another
-- extends it.
use Rattle.std.specs.Prelude.{ℕ, List, [], ◌∷◌, ◌++◌, replicate, codes}
use Rattle.portal_model.specs.declared.command.Command.TheVariants.{Redeem, Report, Refund, Close}
use Rattle.portal_model.specs.History.{History, entry}
use Rattle.portal_model.specs.Verdict.{IsLegal}
use Rattle.portal_model.specs.TestVectors.{gig, device1, device2, code1, sold_on, second_sold}

-- 2222-2222-2222-223H
abbrev pub long_code : List ℕ
long_code = replicate 14 0 ++ 1 ∷ 15 ∷ []

-- two plans are loaded; two hours are issued, sold and redeemed, the second in the session of the first; a
-- gibibyte of a long code is issued, sold and redeemed, the gateway reports all its bytes but one, and its
-- other two uses are refunded; the session of the hours is closed
abbrev pub every_command : History
every_command =
    entry 2000 (Close 1)
    ∷ entry 1500 (Refund long_code)
    ∷ entry 1500 (Report 2 1073741823)
    ∷ entry 1000 (Redeem device2 long_code)
    ∷ sold_on (codes "b3") gig long_code (entry 1000 (Redeem device1 code1) ∷ second_sold)

-- that history is legal, so the laws are not vacuous
abbrev pub EveryCommandIsLegal : Type 0
EveryCommandIsLegal = IsLegal every_command
