-- The number, the word and the HTTP status of each error of the desk.
use Rattle.std.specs.Prelude.{ℕ, List, codes}
use Rattle.portal_model.specs.declared.refusal.Refusal.{Refusal}
use Rattle.portal_model.specs.declared.refusal.Refusal.TheVariants.{BadRequest, BadCode, BadDevice, BadPlans}
use Rattle.portal_model.specs.declared.refusal.Refusal.TheVariants.{Forbidden, NoRoute, BadMethod}
use Rattle.portal_model.specs.declared.refusal.Refusal.TheVariants.{UnknownPlan, UnknownBatch, UnknownCode}
use Rattle.portal_model.specs.declared.refusal.Refusal.TheVariants.{UnknownSession, PlanDiffers, BatchExists}
use Rattle.portal_model.specs.declared.refusal.Refusal.TheVariants.{CodeTaken, NotSold, SoldAlready, Refunded}
use Rattle.portal_model.specs.declared.refusal.Refusal.TheVariants.{Expired, UsedUp, NoExtend, ShapeDiffers}
use Rattle.portal_model.specs.declared.refusal.Refusal.TheVariants.{AllowanceFull, ClosedAlready, NothingLeft}
use Rattle.portal_model.specs.declared.refusal.Refusal.TheVariants.{MomentRange, NumbersFull, TooLarge}
use Rattle.portal_model.specs.declared.refusal.Refusal.TheVariants.{NotSupported, NoMemory, Stopped, IdReused}

-- the errors in order, from 1
abbrev pub number_of : Refusal → ℕ
number_of BadRequest = 1
number_of BadCode = 2
number_of BadDevice = 3
number_of BadPlans = 4
number_of Forbidden = 5
number_of NoRoute = 6
number_of BadMethod = 7
number_of UnknownPlan = 8
number_of UnknownBatch = 9
number_of UnknownCode = 10
number_of UnknownSession = 11
number_of PlanDiffers = 12
number_of BatchExists = 13
number_of CodeTaken = 14
number_of NotSold = 15
number_of SoldAlready = 16
number_of Refunded = 17
number_of Expired = 18
number_of UsedUp = 19
number_of NoExtend = 20
number_of ShapeDiffers = 21
number_of AllowanceFull = 22
number_of ClosedAlready = 23
number_of NothingLeft = 24
number_of MomentRange = 25
number_of NumbersFull = 26
number_of TooLarge = 27
number_of NotSupported = 28
number_of NoMemory = 29
number_of Stopped = 30
number_of IdReused = 31

-- the word for the error in responses and messages
abbrev pub word_of : Refusal → List ℕ
word_of BadRequest = codes "bad_request"
word_of BadCode = codes "bad_code"
word_of BadDevice = codes "bad_device"
word_of BadPlans = codes "bad_plans"
word_of Forbidden = codes "forbidden"
word_of NoRoute = codes "no_route"
word_of BadMethod = codes "bad_method"
word_of UnknownPlan = codes "unknown_plan"
word_of UnknownBatch = codes "unknown_batch"
word_of UnknownCode = codes "unknown_code"
word_of UnknownSession = codes "unknown_session"
word_of PlanDiffers = codes "plan_differs"
word_of BatchExists = codes "batch_exists"
word_of CodeTaken = codes "code_taken"
word_of NotSold = codes "not_sold"
word_of SoldAlready = codes "sold_already"
word_of Refunded = codes "refunded"
word_of Expired = codes "expired"
word_of UsedUp = codes "used_up"
word_of NoExtend = codes "no_extend"
word_of ShapeDiffers = codes "shape_differs"
word_of AllowanceFull = codes "allowance_full"
word_of ClosedAlready = codes "closed_already"
word_of NothingLeft = codes "nothing_left"
word_of MomentRange = codes "moment_range"
word_of NumbersFull = codes "numbers_full"
word_of TooLarge = codes "too_large"
word_of NotSupported = codes "not_supported"
word_of NoMemory = codes "no_memory"
word_of Stopped = codes "stopped"
word_of IdReused = codes "id_reused"

-- the status of the response (RFC 9110 section 15)
abbrev pub status_of : Refusal → ℕ
status_of BadRequest = 400
status_of BadCode = 400
status_of BadDevice = 400
status_of BadPlans = 400
status_of Forbidden = 403
status_of NoRoute = 404
status_of BadMethod = 405
status_of UnknownPlan = 404
status_of UnknownBatch = 404
status_of UnknownCode = 404
status_of UnknownSession = 404
status_of PlanDiffers = 409
status_of BatchExists = 409
status_of CodeTaken = 409
status_of NotSold = 409
status_of SoldAlready = 409
status_of Refunded = 409
status_of Expired = 410
status_of UsedUp = 409
status_of NoExtend = 409
status_of ShapeDiffers = 409
status_of AllowanceFull = 409
status_of ClosedAlready = 409
status_of NothingLeft = 409
status_of MomentRange = 409
status_of NumbersFull = 409
status_of TooLarge = 413
status_of NotSupported = 501
status_of NoMemory = 503
status_of Stopped = 503
status_of IdReused = 409
