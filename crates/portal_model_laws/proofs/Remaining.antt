-- The remaining seconds and bytes are at least 1.
use Rattle.portal_model_laws.proofs.Common.{All-weaker, ◌≡◌, ℕ, ◌-◌, ◌<◌, ◌≤◌, Bool, true, false, cond}
use Rattle.portal_model_laws.proofs.Common.{Option, Some, None, refl, arith, is_none, ◌&&◌, filter, nat_tests}
use Rattle.portal_model_laws.proofs.Common.{All-map, Session, kept_if, is_open_at, is_below, last_session_of}
use Rattle.portal_model_laws.proofs.Common.{effective_moment}
use Rattle.portal_model.specs.Captive.{left_below, remaining_of_session, open_session, all_sessions}
use Rattle.std.proofs.lemmas.List.Elements.{filter_passes}
use Rattle.portal_model_laws.specs.Laws.{AtLeastOne, GuestsSeeRemainder, GatewaySeesRemainder}
use Rattle.portal_model_laws.proofs.Basics.{and-true}

left-least : (done n : ℕ) (limit : Option ℕ) → is_below done limit ≡ true
    → left_below done limit ≡ Some n → 1 ≤ n
left-least done n None below e = cc
left-least done n (Some limit) below e =
    let left : limit - done ≡ n = cc in
    let low : done < limit = grind (arith, nat_tests) in
    omega arith

open-least : (t : ℕ) (s : Session) → is_open_at t s ≡ true
    → AtLeastOne (left_below t s.ends) (left_below s.used s.allowance)
open-least t s is_open =
    let first = and-true (is_none s.closed) (is_below t s.ends && is_below s.used s.allowance) is_open in
    let both = and-true (is_below t s.ends) (is_below s.used s.allowance) first.1 in
    record {
      seconds_left = λ n is. left-least t n s.ends both.0 is;
      bytes_left = λ n is. left-least s.used n s.allowance both.1 is;
    }

told-least : (t : ℕ) (last : Option Session)
    → AtLeastOne (remaining_of_session t (kept_if (is_open_at t) last)).seconds
    (remaining_of_session t (kept_if (is_open_at t) last)).bytes
told-least t None = record { seconds_left = λ n is. cc; bytes_left = λ n is. cc }
told-least t (Some s) = by_test (is_open_at t s) refl
  where
    by_test : (is_open : Bool) → is_open_at t s ≡ is_open
        → AtLeastOne (remaining_of_session t (cond is_open (Some s) None)).seconds
        (remaining_of_session t (cond is_open (Some s) None)).bytes
    by_test true e = open-least t s e
    by_test false e = record { seconds_left = λ n is. cc; bytes_left = λ n is. cc }

pub guests-told : GuestsSeeRemainder
guests-told H device t = told-least (effective_moment H t) (last_session_of H device)

pub gateway-told : GatewaySeesRemainder
gateway-told H t =
    let now : ℕ = effective_moment H t in
    All-map (λ o. AtLeastOne o.seconds o.bytes) (open_session now) (filter (is_open_at now) (all_sessions H))
    (All-weaker (λ s. is_open_at now s ≡ true)
    (λ s. AtLeastOne (left_below now s.ends) (left_below s.used s.allowance)) (open-least now)
    (filter (is_open_at now) (all_sessions H)) (filter_passes (is_open_at now) (all_sessions H)))
