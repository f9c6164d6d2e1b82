use Rattle.portal_http_message.proofs.Common.{◌≡◌, ℕ, ◌≤◌, List, ◌++◌, length, Option, Some, None, Result, Ok}
use Rattle.portal_http_message.proofs.Common.{Err, refl, ap, ◌∙◌, inl, inr, arith, false, nat_lt, le-ltb}
use Rattle.portal_http_message.proofs.Common.{drop-append-le, take-append-le, length-append, length-take}
use Rattle.portal_http_message.proofs.Common.{RequestHead, head_limit, HeadError, HeadOf, bytes_after}
use Rattle.portal_http_message.proofs.Common.{body_after, length_of, message_in, message_with, IsDecided}
use Rattle.portal_http_message.proofs.Common.{IsSettled}
use Rattle.httparse.specs.Grammar.{print_request}
use Rattle.portal_http_message.proofs.DecidedLemmas.{stays, by_one, none_comes}
use Rattle.portal_http_message.proofs.laws.decision_is_final.Goals as goal

-- a body that is settled is the same where more bytes follow
same_body : (declared : Result ℕ HeadError) (after more : List ℕ) → IsSettled declared (length after)
    → body_after declared (after ++ more) ≡ body_after declared after
same_body (Err error) after more met = refl
same_body (Ok n) after more met =
    let long : nat_lt (length (after ++ more)) n ≡ false =
    le-ltb (length (after ++ more)) n (omega (arith, length-append after more)) in
    let here : nat_lt (length after) n ≡ false = le-ltb (length after) n met in
    rw (long, here, take-append-le n after more met)

same : (bytes more : List ℕ) (head : Option RequestHead) → IsDecided bytes → HeadOf bytes head
    → HeadOf (bytes ++ more) head × (message_in head (bytes ++ more) ≡ message_in head bytes)
same bytes more None (inl by) none = absurd (none by.0 by.1)
same bytes more None (inr without) none = (none_comes bytes more without, refl)
same bytes more (Some head) (inr without) begins = absurd (without.0 head begins)
same bytes more (Some head) (inl by) begins =
    let start : length (print_request head) ≤ length bytes =
    omega (
      arith,
      ap length begins.1.1,
      length-append (print_request head) begins.0,
      length-take head_limit bytes,
    ) in
    let after : bytes_after head (bytes ++ more) ≡ bytes_after head bytes ++ more =
    drop-append-le (length (print_request head)) bytes more start in (
      stays bytes more head begins,
      ap (message_with head) (ap (body_after (length_of head)) after
          ∙ same_body (length_of head) (bytes_after head bytes) more (by_one bytes head begins (by))),
    )

pub returns : goal.returns
returns c = same
