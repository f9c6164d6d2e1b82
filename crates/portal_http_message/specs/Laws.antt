-- Laws of heads and of decided responses.
use Rattle.std.specs.Prelude.{◌≡◌, ℕ, List, ◌++◌, Option}
use Rattle.httparse.specs.Grammar.{RequestHead}
use Rattle.portal_http_message.specs.Message.{HeadOf, message_in}
use Rattle.portal_http_message.specs.Decided.{IsDecided}

-- bytes begin with one head at most
abbrev pub HasOneHead : Type 0
HasOneHead =
    (bytes : List ℕ) (head other : Option RequestHead) → HeadOf bytes head → HeadOf bytes other → head ≡ other

-- further bytes change neither the head of decided bytes nor the message in them
abbrev pub DecisionIsFinal : Type 0
DecisionIsFinal =
    (bytes more : List ℕ) (head : Option RequestHead) → IsDecided bytes → HeadOf bytes head
    → HeadOf (bytes ++ more) head × (message_in head (bytes ++ more) ≡ message_in head bytes)
