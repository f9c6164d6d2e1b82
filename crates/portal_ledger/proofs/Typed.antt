-- What a sound ledger keeps is what a program can make.
use Rattle.portal_ledger.proofs.Common.{◌≡◌, ℕ, [], ◌∷◌, Option, Some, None, refl, All, option_map}
use Rattle.portal_ledger.proofs.Common.{option_and_then, option_to_list, All-nil, All-cons, All-append}
use Rattle.portal_ledger.proofs.Common.{Command, Answer, Changes, History, IsTyped, changes_of, answer_of}
use Rattle.portal_ledger.proofs.Common.{by_map, KeptRequest, Fingerprint, Accepted, Ledger, history_of}
use Rattle.portal_ledger.proofs.Common.{answer_in, kept_with, request_kept, requests_of, IsKeyFree}
use Rattle.portal_ledger.proofs.Common.{IsAnswerTyped, IsKeptTyped}
use Rattle.portal_model_laws.proofs.Commands.{OfEach, by_command}
use Rattle.portal_ledger.specs.Laws.{KeptRequestsAreTyped}

-- the answer of the changes is typed
abbrev TellsTyped : Command → Changes → Type 0
TellsTyped command changes = IsTyped command → IsAnswerTyped (answer_of changes)

each-typed : (H : History) (t : ℕ) → OfEach H t TellsTyped
each-typed H t = record {
  load = λ plans is. tt;
  issue = λ b p codes plan e is. tt;
  sell = λ c i e is. is;
  redeem = λ d c i e is. tt;
  report = λ n bytes s e is. tt;
  refund = λ c i e is. is;
  close = λ n s e is. tt;
}

answer_typed : (H : History) (command : Command) (t : ℕ) → IsTyped command → (answer : Answer)
    → option_map answer_of (changes_of H command t) ≡ Some answer → IsAnswerTyped answer
answer_typed H command t is answer e = by_map IsAnswerTyped answer_of (changes_of H command t) answer e
    (λ changes f. by_command H t TellsTyped (each-typed H t) command changes f is)

-- the request that a command keeps
kept_typed : (L : Ledger) (a : Accepted) → IsTyped a.command → IsKeyFree L a.mark
    → All IsKeptTyped (option_to_list (request_kept (history_of L) a))
kept_typed L a is free =
    go a.mark free (answer_in (history_of L) a) (answer_typed (history_of L) a.command a.at is)
  where
    go : (mark : Option Fingerprint) → IsKeyFree L mark → (answer : Option Answer)
        → ((x : Answer) → answer ≡ Some x → IsAnswerTyped x)
        → All IsKeptTyped (option_to_list
        (option_and_then {U = KeptRequest} (λ m. option_map (kept_with m) answer) mark))
    go None f answer typed = All-nil IsKeptTyped
    go (Some own) f None typed = All-nil IsKeptTyped
    go (Some own) f (Some x) typed = All-cons IsKeptTyped (kept_with own x) []
        (record { mark = f.0; answer = typed x refl }) (All-nil IsKeptTyped)

pub the_sound_keeps_typed : KeptRequestsAreTyped
the_sound_keeps_typed [] s = All-nil IsKeptTyped
the_sound_keeps_typed (a ∷ L) s =
    All-append IsKeptTyped (requests_of L) (option_to_list (request_kept (history_of L) a))
    (the_sound_keeps_typed L s.1) (kept_typed L a s.0.follows.typed s.0.free)
