-- Laws of ledgers.
use Rattle.std.specs.Prelude.{◌≡◌, ℕ, ◌+◌, ◌≤◌, true, cond, [], ◌∷◌, ◌++◌, Some, All}
use Rattle.std.specs.List.{IsDistinct}
use Rattle.portal_model.specs.declared.change.Changes.{Changes}
use Rattle.portal_model.specs.Change.{changes_of}
use Rattle.portal_model.specs.Verdict.{IsLegal}
use Rattle.portal_ledger.specs.declared.request.KeptRequest.{KeptRequest}
use Rattle.portal_ledger.specs.declared.caller.Caller.{Caller}
use Rattle.portal_ledger.specs.Fingerprint.{Fingerprint, IsCaller, same_key}
use Rattle.portal_ledger.specs.RequestRow.{IsKeptTyped, text_of_caller, row_of_request}
use Rattle.portal_ledger.specs.Ledger.{Accepted, Ledger, history_of, answer_in, requests_of, is_under}
use Rattle.portal_ledger.specs.Ledger.{held_in, request_among, MayFollow, IsSound, all_rows_of}
use Rattle.portal_ledger.specs.Ledger.{all_rows_after_changes}

-- the histories of sound ledgers are legal
abbrev pub SoundIsLegal : Type 0
SoundIsLegal = (L : Ledger) → IsSound L → IsLegal (history_of L)

-- the rows of all nine tables after an accepted command are those before it with its changes
abbrev pub ChangesGiveAllRows : Type 0
ChangesGiveAllRows = (L : Ledger) → IsSound L → (a : Accepted) → MayFollow L a → (changes : Changes)
    → changes_of (history_of L) a.command a.at ≡ Some changes
    → all_rows_of (a ∷ L)
    ≡ all_rows_after_changes (record { changes = changes; mark = a.mark }) (all_rows_of L)

-- the kept request with a key is its row
abbrev pub HeldRequestIsRow : Type 0
HeldRequestIsRow = (L : Ledger) (mark : Fingerprint) → held_in L mark ≡ request_among (requests_of L) mark

-- the number of commands accepted with the key
abbrev pub times_under : Ledger → Fingerprint → ℕ
times_under [] mark = 0
times_under (a ∷ L) mark = cond (is_under mark a.mark) (times_under L mark + 1) (times_under L mark)

-- at most one command was accepted with each key
abbrev pub KeyIsHeldOnce : Type 0
KeyIsHeldOnce = (L : Ledger) → IsSound L → (mark : Fingerprint) → times_under L mark ≤ 1

-- no two kept requests have the same key
abbrev pub RequestKeysAreUnique : Type 0
RequestKeysAreUnique = (L : Ledger) → IsSound L → IsDistinct (λ k j. same_key k.mark j.mark) (requests_of L)

-- the kept request with a key is that of one command of the ledger, and its answer is the answer to that
-- command
pub record IsKeptFor (L : Ledger) (mark : Fingerprint) (k : KeptRequest) : Type 0 where
  pub later : Ledger
  pub by : Accepted
  pub earlier : Ledger
  pub splits : L ≡ later ++ by ∷ earlier
  pub under : by.mark ≡ Some k.mark
  pub key : same_key k.mark mark ≡ true
  pub answer : answer_in (history_of earlier) by ≡ Some k.answer

abbrev pub KeptAnswerIsGiven : Type 0
KeptAnswerIsGiven =
    (L : Ledger) (mark : Fingerprint) (k : KeptRequest) → held_in L mark ≡ Some k → IsKeptFor L mark k

-- a kept request stays kept
abbrev pub HeldRequestStays : Type 0
HeldRequestStays = (L : Ledger) (a : Accepted) (mark : Fingerprint) (k : KeptRequest)
    → held_in L mark ≡ Some k → held_in (a ∷ L) mark ≡ Some k

-- callers with the same text are equal
abbrev pub CallerIsKnownByText : Type 0
CallerIsKnownByText = (a b : Caller) → IsCaller a → IsCaller b → text_of_caller a ≡ text_of_caller b → a ≡ b

-- the kept requests of a sound ledger are typed
abbrev pub KeptRequestsAreTyped : Type 0
KeptRequestsAreTyped = (L : Ledger) → IsSound L → All IsKeptTyped (requests_of L)

-- kept requests with the same row are equal
abbrev pub RequestIsKnownByRow : Type 0
RequestIsKnownByRow =
    (k j : KeptRequest) → IsKeptTyped k → IsKeptTyped j → row_of_request k ≡ row_of_request j → k ≡ j
