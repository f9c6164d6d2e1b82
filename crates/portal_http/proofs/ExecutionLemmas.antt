-- What sessions keep, and what a repeated request gets.
use Rattle.portal_http.proofs.ExecutionCommon.{◌≡◌, inl, inr, ◌∙◌, ℕ, List, [], ◌∷◌, Bool, true, cond, Option}
use Rattle.portal_http.proofs.ExecutionCommon.{Some, None, sym, ap, subst, Result, Ok, Err, Refusal, Accepted}
use Rattle.portal_http.proofs.ExecutionCommon.{Ledger, history_of, held_in, kept_with, repeat_in, repeat_of}
use Rattle.portal_http.proofs.ExecutionCommon.{accepted_at, State, running, stopped, SettingsValue, Arrived}
use Rattle.portal_http.proofs.ExecutionCommon.{without_desk, with_desk, IsKeptByExecution}
use Rattle.portal_model.specs.declared.command.Command.{Command}
use Rattle.portal_model.specs.declared.change.Answer.{Answer}
use Rattle.portal_model.specs.declared.refusal.Refusal.TheVariants.{IdReused}
use Rattle.portal_model.specs.Change.{answer_of}
use Rattle.portal_model_laws.proofs.Basics.{bytes_refl, true-and}
use Rattle.portal_model_laws.proofs.Granted.{grants_bounded}
use Rattle.portal_ledger.specs.Fingerprint.{Fingerprint, same_request}
use Rattle.portal_ledger.specs.Ledger.{IsKeyFree}
use Rattle.portal_ledger.specs.declared.request.KeptRequest.{KeptRequest}
use Rattle.portal_ledger.proofs.Ledgers.{accepted_changes, held_now, the_key_is_held_once, the_sound_is_legal}
use Rattle.portal_http_request.specs.declared.operation.Operation.{Operation}
use Rattle.portal_http_request.specs.declared.operation.Operation.TheVariants.{Act}
use Rattle.portal_http_request.specs.declared.rejection.Rejection.{Rejection}
use Rattle.portal_http_request.specs.Checks.{IsChecked}
use Rattle.portal_http_request.proofs.CheckedOnce.{checked_once}
use Rattle.portal_http.specs.Replies.{IsCommand}
use Rattle.portal_http.specs.Runs.{CarriesOut, Step, Stops}
use Rattle.portal_http.specs.Executions.{SessionsAreKept, SessionsFollow, HoldsAnswered, IsAnsweredAgain}
use Rattle.portal_http.specs.Executions.{RetryIsSafe}
use Rattle.portal_http.proofs.AnsweredLemmas.{kept_stays, leads_stay, life_told}

pub sessions_kept : SessionsAreKept
sessions_kept L found sessions kept sound =
    let legal = the_sound_is_legal found sound in
    record {
      legal = legal;
      grants = grants_bounded (history_of found) legal;
      once = the_key_is_held_once found sound;
      as_held = life_told L found sessions kept;
    }

pub sessions_follow : SessionsFollow
sessions_follow L mid found [] later kept more =
    subst (λ (x : Ledger). IsKeptByExecution x later found) kept more
sessions_follow L mid found (without_desk ∷ sessions) later kept more =
    sessions_follow L mid found sessions later kept more
sessions_follow L mid found (with_desk settings xs rs ∷ sessions) later (last, next, leads, is, rest) more =
    (last, next, leads, is, sessions_follow next mid found sessions later rest more)

-- ---- a retry

same_as_itself : (mark : Fingerprint) → same_request mark mark ≡ true
same_as_itself mark =
    true-and _ _ (bytes_refl mark.method) (true-and _ _ (bytes_refl mark.path) (bytes_refl mark.body))

repeats : (L : Ledger) (mark : Fingerprint) (answer : Answer) → HoldsAnswered L mark answer
    → repeat_in L (Some mark) ≡ Ok (Some answer)
repeats L mark answer held =
    ap (λ (k : Option KeptRequest). repeat_of k mark) held
    ∙ ap (λ (b : Bool). cond b (Ok (Some answer)) (Err IdReused)) (same_as_itself mark)

key_is_free : (L : Ledger) (a : Accepted) (mark : Fingerprint) → IsKeyFree L a.mark
    → a.mark ≡ Some mark → held_in L mark ≡ None
key_is_free L a mark free marked = let unused : IsKeyFree L (Some mark) = subst (IsKeyFree L) marked free in
    unused.1

stops_unmarked : (L : Ledger) (moment : ℕ) (command : Command) (mark : Fingerprint) (answer : Answer)
    (new : State) → repeat_in L (Some mark) ≡ Ok (Some answer)
    → Stops (Ok (Act command (Some mark))) L moment new → new ≡ stopped L None
stops_unmarked L moment command mark answer new again (inl is) = is
stops_unmarked L moment command mark answer new again (inr doubted) =
    absurd (let e = sym again ∙ doubted.0 in cc)

module _ (settings : SettingsValue) (L : Ledger) (mark : Fingerprint) (answer : Answer)
    (again : repeat_in L (Some mark) ≡ Ok (Some answer)) (a : Arrived) (command : Command) where
  carried : (response : List ℕ) (new : State)
      → CarriesOut settings (Ok (Act command (Some mark))) (running L) a.moment response new
      → IsAnsweredAgain answer L a.moment response new
  carried response new (inl (after, reply, is)) =
      let told = subst (λ (o : Result (Option Answer) Refusal).
      IsCommand o L (accepted_at L a.moment command (Some mark)) a.moment response after) again reply in
      inl (inl told.0, is ∙ ap running told.1)
  carried response new (inr (over, stops)) =
      inr (over, stops_unmarked L a.moment command mark answer new again stops)

  stepped : (response : List ℕ) (new : State)
      → IsChecked settings a.seed a.bytes (Ok (Act command (Some mark)))
      → Step settings (running L) a response new → IsAnsweredAgain answer L a.moment response new
  stepped response new checked (inl memory) = inl (inr memory.0, memory.1)
  stepped response new checked (inr (operation, checks, other, out)) =
      let same =
      checked_once settings a.seed a.bytes operation (Ok (Act command (Some mark))) checks checked in
      carried response new (subst
      (λ (w : Result Operation Rejection). CarriesOut settings w (running L) a.moment response new) same out)

pub retry_is_safe : RetryIsSafe
retry_is_safe = record {
  accepted = λ L a mark sound marked.
      let follows = sound.0 in
      let (changes, made) = accepted_changes (history_of L) a.command a.at follows.follows.accepted in
      (answer_of changes, held_now L a mark changes (key_is_free L a mark follows.free marked) marked made);
  answered = λ L next now mark answer sessions held kept settings before responses leads a command
      checked response new step.
      stepped settings now mark answer
      (repeats now mark answer (leads_stay settings next now before responses leads mark
      (kept_with mark answer) (kept_stays L next sessions kept mark (kept_with mark answer) held)))
      a command response new checked step;
}
