-- What was answered to idempotent requests is what the ledger holds at the end.
use Rattle.portal_http.proofs.ExecutionCommon.{◌≡◌, ◌⊎◌, inl, inr, ℕ, List, [], ◌∷◌, ◌++◌, length, take, Bool}
use Rattle.portal_http.proofs.ExecutionCommon.{true, false, cond, Option, Some, None, refl, sym, ap, subst}
use Rattle.portal_http.proofs.ExecutionCommon.{◌∙◌, Result, Ok, Err, Refusal, Accepted, Ledger, history_of}
use Rattle.portal_http.proofs.ExecutionCommon.{held_in, kept_with, repeat_of, repeat_in, accepted_at}
use Rattle.portal_http.proofs.ExecutionCommon.{newly_accepted, SettingsValue, Arrived, is_ok, with_command}
use Rattle.portal_http.proofs.ExecutionCommon.{Acknowledges, Replies, Leads, IsInDoubt, ServerSession}
use Rattle.portal_http.proofs.ExecutionCommon.{without_desk, with_desk, IsKeptByExecution}
use Rattle.std.specs.Bool.{MatchBool}
use Rattle.portal_model.specs.declared.command.Command.{Command}
use Rattle.portal_model.specs.declared.change.Answer.{Answer}
use Rattle.portal_model.specs.declared.refusal.Refusal.TheVariants.{IdReused, NoMemory, Stopped}
use Rattle.portal_model.specs.Change.{answer_of}
use Rattle.portal_model.specs.Verdict.{verdict}
use Rattle.portal_ledger.specs.declared.request.KeptRequest.{KeptRequest}
use Rattle.portal_ledger.specs.Fingerprint.{Fingerprint, same_request}
use Rattle.portal_ledger.proofs.Ledgers.{held_now, the_held_stays}
use Rattle.portal_ledger.proofs.Repetitions.{answered_held}
use Rattle.portal_http_request.specs.declared.operation.Operation.{Operation}
use Rattle.portal_http_request.specs.declared.operation.Operation.TheVariants.{State as Asks, Sheet, Voucher}
use Rattle.portal_http_request.specs.declared.operation.Operation.TheVariants.{Takings, OpenSessions, Act}
use Rattle.portal_http_request.specs.declared.operation.Operation.TheVariants.{OpenDetails, Session}
use Rattle.portal_http_request.specs.declared.operation.Operation.TheVariants.{LastSession, OwnSession}
use Rattle.portal_http_request.specs.declared.operation.Operation.TheVariants.{Batches, Batch, Vouchers}
use Rattle.portal_http_request.specs.declared.operation.Operation.TheVariants.{Redemptions}
use Rattle.portal_http_request.specs.declared.rejection.Rejection.{Rejection}
use Rattle.portal_http_request.specs.Checks.{IsChecked}
use Rattle.portal_http_request.proofs.CheckedOnce.{checked_once}
use Rattle.portal_http.specs.Replies.{IsRefusal, IsAnswer, IsVerdict, IsCommand, IsReply}
use Rattle.portal_http.proofs.Lines.{refused_off}
use Rattle.portal_http.specs.Executions.{AreAsHeld, AllAsHeld}

-- what is held in the one is held in the other
abbrev pub Stays : Ledger → Ledger → Type 0
Stays L M = (mark : Fingerprint) (k : KeptRequest) → held_in L mark ≡ Some k → held_in M mark ≡ Some k

stays_with : (L : Ledger) (a : Accepted) → Stays L (a ∷ L)
stays_with L a mark k held = the_held_stays L a mark k held

stays_same : (L M : Ledger) → M ≡ L → Stays L M
stays_same L M same mark k held = ap (λ (x : Ledger). held_in x mark) same ∙ held

new_stays : (L : Ledger) (o : Result (Option Answer) Refusal) (a : Accepted)
    → Stays L (newly_accepted o a ++ L)
new_stays L (Ok None) a = stays_with L a
new_stays L (Ok (Some answer)) a = λ mark k held. held
new_stays L (Err r) a = λ mark k held. held

command_stays : (L : Ledger) (wanted : Result Operation Rejection) (moment : ℕ)
    → Stays L (with_command L wanted moment)
command_stays L (Ok (Act command mark)) moment =
    new_stays L (repeat_in L mark) (accepted_at L moment command mark)
command_stays L (Ok (Asks device)) moment = λ mark k held. held
command_stays L (Ok (Sheet id)) moment = λ mark k held. held
command_stays L (Ok (Voucher code)) moment = λ mark k held. held
command_stays L (Ok (Takings range)) moment = λ mark k held. held
command_stays L (Ok OpenSessions) moment = λ mark k held. held
command_stays L (Ok OpenDetails) moment = λ mark k held. held
command_stays L (Ok (Session number)) moment = λ mark k held. held
command_stays L (Ok (LastSession device)) moment = λ mark k held. held
command_stays L (Ok (OwnSession device)) moment = λ mark k held. held
command_stays L (Ok (Batches before limit)) moment = λ mark k held. held
command_stays L (Ok (Batch id)) moment = λ mark k held. held
command_stays L (Ok (Vouchers start)) moment = λ mark k held. held
command_stays L (Ok (Redemptions code)) moment = λ mark k held. held
command_stays L (Err denied) moment = λ mark k held. held

-- nothing is held if nothing is answered
not_some : {A : Type 0} (x : A) → ◌≡◌ {A = Option A} (Some x) None → ⊥
not_some x e = cc

free_held : (L : Ledger) (own : Fingerprint) → repeat_in L (Some own) ≡ Ok None → held_in L own ≡ None
free_held L own e = go (held_in L own) refl e
  where
    go : (o : Option KeptRequest) → held_in L own ≡ o → repeat_of o own ≡ Ok None → held_in L own ≡ None
    go None is h = is
    go (Some k) is h = by (same_request k.mark own) h
      where
        by : (b : Bool) → ◌≡◌ {A = Result (Option Answer) Refusal}
            (cond b (Ok (Some k.answer)) (Err IdReused)) (Ok None) → held_in L own ≡ None
        by true h = absurd (cc)
        by false h = absurd (cc)

module _ (settings : SettingsValue) where
  acknowledged_stays : (L after : Ledger) (a : Arrived) (r : List ℕ)
      → Acknowledges settings L a r after → Stays L after
  acknowledged_stays L after a r acknowledged = go (is_ok r) acknowledged
    where
      go : (b : Bool) → MatchBool b ((wanted : Result Operation Rejection) × IsChecked settings a.seed a.bytes
          wanted × (after ≡ with_command L wanted a.moment)) (after ≡ L) → Stays L after
      go true (wanted, checked, same) = λ mark k held.
          ap (λ (x : Ledger). held_in x mark) same ∙ command_stays L wanted a.moment mark k held
      go false same = stays_same L after same

  pub leads_stay : (L last : Ledger) (xs : List Arrived) (rs : List (List ℕ))
      → Leads settings L xs rs last → Stays L last
  leads_stay L last [] [] leads = stays_same L last leads
  leads_stay L last [] (r ∷ rs) leads = absurd leads
  leads_stay L last (a ∷ xs) [] leads = absurd leads
  leads_stay L last (a ∷ xs) (r ∷ rs) leads = λ mark k held.
      leads_stay leads.0 last xs rs leads.3 mark k (acknowledged_stays L leads.0 a r leads.1 mark k held)

  -- ---- one response

  module _ (L after F : Ledger) (a : Arrived) (r : List ℕ) (ok : is_ok r ≡ true) (own : Fingerprint)
      (stays : Stays after F) where
    abbrev Told : Type 0
    Told = (kept : KeptRequest) × (held_in F own ≡ Some kept) × IsAnswer kept.answer a.moment r

    no_refusal : (x : Refusal) → IsRefusal x a.moment r → Told
    no_refusal x told = let off = refused_off x None a.moment r told in absurd (let e = sym ok ∙ off in cc)

    by_verdict : (command : Command) → repeat_in L (Some own) ≡ Ok None → (v : Option Refusal)
        → IsVerdict v L (accepted_at L a.moment command (Some own)) a.moment r after → Told
    by_verdict command none (Some x) said = no_refusal x said.0
    by_verdict command none None (changes, made, told, same) =
        let new = accepted_at L a.moment command (Some own) in
        let held = held_now L new own changes (free_held L own none) refl made in (
          kept_with own (answer_of changes),
          stays own (kept_with own (answer_of changes)) (ap (λ (x : Ledger). held_in x own) same ∙ held),
          told,
        )

    by_command : (command : Command) (o : Result (Option Answer) Refusal) → repeat_in L (Some own) ≡ o
        → IsCommand o L (accepted_at L a.moment command (Some own)) a.moment r after → Told
    by_command command (Err x) is said = no_refusal x said.0
    by_command command (Ok (Some answer)) is said =
        let (k, held, same) = answered_held L own answer is in (
          k,
          stays own k (ap (λ (x : Ledger). held_in x own) said.1 ∙ held),
          subst (λ (x : Answer). IsAnswer x a.moment r) (sym same) said.0,
        )
    by_command command (Ok None) is said = by_verdict command is
        (verdict (history_of L) command (accepted_at L a.moment command (Some own)).at) said

    pub told_here : (command : Command) → IsChecked settings a.seed a.bytes (Ok (Act command (Some own)))
        → Replies settings L a r after → Told
    told_here command checked (inl (wanted, checks, reply)) =
        let same = checked_once settings a.seed a.bytes wanted (Ok (Act command (Some own))) checks checked in
        by_command command (repeat_in L (Some own)) refl
        (subst (λ (w : Result Operation Rejection). IsReply settings w L a.moment r after) same reply)
    told_here command checked (inr (inl memory)) = no_refusal NoMemory memory
    told_here command checked (inr (inr over)) = no_refusal Stopped over

  -- ---- a run, and an execution

  run_told : (L last F : Ledger) (xs : List Arrived) (rs : List (List ℕ)) → Leads settings L xs rs last
      → Stays last F → AreAsHeld settings F xs rs
  run_told L last F [] [] leads stays = tt
  run_told L last F [] (r ∷ rs) leads stays = absurd leads
  run_told L last F (a ∷ xs) [] leads stays = absurd leads
  run_told L last F (a ∷ xs) (r ∷ rs) leads stays = (
    λ ok command mark checked.
        told_here L leads.0 F a r ok mark
        (λ m k held. stays m k (leads_stay leads.0 last xs rs leads.3 m k held)) command checked leads.2,
    run_told leads.0 last F xs rs leads.3 stays,
  )

  -- of the requests that were answered, which are the first
  all_told : (F : Ledger) (xs : List Arrived) (rs : List (List ℕ))
      → AreAsHeld settings F (take (length rs) xs) rs → AreAsHeld settings F xs rs
  all_told F xs [] told = tt
  all_told F [] (r ∷ rs) told = tt
  all_told F (a ∷ xs) (r ∷ rs) told = (told.0, all_told F xs rs told.1)

doubt_stays : (last next : Ledger) (InDoubt : Accepted → Type 0)
    → ((next ≡ last) ⊎ ((own : Accepted) × InDoubt own × (next ≡ own ∷ last))) → Stays last next
doubt_stays last next InDoubt (inl same) = stays_same last next same
doubt_stays last next InDoubt (inr (own, doubted, same)) =
    λ mark k held. ap (λ (x : Ledger). held_in x mark) same ∙ stays_with last own mark k held

pub kept_stays : (L found : Ledger) (server_sessions : List ServerSession)
    → IsKeptByExecution L server_sessions found → Stays L found
kept_stays L found [] kept = stays_same L found kept
kept_stays L found (without_desk ∷ server_sessions) kept = kept_stays L found server_sessions kept
kept_stays L found (with_desk settings xs rs ∷ server_sessions) (last, next, leads, is, rest) = λ mark k held.
    kept_stays next found server_sessions rest mark k
    (doubt_stays last next (IsInDoubt settings L (take (length rs) xs) rs) is mark k
    (leads_stay settings L last (take (length rs) xs) rs leads mark k held))

pub life_told : (L found : Ledger) (server_sessions : List ServerSession)
    → IsKeptByExecution L server_sessions found → AllAsHeld found server_sessions
life_told L found [] kept = tt
life_told L found (without_desk ∷ server_sessions) kept = life_told L found server_sessions kept
life_told L found (with_desk settings xs rs ∷ server_sessions) (last, next, leads, is, rest) = (
  all_told settings found xs rs (run_told settings L last found (take (length rs) xs) rs leads
      (λ m k held. kept_stays next found server_sessions rest m k
      (doubt_stays last next (IsInDoubt settings L (take (length rs) xs) rs) is m k held))),
  life_told next found server_sessions rest,
)
