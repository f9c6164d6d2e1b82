-- The contracts of the functions that call a desk. Each of them keeps the settings of the desk. If the disk
-- is fault-free after the call, it was so before. A desk that had stopped before the call has stopped after
-- it.
use Rattle.std.specs.Prelude.{◌≡◌, ◌<◌, List, ◌++◌, length, ℕ, Result, IfErr, MatchResult, Vec, ⊤}
use Rattle.std.specs.declared.alloc.Global.{Global}
use Rattle.portal_model.specs.declared.refusal.Refusal.{Refusal}
use Rattle.portal_model.specs.declared.refusal.Refusal.TheVariants.{NoMemory}
use Rattle.portal_model.specs.Change.{answer_of}
use Rattle.portal_ledger.specs.Ledger.{Accepted, Ledger}
use Rattle.portal_ledger.specs.States.{State, running}
use Rattle.portal_ledger.specs.Calls.{Fits}
use Rattle.portal_ledger.specs.declared.marked.MarkedChanges.{MarkedChanges}
use Rattle.portal_files.specs.SettingsFile.{SettingsValue}
use Rattle.portal_desk.specs.declared.Desk.{Ghosts}
use Rattle.portal_desk.specs.Calls.{StaysStopped}
use Rattle.portal_http_request.specs.declared.operation.Operation.{Operation}
use Rattle.portal_http.specs.declared.exchanges.Done.{Done}
use Rattle.portal_http.specs.declared.exchanges.Cut.{Cut}
use Rattle.portal_http.specs.declared.reply.Response.{Response}
use Rattle.portal_http.specs.Arrived.{Arrived}
use Rattle.portal_http.specs.Runs.{ServesInOrder, bytes_of_responses}
use Rattle.portal_http.specs.Serving.{Finishes, HoldsOfResponse, ServesOperation}
use Rattle.portal_http.specs.Headline.{Survives}
use Rattle.portal_http.specs.Exchanges.{Wire, EndsExchange}

-- As long as the disk is fault-free, the call leads from each state that the desk represents to one that it
-- represents then, as Does says.
pub record MovesState {D : Type 0} (g : Ghosts D) (Does : State → State → Type 0) (old new : D) : Type 0 where
  pub same_settings : g.settings new ≡ g.settings old
  pub fault_free : g.is_fault_free new → g.is_fault_free old
  pub stays : StaysStopped (g.has_stopped old) (g.has_stopped new)
  pub step : g.is_fault_free new → (before : State) → g.represents old before
      → (after : State) × g.represents new after × Does before after

-- the operation is executed, or there was no memory for it, with the response that is sent for the result
abbrev pub ServesAt : {D : Type 0} → Ghosts D → Operation → ℕ → Result Response Refusal → D → D → Type 0
ServesAt g asked moment result old new = MovesState g (λ before after. HoldsOfResponse result moment
    (λ bytes. ServesOperation (g.settings old) asked before moment bytes after)) old new

-- A command that was prepared is committed and answered, or it is not.
pub record FinishesAt {D : Type 0} (g : Ghosts D) (prepared : MarkedChanges) (moment : ℕ)
    (result : Result Response Refusal) (old new : D) : Type 0 where
  pub same_settings : g.settings new ≡ g.settings old
  pub fault_free : g.is_fault_free new → g.is_fault_free old
  pub stays : StaysStopped (g.has_stopped old) (g.has_stopped new)
  pub finishes : g.is_fault_free new → (L : Ledger) → g.represents old (running L) → (a : Accepted)
      → Fits (running L) prepared a
      → (after : State) × g.represents new after
      × HoldsOfResponse result moment (λ bytes. Finishes L a (answer_of prepared.changes) moment bytes after)

-- The first requests were served, and their responses were added: all of them, or fewer and an error.
abbrev pub AddsResponses : SettingsValue → State → List Arrived → List (Vec ℕ Global) → List (Vec ℕ Global)
    → Result (Unit {0}) Refusal → State → Type 0
AddsResponses settings before arrivals out out_after result after =
    (responses : List (Vec ℕ Global)) × (out_after ≡ out ++ responses)
    × ServesInOrder settings before arrivals (bytes_of_responses responses) after
    × MatchResult result (λ _. length responses ≡ length arrivals) (λ _. length responses < length arrivals)

-- A run of the requests, which adds one response for each request that it serves.
pub record RunsOn {D : Type 0} (g : Ghosts D) (arrivals : List Arrived) (old new : D)
    (out out_after : List (Vec ℕ Global))
    (result : Result (Unit {0}) Refusal) : Type 0 where
  pub same_settings : g.settings new ≡ g.settings old
  pub err : IfErr result (λ r. r ≡ NoMemory)
  pub fault_free : g.is_fault_free new → g.is_fault_free old
  pub stays : StaysStopped (g.has_stopped old) (g.has_stopped new)
  pub serves : g.is_fault_free new → (before : State) → g.represents old before
      → (after : State) × (responses : List (Vec ℕ Global)) × g.represents new after
      × (out_after ≡ out ++ responses)
      × ServesInOrder (g.settings old) before arrivals (bytes_of_responses responses) after
      × MatchResult result (λ _. length responses ≡ length arrivals) (λ _. length responses < length arrivals)
  pub survives : g.is_fault_free new → (L : Ledger) → g.represents old (running L)
      → (responses : List (Vec ℕ Global)) × (out_after ≡ out ++ responses)
      × Survives g.Files (g.is_crash_state new) g.holds_ledger (g.settings old) L arrivals
      (bytes_of_responses responses)

-- One exchange over a connection.
pub record ExchangesOn {D : Type 0} (g : Ghosts D) (connection : Wire) (moment : ℕ) (seed : List ℕ)
    (old new : D) (result : Result Done Cut)
    : Type 0 where
  pub same_settings : g.settings new ≡ g.settings old
  pub fault_free : g.is_fault_free new → g.is_fault_free old
  pub stays : StaysStopped (g.has_stopped old) (g.has_stopped new)
  pub wire : EndsExchange connection moment seed (λ arrivals responses. ⊤) result
  pub serves : g.is_fault_free new → (before : State) → g.represents old before
      → (after : State) × g.represents new after
      × EndsExchange connection moment seed
      (λ arrivals responses. ServesInOrder (g.settings old) before arrivals responses after) result
  pub survives : g.is_fault_free new → (L : Ledger) → g.represents old (running L)
      → EndsExchange connection moment seed
      (λ arrivals responses.
      Survives g.Files (g.is_crash_state new) g.holds_ledger (g.settings old) L arrivals responses) result
