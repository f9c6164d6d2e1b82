-- What serving leaves of a desk: nothing, one request more, or one run after another.
use Rattle.portal_server.proofs.Common.{◌≡◌, inl, inr, Option, ℕ, ◌+◌, ◌≤◌, List, [], ◌∷◌, ◌++◌, length, take}
use Rattle.portal_server.proofs.Common.{refl, ap, subst, arith, SettingsValue, State, running, MayBeFound}
use Rattle.portal_server.proofs.Common.{ProgramError, Arrived, Run, ServesInOrder, ServesAtMost, ComeWith}
use Rattle.portal_server.proofs.Common.{EndsLoop}
use Rattle.std.specs.Prelude.{Result, Ok, Err, IsErrAnd}
use Rattle.std.proofs.lemmas.List.{length-append}
use Rattle.portal_ledger.specs.Ledger.{Ledger, IsSound}
use Rattle.portal_server.specs.Errors.{exit_code_of}
use Rattle.portal_http.specs.Headline.{Survives}
use Rattle.portal_http.proofs.HeadlineLemmas.{survives}
use Rattle.portal_http.specs.Exchanges.{Wire, CutsOff, EndsExchange}
use Rattle.portal_http.specs.declared.exchanges.Done.{Done}
use Rattle.portal_http.specs.declared.exchanges.Cut.{Cut}
use Rattle.portal_http.specs.declared.exchanges.Cause.{Cause}
use Rattle.portal_http.specs.declared.exchanges.Cause.TheVariants.{Read, NoRoom, Write}
use Rattle.portal_server.specs.Command.{IsLineLost, EndsAt, exit_code_at}

-- a result that is an error, by what the error is
pub is_err : {A E : Type 0} (result : Result A E) (e : E) → IsErrAnd result (λ it. it ≡ e) → result ≡ Err e
is_err (Ok a) e is = absurd is
is_err (Err it) e is = ap (λ (x : _). Err x) is

-- ---- one exchange

module _ (settings : SettingsValue) (old new : State) (wire : Wire) (moment : ℕ) (seed : List ℕ) where
  abbrev OneRun : List Arrived → List (List ℕ) → Type 0
  OneRun xs rs = ServesInOrder settings old xs rs new

  abbrev RunWith : List Arrived → List (List ℕ) → Type 0
  RunWith xs rs = ComeWith moment seed xs × Run settings old xs rs new

  cut_serves : (cause : Cause) (written whole : ℕ) → CutsOff wire moment seed OneRun cause written whole
      → ServesAtMost 1 RunWith
  cut_serves Read written whole (none, empty, broken, kept, run) = ([], [], omega arith, (tt, run))
  cut_serves NoRoom written whole (none, empty, full, kept, run) = ([], [], omega arith, (tt, run))
  cut_serves Write written whole (response, size, less, (received, reads, run, out)) = (
    record { moment = moment; seed = seed; bytes = received.bytes } ∷ [],
    response ∷ [],
    omega arith,
    ((refl, refl, tt), run),
  )

  pub exchange_serves : (result : Result Done Cut) → EndsExchange wire moment seed OneRun result
      → ServesAtMost 1 RunWith
  exchange_serves (Ok done) (response, status, size, (received, reads, run, out)) = (
    record { moment = moment; seed = seed; bytes = received.bytes } ∷ [],
    response ∷ [],
    omega arith,
    ((refl, refl, tt), run),
  )
  exchange_serves (Err cut) off = cut_serves cut.cause cut.written cut.whole off

-- ---- one run after another

pub Run-append : (settings : SettingsValue) (old mid new : State)
    (xs ys : List Arrived) (rs qs : List (List ℕ))
    → Run settings old xs rs mid → Run settings mid ys qs new → Run settings old (xs ++ ys) (rs ++ qs) new
Run-append settings old mid new [] ys [] qs h more = subst (λ (s : State). Run settings s ys qs new) h more
Run-append settings old mid new [] ys (r ∷ rs) qs h more = absurd h
Run-append settings old mid new (x ∷ xs) ys [] qs h more = absurd h
Run-append settings old mid new (x ∷ xs) ys (r ∷ rs) qs h more =
    (h.0, h.1, Run-append settings h.0 mid new xs ys rs qs h.2 more)

pub serves_none : (settings : SettingsValue) (count : ℕ) (s : State)
    → ServesAtMost count (λ xs rs. Run settings s xs rs s)
serves_none settings count s = ([], [], omega arith, refl)

pub serves_more : (settings : SettingsValue) (count : ℕ) (old mid new : State)
    → ServesAtMost count (λ xs rs. Run settings old xs rs mid)
    → ServesAtMost 1 (λ xs rs. Run settings mid xs rs new)
    → ServesAtMost (count + 1) (λ xs rs. Run settings old xs rs new)
serves_more settings count old mid new (xs, rs, few, run) (ys, qs, one, more) = (
  xs ++ ys,
  rs ++ qs,
  omega (arith, length-append xs ys),
  Run-append settings old mid new xs ys rs qs run more,
)

pub serves_fewer : (IsRun : List Arrived → List (List ℕ) → Type 0) (few count : ℕ) → few ≤ count
    → ServesAtMost few IsRun → ServesAtMost count IsRun
serves_fewer IsRun few count less (xs, rs, bound, run) = (xs, rs, omega arith, run)

-- ---- what is found after a crash

-- each request of a run is answered
all_answered : (settings : SettingsValue) (old new : State) (xs : List Arrived) (rs : List (List ℕ))
    → Run settings old xs rs new → take (length rs) xs ≡ xs
all_answered settings old new [] [] run = refl
all_answered settings old new [] (r ∷ rs) run = absurd run
all_answered settings old new (x ∷ xs) [] run = absurd run
all_answered settings old new (x ∷ xs) (r ∷ rs) run =
    ap (λ (ys : List Arrived). x ∷ ys) (all_answered settings run.0 new xs rs run.2)

pub run_served : (settings : SettingsValue) (old new : State) (xs : List Arrived) (rs : List (List ℕ))
    → Run settings old xs rs new → ServesInOrder settings old xs rs new
run_served settings old new xs rs run = rw (all_answered settings old new xs rs run) run

-- each crash state holds the ledger that the requests and their responses lead to
module _ (Files : Type 0) (is_crash_state : Files → Type 0) (holds_ledger : Files → Ledger → Type 0)
    (settings : SettingsValue) (L : Ledger) (new : State) where
  pub serves_survives : (count : ℕ) → ServesAtMost count (λ xs rs. Run settings (running L) xs rs new)
      → ((files : Files) → is_crash_state files
      → (found : Ledger) × MayBeFound new found × holds_ledger files found)
      → ((files : Files) (found : Ledger) → holds_ledger files found → IsSound found)
      → ServesAtMost count (λ xs rs. Survives Files is_crash_state holds_ledger settings L xs rs)
  serves_survives count (xs, rs, few, run) left sound = (
    xs,
    rs,
    few,
    survives settings Files is_crash_state holds_ledger L xs rs new
        (run_served settings (running L) new xs rs run) left sound,
  )

-- ---- the status

pub untold_status : (error : ProgramError) (old new : Option (List ℕ)) (line : List ℕ)
    → IsLineLost error old new line → exit_code_of error ≡ 3
untold_status error old new line (inl h) = ap exit_code_of h.0
untold_status error old new line (inr h) = ap exit_code_of h.0

pub ends_at : (new : State) (result : Result (Unit {0}) ProgramError) → EndsLoop new result
    → EndsAt new (exit_code_at result)
ends_at new (Ok done) works = inl (refl, works)
ends_at new (Err error) (inl stopped) = inr (ap exit_code_of stopped.0)
ends_at new (Err error) (inr (inl file)) = inr (ap exit_code_of file)
ends_at new (Err error) (inr (inr memory)) = inr (ap exit_code_of memory)
