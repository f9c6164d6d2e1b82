-- What a run leaves, from the steps of its requests.
use Rattle.portal_http.proofs.Common.{◌≡◌, ◌⊎◌, inl, inr, ℕ, List, [], ◌∷◌, ◌++◌, length, take, true, false}
use Rattle.portal_http.proofs.Common.{Option, Some, None, refl, sym, ap, subst, ◌∙◌, ◌≢◌, MatchOption, Result}
use Rattle.portal_http.proofs.Common.{Ok, Err, IfErr, Command, Answer, Refusal, NoMemory, Stopped}
use Rattle.portal_http.proofs.Common.{UnknownBatch, UnknownCode, answer_of, voucher_of, verdict, Fingerprint}
use Rattle.portal_http.proofs.Common.{Accepted, Ledger, history_of, held_in, repeat_in, accepted_at}
use Rattle.portal_http.proofs.Common.{newly_accepted, IsSound, State, running, stopped, MayBeFound}
use Rattle.portal_http.proofs.Common.{SettingsValue, Operation, Sheet, Takings, OpenSessions, Act, Rejection}
use Rattle.portal_http.proofs.Common.{Arrived, IsChecked, IsOfRequest, IsRefusal, IsVerdict, IsCommand}
use Rattle.portal_http.proofs.Common.{IsReply, sheet_of, takings_over, Stops, Step, Run, ServesInOrder, is_ok}
use Rattle.portal_http.proofs.Common.{with_command, Acknowledges, Replies, Leads, IsInDoubt, IsFound}
use Rattle.portal_http.proofs.Common.{Survives}
use Rattle.portal_model.specs.Captive.{captive_of, open_sessions_of}
use Rattle.portal_model.specs.Details.{session_details_of, last_details_of, open_details_of}
use Rattle.portal_model.specs.declared.refusal.Refusal.TheVariants.{UnknownSession}
use Rattle.portal_model_laws.proofs.Granted.{grants_bounded}
use Rattle.portal_ledger.proofs.Ledgers.{the_sound_is_legal}
use Rattle.portal_http_request.specs.declared.operation.Operation.TheVariants.{State as Asks, Voucher}
use Rattle.portal_http_request.specs.declared.operation.Operation.TheVariants.{OpenDetails, Session}
use Rattle.portal_http_request.specs.declared.operation.Operation.TheVariants.{LastSession, OwnSession}
use Rattle.portal_http_request.specs.declared.operation.Operation.TheVariants.{Batches, Batch, Vouchers}
use Rattle.portal_http_request.specs.declared.operation.Operation.TheVariants.{Redemptions}
use Rattle.portal_http_request.specs.Rejection.{error_of, allow_of}
use Rattle.portal_http.specs.Replies.{IsSheet, IsVoucher, IsAnswer, IsDetails, IsOwnDetails}
use Rattle.portal_desk.proofs.Verdicts.{verdict_is_no_stop, repeat_is_no_stop}
use Rattle.portal_http.proofs.Lines.{state_ok, sheet_ok, voucher_ok, takings_ok, sessions_ok, answer_ok}
use Rattle.portal_http.proofs.Lines.{details_ok, own_details_ok, open_details_ok, refused_off, other_apart}
use Rattle.portal_http.proofs.Lines.{ok_apart, batches_ok, batch_ok, vouchers_ok, redemptions_ok}
use Rattle.portal_model.specs.Batches.{before_of, batch_with_vouchers, AreStatesAfter}
use Rattle.portal_model.specs.Redemptions.{last_redemptions_of}
use Rattle.portal_model.specs.declared.batches.BatchState.{BatchState}
use Rattle.portal_http.specs.Replies.{AreBatches, IsBatch, AreRedemptions}
use Rattle.std.specs.Prelude.{Bool}

memory_is_no_stop : NoMemory ≢ Stopped
memory_is_no_stop e = cc

batch_is_no_stop : UnknownBatch ≢ Stopped
batch_is_no_stop e = cc

code_is_no_stop : UnknownCode ≢ Stopped
code_is_no_stop e = cc

session_is_no_stop : UnknownSession ≢ Stopped
session_is_no_stop e = cc

-- what is held under a key refuses with one refusal alone
held_is_no_stop : (L : Ledger) (mark : Option Fingerprint) (r : Refusal)
    → repeat_in L mark ≡ Err r → r ≢ Stopped
held_is_no_stop L None r e = absurd (cc)
held_is_no_stop L (Some mark) r e = repeat_is_no_stop (held_in L mark) mark r e

module _ (settings : SettingsValue) where
  -- a request that was not answered 200 adds nothing
  not_ok : (L : Ledger) (a : Arrived) (r : List ℕ) → is_ok r ≡ false → Acknowledges settings L a r L
  not_ok L a r is = rw is refl

  -- one that was adds its command, where that is a new one
  is_acknowledged : (L : Ledger) (a : Arrived) (r : List ℕ) (operation : Result Operation Rejection)
      (after : Ledger) → is_ok r ≡ true
      → IsChecked settings a.seed a.bytes operation → after ≡ with_command L operation a.moment
      → Acknowledges settings L a r after
  is_acknowledged L a r operation after is checked same = rw is (operation, checked, same)

  -- what a reply comes to: what it acknowledges, and that it does not say `stopped`
  abbrev Comes : Ledger → Arrived → List ℕ → Ledger → Type 0
  Comes L a r after = Acknowledges settings L a r after × (¬ IsRefusal Stopped a.moment r)

  -- a refusal of the ledger
  by_refusal : (L : Ledger) (a : Arrived) (r : List ℕ) (after : Ledger) (x : Refusal) → x ≢ Stopped
      → IsRefusal x a.moment r → after ≡ L → Comes L a r after
  by_refusal L a r after x other told same = (
    subst (Acknowledges settings L a r) (sym same) (not_ok L a r (refused_off x None a.moment r told)),
    other_apart x None a.moment r other told,
  )

  -- a 200 to a command
  by_answer : (L : Ledger) (a : Arrived) (r : List ℕ) (after : Ledger) (command : Command)
      (mark : Option Fingerprint) (answer : Answer)
      → IsChecked settings a.seed a.bytes (Ok (Act command mark)) → IsAnswer answer a.moment r
      → after ≡ newly_accepted (repeat_in L mark) (accepted_at L a.moment command mark) ++ L
      → Comes L a r after
  by_answer L a r after command mark answer checked told same =
      let ok = answer_ok answer a.moment r told in
      (is_acknowledged L a r (Ok (Act command mark)) after ok checked same, ok_apart a.moment r ok)

  -- a 200 to a request that only asks
  by_told : (L : Ledger) (a : Arrived) (r : List ℕ) (after : Ledger) (w : Operation) → is_ok r ≡ true
      → IsChecked settings a.seed a.bytes (Ok w)
      → with_command L (Ok w) a.moment ≡ L → after ≡ L → Comes L a r after
  by_told L a r after w ok checked none same =
      (is_acknowledged L a r (Ok w) after ok checked (same ∙ sym none), ok_apart a.moment r ok)

  -- what it asks for, or the refusal where there is nothing of the kind
  by_found : {A : Type 0} (L : Ledger) (a : Arrived) (r : List ℕ) (after : Ledger) (w : Operation)
      (unknown : Refusal) → unknown ≢ Stopped
      → (Is : A → Type 0) → ((x : A) → Is x → is_ok r ≡ true) → IsChecked settings a.seed a.bytes (Ok w)
      → with_command L (Ok w) a.moment ≡ L
      → (o : Option A) → MatchOption o (IsRefusal unknown a.moment r) Is → after ≡ L → Comes L a r after
  by_found L a r after w unknown other Is ok checked none None told same =
      by_refusal L a r after unknown other told same
  by_found L a r after w unknown other Is ok checked none (Some x) told same =
      by_told L a r after w (ok x told) checked none same

  replied : (L : Ledger) (a : Arrived) (r : List ℕ) (operation : Result Operation Rejection) (after : Ledger)
      → IsChecked settings a.seed a.bytes operation → IfErr operation IsOfRequest
      → IsReply settings operation L a.moment r after → Comes L a r after
  replied L a r (Err rejected) after checked other reply = (
    subst (Acknowledges settings L a r) (sym reply.1)
        (not_ok L a r (refused_off (error_of rejected) (allow_of rejected) a.moment r reply.0)),
    other_apart (error_of rejected) (allow_of rejected) a.moment r other reply.0,
  )
  replied L a r (Ok (Asks device)) after checked other reply =
      by_told L a r after (Asks device)
      (state_ok settings (captive_of (history_of L) device a.moment) a.moment r reply.0) checked refl reply.1
  replied L a r (Ok (Sheet id)) after checked other reply =
      by_found L a r after (Sheet id) UnknownBatch batch_is_no_stop
      (λ sheet. IsSheet settings sheet a.moment r) (λ sheet is. sheet_ok settings sheet a.moment r is)
      checked refl (sheet_of (history_of L) id) reply.0 reply.1
  replied L a r (Ok (Voucher code)) after checked other reply =
      by_found L a r after (Voucher code) UnknownCode code_is_no_stop
      (λ voucher. IsVoucher voucher a.moment r) (λ voucher is. voucher_ok voucher a.moment r is)
      checked refl (voucher_of (history_of L) code) reply.0 reply.1
  replied L a r (Ok (Takings range)) after checked other reply =
      by_told L a r after (Takings range)
      (takings_ok (takings_over settings.zone (history_of L) range) a.moment r reply.0) checked refl reply.1
  replied L a r (Ok OpenSessions) after checked other reply =
      by_told L a r after OpenSessions
      (sessions_ok (open_sessions_of (history_of L) a.moment) a.moment r reply.0) checked refl reply.1
  replied L a r (Ok OpenDetails) after checked other reply =
      by_told L a r after OpenDetails
      (open_details_ok (open_details_of (history_of L) a.moment) a.moment r reply.0) checked refl reply.1
  replied L a r (Ok (Session number)) after checked other reply =
      by_found L a r after (Session number) UnknownSession session_is_no_stop
      (λ details. IsDetails details a.moment r) (λ details is. details_ok details a.moment r is)
      checked refl (session_details_of (history_of L) number a.moment) reply.0 reply.1
  replied L a r (Ok (LastSession device)) after checked other reply =
      by_found L a r after (LastSession device) UnknownSession session_is_no_stop
      (λ details. IsDetails details a.moment r) (λ details is. details_ok details a.moment r is)
      checked refl (last_details_of (history_of L) device a.moment) reply.0 reply.1
  replied L a r (Ok (OwnSession device)) after checked other reply =
      by_found L a r after (OwnSession device) UnknownSession session_is_no_stop
      (λ details. IsOwnDetails details a.moment r) (λ details is. own_details_ok details a.moment r is)
      checked refl (last_details_of (history_of L) device a.moment) reply.0 reply.1
  replied L a r (Ok (Batches before limit)) after checked other reply =
      by_found L a r after (Batches before limit) UnknownBatch batch_is_no_stop
      (λ place. (states : List BatchState) × (more : Bool)
      × AreStatesAfter (history_of L) place limit states more × AreBatches states more a.moment r)
      (λ place is. batches_ok is.0 is.1 a.moment r is.3)
      checked refl (before_of (history_of L) before) reply.0 reply.1
  replied L a r (Ok (Batch id)) after checked other reply =
      by_found L a r after (Batch id) UnknownBatch batch_is_no_stop
      (λ batch. IsBatch batch a.moment r) (λ batch is. batch_ok batch a.moment r is)
      checked refl (batch_with_vouchers (history_of L) id) reply.0 reply.1
  replied L a r (Ok (Vouchers start)) after checked other reply =
      by_told L a r after (Vouchers start) (vouchers_ok reply.0.0 reply.0.1 a.moment r reply.0.3) checked refl
      reply.1
  replied L a r (Ok (Redemptions code)) after checked other reply =
      by_found L a r after (Redemptions code) UnknownCode code_is_no_stop
      (λ listed. AreRedemptions listed a.moment r) (λ listed is. redemptions_ok listed a.moment r is)
      checked refl (last_redemptions_of (history_of L) code a.moment) reply.0 reply.1
  replied L a r (Ok (Act command mark)) after checked other reply = go (repeat_in L mark) refl reply
    where
      own : Accepted
      own = accepted_at L a.moment command mark

      -- what a new command adds, and a repetition does not
      adds : (held : Result (Option Answer) Refusal) → repeat_in L mark ≡ held
          → after ≡ newly_accepted held own ++ L → after ≡ newly_accepted (repeat_in L mark) own ++ L
      adds held is same =
          same ∙ ap (λ (x : Result (Option Answer) Refusal). newly_accepted x own ++ L) (sym is)

      judged : repeat_in L mark ≡ Ok None → (v : Option Refusal) → verdict (history_of L) command own.at ≡ v
          → IsVerdict v L own a.moment r after → Comes L a r after
      judged none (Some x) is said =
          by_refusal L a r after x (verdict_is_no_stop (history_of L) command own.at x is) said.0 said.1
      judged none None is said =
          by_answer L a r after command mark (answer_of said.0) checked said.2 (adds (Ok None) none said.3)

      go : (held : Result (Option Answer) Refusal) → repeat_in L mark ≡ held
          → IsCommand held L own a.moment r after → Comes L a r after
      go (Err x) is said = by_refusal L a r after x (held_is_no_stop L mark x is) said.0 said.1
      go (Ok (Some answer)) is said =
          by_answer L a r after command mark answer checked said.0 (adds (Ok (Some answer)) is said.1)
      go (Ok None) is said = judged is (verdict (history_of L) command own.at) refl said

  -- ---- a desk that stopped

  -- its answer, which adds nothing to any ledger
  rested : (L K : Ledger) (doubt : Option Accepted) (a : Arrived) (r : List ℕ) (new : State)
      → Step settings (stopped L doubt) a r new
      → (new ≡ stopped L doubt) × Acknowledges settings K a r K × Replies settings K a r K
  rested L K doubt a r new (inl memory) =
      (memory.1, not_ok K a r (refused_off NoMemory None a.moment r memory.0), inr (inl memory.0))
  rested L K doubt a r new (inr (operation, checked, other, out)) = elim (out.1) [
    | inl refused ↦
        let rejected = refused.0 in
        let reply : IsReply settings (Err rejected) K a.moment r K = (refused.2, refl) in
        let checks = subst (IsChecked settings a.seed a.bytes) refused.1 checked in (
          out.0,
          not_ok K a r (refused_off (error_of rejected) (allow_of rejected) a.moment r refused.2),
          inl (Err rejected, checks, reply),
        )
    | inr over ↦ (out.0, not_ok K a r (refused_off Stopped None a.moment r over.1), inr (inr over.1))
  ]

  rests : (L K : Ledger) (doubt : Option Accepted) (xs : List Arrived) (rs : List (List ℕ)) (new : State)
      → Run settings (stopped L doubt) xs rs new
      → (new ≡ stopped L doubt) × Leads settings K xs rs K
  rests L K doubt [] [] new run = (run, refl)
  rests L K doubt [] (r ∷ rs) new run = absurd run
  rests L K doubt (a ∷ xs) [] new run = absurd run
  rests L K doubt (a ∷ xs) (r ∷ rs) new run =
      let one = rested L K doubt a r run.0 run.1 in
      let rest = rests L K doubt xs rs new (subst (λ (s : State). Run settings s xs rs new) one.0 run.2) in
      (rest.0, (K, one.1, one.2, rest.1))

  -- ---- a run

  -- the end of a run, read off its requests and responses
  pub data Ends (L : Ledger) (xs : List Arrived) (rs : List (List ℕ)) (new : State) : Type 0 where
    works : (last : Ledger) → Leads settings L xs rs last → new ≡ running last → Ends L xs rs new
    halts : (last : Ledger) → Leads settings L xs rs last → new ≡ stopped last None → Ends L xs rs new
    doubts : (last : Ledger) → Leads settings L xs rs last → (own : Accepted) → IsInDoubt settings L xs rs own
        → new ≡ stopped last (Some own) → Ends L xs rs new

  -- a request after which the desk has not stopped, and the run after it
  more : (L after : Ledger) (a : Arrived) (r : List ℕ) (xs : List Arrived) (rs : List (List ℕ)) (new : State)
      → Comes L a r after → Replies settings L a r after → Ends after xs rs new → Ends L (a ∷ xs) (r ∷ rs) new
  more L after a r xs rs new comes reply (works last leads is) = works last (after, comes.0, reply, leads) is
  more L after a r xs rs new comes reply (halts last leads is) = halts last (after, comes.0, reply, leads) is
  more L after a r xs rs new comes reply (doubts last leads own doubted is) =
      doubts last (after, comes.0, reply, leads) own (inr (comes.1, after, comes.0, doubted)) is

  -- the request that stopped it, and the run after it
  here : (L : Ledger) (a : Arrived) (r : List ℕ) (xs : List Arrived) (rs : List (List ℕ)) (mid new : State)
      (operation : Result Operation Rejection)
      → IsChecked settings a.seed a.bytes operation → IsRefusal Stopped a.moment r
      → Stops operation L a.moment mid → Run settings mid xs rs new → Ends L (a ∷ xs) (r ∷ rs) new
  here L a r xs rs mid new operation checked over stops run = go operation checked stops
    where
      lead : (doubt : Option Accepted) → mid ≡ stopped L doubt
          → (new ≡ stopped L doubt) × Leads settings L (a ∷ xs) (r ∷ rs) L
      lead doubt is =
          let rest = rests L L doubt xs rs new (subst (λ (s : State). Run settings s xs rs new) is run) in
          (rest.0, (L, not_ok L a r (refused_off Stopped None a.moment r over), inr (inr over), rest.1))

      go : (w : Result Operation Rejection) → IsChecked settings a.seed a.bytes w → Stops w L a.moment mid
          → Ends L (a ∷ xs) (r ∷ rs) new
      go (Err rejected) checked stops = absurd stops
      go (Ok (Asks device)) checked stops = let it = lead None stops in halts L it.1 it.0
      go (Ok (Sheet id)) checked stops = let it = lead None stops in halts L it.1 it.0
      go (Ok (Voucher code)) checked stops = let it = lead None stops in halts L it.1 it.0
      go (Ok (Takings range)) checked stops = let it = lead None stops in halts L it.1 it.0
      go (Ok OpenSessions) checked stops = let it = lead None stops in halts L it.1 it.0
      go (Ok OpenDetails) checked stops = let it = lead None stops in halts L it.1 it.0
      go (Ok (Session number)) checked stops = let it = lead None stops in halts L it.1 it.0
      go (Ok (LastSession device)) checked stops = let it = lead None stops in halts L it.1 it.0
      go (Ok (OwnSession device)) checked stops = let it = lead None stops in halts L it.1 it.0
      go (Ok (Batches before limit)) checked stops = let it = lead None stops in halts L it.1 it.0
      go (Ok (Batch id)) checked stops = let it = lead None stops in halts L it.1 it.0
      go (Ok (Vouchers start)) checked stops = let it = lead None stops in halts L it.1 it.0
      go (Ok (Redemptions code)) checked stops = let it = lead None stops in halts L it.1 it.0
      go (Ok (Act command mark)) checked (inl is) = let it = lead None is in halts L it.1 it.0
      go (Ok (Act command mark)) checked (inr it) =
          let own = accepted_at L a.moment command mark in
          let led = lead (Some own) it.2 in
          doubts L led.1 own (inl (over, (command, mark, checked, refl, it.0, it.1))) led.0

  pub ends : (L : Ledger) (xs : List Arrived) (rs : List (List ℕ)) (new : State)
      → Run settings (running L) xs rs new → Ends L xs rs new
  ends L [] [] new run = works L refl run
  ends L [] (r ∷ rs) new run = absurd run
  ends L (a ∷ xs) [] new run = absurd run
  ends L (a ∷ xs) (r ∷ rs) new run = elim (run.1) [
    | inl memory ↦
        more L L a r xs rs new
        (by_refusal L a r L NoMemory memory_is_no_stop memory.0 refl) (inr (inl memory.0))
        (ends L xs rs new (subst (λ (s : State). Run settings s xs rs new) memory.1 run.2))
    | inr (operation, checked, other, inl reply) ↦
        more L reply.0 a r xs rs new (replied L a r operation reply.0 checked other reply.1)
        (inl (operation, checked, reply.1))
        (ends reply.0 xs rs new (subst (λ (s : State). Run settings s xs rs new) reply.2 run.2))
    | inr (operation, checked, other, inr over) ↦
        here L a r xs rs run.0 new operation checked over.0 over.1 run.2
  ]

  -- ---- what is found after a crash

  module _ (Files : Type 0) (is_crash_state : Files → Type 0) (holds_ledger : Files → Ledger → Type 0)
      (L : Ledger) (xs : List Arrived) (rs : List (List ℕ)) (new : State) where
    abbrev Left : Type 0
    Left = (files : Files) → is_crash_state files
        → (found : Ledger) × MayBeFound new found × holds_ledger files found

    found_at : (last found : Ledger) → ((found ≡ last)
        ⊎ ((own : Accepted) × IsInDoubt settings L (take (length rs) xs) rs own × (found ≡ own ∷ last)))
        → IsSound found → IsFound settings L (take (length rs) xs) rs last found
    found_at last found is sound =
        let legal = the_sound_is_legal found sound in
        record { is = is; sound = sound; legal = legal; grants = grants_bounded (history_of found) legal }

    pub survives : ServesInOrder settings (running L) xs rs new → Left
        → ((files : Files) (found : Ledger) → holds_ledger files found → IsSound found)
        → Survives Files is_crash_state holds_ledger settings L xs rs
    survives served left sound = go (ends L (take (length rs) xs) rs new served)
      where
        go : Ends L (take (length rs) xs) rs new → Survives Files is_crash_state holds_ledger settings L xs rs
        go (works last leads is) = (
          last,
          leads,
          λ files may.
              let it = left files may in (
                it.0,
                it.2,
                found_at last it.0 (inl (subst (λ (s : State). MayBeFound s it.0) is it.1))
                    (sound files it.0 it.2),
              ),
        )
        go (halts last leads is) = (
          last,
          leads,
          λ files may.
              let it = left files may in (
                it.0,
                it.2,
                found_at last it.0 (inl (subst (λ (s : State). MayBeFound s it.0) is it.1))
                    (sound files it.0 it.2),
              ),
        )
        go (doubts last leads own doubted is) = (
          last,
          leads,
          λ files may.
              let it = left files may in
              let where_it_is : (it.0 ≡ last)
              ⊎ ((d : Accepted) × IsInDoubt settings L (take (length rs) xs) rs d × (it.0 ≡ d ∷ last)) =
              elim (subst (λ (s : State). MayBeFound s it.0) is it.1) [
                | inl same ↦ inl same
                | inr one ↦ inr (own, doubted, one)
              ] in
              (it.0, it.2, found_at last it.0 where_it_is (sound files it.0 it.2)),
        )
