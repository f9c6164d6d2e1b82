-- The head row that a desk keeps is that of its ledger, before and after each call.
use Rattle.portal_desk_store.proofs.Common.{◌≡◌, ◌⊎◌, inl, inr, ℕ, ◌∷◌, Option, Some, None, refl, ap, ◌∙◌}
use Rattle.portal_desk_store.proofs.Common.{sym, subst, IfSome, Result, Ok, Err, Ghosts, Command, Changes}
use Rattle.portal_desk_store.proofs.Common.{changes_of, entry, head_of, History, Follows, IsLegal, Refusal}
use Rattle.portal_desk_store.proofs.Common.{MarkedChanges, Accepted, Ledger, history_of, State, running}
use Rattle.portal_desk_store.proofs.Common.{stopped, Fits, Keeps, CannotKeep, Returns, OpenAt, Tables}
use Rattle.portal_desk_store.proofs.Common.{StoreDesk, DeskIsFaultFree, DeskRepresents, MovesDesk}
use Rattle.portal_desk_store.proofs.Common.{MovesFromLedger, MovesTables, Decides, Judges, stop_flag}
use Rattle.portal_desk_store.proofs.Common.{Answer, Fingerprint, KeepsStop, MatchResult, PreparesMarked}
use Rattle.portal_desk_store.proofs.Common.{ReadsOf, repeat_in}
use Rattle.portal_desk.specs.Calls.{Refuses}
use Rattle.portal_desk.specs.declared.prepared.Marked.{Marked}
use Rattle.portal_model.specs.declared.change.Changes.TheVariants.{LoadChange, IssueChange, SellChange}
use Rattle.portal_model.specs.declared.change.Changes.TheVariants.{RedeemChange, ReportChange, RefundChange}
use Rattle.portal_model.specs.declared.change.Changes.TheVariants.{CloseChange}
use Rattle.portal_model.specs.declared.record.Head.{Head}
use Rattle.portal_model.specs.Rows.{Rows, rows_of, rows_after_changes}
use Rattle.portal_model_laws.proofs.Leading.{changes_give_rows}
use Rattle.portal_tables.specs.TablesRepresent.{TablesRepresent}
use Rattle.portal_desk_store.specs.Heads.{head_after_changes}
use Rattle.portal_desk_store.specs.KeepsHead.{KeepsHead}
use Rattle.portal_desk_store.specs.KeepsOpenSessions.{KeepsOpenSessions}
use Rattle.portal_desk_store.proofs.ReadLemmas.{legal_at}
use Rattle.portal_desk_store.proofs.StepLemmas.{stops_on}

-- ---- the head row after a command

head_of_rows : (changes : Changes) (r : Rows)
    → (rows_after_changes changes r).head ≡ head_after_changes changes r.head
head_of_rows (LoadChange c) r = refl
head_of_rows (IssueChange c) r = refl
head_of_rows (SellChange c) r = refl
head_of_rows (RedeemChange c) r = refl
head_of_rows (ReportChange c) r = refl
head_of_rows (RefundChange c) r = refl
head_of_rows (CloseChange c) r = refl

-- the head row after an accepted command is that before it with its changes
pub head_follows : (H : History) → IsLegal H → (command : Command) (t : ℕ) → Follows H t command
    → (changes : Changes) → changes_of H command t ≡ Some changes
    → head_of (entry t command ∷ H) ≡ head_after_changes changes (head_of H)
head_follows H legal command t follows changes is =
    ap (λ (r : Rows). r.head) (changes_give_rows H legal command t follows changes is)
    ∙ head_of_rows changes (rows_of H)

-- the updated head row is that of the history with the command
pub head_updated : (H : History) (command : Command) (t : ℕ) (changes : Changes) (head : Head)
    (now : Option Head) → head ≡ head_of H
    → head_of (entry t command ∷ H) ≡ head_after_changes changes (head_of H)
    → IfSome now (λ after. after ≡ head_after_changes changes head)
    → IfSome now (λ after. after ≡ head_of (entry t command ∷ H))
head_updated H command t changes head None is follows updated = updated
head_updated H command t changes head (Some after) is follows updated =
    updated ∙ ap (λ (h : Head). head_after_changes changes h) is ∙ sym follows

-- ---- committing

-- the kept head row follows an accepted command with these changes
abbrev pub HeadFollowsOn : Option Head → Option Head → Changes → Type 0
HeadFollowsOn kept now changes = (H : History) → IsLegal H → (command : Command) (t : ℕ) → Follows H t command
    → changes_of H command t ≡ Some changes
    → IfSome kept (λ head. head ≡ head_of H)
    → IfSome now (λ head. head ≡ head_of (entry t command ∷ H))

-- a command is committed
pub keeps_head_on : {S : Type 0} (g : Ghosts S) (before after : Tables S) (list : Option OpenAt)
    (kept now : Option Head) (marked : MarkedChanges) (a : Accepted)
    → HeadFollowsOn kept now marked.changes → (old : State) → TablesRepresent g before old
    → KeepsHead kept old → Fits old marked a
    → ((x : State) × (TablesRepresent g after x × KeepsOpenSessions list x) × Keeps old a x)
    → (x : State) × (TablesRepresent g after x × KeepsOpenSessions list x × KeepsHead now x) × Keeps old a x
keeps_head_on g before after list kept now marked a follows (running L) at is fits got =
    let led : KeepsHead now (running (a ∷ L)) =
    follows (history_of L) (legal_at g L before at) a.command a.at fits.0.follows fits.1 is in
    (got.0, (got.1.0, got.1.1, subst (λ (s : State). KeepsHead now s) (sym got.2) led), got.2)
keeps_head_on g before after list kept now marked a follows (stopped L doubt) at is fits got = absurd got.2

-- a command is not committed, or it is in doubt
pub keeps_head_all : {S : Type 0} (g : Ghosts S) (after : Tables S) (list : Option OpenAt)
    (kept : Option Head) (a : Accepted) (r : Refusal) (old : State) → KeepsHead kept old
    → ((x : State) × (TablesRepresent g after x × KeepsOpenSessions list x) × CannotKeep old a r x)
    → (x : State) × (TablesRepresent g after x × KeepsOpenSessions list x × KeepsHead kept x)
    × CannotKeep old a r x
keeps_head_all g after list kept a r (running L) is got =
    let still : KeepsHead kept got.0 = elim got.2 [
      | inl memory ↦ subst (λ (s : State). KeepsHead kept s) (sym memory.1) is
      | inr over ↦ subst (λ (s : State). KeepsHead kept s) (sym over.1) tt
    ] in
    (got.0, (got.1.0, got.1.1, still), got.2)
keeps_head_all g after list kept a r (stopped L doubt) is got =
    (got.0, (got.1.0, got.1.1, subst (λ (s : State). KeepsHead kept s) (sym got.2.1) tt), got.2)

-- ---- reading after the head row

-- the ledger is unchanged, or the tables have stopped with it
abbrev pub Stays : Ledger → State → Type 0
Stays L after = (after ≡ running L) ⊎ (after ≡ stopped L None)

stays_so : (Is : State → Type 0) (L : Ledger) (x : State) → Stays L x → Is (running L) → Is (stopped L None)
    → Is x
stays_so Is L x (inl same) working over = subst Is (sym same) working
stays_so Is L x (inr ended) working over = subst Is (sym ended) over

-- a decision
pub judged_stays : (result : Result Changes Refusal) (command : Command) (t : ℕ) (L : Ledger) (x : State)
    → Judges result command t L x → Stays L x
judged_stays (Ok changes) command t L x it = inl it.1
judged_stays (Err r) command t L x (inl refused) = inl refused.1
judged_stays (Err r) command t L x (inr (inl memory)) = inl memory.1
judged_stays (Err r) command t L x (inr (inr over)) = inr over.1

-- the result of preparing an idempotent request
abbrev pub EndsPreparing : Command → ℕ → Fingerprint → Result Marked Refusal → State → State → Type 0
EndsPreparing command moment mark result before after = MatchResult result
    (λ marked. PreparesMarked before command moment mark marked after)
    (λ r. Refuses before command moment (Some mark) r after)

-- a request that is no repetition, and the verdict on its command is an error
pub refuses_fresh : (command : Command) (moment : ℕ) (mark : Fingerprint) (L : Ledger) (r : Refusal)
    (after : State) → repeat_in L (Some mark) ≡ Ok None → Decides (Err r) command moment (running L) after
    → Refuses (running L) command moment (Some mark) r after
refuses_fresh command moment mark L r after none (inl verdict) = inl (inr (none, verdict.0), verdict.1)
refuses_fresh command moment mark L r after none (inr failed) = inr failed

module _ {S : Type 0} {g : Ghosts S} where
  -- a call that reads the tables, by the head row
  pub go_on_by_head : {B : Type 0} {old mid new : StoreDesk S} {head : Head} {result : Result B Refusal}
      {Step : Ledger → State → Type 0} {Whole : State → State → Type 0}
      → MovesDesk g old mid (Ok head) (Returns (Ok head) (λ h H. h ≡ head_of H))
      → MovesFromLedger g mid new result Step
      → ((L : Ledger) → IsLegal (history_of L) → head ≡ head_of (history_of L) → (after : State)
      → Step L after → Stays L after × Whole (running L) after)
      → MovesDesk g old new result Whole
  go_on_by_head {old = old} {mid = mid} {new = new} {head = head} {result = result} {Whole = Whole}
      first second whole = record {
        same_settings = second.rest.0 ∙ first.same_settings;
        fault_free = λ honest. first.fault_free (second.fault_free honest);
        stops = stops_on old mid new result first.stops second.stops;
        step = λ honest before at. go honest before (first.step (second.fault_free honest) before at);
      }
    where
      go : DeskIsFaultFree g new → (before : State)
          → ((x : State) × DeskRepresents g mid x
          × Returns (Ok head) (λ (h : Head) H. h ≡ head_of H) before x)
          → (y : State) × DeskRepresents g new y × Whole before y
      go honest (running L) one =
          let at : DeskRepresents g mid (running L) =
          subst (λ (s : State). DeskRepresents g mid s) one.2.1 one.1 in
          let two = second.step honest L at.0 in
          let it = whole L (legal_at g L mid.tables at.0) one.2.0 two.0 two.2 in
          let open_after : KeepsOpenSessions new.open two.0 =
          subst (λ (o : Option OpenAt). KeepsOpenSessions o two.0) (sym second.rest.1)
          (stays_so (λ (s : State). KeepsOpenSessions mid.open s) L two.0 it.0 at.1 tt) in
          let head_after : KeepsHead new.head two.0 =
          subst (λ (h : Option Head). KeepsHead h two.0) (sym second.rest.2)
          (stays_so (λ (s : State). KeepsHead mid.head s) L two.0 it.0 at.2 tt) in
          (two.0, (two.1, open_after, head_after), it.1)
      go honest (stopped L doubt) one = absurd one.2

  -- a request that is no repetition, and then the decision on its command
  pub decides_fresh : (command : Command) (moment : ℕ) (mark : Fingerprint) {old mid new : StoreDesk S}
      {found : Option Answer} {decision : Result Changes Refusal} (result : Result Marked Refusal)
      → MovesTables g old mid (Ok found)
      (λ before after. ReadsOf before (λ L. repeat_in L (Some mark) ≡ Ok found) after)
      → found ≡ None
      → MovesDesk g mid new decision (Decides decision command moment)
      → KeepsStop (stop_flag mid) (stop_flag new) result
      → ((L : Ledger) → repeat_in L (Some mark) ≡ Ok None → (after : State)
      → Decides decision command moment (running L) after
      → EndsPreparing command moment mark result (running L) after)
      → MovesDesk g old new result (EndsPreparing command moment mark result)
  decides_fresh command moment mark {old} {mid} {new} {found} {decision} result first none second stops
      whole = record {
        same_settings = second.same_settings ∙ first.rest.0;
        fault_free = λ honest. first.fault_free (second.fault_free honest);
        stops = stops_on old mid new result first.stops stops;
        step = λ honest before at. go honest before at (first.step (second.fault_free honest) before at.0);
      }
    where
      go : DeskIsFaultFree g new → (before : State) → DeskRepresents g old before
          → ((x : State) × TablesRepresent g mid.tables x
          × ReadsOf before (λ L. repeat_in L (Some mark) ≡ Ok found) x)
          → (y : State) × DeskRepresents g new y × EndsPreparing command moment mark result before y
      go honest (running L) at one =
          let here : TablesRepresent g mid.tables (running L) =
          subst (λ (s : State). TablesRepresent g mid.tables s) one.2.1 one.1 in
          let list : KeepsOpenSessions mid.open (running L) =
          subst (λ (o : Option OpenAt). KeepsOpenSessions o (running L)) (sym first.rest.1) at.1 in
          let head : KeepsHead mid.head (running L) =
          subst (λ (h : Option Head). KeepsHead h (running L)) (sym first.rest.2) at.2 in
          let two = second.step honest (running L) (here, list, head) in
          (two.0, two.1, whole L (one.2.0 ∙ ap Ok none) two.0 two.2)
      go honest (stopped L doubt) at one = absurd one.2
