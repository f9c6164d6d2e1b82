-- What the row of a session, with its total, tells of the session.
use Rattle.portal_tables.proofs.Common.{◌≡◌, ℕ, Bool, List, Option, Some, sym, ap, subst, ◌∙◌, Has}
use Rattle.portal_tables.proofs.Common.{has_image, has_mapped, IsDevice, IsLegal, is_open_at, rows_are_typed}
use Rattle.portal_tables.proofs.Common.{History, Grant, Session, grants_of, members, oldest, session_of}
use Rattle.portal_tables.proofs.Common.{openings, IsFirst, openings_first, session_at, session_opened}
use Rattle.portal_tables.proofs.Common.{SessionRow, TotalRow, sessions_of, remaining_of}
use Rattle.portal_tables.proofs.Common.{SessionValue, session_read, session_total, session_kept, IsRowOf}
use Rattle.portal_model.specs.History.{used_of}
use Rattle.portal_model.specs.Redemptions.{is_found_open, is_in_session}
use Rattle.portal_model.specs.Rows.{row_of_opening, total_of_opening}
use Rattle.portal_model_laws.proofs.Basics.{some-same}
use Rattle.portal_tables.specs.RedemptionLists.{IsGrantOf, IsOpenedAt, grants_below, redemption_numbered}
use Rattle.portal_tables_rows.specs.declared.grants.GrantValue.{GrantValue}
use Rattle.portal_tables.proofs.Joining.{one}
use Rattle.portal_tables.proofs.RedemptionLemmas.{row_shown}
use Rattle.portal_tables.proofs.Spelled.{same_device}

-- the redemption that opened the session of the row
pub record IsOpenedBy (h : History) (row : SessionValue) (first : Grant) : Type 0 where
  pub among : Has (openings (grants_of h)) first
  pub is_first : IsFirst (grants_of h) first
  pub row_is : session_read row ≡ session_kept (row_of_opening h first)
  pub total_is : session_total row ≡ total_of_opening h first

pub opened_by_one : (h : History) (row : SessionValue) → IsRowOf h row
    → (first : Grant) × IsOpenedBy h row first
opened_by_one h row it =
    let gs = grants_of h in
    let opening = has_image (row_of_opening h) (openings gs) it.of_history it.among in
    let total = has_image (total_of_opening h) (openings gs) (session_total row) it.totaled in
    let first = one (IsFirst gs) (openings gs) opening.0 (openings_first gs) opening.1 in
    let second = one (IsFirst gs) (openings gs) total.0 (openings_first gs) total.1 in
    let row_is : session_read row ≡ session_kept (row_of_opening h opening.0) =
    it.is ∙ ap session_kept opening.2 in
    let number : total.0.session ≡ opening.0.session =
    sym (ap (λ (m : TotalRow). m.number) total.2) ∙ ap (λ (s : SessionRow). s.number) row_is in
    let same : total.0 ≡ opening.0 =
    some-same total.0 opening.0 (sym second ∙ ap (λ (n : ℕ). oldest (members gs n)) number ∙ first) in (
      opening.0,
      record {
        among = opening.1;
        is_first = first;
        row_is = row_is;
        total_is = total.2 ∙ ap (total_of_opening h) same;
      },
    )

module _ (h : History) (row : SessionValue) (first : Grant) (it : IsOpenedBy h row first) where
  pub number_is : row.number ≡ first.session
  number_is = ap (λ (s : SessionRow). s.number) it.row_is

  pub opened_is : row.opened ≡ first.at
  opened_is = ap (λ (s : SessionRow). s.opened) it.row_is

  pub used_is : row.used ≡ used_of h first.session
  used_is = ap (λ (s : SessionRow). s.used) it.row_is

  pub ends_is : row.ends ≡ (session_opened h first).ends
  ends_is = ap (λ (m : TotalRow). m.ends) it.total_is

  pub remaining_is : row.remaining
      ≡ remaining_of (used_of h first.session) (session_opened h first).allowance
  remaining_is = ap (λ (m : TotalRow). m.remaining) it.total_is

  pub session_is : session_of h row.number ≡ Some (session_opened h first)
  session_is = ap (session_of h) number_is ∙ session_at h first it.is_first

  pub device_is : IsLegal h → IsDevice row.device → row.device ≡ first.device
  device_is legal device = same_device row.device first.device device
      (one (λ (s : SessionRow). IsDevice s.device) (sessions_of h) (row_of_opening h first)
      (rows_are_typed h legal).sessions
      (has_mapped (row_of_opening h) (openings (grants_of h)) first it.among))
      (ap (λ (s : SessionRow). s.device) it.row_is)

-- what decides whether a session is open, as its row tells it
pub record TellsSession (row : SessionValue) (s : Session) : Type 0 where
  pub closed : row.closed ≡ s.closed
  pub ends : row.ends ≡ s.ends
  pub remaining : row.remaining ≡ remaining_of s.used s.allowance

pub session_told : (h : History) (row : SessionValue) (s : Session) → IsRowOf h row
    → Some s ≡ session_of h row.number → TellsSession row s
session_told h row s is found =
    let (first, it) = opened_by_one h row is in
    let same : session_opened h first ≡ s =
    some-same (session_opened h first) s (sym (session_is h row first it) ∙ sym found) in
    subst (TellsSession row) same (record {
      closed = ap (λ (x : SessionRow). x.closed) it.row_is;
      ends = ends_is h row first it;
      remaining = remaining_is h row first it;
    })

-- there is a session with the number of the row, and it was opened at the time in the row
pub opened_told : (h : History) (row : SessionValue) (n : ℕ) → IsRowOf h row → row.number ≡ n
    → IsOpenedAt h n row.opened
opened_told h row n is number =
    let (first, it) = opened_by_one h row is in (
      session_opened h first,
      ap (session_of h) (sym number) ∙ session_is h row first it,
      sym (opened_is h row first it),
    )

-- a redemption with the device of its session's row
pub redemption_told : (h : History) → IsLegal h → (grant : GrantValue) (session : SessionValue) (t : ℕ)
    (extended is_open : Bool) → IsGrantOf h grant → IsDevice session.device → IsRowOf h session
    → session.number ≡ grant.session
    → extended ≡ is_in_session grant.session (grants_below (grants_of h) grant.number)
    → ((s : Session) → Some s ≡ session_of h session.number → is_open ≡ is_open_at t s)
    → Some (record {
      at = grant.moment;
      device = session.device;
      extended = extended;
      is_open = is_open;
      session = grant.session;
    }) ≡ redemption_numbered h t grant.number
redemption_told h legal grant session t extended is_open has device is number ext opn =
    let (first, it) = opened_by_one h session is in
    let s = session_opened h first in
    let found : session_of h session.number ≡ Some s = session_is h session first it in
    let here : session_of h grant.session ≡ Some s = ap (session_of h) (sym number) ∙ found in
    ap (λ (d : List ℕ). Some (record {
      at = grant.moment;
      device = d;
      extended = extended;
      is_open = is_open;
      session = grant.session;
    })) (device_is h session first it legal device)
    ∙ row_shown h legal grant s t extended is_open has here ext
    (opn s (sym found) ∙ sym (ap (λ (o : Option Session). is_found_open t o) here))
