-- The redemptions of a history by their numbers, which begin with 1 for the oldest.
use Rattle.std.specs.Prelude.{◌≡◌, ◌⊎◌, ◌+◌, ℕ, cond, nat_eq, nat_lt, List, [], ◌∷◌, length, map, Option}
use Rattle.std.specs.Prelude.{Some, None}
use Rattle.std.specs.Prelude.{option_map}
use Rattle.sqlite_rules.specs.Lists.{Has}
use Rattle.portal_model.specs.History.{History, Grant, grants_of, session_of}
use Rattle.portal_model.specs.Redemptions.{redemption_after}
use Rattle.portal_model.specs.Rows.{grant_rows, remaining_of}
use Rattle.portal_model.specs.declared.record.Session.{Session}
use Rattle.portal_model.specs.declared.redemptions.Redemption.{Redemption}
use Rattle.portal_tables.specs.HoldsLedger.{grant_kept}
use Rattle.portal_tables_rows.specs.Sums.{grant_read}
use Rattle.portal_tables_rows.specs.declared.grants.GrantValue.{GrantValue}
use Rattle.portal_tables_rows.specs.declared.rows.SessionValue.{SessionValue}

-- the redemption with that number, and those before it
abbrev pub grant_numbered : List Grant → ℕ → Option (Grant × List Grant)
grant_numbered [] n = None
grant_numbered (g ∷ gs) n = cond (nat_eq n (length gs + 1)) (Some (g, gs)) (grant_numbered gs n)

-- the redemptions with numbers below that one
abbrev pub grants_below : List Grant → ℕ → List Grant
grants_below [] n = []
grants_below (g ∷ gs) n = cond (nat_lt (length gs + 1) n) (g ∷ gs) (grants_below gs n)

-- what is shown at t of the redemption with that number
abbrev pub redemption_numbered : History → ℕ → ℕ → Option Redemption
redemption_numbered h t n =
    option_map (λ found. redemption_after h t found.1 found.0) (grant_numbered (grants_of h) n)

-- a row that was read is one of the history's
abbrev pub IsGrantOf : History → GrantValue → Type 0
IsGrantOf h row = Has (map grant_kept (grant_rows (grants_of h))) (grant_read row)

-- each of them is
abbrev pub AreGrantsOf : History → List GrantValue → Type 0
AreGrantsOf h rows = (row : GrantValue) → Has rows row → IsGrantOf h row

-- there is a session with that number, and it was opened at t
abbrev pub IsOpenedAt : History → ℕ → ℕ → Type 0
IsOpenedAt h number t = (s : Session) × (session_of h number ≡ Some s) × (s.opened ≡ t)

-- by the session's end and what remains of it, the redemption gave all of its seconds, or all of its bytes
abbrev pub GivesAll : GrantValue → SessionValue → Type 0
GivesAll grant session = (session.ends ≡ Some (session.opened + grant.seconds))
    ⊎ (session.remaining ≡ remaining_of session.used (Some grant.bytes))
