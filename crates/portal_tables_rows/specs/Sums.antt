-- The counters as sums over the rows of the other tables.
use Rattle.std.specs.Prelude.{◌≡◌, ℕ, ◌<◌, ◌^◌, nat_eq, bytes_eq, List, [], filter, sum_by, count_by}
use Rattle.std.specs.Prelude.{unwrap_or}
use Rattle.std.specs.HashMap.{HashMap, get}
use Rattle.sqlite_rules.specs.Lists.{Has}
use Rattle.portal_codes.specs.Code.{IsCode, text_of}
use Rattle.portal_model.specs.declared.plan.Plan.{Plan}
use Rattle.portal_model.specs.Rows.{Rows, SessionRow, GrantRow, total_from}
use Rattle.portal_tables_rows.specs.Foreign.{IsMomentIfSome}
use Rattle.portal_tables_rows.specs.declared.grants.GrantValue.{GrantValue}
use Rattle.portal_tables_rows.specs.declared.sums.Given.{Given}

-- a redemption that was read
abbrev pub grant_read : GrantValue → GrantRow
grant_read g = record {
  number = g.number;
  code = text_of g.code;
  session = g.session;
  moment = g.moment;
  seconds = g.seconds;
  bytes = g.bytes;
}

-- rows with these plans and redemptions: the sums over a session read no others
abbrev pub rows_for_sums : List Plan → List GrantRow → Rows
rows_for_sums plans grants = record {
  head = record { last = 0; grants = 0; sessions = 0 };
  plans = plans;
  batches = [];
  vouchers = [];
  sessions = [];
  grants = grants;
  counts = [];
  totals = [];
}

-- what the redemptions of the session gave in total
abbrev pub given_to : List GrantRow → ℕ → Given
given_to grants number =
    let own = filter (λ g. nat_eq g.session number) grants in
    record { seconds = sum_by (λ g. g.seconds) own; bytes = sum_by (λ g. g.bytes) own }

abbrev pub nothing_given : Given
nothing_given = record { seconds = 0; bytes = 0 }

-- how many redemptions have the code
abbrev pub uses_in : List GrantRow → List ℕ → ℕ
uses_in grants code = count_by (λ g. bytes_eq g.code code) grants

-- the map has the number of the redemptions of each code: none of a code that is not in it
abbrev pub AreUses : {S : Type 0} → HashMap (List ℕ) ℕ S → List GrantRow → Type 0
AreUses uses grants =
    (code : List ℕ) → IsCode code → unwrap_or (get bytes_eq uses code) 0 ≡ uses_in grants (text_of code)

-- ---- sums that fit

-- the sums fit in INTEGER columns
abbrev pub IsKeptSum : Given → Type 0
IsKeptSum given = (given.seconds < 2 ^ 63) × (given.bytes < 2 ^ 63)

-- the sums over the redemptions fit in columns: what those of each session give in total, and the session's
-- end
pub record SumsFit (plans : List Plan) (sessions : List SessionRow) (grants : List GrantRow) : Type 0 where
  pub given : (number : ℕ) → IsKeptSum (given_to grants number)
  pub used : (s : SessionRow) → Has sessions s → s.used < 2 ^ 63
  pub ends : (s : SessionRow) → Has sessions s
      → IsMomentIfSome (total_from (rows_for_sums plans grants) s).ends
