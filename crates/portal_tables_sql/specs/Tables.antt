-- The tables of all schema versions, each with its tree, and the statements that create them.
-- Up to version 4 their ids and codes are PRIMARY KEYs, and REFERENCES and UNIQUE clauses keep them; since
-- version 5 only numbers are keys, and indexes find the rest. Up to version 5 the counters are in tables of
-- their own; since version 6 they are columns.
use Rattle.std.specs.Prelude.{◌≤◌, ◌++◌, Bool, true, false, if◌then◌else◌, [], ◌∷◌, Some, None, codes}
use Rattle.std.specs.Prelude.{List, ℕ}
use Rattle.sqlite.specs.Collation.TheVariants.{Binary}
use Rattle.sqlite.specs.declared.types.Value.TheVariants.{Null}
use Rattle.sqlite.specs.Kind.{Kind}
use Rattle.sqlite.specs.Kind.TheVariants.{Integer, Text, Blob}
use Rattle.sqlite.specs.Table.{Table}
use Rattle.sqlite_schema.specs.declared.schema.Column.{Column}
use Rattle.sqlite_schema.specs.declared.schema.Reference.{Reference}
use Rattle.sqlite_schema.specs.declared.schema.Action.TheVariants.{NoAction}
use Rattle.sqlite_value.specs.declared.keys.Order.{Order}
use Rattle.portal_tables_sql.specs.declared.our_tables.OurTable.{OurTable}
use Rattle.portal_tables_sql.specs.declared.our_tables.OurTable.TheVariants as our
use Rattle.sqlite_value.specs.Keys.{plain}

abbrev pub column : Kind → Bool → List ℕ → Column
column kind not_null name = record {
  name = name;
  kind = kind;
  is_strict = true;
  not_null = not_null;
  default = Null;
  collation = Binary;
}

-- NOT NULL, or may be NULL
abbrev pub int : List ℕ → Column
int = column Integer true

abbrev pub int_or_null : List ℕ → Column
int_or_null = column Integer false

abbrev pub text : List ℕ → Column
text = column Text true

abbrev pub text_or_null : List ℕ → Column
text_or_null = column Text false

abbrev pub blob : List ℕ → Column
blob = column Blob true

abbrev pub refers : ℕ → List ℕ → List ℕ → Reference
refers place parent key = record {
  columns = place ∷ [];
  parent = parent;
  parent_columns = key ∷ [];
  on_delete = NoAction;
  on_update = NoAction;
  is_deferred = false;
}

-- how the tables of a schema version are made
pub data Layout : Type 0 where
  -- the counters in tables of their own, and all tables with their clauses or without
  Apart : Bool → Layout
  -- the counters as columns, and no clauses
  Together : Layout

abbrev pub keeps_clauses : Layout → Bool
keeps_clauses (Apart keyed) = keyed
keeps_clauses Together = false

-- what stands in the schema only where the table has its clauses
abbrev pub clauses : {X : Type 0} → Bool → List X → List X
clauses keyed xs = if keyed then xs else []

-- with an INTEGER PRIMARY KEY in its first column
abbrev pub table_with_number : List ℕ → List Column → List Reference → ℕ → Table
table_with_number name columns references tree = record {
  name = name;
  tree = tree;
  columns = columns;
  key = Some 0;
  primary = 0 ∷ [];
  uniques = [];
  orders = [];
  checks = [];
  references = references;
  computed = [];
  stamps = record { places = []; terms = []; formats = [] };
  is_counted = false;
}

-- with text, and a PRIMARY KEY of it, in its first column
abbrev pub table_with_key : List ℕ → List Column → List (List ℕ) → List Order → List Reference → Bool → ℕ
    → Table
table_with_key name columns uniques orders references keyed tree = record {
  name = name;
  tree = tree;
  columns = columns;
  key = None;
  primary = clauses keyed (1 ∷ []);
  uniques = clauses keyed uniques;
  orders = clauses keyed orders;
  checks = [];
  references = clauses keyed references;
  computed = [];
  stamps = record { places = []; terms = []; formats = [] };
  is_counted = false;
}

abbrev pub head_name : List ℕ
head_name = codes "portal_head"

abbrev pub plans_name : List ℕ
plans_name = codes "portal_plans"

abbrev pub batches_name : List ℕ
batches_name = codes "portal_batches"

abbrev pub vouchers_name : List ℕ
vouchers_name = codes "portal_vouchers"

abbrev pub sessions_name : List ℕ
sessions_name = codes "portal_sessions"

abbrev pub grants_name : List ℕ
grants_name = codes "portal_grants"

abbrev pub counts_name : List ℕ
counts_name = codes "portal_counts"

abbrev pub totals_name : List ℕ
totals_name = codes "portal_totals"

abbrev pub requests_name : List ℕ
requests_name = codes "portal_requests"

abbrev pub head_in : Bool → ℕ → Table
head_in keyed = table_with_number head_name (int_or_null (codes "id") ∷ int (codes "layout")
    ∷ int (codes "last_moment") ∷ int (codes "grants") ∷ int (codes "sessions") ∷ []) []

abbrev pub plans_in : Bool → ℕ → Table
plans_in =
    table_with_key plans_name
    (text (codes "id") ∷ int (codes "price") ∷ int (codes "uses") ∷ int (codes "seconds")
    ∷ int (codes "bytes") ∷ int (codes "shelf_days") ∷ int (codes "extend") ∷ []) ((1 ∷ []) ∷ [])
    (plain ∷ []) []

abbrev pub batches_in : Bool → ℕ → Table
batches_in =
    table_with_key batches_name (text (codes "id") ∷ text (codes "plan_id") ∷ int (codes "issued")
    ∷ int (codes "expires") ∷ int (codes "size") ∷ []) ((1 ∷ []) ∷ []) (plain ∷ [])
    (refers 2 plans_name (codes "id") ∷ [])

abbrev pub old_voucher_columns : List Column
old_voucher_columns =
    text (codes "code") ∷ text (codes "batch_id") ∷ int (codes "place") ∷ int_or_null (codes "sold")
    ∷ int_or_null (codes "refunded") ∷ int_or_null (codes "amount") ∷ []

-- without counters
abbrev pub vouchers_in : Bool → ℕ → Table
vouchers_in = table_with_key vouchers_name old_voucher_columns ((1 ∷ []) ∷ (2 ∷ 3 ∷ []) ∷ [])
    (plain ∷ plain ∷ []) (refers 2 batches_name (codes "id") ∷ [])

abbrev pub old_session_columns : List Column
old_session_columns =
    int_or_null (codes "number") ∷ text (codes "device") ∷ text (codes "plan_id") ∷ int (codes "opened")
    ∷ int (codes "used") ∷ int_or_null (codes "closed") ∷ []

-- without counters
abbrev pub sessions_in : Bool → ℕ → Table
sessions_in keyed = table_with_number sessions_name old_session_columns
    (clauses keyed (refers 3 plans_name (codes "id") ∷ []))

abbrev pub grants_in : Bool → ℕ → Table
grants_in keyed =
    table_with_number grants_name
    (int_or_null (codes "number") ∷ text (codes "code") ∷ int (codes "session") ∷ int (codes "moment")
    ∷ int (codes "seconds") ∷ int (codes "bytes") ∷ [])
    (clauses keyed (refers 2 vouchers_name (codes "code") ∷ refers 3 sessions_name (codes "number") ∷ []))

abbrev pub counts_in : Bool → ℕ → Table
counts_in = table_with_key counts_name (text (codes "code") ∷ int (codes "redeemed") ∷ []) ((1 ∷ []) ∷ [])
    (plain ∷ []) (refers 1 vouchers_name (codes "code") ∷ [])

abbrev pub totals_in : Bool → ℕ → Table
totals_in keyed =
    table_with_number totals_name
    (int_or_null (codes "number") ∷ int_or_null (codes "ends") ∷ int_or_null (codes "remaining") ∷ [])
    (clauses keyed (refers 0 sessions_name (codes "number") ∷ []))

-- the caller and the number are the key together
abbrev pub requests_in : Bool → ℕ → Table
requests_in keyed tree = record {
  name = requests_name;
  tree = tree;
  columns = text (codes "caller") ∷ text (codes "number") ∷ text (codes "method") ∷ text (codes "path")
      ∷ blob (codes "body") ∷ int (codes "kind") ∷ text_or_null (codes "word") ∷ int (codes "n1")
      ∷ int_or_null (codes "n2") ∷ int_or_null (codes "n3") ∷ [];
  key = None;
  primary = clauses keyed (1 ∷ 2 ∷ []);
  uniques = clauses keyed ((1 ∷ 2 ∷ []) ∷ []);
  orders = clauses keyed (plain ∷ []);
  checks = [];
  references = [];
  computed = [];
  stamps = record { places = []; terms = []; formats = [] };
  is_counted = false;
}

-- ---- the tables of this schema version

abbrev pub head : ℕ → Table
head = head_in false

abbrev pub plans : ℕ → Table
plans = plans_in false

abbrev pub batches : ℕ → Table
batches = batches_in false

-- with how often each was redeemed
abbrev pub vouchers : ℕ → Table
vouchers = table_with_key vouchers_name (old_voucher_columns ++ int (codes "redeemed") ∷ []) [] [] [] false

-- with the end of each and its remaining allowance
abbrev pub sessions : ℕ → Table
sessions = table_with_number sessions_name
    (old_session_columns ++ int_or_null (codes "ends") ∷ int_or_null (codes "remaining") ∷ []) []

abbrev pub grants : ℕ → Table
grants = grants_in false

abbrev pub requests : ℕ → Table
requests = requests_in false

-- ---- the tables that version 5 has beside them

abbrev pub counts : ℕ → Table
counts = counts_in false

abbrev pub totals : ℕ → Table
totals = totals_in false

-- ---- the statements that create them

abbrev pub create_head : List ℕ
create_head =
    codes "CREATE TABLE portal_head (id INTEGER PRIMARY KEY, layout INTEGER NOT NULL, "
    ++ codes "last_moment INTEGER NOT NULL, grants INTEGER NOT NULL, sessions INTEGER NOT NULL) STRICT"

abbrev pub create_plans : List ℕ
create_plans =
    codes "CREATE TABLE portal_plans (id TEXT NOT NULL, price INTEGER NOT NULL, "
    ++ codes "uses INTEGER NOT NULL, seconds INTEGER NOT NULL, bytes INTEGER NOT NULL, "
    ++ codes "shelf_days INTEGER NOT NULL, extend INTEGER NOT NULL) STRICT"

abbrev pub create_batches : List ℕ
create_batches =
    codes "CREATE TABLE portal_batches (id TEXT NOT NULL, plan_id TEXT NOT NULL, "
    ++ codes "issued INTEGER NOT NULL, expires INTEGER NOT NULL, size INTEGER NOT NULL) STRICT"

abbrev pub create_vouchers : List ℕ
create_vouchers =
    codes "CREATE TABLE portal_vouchers (code TEXT NOT NULL, batch_id TEXT NOT NULL, "
    ++ codes "place INTEGER NOT NULL, sold INTEGER, refunded INTEGER, amount INTEGER, "
    ++ codes "redeemed INTEGER NOT NULL) STRICT"

abbrev pub create_sessions : List ℕ
create_sessions =
    codes "CREATE TABLE portal_sessions (number INTEGER PRIMARY KEY, device TEXT NOT NULL, "
    ++ codes "plan_id TEXT NOT NULL, opened INTEGER NOT NULL, used INTEGER NOT NULL, "
    ++ codes "closed INTEGER, ends INTEGER, remaining INTEGER) STRICT"

abbrev pub create_grants : List ℕ
create_grants =
    codes "CREATE TABLE portal_grants (number INTEGER PRIMARY KEY, code TEXT NOT NULL, "
    ++ codes "session INTEGER NOT NULL, moment INTEGER NOT NULL, seconds INTEGER NOT NULL, "
    ++ codes "bytes INTEGER NOT NULL) STRICT"

abbrev pub create_counts : List ℕ
create_counts =
    codes "CREATE TABLE portal_counts (code TEXT NOT NULL, redeemed INTEGER NOT NULL) STRICT"

abbrev pub create_totals : List ℕ
create_totals =
    codes "CREATE TABLE portal_totals (number INTEGER PRIMARY KEY, ends INTEGER, remaining INTEGER) STRICT"

abbrev pub create_requests : List ℕ
create_requests =
    codes "CREATE TABLE portal_requests (caller TEXT NOT NULL, number TEXT NOT NULL, "
    ++ codes "method TEXT NOT NULL, path TEXT NOT NULL, body BLOB NOT NULL, kind INTEGER NOT NULL, "
    ++ codes "word TEXT, n1 INTEGER NOT NULL, n2 INTEGER, n3 INTEGER) STRICT"

-- ---- the description of each table

-- a table in each layout, by the number of its tree; the statement that creates it; and the schema version
-- that added it (0: each version has it)
pub record Description : Type 0 where
  pub table : Layout → ℕ → Table
  pub create : List ℕ
  pub since : ℕ

-- where the counters are apart, the vouchers and the sessions have no columns for them
abbrev pub vouchers_by : Layout → ℕ → Table
vouchers_by (Apart keyed) = vouchers_in keyed
vouchers_by Together = vouchers

abbrev pub sessions_by : Layout → ℕ → Table
sessions_by (Apart keyed) = sessions_in keyed
sessions_by Together = sessions

abbrev pub described : OurTable → Description
described our.Head = record { table = λ l. head_in (keeps_clauses l); create = create_head; since = 0 }
described our.Plans = record { table = λ l. plans_in (keeps_clauses l); create = create_plans; since = 0 }
described our.Batches =
    record { table = λ l. batches_in (keeps_clauses l); create = create_batches; since = 0 }
described our.Vouchers = record { table = vouchers_by; create = create_vouchers; since = 0 }
described our.Sessions = record { table = sessions_by; create = create_sessions; since = 0 }
described our.Grants = record { table = λ l. grants_in (keeps_clauses l); create = create_grants; since = 0 }
described our.Counts = record { table = λ l. counts_in (keeps_clauses l); create = create_counts; since = 2 }
described our.Totals = record { table = λ l. totals_in (keeps_clauses l); create = create_totals; since = 2 }
described our.Requests =
    record { table = λ l. requests_in (keeps_clauses l); create = create_requests; since = 3 }

abbrev pub table_in : Layout → OurTable → ℕ → Table
table_in layout x = (described x).table layout

-- in this schema version
abbrev pub table_of : OurTable → ℕ → Table
table_of x = table_in Together x

abbrev pub name_of : OurTable → List ℕ
name_of x = (table_of x 0).name

abbrev pub since : OurTable → ℕ
since x = (described x).since

-- the table is there for counters that are kept apart
abbrev pub is_for_counters : OurTable → Bool
is_for_counters our.Head = false
is_for_counters our.Plans = false
is_for_counters our.Batches = false
is_for_counters our.Vouchers = false
is_for_counters our.Sessions = false
is_for_counters our.Grants = false
is_for_counters our.Counts = true
is_for_counters our.Totals = true
is_for_counters our.Requests = false

-- such a table is in no layout but those that keep the counters apart
abbrev pub IsLaidOut : Bool → Layout → Type 0
IsLaidOut false layout = Unit {0}
IsLaidOut true (Apart keyed) = Unit {0}
IsLaidOut true Together = ⊥

-- a schema version with this layout has the table
abbrev pub IsTableIn : Layout → ℕ → OurTable → Type 0
IsTableIn layout schema_version x = (since x ≤ schema_version) × IsLaidOut (is_for_counters x) layout

abbrev pub create_of : OurTable → List ℕ
create_of x = (described x).create

abbrev pub our_tables : List OurTable
our_tables = our.Head ∷ our.Plans ∷ our.Batches ∷ our.Vouchers ∷ our.Sessions ∷ our.Grants ∷ our.Counts
    ∷ our.Totals ∷ our.Requests ∷ []

-- those of this schema version
abbrev pub current_tables : List OurTable
current_tables = our.Head ∷ our.Plans ∷ our.Batches ∷ our.Vouchers ∷ our.Sessions ∷ our.Grants
    ∷ our.Requests ∷ []

abbrev pub drop_of : OurTable → List ℕ
drop_of our.Head = codes "DROP TABLE portal_head"
drop_of our.Plans = codes "DROP TABLE portal_plans"
drop_of our.Batches = codes "DROP TABLE portal_batches"
drop_of our.Vouchers = codes "DROP TABLE portal_vouchers"
drop_of our.Sessions = codes "DROP TABLE portal_sessions"
drop_of our.Grants = codes "DROP TABLE portal_grants"
drop_of our.Counts = codes "DROP TABLE portal_counts"
drop_of our.Totals = codes "DROP TABLE portal_totals"
drop_of our.Requests = codes "DROP TABLE portal_requests"
