-- The content of a plans file.
use Rattle.std.specs.Prelude.{◌≡◌, ℕ, ◌+◌, ◌≤◌, false, List, [], ◌∷◌, length, codes, pos, IsUtf8, Some}
use Rattle.portal_model.specs.declared.plan.Plan.{Plan}
use Rattle.portal_model.specs.Verdict.{has_duplicate_id}
use Rattle.toml.specs.Data.{Data, string, integer, boolean, array, table, Items, no_items, item, Members}
use Rattle.toml.specs.Data.{no_members, member, get_member}
use Rattle.toml.specs.Parse.{parse_document}

-- the number of keys of a table
abbrev pub member_count : Members → ℕ
member_count no_members = 0
member_count (member k d ms) = member_count ms + 1

-- A table with exactly the seven keys of this plan.
pub record IsPlanTable (ms : Members) (p : Plan) : Type 0 where
  pub seven : member_count ms ≡ 7
  pub id : get_member (codes "id") ms ≡ Some (string p.id)
  pub price : get_member (codes "price") ms ≡ Some (integer (pos p.price))
  pub uses : get_member (codes "uses") ms ≡ Some (integer (pos p.uses))
  pub seconds : get_member (codes "seconds") ms ≡ Some (integer (pos p.seconds))
  pub bytes : get_member (codes "bytes") ms ≡ Some (integer (pos p.bytes))
  pub shelf_days : get_member (codes "shelf_days") ms ≡ Some (integer (pos p.shelf_days))
  pub extend : get_member (codes "extend") ms ≡ Some (boolean p.extend)

-- a value that is the table of this plan
abbrev pub IsPlanData : Data → Plan → Type 0
IsPlanData (table ms) p = IsPlanTable ms p
IsPlanData _ p = ⊥

-- each item is the table of the plan at its place
abbrev pub ArePlanTables : Items → List Plan → Type 0
ArePlanTables no_items [] = Unit {0}
ArePlanTables (item d items) (p ∷ ps) = IsPlanData d p × ArePlanTables items ps
ArePlanTables _ _ = ⊥

-- The bytes are a file of these plans.
pub record IsPlansFile (bytes : List ℕ) (plans : List Plan) : Type 0 where
  pub items : Items
  pub utf8 : IsUtf8 bytes
  pub document : parse_document bytes ≡ Some (member (codes "plan") (array items) no_members)
  pub tables : ArePlanTables items plans
  pub least : 1 ≤ length plans
  pub most : length plans ≤ 500
  pub distinct : has_duplicate_id plans ≡ false
