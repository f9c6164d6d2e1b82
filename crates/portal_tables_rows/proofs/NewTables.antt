-- What a database holds in which the product's tables were created.
use Rattle.portal_tables_rows.proofs.Common.{inl, inr, List, [], ◌∷◌, refl, sym, subst, Database, Has}
use Rattle.portal_tables_rows.proofs.Common.{IsTableAt, HoldsIn, TablePlace, this_schema_version}
use Rattle.portal_tables_rows.proofs.Common.{AreNamesFree}
use Rattle.portal_tables_rows.proofs.Common.{no_rows, whole_row, less_rowid, head_stored, plan_cells}
use Rattle.portal_tables_rows.proofs.Common.{batch_cells, whole_voucher_cells, whole_session_stored}
use Rattle.portal_tables_rows.proofs.Common.{grant_stored, request_cells}
use Rattle.sqlite.specs.Effect.{IsDatabase}
use Rattle.portal_tables_sql.specs.Tables.{IsTableIn, Together, current_tables, table_of}
use Rattle.portal_tables_sql.proofs.TableLemmas.{tree_is}
use Rattle.portal_tables_sql.specs.declared.our_tables.OurTable.{OurTable}
use Rattle.portal_tables_sql.specs.declared.our_tables.OurTable.TheVariants as our
use Rattle.portal_tables_rows.specs.Holds.{StoresIn}
use Rattle.portal_tables_rows.specs.Creation.{HaveMade}
use Rattle.portal_tables_rows.proofs.CreateLemmas.{ready_at, stores_none}
use Rattle.portal_tables_rows.proofs.MakeLemmas.{IsNew, all_new}

still_sound : (xs : List OurTable) (db after : Database) → HaveMade xs db after
    → IsDatabase db → IsDatabase after
still_sound [] db after same sound = subst IsDatabase (sym same) sound
still_sound (x ∷ xs) db after made sound = still_sound xs made.0 after made.2 made.1.sound

sound_made : (xs : List OurTable) (db after : Database) → HaveMade xs db after → (x : OurTable)
    → Has xs x → IsDatabase after
sound_made [] db after made x has = absurd has
sound_made (y ∷ ys) db after made x has = still_sound ys made.0 after made.2 made.1.sound

-- a table that is new exists
new_at : (after : Database) (x : OurTable) (new : IsNew after x) → IsTableAt after.schema (table_of x) new.0
new_at after x new = ready_at after (table_of x) new.0 (tree_is Together x new.0.tree) new.1

-- and stores no rows
module _ (after : Database) (new : (x : OurTable) → Has current_tables x → IsNew after x) where
  abbrev head_there : IsNew after our.Head
  head_there = new our.Head (inl refl)

  abbrev plans_there : IsNew after our.Plans
  plans_there = new our.Plans (inr (inl refl))

  abbrev batches_there : IsNew after our.Batches
  batches_there = new our.Batches (inr (inr (inl refl)))

  abbrev vouchers_there : IsNew after our.Vouchers
  vouchers_there = new our.Vouchers (inr (inr (inr (inl refl))))

  abbrev sessions_there : IsNew after our.Sessions
  sessions_there = new our.Sessions (inr (inr (inr (inr (inl refl)))))

  abbrev grants_there : IsNew after our.Grants
  grants_there = new our.Grants (inr (inr (inr (inr (inr (inl refl))))))

  abbrev requests_there : IsNew after our.Requests
  requests_there = new our.Requests (inr (inr (inr (inr (inr (inr (inl refl)))))))

  -- where each is; a table that this version does not have is nowhere, and its place is not asked for
  abbrev place_there : OurTable → TablePlace
  place_there our.Head = head_there.0
  place_there our.Plans = plans_there.0
  place_there our.Batches = batches_there.0
  place_there our.Vouchers = vouchers_there.0
  place_there our.Sessions = sessions_there.0
  place_there our.Grants = grants_there.0
  place_there our.Counts = head_there.0
  place_there our.Totals = head_there.0
  place_there our.Requests = requests_there.0

  tables_there : (x : OurTable) → IsTableIn Together this_schema_version x
      → IsTableAt after.schema (table_of x) (place_there x)
  tables_there our.Head on = new_at after our.Head head_there
  tables_there our.Plans on = new_at after our.Plans plans_there
  tables_there our.Batches on = new_at after our.Batches batches_there
  tables_there our.Vouchers on = new_at after our.Vouchers vouchers_there
  tables_there our.Sessions on = new_at after our.Sessions sessions_there
  tables_there our.Grants on = new_at after our.Grants grants_there
  tables_there our.Counts on = absurd on.1
  tables_there our.Totals on = absurd on.1
  tables_there our.Requests on = new_at after our.Requests requests_there

  store_there : (x : OurTable) → IsTableIn Together this_schema_version x
      → StoresIn Together x (after.trees (place_there x).tree) no_rows
  store_there our.Head on = stores_none whole_row head_stored _ head_there.1.empty
  store_there our.Plans on = stores_none less_rowid plan_cells _ plans_there.1.empty
  store_there our.Batches on = stores_none less_rowid batch_cells _ batches_there.1.empty
  store_there our.Vouchers on = record {
    whole = [];
    stored = stores_none less_rowid whole_voucher_cells _ vouchers_there.1.empty;
    their_rows = refl;
    their_counts = refl;
  }
  store_there our.Sessions on = record {
    whole = [];
    stored = stores_none whole_row whole_session_stored _ sessions_there.1.empty;
    their_rows = refl;
    their_totals = refl;
  }
  store_there our.Grants on = stores_none whole_row grant_stored _ grants_there.1.empty
  store_there our.Counts on = absurd on.1
  store_there our.Totals on = absurd on.1
  store_there our.Requests on = stores_none less_rowid request_cells _ requests_there.1.empty

-- all of them, in a database that has none
pub made_holds : (db after : Database) → AreNamesFree db.schema → HaveMade current_tables db after
    → HoldsIn this_schema_version [] after no_rows
made_holds db after free made =
    let new = all_new current_tables db after (λ y has. free.unacted y) made in
    record {
      places = place_there after new;
      tables_exist = record { tables = tables_there after new; indexed = λ x on. absurd on };
      store = store_there after new;
      sound = sound_made current_tables db after made our.Head (inl refl);
    }
