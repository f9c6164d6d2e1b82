-- The texts that drop the tables, under any schema.
use Rattle.portal_tables_sql.proofs.Common.{refl}
use Rattle.portal_tables_sql.proofs.Drops.{IsDrop}
use Rattle.portal_tables_sql.specs.Tables.{drop_of}
use Rattle.portal_tables_sql.specs.Tables.{name_of}
use Rattle.portal_tables_sql.specs.declared.our_tables.OurTable.{OurTable}
use Rattle.portal_tables_sql.specs.declared.our_tables.OurTable.TheVariants as our
use Rattle.sqlite_tied.specs.Compute.{everything}

pub drops_table : (x : OurTable) → IsDrop (drop_of x) (name_of x)
unfolding everything
drops_table our.Head = record {
  statement = _;
  text = record { parsed = _; read = refl; is = refl; timeless = refl; counted = refl; whole = refl };
  untimed = λ schema. refl;
  unshown = λ schema base. refl;
  drops = λ schema at named base. simp (named) refl;
}
drops_table our.Plans = record {
  statement = _;
  text = record { parsed = _; read = refl; is = refl; timeless = refl; counted = refl; whole = refl };
  untimed = λ schema. refl;
  unshown = λ schema base. refl;
  drops = λ schema at named base. simp (named) refl;
}
drops_table our.Batches = record {
  statement = _;
  text = record { parsed = _; read = refl; is = refl; timeless = refl; counted = refl; whole = refl };
  untimed = λ schema. refl;
  unshown = λ schema base. refl;
  drops = λ schema at named base. simp (named) refl;
}
drops_table our.Vouchers = record {
  statement = _;
  text = record { parsed = _; read = refl; is = refl; timeless = refl; counted = refl; whole = refl };
  untimed = λ schema. refl;
  unshown = λ schema base. refl;
  drops = λ schema at named base. simp (named) refl;
}
drops_table our.Sessions = record {
  statement = _;
  text = record { parsed = _; read = refl; is = refl; timeless = refl; counted = refl; whole = refl };
  untimed = λ schema. refl;
  unshown = λ schema base. refl;
  drops = λ schema at named base. simp (named) refl;
}
drops_table our.Grants = record {
  statement = _;
  text = record { parsed = _; read = refl; is = refl; timeless = refl; counted = refl; whole = refl };
  untimed = λ schema. refl;
  unshown = λ schema base. refl;
  drops = λ schema at named base. simp (named) refl;
}
drops_table our.Counts = record {
  statement = _;
  text = record { parsed = _; read = refl; is = refl; timeless = refl; counted = refl; whole = refl };
  untimed = λ schema. refl;
  unshown = λ schema base. refl;
  drops = λ schema at named base. simp (named) refl;
}
drops_table our.Totals = record {
  statement = _;
  text = record { parsed = _; read = refl; is = refl; timeless = refl; counted = refl; whole = refl };
  untimed = λ schema. refl;
  unshown = λ schema base. refl;
  drops = λ schema at named base. simp (named) refl;
}
drops_table our.Requests = record {
  statement = _;
  text = record { parsed = _; read = refl; is = refl; timeless = refl; counted = refl; whole = refl };
  untimed = λ schema. refl;
  unshown = λ schema base. refl;
  drops = λ schema at named base. simp (named) refl;
}
