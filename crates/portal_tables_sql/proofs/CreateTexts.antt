-- The texts that make the tables, under any schema.
use Rattle.portal_tables_sql.proofs.Common.{refl}
use Rattle.portal_tables_sql.proofs.Makes.{IsCreate}
use Rattle.portal_tables_sql.specs.Tables.{head, plans, batches, vouchers, sessions, grants, counts, totals}
use Rattle.portal_tables_sql.specs.Tables.{requests, create_head, create_plans, create_batches}
use Rattle.portal_tables_sql.specs.Tables.{create_vouchers, create_sessions, create_grants, create_counts}
use Rattle.portal_tables_sql.specs.Tables.{create_totals, create_requests}
use Rattle.sqlite_tied.specs.Compute.{everything}

pub makes_head : IsCreate create_head (head 0)
unfolding everything
makes_head = record {
  statement = _;
  text = record { parsed = _; read = refl; is = refl; timeless = refl; counted = refl; whole = refl };
  untimed = λ schema. refl;
  unshown = λ schema base. refl;
  makes = λ schema base. refl;
  defines = refl;
  whole = refl;
}

pub makes_plans : IsCreate create_plans (plans 0)
unfolding everything
makes_plans = record {
  statement = _;
  text = record { parsed = _; read = refl; is = refl; timeless = refl; counted = refl; whole = refl };
  untimed = λ schema. refl;
  unshown = λ schema base. refl;
  makes = λ schema base. refl;
  defines = refl;
  whole = refl;
}

pub makes_batches : IsCreate create_batches (batches 0)
unfolding everything
makes_batches = record {
  statement = _;
  text = record { parsed = _; read = refl; is = refl; timeless = refl; counted = refl; whole = refl };
  untimed = λ schema. refl;
  unshown = λ schema base. refl;
  makes = λ schema base. refl;
  defines = refl;
  whole = refl;
}

pub makes_vouchers : IsCreate create_vouchers (vouchers 0)
unfolding everything
makes_vouchers = record {
  statement = _;
  text = record { parsed = _; read = refl; is = refl; timeless = refl; counted = refl; whole = refl };
  untimed = λ schema. refl;
  unshown = λ schema base. refl;
  makes = λ schema base. refl;
  defines = refl;
  whole = refl;
}

pub makes_sessions : IsCreate create_sessions (sessions 0)
unfolding everything
makes_sessions = record {
  statement = _;
  text = record { parsed = _; read = refl; is = refl; timeless = refl; counted = refl; whole = refl };
  untimed = λ schema. refl;
  unshown = λ schema base. refl;
  makes = λ schema base. refl;
  defines = refl;
  whole = refl;
}

pub makes_grants : IsCreate create_grants (grants 0)
unfolding everything
makes_grants = record {
  statement = _;
  text = record { parsed = _; read = refl; is = refl; timeless = refl; counted = refl; whole = refl };
  untimed = λ schema. refl;
  unshown = λ schema base. refl;
  makes = λ schema base. refl;
  defines = refl;
  whole = refl;
}

pub makes_counts : IsCreate create_counts (counts 0)
unfolding everything
makes_counts = record {
  statement = _;
  text = record { parsed = _; read = refl; is = refl; timeless = refl; counted = refl; whole = refl };
  untimed = λ schema. refl;
  unshown = λ schema base. refl;
  makes = λ schema base. refl;
  defines = refl;
  whole = refl;
}

pub makes_totals : IsCreate create_totals (totals 0)
unfolding everything
makes_totals = record {
  statement = _;
  text = record { parsed = _; read = refl; is = refl; timeless = refl; counted = refl; whole = refl };
  untimed = λ schema. refl;
  unshown = λ schema base. refl;
  makes = λ schema base. refl;
  defines = refl;
  whole = refl;
}

pub makes_requests : IsCreate create_requests (requests 0)
unfolding everything
makes_requests = record {
  statement = _;
  text = record { parsed = _; read = refl; is = refl; timeless = refl; counted = refl; whole = refl };
  untimed = λ schema. refl;
  unshown = λ schema base. refl;
  makes = λ schema base. refl;
  defines = refl;
  whole = refl;
}
