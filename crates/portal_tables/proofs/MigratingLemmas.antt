-- A migrated database holds the ledger that it held.
use Rattle.portal_tables.proofs.Common.{lit<, ◌≡◌, inl, inr, ◌+◌, ◌<◌, ℕ, IsTrue, Bool, cond, Option, None}
use Rattle.portal_tables.proofs.Common.{option_map, List, [], ◌∷◌, ◌++◌, map, filter, count_by, sum_by, refl}
use Rattle.portal_tables.proofs.Common.{sym, ap, ap₂, subst, ◌∙◌, bytes_eq, nat_eq, option_and_then}
use Rattle.portal_tables.proofs.Common.{AllByRecursion, recursion_from_All, sum_by-cons, Trees, Database}
use Rattle.portal_tables.proofs.Common.{State, HasCleanDisk, Survives, IsCode, text_of, Plan, History}
use Rattle.portal_tables.proofs.Common.{limit_or_none, plan_among, Rows, VoucherRow, SessionRow, GrantRow}
use Rattle.portal_tables.proofs.Common.{CountRow, TotalRow, rows_of, count_from, total_from, remaining_of}
use Rattle.portal_tables.proofs.Common.{IsLegal, counts_are_sums, totals_are_sums, rows_are_typed, Represents}
use Rattle.portal_tables.proofs.Common.{at_open, Holds, this_schema_version, rows_for_sums}
use Rattle.portal_tables.proofs.Common.{HaveNoFingerprints, HoldsLedgerIn, CrashStateHoldsEither, Fingerprint}
use Rattle.portal_tables.proofs.Common.{KeptRequest, Accepted, Ledger, IsSound, history_of, answer_in}
use Rattle.portal_tables.proofs.Common.{kept_with, request_kept, requests_of, all_rows_of, RequestRow}
use Rattle.portal_tables.proofs.Common.{row_of_request, the_sound_is_legal, HasMigrated, MayMigrate}
use Rattle.portal_tables.proofs.Common.{version_number, migrated_rows, OldSchema, First, Second, Third}
use Rattle.portal_tables.proofs.Common.{Fifth, Sixth}
use Rattle.portal_tables.proofs.Common.{Fourth, voucher_kept, session_kept, grant_kept, count_kept}
use Rattle.portal_tables.proofs.Common.{contents_of, all_contents_of, HoldsLedger, code_test}
use Rattle.std.proofs.Common.{option_to_list}
use Rattle.portal_model_laws.proofs.Basics.{filter-map}

-- ---- the counts

abbrev one_if : Bool → ℕ
one_if b = cond b 1 0

uses_kept : (code : List ℕ) (gs : List GrantRow) → IsCode code
    → AllByRecursion (λ (g : GrantRow). IsCode g.code) gs
    → count_by (λ (g : GrantRow). bytes_eq g.code (text_of code)) (map grant_kept gs)
    ≡ count_by (λ (g : GrantRow). bytes_eq g.code code) gs
uses_kept code [] is all = refl
uses_kept code (g ∷ gs) is all =
    sum_by-cons (λ (x : GrantRow). one_if (bytes_eq x.code (text_of code))) (grant_kept g) (map grant_kept gs)
    ∙ ap₂ ◌+◌ (ap one_if (code_test g.code code all.0 is)) (uses_kept code gs is all.1)
    ∙ sym (sum_by-cons (λ (x : GrantRow). one_if (bytes_eq x.code code)) g gs)

counts_kept : (gs : List GrantRow) (vs : List VoucherRow)
    → AllByRecursion (λ (g : GrantRow). IsCode g.code) gs
    → AllByRecursion (λ (v : VoucherRow). IsCode v.code) vs
    → map (count_from (map grant_kept gs)) (map voucher_kept vs) ≡ map count_kept (map (count_from gs) vs)
counts_kept gs [] grants vouchers = refl
counts_kept gs (v ∷ vs) grants vouchers =
    ap₂ ◌∷◌
    (ap (λ (n : ℕ). record { code = text_of v.code; redeemed = n }) (uses_kept v.code gs vouchers.0 grants))
    (counts_kept gs vs grants vouchers.1)

-- ---- the totals

sum_kept : (f : GrantRow → ℕ) → ((g : GrantRow) → f (grant_kept g) ≡ f g) → (gs : List GrantRow)
    → sum_by f (map grant_kept gs) ≡ sum_by f gs
sum_kept f same [] = refl
sum_kept f same (g ∷ gs) = sum_by-cons f (grant_kept g) (map grant_kept gs)
    ∙ ap₂ ◌+◌ (same g) (sum_kept f same gs) ∙ sym (sum_by-cons f g gs)

sums_kept : (f : GrantRow → ℕ) → ((g : GrantRow) → f (grant_kept g) ≡ f g) → (number : ℕ) (gs : List GrantRow)
    → sum_by f (filter (λ (g : GrantRow). nat_eq g.session number) (map grant_kept gs))
    ≡ sum_by f (filter (λ (g : GrantRow). nat_eq g.session number) gs)
sums_kept f same number gs =
    ap (sum_by f) (filter-map grant_kept (λ (g : GrantRow). nat_eq g.session number) gs)
    ∙ sum_kept f same (filter (λ (g : GrantRow). nat_eq g.session number) gs)

abbrev total_given : List Plan → SessionRow → ℕ → ℕ → TotalRow
total_given plans s seconds bytes = record {
  number = s.number;
  ends =
      option_and_then (λ (p : Plan). limit_or_none p.seconds (s.opened + seconds)) (plan_among plans s.plan);
  remaining = remaining_of s.used
      (option_and_then (λ (p : Plan). limit_or_none p.bytes bytes) (plan_among plans s.plan));
}

totals_kept : (r : Rows) (ss : List SessionRow)
    → map (total_from (rows_for_sums r.plans (map grant_kept r.grants))) (map session_kept ss)
    ≡ map (total_from r) ss
totals_kept r [] = refl
totals_kept r (s ∷ ss) =
    ap₂ ◌∷◌ (ap₂ (total_given r.plans s) (sums_kept (λ (g : GrantRow). g.seconds) (λ g. refl) s.number
    r.grants) (sums_kept (λ (g : GrantRow). g.bytes) (λ g. refl) s.number r.grants)) (totals_kept r ss)

-- the rows of a history in schema version 1, migrated, are its rows in this version
first_is : (ks : List RequestRow) (h : History) → IsLegal h
    → migrated_rows First (contents_of ks 1 (rows_of h)) ≡ contents_of [] this_schema_version (rows_of h)
first_is ks h legal =
    let r = rows_of h in
    let typed = rows_are_typed h legal in
    let grants = recursion_from_All (λ (g : GrantRow). IsCode g.code) r.grants typed.grants in
    let vouchers = recursion_from_All (λ (v : VoucherRow). IsCode v.code) r.vouchers typed.vouchers in
    ap₂ (λ (counts : List CountRow) (ms : List TotalRow).
    record (contents_of [] this_schema_version r) { counts = counts; totals = ms })
    (counts_kept r.grants r.vouchers grants vouchers ∙ sym (ap (map count_kept) (counts_are_sums h legal)))
    (totals_kept r r.sessions ∙ sym (totals_are_sums h legal))

-- if no request has an idempotency key, none is stored
none_kept : (L : Ledger) → AllByRecursion (λ (a : Accepted). a.mark ≡ None) L → requests_of L ≡ []
none_kept [] all = refl
none_kept (a ∷ L) all =
    let none : request_kept (history_of L) a ≡ None =
    ap (option_and_then (λ (mark : Fingerprint). option_map (kept_with mark) (answer_in (history_of L) a)))
    all.0 in
    ap₂ (λ (ks : List KeptRequest) (o : Option KeptRequest). ks ++ option_to_list o) (none_kept L all.1) none

unmarked : (L : Ledger) → HaveNoFingerprints L → map row_of_request (requests_of L) ≡ []
unmarked L all =
    ap (map row_of_request) (none_kept L (recursion_from_All (λ (a : Accepted). a.mark ≡ None) L all))

-- the rows of a ledger that an older schema version can hold, migrated, are its rows in this version
pub upgraded_is : (from : OldSchema) (L : Ledger) → IsSound L
    → (version_number from < 3 → HaveNoFingerprints L)
    → migrated_rows from (all_contents_of (version_number from) (all_rows_of L))
    ≡ all_contents_of this_schema_version (all_rows_of L)
upgraded_is First L sound few =
    let H = history_of L in
    first_is (map row_of_request (requests_of L)) H (the_sound_is_legal L sound)
    ∙ ap (λ (ks : List RequestRow). contents_of ks this_schema_version (rows_of H))
    (sym (unmarked L (few (lit< tt))))
upgraded_is Second L sound few =
    ap (λ (ks : List RequestRow). contents_of ks this_schema_version (rows_of (history_of L)))
    (sym (unmarked L (few (lit< tt))))
upgraded_is Third L sound few = refl
upgraded_is Fourth L sound few = refl
upgraded_is Fifth L sound few = refl
upgraded_is Sixth L sound few = refl

-- ---- what a connection represents

pub upgraded_shows : (from : OldSchema) (L : Ledger) (db : Database)
    → IsSound L → (version_number from < 3 → HaveNoFingerprints L)
    → Holds db (migrated_rows from (all_contents_of (version_number from) (all_rows_of L))) → HoldsLedger L db
upgraded_shows from L db sound few holds = (sound, subst (Holds db) (upgraded_is from L sound few) holds)

module _ (from : OldSchema) (L : Ledger) (old new : State)
    (at : Represents (HoldsLedgerIn (version_number from) L) old) where
  pub upgraded_at : ((db : Trees) → IsTrue new.is_open → new.may_leave db → db ≡ new.committed.trees)
      → HasMigrated from old new → Represents (HoldsLedger L) new
  upgraded_at law did =
      let holds = did.holds (all_contents_of (version_number from) (all_rows_of L)) at.shown.holds in
      at_open (HoldsLedger L) new law did.is_open did.ended (sym did.committed) holds.sound
      (upgraded_shows from L new.now at.shown.sound at.shown.unmarked holds)

  pub left_in_either : HasCleanDisk new → Survives old new (MayMigrate from old) → (trees : Trees)
      → new.may_leave trees → CrashStateHoldsEither from L trees
  left_in_either clean survives trees may = elim (survives.crash clean trees may) [
    | inl was ↦ inl (at.left trees was)
    | inr made ↦
        let it = (made at.is_open (all_contents_of (version_number from) (all_rows_of L)) at.shown.holds).0 in
        inr (
          it.0,
          it.1,
          upgraded_shows from L (record { schema = it.0; trees = trees })
              at.shown.sound at.shown.unmarked it.2,
        )
  ]
