-- The tables of a ledger pass the audit.
use Rattle.portal_tables.proofs.Common.{◌≡◌, ℕ, Bool, true, false, true≢false, cond, Some, List, [], ◌∷◌, map}
use Rattle.portal_tables.proofs.Common.{find, refl, ap, sym, subst, ◌∙◌, ◌&&◌, bytes_eq, bytes_eq-Decides}
use Rattle.portal_tables.proofs.Common.{nat_eq, list_any, is_some, All, AllByRecursion, Has, has_image}
use Rattle.portal_tables.proofs.Common.{has_mapped, agree, recursion_from_All, all_has, IsCode, text_of, Plan}
use Rattle.portal_tables.proofs.Common.{Batch, SessionRow, VoucherRow, GrantRow, CountRow, rows_of}
use Rattle.portal_tables.proofs.Common.{has_duplicate, keys_apart, rows_are_typed, Ledger, IsSound}
use Rattle.portal_tables.proofs.Common.{history_of, all_rows_of, requests_of, the_sound_is_legal, KeptRequest}
use Rattle.portal_tables.proofs.Common.{row_of_request, IsKeptTyped, IsCaller, same_caller, text_of_caller}
use Rattle.portal_tables.proofs.Common.{all_contents_of, this_schema_version, voucher_kept, session_kept}
use Rattle.portal_tables.proofs.Common.{grant_kept, count_kept, code_test, cases_Bool, inl, inr}
use Rattle.std.specs.List.{IsDistinct}
use Rattle.std.specs.Prelude.{IsSome}
use Rattle.std.proofs.Common.{subst₂}
use Rattle.std.proofs.lemmas.Bool.{eqb-true, or_parts}
use Rattle.sqlite_trees.proofs.ListLemmas.{map-map}
use Rattle.portal_model_laws.proofs.References.{places_apart, rows_refer}
use Rattle.portal_ledger.specs.Fingerprint.{same_key as same_mark}
use Rattle.portal_ledger.proofs.Keys.{caller-refl, caller-same}
use Rattle.portal_ledger.proofs.KnownByRow.{the_caller_is_known_by_text}
use Rattle.portal_ledger.proofs.Typed.{the_sound_keeps_typed}
use Rattle.portal_ledger.proofs.UniqueKeys.{the_keys_are_unique}
use Rattle.portal_ledger.specs.declared.caller.Caller.{Caller}
use Rattle.portal_tables_rows.specs.Audit.{AreAmong, HasDistinctKeys, HasReferences, IsAudited, same_key}
use Rattle.portal_tables_rows.specs.Audit.{same_place}
use Rattle.portal_tables_rows.specs.Requests.{key_of}
use Rattle.portal_tables_rows.proofs.KeyLemmas.{distinct_as, distinct_by}
use Rattle.portal_tables.proofs.CountersShown.{counters_shown}

-- ---- keys

-- texts without a duplicate differ
unlike : (x : List ℕ) (xs : List (List ℕ)) → list_any (bytes_eq x) xs ≡ false
    → AllByRecursion (λ y. bytes_eq x y ≡ false) xs
unlike x [] none = tt
unlike x (y ∷ xs) none =
    let parts = or_parts (bytes_eq x y) (list_any (bytes_eq x) xs) none in (parts.0, unlike x xs parts.1)

distinct : (xs : List (List ℕ)) → has_duplicate xs ≡ false → IsDistinct bytes_eq xs
unfolding IsDistinct
distinct [] none = tt
distinct (x ∷ xs) none =
    let parts = or_parts (list_any (bytes_eq x) xs) (has_duplicate xs) none in
    (unlike x xs parts.0, distinct xs parts.1)

-- codes that differ do so when they are printed
printed : {X : Type 0} (code : X → List ℕ) (xs : List X) → All (λ x. IsCode (code x)) xs
    → has_duplicate (map code xs) ≡ false → IsDistinct bytes_eq (map (λ x. text_of (code x)) xs)
printed {X = X} code xs typed none =
    let all = recursion_from_All (λ x. IsCode (code x)) xs typed in
    let each = λ (x : X) (has : Has xs x). all_has (λ y. IsCode (code y)) xs x all has in
    distinct_as bytes_eq bytes_eq code (λ x. text_of (code x)) xs
    (λ x y h k. sym (code_test (code x) (code y) (each x h) (each y k))) (distinct (map code xs) none)

caller_test : (a b : Caller) → IsCaller a → IsCaller b
    → same_caller a b ≡ bytes_eq (text_of_caller a) (text_of_caller b)
caller_test a b is other = agree _ _
    (λ on. (bytes_eq-Decides (text_of_caller a) (text_of_caller b)).1
    (ap text_of_caller (caller-same a b on)))
    (λ on. ap (same_caller a) (sym (the_caller_is_known_by_text a b is other
    ((bytes_eq-Decides (text_of_caller a) (text_of_caller b)).0 on))) ∙ caller-refl a)

requests_distinct : (ks : List KeptRequest) → All IsKeptTyped ks
    → IsDistinct (λ k j. same_mark k.mark j.mark) ks
    → IsDistinct same_key (map key_of (map row_of_request ks))
requests_distinct ks typed apart =
    let all = recursion_from_All IsKeptTyped ks typed in
    let each = λ (k : KeptRequest) (has : Has ks k). all_has IsKeptTyped ks k all has in
    subst (IsDistinct same_key) (sym (map-map key_of row_of_request ks))
    ((distinct_by (λ (k j : KeptRequest). same_mark k.mark j.mark) same_key
    (λ (k : KeptRequest). key_of (row_of_request k)) ks
    (λ k j has also. ap (λ b. b && bytes_eq k.mark.number j.mark.number)
    (caller_test k.mark.caller j.mark.caller (each k has).mark.caller (each j also).mark.caller))).0 apart)

keys_shown : (L : Ledger) → IsSound L → HasDistinctKeys (all_contents_of this_schema_version (all_rows_of L))
keys_shown L s =
    let h = history_of L in
    let legal = the_sound_is_legal L s in
    let r = rows_of h in
    let keys = keys_apart h legal in
    let typed = rows_are_typed h legal in
    record {
      plans = distinct (map (λ (p : Plan). p.id) r.plans) keys.plans;
      batches = distinct (map (λ (b : Batch). b.id) r.batches) keys.batches;
      codes = subst (IsDistinct bytes_eq) (sym (map-map (λ (v : VoucherRow). v.code) voucher_kept r.vouchers))
          (printed (λ (v : VoucherRow). v.code) r.vouchers typed.vouchers keys.codes);
      places = (distinct_by same_place same_place voucher_kept r.vouchers (λ v w has also. refl)).0
          (places_apart h legal);
      counts = subst (IsDistinct bytes_eq) (sym (map-map (λ (k : CountRow). k.code) count_kept r.counts))
          (printed (λ (k : CountRow). k.code) r.counts typed.counts keys.counts);
      requests = requests_distinct (requests_of L) (the_sound_keeps_typed L s) (the_keys_are_unique L s);
    }

-- ---- references

-- what is found by a test is in the list, and passes it
found : {X : Type 0} (test : X → Bool) (xs : List X) → IsSome (find test xs)
    → (x : X) × Has xs x × (test x ≡ true)
found test [] some = absurd (true≢false (sym some))
found test (x ∷ xs) some = elim (cases_Bool (test x)) [
  | inl on ↦ (x, inl refl, on)
  | inr off ↦ let it = found test xs (sym (ap (λ b. is_some (cond b (Some x) (find test xs))) off) ∙ some) in
      (it.0, inr it.1, it.2)
]

-- the rows by one column are among others by another, where each is found
among : {X Y K : Type 0} (of : X → K) (key : Y → K) (e : K → K → Bool) → ((a b : K) → e a b ≡ true → a ≡ b)
    → (xs : List X) (ys : List Y) → All (λ x. IsSome (find (λ y. e (key y) (of x)) ys)) xs
    → AreAmong (map of xs) (map key ys)
among of key e same xs ys all k has =
    let it = has_image of xs k has in
    let some = all_has (λ x. IsSome (find (λ y. e (key y) (of x)) ys)) xs it.0
    (recursion_from_All (λ x. IsSome (find (λ y. e (key y) (of x)) ys)) xs all) it.1 in
    let row = found (λ y. e (key y) (of it.0)) ys some in
    subst (Has (map key ys)) (same (key row.0) (of it.0) row.2 ∙ sym it.2) (has_mapped key ys row.0 row.1)

-- the printed texts of codes that are among others
texts : (xs ys : List (List ℕ)) → AreAmong xs ys → AreAmong (map text_of xs) (map text_of ys)
texts xs ys all text has =
    let it = has_image text_of xs text has in
    subst (Has (map text_of ys)) (sym it.2) (has_mapped text_of ys it.0 (all it.0 it.1))

-- the rows as the tables store them have the printed texts
stored : {X : Type 0} (code : X → List ℕ) (kept : X → X) → ((x : X) → code (kept x) ≡ text_of (code x))
    → (xs : List X) → map text_of (map code xs) ≡ map code (map kept xs)
stored code kept is xs =
    map-map text_of code xs ∙ (λ i. map (λ x. sym (is x) i) xs) ∙ sym (map-map code kept xs)

references_shown : (L : Ledger) → IsSound L
    → HasReferences (all_contents_of this_schema_version (all_rows_of L))
references_shown L s =
    let h = history_of L in
    let legal = the_sound_is_legal L s in
    let r = rows_of h in
    let refer = rows_refer h legal in
    let same = λ (a b : List ℕ) (on : bytes_eq a b ≡ true). (bytes_eq-Decides a b).0 on in
    let vouchers = stored (λ (v : VoucherRow). v.code) voucher_kept (λ v. refl) r.vouchers in
    record {
      batch_plans = among (λ (b : Batch). b.plan) (λ (p : Plan). p.id) bytes_eq same r.batches r.plans
          refer.batch_plans;
      voucher_batches = subst (λ xs. AreAmong xs (map (λ (b : Batch). b.id) r.batches))
          (sym (map-map (λ (v : VoucherRow). v.batch) voucher_kept r.vouchers))
          (among (λ (v : VoucherRow). v.batch) (λ (b : Batch). b.id) bytes_eq same r.vouchers r.batches
          refer.voucher_batches);
      session_plans = subst (λ xs. AreAmong xs (map (λ (p : Plan). p.id) r.plans))
          (sym (map-map (λ (x : SessionRow). x.plan) session_kept r.sessions))
          (among (λ (x : SessionRow). x.plan) (λ (p : Plan). p.id) bytes_eq same r.sessions r.plans
          refer.session_plans);
      grant_codes = subst₂ (λ xs ys. AreAmong {X = List ℕ} xs ys)
          (stored (λ (g : GrantRow). g.code) grant_kept (λ g. refl) r.grants)
          vouchers (texts (map (λ (g : GrantRow). g.code) r.grants)
          (map (λ (v : VoucherRow). v.code) r.vouchers)
          (among (λ (g : GrantRow). g.code) (λ (v : VoucherRow). v.code) bytes_eq same r.grants r.vouchers
          refer.grant_codes));
      grant_sessions = subst₂ (λ xs ys. AreAmong {X = ℕ} xs ys)
          (sym (map-map (λ (g : GrantRow). g.session) grant_kept r.grants))
          (sym (map-map (λ (x : SessionRow). x.number) session_kept r.sessions))
          (among (λ (g : GrantRow). g.session) (λ (x : SessionRow). x.number) nat_eq
          (λ a b on. eqb-true a b on) r.grants r.sessions refer.grant_sessions);
      count_codes = subst₂ (λ xs ys. AreAmong {X = List ℕ} xs ys)
          (stored (λ (k : CountRow). k.code) count_kept (λ k. refl) r.counts)
          vouchers (texts (map (λ (k : CountRow). k.code) r.counts)
          (map (λ (v : VoucherRow). v.code) r.vouchers)
          (among (λ (k : CountRow). k.code) (λ (v : VoucherRow). v.code) bytes_eq same r.counts r.vouchers
          refer.count_codes));
    }

-- ---- the audit

pub audit_shown : (L : Ledger) → IsSound L → IsAudited (all_contents_of this_schema_version (all_rows_of L))
audit_shown L s = record {
  keys = keys_shown L s;
  references = references_shown L s;
  counters =
      counters_shown (map row_of_request (requests_of L)) (history_of L) (the_sound_is_legal L s);
}
