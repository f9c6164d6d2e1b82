-- A table fixes its plan, and a file its plans.
use Rattle.portal_files.proofs.Common.{◌≡◌, ℕ, List, [], ◌∷◌, codes, Some, refl, ap, sym, ◌∙◌, subst, Plan}
use Rattle.portal_files.proofs.Common.{IsPlanTable, IsPlanData, ArePlanTables, IsPlansFile, Data, array}
use Rattle.portal_files.proofs.Common.{table, Items, no_items, item, Members, no_members, member}
use Rattle.portal_files.proofs.Common.{parse_document}
use Rattle.portal_model.proofs.SamePlan.{same-plan}

pub same-table : (ms : Members) (p q : Plan) → IsPlanTable ms p → IsPlanTable ms q → p ≡ q
same-table ms p q is so =
    let id : p.id ≡ q.id = cc (is.id, so.id) in
    let price : p.price ≡ q.price = cc (is.price, so.price) in
    let uses : p.uses ≡ q.uses = cc (is.uses, so.uses) in
    let seconds : p.seconds ≡ q.seconds = cc (is.seconds, so.seconds) in
    let bytes : p.bytes ≡ q.bytes = cc (is.bytes, so.bytes) in
    let shelf_days : p.shelf_days ≡ q.shelf_days = cc (is.shelf_days, so.shelf_days) in
    let extend : p.extend ≡ q.extend = cc (is.extend, so.extend) in
    same-plan p q (λ i. record {
      id = id i;
      price = price i;
      uses = uses i;
      seconds = seconds i;
      bytes = bytes i;
      shelf_days = shelf_days i;
      extend = extend i;
    })

same-data : (d : Data) (p q : Plan) → IsPlanData d p → IsPlanData d q → p ≡ q
same-data (table ms) p q is so = same-table ms p q is so
same-data _ p q is so = absurd is

pub equal-plans : (items : Items) (ps qs : List Plan) → ArePlanTables items ps
    → ArePlanTables items qs → ps ≡ qs
equal-plans no_items [] [] is so = refl
equal-plans no_items [] (q ∷ qs) is so = absurd so
equal-plans no_items (p ∷ ps) qs is so = absurd is
equal-plans (item d items) [] qs is so = absurd is
equal-plans (item d items) (p ∷ ps) [] is so = absurd so
equal-plans (item d items) (p ∷ ps) (q ∷ qs) is so =
    let first : p ≡ q = same-data d p q is.0 so.0 in
    let rest : ps ≡ qs = equal-plans items ps qs is.1 so.1 in
    λ i. first i ∷ rest i

pub same-file : (bytes : List ℕ) (ps qs : List Plan) → IsPlansFile bytes ps → IsPlansFile bytes qs → ps ≡ qs
same-file bytes ps qs is so =
    let document : Some (member (codes "plan") (array is.items) no_members)
    ≡ Some (member (codes "plan") (array so.items) no_members) = sym is.document ∙ so.document in
    let items : is.items ≡ so.items = cc (document) in
    equal-plans so.items ps qs (subst (λ x. ArePlanTables x ps) items is.tables) so.tables

-- the plans of a file are those of the array that was found
pub file-tables : {bytes : List ℕ} {t : Members} {found : Items} {plans : List Plan} → IsPlansFile bytes plans
    → parse_document bytes ≡ Some t
    → t ≡ member (codes "plan") (array found) no_members → ArePlanTables found plans
file-tables {bytes} {t} {found} {plans} file read is =
    let document : Some (member (codes "plan") (array found) no_members)
    ≡ Some (member (codes "plan") (array file.items) no_members) = sym (read ∙ ap Some is) ∙ file.document in
    let items : found ≡ file.items = cc (document) in
    subst (λ x. ArePlanTables x plans) (sym items) file.tables
