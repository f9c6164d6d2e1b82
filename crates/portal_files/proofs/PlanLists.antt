-- The array of a plans file, and the list of its plans.
use Rattle.portal_files.proofs.Common.{◌≡◌, ℕ, ◌+◌, ◌<◌, Bool, true, ◌||◌, List, [], ◌∷◌, ◌++◌, length}
use Rattle.portal_files.proofs.Common.{get_or, drop, codes, map, Option, Some, None, option_map, Vec, zero}
use Rattle.portal_files.proofs.Common.{suc, Ordering, Less, Equal, Greater, nat_cmp, is_eq, Bor, refl, ap}
use Rattle.portal_files.proofs.Common.{sym, ◌∙◌, arith, IfSome, bytes_eq, list_any, has_duplicate_id}
use Rattle.portal_files.proofs.Common.{match_ordering, Plan, IsPlanData, ArePlanTables, member_count, Data}
use Rattle.portal_files.proofs.Common.{array, Items, no_items, item, Members, no_members, member, get_member}
use Rattle.portal_files.proofs.Common.{push_item, as_array, view, items_view, array_view, Value}
use Rattle.std.proofs.Common.{Global}
use Rattle.std.proofs.lemmas.List.{drop_more}
use Rattle.std.specs.Cmp.Lexicographic.{slice_cmp}
use Rattle.std.proofs.lemmas.Map.Text.{is_eq-slice_cmp}
use Rattle.std.proofs.lemmas.Slice.Eq.{bytes_eq-Decides}

-- The only member

one-key : (o : Ordering) (x d : Data) → Some d ≡ match_ordering o None (Some x) None
    → (is_eq o ≡ true) × (x ≡ d)
one-key Less x d e = cc
one-key Equal x d e = (refl, cc)
one-key Greater x d e = cc

pub only-member : (ms : Members) (k : List ℕ) (d : Data) → member_count ms ≡ 1 → Some d ≡ get_member k ms
    → ms ≡ member k d no_members
only-member no_members k d c e = absurd (omega arith)
only-member (member l x no_members) k d c e =
    let (same, value) = one-key (slice_cmp nat_cmp k l) x d e in
    let keys : k ≡ l = (bytes_eq-Decides k l).0 (sym (is_eq-slice_cmp k l) ∙ same) in
    cc
only-member (member l x (member m y ms)) k d c e = absurd (omega arith)

pub found-array : (r : Option (Bor (Vec Value Global))) (d : Data) (ms : Members)
    → option_map (λ v. array_view v.now) r ≡ as_array d
    → member_count ms ≡ 1 → Some d ≡ get_member (codes "plan") ms
    → IfSome r (λ a. ms ≡ member (codes "plan") (array (array_view a.now)) no_members)
found-array None d ms e c g = tt
found-array (Some a) (array ds) ms e c g =
    let same : array_view a.now ≡ ds = cc in
    only-member ms (codes "plan") (array ds) c g
    ∙ ap (λ x. member (codes "plan") (array x) no_members) (sym same)
found-array (Some a) _ ms e c g = cc

pub no-array : (r : Option (Bor (Vec Value Global))) (d : Data) (ms : Members) (items : Items)
    → option_map (λ v. array_view v.now) r ≡ as_array d
    → Some d ≡ get_member (codes "plan") ms → r ≡ None
    → ms ≡ member (codes "plan") (array items) no_members → ⊥
no-array r d ms items e g n is =
    let at : get_member (codes "plan") ms ≡ Some (array items) = ap (get_member (codes "plan")) is in
    let same : d ≡ array items = cc in
    let found : option_map (λ v. array_view v.now) r ≡ Some items = e ∙ ap as_array same in
    let gone : None ≡ Some items = sym (ap (option_map (λ v. array_view v.now)) n) ∙ found in
    cc

pub no-member : (ms : Members) (items : Items) → None ≡ get_member (codes "plan") ms
    → ms ≡ member (codes "plan") (array items) no_members → ⊥
no-member ms items g is =
    let at : get_member (codes "plan") ms ≡ Some (array items) = ap (get_member (codes "plan")) is in
    let gone : None ≡ Some (array items) = g ∙ at in
    cc

-- The list of plans

pub tables-push : (items : Items) (ps : List Plan) (d : Data) (p : Plan) → ArePlanTables items ps
    → IsPlanData d p → ArePlanTables (push_item items d) (ps ++ p ∷ [])
tables-push no_items [] d p all one = (one, tt)
tables-push no_items (q ∷ ps) d p all one = absurd all
tables-push (item e items) [] d p all one = absurd all
tables-push (item e items) (q ∷ ps) d p all one = (all.0, tables-push items ps d p all.1 one)

pub no-table_at : (vs : List Value) (ps : List Plan) (i : ℕ) (v : Value) → i < length vs
    → ArePlanTables (items_view vs) ps
    → ((p : Plan) → IsPlanData (view (get_or vs i v)) p → ⊥) → ⊥
no-table_at [] ps i v h all none = absurd (omega arith)
no-table_at (w ∷ vs) [] i v h all none = all
no-table_at (w ∷ vs) (p ∷ ps) zero v h all none = none p all.0
no-table_at (w ∷ vs) (p ∷ ps) (suc i) v h all none = no-table_at vs ps i v (omega arith) all.1 none

pub tables-length : (vs : List Value) (ps : List Plan)
    → ArePlanTables (items_view vs) ps → length ps ≡ length vs
tables-length [] [] all = refl
tables-length [] (p ∷ ps) all = absurd all
tables-length (v ∷ vs) [] all = absurd all
tables-length (v ∷ vs) (p ∷ ps) all = omega (arith, tables-length vs ps all.1)

pub has_duplicate_id-drop : (plans : List Plan) (i : ℕ) (p : Plan) → i < length plans → p ≡ get_or plans i p
    → has_duplicate_id (drop i plans) ≡ (list_any (bytes_eq p.id) (map (λ q. q.id) (drop (i + 1) plans))
    || has_duplicate_id (drop (i + 1) plans))
has_duplicate_id-drop plans i p h is =
    ap has_duplicate_id (drop_more plans i p h)
    ∙ ap (λ x. list_any (bytes_eq x.id) (map (λ q. q.id) (drop (i + 1) plans))
    || has_duplicate_id (drop (i + 1) plans)) (sym is)

-- a test of each element's image
pub list_any-map : {A B : Type 0} (f : B → Bool) (g : A → B) (xs : List A)
    → list_any (λ x. f (g x)) xs ≡ list_any f (map g xs)
list_any-map f g [] = refl
list_any-map f g (x ∷ xs) = ap (λ b. f (g x) || b) (list_any-map f g xs)
