-- What was read of a table, and the plan that it is.
use Rattle.portal_files.proofs.Common.{◌≡◌, ℕ, Bool, pos, List, [], ◌∷◌, length, codes, Option, Some, None}
use Rattle.portal_files.proofs.Common.{Result, Ok, Err, IfOk, refl, ap, sym, ◌∙◌, arith, subst}
use Rattle.portal_files.proofs.Common.{option_and_then, String, IfSome, IfErr, Plan, IsIdText, AreTerms}
use Rattle.portal_files.proofs.Common.{IsPlanOf, IsPlanTable, member_count, Data, string, integer, boolean}
use Rattle.portal_files.proofs.Common.{Members, get_member, as_bool, as_str, members_view, Value}
use Rattle.std.specs.Result.{result_ok}
use Rattle.std.specs.declared.alloc.Global.{Global}

pub member_count-view : (es : List (String Global × Value)) → member_count (members_view es) ≡ length es
member_count-view [] = refl
member_count-view (e ∷ es) = omega (arith, member_count-view es)

bool-is : (o : Option Data) (z : Bool) → Some z ≡ option_and_then as_bool o → o ≡ Some (boolean z)
bool-is (Some (boolean b)) z e = cc
bool-is _ z e = cc

pub string-is : (o : Option Data) (z : List ℕ) → Some z ≡ option_and_then as_str o → o ≡ Some (string z)
string-is (Some (string s)) z e = cc
string-is _ z e = cc

-- what was read under each key
pub record WasRead (ms : Members) (id : List ℕ) (price uses seconds bytes shelf_days : ℕ)
    (extend : Bool) : Type 0 where
  pub seven : member_count ms ≡ 7
  pub id_is : Some id ≡ option_and_then as_str (get_member (codes "id") ms)
  pub price_is : get_member (codes "price") ms ≡ Some (integer (pos price))
  pub uses_is : get_member (codes "uses") ms ≡ Some (integer (pos uses))
  pub seconds_is : get_member (codes "seconds") ms ≡ Some (integer (pos seconds))
  pub bytes_is : get_member (codes "bytes") ms ≡ Some (integer (pos bytes))
  pub shelf_days_is : get_member (codes "shelf_days") ms ≡ Some (integer (pos shelf_days))
  pub extend_is : Some extend ≡ option_and_then as_bool (get_member (codes "extend") ms)

-- the same number, read under the same key
same-number : (o : Option Data) (m n : ℕ) → o ≡ Some (integer (pos m)) → o ≡ Some (integer (pos n)) → m ≡ n
same-number o m n e f = cc

pub plan-table : {ms : Members} {id : List ℕ} {price uses seconds bytes shelf_days : ℕ}
    {extend : Bool} (p : Plan)
    → WasRead ms id price uses seconds bytes shelf_days extend
    → IsPlanOf id price uses seconds bytes shelf_days extend p → IsPlanTable ms p
plan-table p read is = record {
  seven = read.seven;
  id = string-is _ _ read.id_is ∙ ap (λ x. Some (string x)) (sym is.id_is);
  price = read.price_is ∙ ap (λ n. Some (integer (pos n))) (sym is.price_is);
  uses = read.uses_is ∙ ap (λ n. Some (integer (pos n))) (sym is.uses_is);
  seconds = read.seconds_is ∙ ap (λ n. Some (integer (pos n))) (sym is.seconds_is);
  bytes = read.bytes_is ∙ ap (λ n. Some (integer (pos n))) (sym is.bytes_is);
  shelf_days = read.shelf_days_is ∙ ap (λ n. Some (integer (pos n))) (sym is.shelf_days_is);
  extend = bool-is _ _ read.extend_is ∙ ap (λ x. Some (boolean x)) (sym is.extend_is);
}

pub table-terms : {ms : Members} {id : List ℕ} {price uses seconds bytes shelf_days : ℕ}
    {extend : Bool} (p : Plan)
    → WasRead ms id price uses seconds bytes shelf_days extend → IsPlanTable ms p
    → AreTerms price uses seconds bytes shelf_days
table-terms {price} {uses} {seconds} {bytes} {shelf_days} p read is =
    let price_is : p.price ≡ price = same-number _ _ _ is.price read.price_is in
    let uses_is : p.uses ≡ uses = same-number _ _ _ is.uses read.uses_is in
    let seconds_is : p.seconds ≡ seconds = same-number _ _ _ is.seconds read.seconds_is in
    let bytes_is : p.bytes ≡ bytes = same-number _ _ _ is.bytes read.bytes_is in
    let shelf_is : p.shelf_days ≡ shelf_days = same-number _ _ _ is.shelf_days read.shelf_days_is in
    record {
      price_limit = omega (arith, p.price_limit);
      uses_least = omega (arith, p.uses_least);
      uses_limit = omega (arith, p.uses_limit);
      seconds_limit = omega (arith, p.seconds_limit);
      bytes_limit = omega (arith, p.bytes_limit);
      shelf_least = omega (arith, p.shelf_least);
      shelf_limit = omega (arith, p.shelf_limit);
      limits_something = omega (arith, p.limits_something);
    }

-- what a `Result` says of its value, where the value alone is kept
pub some-from_ok : {A E : Type 0} (o : Option A) (r : Result A E) (P Q : A → Type 0) → o ≡ result_ok r
    → ((x : A) → P x → Q x) → IfOk r P → IfSome o Q
some-from_ok None (Ok x) P Q e f h = cc
some-from_ok None (Err y) P Q e f h = tt
some-from_ok (Some z) (Ok x) P Q e f h = let same : x ≡ z = cc in subst Q same (f x h)
some-from_ok (Some z) (Err y) P Q e f h = cc

pub none-from_err : {A E : Type 0} (D : E → Type 0) {R : Type 0} (o : Option A) (r : Result A E)
    → o ≡ result_ok r → o ≡ None → IfErr r (λ e. D e × ¬ R) → R → ⊥
none-from_err D o (Ok x) e n h good = let both : Some x ≡ None = sym e ∙ n in cc
none-from_err D o (Err y) e n h good = h.1 good

pub id-text : {ms : Members} (text : List ℕ) (p : Plan)
    → Some text ≡ option_and_then as_str (get_member (codes "id") ms) → IsPlanTable ms p → IsIdText text
id-text text p e is =
    let read = string-is _ text e in
    let same : p.id ≡ text = cc (read, is.id) in
    subst IsIdText same p.id_text
