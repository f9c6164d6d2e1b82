-- Tests, options and lists.
use Rattle.portal_model_laws.proofs.Common.{list_any, ◌⊎◌, inl, inr, ◌≡◌, ℕ, ◌≢◌, Bool, true, false, cond}
use Rattle.portal_model_laws.proofs.Common.{List, [], ◌∷◌, map, Option, Some, None, refl, arith, subst, ap}
use Rattle.portal_model_laws.proofs.Common.{sym, ◌∙◌, bytes_eq, nat_eq, option_map, is_some, is_none, ◌||◌}
use Rattle.portal_model_laws.proofs.Common.{find, filter, All, option_or, All-head, All-tail, nat_tests}
use Rattle.portal_model_laws.proofs.Common.{bytes_eq-Decides}
pub use Rattle.std.proofs.lemmas.Bool.{false_from_ne_true as false_if, eqb-true as nat_eq-same}
pub use Rattle.std.proofs.lemmas.Bool.{or_parts as or-false, and_parts as and-true, and_from as true-and}
pub use Rattle.std.proofs.lemmas.Bool.{cond-false, cond-true}

-- Tests

pub nat_eq-other : (a b : ℕ) → a ≢ b → nat_eq a b ≡ false
nat_eq-other a b h = grind (arith, nat_tests)

pub nat_eq-refl : (a : ℕ) → nat_eq a a ≡ true
nat_eq-refl a = grind (arith, nat_tests)

pub bytes_same : (a b : List ℕ) → bytes_eq a b ≡ true → a ≡ b
bytes_same a b e = (bytes_eq-Decides a b).0 e

pub bytes_refl : (a : List ℕ) → bytes_eq a a ≡ true
bytes_refl a = (bytes_eq-Decides a a).1 refl

pub bytes_swap : (a b : List ℕ) → bytes_eq a b ≡ true → bytes_eq b a ≡ true
bytes_swap a b e = (bytes_eq-Decides b a).1 (sym (bytes_same a b e))

pub not_both : (b : Bool) → b ≡ true → b ≡ false → ⊥
not_both b p q = cc

pub bytes_eq-swap : (a b : List ℕ) → bytes_eq a b ≡ bytes_eq b a
bytes_eq-swap a b = go (bytes_eq a b) refl
  where
    go : (x : Bool) → bytes_eq a b ≡ x → x ≡ bytes_eq b a
    go true e = sym (bytes_swap a b e)
    go false e = sym (false_if (bytes_eq b a) (λ h. not_both (bytes_eq a b) (bytes_swap b a h) e))

-- Choices

-- a choice that is not taken
pub cond-not : {A : Type 0} (b : Bool) (x y : A) → (b ≡ true → ⊥) → cond b x y ≡ y
cond-not true x y h = absurd (h refl)
cond-not false x y h = refl

-- two choices by one test agree where they agree when it holds
pub cond-same : {A : Type 0} (b : Bool) (x y z : A) → (b ≡ true → x ≡ y) → cond b x z ≡ cond b y z
cond-same true x y z h = h refl
cond-same false x y z h = refl

-- two choices that are one
pub cond-both : {A : Type 0} (b : Bool) (x y z : A) → x ≡ z → y ≡ z → cond b x y ≡ z
cond-both true x y z p q = p
cond-both false x y z p q = q

-- what is made of a choice
pub cond-ap : {A B : Type 0} (f : A → B) (b : Bool) (x y : A) → f (cond b x y) ≡ cond b (f x) (f y)
cond-ap f true x y = refl
cond-ap f false x y = refl

-- a choice that gives s
pub picked : {A : Type 0} (b : Bool) (x s : A) (o : Option A) → cond b (Some x) o ≡ Some s
    → ((b ≡ true) × (x ≡ s)) ⊎ ((b ≡ false) × (o ≡ Some s))
picked true x s o e = inl (refl, cc)
picked false x s o e = inr (refl, e)

-- Options

pub some-same : {A : Type 0} (a b : A) → Some a ≡ Some b → a ≡ b
some-same a b e = cc

pub is_some-none : {A : Type 0} (o : Option A) → is_some o ≡ false → o ≡ None
is_some-none None e = refl
is_some-none (Some x) e = cc

pub is_none-true : {A : Type 0} (o : Option A) → is_none o ≡ true → o ≡ None
is_none-true None e = refl
is_none-true (Some x) e = cc

pub some-of-map : {A B : Type 0} (f : A → B) (o : Option A) (v : B) → option_map f o ≡ Some v
    → (i : A) × (o ≡ Some i) × (f i ≡ v)
some-of-map f None v e = cc
some-of-map f (Some i) v e = (i, refl, cc)

-- what holds of the images holds of one that is known
pub by_map : {A B : Type 0} (P : B → Type 0) (f : A → B) (o : Option A) (y : B) → option_map f o ≡ Some y
    → ((x : A) → o ≡ Some x → P (f x)) → P y
by_map P f o y e h = let found = some-of-map f o y e in subst P found.2 (h found.0 found.1)

pub none-of-map : {A B : Type 0} (f : A → B) (o : Option A) → option_map f o ≡ None → o ≡ None
none-of-map f None e = refl
none-of-map f (Some x) e = cc

pub or-none : {A : Type 0} (o p : Option A) → option_or o p ≡ None → (o ≡ None) × (p ≡ None)
or-none None p e = (refl, e)
or-none (Some x) p e = cc

pub or-right : {A : Type 0} (o : Option A) → option_or o None ≡ o
or-right None = refl
or-right (Some x) = refl

-- what is found stays found
pub or-some : {A : Type 0} (o p : Option A) (x : A) → o ≡ Some x → option_or o p ≡ Some x
or-some None p x e = cc
or-some (Some y) p x e = e

-- Lists

-- a search through the images of a list
pub find-map : {X Y : Type 0} (f : X → Y) (test : Y → Bool) (xs : List X)
    → find test (map f xs) ≡ option_map f (find (λ x. test (f x)) xs)
find-map f test [] = refl
find-map f test (x ∷ xs) = ap (cond (test (f x)) (Some (f x))) (find-map f test xs)
    ∙ sym (cond-ap (option_map f) (test (f x)) (Some x) (find (λ y. test (f y)) xs))

-- what is found passes the test
pub found-passes : {X : Type 0} (test : X → Bool) (xs : List X) (x : X)
    → find test xs ≡ Some x → test x ≡ true
found-passes test [] x e = cc
found-passes test (y ∷ ys) x e = elim (picked (test y) y x (find test ys) e) [
  | inl is ↦ ap test (sym is.1) ∙ is.0
  | inr is ↦ found-passes test ys x is.1
]

-- a key is found if it is among the keys
pub found-listed : {A : Type 0} (key : A → List ℕ) (id : List ℕ) (xs : List A)
    → is_some (find (λ x. bytes_eq (key x) id) xs) ≡ list_any (bytes_eq id) (map key xs)
found-listed key id [] = refl
found-listed key id (x ∷ xs) =
    let later = find (λ y. bytes_eq (key y) id) xs in
    go (bytes_eq (key x) id) ∙ ap (λ (b : Bool). b || is_some later) (bytes_eq-swap (key x) id)
    ∙ ap (λ (b : Bool). bytes_eq id (key x) || b) (found-listed key id xs)
  where
    go : (b : Bool) → is_some (cond b (Some x) (find (λ y. bytes_eq (key y) id) xs))
        ≡ (b || is_some (find (λ y. bytes_eq (key y) id) xs))
    go true = refl
    go false = refl

-- what holds of each element holds of one that is found
pub All-found : {X : Type 0} (P : X → Type 0) (test : X → Bool) (xs : List X) (x : X) → All P xs
    → find test xs ≡ Some x → P x
All-found P test [] x all e = cc
All-found P test (y ∷ ys) x all e = elim (picked (test y) y x (find test ys) e) [
  | inl is ↦ subst P is.1 (All-head P y ys all)
  | inr is ↦ All-found P test ys x (All-tail P y ys all) is.1
]

pub map-changed : {X Y : Type 0} (f after : X → Y) (g : Y → Y) → ((x : X) → after x ≡ g (f x)) → (xs : List X)
    → map after xs ≡ map g (map f xs)
map-changed f after g e [] = refl
map-changed f after g e (x ∷ xs) = rw (e x, map-changed f after g e xs)

-- as above, where the equation is known of the listed elements alone
pub map-changed_all : {X Y : Type 0} (f after : X → Y) (g : Y → Y) (xs : List X)
    → All (λ x. after x ≡ g (f x)) xs → map after xs ≡ map g (map f xs)
map-changed_all f after g [] all = refl
map-changed_all f after g (x ∷ xs) all =
    let here : after x ≡ g (f x) = All-head (λ y. after y ≡ g (f y)) x xs all in
    let rest : map after xs ≡ map g (map f xs) =
    map-changed_all f after g xs (All-tail (λ y. after y ≡ g (f y)) x xs all) in
    rw (here, rest)

-- a map that agrees with another at each element
pub map-same : {X Y : Type 0} (f g : X → Y) (xs : List X) → All (λ x. f x ≡ g x) xs → map f xs ≡ map g xs
map-same f g [] all = refl
map-same f g (x ∷ xs) all =
    let here : f x ≡ g x = All-head (λ y. f y ≡ g y) x xs all in
    let rest : map f xs ≡ map g xs = map-same f g xs (All-tail (λ y. f y ≡ g y) x xs all) in
    rw (here, rest)

pub map-alike : {X Y : Type 0} (f g : X → Y) → ((x : X) → f x ≡ g x) → (xs : List X) → map f xs ≡ map g xs
map-alike f g e [] = refl
map-alike f g e (x ∷ xs) = rw (e x, map-alike f g e xs)

pub map-map : {X Y Z : Type 0} (f : X → Y) (g : Y → Z) (xs : List X)
    → map g (map f xs) ≡ map (λ x. g (f x)) xs
map-map f g [] = refl
map-map f g (x ∷ xs) = ap (λ ys. g (f x) ∷ ys) (map-map f g xs)

pub filter-map : {X Y : Type 0} (f : X → Y) (test : Y → Bool) (xs : List X)
    → filter test (map f xs) ≡ map f (filter (λ x. test (f x)) xs)
filter-map f test [] = refl
filter-map f test (x ∷ xs) =
    let kept = filter (λ y. test (f y)) xs in
    ap (λ ys. cond (test (f x)) (f x ∷ ys) ys) (filter-map f test xs)
    ∙ sym (cond-ap (map f) (test (f x)) (x ∷ kept) kept)
