-- Objects whose keys are put in in byte order.
use Rattle.portal_json.proofs.Common.{◌≡◌, Bool, true, false, ◌&&◌, List, [], ◌∷◌, ◌++◌, ℕ, Option, Some}
use Rattle.portal_json.proofs.Common.{None, Result, Ok, Err, refl, sym, ap, ◌∙◌, append_assoc, append-nil}
use Rattle.portal_json.proofs.Common.{IfOk, String, string_bytes, Data, member, no_members, object, put}
use Rattle.portal_json.proofs.Common.{compact_text, KeyedValue, members_in_order, put_some, put_all}
use Rattle.portal_json.proofs.Common.{object_of}
use Rattle.std.specs.declared.alloc.Global.{Global}
use Rattle.std.specs.declared.cmp.Ordering.{Ordering}
use Rattle.std.specs.declared.cmp.Ordering.TheVariants.{Less, Equal, Greater}
use Rattle.std.specs.Ordering.{nat_cmp, is_gt, match_ordering}
use Rattle.std.specs.Cmp.Lexicographic.{slice_cmp}

-- the key comes after each of these
abbrev is_after : List KeyedValue → List ℕ → Bool
is_after [] key = true
is_after ((earlier, value) ∷ rest) key = is_gt (slice_cmp nat_cmp key earlier) && is_after rest key

-- each of these keys comes after the ones before it
abbrev are_after : List KeyedValue → List KeyedValue → Bool
are_after before [] = true
are_after before ((key, value) ∷ rest) = is_after before key && are_after (before ++ (key, value) ∷ []) rest

-- the keys are in byte order
abbrev pub are_rising : List KeyedValue → Bool
are_rising keys = are_after [] keys

both : (a b : Bool) → (a && b) ≡ true → (a ≡ true) × (b ≡ true)
both true b h = (refl, h)
both false b h = absurd (cc)

greater : (o : Ordering) → is_gt o ≡ true → o ≡ Greater
greater Less h = absurd (cc)
greater Equal h = absurd (cc)
greater Greater h = refl

-- a key that comes after the others is put behind them
put-last : (before : List KeyedValue) (key : List ℕ) (d : Data) → is_after before key ≡ true
    → put key d (members_in_order before) ≡ members_in_order (before ++ (key, Some d) ∷ [])
put-last [] key d h = refl
put-last ((earlier, None) ∷ rest) key d h =
    put-last rest key d (both (is_gt (slice_cmp nat_cmp key earlier)) (is_after rest key) h).1
put-last ((earlier, Some e) ∷ rest) key d h =
    let parts = both (is_gt (slice_cmp nat_cmp key earlier)) (is_after rest key) h in
    let ms = members_in_order rest in
    ap (λ (o : Ordering). match_ordering o (member key d (member earlier e ms)) (member earlier d ms)
    (member earlier e (put key d ms)))
    (greater (slice_cmp nat_cmp key earlier) parts.0)
    ∙ ap (member earlier e) (put-last rest key d parts.1)

-- a key with no value changes nothing
none-last : (before : List KeyedValue) (key : List ℕ)
    → members_in_order before ≡ members_in_order (before ++ (key, None) ∷ [])
none-last [] key = refl
none-last ((earlier, None) ∷ rest) key = none-last rest key
none-last ((earlier, Some e) ∷ rest) key = ap (member earlier e) (none-last rest key)

some-last : (before : List KeyedValue) (key : List ℕ) (value : Option Data) → is_after before key ≡ true
    → put_some key value (members_in_order before) ≡ members_in_order (before ++ (key, value) ∷ [])
some-last before key None h = none-last before key
some-last before key (Some d) h = put-last before key d h

put_all-after : (before keys : List KeyedValue) → are_after before keys ≡ true
    → put_all keys (members_in_order before) ≡ members_in_order (before ++ keys)
put_all-after before [] h = ap members_in_order (sym (append-nil before))
put_all-after before ((key, value) ∷ rest) h =
    let parts = both (is_after before key) (are_after (before ++ (key, value) ∷ []) rest) h in
    ap (put_all rest) (some-last before key value parts.0)
    ∙ put_all-after (before ++ (key, value) ∷ []) rest parts.1
    ∙ ap members_in_order (append_assoc before ((key, value) ∷ []) rest)

-- keys put in in byte order make the object with these keys in this order
pub put_all-rising : (keys : List KeyedValue) → are_rising keys ≡ true
    → object (put_all keys no_members) ≡ object_of keys
put_all-rising keys h = ap object (put_all-after [] keys h)

-- the text of a value is the text of an equal one
pub text_along : {E : Type 0} (r : Result (String Global) E) (d e : Data) → d ≡ e
    → IfOk r (λ s. string_bytes s ≡ compact_text d) → IfOk r (λ s. string_bytes s ≡ compact_text e)
text_along (Ok s) d e same h = h ∙ ap compact_text same
text_along (Err x) d e same h = tt
