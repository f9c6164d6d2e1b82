-- Devices and their texts.
use Rattle.std.proofs.Common.{◌≡◌, ◌≢◌, ℕ, zero, suc, ◌+◌, ◌*◌, ◌/◌, ◌%◌, ◌<◌, ◌⊎◌, inl, inr, List, [], ◌∷◌}
use Rattle.std.proofs.Common.{length, get_or, replicate, arith, refl, ap, sym, ◌∙◌, subst}
use Rattle.std.specs.Prelude.{All, Result, IfErr, IsErrAnd}
use Rattle.std.specs.Char.{to_ascii_lowercase}
use Rattle.std.specs.Str.{str_to_ascii_lowercase}
use Rattle.std.proofs.Math.ListN.{get_or-map, length-map}
use Rattle.std.proofs.lemmas.Bool.Decides.{nat_tests}
use Rattle.std.proofs.lemmas.List.Elements.{All-from_recursion}
use Rattle.std.proofs.lemmas.Result.{err_from_is_err_and}
use Rattle.portal_model.specs.declared.refusal.Refusal.{Refusal}
use Rattle.portal_model.specs.declared.refusal.Refusal.TheVariants.{BadDevice}
use Rattle.std.proofs.lemmas.Slice.Eq.{text_from_reads}
use Rattle.portal_model.specs.Device.{IsDevice, SpellsDevice, DeviceTextReadsBack, hex_digit, octet_text}
use Rattle.portal_model.specs.Device.{text_with, text_of_device}

-- the characters between the octets
abbrev pub between : List ℕ → List ℕ
between text = get_or text 2 0 ∷ get_or text 5 0 ∷ get_or text 8 0 ∷ get_or text 11 0 ∷ get_or text 14 0 ∷ []

-- the text has the k-th octet
abbrev pub HasOctetText : List ℕ → ℕ → ℕ → Type 0
HasOctetText text k octet = octet_text octet
    ≡ to_ascii_lowercase (get_or text (3 * k) 0) ∷ to_ascii_lowercase (get_or text (3 * k + 1) 0) ∷ []

abbrev six : ℕ → ℕ → ℕ → ℕ → ℕ → ℕ → List ℕ
six a b c d e f = a ∷ b ∷ c ∷ d ∷ e ∷ f ∷ []

all-six : (a b c d e f : ℕ) → a < 256 → b < 256 → c < 256 → d < 256 → e < 256 → f < 256
    → All (λ x. x < 256) (six a b c d e f)
all-six a b c d e f la lb lc ld le lf =
    All-from_recursion (λ (x : ℕ). x < 256) (six a b c d e f) (la, (lb, (lc, (ld, (le, (lf, tt))))))

-- what a text that spells a device looks like
pub record Layout (text : List ℕ) (a b c d e f : ℕ) : Type 0 where
  pub len : length text ≡ 17
  pub first : HasOctetText text 0 a
  pub second : HasOctetText text 1 b
  pub third : HasOctetText text 2 c
  pub fourth : HasOctetText text 3 d
  pub fifth : HasOctetText text 4 e
  pub sixth : HasOctetText text 5 f
  pub characters : (between text ≡ replicate 5 58) ⊎ (between text ≡ replicate 5 45)

read-at : (text L : List ℕ) → str_to_ascii_lowercase text ≡ L → (k : ℕ)
    → to_ascii_lowercase (get_or text k 0) ≡ get_or L k 0
read-at text L e k = sym (get_or-map to_ascii_lowercase text k 0) ∙ ap (λ (l : List ℕ). get_or l k 0) e

-- the text, if the character between the octets is not a letter
layout-with : (sep : ℕ) → ((c : ℕ) → to_ascii_lowercase c ≡ sep → c ≡ sep)
    → ((text : List ℕ) → between text ≡ replicate 5 sep
    → (between text ≡ replicate 5 58) ⊎ (between text ≡ replicate 5 45))
    → (text : List ℕ) (a b c d e f : ℕ) → str_to_ascii_lowercase text ≡ text_with sep (six a b c d e f)
    → Layout text a b c d e f
layout-with sep plain alike text a b c d e f h =
    let at : (k : ℕ) → to_ascii_lowercase (get_or text k 0) ≡ get_or (text_with sep (six a b c d e f)) k 0 =
    read-at text (text_with sep (six a b c d e f)) h in
    let s0 = plain (get_or text 2 0) (at 2) in
    let s1 = plain (get_or text 5 0) (at 5) in
    let s2 = plain (get_or text 8 0) (at 8) in
    let s3 = plain (get_or text 11 0) (at 11) in let s4 = plain (get_or text 14 0) (at 14) in
    let h0 = at 0 in let l0 = at 1 in
    let h1 = at 3 in let l1 = at 4 in
    let h2 = at 6 in let l2 = at 7 in
    let h3 = at 9 in let l3 = at 10 in
    let h4 = at 12 in let l4 = at 13 in
    let h5 = at 15 in let l5 = at 16 in
    record {
      len = sym (length-map text to_ascii_lowercase) ∙ ap length h;
      first = cc;
      second = cc;
      third = cc;
      fourth = cc;
      fifth = cc;
      sixth = cc;
      characters = alike text (cc);
    }

same-colon : (c : ℕ) → to_ascii_lowercase c ≡ 58 → c ≡ 58
same-colon c h = grind (arith, nat_tests)

same-hyphen : (c : ℕ) → to_ascii_lowercase c ≡ 45 → c ≡ 45
same-hyphen c h = grind (arith, nat_tests)

pub layout : (text : List ℕ) (a b c d e f : ℕ) → SpellsDevice text (six a b c d e f) → Layout text a b c d e f
layout text a b c d e f h =
    elim h.written as (λ _. Layout text a b c d e f) [
      | inl w ↦ layout-with 58 same-colon (λ t e. inl e) text a b c d e f w
      | inr w ↦ layout-with 45 same-hyphen (λ t e. inr e) text a b c d e f w
    ]

pub six-octets : (xs : List ℕ) → length xs ≡ 6 → get_or xs 0 0 < 256 → get_or xs 1 0 < 256
    → get_or xs 2 0 < 256 → get_or xs 3 0 < 256 → get_or xs 4 0 < 256 → get_or xs 5 0 < 256 → IsDevice xs
six-octets (a ∷ b ∷ c ∷ d ∷ e ∷ f ∷ []) h la lb lc ld le lf =
    record { six = refl; below = all-six a b c d e f la lb lc ld le lf }
six-octets _ h la lb lc ld le lf = absurd (omega arith)

-- any device is six octets
pub as-six : (P : List ℕ → Type 0) → ((a b c d e f : ℕ) → IsDevice (six a b c d e f) → P (six a b c d e f))
    → (device : List ℕ) → IsDevice device → P device
as-six P go (a ∷ b ∷ c ∷ d ∷ e ∷ f ∷ []) is = go a b c d e f is
as-six P go _ is = let h = is.six in absurd (omega arith)

-- what holds of a text of that form holds of the device that it spells
pub spells : (text : List ℕ) (a b c d e f : ℕ) → IsDevice (six a b c d e f) → Layout text a b c d e f
    → SpellsDevice text (six a b c d e f)
spells text a b c d e f is h =
    let at : (k : ℕ) → get_or (str_to_ascii_lowercase text) k 0 ≡ to_ascii_lowercase (get_or text k 0) =
    λ k. get_or-map to_ascii_lowercase text k 0 in
    let h0 = h.first in let x0 = at 0 in let y0 = at 1 in
    let h1 = h.second in let x1 = at 3 in let y1 = at 4 in
    let h2 = h.third in let x2 = at 6 in let y2 = at 7 in
    let h3 = h.fourth in let x3 = at 9 in let y3 = at 10 in
    let h4 = h.fifth in let x4 = at 12 in let y4 = at 13 in
    let h5 = h.sixth in let x5 = at 15 in let y5 = at 16 in
    let s0 = at 2 in let s1 = at 5 in let s2 = at 8 in let s3 = at 11 in let s4 = at 14 in
    record {
      is_device = is;
      written = elim h.characters as (λ _. (str_to_ascii_lowercase text ≡ text_with 58 (six a b c d e f))
          ⊎ (str_to_ascii_lowercase text ≡ text_with 45 (six a b c d e f))) [
            | inl w ↦ inl (text_from_reads _ _ (length-map text to_ascii_lowercase ∙ h.len) (
              cc,
              (
                cc,
                (cc, (cc, (cc, (cc, (cc, (cc, (cc, (cc, (cc, (cc, (cc, (cc, (cc, (cc, (cc, tt))))))))))))))),
              ),
            ))
            | inr w ↦ inr (text_from_reads _ _ (length-map text to_ascii_lowercase ∙ h.len) (
              cc,
              (
                cc,
                (cc, (cc, (cc, (cc, (cc, (cc, (cc, (cc, (cc, (cc, (cc, (cc, (cc, (cc, (cc, tt))))))))))))))),
              ),
            ))
          ];
    }

hex-same : (x y : ℕ) → x < 16 → y < 16 → hex_digit x ≡ hex_digit y → x ≡ y
hex-same x y hx hy e = grind (arith, nat_tests)

read_octet-same : (x y : ℕ) → x < 256 → y < 256 → octet_text x ≡ octet_text y → x ≡ y
read_octet-same x y hx hy e =
    let high : x / 16 ≡ y / 16 =
    hex-same (x / 16) (y / 16) (omega arith) (omega arith) (ap (λ (l : List ℕ). get_or l 0 0) e) in
    let low : x % 16 ≡ y % 16 =
    hex-same (x % 16) (y % 16) (omega arith) (omega arith) (ap (λ (l : List ℕ). get_or l 1 0) e) in
    omega arith

lower-hex : (x : ℕ) → to_ascii_lowercase (hex_digit x) ≡ hex_digit x
lower-hex x = grind (arith, nat_tests)

spelled-once : (text : List ℕ) (a b c d e f a' b' c' d' e' f' : ℕ) → SpellsDevice text (six a b c d e f)
    → SpellsDevice text (six a' b' c' d' e' f') → six a' b' c' d' e' f' ≡ six a b c d e f
spelled-once text a b c d e f a' b' c' d' e' f' h h' =
    let l = layout text a b c d e f h in
    let l' = layout text a' b' c' d' e' f' h' in
    let below = h.is_device.below in
    let below' = h'.is_device.below in
    let e0 : a' ≡ a =
    read_octet-same a' a (below' 0 0 (omega arith)) (below 0 0 (omega arith)) (l'.first ∙ sym l.first) in
    let e1 : b' ≡ b =
    read_octet-same b' b (below' 1 0 (omega arith)) (below 1 0 (omega arith)) (l'.second ∙ sym l.second) in
    let e2 : c' ≡ c =
    read_octet-same c' c (below' 2 0 (omega arith)) (below 2 0 (omega arith)) (l'.third ∙ sym l.third) in
    let e3 : d' ≡ d =
    read_octet-same d' d (below' 3 0 (omega arith)) (below 3 0 (omega arith)) (l'.fourth ∙ sym l.fourth) in
    let e4 : e' ≡ e =
    read_octet-same e' e (below' 4 0 (omega arith)) (below 4 0 (omega arith)) (l'.fifth ∙ sym l.fifth) in
    let e5 : f' ≡ f =
    read_octet-same f' f (below' 5 0 (omega arith)) (below 5 0 (omega arith)) (l'.sixth ∙ sym l.sixth) in
    cc

own-text : (a b c d e f : ℕ) → IsDevice (six a b c d e f)
    → SpellsDevice (text_of_device (six a b c d e f)) (six a b c d e f)
own-text a b c d e f is = record { is_device = is; written = inl (simp lower-hex) }

pub reads-back : DeviceTextReadsBack
reads-back = as-six (λ device. SpellsDevice (text_of_device device) device
    × ((other : List ℕ) → SpellsDevice (text_of_device device) other → other ≡ device))
    (λ a b c d e f is. let own = own-text a b c d e f is in (
      own,
      λ other h.
          as-six (λ o. SpellsDevice (text_of_device (six a b c d e f)) o → o ≡ six a b c d e f)
          (λ a' b' c' d' e' f' is' h'. spelled-once _ a b c d e f a' b' c' d' e' f' own h') other h.is_device
          h,
    ))

-- If the parser fails, the text spells no device

pub short-spells-none : (text : List ℕ) → length text ≢ 17 → (device : List ℕ) → ¬ SpellsDevice text device
short-spells-none text h device s =
    as-six (λ d. SpellsDevice text d → ⊥)
    (λ a b c d e f is w. h (layout text a b c d e f w).len) device s.is_device s

pub unseparated-spells-none : (text : List ℕ)
    → ¬ ((between text ≡ replicate 5 58) ⊎ (between text ≡ replicate 5 45)) → (device : List ℕ)
    → ¬ SpellsDevice text device
unseparated-spells-none text h device s =
    as-six (λ d. SpellsDevice text d → ⊥)
    (λ a b c d e f is w. h (layout text a b c d e f w).characters) device s.is_device s

-- the text has no octet at that place
abbrev pub NoOctet : List ℕ → ℕ → Type 0
NoOctet text k = (n : ℕ) → n < 256 → octet_text n
    ≢ to_ascii_lowercase (get_or text (3 * k) 0) ∷ to_ascii_lowercase (get_or text (3 * k + 1) 0) ∷ []

pub unread-spells-none : (text : List ℕ) (k : ℕ) → k < 6 → NoOctet text k → (device : List ℕ)
    → ¬ SpellsDevice text device
unread-spells-none text k small h device s = as-six (λ d. SpellsDevice text d → ⊥)
    (λ a b c d e f is w. go k small h a b c d e f is (layout text a b c d e f w)) device s.is_device s
  where
    go : (j : ℕ) → j < 6 → NoOctet text j → (a b c d e f : ℕ) → IsDevice (six a b c d e f)
        → Layout text a b c d e f → ⊥
    go zero _ none a b c d e f is l = none a (is.below 0 0 (omega arith)) l.first
    go (suc zero) _ none a b c d e f is l = none b (is.below 1 0 (omega arith)) l.second
    go (suc (suc zero)) _ none a b c d e f is l = none c (is.below 2 0 (omega arith)) l.third
    go (suc (suc (suc zero))) _ none a b c d e f is l = none d (is.below 3 0 (omega arith)) l.fourth
    go (suc (suc (suc (suc zero)))) _ none a b c d e f is l = none e (is.below 4 0 (omega arith)) l.fifth
    go (suc (suc (suc (suc (suc zero))))) _ none a b c d e f is l =
        none f (is.below 5 0 (omega arith)) l.sixth
    go (suc (suc (suc (suc (suc (suc n)))))) small none a b c d e f is l = absurd (omega arith)

-- the result of the parser if an octet was not read
pub unread : {A : Type 0} (text characters : List ℕ) → characters ≡ text → (k : ℕ) → k < 6 → (e : Refusal)
    → (e ≡ BadDevice) × NoOctet characters k → (result : Result A Refusal) → IsErrAnd result (λ x. x ≡ e)
    → IfErr result (λ r. (r ≡ BadDevice) × ((device : List ℕ) → ¬ SpellsDevice text device))
unread text characters same k small e refused result is =
    let p = err_from_is_err_and result is in
    rw (
      p.1,
      p.2,
    ) (
      refused.0,
      subst (λ t. (device : List ℕ) → ¬ SpellsDevice t device) same
          (unread-spells-none characters k small refused.1),
    )

-- what the reader returns is spelled
pub read-spells : (text other : List ℕ) → text ≡ other → (a b c d e f : ℕ) → a < 256 → b < 256 → c < 256
    → d < 256 → e < 256 → f < 256 → Layout text a b c d e f → SpellsDevice other (six a b c d e f)
read-spells text other same a b c d e f la lb lc ld le lf h =
    subst (λ t. SpellsDevice t (six a b c d e f)) same
    (spells text a b c d e f (record { six = refl; below = all-six a b c d e f la lb lc ld le lf }) h)
