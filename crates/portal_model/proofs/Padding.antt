-- A buffer that begins with a text's bytes, and texts of ASCII characters.
use Rattle.std.proofs.Common.{◌≡◌, ℕ, ◌-◌, ◌<◌, ◌≤◌, Bool, true, List, ◌++◌, length, get_or, take, drop, ap}
use Rattle.std.proofs.Common.{sym, ◌∙◌, subst, refl, arith}
use Rattle.std.specs.Prelude.{replicate, Result, Ok, Err, IsOk, MatchResult}
use Rattle.std.specs.List.{list_all}
use Rattle.std.specs.Str.{IsUtf8}
use Rattle.std.proofs.Math.Seq.{take-append_seam}
use Rattle.std.proofs.lemmas.List.{drop-replicate}
use Rattle.std.proofs.lemmas.List.Sums.{AllPass-from_list_all}
use Rattle.std.proofs.lemmas.Bool.Decides.{nat_tests}
use Rattle.std.proofs.lemmas.Str.{IsUtf8-from_ascii}
use Rattle.std.proofs.lemmas.Str.Ascii.{IsAscii-from_all}
use Rattle.portal_model.specs.IdText.{IsIdText, is_id_character}
use Rattle.portal_model.specs.Names.{IsPadded, with_zeros}

pub take-front : (xs ys : List ℕ) (n : ℕ) → n ≡ length xs → take n (xs ++ ys) ≡ xs
take-front xs ys n e = ap (λ m. take m (xs ++ ys)) e ∙ take-append_seam xs ys

-- a text, before what is left of a buffer of zeros
pub zeros-after : (limit : ℕ) (xs : List ℕ) (n : ℕ) → n ≡ length xs
    → xs ++ replicate (limit - length xs) 0 ≡ xs ++ drop n (replicate limit 0)
zeros-after limit xs n e = let none : ℕ = 0 in
    ap (λ m. xs ++ replicate (limit - m) none) (sym e)
    ∙ ap (λ ys. xs ++ ys) (sym (drop-replicate n limit none))

pub padded-front : (xs : List ℕ) (n : ℕ) → n ≡ length xs → n ≤ 32 → IsIdText xs
    → IsPadded n (xs ++ drop n (replicate 32 0))
padded-front xs n e h is =
    let front : take n (xs ++ drop n (replicate 32 0)) ≡ xs = take-front xs (drop n (replicate 32 0)) n e in
    record {
      fits = h;
      shown = ap length front ∙ sym e;
      zeros = ap with_zeros front ∙ zeros-after 32 xs n e;
      text = subst IsIdText (sym front) is;
    }

-- a text of characters below 128 is UTF-8
pub characters-utf8 : (is_id_byte : ℕ → Bool) → ((b : ℕ) → is_id_byte b ≡ true → b < 128) → (text : List ℕ)
    → list_all is_id_byte text ≡ true → IsUtf8 text
characters-utf8 is_id_byte low text h = IsUtf8-from_ascii text
    (IsAscii-from_all text (λ i d k. low (get_or text i d) (AllPass-from_list_all is_id_byte text h i d k)))

id_sign-ascii : (b : ℕ) → is_id_character b ≡ true → b < 128
id_sign-ascii b h = grind (arith, nat_tests)

pub id-utf8 : (text : List ℕ) → IsIdText text → IsUtf8 text
id-utf8 text h = characters-utf8 is_id_character id_sign-ascii text h.characters

pub ok-where : (A B : Type 0) (P : A → Type 0) (Q : B → Type 0) (U : Type 0) (r : Result A B)
    → MatchResult r P (λ e. ¬ U × Q e) → U → IsOk r
ok-where A B P Q U (Ok x) h u = refl
ok-where A B P Q U (Err e) h u = absurd (h.0 u)
