-- Codes differ if their printed texts differ.
use Rattle.portal_tables_rows.proofs.Common.{◌≡◌, ℕ, List, ap, subst, bytes_eq, bytes_eq-Decides, IsCode}
use Rattle.portal_tables_rows.proofs.Common.{Spells, text_of, agree}
use Rattle.portal_codes.proofs.Spelling.{unique, printed_spells}

pub same_code : (a b : List ℕ) → IsCode a → IsCode b → text_of a ≡ text_of b → a ≡ b
same_code a b code other e =
    unique (text_of b) b a (printed_spells b other) (subst (λ text. Spells text a) e (printed_spells a code))

pub code_test : (a b : List ℕ) → IsCode a → IsCode b → bytes_eq (text_of a) (text_of b) ≡ bytes_eq a b
code_test a b code other =
    agree _ _ (λ on. (bytes_eq-Decides a b).1
    (same_code a b code other ((bytes_eq-Decides (text_of a) (text_of b)).0 on)))
    (λ on. (bytes_eq-Decides (text_of a) (text_of b)).1 (ap text_of ((bytes_eq-Decides a b).0 on)))
