-- Texts that are printed one after another, as far as they can be written.
use Rattle.std.proofs.Common.{◌≡◌, ℕ, ◌+◌, ◌<◌, List, ◌++◌, length, take, Option, Some, None, sym, ◌∙◌, subst}
use Rattle.std.proofs.Common.{ap, arith}
use Rattle.std.specs.Prelude.{Result, Ok, Err, MatchResult}
use Rattle.std.specs.Io.KnownBytes.{Appends}
use Rattle.std.proofs.Math.Seq.{take-append-add, take-length}
use Rattle.std.proofs.lemmas.List.{append_assoc, take-append-le}
use Rattle.portal_server.specs.declared.error.ProgramError.{ProgramError}
use Rattle.portal_server.specs.declared.error.ProgramError.TheVariants.{Cut}
use Rattle.portal_server.specs.Streams.{IsCutOff, Prints}

-- one text, and then another
appends_both : (a b c : Option (List ℕ)) (x y : List ℕ) → Appends a b x → Appends b c y → Appends a c (x ++ y)
appends_both None b c x y first then = tt
appends_both (Some a) None c x y first then = absurd first
appends_both (Some a) (Some b) None x y first then = absurd then
appends_both (Some a) (Some b) (Some c) x y first then = then ∙ ap (λ s. s ++ y) first ∙ append_assoc a x y

-- the front of the first text alone
pub prints_part : (a b : Option (List ℕ)) (x y : List ℕ) → IsCutOff a b x → Prints a b (x ++ y)
prints_part a b x y (n, short, part) =
    (n, subst (Appends a b) (sym (take-append-le n x y (omega (arith, short)))) part)

-- the first text whole, and the second as far as it can be written
pub prints_more : (a b c : Option (List ℕ)) (x y : List ℕ) → Appends a b x
    → Prints b c y → Prints a c (x ++ y)
prints_more a b c x y first then = (
  length x + then.0,
  subst (Appends a c) (sym (take-append-add x y then.0)) (appends_both a b c x (take then.0 y) first then.1),
)

-- a text, whether it was written whole or in part
pub prints_either : (a b : Option (List ℕ)) (x : List ℕ) (result : Result (Unit {0}) ProgramError)
    → MatchResult result (λ _. Appends a b x) (λ error. (error ≡ Cut) × IsCutOff a b x) → Prints a b x
prints_either a b x (Ok done) whole = (length x, subst (Appends a b) (sym (take-length x)) whole)
prints_either a b x (Err error) (cut, part) = (part.0, part.2)
