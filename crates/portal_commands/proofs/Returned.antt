-- An error that was returned by `?`.
use Rattle.std.proofs.Common.{◌≡◌, Result, Ok, Err, sym, subst}
use Rattle.std.specs.Prelude.{IfErr, IsErr, IsErrAnd, MatchResult}

pub returned : {A E : Type 0} (result : Result A E) (error : E) (Good : A → Type 0) (Is : E → Type 0)
    → IsErr result × IsErrAnd result (λ e. e ≡ error) → Is error → MatchResult result Good Is
returned (Ok x) error Good Is e it = cc
returned (Err e) error Good Is same it = subst Is (sym same.1) it

pub returned-error : {A E : Type 0} (result : Result A E) (error : E) (Is : E → Type 0)
    → IsErr result × IsErrAnd result (λ e. e ≡ error) → Is error → IfErr result Is
returned-error (Ok x) error Is e it = tt
returned-error (Err e) error Is same it = subst Is (sym same.1) it
