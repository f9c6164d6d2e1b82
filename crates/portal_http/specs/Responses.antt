-- How responses are made.
use Rattle.std.specs.Prelude.{◌≡◌, ℕ, List, Result, IfOk, IfErr}
use Rattle.portal_model.specs.declared.refusal.Refusal.{Refusal}
use Rattle.portal_model.specs.declared.refusal.Refusal.TheVariants.{NoMemory}
use Rattle.portal_http.specs.declared.reply.Response.{Response}

-- A response with such bytes; or there was no memory for one.
pub record Responds (Is : List ℕ → Type 0) (result : Result Response Refusal) : Type 0 where
  pub ok : IfOk result (λ response. Is response.bytes.items)
  pub err : IfErr result (λ r. r ≡ NoMemory)
