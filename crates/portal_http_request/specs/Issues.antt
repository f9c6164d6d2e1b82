-- The command of an order of a batch.
use Rattle.std.specs.Prelude.{ℕ, List, Result}
use Rattle.serde_json.specs.Data.{Data}
use Rattle.portal_model.specs.declared.command.Command.{Command}
use Rattle.portal_model.specs.declared.command.Command.TheVariants.{Issue}
use Rattle.portal_model.specs.declared.refusal.Refusal.{Refusal}
use Rattle.portal_model.specs.declared.refusal.Refusal.TheVariants.{BadRequest}
use Rattle.portal_json.specs.declared.orders.BatchOrder.{BatchOrder}
use Rattle.portal_json.specs.Orders.{ReadsJson, IsBatchOrder}
use Rattle.portal_http_request.specs.Bodies.{Gives}
use Rattle.portal_http_request.specs.Seeds.{codes_from_seed}

-- the command that issues the batch of an order, with the codes of the seed
abbrev pub issue_of : List ℕ → BatchOrder → Command
issue_of seed order = Issue order.batch order.plan (codes_from_seed seed order.count)

-- the body's JSON orders that batch
abbrev pub OrdersIssue : List ℕ → BatchOrder → Type 0
OrdersIssue body order = (value : Data) × ReadsJson body value × IsBatchOrder value order

-- the command of a body, or bad_request exactly if the body orders no batch
abbrev pub ReadsIssue : List ℕ → List ℕ → Result Command Refusal → Type 0
ReadsIssue seed body = Gives (OrdersIssue body) (issue_of seed) BadRequest
