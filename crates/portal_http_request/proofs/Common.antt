-- The words of other crates that the proofs cite, passed on from one place.
pub use Rattle.std.proofs.Common.{Bool, List, None, Ok, Option, Some, [], ap, arith, false, get_or, inl, inr}
pub use Rattle.std.proofs.Common.{length, map, refl, subst, sym, true, ℕ, ℤ, ◌*◌, ◌+◌, ◌<◌, ◌∙◌, ◌∷◌, ◌≡◌}
pub use Rattle.std.proofs.Common.{◌⊎◌}
pub use Rattle.std.specs.Bool.{MatchBool}
pub use Rattle.std.specs.Prelude.{Err, IfErr, IsSome, IsUtf8, MatchOption, MatchResult, Result, bytes_eq}
pub use Rattle.std.specs.Prelude.{codes, option_and_then, option_map, ◌≢◌}
pub use Rattle.portal_http_request.specs.Bodies.{Gives, GivesCommand, SaysBody}
pub use Rattle.portal_http_request.specs.Callers.{IsGuest, NamesDevice, ReadsKey, holds_token, fingerprint_of}
pub use Rattle.portal_http_request.specs.Checks.{AsksForCommand, AtGuest, AtMessage, AtPath, AtRoute, AtToken}
pub use Rattle.portal_http_request.specs.Checks.{AsksForBatches, AsksForVouchers, BeforeAmong}
pub use Rattle.portal_http_request.specs.Checks.{IsChecked, IsOfRequest, OrMemory, syntax_error, operation_of}
pub use Rattle.portal_http_request.specs.Issues.{issue_of}
pub use Rattle.portal_http_request.specs.Queries.{AreDays, IsDayAt, IsDeviceAt, IsSessionNumber, NamesBatch}
pub use Rattle.portal_http_request.specs.Queries.{LimitAmong, NamesCode, values_at}
pub use Rattle.portal_http_request.specs.Seeds.{codes_from_seed, words_at}
pub use Rattle.portal_http_request.specs.declared.rejection.Rejection.{Rejection}
pub use Rattle.portal_http_request.specs.declared.rejection.Rejection.TheVariants.{Method, Refused}
pub use Rattle.portal_http_request.specs.declared.operation.Operation.{Operation}
pub use Rattle.portal_codes.specs.Code.{code_of_words}
pub use Rattle.portal_model.specs.Span.{IsSpan, Span}
pub use Rattle.portal_files.specs.PlansFile.{IsPlansFile}
pub use Rattle.portal_files.specs.SettingsFile.{SettingsValue}
pub use Rattle.portal_http_message.specs.Message.{Message, message_in, message_of_request}
pub use Rattle.portal_http_message.specs.declared.errors.HeadError.{HeadError}
pub use Rattle.portal_json.specs.Orders.{CodeOrder, CodeText, Exactly, IsBatchOrder, IsCloseOrder}
pub use Rattle.portal_json.specs.Orders.{IsReportOrder, ReadsJson, text_at}
pub use Rattle.portal_ledger.specs.declared.caller.Caller.{Caller}
pub use Rattle.portal_ledger.specs.declared.caller.Caller.TheVariants.{Desk, Gateway, Guest}
pub use Rattle.portal_model.specs.declared.command.Command.{Command}
pub use Rattle.portal_model.specs.declared.command.Command.TheVariants.{Close, Load, Refund, Report, Sell}
pub use Rattle.portal_model.specs.declared.refusal.Refusal.{Refusal}
pub use Rattle.portal_model.specs.declared.refusal.Refusal.TheVariants.{BadCode, BadDevice, BadMethod}
pub use Rattle.portal_model.specs.declared.refusal.Refusal.TheVariants.{BadPlans, BadRequest, Forbidden}
pub use Rattle.portal_model.specs.declared.refusal.Refusal.TheVariants.{NoMemory, NoRoute, Stopped}
pub use Rattle.portal_model.specs.declared.refusal.Refusal.TheVariants.{UnknownBatch}
pub use Rattle.portal_http_routes.specs.Route.{kept, method_of, with_method}
pub use Rattle.portal_http_routes.specs.Table.{FindsRoute}
pub use Rattle.portal_http_routes.specs.Targets.{parameter_of, path_of, query_of}
pub use Rattle.portal_http_routes.specs.declared.Route.{Route}
pub use Rattle.portal_http_routes.specs.declared.Route.TheVariants.{Batches, Captive, Closes, Plans, Print}
pub use Rattle.portal_http_routes.specs.declared.Route.TheVariants.{LastSession, OwnSession, Refunds, Reports}
pub use Rattle.portal_http_routes.specs.declared.Route.TheVariants.{Sales, Session, SessionDetails, Sessions}
pub use Rattle.portal_http_routes.specs.declared.Route.TheVariants.{Batch, BatchList, Takings, Voucher}
pub use Rattle.portal_http_routes.specs.declared.Route.TheVariants.{Redemptions, Vouchers}
pub use Rattle.rand_chacha.specs.ChaCha.{ChaCha, of_seed, word_at}
pub use Rattle.serde_json.specs.Data.{Data}
