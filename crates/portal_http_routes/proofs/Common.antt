-- The words of other crates that the proofs cite, passed on from one place.
pub use Rattle.std.proofs.Common.{Bool, List, None, Option, Some, [], ap, append-nil, append_assoc, arith}
pub use Rattle.std.proofs.Common.{codes, cond, drop, eqb, false, filter, get_or, inl, inr, length, ltb, map}
pub use Rattle.std.proofs.Common.{nat_eq, not, option_map, refl, subst, suc, sym, take, true, zero, ℕ, ◌&&◌}
pub use Rattle.std.proofs.Common.{◌++◌, ◌+◌, ◌-◌, ◌<◌, ◌==◌, ◌∙◌, ◌∷◌, ◌≡◌, ◌≤◌, ◌⊎◌}
pub use Rattle.std.proofs.lemmas.Bool.{eqb-true, false≢true, lt-ltb, ltb-true, ne_eqb}
pub use Rattle.std.proofs.lemmas.Bool.Decides.{eqb_tells, nat_tests}
pub use Rattle.std.proofs.lemmas.List.{at_drop_all, at_drop_more, drop_at, length_push, take-append-drop}
pub use Rattle.std.proofs.lemmas.List.{take_all, take_more}
pub use Rattle.std.specs.Borrow.{Bor}
pub use Rattle.std.specs.List.{ends_with, list_all}
pub use Rattle.std.specs.Prelude.{All, Err, Ok, OnOk, Result, bytes_eq, is_some, nat_lt, unwrap_or}
pub use Rattle.matchit.specs.Router.{InsertsRead, RouteOf}
pub use Rattle.matchit.specs.Rows.{RowsOf}
pub use Rattle.matchit.specs.Seek.{better, cuts, has_slash, longest_from, longest_suffix, or_else, own}
pub use Rattle.matchit.specs.Seek.{same_text, segment, step, with_suffix}
pub use Rattle.portal_http_routes.specs.Laws.{IsPathOf, IsPlain, IsSegment, batch_path, print_path}
pub use Rattle.portal_http_routes.specs.Laws.{redemptions_path, session_path, voucher_path}
pub use Rattle.portal_http_routes.specs.Queries.{ampersand, equals_sign, key_of, only_of, put_first, value_of}
pub use Rattle.portal_http_routes.specs.declared.Route.{Route}
