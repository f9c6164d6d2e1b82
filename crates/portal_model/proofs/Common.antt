-- The words of other crates that the proofs cite, passed on from one place.
pub use Rattle.std.proofs.Common.{List, [], ap, arith, cond, drop, get_or, inl, inr, length, map, pos, refl}
pub use Rattle.std.proofs.Common.{rules, slice_index_or, subst, suc, sym, take, zero, ℕ, ℤ, ◌++◌, ◌+ℤ◌, ◌+◌}
pub use Rattle.std.proofs.Common.{◌-◌, ◌<ℤ◌, ◌<◌, ◌^◌, ◌∙◌, ◌∷◌, ◌≡◌, ◌≤◌}
pub use Rattle.std.proofs.Math.Nat.{mul-le-mul_right}
pub use Rattle.std.proofs.lemmas.Bool.{cases_Bool, cond-false, cond-true}
pub use Rattle.std.proofs.lemmas.Int.{ints}
pub use Rattle.std.proofs.lemmas.List.{length-take, map-append, take-append-le, take_all}
pub use Rattle.std.proofs.lemmas.List.Elements.{All-more, All-weaker}
pub use Rattle.std.proofs.lemmas.List.Sums.{count_by-le-length, count_by_more_no, count_by_more_yes}
pub use Rattle.std.proofs.lemmas.List.Sums.{sum_by-cons, sum_by-le, sum_by-le-sum_by, sum_by_more}
pub use Rattle.std.specs.List.{range_with_len}
pub use Rattle.std.specs.Prelude.{All, count_by, sum_by}
pub use Rattle.portal_model.specs.Private.DaySums.{CanAddPair, day_sum, zero_sum, with_pair}
pub use Rattle.portal_model.specs.Span.{Span, day_count, days_of}
pub use Rattle.portal_model.specs.Takings.{AreAmounts, Pair, TotalsFit, amount_on, is_on, takings_on}
pub use Rattle.portal_model.specs.declared.takings.DayTakings.{DayTakings}
