-- The words of other crates that the proofs cite, passed on from one place.
pub use Rattle.std.proofs.Common.{Bool, List, None, Ok, Some, [], add-one, ap, append-nil, append_assoc}
pub use Rattle.std.proofs.Common.{arith, below_more, cond, drop, drop-cons, eq-eqb, false, get_or}
pub use Rattle.std.proofs.Common.{get_or-set_other, get_or-set_same, inl, inr, length, length-append, lit<}
pub use Rattle.std.proofs.Common.{lit≤, map, refl, set, subst, suc, sym, take, true, zero, ℕ, ◌%◌, ◌*◌, ◌++◌}
pub use Rattle.std.proofs.Common.{◌+◌, ◌-◌, ◌/◌, ◌<◌, ◌∙◌, ◌∷◌, ◌≡◌, ◌≢◌, ◌≤◌, ◌⊎◌}
pub use Rattle.std.proofs.Math.ListN.{length-set}
pub use Rattle.std.proofs.lemmas.Bool.Decides.{leb_tells, nat_tests}
pub use Rattle.std.proofs.lemmas.Grind.{common_steps}
pub use Rattle.std.proofs.lemmas.List.{drop-replicate, drop-set-lt, drop_all, length-map, length-take-le}
pub use Rattle.std.proofs.lemmas.List.{map-append, take-append-drop, take_all, take_more, take_more_set}
pub use Rattle.std.proofs.lemmas.List.Elements.{All-append, All-cons, All-get_or, All-head, All-map, All-tail}
pub use Rattle.std.proofs.lemmas.List.Elements.{All-take}
pub use Rattle.std.specs.Char.{to_ascii_uppercase}
pub use Rattle.std.specs.List.{list_all, position_or_len, range_with_len}
pub use Rattle.std.specs.Prelude.{All, IsTrue, filter, nat_eq, nat_lt, not, position, replicate, ◌||◌}
pub use Rattle.std.specs.Str.{IsAscii}
pub use Rattle.portal_codes.specs.Code.{ExchangeIsDetected, IsCode, IsCodeUnder, IsTextWithHyphens, IsPadded}
pub use Rattle.portal_codes.specs.Code.{OneChangeIsDetected, PrintedTextSpells, SpellingIsUnique, Spells}
pub use Rattle.portal_codes.specs.Code.{alphabet, check_of, code_of_words, in_groups, with_hyphens}
pub use Rattle.portal_codes.specs.Code.{is_separator, long_weights, with_zeros, short_weights, character_of}
pub use Rattle.portal_codes.specs.Code.{characters_in, text_of, weighted_values, weights_of}
