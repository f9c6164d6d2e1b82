-- The words of other crates that the proofs cite, passed on from one place.
pub use Rattle.std.proofs.Common.{All, Bool, Err, List, None, Ok, Option, Result, Some, [], ap, append-nil}
pub use Rattle.std.proofs.Common.{append_assoc, arith, codes, cond, drop, false, filter, get_or, inl, inr}
pub use Rattle.std.proofs.Common.{leb, length, lit≤, map, min, nat_lt, refl, rules, string_bytes, subst, suc}
pub use Rattle.std.proofs.Common.{sym, take, true, ℕ, ◌&&◌, ◌*◌, ◌++◌, ◌+◌, ◌-◌, ◌<◌, ◌==◌, ◌||◌, ◌∙◌, ◌∷◌}
pub use Rattle.std.proofs.Common.{◌≡◌, ◌≢◌, ◌≤◌, ◌⊎◌}
pub use Rattle.std.proofs.Math.Seq.{take-add, take-append-add, take-append_seam}
pub use Rattle.std.proofs.lemmas.Bool.{false≢true, le-ltb}
pub use Rattle.std.proofs.lemmas.Bool.Decides.{eqb_tells, leb_tells, nat_tests}
pub use Rattle.std.proofs.lemmas.List.{at_drop_all, at_drop_more, drop-append-le, length-append, length-drop}
pub use Rattle.std.proofs.lemmas.List.{length-map, length-take, length-take-le, take-append-drop}
pub use Rattle.std.proofs.lemmas.List.{take-append-le, take_all}
pub use Rattle.std.proofs.lemmas.Result.{err_from_is_err_and}
pub use Rattle.std.specs.Bool.{MatchBool}
pub use Rattle.std.specs.Char.{digit_value, is_ascii_digit}
pub use Rattle.std.specs.Io.KnownBytes.{Appends, Consumes}
pub use Rattle.std.specs.List.{flat_map, list_all}
pub use Rattle.std.specs.Prelude.{IfOk, IsTrue, count_by, ◌↔◌}
pub use Rattle.std.specs.Str.Parse.{digits_value}
pub use Rattle.httparse.proofs.GrammarLemmas.{ReadsRequest-append, print_request-append, request_unique}
pub use Rattle.httparse.specs.Grammar.{EndsInTarget, Field, IsField, IsRequestHead, IsToken, LineEnd}
pub use Rattle.httparse.specs.Grammar.{MayBecomeRequest, NeverHasRequest, ReadsRequest, RequestHead, crlf}
pub use Rattle.httparse.specs.Grammar.{is_uri_byte, is_value_byte, lf, print_blank, print_end, print_field}
pub use Rattle.httparse.specs.Grammar.{print_section, print_version}
pub use Rattle.httparse.specs.Spans.{IsHeaderWithin, IsRequestAt, IsRequestOf, IsRequestWithin, IsWithin}
pub use Rattle.httparse.specs.Spans.{RequestExceeds, header_bytes, name_and_value, span_bytes}
pub use Rattle.httparse.specs.declared.spans.HeaderSpan.{HeaderSpan}
pub use Rattle.httparse.specs.declared.spans.RequestSpans.{RequestSpans}
pub use Rattle.portal_http_message.specs.Decided.{IsDecided, IsDecidedByHead, IsDecidedWithout, IsIncomplete}
pub use Rattle.portal_http_message.specs.Decided.{ExceedsHeadLimits, IsSettled}
pub use Rattle.portal_http_message.specs.Limits.{body_limit, field_limit, head_limit}
pub use Rattle.portal_http_message.specs.Lines.{HasTooManyLines}
pub use Rattle.portal_http_message.specs.Message.{BeginsWith, HeadOf, ParsesTo, Message, body_after}
pub use Rattle.portal_http_message.specs.Message.{bytes_after, fields_of, length_of, message_in, message_with}
pub use Rattle.portal_http_message.specs.Reading.{BreaksOff, IsIncompleteBefore, ReadsRequestBytes}
pub use Rattle.portal_http_message.specs.Steps.{IsFinding, IsHeadAt, IsOccurrence, Receives}
pub use Rattle.portal_http_message.specs.declared.errors.HeadError.{HeadError}
pub use Rattle.portal_http_message.specs.declared.head.FoundHead.{FoundHead}
