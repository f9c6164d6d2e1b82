use Rattle.portal_http_message.proofs.Common.{◌≡◌, ℕ, List, ◌++◌, drop, map, header_bytes, IsOccurrence}
use Rattle.portal_http_message.specs.Fields.{values_of}
use Rattle.portal_http_message.proofs.fields.Fields.occurrence.Given as goal

-- what was found is what the values so far make, and they begin all the values
abbrev pub invariant-loop-field : goal.invariant-loop-field
invariant-loop-field l =
    (seen : List (List ℕ)) × IsOccurrence seen l.found
    × (seen ++ values_of l.name
    (map (header_bytes l.self-inside.bytes.now) (drop l.field-index l.self-inside.spans.now))
    ≡ values_of l.name (map (header_bytes l.self-inside.bytes.now) l.self-inside.spans.now))
