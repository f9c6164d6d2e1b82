use Rattle.portal_json.proofs.Common.{◌≡◌, ◌++◌, take, string_bytes}
use Rattle.portal_json.specs.Listed.{entries_after}
use Rattle.portal_json.proofs.listed.put_entries.Given as goal

abbrev pub invariant-loop-entry : goal.invariant-loop-entry
invariant-loop-entry g l = string_bytes l.text ≡ string_bytes l.fn.text
    ++ entries_after g.T.Entry.shown (take l.entry-index l.entries)
