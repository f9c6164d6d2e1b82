use Rattle.portal_http.proofs.RepliedOnce.{response_is_unique}
use Rattle.portal_http.proofs.executions.response_is_unique.Goals as goal

pub returns : goal.returns
returns c =
    response_is_unique c.checks_are_exact.ensures c.response_is_fixed.ensures c.sheet_fixes_print_file.ensures
    c.takings_fix_report.ensures c.sound_is_legal.ensures c.keys_are_unique.ensures c.rows_are_typed.ensures
    c.printed_text_spells.ensures c.spelling_is_unique.ensures
