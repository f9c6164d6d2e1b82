use Rattle.portal_files.proofs.Common.{◌∙◌, ◌++◌, ap, List, ℕ, string_bytes, flat_map, limit_text}
use Rattle.portal_files.proofs.Common.{amount_text, Shared, header_row, code_row}
use Rattle.portal_files.proofs.PrintLines.{shared, print-file, shared-same, ok-or}
use Rattle.portal_files.specs.declared.fault.FileFault.TheVariants.{Memory}
use Rattle.portal_files.proofs.print_file.print_batch.Goals as goal

pub returns-clause-ok : goal.returns-clause-ok
returns-clause-ok c =
    let sheet = c.args.sheet.now in
    let expires = string_bytes c.in_ok-expires.expires in
    let same = shared-same sheet.plan
    (c.as_bytes.ensures.value ∙ c.text.ensures.value)
    (c.as_bytes-2.ensures.value ∙ c.in_ok-seconds.ensures ∙ ap limit_text c.from.ensures)
    (c.as_bytes-3.ensures.value ∙ c.in_ok-bytes.ensures)
    (c.as_bytes-4.ensures.value ∙ c.in_ok-price.ensures ∙ ap amount_text c.from-2.ensures)
    c.as_bytes-5.ensures.value in
    ok-or c.write_code_lines.result Memory c.or.result _ _ c.or.ensures
    (λ text e. print-file c.args.settings.now.zone sheet text.items expires c.in_ok-expires.ensures
    c.as_slice.ensures.codes
    (e ∙ ap (λ (s : Shared). header_row ++ flat_map (code_row s) c.as_slice.result.now) same
    ∙ ap (λ (codes : List (List ℕ)). header_row ++ flat_map (code_row (shared sheet.plan expires)) codes)
    c.as_slice.ensures.value))
    c.write_code_lines.ensures
