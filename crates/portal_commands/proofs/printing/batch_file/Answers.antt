use Rattle.portal_commands.proofs.Common.{◌≡◌, Some, sym, ◌∙◌, subst, SettingsValue, IsBatchFile}
use Rattle.portal_files.specs.PrintFile.{IsPrintFile}
use Rattle.portal_desk.specs.Sheets.{sheet_of}
use Rattle.portal_commands.proofs.AskLemmas.{reads_also}
use Rattle.portal_commands.proofs.printing.batch_file.Goals as goal

pub returns-in-Ok-clause-file : goal.returns-in-Ok-clause-file
returns-in-Ok-clause-file g c = λ honest old represents.
    let it = c.in_ok-sheet.ensures.step honest old represents in
    let file = subst (λ (s : SettingsValue). IsPrintFile s.zone c.in_ok-sheet.sheet c.in-Ok.text.items)
    (c.settings.ensures ∙ c.batch.ensures.same_settings)
    c.in-Ok.ensures.ok in
    let zone = (g.D.Desk.settings c.args.desk.now).zone in
    let also = IsBatchFile zone c.args.id.now in (
      it.0,
      it.1,
      reads_also old it.0 (λ H. Some c.in_ok-sheet.sheet ≡ sheet_of H c.args.id.now)
          (λ H. also H c.in-Ok.text.items) (λ H is. (c.in_ok-sheet.sheet, sym is, file)) it.2,
    )
