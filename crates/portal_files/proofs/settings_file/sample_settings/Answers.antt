use Rattle.portal_files.proofs.Common.{◌≡◌, subst, sym, IfOk-weaker, IfErr-weaker, IsSettingsFile}
use Rattle.portal_files.proofs.SampleText.{sample_text, sample-settings}
use Rattle.portal_files.proofs.SampleZone.{sample_value, sample-file, only-memory}
use Rattle.portal_files.proofs.settings_file.sample_settings.Goals as goal

pub returns-clause-ok : goal.returns-clause-ok
returns-clause-ok c =
    let same : c.as_bytes.result.now ≡ sample_text = c.as_bytes.ensures.value in
    IfOk-weaker c.read_settings.result _ _
    (λ s file. sample-settings s (subst (λ t. IsSettingsFile t s) same file)) c.read_settings.ensures.ok

pub returns-clause-memory : goal.returns-clause-memory
returns-clause-memory c =
    let same : c.as_bytes.result.now ≡ sample_text = c.as_bytes.ensures.value in
    IfErr-weaker c.read_settings.result _ _ (λ e bad. only-memory e
    (λ is. bad is sample_value (subst (λ t. IsSettingsFile t sample_value) (sym same) sample-file)))
    c.read_settings.ensures.bad
