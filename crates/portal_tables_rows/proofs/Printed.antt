-- What is stored in printed form is read, and its printed form is the same again.
use Rattle.portal_tables_rows.proofs.Common.{◌≡◌, ℕ, List, ap, sym, subst, ◌∙◌, Spells, text_of, SpellsDevice}
use Rattle.portal_tables_rows.proofs.Common.{text_of_device, IsPrintedCode, IsPrintedDevice}
use Rattle.portal_codes.proofs.Spelling.{unique, printed_spells}
use Rattle.portal_model.proofs.Devices.{reads-back}

pub code_reads : (text : List ℕ) → IsPrintedCode text → (code : List ℕ) × Spells text code
code_reads text own = (own.0, subst (λ t. Spells t own.0) own.2 (printed_spells own.0 own.1))

pub code_printed : (text code : List ℕ) → IsPrintedCode text → Spells text code → text_of code ≡ text
code_printed text code own spells = ap text_of
    (unique text own.0 code (subst (λ t. Spells t own.0) own.2 (printed_spells own.0 own.1)) spells) ∙ own.2

pub device_reads : (text : List ℕ) → IsPrintedDevice text → (device : List ℕ) × SpellsDevice text device
device_reads text own = (own.0, subst (λ t. SpellsDevice t own.0) own.2 (reads-back own.0 own.1).0)

pub device_printed : (text device : List ℕ) → IsPrintedDevice text → SpellsDevice text device
    → text_of_device device ≡ text
device_printed text device own spells = ap text_of_device
    ((reads-back own.0 own.1).1 device (subst (λ t. SpellsDevice t device) (sym own.2) spells)) ∙ own.2
