-- Devices differ if their printed texts differ.
use Rattle.portal_tables.proofs.Common.{◌≡◌, ℕ, List, subst, IsDevice, SpellsDevice, text_of_device}
use Rattle.portal_model.proofs.Devices.{reads-back}

pub same_device : (a b : List ℕ) → IsDevice a → IsDevice b → text_of_device a ≡ text_of_device b → a ≡ b
same_device a b device other e =
    (reads-back b other).1 a (subst (λ text. SpellsDevice text a) e (reads-back a device).0)
