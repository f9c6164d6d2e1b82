-- What a call on the tables leaves unchanged in a desk.
use Rattle.std.specs.Prelude.{◌≡◌}
use Rattle.portal_desk_store.specs.declared.desks.StoreDesk.{StoreDesk}

-- all but the tables is unchanged
abbrev pub KeepsRest : {S : Type 0} → StoreDesk S → StoreDesk S → Type 0
KeepsRest old new = (new.settings ≡ old.settings) × (new.open ≡ old.open) × (new.head ≡ old.head)
