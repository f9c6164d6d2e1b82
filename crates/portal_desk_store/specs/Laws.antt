-- Laws of the crash states of a desk over a database.
use Rattle.sqlite_trees.specs.declared.store.Store.{Ghosts}
use Rattle.portal_ledger.specs.Ledger.{Ledger, IsSound}
use Rattle.portal_ledger.specs.States.{State, MayBeFound}
use Rattle.portal_tables.specs.declared.tables.Tables.{Tables}
use Rattle.portal_tables.specs.TablesRepresent.{Files, FilesHold, IsCrashState, TablesRepresent}
use Rattle.portal_tables.proofs.StateLemmas.{files_sound, leaves}

-- every crash state holds a ledger that the state allows
pub crash_state_is_allowed : {S : Type 0} (g : Ghosts S) (tables : Tables S) (s : State)
    → TablesRepresent g tables s
    → (files : Files) → IsCrashState g tables files
    → (found : Ledger) × MayBeFound s found × FilesHold files found
crash_state_is_allowed g tables s at files may = leaves g tables s at files may

-- files hold sound ledgers only
pub found_is_sound : (files : Files) (L : Ledger) → FilesHold files L → IsSound L
found_is_sound files L shown = files_sound files L shown
