-- A database in memory is fault-free.
use Rattle.sqlite.specs.Held.{Held}
use Rattle.sqlite.specs.Steps.{over_memory}
use Rattle.sqlite.proofs.Callers.{memory_is_clean}
use Rattle.sqlite_trees.specs.declared.memory.MemStore.{MemStore}
use Rattle.portal_tables.specs.TablesRepresent.{ConnIsFaultFree, IsFaultFree}
use Rattle.portal_desk_store.specs.declared.desks.StoreDesk.{StoreDesk}
use Rattle.portal_desk_store.specs.DeskRepresents.{DeskIsFaultFree}

pub memory_desk_is_fault_free : (desk : StoreDesk MemStore) → DeskIsFaultFree over_memory desk
unfolding IsFaultFree
memory_desk_is_fault_free desk = memory_is_clean desk.tables.conn

pub memory_conn_is_fault_free : (conn : Held MemStore) → ConnIsFaultFree over_memory conn
unfolding ConnIsFaultFree
memory_conn_is_fault_free conn = memory_is_clean conn
