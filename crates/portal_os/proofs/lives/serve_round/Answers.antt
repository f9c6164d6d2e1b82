use Rattle.portal_os.proofs.Common.{subst, subst₂, ◌∙◌, sym, over_files, List, ℕ}
use Rattle.portal_files.specs.SettingsFile.{IsSettingsFile, SettingsValue}
use Rattle.portal_desk_store.specs.DeskRepresents.{DeskIsFaultFree}
use Rattle.portal_http.specs.Arrived.{Arrived}
use Rattle.portal_os.specs.Left.{given}
use Rattle.portal_os.specs.Lives.{HoldsServed}
use Rattle.portal_os.proofs.LifeLemmas.{conn_clean, files_hold, refused_image}
use Rattle.portal_os.proofs.lives.serve_round.Goals as goal

pub returns-in_default : goal.returns-in_default
returns-in_default g c L at = given (λ clean image may. at.left image may)

pub returns-in-Ok-attach_store : goal.returns-in-Ok-attach_store
returns-in-Ok-attach_store g c = (
  c.in-Ok.settings,
  subst (λ (bytes : List ℕ). IsSettingsFile bytes c.in-Ok.settings) c.as_slice.ensures.value
      c.in-Ok.ensures.ok,
  λ L at clean image may.
      let attached = c.in-Ok-attach_store in
      let represents = λ (fault_free : DeskIsFaultFree over_files attached.desk). attached.ensures.attaches L
      (c.in-Ok-open_database_files.ensures.opens.opened L at.seen
      (conn_clean c.in-Ok-open_database_files.conn (c.in-Ok-attach_store.ensures.fault_free fault_free)))
      fault_free in
      let responses = c.serve_desk-responses.result.0.items in
      subst₂ (λ (s : SettingsValue) (a : List Arrived). HoldsServed L s a responses image)
      c.in-Ok-attach_store.ensures.same_settings c.as_slice-in-Ok-attach_store.ensures.value
      (c.serve_desk-responses.ensures L represents clean image may),
)

pub returns-in-Ok-open_database_files : goal.returns-in-Ok-open_database_files
returns-in-Ok-open_database_files g c L at = given (λ clean image may.
    let fault_free = c.release_conn_files.ensures.fault_free clean in
    let refused = c.in-Err-attach_store.ensures.fails in
    let before = (refused.2 fault_free).0 in
    let represents = c.in-Ok-open_database_files.ensures.opens.opened L at.seen
    (conn_clean c.in-Ok-open_database_files.conn before) in
    refused_image c.in-Err-attach_store.conn L image
    (c.in-Err-attach_store.ensures.holds L represents fault_free)
    (c.release_conn_files.ensures.left clean image may))

pub returns-then-are_files : goal.returns-then-are_files
returns-then-are_files g c L at =
    files_hold c.in-Err.left c.into_files.result L (sym c.are_files.ensures ∙ c.if-are_files.true)
    c.into_files.ensures (c.in-Err.ensures.kept L at)
