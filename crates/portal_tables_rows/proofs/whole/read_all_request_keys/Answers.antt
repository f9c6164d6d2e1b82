use Rattle.portal_tables_rows.proofs.Common.{refl, map, map-map, key_of}
use Rattle.portal_tables_rows.specs.Requests.{AreTexts, key_cells, key_read}
use Rattle.portal_tables_rows.proofs.ManyValues.{reads_many, tells_whole}
use Rattle.portal_tables_rows.proofs.Readable.{keys_readable}
use Rattle.portal_tables_rows.proofs.RequestReading.{exact_key, keys_are, keys_taken}
use Rattle.portal_tables_rows.proofs.whole.read_all_request_keys.Goals as goal

pub returns : goal.returns
returns g c =
    reads_many g.S.Store _ _ keys_taken
    (λ rows shown t h.
    let it = tells_whole key_cells 2 (λ x. refl) exact_key AreTexts (λ v. map key_read v.items)
    (λ v. map-map key_cells key_read v.items) (map key_of t.requests) rows (keys_are _ _ rows shown t h) in
    record { is = it.is; owns = λ own. it.owns (keys_readable t.requests own) }) c.read_table.ensures
