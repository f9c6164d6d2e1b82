use Rattle.portal_http.proofs.Common.{ℕ, List, running, Arrived, ServesInOrder, Survives}
use Rattle.portal_http.proofs.HeadlineLemmas.{survives}
use Rattle.portal_http.proofs.ExchangeLemmas.{ends_also}
use Rattle.portal_http.proofs.exchanges.exchange.Goals as goal

pub returns : goal.returns
returns g c =
    let desk = g.D.Desk in
    let settings = desk.settings c.args.desk.now in
    let left = desk.is_crash_state c.read_serve_and_write.new.desk in
    let carried = c.read_serve_and_write.ensures.desk in
    record {
      same_settings = carried.same_settings;
      fault_free = carried.fault_free;
      stays = carried.stays;
      wire = c.read_serve_and_write.ensures.wire;
      serves = carried.step;
      survives = λ honest L represents.
          let it = carried.step honest (running L) represents in
          ends_also
          (λ (xs : List Arrived). λ (rs : List (List ℕ)). ServesInOrder settings (running L) xs rs it.0)
          (λ (xs : List Arrived). λ (rs : List (List ℕ)).
          Survives desk.Files left desk.holds_ledger settings L xs rs)
          (λ xs rs is. survives settings desk.Files left desk.holds_ledger L xs rs it.0 is
          (λ files may. g.met.D.Desk.leaves c.read_serve_and_write.new.desk it.0 it.1 files may)
          (λ files found shown. g.met.D.Desk.sound files found shown))
          _ c.args.moment c.args.seed c.read_serve_and_write.result it.2;
    }
