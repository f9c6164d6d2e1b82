use Rattle.portal_http.proofs.Common.{◌≡◌, ℕ, List, ◌++◌, length, take, Vec, Global, State, StaysStopped, Run}
use Rattle.portal_http.proofs.Common.{bytes_of_responses}
use Rattle.portal_http.proofs.runs.serve_each.Given as goal

abbrev pub invariant-loop-arrival : goal.invariant-loop-arrival
invariant-loop-arrival g l = record {
  same_settings : g.D.Desk.settings l.desk ≡ g.D.Desk.settings l.fn.desk;
  fault_free : g.D.Desk.is_fault_free l.desk → g.D.Desk.is_fault_free l.fn.desk;
  stays : StaysStopped (g.D.Desk.has_stopped l.fn.desk) (g.D.Desk.has_stopped l.desk);
  serves : g.D.Desk.is_fault_free l.desk → (old : State) → g.D.Desk.represents l.fn.desk old
      → (new : State) × (responses : List (Vec ℕ Global)) × g.D.Desk.represents l.desk new
      × (l.out.items ≡ l.fn.out.items ++ responses) × (length responses ≡ l.arrival-index)
      × Run (g.D.Desk.settings l.fn.desk) old (take l.arrival-index l.arrivals)
      (bytes_of_responses responses) new;
}
