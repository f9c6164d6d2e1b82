use Rattle.portal_server.proofs.Common.{◌≡◌, List, Option, length, State, ProgramError, Run, ServesAtMost}
use Rattle.portal_server.proofs.Common.{PrintsOfConnections, host_of, Turns}
use Rattle.portal_server.proofs.serving.accept_loop.Given as goal

-- at most one request a turn was carried out
abbrev pub invariant-loop-turn : goal.invariant-loop-turn
invariant-loop-turn g l = record {
  same_settings : g.D.Desk.settings l.desk ≡ g.D.Desk.settings l.fn.desk;
  fault_free : g.D.Desk.is_fault_free l.desk → g.D.Desk.is_fault_free l.fn.desk;
  says : (said : List (Option ProgramError))
      × PrintsOfConnections said (g.E.Write.contents l.fn.errors) (g.E.Write.contents l.errors)
      × (length said ≡ l._turn);
  serves : g.D.Desk.is_fault_free l.desk → (old : State) → g.D.Desk.represents l.fn.desk old
      → (new : State) × g.D.Desk.represents l.desk new × ServesAtMost l._turn
      (λ arrivals responses. Run (g.D.Desk.settings l.fn.desk) old arrivals responses new);
  turns : g.D.Desk.is_fault_free l.desk → (old : State) → g.D.Desk.represents l.fn.desk old
      → (new : State) × g.D.Desk.represents l.desk new
      × (said : List (Option ProgramError))
      × PrintsOfConnections said (g.E.Write.contents l.fn.errors) (g.E.Write.contents l.errors)
      × Turns (host_of g.H.Host g.H.Reader.Read g.H.Writer.Write) (g.D.Desk.settings l.fn.desk) l._turn
      l.fn.host old said l.host new l.has_failed;
}
