use Rattle.std.proofs.Math.Logic.{∥∥₁_elim}
use Rattle.portal_http.proofs.Common.{inl, inr, sym, subst, Refusal, NoMemory, Stopped, IsRefusal}
use Rattle.portal_http.proofs.SpareLemmas.{IsRefusal-prop}
use Rattle.portal_http.proofs.spares.Spare.into_response.Goals as goal

pub returns-in-Stopped : goal.returns-in-Stopped
returns-in-Stopped c =
    let bytes = c.args.self.stopped.bytes.items in
    let is = ∥∥₁_elim c.args.self.for_stopped (IsRefusal-prop Stopped c.args.self.moment bytes) (λ it. it) in
    inl (subst (λ (r : Refusal). IsRefusal r c.args.self.moment bytes) (sym c.in-Stopped.is) is)

pub returns-in_default : goal.returns-in_default
returns-in_default c =
    let bytes = c.args.self.no_memory.bytes.items in
    let is =
    ∥∥₁_elim c.args.self.for_no_memory (IsRefusal-prop NoMemory c.args.self.moment bytes) (λ it. it) in
    inr (c.in_default.not-Stopped, is)
