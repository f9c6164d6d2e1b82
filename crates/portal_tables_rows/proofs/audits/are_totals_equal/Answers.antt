use Rattle.portal_tables_rows.proofs.Common.{◌≡◌, ap, ap₂, Bool, ◌&&◌, Option, Some, None, refl, sym}
use Rattle.portal_tables_rows.proofs.Common.{true≢false, Decides-eqb, Decides-int_eq, slice_eq-Decides, Total}
use Rattle.portal_tables_rows.proofs.Common.{both}
use Rattle.std.specs.Bool.{Decides}
use Rattle.std.specs.Option.{option_eq}
use Rattle.portal_tables_rows.specs.contracts.column_values.TotalPartialEq.TheImpl as derived
use Rattle.portal_tables_rows.proofs.audits.are_totals_equal.Goals as goal

option_Decides : {X : Type 0} (E : X → X → Bool) → ((a b : X) → Decides (E a b) (a ≡ b)) → (a b : Option X)
    → Decides (option_eq E a b) (a ≡ b)
option_Decides E each None None = (λ _. refl, λ _. refl)
option_Decides E each None (Some b) = (λ on. absurd (true≢false (sym on)), λ e. cc)
option_Decides E each (Some a) None = (λ on. absurd (true≢false (sym on)), λ e. cc)
option_Decides E each (Some a) (Some b) =
    (λ on. ap Some ((each a b).0 on), λ e. let same : a ≡ b = cc in (each a b).1 same)

total_Decides : (a b : Total) → Decides (derived.eq-value.it a b) (a ≡ b)
total_Decides a b =
    let ends = option_Decides _ Decides-eqb a.ends b.ends in
    let remaining = option_Decides _ Decides-int_eq a.remaining b.remaining in (
      λ on.
          let first = both _ _ on in
          let last = both _ _ first.1 in
          let n = (Decides-eqb a.number b.number).0 first.0 in
          let e = ends.0 last.0 in
          let r = remaining.0 last.1 in
          λ i. record { number = n i; ends = e i; remaining = r i },
      λ e. ap₂ ◌&&◌ ((Decides-eqb a.number b.number).1 (ap (λ (x : Total). x.number) e)) (ap₂ ◌&&◌
          (ends.1 (ap (λ (x : Total). x.ends) e)) (remaining.1 (ap (λ (x : Total). x.remaining) e))),
    )

pub returns : goal.returns
returns c = slice_eq-Decides total_Decides c.args.totals.now c.args.sums.now c.eq.result c.eq.ensures
