-- In the rows no voucher has more grants than its plan has uses.
use Rattle.portal_model_laws.proofs.Common.{◌≡◌, ℕ, ◌≤◌, Some, None, subst, sym, ◌∙◌, Voucher, issued_of}
use Rattle.portal_model_laws.proofs.Common.{uses_of, voucher_of, voucher_row}
use Rattle.portal_model_laws.specs.Laws.{GrantsAreBounded}
use Rattle.portal_model_laws.proofs.Basics.{none-of-map, some-of-map}
use Rattle.portal_model_laws.proofs.Counts.{uses_are_rows}
use Rattle.portal_model_laws.proofs.Unissued.{unissued}
use Rattle.portal_model_laws.proofs.Uses.{uses_bounded}
use Rattle.portal_model_laws.proofs.Vouchers.{voucher_is_row}

pub grants_bounded : GrantsAreBounded
grants_bounded H legal code = record {
  voucher = λ v e.
      let is : voucher_of H code ≡ Some v = voucher_is_row H legal code ∙ e in
      let issued = some-of-map (voucher_row H code) (issued_of H code) v is in
      let low : v.redeemed ≤ v.plan.uses = uses_bounded H legal code v is in
      let low' : uses_of H code ≤ v.plan.uses =
      subst (λ (w : Voucher). w.redeemed ≤ v.plan.uses) (sym issued.2) low in
      subst (λ (n : ℕ). n ≤ v.plan.uses) (uses_are_rows H legal code) low';
  none = λ e.
      let none : issued_of H code ≡ None =
      none-of-map (voucher_row H code) (issued_of H code) (voucher_is_row H legal code ∙ e) in
      sym (uses_are_rows H legal code) ∙ (unissued H legal code none).uses;
}
