-- Vouchers that are made from rows, with their batches and plans, and the lists of vouchers and batches.
use Rattle.std.specs.Prelude.{◌≡◌, ◌+◌, ℕ, List, [], ◌∷◌, map, Option, Some, IfSome}
use Rattle.sqlite_rules.specs.Lists.{Has}
use Rattle.portal_model.specs.History.{History, plan_of, batch_of}
use Rattle.portal_model.specs.Batches.{is_after, by_issue}
use Rattle.portal_model.specs.Rows.{vouchers_of, counts_of, batches_of}
use Rattle.portal_model.specs.declared.record.Batch.{Batch}
use Rattle.portal_tables.specs.HoldsLedger.{voucher_kept, count_kept}
use Rattle.portal_tables.specs.declared.batches.Terms.{Terms}
use Rattle.portal_tables_rows.specs.Lists.{ListsFirst}
use Rattle.portal_tables_rows.specs.Read.{voucher_read, voucher_count}
use Rattle.portal_tables_rows.specs.declared.rows.VoucherValue.{VoucherValue}

-- the batch of that id, with its plan, if there are terms
abbrev pub AreTerms : History → Option Terms → Type 0
AreTerms h before =
    IfSome before (λ terms. (batch_of h terms.id ≡ Some terms.batch)
    × (plan_of h terms.batch.plan ≡ Some terms.plan))

-- a row that was read is one of the history's, with its count
abbrev pub IsVoucherOf : History → VoucherValue → Type 0
IsVoucherOf h row = Has (map voucher_kept (vouchers_of h)) (voucher_read row)
    × Has (map count_kept (counts_of h)) (voucher_count row)

-- each of them is
abbrev pub AreVouchersOf : History → List VoucherValue → Type 0
AreVouchersOf h rows = (row : VoucherValue) → Has rows row → IsVoucherOf h row

-- the least text that is above each one that begins with this text: its last byte is one more
abbrev pub text_above : List ℕ → List ℕ
text_above [] = []
text_above (b ∷ []) = (b + 1) ∷ []
text_above (b ∷ c ∷ rest) = b ∷ text_above (c ∷ rest)

-- the first 21 batches of the list, or of what comes after that batch in it
abbrev pub AreFirstAfter : History → Option Batch → List Batch → Type 0
AreFirstAfter h before batches = ListsFirst 21 (is_after before) by_issue (batches_of h) batches
