-- What is told of batches, and of the vouchers that are found by the first characters of their codes.
use Rattle.std.specs.Prelude.{◌≡◌, ℕ, Bool, true, nat_le, nat_lt, List, map, filter, length, take, count_by}
use Rattle.std.specs.Prelude.{Option, Some, None, is_some, option_map, bytes_eq, IsPermutation}
use Rattle.std.specs.List.{filter_map}
use Rattle.std.specs.List.Sorted.{IsSorted}
use Rattle.std.specs.Ordering.{ordering_then, nat_cmp, is_lt}
use Rattle.std.specs.Cmp.Lexicographic.{slice_cmp}
use Rattle.std.specs.declared.cmp.Ordering.{Ordering}
use Rattle.portal_codes.specs.Code.{text_of}
use Rattle.portal_model.specs.declared.record.Batch.{Batch}
use Rattle.portal_model.specs.declared.record.Voucher.{Voucher}
use Rattle.portal_model.specs.declared.batches.BatchState.{BatchState}
use Rattle.portal_model.specs.History.{History, batch_of, codes_of, voucher_of}
use Rattle.portal_model.specs.Rows.{batches_of, places_of}

-- ---- a batch

-- the vouchers with these codes, in this order
abbrev pub vouchers_with : History → List (List ℕ) → List Voucher
vouchers_with H codes = filter_map (voucher_of H) codes

-- the voucher was redeemed as often as its plan allows
abbrev pub is_used_up : Voucher → Bool
is_used_up v = nat_le v.plan.uses v.redeemed

-- a batch, with how many of these vouchers were ever sold, refunded and used up
abbrev pub batch_state : Batch → List Voucher → BatchState
batch_state batch vouchers = record {
  batch = batch;
  sold = count_by (λ v. is_some v.sold) vouchers;
  refunded = count_by (λ v. is_some v.refund) vouchers;
  used_up = count_by is_used_up vouchers;
}

-- the vouchers of a batch, in order of issue
abbrev pub vouchers_in : History → List ℕ → List Voucher
vouchers_in H id = vouchers_with H (codes_of H id)

-- the batch of that id, with its vouchers
abbrev pub batch_with_vouchers : History → List ℕ → Option (Batch × List Voucher)
batch_with_vouchers H id = option_map (λ batch. (batch, vouchers_in H id)) (batch_of H id)

-- ---- the first characters of a code

-- the printed text of the code begins with that text
abbrev pub begins_with : List ℕ → List ℕ → Bool
begins_with text code = bytes_eq (take (length text) (text_of code)) text

-- the lesser printed text first
abbrev pub by_text : List ℕ → List ℕ → Ordering
by_text a b = slice_cmp nat_cmp (text_of a) (text_of b)

-- the issued codes that begin so, by their printed texts
pub record AreCodesLike (H : History) (text : List ℕ) (codes : List (List ℕ)) : Type 0 where
  pub same : IsPermutation (filter (begins_with text) (map (λ k. k.code) (places_of H))) codes
  pub sorted : IsSorted by_text codes

-- the most vouchers that are found at once
abbrev pub most_found : ℕ
most_found = 50

-- the first vouchers whose codes begin so, and whether there are more
pub record AreVouchersLike (H : History) (text : List ℕ) (vouchers : List Voucher) (more : Bool)
    : Type 0 where
  pub codes : List (List ℕ)
  pub like : AreCodesLike H text codes
  pub found : vouchers ≡ vouchers_with H (take most_found codes)
  pub rest : more ≡ nat_lt most_found (length codes)

-- ---- the list of batches

-- the later issue first, and of two at one time the greater id
abbrev pub by_issue : Batch → Batch → Ordering
by_issue a b = ordering_then (nat_cmp b.issued a.issued) (slice_cmp nat_cmp b.id a.id)

-- the batch comes in the list, or after that batch in it, if one is given
abbrev pub is_after : Option Batch → Batch → Bool
is_after None b = true
is_after (Some before) b = is_lt (by_issue before b)

-- the batches after that one, newest first
pub record AreBatchesAfter (H : History) (before : Option Batch) (batches : List Batch) : Type 0 where
  pub same : IsPermutation (filter (is_after before) (batches_of H)) batches
  pub sorted : IsSorted by_issue batches

-- the first of them, each with its state, and whether there are more
pub record AreStatesAfter (H : History) (before : Option Batch) (limit : ℕ) (states : List BatchState)
    (more : Bool) : Type 0 where
  pub batches : List Batch
  pub after : AreBatchesAfter H before batches
  pub shown : states ≡ map (λ b. batch_state b (vouchers_in H b.id)) (take limit batches)
  pub rest : more ≡ nat_lt limit (length batches)

-- the most batches that are listed at once
abbrev pub most_batches : ℕ
most_batches = 20

-- the batch after which a list begins: none, if no id is given, or that of the id
abbrev pub before_of : History → Option (List ℕ) → Option (Option Batch)
before_of H None = Some None
before_of H (Some id) = option_map Some (batch_of H id)
