-- Sessions and grants are numbered without a gap.
use Rattle.portal_model_laws.proofs.Common.{◌≡◌, ℕ, ◌+◌, ◌<◌, List, map, length, arith, subst, ap, sym, ◌∙◌}
use Rattle.portal_model_laws.proofs.Common.{range_with_len, length-map, Grant, grants_of, greatest_session}
use Rattle.portal_model_laws.proofs.Common.{SessionRow, TotalRow, openings, row_of_opening, total_of_opening}
use Rattle.portal_model_laws.proofs.Common.{sessions_of, grant_rows, VoucherRow, CountRow, places_of}
use Rattle.portal_model_laws.proofs.Common.{row_of_place, count_of_place, head_of, has_duplicate}
use Rattle.std.specs.List.Sorted.{IsStrictlyIncreasing}
use Rattle.std.proofs.lemmas.List.FromFn.{length-range_with_len, get_or-range_with_len}
use Rattle.portal_model_laws.specs.Laws.{RowsAreNumbered, KeysAreUnique}
use Rattle.portal_model_laws.proofs.Basics.{map-map}
use Rattle.portal_model_laws.proofs.Keys.{plans_apart, batches_apart, codes_apart}
use Rattle.portal_model_laws.proofs.Placed.{are_placed, openings-numbers, grants-numbers}

length-numbers : {X : Type 0} (f : X → ℕ) (xs : List X) (n : ℕ)
    → map f xs ≡ range_with_len 1 n → length xs ≡ n
length-numbers f xs n e = sym (length-map xs f) ∙ ap length e ∙ length-range_with_len 1 n

range-rises : (n : ℕ) → IsStrictlyIncreasing (range_with_len 1 n)
range-rises n = λ k h.
    let all = length-range_with_len 1 n in
    let here : k < n = omega arith in
    let next : k + 1 < n = omega arith in
    omega (arith, get_or-range_with_len 1 n k 0 here, get_or-range_with_len 1 n (k + 1) 0 next)

pub rows_are_numbered : RowsAreNumbered
rows_are_numbered H legal =
    let gs : List Grant = grants_of H in
    let opened = openings-numbers gs (are_placed H legal) in
    let sessions : map (λ s. s.number) (sessions_of H) ≡ range_with_len 1 (greatest_session gs) =
    map-map (row_of_opening H) (λ (s : SessionRow). s.number) (openings gs) ∙ opened in
    record {
      sessions = sessions;
      totals = map-map (total_of_opening H) (λ (s : TotalRow). s.number) (openings gs) ∙ opened;
      grants = grants-numbers gs;
      of_sessions = length-numbers (λ s. s.number) (sessions_of H) (greatest_session gs) sessions;
      of_grants = length-numbers (λ g. g.number) (grant_rows gs) (length gs) (grants-numbers gs);
    }

pub keys_apart : KeysAreUnique
keys_apart H legal =
    let numbered = rows_are_numbered H legal in
    let codes = codes_apart H legal in
    record {
      plans = plans_apart H legal;
      batches = batches_apart H legal;
      codes = ap has_duplicate (map-map (row_of_place H) (λ (v : VoucherRow). v.code) (places_of H)) ∙ codes;
      sessions = subst IsStrictlyIncreasing (sym numbered.sessions) (range-rises (head_of H).sessions);
      grants = subst IsStrictlyIncreasing (sym numbered.grants) (range-rises (head_of H).grants);
      counts = ap has_duplicate (map-map (count_of_place H) (λ (k : CountRow). k.code) (places_of H)) ∙ codes;
      totals = subst IsStrictlyIncreasing (sym numbered.totals) (range-rises (head_of H).sessions);
    }
