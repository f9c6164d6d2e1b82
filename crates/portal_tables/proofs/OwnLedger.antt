-- The rows of a ledger are rows that this product writes.
use Rattle.portal_tables.proofs.Common.{◌≡◌, ℕ, inl, inr, List, [], ◌∷◌, map, All, Option, Some, None, Has}
use Rattle.portal_tables.proofs.Common.{refl, sym, subst, ◌∙◌, option_map, option_and_then, nat_lt, nat_tests}
use Rattle.portal_tables.proofs.Common.{has_image, false, IsCode, IsDevice, Plan, Batch, History, plan_of}
use Rattle.portal_tables.proofs.Common.{batch_of, VoucherRow, SessionRow, GrantRow, CountRow, TotalRow}
use Rattle.portal_tables.proofs.Common.{places_of, row_of_place, rows_of, vouchers_of, IsLegal, Follows}
use Rattle.portal_tables.proofs.Common.{answer_of, changes_of, Answer, Changes, rows_are_typed}
use Rattle.portal_tables.proofs.Common.{the_sound_is_legal, Accepted, IsSound, Ledger, answer_in, history_of}
use Rattle.portal_tables.proofs.Common.{kept_with, request_kept, requests_of, Fingerprint, IsKeptTyped}
use Rattle.portal_tables.proofs.Common.{row_of_request, KeptRequest, voucher_kept, session_kept, grant_kept}
use Rattle.portal_tables.proofs.Common.{arith, count_kept}
use Rattle.std.specs.Prelude.{◌≤◌, IsSome}
use Rattle.std.specs.Option.{option_to_list}
use Rattle.std.proofs.lemmas.List.Elements.{All-nil, All-cons, All-append}
use Rattle.portal_model.specs.History.{RefundEntry, expiry, refund_of}
use Rattle.portal_model.specs.IdText.{IsIdText}
use Rattle.portal_model.specs.Terms.{AreTerms}
use Rattle.portal_model.specs.Verdict.{any_held, greatest_moment}
use Rattle.portal_model.specs.declared.command.Command.{Command}
use Rattle.portal_model_laws.specs.Limits.{BatchIsWithin, VoucherIsWithin, SessionIsWithin, GrantIsWithin}
use Rattle.portal_model_laws.specs.Limits.{TotalIsWithin}
use Rattle.portal_model_laws.proofs.Basics.{by_map, some-same}
use Rattle.portal_model_laws.proofs.Accepted.{issuable}
use Rattle.portal_model_laws.proofs.Commands.{OfEach, by_command}
use Rattle.portal_model_laws.proofs.Within.{rows_are_within_limits}
use Rattle.portal_ledger.proofs.Typed.{the_sound_keeps_typed}
use Rattle.portal_tables_rows.specs.Foreign.{IsOwnAnswer, IsOwnBatch, IsOwnCount, IsOwnGrant, IsOwnHead}
use Rattle.portal_tables_rows.specs.Foreign.{IsOwnPlan, IsOwnRequest, IsOwnSession, IsOwnTotal}
use Rattle.portal_tables_rows.specs.Foreign.{IsOwnVoucher}
use Rattle.portal_tables.specs.HoldsLedger.{RowsAreOwn}
use Rattle.portal_tables.proofs.Joining.{one}

-- ---- the rows of a history

terms_of : (p : Plan) → AreTerms p.price p.uses p.seconds p.bytes p.shelf_days
terms_of p = record {
  price_limit = p.price_limit;
  uses_least = p.uses_least;
  uses_limit = p.uses_limit;
  seconds_limit = p.seconds_limit;
  bytes_limit = p.bytes_limit;
  shelf_least = p.shelf_least;
  shelf_limit = p.shelf_limit;
  limits_something = p.limits_something;
}

-- a voucher that was refunded has an amount
with_amount : (refund : Option RefundEntry) → IsSome (option_map (λ (r : RefundEntry). r.at) refund)
    → IsSome (option_map (λ (r : RefundEntry). r.amount) refund)
with_amount None some = some
with_amount (Some r) some = refl

module _ (h : History) (legal : IsLegal h) where
  own_plan : (p : Plan) → Has (rows_of h).plans p → IsOwnPlan p
  own_plan p has = record { id = p.id_text; terms = terms_of p }

  own_batch : (b : Batch) → Has (rows_of h).batches b → IsOwnBatch b
  own_batch b has =
      let typed = rows_are_typed h legal in
      let within = one BatchIsWithin (rows_of h).batches b (rows_are_within_limits h legal).batches has in
      record {
        id = one (λ (x : Batch). IsIdText x.id) (rows_of h).batches b typed.batches has;
        plan = one (λ (x : Batch). IsIdText x.plan) (rows_of h).batches b typed.batch_plans has;
        issued = within.issued;
        expires = within.expires;
      }

  own_voucher : (v : VoucherRow) → Has (vouchers_of h) v → IsOwnVoucher (voucher_kept v)
  own_voucher v has =
      let typed = rows_are_typed h legal in
      let within = one VoucherIsWithin (vouchers_of h) v (rows_are_within_limits h legal).vouchers has in
      let it = has_image (row_of_place h) (places_of h) v has in
      record {
        code = (v.code, one (λ (x : VoucherRow). IsCode x.code) (vouchers_of h) v typed.vouchers has, refl);
        batch = one (λ (x : VoucherRow). IsIdText x.batch) (vouchers_of h) v typed.voucher_batches has;
        sold = within.sold;
        refunded = within.refunded;
        amount = subst (λ (x : VoucherRow). IsSome x.refunded → IsSome x.amount) (sym it.2)
            (with_amount (refund_of h it.0.code));
      }

  own_session : (s : SessionRow) → Has (rows_of h).sessions s → IsOwnSession (session_kept s)
  own_session s has =
      let typed = rows_are_typed h legal in
      let within = one SessionIsWithin (rows_of h).sessions s (rows_are_within_limits h legal).sessions has in
      record {
        device = (
          s.device,
          one (λ (x : SessionRow). IsDevice x.device) (rows_of h).sessions s typed.sessions has,
          refl,
        );
        plan = one (λ (x : SessionRow). IsIdText x.plan) (rows_of h).sessions s typed.session_plans has;
        opened = within.opened;
        closed = within.closed;
      }

  own_grant : (g : GrantRow) → Has (rows_of h).grants g → IsOwnGrant (grant_kept g)
  own_grant g has =
      let typed = rows_are_typed h legal in
      let within = one GrantIsWithin (rows_of h).grants g (rows_are_within_limits h legal).grants has in
      record {
        code = (g.code, one (λ (x : GrantRow). IsCode x.code) (rows_of h).grants g typed.grants has, refl);
        moment = within.moment;
      }

  own_count : (k : CountRow) → Has (rows_of h).counts k → IsOwnCount (count_kept k)
  own_count k has = (
    k.code,
    one (λ (x : CountRow). IsCode x.code) (rows_of h).counts k (rows_are_typed h legal).counts has,
    refl,
  )

  own_total : (m : TotalRow) → Has (rows_of h).totals m → IsOwnTotal m
  own_total m has = (one TotalIsWithin (rows_of h).totals m (rows_are_within_limits h legal).totals has).ends

-- ---- the requests

-- the answer of the changes is one that this product stores
abbrev TellsOwn : History → ℕ → Command → Changes → Type 0
TellsOwn H t command changes = Follows H t command → IsOwnAnswer (answer_of changes)

not_above : (limit n : ℕ) → nat_lt limit n ≡ false → n ≤ limit
not_above limit n e = grind (arith, nat_tests)

each_own : (H : History) (t : ℕ) → OfEach H t (TellsOwn H t)
each_own H t = record {
  load = λ plans follows. tt;
  issue = λ b p codes plan e follows.
      let facts = issuable (plan_of H p) (batch_of H b) (any_held H codes) codes t follows.accepted in
      let same : facts.plan_is ≡ plan = some-same facts.plan_is plan (sym facts.known ∙ e) in (
        follows.typed.0,
        subst (λ (x : Plan). expiry t x ≤ greatest_moment) same
            (not_above greatest_moment (expiry t facts.plan_is) facts.timely),
      );
  sell = λ c i e follows. follows.typed;
  redeem = λ d c i e follows. tt;
  report = λ n bytes s e follows. tt;
  refund = λ c i e follows. follows.typed;
  close = λ n s e follows. tt;
}

answer_own : (H : History) (command : Command) (t : ℕ) → Follows H t command → (answer : Answer)
    → option_map answer_of (changes_of H command t) ≡ Some answer → IsOwnAnswer answer
answer_own H command t follows answer e = by_map IsOwnAnswer answer_of (changes_of H command t) answer e
    (λ changes f. by_command H t (TellsOwn H t) (each_own H t) command changes f follows)

abbrev IsOwnKept : KeptRequest → Type 0
IsOwnKept k = IsOwnAnswer k.answer

kept_own : (L : Ledger) (a : Accepted) → Follows (history_of L) a.at a.command
    → All IsOwnKept (option_to_list (request_kept (history_of L) a))
kept_own L a follows =
    go a.mark (answer_in (history_of L) a) (answer_own (history_of L) a.command a.at follows)
  where
    go : (mark : Option Fingerprint) (answer : Option Answer)
        → ((x : Answer) → answer ≡ Some x → IsOwnAnswer x)
        → All IsOwnKept (option_to_list
        (option_and_then {U = KeptRequest} (λ m. option_map (kept_with m) answer) mark))
    go None answer own = All-nil IsOwnKept
    go (Some mark) None own = All-nil IsOwnKept
    go (Some mark) (Some x) own = All-cons IsOwnKept (kept_with mark x) [] (own x refl) (All-nil IsOwnKept)

answers_own : (L : Ledger) → IsSound L → All IsOwnKept (requests_of L)
answers_own [] s = All-nil IsOwnKept
answers_own (a ∷ L) s =
    All-append IsOwnKept (requests_of L) (option_to_list (request_kept (history_of L) a))
    (answers_own L s.1) (kept_own L a s.0.follows)

own_request : (L : Ledger) → IsSound L → (k : KeptRequest) → Has (requests_of L) k
    → IsOwnRequest (row_of_request k)
own_request L s k has = record {
  kept = k;
  mark = (one IsKeptTyped (requests_of L) k (the_sound_keeps_typed L s) has).mark;
  answer = one IsOwnKept (requests_of L) k (answers_own L s) has;
  is = refl;
}

-- ---- all rows

-- what holds of each holds of their images
of_image : {X Y : Type 0} (f : X → Y) (P : Y → Type 0) (xs : List X) → ((x : X) → Has xs x → P (f x))
    → (y : Y) → Has (map f xs) y → P y
of_image f P xs own y has = let it = has_image f xs y has in subst P (sym it.2) (own it.0 it.1)

pub rows_are_own : RowsAreOwn
rows_are_own L s =
    let h = history_of L in
    let legal = the_sound_is_legal L s in
    record {
      heads = λ x has. elim has [
        | inl is ↦ subst IsOwnHead (sym is) (refl, (rows_are_within_limits h legal).head.last)
        | inr none ↦ absurd none
      ];
      plans = own_plan h legal;
      batches = own_batch h legal;
      vouchers = of_image voucher_kept IsOwnVoucher (rows_of h).vouchers (own_voucher h legal);
      sessions = of_image session_kept IsOwnSession (rows_of h).sessions (own_session h legal);
      grants = of_image grant_kept IsOwnGrant (rows_of h).grants (own_grant h legal);
      counts = of_image count_kept IsOwnCount (rows_of h).counts (own_count h legal);
      totals = own_total h legal;
      requests = of_image row_of_request IsOwnRequest (requests_of L) (own_request L s);
    }
