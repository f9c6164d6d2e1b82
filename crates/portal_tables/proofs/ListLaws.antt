-- From what the readers list to the lists of the history: the codes of a batch, and the open sessions.
use Rattle.portal_tables.proofs.Common.{◌≡◌, inl, inr, ℕ, pos, ◌-ℤ◌, List, [], ◌∷◌, map, filter}
use Rattle.portal_tables.proofs.Common.{◌&&◌, is_none, Option, Some, None, All, refl, sym, ap, ap₂}
use Rattle.portal_tables.proofs.Common.{subst, ◌∙◌, arith, bytes_eq, nat_lt, AllByRecursion}
use Rattle.portal_tables.proofs.Common.{range_with_len, IsPermutation, nat_tests, ints, All-head, All-tail}
use Rattle.portal_tables.proofs.Common.{All-map, All-filter, All-from_recursion, All-weaker, IsCode, text_of}
use Rattle.portal_tables.proofs.Common.{text_of_device, Session, all_sessions, Grant, History, codes_of}
use Rattle.portal_tables.proofs.Common.{grants_of, session_of, is_below, is_open_at, VoucherRow, SessionRow}
use Rattle.portal_tables.proofs.Common.{vouchers_of, sessions_of, totals_of, openings, row_of_opening}
use Rattle.portal_tables.proofs.Common.{session_opened, total_of_opening, total_row, WholeSession, total_of}
use Rattle.portal_tables.proofs.Common.{remaining_of, IsLegal, IsFirst, openings_first, Has, has_filtered}
use Rattle.portal_tables.proofs.Common.{has_image, has_mapped, session_at, rows_are_typed, agree, ListsAs}
use Rattle.portal_tables.proofs.Common.{ListsOpen, by_place, is_left, is_open_row, IsRowOf, SessionValue}
use Rattle.portal_tables.proofs.Common.{session_kept, whole_session_read, voucher_kept, same_code}
use Rattle.std.specs.Prelude.{int_lt}
use Rattle.portal_model_laws.proofs.Basics.{map-map, filter-map, bytes_swap}
use Rattle.portal_model_laws.proofs.Listings.{codes_are_rows}
use Rattle.portal_tables.proofs.InOrder.{in_order}

-- ---- the codes of a batch

pub same_codes : (xs ys : List (List ℕ)) → All IsCode xs → All IsCode ys
    → map text_of xs ≡ map text_of ys → xs ≡ ys
same_codes [] [] p q e = refl
same_codes [] (y ∷ ys) p q e = absurd (cc)
same_codes (x ∷ xs) [] p q e = absurd (cc)
same_codes (x ∷ xs) (y ∷ ys) p q e =
    let first : text_of x ≡ text_of y = cc in
    let rest : map text_of xs ≡ map text_of ys = cc in
    ap₂ ◌∷◌ (same_code x y (All-head IsCode x xs p) (All-head IsCode y ys q) first)
    (same_codes xs ys (All-tail IsCode x xs p) (All-tail IsCode y ys q) rest)

swapped : (a b : List ℕ) → bytes_eq a b ≡ bytes_eq b a
swapped a b = agree _ _ (bytes_swap a b) (bytes_swap b a)

module _ (h : History) (legal : IsLegal h) (id : List ℕ) where
  abbrev of_batch : List VoucherRow
  of_batch = filter (λ (v : VoucherRow). bytes_eq v.batch id) (vouchers_of h)

  -- the rows that have the batch, as they are stored
  kept_rows : filter (λ (v : VoucherRow). bytes_eq id v.batch) (map voucher_kept (vouchers_of h))
      ≡ map voucher_kept of_batch
  kept_rows = filter-map voucher_kept (λ (v : VoucherRow). bytes_eq id v.batch) (vouchers_of h)
      ∙ (λ i. map voucher_kept (filter (λ (v : VoucherRow). swapped id v.batch i) (vouchers_of h)))

  pub codes_listed : (codes : List (List ℕ)) → All IsCode codes
      → ListsAs (λ (v : VoucherRow). v.code) (λ (v : VoucherRow). bytes_eq id v.batch) by_place
      (map voucher_kept (vouchers_of h)) (map text_of codes) → codes ≡ codes_of h id
  codes_listed codes are l =
      let law = codes_are_rows h legal id in
      let places : map (λ (v : VoucherRow). v.place) (map voucher_kept of_batch) ≡ range_with_len 0 _ =
      map-map voucher_kept (λ (v : VoucherRow). v.place) of_batch ∙ law.places in
      let same : l.listed ≡ map voucher_kept of_batch =
      in_order (λ (v : VoucherRow). v.place) 0 _ (map voucher_kept of_batch) l.listed places
      (subst (λ xs. IsPermutation xs l.listed) kept_rows l.lists.same) l.lists.sorted in
      let texts : map text_of codes ≡ map text_of (codes_of h id) =
      l.shows ∙ ap (map (λ (v : VoucherRow). v.code)) same
      ∙ map-map voucher_kept (λ (v : VoucherRow). v.code) of_batch
      ∙ sym (map-map (λ (v : VoucherRow). v.code) text_of of_batch) ∙ ap (map text_of) (sym law.codes) in
      let typed : All IsCode (codes_of h id) = subst (All IsCode) (sym law.codes) (All-map IsCode
      (λ (v : VoucherRow). v.code) of_batch (All-filter (λ (v : VoucherRow). bytes_eq v.batch id)
      (λ (v : VoucherRow). IsCode v.code) (vouchers_of h) (rows_are_typed h legal).vouchers)) in
      same_codes codes (codes_of h id) are typed texts

-- ---- open sessions

-- the row of a session and its total, as they are stored
abbrev whole_of : Session → WholeSession
whole_of s = record {
  row = record {
    number = s.number;
    device = text_of_device s.device;
    plan = s.plan;
    opened = s.opened;
    used = s.used;
    closed = s.closed;
  };
  ends = s.ends;
  remaining = remaining_of s.used s.allowance;
}

left_is : (used : ℕ) (o : Option ℕ) → is_left (remaining_of used o) ≡ is_below used o
left_is used None = refl
left_is used (Some all) = natural used all
  where
    natural : (a b : ℕ) → int_lt (pos 0) (pos b -ℤ pos a) ≡ nat_lt a b
    natural a b = grind (arith, ints, nat_tests)

-- a session is open if its row says so
open_is : (t : ℕ) (s : Session) → is_open_row t (whole_of s) ≡ is_open_at t s
open_is t s = ap (λ b. is_none s.closed && (is_below t s.ends && b)) (left_is s.used s.allowance)

somes : (xs ys : List Session) → map Some xs ≡ map Some ys → xs ≡ ys
somes [] [] e = refl
somes [] (y ∷ ys) e = absurd (cc)
somes (x ∷ xs) [] e = absurd (cc)
somes (x ∷ xs) (y ∷ ys) e =
    let first : x ≡ y = cc in
    let rest : map Some xs ≡ map Some ys = cc in
    ap₂ ◌∷◌ first (somes xs ys rest)

module _ (h : History) where
  -- the rows and the totals tell the whole rows
  whole_is : (ws : List WholeSession) (gs : List Grant)
      → map (λ (w : WholeSession). w.row) ws ≡ map session_kept (map (row_of_opening h) gs)
      → map total_of ws ≡ map (total_of_opening h) gs → ws ≡ map (λ g. whole_of (session_opened h g)) gs
  whole_is [] [] e f = refl
  whole_is [] (g ∷ gs) e f = absurd (cc)
  whole_is (w ∷ ws) [] e f = absurd (cc)
  whole_is (w ∷ ws) (g ∷ gs) e f =
      let row_is : w.row ≡ session_kept (row_of_opening h g) = cc in
      let total_is : total_of w ≡ total_of_opening h g = cc in
      let rows : map (λ (x : WholeSession). x.row) ws ≡ map session_kept (map (row_of_opening h) gs) = cc in
      let totals : map total_of ws ≡ map (total_of_opening h) gs = cc in
      ap₂ ◌∷◌ (λ i. record { row = row_is i; ends = (total_is i).ends; remaining = (total_is i).remaining })
      (whole_is ws gs rows totals)

  -- the session's row and its total are among those of the history
  abbrev IsAmong : Session → Type 0
  IsAmong s = ((row : SessionRow) × Has (sessions_of h) row × (session_kept row ≡ (whole_of s).row))
      × Has (totals_of h) (total_row s)

  among : (s : Session) → Has (all_sessions h) s → IsAmong s
  among s has =
      let gs = openings (grants_of h) in
      let it = has_image (session_opened h) gs s has in
      subst IsAmong (sym it.2) (
        (row_of_opening h it.0, has_mapped (row_of_opening h) gs it.0 it.1, refl),
        has_mapped (total_of_opening h) gs it.0 it.1,
      )

  rows_among : (rows : List SessionValue) (ss : List Session)
      → map whole_session_read rows ≡ map whole_of ss → ((s : Session) → Has ss s → IsAmong s)
      → AllByRecursion (IsRowOf h) rows
  rows_among [] ss e all = tt
  rows_among (r ∷ rows) [] e all = absurd (cc)
  rows_among (r ∷ rows) (s ∷ ss) e all =
      let here : whole_session_read r ≡ whole_of s = cc in
      let rest : map whole_session_read rows ≡ map whole_of ss = cc in
      let it = all s (inl refl) in (
        record {
          of_history = it.0.0;
          among = it.0.1;
          is = ap (λ (w : WholeSession). w.row) here ∙ sym it.0.2;
          totaled = subst (Has (totals_of h)) (sym (ap total_of here)) it.1;
        },
        rows_among rows ss rest (λ x has. all x (inr has)),
      )

  module _ (legal : IsLegal h) where
    abbrev IsNumbered : Session → Type 0
    IsNumbered s = session_of h s.number ≡ Some s

    -- each session is found by its number
    numbered : All IsNumbered (all_sessions h)
    numbered = All-map IsNumbered (session_opened h) (openings (grants_of h))
        (All-weaker (IsFirst (grants_of h)) (λ g. IsNumbered (session_opened h g))
        (λ g first. session_at h g first) (openings (grants_of h)) (openings_first (grants_of h)))

    all_found : (ss : List Session) → All IsNumbered ss
        → map (λ (s : Session). session_of h s.number) ss ≡ map Some ss
    all_found [] all = refl
    all_found (s ∷ ss) all = ap₂ ◌∷◌ (All-head IsNumbered s ss all)
        (all_found ss (All-tail IsNumbered s ss all))

    module _ (t : ℕ) (rows : List SessionValue) (listed : ListsOpen t (map session_kept (sessions_of h))
        (totals_of h) (map whole_session_read rows)) where
      abbrev open_ones : List Session
      open_ones = filter (is_open_at t) (all_sessions h)

      rows_are : map whole_session_read rows ≡ map whole_of open_ones
      rows_are = listed.are
          ∙ ap (filter (is_open_row t))
          (whole_is listed.whole (openings (grants_of h)) listed.their_rows listed.their_totals
          ∙ sym (map-map (session_opened h) whole_of (openings (grants_of h))))
          ∙ filter-map whole_of (is_open_row t) (all_sessions h)
          ∙ (λ i. map whole_of (filter (λ s. open_is t s i) (all_sessions h)))

      -- the rows are of the history
      pub open_rows : All (IsRowOf h) rows
      open_rows = All-from_recursion (IsRowOf h) rows (rows_among rows open_ones rows_are
          (λ s has. among s (has_filtered (is_open_at t) (all_sessions h) s has).0))

      -- and their sessions are the open ones
      pub open_listed : (sessions : List Session)
          → map Some sessions ≡ map (λ (r : SessionValue). session_of h r.number) rows → sessions ≡ open_ones
      open_listed sessions found =
          let of_row = λ (w : WholeSession). session_of h w.row.number in
          somes sessions open_ones (found ∙ sym (map-map whole_session_read of_row rows)
          ∙ ap (map of_row) rows_are ∙ map-map whole_of of_row open_ones
          ∙ all_found open_ones (All-filter (is_open_at t) IsNumbered (all_sessions h) numbered))
