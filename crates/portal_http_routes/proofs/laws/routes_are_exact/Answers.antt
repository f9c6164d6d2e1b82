use Rattle.portal_http_routes.proofs.Common.{◌≡◌, inl, inr, ℕ, ◌<◌, Bool, true, false, cond, List, [], ◌∷◌}
use Rattle.portal_http_routes.proofs.Common.{◌++◌, Option, Some, None, codes, refl, sym, ap, ◌∙◌, subst}
use Rattle.portal_http_routes.proofs.Common.{arith, append-nil, All, option_map, RowsOf, RouteOf, Route}
use Rattle.portal_http_routes.proofs.Common.{IsPlain, IsSegment, IsPathOf, batch_path, print_path}
use Rattle.portal_http_routes.proofs.Common.{redemptions_path, session_path, voucher_path}
use Rattle.matchit.proofs.OnLiterals.{matchit_on_literals}
use Rattle.matchit.specs.Seek.{first}
use Rattle.portal_http_routes.specs.declared.Route.TheVariants.{Captive, Redeem, Plans, Batches, Print, Sales}
use Rattle.portal_http_routes.specs.declared.Route.TheVariants.{Refunds, Closes, Voucher, Takings, Reports}
use Rattle.portal_http_routes.specs.declared.Route.TheVariants.{Sessions, Session, LastSession, OwnSession}
use Rattle.portal_http_routes.specs.declared.Route.TheVariants.{SessionDetails, BatchList, Batch, Vouchers}
use Rattle.portal_http_routes.specs.declared.Route.TheVariants.{Redemptions}
use Rattle.portal_http_routes.specs.Targets.{has_no_empty_segment, is_path}
use Rattle.portal_http_routes.specs.Table.{place_route, route_of, route_in, table}
use Rattle.portal_http_routes.proofs.SeekLemmas.{seek-front, seek-print, seek-redemptions, seek-whole}
use Rattle.portal_http_routes.proofs.SeekLemmas.{seek-last}
use Rattle.portal_http_routes.proofs.SoundLemmas.{Found, Matches, seek-sound, literal-whole, literal-front}
use Rattle.portal_http_routes.proofs.SoundLemmas.{path_parameter-then}
use Rattle.portal_http_routes.proofs.TargetLemmas.{full_after}
use Rattle.portal_http_routes.proofs.laws.routes_are_exact.Goals as goal

-- The paths of a route have it

path_of_literal : (path : List ℕ) (route : Route) (literal : List ℕ) → route_in literal ≡ Some route
    → path ≡ literal → route_in path ≡ Some route
path_of_literal path route literal h e = ap route_in e ∙ h

full_print : (b : ℕ) (rest : List ℕ) → IsPlain (b ∷ rest) → is_path (print_path (b ∷ rest)) ≡ true
unfolding has_no_empty_segment
full_print b rest plain = full_after b rest (codes "/print") plain

of_print : (b : ℕ) (rest : List ℕ) → IsPlain (b ∷ rest) → route_of (print_path (b ∷ rest)) ≡ Some Print
unfolding route_of place_route matchit_on_literals
of_print b rest plain =
    ap (option_map (λ r. r.value))
    (seek-front (codes "/desk/batches/") table (b ∷ rest ++ codes "/print") _ (seek-print _ _ b rest plain))

full_batch : (b : ℕ) (rest : List ℕ) → IsPlain (b ∷ rest) → is_path (batch_path (b ∷ rest)) ≡ true
unfolding has_no_empty_segment
full_batch b rest plain = ap (λ (word : List ℕ). has_no_empty_segment true (b ∷ word))
    (sym (append-nil rest)) ∙ full_after b rest [] plain

of_batch : (b : ℕ) (rest : List ℕ) → IsPlain (b ∷ rest) → route_of (batch_path (b ∷ rest)) ≡ Some Batch
unfolding route_of place_route matchit_on_literals
of_batch b rest plain = ap (option_map (λ r. r.value))
    (seek-front (codes "/desk/batches/") table (b ∷ rest) _ (seek-whole (codes "print") _ _ b rest plain))

full_voucher : (b : ℕ) (rest : List ℕ) → IsPlain (b ∷ rest) → is_path (voucher_path (b ∷ rest)) ≡ true
unfolding has_no_empty_segment
full_voucher b rest plain = ap (λ (word : List ℕ). has_no_empty_segment true (b ∷ word))
    (sym (append-nil rest)) ∙ full_after b rest [] plain

of_voucher : (b : ℕ) (rest : List ℕ) → IsPlain (b ∷ rest) → route_of (voucher_path (b ∷ rest)) ≡ Some Voucher
unfolding route_of place_route matchit_on_literals
of_voucher b rest plain = ap (option_map (λ r. r.value))
    (seek-front (codes "/desk/vouchers/") table (b ∷ rest) _ (seek-whole (codes "redemptions") _ _ b rest
    plain))

full_redemptions : (b : ℕ) (rest : List ℕ) → IsPlain (b ∷ rest)
    → is_path (redemptions_path (b ∷ rest)) ≡ true
unfolding has_no_empty_segment
full_redemptions b rest plain = full_after b rest (codes "/redemptions") plain

of_redemptions : (b : ℕ) (rest : List ℕ) → IsPlain (b ∷ rest)
    → route_of (redemptions_path (b ∷ rest)) ≡ Some Redemptions
unfolding route_of place_route matchit_on_literals
of_redemptions b rest plain =
    ap (option_map (λ r. r.value))
    (seek-front (codes "/desk/vouchers/") table (b ∷ rest ++ codes "/redemptions") _
    (seek-redemptions _ _ b rest plain))

full_session : (b : ℕ) (rest : List ℕ) → IsPlain (b ∷ rest) → is_path (session_path (b ∷ rest)) ≡ true
unfolding has_no_empty_segment
full_session b rest plain = ap (λ (word : List ℕ). has_no_empty_segment true (b ∷ word))
    (sym (append-nil rest)) ∙ full_after b rest [] plain

of_session : (b : ℕ) (rest : List ℕ) → IsPlain (b ∷ rest) → route_of (session_path (b ∷ rest)) ≡ Some Session
unfolding route_of place_route matchit_on_literals
of_session b rest plain = ap (option_map (λ r. r.value))
    (seek-front (codes "/desk/sessions/") table (b ∷ rest) _ (seek-last _ b rest plain))

in_path : (path : List ℕ) (route : Route) → is_path path ≡ true → route_of path ≡ Some route
    → route_in path ≡ Some route
in_path path route full h = ap (λ (t : Bool). cond t (route_of path) None) full ∙ h

print_routed : (id path : List ℕ) → IsSegment id → path ≡ print_path id → route_in path ≡ Some Print
print_routed [] path seg e = absurd seg
print_routed (b ∷ rest) path seg e =
    ap route_in e ∙ in_path (print_path (b ∷ rest)) Print (full_print b rest seg) (of_print b rest seg)

batch_routed : (id path : List ℕ) → IsSegment id → path ≡ batch_path id → route_in path ≡ Some Batch
batch_routed [] path seg e = absurd seg
batch_routed (b ∷ rest) path seg e =
    ap route_in e ∙ in_path (batch_path (b ∷ rest)) Batch (full_batch b rest seg) (of_batch b rest seg)

voucher_routed : (code path : List ℕ) → IsSegment code → path ≡ voucher_path code
    → route_in path ≡ Some Voucher
voucher_routed [] path seg e = absurd seg
voucher_routed (b ∷ rest) path seg e = ap route_in e
    ∙ in_path (voucher_path (b ∷ rest)) Voucher (full_voucher b rest seg) (of_voucher b rest seg)

redemptions_routed : (code path : List ℕ) → IsSegment code → path ≡ redemptions_path code
    → route_in path ≡ Some Redemptions
redemptions_routed [] path seg e = absurd seg
redemptions_routed (b ∷ rest) path seg e = ap route_in e ∙ in_path (redemptions_path (b ∷ rest)) Redemptions
    (full_redemptions b rest seg) (of_redemptions b rest seg)

session_routed : (number path : List ℕ) → IsSegment number → path ≡ session_path number
    → route_in path ≡ Some Session
session_routed [] path seg e = absurd seg
session_routed (b ∷ rest) path seg e = ap route_in e
    ∙ in_path (session_path (b ∷ rest)) Session (full_session b rest seg) (of_session b rest seg)

routed : (route : Route) (path : List ℕ) → IsPathOf route path → route_in path ≡ Some route
unfolding matchit_on_literals place_route route_of has_no_empty_segment
routed Captive path h = path_of_literal path Captive (codes "/captive") refl h
routed Redeem path h = path_of_literal path Redeem (codes "/portal/redeem") refl h
routed Plans path h = path_of_literal path Plans (codes "/desk/plans") refl h
routed Batches path h = path_of_literal path Batches (codes "/desk/batches") refl h
routed Print path h = print_routed h.0 path h.1 h.2
routed Sales path h = path_of_literal path Sales (codes "/desk/sales") refl h
routed Refunds path h = path_of_literal path Refunds (codes "/desk/refunds") refl h
routed Closes path h = path_of_literal path Closes (codes "/desk/closes") refl h
routed Voucher path h = voucher_routed h.0 path h.1 h.2
routed Takings path h = path_of_literal path Takings (codes "/desk/takings") refl h
routed Reports path h = path_of_literal path Reports (codes "/gateway/reports") refl h
routed Sessions path h = path_of_literal path Sessions (codes "/gateway/sessions") refl h
routed Session path h = session_routed h.0 path h.1 h.2
routed LastSession path h = path_of_literal path LastSession (codes "/desk/sessions") refl h
routed OwnSession path h = path_of_literal path OwnSession (codes "/portal/session") refl h
routed SessionDetails path h =
    path_of_literal path SessionDetails (codes "/gateway/sessions/details") refl h
routed BatchList path h = absurd h
routed Batch path h = batch_routed h.0 path h.1 h.2
routed Vouchers path h = path_of_literal path Vouchers (codes "/desk/vouchers") refl h
routed Redemptions path h = redemptions_routed h.0 path h.1 h.2

-- A path that has a route is one of its paths

-- the row, where the search found one with that route
row_of : (o : Option (RouteOf Route)) (route : Route) → option_map (λ r. r.value) o ≡ Some route
    → (row : RouteOf Route) × (o ≡ Some row) × (row.value ≡ route)
row_of None route h = absurd (cc)
row_of (Some row) route h = (row, refl, cc)

-- the rows whose routes have the paths of their patterns
abbrev AllSay : RowsOf (RouteOf Route) → Type 0
AllSay [] = Unit {0}
AllSay ((pattern, k) ∷ rest) = ((path : List ℕ) → Matches pattern path → IsPathOf k.value path) × AllSay rest

said : (rows : RowsOf (RouteOf Route)) (row : RouteOf Route) (path : List ℕ) → AllSay rows
    → Found rows row path → IsPathOf row.value path
said [] row path h f = absurd f
said ((pattern, k) ∷ rest) row path h (inl f) =
    subst (λ (r : RouteOf Route). IsPathOf r.value path) f.0 (h.0 path f.1)
said ((pattern, k) ∷ rest) row path h (inr f) = said rest row path h.1 f

print_said : (path : List ℕ)
    → Matches (codes "/desk/batches/" ++ 256 ∷ codes "/print") path → IsPathOf Print path
print_said path m =
    let left = literal-front (codes "/desk/batches/") (256 ∷ codes "/print") path refl m in
    let found = path_parameter-then (codes "/print") left.0 refl left.2 in
    (found.0, found.1, left.1 ∙ ap (λ (l : List ℕ). codes "/desk/batches/" ++ l) found.2)

batch_said : (path : List ℕ) → Matches (codes "/desk/batches/" ++ 256 ∷ []) path → IsPathOf Batch path
batch_said path m =
    let left = literal-front (codes "/desk/batches/") (256 ∷ []) path refl m in
    let found = path_parameter-then [] left.0 refl left.2 in (
      found.0,
      found.1,
      left.1 ∙ ap (λ (l : List ℕ). codes "/desk/batches/" ++ l) (found.2 ∙ append-nil found.0),
    )

voucher_said : (path : List ℕ) → Matches (codes "/desk/vouchers/" ++ 256 ∷ []) path → IsPathOf Voucher path
voucher_said path m =
    let left = literal-front (codes "/desk/vouchers/") (256 ∷ []) path refl m in
    let found = path_parameter-then [] left.0 refl left.2 in (
      found.0,
      found.1,
      left.1 ∙ ap (λ (l : List ℕ). codes "/desk/vouchers/" ++ l) (found.2 ∙ append-nil found.0),
    )

redemptions_said : (path : List ℕ)
    → Matches (codes "/desk/vouchers/" ++ 256 ∷ codes "/redemptions") path → IsPathOf Redemptions path
redemptions_said path m =
    let left = literal-front (codes "/desk/vouchers/") (256 ∷ codes "/redemptions") path refl m in
    let found = path_parameter-then (codes "/redemptions") left.0 refl left.2 in
    (found.0, found.1, left.1 ∙ ap (λ (l : List ℕ). codes "/desk/vouchers/" ++ l) found.2)

session_said : (path : List ℕ) → Matches (codes "/desk/sessions/" ++ 256 ∷ []) path → IsPathOf Session path
session_said path m =
    let left = literal-front (codes "/desk/sessions/") (256 ∷ []) path refl m in
    let found = path_parameter-then [] left.0 refl left.2 in (
      found.0,
      found.1,
      left.1 ∙ ap (λ (l : List ℕ). codes "/desk/sessions/" ++ l) (found.2 ∙ append-nil found.0),
    )

all_say : AllSay table
unfolding place_route matchit_on_literals
all_say = (
  λ path m. literal-whole (codes "/captive") path refl m,
  (
    λ path m. print_said path m,
    (
      λ path m. batch_said path m,
      (
        λ path m. literal-whole (codes "/desk/batches") path refl m,
        (
          λ path m. literal-whole (codes "/desk/closes") path refl m,
          (
            λ path m. literal-whole (codes "/desk/plans") path refl m,
            (
              λ path m. literal-whole (codes "/desk/refunds") path refl m,
              (
                λ path m. literal-whole (codes "/desk/sales") path refl m,
                (
                  λ path m. session_said path m,
                  (
                    λ path m. literal-whole (codes "/desk/sessions") path refl m,
                    (
                      λ path m. literal-whole (codes "/desk/takings") path refl m,
                      (
                        λ path m. redemptions_said path m,
                        (
                          λ path m. voucher_said path m,
                          (
                            λ path m. literal-whole (codes "/desk/vouchers") path refl m,
                            (
                              λ path m. literal-whole (codes "/gateway/reports") path refl m,
                              (
                                λ path m. literal-whole (codes "/gateway/sessions/details") path refl m,
                                (
                                  λ path m. literal-whole (codes "/gateway/sessions") path refl m,
                                  (
                                    λ path m. literal-whole (codes "/portal/redeem") path refl m,
                                    (
                                      λ path m. literal-whole (codes "/portal/session") path refl m,
                                      tt,
                                    ),
                                  ),
                                ),
                              ),
                            ),
                          ),
                        ),
                      ),
                    ),
                  ),
                ),
              ),
            ),
          ),
        ),
      ),
    ),
  ),
)

route_said : (route : Route) (path : List ℕ) → All (λ b. b < 256) path
    → route_of path ≡ Some route → IsPathOf route path
unfolding route_of
route_said route path bytes h =
    let row = row_of (first table path) route h in
    subst (λ (r : Route). IsPathOf r path) row.2
    (said table row.0 path all_say (seek-sound 0 table path row.0 bytes (omega arith) row.1))

from_in : (t : Bool) (path : List ℕ) (route : Route) → cond t (route_of path) None ≡ Some route
    → route_of path ≡ Some route
from_in true path route h = h
from_in false path route h = absurd (cc)

pub returns : goal.returns
returns c = λ route path bytes. (
  λ h. route_said route path bytes (from_in (is_path path) path route h),
  λ h. routed route path h,
)
