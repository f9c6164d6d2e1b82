-- The texts of a settings table.
use Rattle.portal_files.proofs.Common.{◌≡◌, ℕ, Bool, true, false, List, codes, Option, Some, None, refl, ap}
use Rattle.portal_files.proofs.Common.{sym, ◌∙◌, subst, option_map, is_some, false≢true, TimeZone}
use Rattle.portal_files.proofs.Common.{IsPosixZone, Data, string, Members, get_member, SettingsValue, is_url}
use Rattle.portal_files.proofs.Common.{IsTextAt, IsVenueAt, IsZoneAt, IsSettingsTable, IsSettingsFile}
use Rattle.portal_files.proofs.Common.{parse_document}
use Rattle.portal_files.specs.Laws.{SameSettings}

pub same-texts : {ms : Members} {key : List ℕ} {test : List ℕ → Bool} (t u : List ℕ) → IsTextAt test key ms t
    → IsTextAt test key ms u → t ≡ u
same-texts t u is so =
    let both : Some (string t) ≡ Some (string u) = sym is.found ∙ so.found in
    cc

pub same-venue : (ms : Members) (o p : Option (List ℕ)) → IsVenueAt ms o → IsVenueAt ms p → o ≡ p
same-venue ms None None is so = refl
same-venue ms None (Some u) is so =
    let both : None ≡ Some (string u) = sym is ∙ so.found in cc
same-venue ms (Some t) None is so =
    let both : None ≡ Some (string t) = sym so ∙ is.found in cc
same-venue ms (Some t) (Some u) is so = ap Some (same-texts t u is so)

pub no-venue : (ms : Members) (o : Option (List ℕ)) (d : Data) → Some d ≡ get_member (codes "venue_url") ms
    → ((u : List ℕ) → IsTextAt is_url (codes "venue_url") ms u → ⊥) → IsVenueAt ms o → ⊥
no-venue ms None d there none is =
    let both : Some d ≡ None = there ∙ is in cc
no-venue ms (Some u) d there none is = none u is

pub option_map-none : {A B : Type 0} (f : A → B) (r : Option A) → is_some r ≡ false → option_map f r ≡ None
option_map-none f None e = refl
option_map-none f (Some x) e = absurd (false≢true (sym e))

pub member-there : {A B : Type 0} (f : A → B) (r : Option A) (o : Option B) → option_map f r ≡ o
    → is_some r ≡ true → (d : B) × (Some d ≡ o)
member-there f None o e n = absurd (false≢true n)
member-there f (Some x) o e n = (f x, e)

pub same-members : {m n : Members} (o : Option Members) → o ≡ Some m → o ≡ Some n → m ≡ n
same-members o e f = cc

zone-text : {ms : Members} (z w : TimeZone) → (is : IsZoneAt ms z) → (so : IsZoneAt ms w) → is.text ≡ so.text
zone-text z w is so =
    let both : Some (string is.text) ≡ Some (string so.text) = sym is.found ∙ so.found in
    cc

same-table : (ms : Members) (s t : SettingsValue) → IsSettingsTable ms s
    → IsSettingsTable ms t → SameSettings s t
same-table ms s t is so = record {
  rule = so.zone.text;
  first_zone = subst (λ x. IsPosixZone x s.zone) (zone-text s.zone t.zone is.zone so.zone) is.zone.read;
  second_zone = so.zone.read;
  portal_url = same-texts s.portal_url t.portal_url is.portal_url so.portal_url;
  venue_url = same-venue ms s.venue_url t.venue_url is.venue_url so.venue_url;
  desk_token = same-texts s.desk_token t.desk_token is.desk_token so.desk_token;
  gateway_token = same-texts s.gateway_token t.gateway_token is.gateway_token so.gateway_token;
}

pub same_settings : (bytes : List ℕ) (s t : SettingsValue) → IsSettingsFile bytes s
    → IsSettingsFile bytes t → SameSettings s t
same_settings bytes s t is so =
    let same : is.members ≡ so.members = same-members (parse_document bytes) is.document so.document in
    same-table so.members s t (subst (λ m. IsSettingsTable m s) same is.table) so.table
