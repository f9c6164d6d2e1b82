-- The keys of a settings table whose values are wrong, and tables without a fault.
use Rattle.std.specs.Prelude.{IsUtf8, MatchOption}
use Rattle.std.proofs.lemmas.Slice.Eq.{bytes_eq-Decides}
use Rattle.toml.specs.Parse.{parse_document}
use Rattle.portal_files.proofs.Common.{◌≡◌, List, ℕ, true, false, codes, Option, Some, None, refl, sym}
use Rattle.portal_files.proofs.Common.{ap, ◌∙◌, subst, is_some, false≢true, IfSome, TimeZone, Members, is_url}
use Rattle.portal_files.proofs.Common.{bytes_eq, IsTextAt, IsVenueAt, IsZoneAt, key_count}
use Rattle.portal_files.proofs.TextsAt.{same-members, same-texts, same-venue}
use Rattle.portal_files.specs.PlansFile.{member_count}
use Rattle.portal_files.specs.SettingsFile.{is_token}
use Rattle.portal_files.specs.SettingsFault.{IsSettingsFault, IsTableFault, IsWrongAt}
use Rattle.portal_files.specs.declared.settings_fault.SettingsFault.{SettingsFault}
use Rattle.portal_files.specs.declared.settings_fault.SettingsFault.TheVariants.{NotToml, Missing, Wrong}
use Rattle.portal_files.specs.declared.settings_fault.SettingsFault.TheVariants.{FurtherKey, SameTokens}
use Rattle.portal_files.specs.declared.settings_fault.SettingsKey.{SettingsKey}
use Rattle.portal_files.specs.declared.settings_fault.SettingsKey.TheVariants.{Zone, PortalUrl, VenueUrl}
use Rattle.portal_files.specs.declared.settings_fault.SettingsKey.TheVariants.{DeskToken, GatewayToken}

pub no-value : {A : Type 0} (r : Option A) → is_some r ≡ false → r ≡ None
no-value None e = refl
no-value (Some x) e = absurd (false≢true (sym e))

-- no key is wrong in a table in which each has its value
pub no-wrong-key : (ms : Members) → ((zone : TimeZone) × IsZoneAt ms zone)
    → ((url : List ℕ) × IsTextAt is_url (codes "portal_url") ms url)
    → ((url : Option (List ℕ)) × IsVenueAt ms url)
    → ((token : List ℕ) × IsTextAt is_token (codes "desk_token") ms token)
    → ((token : List ℕ) × IsTextAt is_token (codes "gateway_token") ms token)
    → (key : SettingsKey) → ¬ IsWrongAt ms key
no-wrong-key ms zone portal venue desk gateway Zone wrong = wrong zone.0 zone.1
no-wrong-key ms zone portal venue desk gateway PortalUrl wrong = wrong portal.0 portal.1
no-wrong-key ms zone portal venue desk gateway VenueUrl wrong = wrong venue.0 venue.1
no-wrong-key ms zone portal venue desk gateway DeskToken wrong = wrong desk.0 desk.1
no-wrong-key ms zone portal venue desk gateway GatewayToken wrong = wrong gateway.0 gateway.1

-- a value that was found, as what holds of it says
pub value-there : {A B : Type 0} (P : B → Type 0) (view : A → B) (r : Option A) → is_some r ≡ true
    → IfSome r (λ x. P (view x)) → (b : B) × P b
value-there P view None e holds = absurd (false≢true e)
value-there P view (Some x) e holds = (view x, holds)

-- a table has no fault if no key is wrong, there are no more keys, and the tokens differ
pub no-table-fault : (ms : Members) (url : Option (List ℕ)) (desk gateway : List ℕ)
    → ((key : SettingsKey) → ¬ IsWrongAt ms key) → IsVenueAt ms url → member_count ms ≡ key_count url
    → IsTextAt is_token (codes "desk_token") ms desk → IsTextAt is_token (codes "gateway_token") ms gateway
    → bytes_eq desk gateway ≡ false → (fault : SettingsFault) → ¬ IsTableFault ms fault
no-table-fault ms url desk gateway none at count is so differ (NotToml line) wrong = wrong
no-table-fault ms url desk gateway none at count is so differ (Missing key) wrong = none key wrong.0
no-table-fault ms url desk gateway none at count is so differ (Wrong key) wrong = none key wrong.0
no-table-fault ms url desk gateway none at count is so differ FurtherKey (_, other, there, more) =
    more (count ∙ ap key_count (same-venue ms url other at there))
no-table-fault ms url desk gateway none at count is so differ SameTokens (token, first, second) =
    false≢true (sym differ ∙ (bytes_eq-Decides desk gateway).1
    (same-texts desk token is first ∙ sym (same-texts gateway token so second)))

-- nor has the file of such a table one
pub no-fault : (bytes : List ℕ) (ms : Members) → IsUtf8 bytes → parse_document bytes ≡ Some ms
    → ((fault : SettingsFault) → ¬ IsTableFault ms fault)
    → (fault : SettingsFault) → ¬ IsSettingsFault bytes fault
no-fault bytes ms utf8 parsed none (NotToml line) (unread, _, _, _) =
    let both : None ≡ Some ms = sym (unread utf8) ∙ parsed in cc
no-fault bytes ms utf8 parsed none (Missing key) (other, _, again, wrong) =
    none (Missing key) (subst (λ m. IsTableFault m (Missing key)) (same-members _ again parsed) wrong)
no-fault bytes ms utf8 parsed none (Wrong key) (other, _, again, wrong) =
    none (Wrong key) (subst (λ m. IsTableFault m (Wrong key)) (same-members _ again parsed) wrong)
no-fault bytes ms utf8 parsed none FurtherKey (other, _, again, wrong) =
    none FurtherKey (subst (λ m. IsTableFault m FurtherKey) (same-members _ again parsed) wrong)
no-fault bytes ms utf8 parsed none SameTokens (other, _, again, wrong) =
    none SameTokens (subst (λ m. IsTableFault m SameTokens) (same-members _ again parsed) wrong)

-- what is found wrong with a table is wrong with its file
pub fault-of-file : (bytes : List ℕ) (ms : Members) → IsUtf8 bytes → parse_document bytes ≡ Some ms
    → (found : Option SettingsFault)
    → MatchOption found ((fault : SettingsFault) → ¬ IsTableFault ms fault) (IsTableFault ms)
    → MatchOption found ((fault : SettingsFault) → ¬ IsSettingsFault bytes fault) (IsSettingsFault bytes)
fault-of-file bytes ms utf8 parsed None none = no-fault bytes ms utf8 parsed none
fault-of-file bytes ms utf8 parsed (Some (NotToml line)) is = absurd is
fault-of-file bytes ms utf8 parsed (Some (Missing key)) is = (ms, utf8, parsed, is)
fault-of-file bytes ms utf8 parsed (Some (Wrong key)) is = (ms, utf8, parsed, is)
fault-of-file bytes ms utf8 parsed (Some FurtherKey) is = (ms, utf8, parsed, is)
fault-of-file bytes ms utf8 parsed (Some SameTokens) is = (ms, utf8, parsed, is)
