-- The sample text, read.
use Rattle.portal_files.proofs.Common.{◌≡◌, ℕ, List, codes, Option, Some, None, refl, ap, sym, ◌∙◌, subst}
use Rattle.portal_files.proofs.Common.{IsPosixZone, Data, string, Members, no_members, member, get_member}
use Rattle.portal_files.proofs.Common.{parse_document, SettingsValue, IsVenueAt, IsSettingsFile}
use Rattle.toml.proofs.OnLiterals.{toml_on_literals}
use Rattle.portal_files.specs.Sample.{IsSample}
use Rattle.portal_files.proofs.TextsAt.{same-members}

abbrev pub sample_text : List ℕ
sample_text =
    codes
    "zone = \"UTC0\"\nportal_url = \"https://wifi.example/portal\"\ndesk_token = \"desk-token\"\ngateway_token = \"gate-token\"\n"

abbrev pub sample_members : Members
sample_members =
    member (codes "desk_token") (string (codes "desk-token"))
    (member (codes "gateway_token") (string (codes "gate-token"))
    (member (codes "portal_url") (string (codes "https://wifi.example/portal"))
    (member (codes "zone") (string (codes "UTC0")) no_members)))

pub sample_document : parse_document sample_text ≡ Some sample_members
unfolding toml_on_literals
sample_document = refl

same-string : {o : Option Data} (t u : List ℕ) → o ≡ Some (string t) → o ≡ Some (string u) → u ≡ t
same-string t u e f = cc

no-url : (ms : Members) (o : Option (List ℕ)) → get_member (codes "venue_url") ms ≡ None
    → IsVenueAt ms o → o ≡ None
no-url ms None e is = refl
no-url ms (Some u) e is = let both : None ≡ Some (string u) = sym e ∙ is.found in cc

pub sample-settings : (s : SettingsValue) → IsSettingsFile sample_text s → IsSample s
sample-settings s file =
    let ms : file.members ≡ sample_members = same-members _ file.document sample_document in
    let at : (key text : List ℕ) → get_member key sample_members ≡ Some (string text)
    → get_member key file.members ≡ Some (string text) = λ key text e. ap (get_member key) ms ∙ e in
    let zone_text = same-string _ _ (at (codes "zone") (codes "UTC0") refl) file.table.zone.found in
    record {
      zone = subst (λ t. IsPosixZone t s.zone) zone_text file.table.zone.read;
      portal_url = same-string _ _ (at (codes "portal_url") (codes "https://wifi.example/portal") refl)
          file.table.portal_url.found;
      venue_url =
          no-url file.members s.venue_url (ap (get_member (codes "venue_url")) ms) file.table.venue_url;
      desk_token =
          same-string _ _ (at (codes "desk_token") (codes "desk-token") refl) file.table.desk_token.found;
      gateway_token = same-string _ _ (at (codes "gateway_token") (codes "gate-token") refl)
          file.table.gateway_token.found;
    }
