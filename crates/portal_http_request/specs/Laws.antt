-- What determines the result of the checks.
use Rattle.std.specs.Prelude.{◌≡◌, ℕ, List, Result}
use Rattle.portal_files.specs.SettingsFile.{SettingsValue}
use Rattle.portal_http_request.specs.declared.operation.Operation.{Operation}
use Rattle.portal_http_request.specs.declared.rejection.Rejection.{Rejection}
use Rattle.portal_http_request.specs.Checks.{IsChecked}

-- the settings, the seed and the bytes of a request determine the result of the checks
abbrev pub ChecksAreExact : Type 0
ChecksAreExact = (settings : SettingsValue) (seed bytes : List ℕ) (one other : Result Operation Rejection)
    → IsChecked settings seed bytes one → IsChecked settings seed bytes other → one ≡ other
