-- The redemptions of a voucher, as the counter sees them.
use Rattle.std.specs.Prelude.{ℕ, Bool, false, cond, nat_eq, nat_lt, List, [], ◌∷◌, length, take, Option, Some}
use Rattle.std.specs.Prelude.{None, option_map, bytes_eq}
use Rattle.std.specs.List.{list_any}
use Rattle.portal_model.specs.declared.record.Session.{Session}
use Rattle.portal_model.specs.declared.redemptions.Redemption.{Redemption}
use Rattle.portal_model.specs.History.{History, Grant, effective_moment, grants_of, is_open_at, issued_of}
use Rattle.portal_model.specs.History.{session_of}

-- there is a session, and it is open at t
abbrev pub is_found_open : ℕ → Option Session → Bool
is_found_open t None = false
is_found_open t (Some s) = is_open_at t s

-- one of the redemptions is in that session
abbrev pub is_in_session : ℕ → List Grant → Bool
is_in_session number gs = list_any (λ g. nat_eq g.session number) gs

-- a redemption, by those before it: it extended its session if one of them is in it
abbrev pub redemption_after : History → ℕ → List Grant → Grant → Redemption
redemption_after H t before g = record {
  at = g.at;
  device = g.device;
  extended = is_in_session g.session before;
  is_open = is_found_open t (session_of H g.session);
  session = g.session;
}

-- the redemptions of a code among these, the newest first
abbrev pub redemptions_among : History → ℕ → List ℕ → List Grant → List Redemption
redemptions_among H t code [] = []
redemptions_among H t code (g ∷ gs) =
    let older = redemptions_among H t code gs in
    cond (bytes_eq g.code code) (redemption_after H t gs g ∷ older) older

-- the redemptions of the voucher of that code after a history, the newest first, for a request at t
abbrev pub redemptions_of : History → List ℕ → ℕ → Option (List Redemption)
redemptions_of H code t =
    option_map (λ v. redemptions_among H (effective_moment H t) code (grants_of H)) (issued_of H code)

-- the most redemptions that are listed at once
abbrev pub most_redemptions : ℕ
most_redemptions = 100

-- the first of a list of redemptions, and whether there are more
abbrev pub first_redemptions : List Redemption → List Redemption × Bool
first_redemptions all = (take most_redemptions all, nat_lt most_redemptions (length all))

-- the last redemptions of the voucher of that code after a history, the newest first, and whether there are
-- more, for a request at t
abbrev pub last_redemptions_of : History → List ℕ → ℕ → Option (List Redemption × Bool)
last_redemptions_of H code t = option_map first_redemptions (redemptions_of H code t)
