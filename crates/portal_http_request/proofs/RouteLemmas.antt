-- One route: from the token, the number and the body to what the route asks.
use Rattle.portal_http_request.proofs.Common.{◌≡◌, ◌⊎◌, inl, inr, ℕ, List, Bool, true, Option, Some, ap, sym}
use Rattle.portal_http_request.proofs.Common.{subst, ◌∙◌, Result, Ok, Err, MatchResult, bytes_eq, MatchBool}
use Rattle.portal_http_request.proofs.Common.{Command, Refusal, Forbidden, NoMemory, Caller, SettingsValue}
use Rattle.portal_http_request.proofs.Common.{None, MatchOption, false, refl, kept, with_method}
use Rattle.portal_http_routes.specs.Route.{reading_at}
use Rattle.std.specs.Prelude.{cond}
use Rattle.std.proofs.lemmas.Slice.Eq.{bytes_eq-Decides}
use Rattle.portal_http_request.proofs.Common.{Message, Route, method_of, FindsRoute, path_of, Operation}
use Rattle.portal_http_request.proofs.Common.{Rejection, Method, Refused, IsGuest, holds_token, ReadsKey}
use Rattle.portal_http_request.proofs.Common.{fingerprint_of, OrMemory, AtGuest, AtToken, operation_of}
use Rattle.portal_http_request.proofs.Common.{AsksForCommand, AtRoute, AtMessage}

-- a caller who holds the token
pub let_through : (token text : List ℕ) (m : Message) (Then : Result Operation Rejection → Type 0)
    (result : Result Operation Rejection)
    → text ≡ token → holds_token text m.token ≡ true → Then result → AtToken token m Then result
let_through token text m Then result same holds then =
    let opened : true ≡ holds_token token m.token =
    sym holds ∙ ap (λ (t : List ℕ). holds_token t m.token) same in
    subst (λ (b : Bool). MatchBool b (Then result) (result ≡ Err (Refused Forbidden))) opened then

-- the same, where there may be no memory
pub let_in : (token text : List ℕ) (m : Message) (Then : Result Operation Rejection → Type 0)
    (result : Result Operation Rejection)
    → text ≡ token → holds_token text m.token ≡ true → OrMemory Then result
    → OrMemory (AtToken token m Then) result
let_in token text m Then result same holds (inl memory) = inl memory
let_in token text m Then result same holds (inr then) =
    inr (let_through token text m Then result same holds then)

-- a guest
pub let_guest_in : (field : Option (List ℕ)) (m : Message) (device : List ℕ)
    (Then : List ℕ → Result Operation Rejection → Type 0) (result : Result Operation Rejection)
    → field ≡ m.device → IsGuest field (Some device) → OrMemory (Then device) result
    → OrMemory (AtGuest m Then) result
let_guest_in field m device Then result is guest (inl memory) = inl memory
let_guest_in field m device Then result is guest (inr then) =
    inr (Some device, subst (λ (f : Option (List ℕ)). IsGuest f (Some device)) is guest, then)

-- a command, from what its body came to
pub ordered_by : (m : Message) (caller : Caller) (Ordered : List ℕ → Result Command Refusal → Type 0)
    (body : List ℕ) (o : Result Command Refusal) (result : Result Operation Rejection)
    → body ≡ m.body → (o ≡ Err NoMemory) ⊎ Ordered body o
    → OrMemory (AsksForCommand m caller (λ x. x ≡ o)) result
    → OrMemory (AsksForCommand m caller (Ordered m.body)) result
ordered_by m caller Ordered body o result same ordered (inl memory) = inl memory
ordered_by m caller Ordered body o result same ordered (inr (n, reads, is)) = go n reads is ordered
  where
    go : (n : Result (Option (List ℕ)) Refusal) → ReadsKey m.number n
        → MatchResult n (λ number. (x : Result Command Refusal) × (x ≡ o)
        × (result ≡ operation_of (fingerprint_of m caller number) x)) (λ r. result ≡ Err (Refused r))
        → (o ≡ Err NoMemory) ⊎ Ordered body o → OrMemory (AsksForCommand m caller (Ordered m.body)) result
    go (Ok number) reads (x, is, made) (inl memory) =
        inl (made ∙ ap (operation_of (fingerprint_of m caller number)) (is ∙ memory))
    go (Ok number) reads (x, is, made) (inr order) =
        inr (
          Ok number,
          reads,
          (
            o,
            subst (λ (b : List ℕ). Ordered b o) same order,
            made ∙ ap (operation_of (fingerprint_of m caller number)) is,
          ),
        )
    go (Err r) reads is order = inr (Err r, reads, is)

-- the route that was found
pub at_route : (settings : SettingsValue) (seed : List ℕ) (m : Message) (route one : Route)
    (result : Result Operation Rejection) → route ≡ one
    → OrMemory (AtRoute settings seed m one) result → OrMemory (AtRoute settings seed m route) result
at_route settings seed m route one result is asks =
    subst (λ (r : Route). OrMemory (AtRoute settings seed m r) result) (sym is) asks

-- the route of a method has that method
pub same_method : (route one : Route) (method : List ℕ) → with_method route method ≡ Some one
    → method_of one ≡ method
same_method route one method is = go (bytes_eq method (method_of route)) refl is
  where
    behind : (other : Option Route) → kept method other ≡ Some one → method_of one ≡ method
    behind None is = absurd (cc)
    behind (Some r) is = by (bytes_eq method (method_of r)) refl is
      where
        by : (b : Bool) → bytes_eq method (method_of r) ≡ b → cond b (Some r) None ≡ Some one
            → method_of one ≡ method
        by true same is = let e : r ≡ one = cc in ap method_of (sym e) ∙ sym ((bytes_eq-Decides _ _).0 same)
        by false same is = absurd (cc)

    go : (b : Bool) → bytes_eq method (method_of route) ≡ b
        → cond b (Some route) (kept method (reading_at route)) ≡ Some one → method_of one ≡ method
    go true same is = let e : route ≡ one = cc in ap method_of (sym e) ∙ sym ((bytes_eq-Decides _ _).0 same)
    go false same is = behind (reading_at route) is

-- what the route asks of a request whose path has it, by its method
pub at_path : (settings : SettingsValue) (seed : List ℕ) (m asked : Message) (path : List ℕ)
    (found : Option Route) (route one : Route) (result : Result Operation Rejection)
    → path ≡ path_of m.target → FindsRoute path found → found ≡ Some route → asked ≡ m
    → with_method route m.method ≡ Some one
    → OrMemory (AtRoute settings seed asked one) result → OrMemory (AtMessage settings seed (Ok m)) result
at_path settings seed m asked path found route one result same finds is_route is by_method (inl memory) =
    inl memory
at_path settings seed m asked path found route one result same finds is_route is by_method (inr asks) =
    let there = subst (λ (p : List ℕ). FindsRoute p (Some route)) same
    (subst (λ (o : Option Route). FindsRoute path o) is_route finds) in
    let asked_there = subst (λ (x : Message). AtRoute settings seed x one result) is asks in
    inr (
      Some route,
      there,
      subst (λ (o : Option Route). MatchOption o (result ≡ Err (Method route))
          (λ r. AtRoute settings seed m r result)) (sym by_method) asked_there,
    )
