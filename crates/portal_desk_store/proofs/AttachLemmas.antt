-- Attaching a database: from the words of the tables to those of a desk.
use Rattle.portal_desk_store.proofs.Common.{◌≡◌, ℕ, IsTrue, Option, subst, sym, Result, Ok, Err, IfErr}
use Rattle.portal_desk_store.proofs.Common.{IsErrAnd, MatchResult, Held, state, Ghosts}
use Rattle.sqlite.specs.State.{Survives}
use Rattle.portal_tables.specs.Attaching.{IsUnchangedConn, IsKnown, IsCauseIn, GivesOwnVersion}
use Rattle.portal_tables.specs.declared.errors.OpenFault.{OpenFault}
use Rattle.portal_desk_store.specs.Attaching.{IsAsItWas, IsCause, IsConnOpen, IsSpared, MayBeAttached}
use Rattle.portal_desk_store.specs.Attaching.{HeadGivesVersion}

module _ {S : Type 0} (g : Ghosts S) (conn : Held S) where
  pub may_be_taken : IsKnown (state g conn).now → MayBeAttached g conn
  unfolding MayBeAttached
  may_be_taken known = known

  pub not_known : ¬ MayBeAttached g conn → ¬ IsKnown (state g conn).now
  unfolding MayBeAttached
  not_known unknown = unknown

  pub is_cause : (fault : OpenFault) → IsCauseIn fault (state g conn).now → IsCause g conn fault
  unfolding IsCause
  is_cause fault why = why

  pub tells_own : (told : Option ℕ) → HeadGivesVersion g conn told → GivesOwnVersion (state g conn).now told
  unfolding HeadGivesVersion
  tells_own told tells = tells

  pub is_open : IsConnOpen g conn → IsTrue (state g conn).is_open
  unfolding IsConnOpen
  is_open live = live

  pub as_it_was : (new : Held S) → IsUnchangedConn (state g conn) (state g new) → IsAsItWas g conn new
  unfolding IsAsItWas
  as_it_was new kept = kept

  pub is_spared : (new : Held S) → Survives (state g conn) (state g new) (λ _. ⊥) → IsSpared g conn new
  unfolding IsSpared
  is_spared new spared = spared

-- the `?` of a call that failed
module _ {T E : Type 0} (result : Result T E) (e : E) where
  pub on_failed : (Made : T → Type 0) (Is : E → Type 0) → IsErrAnd result (λ y. y ≡ e) → Is e
      → MatchResult result Made Is
  on_failed Made Is failed is = go result failed
    where
      go : (r : Result T E) → IsErrAnd r (λ y. y ≡ e) → MatchResult r Made Is
      go (Ok x) h = absurd h
      go (Err y) h = subst Is (sym h) is

  pub if_failed : (Is : E → Type 0) → IsErrAnd result (λ y. y ≡ e) → Is e → IfErr result Is
  if_failed Is failed is = go result failed
    where
      go : (r : Result T E) → IsErrAnd r (λ y. y ≡ e) → IfErr r Is
      go (Ok x) h = absurd h
      go (Err y) h = subst Is (sym h) is
