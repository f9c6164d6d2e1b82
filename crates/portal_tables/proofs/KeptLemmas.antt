-- The request that is held under a key is the row of that key.
use Rattle.portal_model_laws.proofs.Basics.{and-true}
use Rattle.portal_ledger.proofs.Keys.{held-alike, key-refl}
use Rattle.portal_tables.proofs.Common.{the_held_is_row, Accepted, Ledger, IsSound, history_of, request_kept}
use Rattle.portal_tables.proofs.Common.{requests_of, is_under, held_in, answer_in, kept_with, Fingerprint}
use Rattle.portal_tables.proofs.Common.{IsCaller, same_caller, same_key, IsKeptTyped, row_of_request}
use Rattle.portal_tables.proofs.Common.{text_of_caller, KeptRequest, Answer, has_image, all_has, Has, ◌≡◌}
use Rattle.portal_tables.proofs.Common.{inl, inr, ℕ, Bool, true, cond, ◌&&◌, List, [], ◌∷◌, map, Option, Some}
use Rattle.portal_tables.proofs.Common.{None, IfSome, option_map, refl, sym, ap, ap₂, subst, ◌∙◌, bytes_eq}
use Rattle.portal_tables.proofs.Common.{cases_Bool, recursion_from_All, bytes_eq-Decides, option_or}
use Rattle.portal_tables.proofs.Common.{option_and_then, find, has_mapped}
use Rattle.portal_ledger.proofs.KnownByRow.{the_caller_is_known_by_text, the_request_is_known_by_row}
use Rattle.portal_ledger.proofs.Typed.{the_sound_keeps_typed}
use Rattle.portal_ledger.specs.Ledger.{IsKeyFree}
use Rattle.portal_ledger.specs.declared.caller.Caller.TheVariants.{Desk, Gateway, Guest}
use Rattle.portal_ledger.specs.declared.caller.Caller.{Caller}
use Rattle.portal_tables_rows.specs.Requests.{key_of}
use Rattle.portal_tables_sql.specs.Finds.{Finds}
use Rattle.std.specs.Option.{option_to_list}
use Rattle.portal_tables_sql.proofs.Named.{has_part}

has_one : {X : Type 0} (o : Option X) (x : X) → Has (option_to_list o) x → o ≡ Some x
has_one None x has = absurd has
has_one (Some y) x (inl e) = ap Some (sym e)
has_one (Some y) x (inr none) = absurd none

-- ---- what a ledger stores is held

the_mark : (mark : Fingerprint) (o : Option Answer) (k : KeptRequest)
    → option_map (kept_with mark) o ≡ Some k → mark ≡ k.mark
the_mark mark None k e = absurd (cc)
the_mark mark (Some answer) k e = let same : kept_with mark answer ≡ k = cc in
    ap (λ (x : KeptRequest). x.mark) same

marked_by : (answer : Option Answer) (o : Option Fingerprint) (k : KeptRequest)
    → option_and_then (λ (mark : Fingerprint). option_map (kept_with mark) answer) o ≡ Some k
    → o ≡ Some k.mark
marked_by answer None k e = absurd (cc)
marked_by answer (Some mark) k e = ap Some (the_mark mark answer k e)

last_held : (L : Ledger) (a : Accepted) (mark : Fingerprint) (k : KeptRequest) → IsKeyFree L a.mark
    → request_kept (history_of L) a ≡ Some k → same_key k.mark mark ≡ true → held_in (a ∷ L) mark ≡ Some k
last_held L a mark k free is key =
    let own : a.mark ≡ Some k.mark = marked_by (answer_in (history_of L) a) a.mark k is in
    let none : held_in L k.mark ≡ None = (subst (IsKeyFree L) own free).1 in
    let before : held_in L mark ≡ None = sym (held-alike k.mark mark key L) ∙ none in
    let under : is_under mark a.mark ≡ true = ap (is_under mark) own ∙ key in
    ap (λ (o : Option KeptRequest).
    option_or o (cond (is_under mark a.mark) (request_kept (history_of L) a) None)) before
    ∙ ap (λ (b : Bool). cond b (request_kept (history_of L) a) None) under ∙ is

held_of : (L : Ledger) → IsSound L → (mark : Fingerprint) (k : KeptRequest) → Has (requests_of L) k
    → same_key k.mark mark ≡ true → held_in L mark ≡ Some k
held_of [] sound mark k has key = absurd has
held_of (a ∷ L) sound mark k has key =
    elim (has_part (requests_of L) (option_to_list (request_kept (history_of L) a)) k has) [
      | inl was ↦ ap (λ (o : Option KeptRequest). option_or o
          (cond (is_under mark a.mark) (request_kept (history_of L) a) None))
          (held_of L sound.1 mark k was key)
      | inr last ↦ last_held L a mark k sound.0.free (has_one (request_kept (history_of L) a) k last) key
    ]

-- ---- what is held is stored

find_has : {X : Type 0} (p : X → Bool) (xs : List X) (x : X) → find p xs ≡ Some x → Has xs x × (p x ≡ true)
find_has p [] x e = absurd (cc)
find_has p (y ∷ xs) x e = elim (cases_Bool (p y)) [
  | inl on ↦ let same : y ≡ x = let first = rw on at e in cc in (inl (sym same), sym (ap p same) ∙ on)
  | inr off ↦ let it = find_has p xs x (rw off at e) in (inr it.0, it.1)
]

held_has : (L : Ledger) (mark : Fingerprint) (k : KeptRequest) → held_in L mark ≡ Some k
    → Has (requests_of L) k × (same_key k.mark mark ≡ true)
held_has L mark k is =
    find_has (λ (x : KeptRequest). same_key x.mark mark) (requests_of L) k (sym (the_held_is_row L mark) ∙ is)

caller_same : (a b : Caller) → same_caller a b ≡ true → a ≡ b
caller_same Desk Desk e = refl
caller_same Desk Gateway e = cc
caller_same Desk (Guest d) e = cc
caller_same Gateway Desk e = cc
caller_same Gateway Gateway e = refl
caller_same Gateway (Guest d) e = cc
caller_same (Guest d) Desk e = cc
caller_same (Guest d) Gateway e = cc
caller_same (Guest d) (Guest f) e = ap Guest ((bytes_eq-Decides d f).0 e)

-- ---- what a reader found

module _ (L : Ledger) (sound : IsSound L) (caller : Caller) (number : List ℕ) (is_caller : IsCaller caller)
    (mark : Fingerprint) (from : mark.caller ≡ caller) (under : mark.number ≡ number) where
  pub kept_found : (k : KeptRequest) → IsKeptTyped k → Finds key_of (text_of_caller caller, number)
      (map row_of_request (requests_of L)) (Some (row_of_request k)) → Some k ≡ held_in L mark
  kept_found k typed finds =
      let it = has_image row_of_request (requests_of L) (row_of_request k) finds.0 in
      let own : IsKeptTyped it.0 = all_has IsKeptTyped (requests_of L) it.0
      (recursion_from_All IsKeptTyped (requests_of L) (the_sound_keeps_typed L sound)) it.1 in
      let same : k ≡ it.0 = the_request_is_known_by_row k it.0 typed own it.2 in
      let has : Has (requests_of L) k = subst (Has (requests_of L)) (sym same) it.1 in
      let who : k.mark.caller ≡ caller =
      the_caller_is_known_by_text k.mark.caller caller typed.mark.caller is_caller (λ t. (finds.1 t).0) in
      let which : k.mark.number ≡ number = λ t. (finds.1 t).1 in
      let key : same_key k.mark mark ≡ true =
      ap₂ (λ (c : Caller) (n : List ℕ). same_caller c mark.caller && bytes_eq n mark.number) (who ∙ sym from)
      (which ∙ sym under) ∙ key-refl mark in
      sym (held_of L sound mark k has key)

  pub kept_missing : Finds key_of (text_of_caller caller, number) (map row_of_request (requests_of L)) None
      → None ≡ held_in L mark
  kept_missing none = go (held_in L mark) refl
    where
      go : (o : Option KeptRequest) → held_in L mark ≡ o → None ≡ o
      go None e = refl
      go (Some k) e =
          let it = held_has L mark k e in
          let parts =
          and-true (same_caller k.mark.caller mark.caller) (bytes_eq k.mark.number mark.number) it.1 in
          let who : text_of_caller k.mark.caller ≡ text_of_caller caller =
          ap text_of_caller (caller_same k.mark.caller mark.caller parts.0 ∙ from) in
          let which : k.mark.number ≡ number =
          (bytes_eq-Decides k.mark.number mark.number).0 parts.1 ∙ under in
          absurd
          (none (row_of_request k) (has_mapped row_of_request (requests_of L) k it.0) (λ t. (who t, which t)))

  pub found_is_held : (found : Option KeptRequest) → IfSome found IsKeptTyped → Finds key_of (
    text_of_caller caller,
    number,
  ) (map row_of_request (requests_of L)) (option_map row_of_request found) → found ≡ held_in L mark
  found_is_held None typed none = kept_missing none
  found_is_held (Some k) typed finds = kept_found k typed finds
