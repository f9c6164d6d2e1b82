-- Kept requests are determined by their rows.
use Rattle.portal_ledger.proofs.Common.{◌≡◌, ℕ, Bool, true, false, List, [], ◌∷◌, length, codes, refl, ap}
use Rattle.portal_ledger.proofs.Common.{sym, subst, ◌∙◌, arith, some-same, Answer, Caller, Desk, Gateway}
use Rattle.portal_ledger.proofs.Common.{Guest, KeptRequest, kept_with, AnswerCells, boolean, cells_of}
use Rattle.portal_ledger.proofs.Common.{IsAnswerTyped, RequestRow}
use Rattle.portal_codes.specs.Code.{IsCode, Spells, text_of}
use Rattle.portal_codes.proofs.Spelling.{unique, printed_spells}
use Rattle.portal_model.specs.Device.{IsDevice, SpellsDevice, text_of_device}
use Rattle.portal_model.proofs.Devices.{reads-back}
use Rattle.portal_model.specs.declared.change.Answer.TheVariants.{LoadAnswer, IssueAnswer, SellAnswer}
use Rattle.portal_model.specs.declared.change.Answer.TheVariants.{RedeemAnswer, ReportAnswer, RefundAnswer}
use Rattle.portal_model.specs.declared.change.Answer.TheVariants.{CloseAnswer}
use Rattle.portal_ledger.specs.Laws.{CallerIsKnownByText, RequestIsKnownByRow}

pub same_code : (a b : List ℕ) → IsCode a → IsCode b → text_of a ≡ text_of b → a ≡ b
same_code a b code other e =
    unique (text_of b) b a (printed_spells b other) (subst (λ text. Spells text a) e (printed_spells a code))

pub same_device : (a b : List ℕ) → IsDevice a → IsDevice b → text_of_device a ≡ text_of_device b → a ≡ b
same_device a b device other e =
    (reads-back b other).1 a (subst (λ text. SpellsDevice text a) e (reads-back a device).0)

truth_told : (a b : Bool) → boolean a ≡ boolean b → a ≡ b
truth_told true true e = refl
truth_told false false e = refl
truth_told _ _ e = cc

answer_told : (x y : Answer) → IsAnswerTyped x → IsAnswerTyped y → cells_of x ≡ cells_of y → x ≡ y
answer_told (LoadAnswer n) (LoadAnswer n2) is other same = ap LoadAnswer (ap (λ (c : AnswerCells). c.n1) same)
answer_told (IssueAnswer b c e) (IssueAnswer b2 c2 e2) is other same =
    let batch : b ≡ b2 = some-same b b2 (ap (λ (c : AnswerCells). c.word) same) in
    let count : c ≡ c2 = ap (λ (c : AnswerCells). c.n1) same in
    let expires : e ≡ e2 = some-same e e2 (ap (λ (c : AnswerCells). c.n2) same) in
    cc
answer_told (SellAnswer c p) (SellAnswer c2 p2) is other same = let code : c ≡ c2 =
    same_code c c2 is other (some-same (text_of c) (text_of c2) (ap (λ (c : AnswerCells). c.word) same)) in
    let price : p ≡ p2 = ap (λ (c : AnswerCells). c.n1) same in
    cc
answer_told (RedeemAnswer x n u) (RedeemAnswer x2 n2 u2) is other same = let response : x ≡ x2 =
    truth_told x x2 (some-same (boolean x) (boolean x2) (ap (λ (c : AnswerCells). c.n3) same)) in
    let session : n ≡ n2 = ap (λ (c : AnswerCells). c.n1) same in
    let number : u ≡ u2 = some-same u u2 (ap (λ (c : AnswerCells). c.n2) same) in
    cc
answer_told (ReportAnswer o n u) (ReportAnswer o2 n2 u2) is other same = let response : o ≡ o2 =
    truth_told o o2 (some-same (boolean o) (boolean o2) (ap (λ (c : AnswerCells). c.n3) same)) in
    let session : n ≡ n2 = ap (λ (c : AnswerCells). c.n1) same in
    let number : u ≡ u2 = some-same u u2 (ap (λ (c : AnswerCells). c.n2) same) in
    cc
answer_told (RefundAnswer a c) (RefundAnswer a2 c2) is other same = let code : c ≡ c2 =
    same_code c c2 is other (some-same (text_of c) (text_of c2) (ap (λ (c : AnswerCells). c.word) same)) in
    let amount : a ≡ a2 = ap (λ (c : AnswerCells). c.n1) same in
    cc
answer_told (CloseAnswer n) (CloseAnswer n2) is other same =
    ap CloseAnswer (ap (λ (c : AnswerCells). c.n1) same)
answer_told _ _ is other same = cc (ap (λ (c : AnswerCells). c.kind) same)

-- the text of a device has 17 characters, and those of the others have fewer
seventeen : (d : List ℕ) → IsDevice d → length (text_of_device d) ≡ 17
seventeen (a ∷ b ∷ c ∷ d ∷ e ∷ f ∷ []) is = refl
seventeen _ is = absurd (omega (arith, is.six))

not_desk : {X : Type 0} (d : List ℕ) → IsDevice d → codes "desk" ≡ text_of_device d → X
not_desk d is e = let few : 4 ≡ 17 = ap length e ∙ seventeen d is in absurd (omega (arith, few))

not_gateway : {X : Type 0} (d : List ℕ) → IsDevice d → codes "gateway" ≡ text_of_device d → X
not_gateway d is e = let few : 7 ≡ 17 = ap length e ∙ seventeen d is in absurd (omega (arith, few))

pub the_caller_is_known_by_text : CallerIsKnownByText
the_caller_is_known_by_text Desk Desk p q e = refl
the_caller_is_known_by_text Desk Gateway p q e = cc
the_caller_is_known_by_text Desk (Guest d) p q e = not_desk d q e
the_caller_is_known_by_text Gateway Desk p q e = cc
the_caller_is_known_by_text Gateway Gateway p q e = refl
the_caller_is_known_by_text Gateway (Guest d) p q e = not_gateway d q e
the_caller_is_known_by_text (Guest d) Desk p q e = not_desk d p (sym e)
the_caller_is_known_by_text (Guest d) Gateway p q e = not_gateway d p (sym e)
the_caller_is_known_by_text (Guest d) (Guest f) p q e = ap Guest (same_device d f p q e)

abbrev made : Caller → List ℕ → List ℕ → List ℕ → List ℕ → Answer → KeptRequest
made caller number method path body answer =
    kept_with (record { caller = caller; number = number; method = method; path = path; body = body }) answer

pub the_request_is_known_by_row : RequestIsKnownByRow
the_request_is_known_by_row k j p q e =
    let caller : k.mark.caller ≡ j.mark.caller = the_caller_is_known_by_text k.mark.caller j.mark.caller
    p.mark.caller q.mark.caller (ap (λ (r : RequestRow). r.caller) e) in
    let number : k.mark.number ≡ j.mark.number = ap (λ (r : RequestRow). r.number) e in
    let method : k.mark.method ≡ j.mark.method = ap (λ (r : RequestRow). r.method) e in
    let path : k.mark.path ≡ j.mark.path = ap (λ (r : RequestRow). r.path) e in
    let body : k.mark.body ≡ j.mark.body = ap (λ (r : RequestRow). r.body) e in
    let answer : k.answer ≡ j.answer =
    answer_told k.answer j.answer p.answer q.answer (ap (λ (r : RequestRow). r.answer) e) in
    λ i. made (caller i) (number i) (method i) (path i) (body i) (answer i)
