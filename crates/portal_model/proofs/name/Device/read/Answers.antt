use Rattle.std.proofs.Common.{◌≡◌, ◌≢◌, ℕ, List, length, arith, subst, refl, lit<, replicate, true, ◌⊎◌}
use Rattle.portal_model.specs.Device.{SpellsDevice}
use Rattle.portal_model.proofs.Devices.{between, short-spells-none, unseparated-spells-none, unread}
use Rattle.portal_model.proofs.Devices.{read-spells}
use Rattle.portal_model.proofs.name.Device.read.Goals as goal

abbrev NoneSpelled : List ℕ → Type 0
NoneSpelled text = (device : List ℕ) → ¬ SpellsDevice text device

pub returns-then-characters-ne17-clause-err : goal.returns-then-characters-ne17-clause-err
returns-then-characters-ne17-clause-err c =
    let other : length c.as_bytes-characters.result.now ≢ 17 = c.if-characters-ne17.true in
    (refl, subst NoneSpelled c.as_bytes-characters.ensures.value (short-spells-none _ other))

pub returns-in_err-read_octet-clause-err : goal.returns-in_err-read_octet-clause-err
returns-in_err-read_octet-clause-err c = unread _ _ c.as_bytes-characters.ensures.value 0 (lit< tt) _
    c.in_err-read_octet.ensures.err c.from_residual.result c.from_residual.ensures.1

pub returns-in_err-read_octet-2-clause-err : goal.returns-in_err-read_octet-2-clause-err
returns-in_err-read_octet-2-clause-err c =
    unread _ _ c.as_bytes-characters.ensures.value 1 (lit< tt) _ c.in_err-read_octet-2.ensures.err
    c.from_residual-in_err-read_octet-2.result c.from_residual-in_err-read_octet-2.ensures.1

pub returns-in_err-read_octet-3-clause-err : goal.returns-in_err-read_octet-3-clause-err
returns-in_err-read_octet-3-clause-err c =
    unread _ _ c.as_bytes-characters.ensures.value 2 (lit< tt) _ c.in_err-read_octet-3.ensures.err
    c.from_residual-in_err-read_octet-3.result c.from_residual-in_err-read_octet-3.ensures.1

pub returns-in_err-read_octet-4-clause-err : goal.returns-in_err-read_octet-4-clause-err
returns-in_err-read_octet-4-clause-err c =
    unread _ _ c.as_bytes-characters.ensures.value 3 (lit< tt) _ c.in_err-read_octet-4.ensures.err
    c.from_residual-in_err-read_octet-4.result c.from_residual-in_err-read_octet-4.ensures.1

pub returns-in_err-read_octet-5-clause-err : goal.returns-in_err-read_octet-5-clause-err
returns-in_err-read_octet-5-clause-err c =
    unread _ _ c.as_bytes-characters.ensures.value 4 (lit< tt) _ c.in_err-read_octet-5.ensures.err
    c.from_residual-in_err-read_octet-5.result c.from_residual-in_err-read_octet-5.ensures.1

pub returns-in_err-read_octet-6-clause-err : goal.returns-in_err-read_octet-6-clause-err
returns-in_err-read_octet-6-clause-err c =
    unread _ _ c.as_bytes-characters.ensures.value 5 (lit< tt) _ c.in_err-read_octet-6.ensures.err
    c.from_residual-in_err-read_octet-6.result c.from_residual-in_err-read_octet-6.ensures.1

pub returns-then-not-is_separated-clause-err : goal.returns-then-not-is_separated-clause-err
returns-then-not-is_separated-clause-err c =
    let text = c.as_bytes-characters.result.now in
    let unlike : ¬ ((between text ≡ replicate 5 58) ⊎ (between text ≡ replicate 5 45)) =
    λ characters. let is : c.is_separated.result ≡ true = c.is_separated.ensures.1 characters in
    cc in
    (refl, subst NoneSpelled c.as_bytes-characters.ensures.value (unseparated-spells-none text unlike))

pub returns-clause-ok : goal.returns-clause-ok
returns-clause-ok c =
    let text = c.as_bytes-characters.result.now in
    let fits : length text ≡ 17 = c.if-characters-ne17.false in
    let characters : (between text ≡ replicate 5 58) ⊎ (between text ≡ replicate 5 45) =
    c.is_separated.ensures.0 c.if-not-is_separated.false in
    read-spells text c.args.text.now c.as_bytes-characters.ensures.value
    c.in_ok-read_octet.field-0 c.in_ok-read_octet-2.field-0 c.in_ok-read_octet-3.field-0
    c.in_ok-read_octet-4.field-0 c.in_ok-read_octet-5.field-0 c.in_ok-read_octet-6.field-0
    (omega arith) (omega arith) (omega arith) (omega arith) (omega arith) (omega arith)
    (record {
      len = fits;
      first = c.in_ok-read_octet.ensures.ok;
      second = c.in_ok-read_octet-2.ensures.ok;
      third = c.in_ok-read_octet-3.ensures.ok;
      fourth = c.in_ok-read_octet-4.ensures.ok;
      fifth = c.in_ok-read_octet-5.ensures.ok;
      sixth = c.in_ok-read_octet-6.ensures.ok;
      characters = characters;
    })
