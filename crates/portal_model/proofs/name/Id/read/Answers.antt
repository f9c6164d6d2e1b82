use Rattle.std.proofs.Common.{◌≡◌, length, arith, ap, sym, ◌∙◌, subst, true}
use Rattle.std.specs.List.{list_all}
use Rattle.portal_model.specs.IdText.{IsIdText, is_id_character}
use Rattle.portal_model.proofs.Padding.{padded-front, take-front}
use Rattle.portal_model.proofs.name.Id.read.Goals as goal

pub invariant_of-result : goal.invariant_of-result
invariant_of-result c =
    let copied = c.copy_from_slice.ensures.after in
    let fills : length c.as_bytes-characters.result.now ≡ length c.copy_from_slice.new.self =
    sym (ap length copied) in
    let test : list_all is_id_character c.as_bytes-characters.result.now ≡ true = cc in
    let is : IsIdText c.as_bytes-characters.result.now =
    record { least = omega arith; most = omega arith; characters = test } in
    padded-front c.copy_from_slice.new.self (length c.as_bytes-characters.result.now) fills (omega arith)
    (subst IsIdText (sym copied) is)

pub returns-clause-value : goal.returns-clause-value
returns-clause-value c =
    take-front c.copy_from_slice.new.self _ (length c.as_bytes-characters.result.now)
    (sym (ap length c.copy_from_slice.ensures.after))
    ∙ c.copy_from_slice.ensures.after ∙ c.as_bytes-characters.ensures.value

pub returns-clause-some : goal.returns-clause-some
returns-clause-some c =
    let all = c.if-not-are_id_bytes.false in
    let value = c.as_bytes-characters.ensures.value in
    let test : list_all is_id_character c.as_bytes-characters.result.now ≡ true = cc in
    subst IsIdText value (record { least = omega arith; most = omega arith; characters = test })
