use Rattle.portal_tables_rows.proofs.Common.{All, All-push, map, take_all, ap, refl, sym, subst, ◌∙◌, IsCode}
use Rattle.portal_tables_rows.proofs.Common.{text_of, CountValue, count_read}
use Rattle.portal_tables_rows.proofs.Compose.{made_more}
use Rattle.portal_tables_rows.proofs.keys.codes_of_counts.Goals as goal

pub loop-count-preserved : goal.loop-count-preserved
loop-count-preserved c =
    let done = c.loop-count.codes.items in
    let count = c.count-item.result in
    record {
      read = made_more text_of (λ (x : CountValue). (count_read x).code) done c.push.new.self.items count.code
          c.args.counts.now c.loop-count.count-index count c.loop-count.invariant.read
          c.in_ok-push.ensures.items
          c.loop-count-test.true c.count-item.is refl;
      codes = subst (All IsCode) (sym c.in_ok-push.ensures.items)
          (All-push IsCode done count.code c.loop-count.invariant.codes c.text.ensures.spells.is_code);
    }

pub returns-clause-read : goal.returns-clause-read
returns-clause-read c = c.loop-count.invariant.read ∙ ap (map (λ (x : CountValue). (count_read x).code))
    (take_all c.loop-count.count-index c.args.counts.now c.loop-count-test.false)
