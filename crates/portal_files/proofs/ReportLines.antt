-- The lines of a takings report.
use Rattle.portal_files.proofs.Common.{◌≡◌, ℕ, ◌+◌, ◌-◌, ◌<◌, List, [], ◌∷◌, ◌++◌, length, get_or, take}
use Rattle.portal_files.proofs.Common.{subst, replicate, ap, sym, ◌∙◌, arith, append_assoc, append-nil}
use Rattle.portal_files.proofs.Common.{decimal, concat, AllZip, DayTakings, amount_text, right_in, left_in}
use Rattle.std.proofs.lemmas.List.{take_more}
use Rattle.std.proofs.lemmas.Slice.Zip.{all_zipped_more}
use Rattle.portal_files.specs.Report.{header_line, takings_line, IsDayLine, total_line, net_line, IsReport}

-- a label of ten columns stays as it is
wide : (label : List ℕ) → length label ≡ 10 → label ≡ left_in 10 label
wide label h =
    let none : 10 - length label ≡ 0 = omega arith in
    sym (append-nil label) ∙ sym (ap (λ n. label ++ replicate n 32) none)

-- the cells, and the end of the line behind the last of them
line-end : (l a b c d : List ℕ) → l ++ 32 ∷ (a ++ 32 ∷ (b ++ 32 ∷ (c ++ 32 ∷ (d ++ 10 ∷ []))))
    ≡ (l ++ 32 ∷ (a ++ 32 ∷ (b ++ 32 ∷ (c ++ 32 ∷ d)))) ++ 10 ∷ []
line-end l a b c d = sym (simp append_assoc)

pub number-line : (label first sales second refunds : List ℕ) (sold sum refunded back : ℕ) → length label ≡ 10
    → first ≡ right_in 8 (decimal sold) → sales ≡ right_in 17 (amount_text sum)
    → second ≡ right_in 8 (decimal refunded) → refunds ≡ right_in 17 (amount_text back)
    → label ++ 32 ∷ (first ++ 32 ∷ (sales ++ 32 ∷ (second ++ 32 ∷ (refunds ++ 10 ∷ []))))
    ≡ takings_line label sold sum refunded back
number-line label first sales second refunds sold sum refunded back h p q r s =
    let l = wide label h in
    line-end label first sales second refunds
    ∙ λ i. (l i ++ 32 ∷ (p i ++ 32 ∷ (q i ++ 32 ∷ (r i ++ 32 ∷ s i)))) ++ 10 ∷ []

-- the report, as far as the days so far
pub record IsSoFar (days : List DayTakings) (text : List ℕ) : Type 0 where
  pub lines : List (List ℕ)
  pub day_lines : AllZip IsDayLine days lines
  pub text_is : text ≡ header_line ++ concat lines

concat-push : (lines : List (List ℕ)) (line : List ℕ) → concat (lines ++ line ∷ []) ≡ concat lines ++ line
concat-push [] line = append-nil line
concat-push (first ∷ lines) line =
    ap (λ t. first ++ t) (concat-push lines line) ∙ sym (append_assoc first (concat lines) line)

-- a day more
pub more-so_far : (days : List DayTakings) (i : ℕ) (day : DayTakings) (text line after : List ℕ)
    → i < length days → day ≡ get_or days i day
    → IsSoFar (take i days) text → IsDayLine day line → after ≡ text ++ line
    → IsSoFar (take (i + 1) days) after
more-so_far days i day text line after h item is one e =
    let last : take i days ++ day ∷ [] ≡ take (i + 1) days =
    ap (λ d. take i days ++ d ∷ []) item ∙ sym (take_more days i day h) in
    record {
      lines = is.lines ++ line ∷ [];
      day_lines = subst (λ ds. AllZip IsDayLine ds (is.lines ++ line ∷ [])) last
          (all_zipped_more IsDayLine (take i days) is.lines day line is.day_lines one);
      text_is = e ∙ ap (λ t. t ++ line) is.text_is ∙ append_assoc header_line (concat is.lines) line
          ∙ ap (λ t. header_line ++ t) (sym (concat-push is.lines line));
    }

-- the totals and the net sum behind the days
pub whole-report : (days : List DayTakings) (text totals net before after : List ℕ) → IsSoFar days text
    → totals ≡ total_line days → net ≡ net_line days
    → before ≡ text ++ totals → after ≡ before ++ net → IsReport days after
whole-report days text totals net before after is p q e f = record {
  lines = is.lines;
  day_lines = is.day_lines;
  text_is = f ∙ (λ i. e i ++ net) ∙ (λ i. (is.text_is i ++ p i) ++ q i)
      ∙ append_assoc (header_line ++ concat is.lines) (total_line days) (net_line days)
      ∙ append_assoc header_line (concat is.lines) (total_line days ++ net_line days);
}
