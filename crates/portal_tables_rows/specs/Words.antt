-- Callers and answers as they are bound to the parameters of a statement.
use Rattle.std.specs.Prelude.{ℕ, List, codes, Option, Some, None}
use Rattle.sqlite_value.specs.declared.value.Value.{Value}
use Rattle.sqlite_value.specs.declared.value.Value.TheVariants.{Null, Text}
use Rattle.portal_ledger.specs.RequestRow.{AnswerCells, cells}
use Rattle.portal_tables_rows.specs.declared.answers.CallerText.{CallerText}
use Rattle.portal_tables_rows.specs.declared.answers.CallerText.TheVariants.{Desk, Gateway, Guest}
use Rattle.portal_tables_rows.specs.declared.answers.Word.{Word}
use Rattle.portal_tables_rows.specs.declared.answers.Word.TheVariants.{Nothing, Batch, Code}
use Rattle.portal_tables_rows.specs.declared.answers.AnswerRow.{AnswerRow}

-- the text of a caller
abbrev pub characters_of : CallerText → List ℕ
characters_of Desk = codes "desk"
characters_of Gateway = codes "gateway"
characters_of (Guest text) = text

-- the text of a word, or None
abbrev pub word_in : Word → Option (List ℕ)
word_in Nothing = None
word_in (Batch id) = Some id
word_in (Code text) = Some text

-- the cell of a word
abbrev pub word_cell : Word → Value
word_cell Nothing = Null
word_cell (Batch id) = Text id
word_cell (Code text) = Text text

-- the cells of an answer's columns
abbrev pub row_cells : AnswerRow → AnswerCells
row_cells r = cells r.kind (word_in r.word) r.n1 r.n2 r.n3
