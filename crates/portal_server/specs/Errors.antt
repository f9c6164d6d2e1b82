-- The line and the exit code of each error of the program.
use Rattle.std.specs.Prelude.{ℕ, List, ◌++◌, codes}
use Rattle.portal_model.specs.Refusal.{word_of as word_of_refusal}
use Rattle.portal_server.specs.declared.error.ProgramError.{ProgramError}
use Rattle.portal_server.specs.declared.error.ProgramError.TheVariants.{Usage, Settings, NotOurs, Newer, File}
use Rattle.portal_server.specs.declared.error.ProgramError.TheVariants.{Network, Cut, NoMemory, Refused}
use Rattle.portal_model.specs.declared.refusal.Refusal.{Refusal}
use Rattle.portal_model.specs.declared.refusal.Refusal.TheVariants.{Stopped}

-- The word after `portal: `.
abbrev pub error_word_of : ProgramError → List ℕ
error_word_of Usage = codes "usage"
error_word_of Settings = codes "settings"
error_word_of NotOurs = codes "not_ours"
error_word_of Newer = codes "newer"
error_word_of File = codes "file"
error_word_of Network = codes "network"
error_word_of Cut = codes "cut"
error_word_of NoMemory = codes "no_memory"
error_word_of (Refused refusal) = word_of_refusal refusal

-- The line with a word.
abbrev pub line_with : List ℕ → List ℕ
line_with word = codes "portal: " ++ (word ++ codes "\n")

-- The line of an error.
abbrev pub line_of : ProgramError → List ℕ
line_of error = line_with (error_word_of error)

-- A refusal ends the program with exit code 1; that of a desk that has stopped with 3.
abbrev pub status_of_refusal : Refusal → ℕ
status_of_refusal Stopped = 3
status_of_refusal _ = 1

-- 2 for an invalid command line, 1 for a refusal of the desk, 3 for each other error.
abbrev pub exit_code_of : ProgramError → ℕ
exit_code_of Usage = 2
exit_code_of (Refused refusal) = status_of_refusal refusal
exit_code_of _ = 3
