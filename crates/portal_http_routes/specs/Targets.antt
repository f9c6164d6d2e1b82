-- The parts of a request's target: its path, its query, and the parameter in the path.
use Rattle.std.specs.Prelude.{ℕ, List, [], ◌∷◌, Bool, true, false, not, ◌&&◌, ◌==◌, if◌then◌else◌, Option}
use Rattle.std.specs.Prelude.{Some, None, option_map, option_and_then, unwrap_or}

-- a question mark, which ends the path of a target
abbrev pub question_mark : ℕ
question_mark = 63

-- a slash, which begins each segment of a path
abbrev pub slash : ℕ
slash = 47

-- the bytes before the first one that is the separator; all of them if none is
unfoldable pub before : ℕ → List ℕ → List ℕ
before separator [] = []
before separator (b ∷ rest) = if b == separator then [] else b ∷ before separator rest

-- the bytes after the first one that is the separator, if there is one
unfoldable pub after : ℕ → List ℕ → Option (List ℕ)
after separator [] = None
after separator (b ∷ rest) = if b == separator then Some rest else after separator rest

-- the path of a target
abbrev pub path_of : List ℕ → List ℕ
path_of target = before question_mark target

-- the query of a target, if it has one
abbrev pub query_of : List ℕ → Option (List ℕ)
query_of target = after question_mark target

-- no segment from here on is empty; the first argument says whether a slash is just before
unfoldable pub has_no_empty_segment : Bool → List ℕ → Bool
has_no_empty_segment behind_slash [] = not behind_slash
has_no_empty_segment behind_slash (b ∷ rest) = if b
    == slash then (not behind_slash && has_no_empty_segment true rest) else has_no_empty_segment false rest

-- it begins with a slash, and no segment is empty
abbrev pub is_path : List ℕ → Bool
is_path [] = false
is_path (b ∷ rest) = b == slash && has_no_empty_segment true rest

-- the third segment of a path, with nothing decoded; empty if there is none
abbrev pub parameter_of : List ℕ → List ℕ
parameter_of path =
    unwrap_or (option_map (before slash)
    (option_and_then (after slash) (option_and_then (after slash) (after slash path)))) []
