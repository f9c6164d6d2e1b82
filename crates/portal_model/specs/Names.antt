-- The buffer that holds an id.
use Rattle.std.specs.Prelude.{ℕ, ◌≡◌, ◌-◌, ◌≤◌, List, ◌++◌, length, take, replicate}
use Rattle.portal_model.specs.IdText.{IsIdText}

-- an id's bytes, filled up with zeros to 32
abbrev pub with_zeros : List ℕ → List ℕ
with_zeros v = v ++ replicate (32 - length v) 0

-- the buffer holds an id of that length, and zeros behind it
pub record IsPadded (len : ℕ) (bytes : List ℕ) : Type 0 where
  pub fits : len ≤ 32
  pub shown : length (take len bytes) ≡ len
  pub zeros : with_zeros (take len bytes) ≡ bytes
  pub text : IsIdText (take len bytes)
