-- JSON values (RFC 8259) by their keys.
use Rattle.std.specs.Prelude.{ℕ, List, [], ◌∷◌, Option, Some, None}
use Rattle.serde_json.specs.Data.{Data, null, number, unsigned, object, Members, no_members, member, put}

-- an integer
abbrev pub integer : ℕ → Data
integer n = number (unsigned n)

-- an integer, or null if there is none
abbrev pub integer_or_null : Option ℕ → Data
integer_or_null None = null
integer_or_null (Some n) = integer n

-- a key, with its value if it has one
abbrev pub KeyedValue : Type 0
KeyedValue = List ℕ × Option Data

-- the members of an object with these keys, in this order; a key without a value is left out
abbrev pub members_in_order : List KeyedValue → Members
members_in_order [] = no_members
members_in_order ((key, None) ∷ rest) = members_in_order rest
members_in_order ((key, Some value) ∷ rest) = member key value (members_in_order rest)

-- that object
abbrev pub object_of : List KeyedValue → Data
object_of keys = object (members_in_order keys)

-- the members with one key more, if it has a value
abbrev pub put_some : List ℕ → Option Data → Members → Members
put_some key None members = members
put_some key (Some value) members = put key value members

-- the members with these keys put in, one after another
abbrev pub put_all : List KeyedValue → Members → Members
put_all [] members = members
put_all ((key, value) ∷ rest) members = put_all rest (put_some key value members)
