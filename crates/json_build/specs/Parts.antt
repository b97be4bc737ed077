-- What values of JSON are made of.
use Rattle.std.specs.Prelude.{ℕ, false, List, [], ◌∷◌, ◌++◌, codes}
use Rattle.std.specs.Str.{encode_utf8_all}
use Rattle.std.specs.Fmt.{digits}
use Rattle.serde_json.specs.Data.{Data, Members, no_members, object, put, array, string}
use Rattle.serde_json.specs.View.{items_of}

abbrev pub Text : Type 0
Text = List ℕ

-- bytes as text, each as the character of its number: ASCII stays as it is
abbrev pub characters : Text → Text
characters bytes = encode_utf8_all bytes

-- 0x and a number in lower-case hexadecimal
abbrev pub hex_text : ℕ → Text
hex_text n = codes "0x" ++ digits 16 false n

-- the members, with a value under a name; it takes the place of one that is there
unfoldable pub with_field : Members → Text → Data → Members
with_field members name value = put name value members

-- the members, with more of them
abbrev pub with_fields : Members → List (Text × Data) → Members
with_fields members [] = members
with_fields members (f ∷ fs) = with_fields (with_field members f.0 f.1) fs

-- an object of these members
abbrev pub record_of : List (Text × Data) → Data
record_of fs = object (with_fields no_members fs)

-- a list of these values
abbrev pub list_of : List Data → Data
list_of values = array (items_of values)

-- a text of the bytes of a name
abbrev pub name_of : Text → Data
name_of bytes = string (characters bytes)

-- an address, or an offset, as a text
abbrev pub address_of : ℕ → Data
address_of n = string (hex_text n)
