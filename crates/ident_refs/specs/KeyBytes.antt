-- Keys as bytes: two rows have one key exactly where they have the same values.
use Rattle.std.specs.Prelude.{ℕ, zero, suc, ℤ, List, [], ◌∷◌, ◌++◌, length, Option, Some, None}
use Rattle.std.specs.List.{flat_map}
use Rattle.std.specs.Int.{w64, to_be_bytes, cast_unsigned}
use Rattle.itf_reader.specs.Forms.{Kind, Start, Straight, OnArc}
use Rattle.ident_refs.specs.ListValues.{KeyVertex, Value, Numbers, Bytes, Vertices}

-- ---- numbers, vertices and words
unfoldable pub number_code : ℤ → List ℕ
number_code n = to_be_bytes w64 (cast_unsigned w64 n)

abbrev pub numbers_code : List ℤ → List ℕ
numbers_code ns = flat_map number_code ns

abbrev pub kind_code : Kind → ℕ
kind_code Start = 0
kind_code Straight = 1
kind_code OnArc = 2

abbrev pub key_vertex_code : KeyVertex → List ℕ
key_vertex_code c = kind_code c.kind ∷ length c.numbers ∷ numbers_code c.numbers

abbrev pub key_vertices_code : List KeyVertex → List ℕ
key_vertices_code cs = flat_map key_vertex_code cs

-- ---- values
abbrev pub value_code : Value → List ℕ
value_code (Numbers ns) = 0 ∷ numbers_code ns
value_code (Bytes word) = 1 ∷ word
value_code (Vertices cs) = 2 ∷ key_vertices_code cs

-- bytes with an end mark: a zero byte is followed by a one, and two zero bytes end them
abbrev pub byte_code : ℕ → List ℕ
byte_code zero = 0 ∷ 1 ∷ []
byte_code (suc b) = suc b ∷ []

abbrev pub with_end : List ℕ → List ℕ
with_end bytes = flat_map byte_code bytes ++ 0 ∷ 0 ∷ []

abbrev pub part_code : Value → List ℕ
part_code v = with_end (value_code v)

-- ---- lists of values
abbrev pub list_code : List Value → List ℕ
list_code (v ∷ []) = value_code v
list_code vs = 3 ∷ flat_map part_code vs

-- no byte is no key
abbrev pub key_in : List ℕ → Option (List ℕ)
key_in [] = None
key_in (b ∷ bytes) = Some (b ∷ bytes)

-- a word as the key of a value
abbrev pub word_code : List ℕ → List ℕ
word_code word = value_code (Bytes word)
