-- What single vertices stand for.
use Rattle.std.specs.Prelude.{ℤ, List, Option, Some, None, Result, Ok, Err}
use Rattle.std.specs.Option.{option_to_list}
use Rattle.resolver.specs.Resolved.{LineForm}
use Rattle.field_values.specs.Places.{Place, place_view}
use Rattle.field_values.specs.declared.value.VertexValue.{VertexValue}
use Rattle.itf_reader.specs.declared.findings.Code.{Code}
use Rattle.itf_reader.specs.Forms.{Vertex}
use Rattle.itf_reader.specs.StrokeFindings.{place_of, heights_of, vertex_code}

-- its place and its heights, or what fails at it first
abbrev pub reading_by : Option Code → Place × List ℤ → Result (Place × List ℤ) Code
reading_by None value = Ok value
reading_by (Some code) value = Err code

abbrev pub vertex_reading : LineForm → Vertex → Result (Place × List ℤ) Code
vertex_reading l v = reading_by (vertex_code l v) (place_of l v, heights_of l v)

abbrev pub value_reading : Result VertexValue Code → Result (Place × List ℤ) Code
value_reading (Ok v) = Ok (place_view v.at, option_to_list v.height)
value_reading (Err code) = Err code
