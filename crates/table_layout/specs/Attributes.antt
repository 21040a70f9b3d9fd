-- What an attribute gives the tables of a transfer: a column, a line, or a helper table.
use Rattle.std.specs.Prelude.{ℕ, ◌+◌, List, [], ◌∷◌, length, Option, Some, None, option_and_then}
use Rattle.std.specs.Prelude.{slice_index_or}
use Rattle.std.specs.Option.{option_map, option_to_list}
use Rattle.std.specs.List.{flat_map}
use Rattle.resolver.specs.Resolved.{Form, AreaPoint, Reference, LineForm, Attribute, an_attribute}
use Rattle.resolver.specs.Resolved.{Value, Polyline, Surface, Area}
use Rattle.table_layout.specs.Layouts.{Column}

-- a reference to the k-th table of the topic names it by its number in the whole list, which
-- stands at k in the topic's list of numbers (table 0 where the topic has no k-th table)
abbrev pub form_in : List ℕ → Form → Form
form_in mains (Reference k) = Reference (slice_index_or mains k 0)
form_in mains f = f

-- a value or a reference gives a column, an AREA the column of its object's point, in its place;
-- a POLYLINE and a SURFACE give none
abbrev pub columns_of : List ℕ → Attribute → List Column
columns_of mains (an_attribute n o (Value f)) =
    record { name = n; optional = o; form = form_in mains f } ∷ []
columns_of mains (an_attribute n o (Area l p)) =
    record { name = n; optional = o; form = AreaPoint l.window } ∷ []
columns_of mains (an_attribute n o (Polyline l)) = []
columns_of mains (an_attribute n o (Surface l p)) = []

-- a POLYLINE gives a line
abbrev pub lines_of : Attribute → List LineForm
lines_of (an_attribute n o (Polyline l)) = l ∷ []
lines_of (an_attribute n o (Value f)) = []
lines_of (an_attribute n o (Area l p)) = []
lines_of (an_attribute n o (Surface l p)) = []

-- ---- IDENT lists
-- where an attribute stands, with so many columns in all, and so many columns and lines before it:
-- the number of its column, or the number of columns plus that of its line; a SURFACE nowhere
abbrev pub place_of : ℕ → ℕ → ℕ → Attribute → Option ℕ
place_of all column line (an_attribute n o (Value f)) = Some column
place_of all column line (an_attribute n o (Area l p)) = Some column
place_of all column line (an_attribute n o (Polyline l)) = Some (all + line)
place_of all column line (an_attribute n o (Surface l p)) = None

-- where each of the attributes stands
abbrev pub places_from : ℕ → ℕ → ℕ → List Attribute → List (Option ℕ)
places_from all column line [] = []
places_from all column line (a ∷ as_) =
    place_of all column line a
    ∷ places_from all (column + length (columns_of [] a)) (line + length (lines_of a)) as_

-- a list of attributes as a list of places, if each of them stands somewhere
abbrev pub list_at : List (Option ℕ) → List ℕ → Option (List ℕ)
list_at places [] = Some []
list_at places (i ∷ is) =
    option_and_then (λ p. option_map (λ ps. p ∷ ps) (list_at places is))
    (slice_index_or places i None)

-- the IDENT lists in places; a list with an attribute that stands nowhere is left out whole
abbrev pub lists_at : List (Option ℕ) → List (List ℕ) → List (List ℕ)
lists_at places lists = flat_map (λ is. option_to_list (list_at places is)) lists

-- the IDENT lists of a table by columns, after so many columns that are no attributes
abbrev pub idents_of : ℕ → List Attribute → List (List ℕ) → List (List ℕ)
idents_of first own lists =
    lists_at (places_from (first + length (flat_map (columns_of []) own)) first 0 own) lists
