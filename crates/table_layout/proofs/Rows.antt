-- Two models and their layouts.
use Rattle.std.proofs.Common.{◌≡◌, ℕ, List, [], ◌∷◌, Bool, true, false, Some, None, pos, refl}
use Rattle.std.specs.Prelude.{codes}
use Rattle.resolver.specs.Resolved.{Limits, Window, Text, Date, Reference, AreaPoint, LineForm}
use Rattle.resolver.specs.Resolved.{an_attribute, Value, Polyline, Surface, Area, a_part, Topic}
use Rattle.resolver.specs.Values.{attributes_in}
use Rattle.table_layout.specs.Layouts.{Main, AreaLines, SurfaceLines, Table}
use Rattle.table_layout.specs.Tables.{tables_from, areas_from}

abbrev limits : Limits
limits = record { low = pos 0; high = pos 1000000; scale = 3 }

abbrev window : Window
window = record { x = limits; y = limits }

abbrev line : List ℕ → Bool → LineForm
line n o = record {
  name = n;
  optional = o;
  arcs = true;
  window = window;
  height = None;
  overlap = Some (pos 50);
}

-- a parcel with a number and a form, and no attributes of its lines
abbrev cover : List Topic
cover = record {
  name = codes "Cover";
  tables = record {
    name = codes "Parcel";
    attributes =
        attributes_in (an_attribute (codes "Nr") false (Value (Text 12))
        ∷ an_attribute (codes "Form") false
        (Area (line (codes "Form") false) (a_part (attributes_in []) [])) ∷ []);
    idents = (0 ∷ []) ∷ [];
  } ∷ [];
} ∷ []

abbrev cover_tables : List Table
cover_tables =
    record {
      topic = 0;
      name = codes "Parcel_Form";
      role = AreaLines 1 1;
      columns = [];
      lines = line (codes "Form") false ∷ [];
      idents = [];
    }
    ∷ record {
      topic = 0;
      name = codes "Parcel";
      role = Main;
      columns = record {
        name = codes "Nr";
        optional = false;
        form = Text 12;
      } ∷ record {
        name = codes "Form";
        optional = false;
        form = AreaPoint window;
      } ∷ [];
      lines = [];
      idents = (0 ∷ []) ∷ [];
    }
    ∷ []

cover_laid : tables_from 0 0 cover ≡ cover_tables
cover_laid = refl

cover_areas : areas_from cover_tables 0 cover_tables ≡ record {
  lines = 0;
  main = 1;
  column = 1;
  name = codes "Form";
} ∷ []
cover_areas = refl

-- a second topic; its first table has attributes of each kind, SURFACE and POLYLINE in front, and
-- IDENT lists that name a line, and a SURFACE; its second table refers to the first
abbrev land : List Topic
land = record {
  name = codes "E";
  tables = record { name = codes "Z"; attributes = attributes_in []; idents = [] } ∷ [];
}
    ∷ record {
      name = codes "T";
      tables =
          record {
            name = codes "A";
            attributes =
                attributes_in
                (an_attribute (codes "S") true
                (Surface (line (codes "S") true)
                (a_part (attributes_in (an_attribute (codes "K") true (Value (Text 3))
                ∷ an_attribute (codes "R") false (Value (Reference 1)) ∷ []))
                ((0 ∷ []) ∷ (1 ∷ 0 ∷ []) ∷ [])))
                ∷ an_attribute (codes "P") true (Polyline (line (codes "P") true))
                ∷ an_attribute (codes "N") false (Value (Text 12))
                ∷ an_attribute (codes "F") true
                (Area (line (codes "F") true)
                (a_part (attributes_in (an_attribute (codes "Q") false (Value Date) ∷ []))
                ((0 ∷ []) ∷ [])))
                ∷ an_attribute (codes "G") false
                (Area (line (codes "G") false) (a_part (attributes_in []) []))
                ∷ an_attribute (codes "X") true (Value (Reference 0)) ∷ []);
            idents = (2 ∷ []) ∷ (1 ∷ 2 ∷ []) ∷ (2 ∷ 0 ∷ []) ∷ (3 ∷ []) ∷ [];
          }
          ∷ record {
            name = codes "B";
            attributes = attributes_in (an_attribute (codes "T") false (Value (Reference 0)) ∷ []);
            idents = [];
          } ∷ [];
    } ∷ []

abbrev land_tables : List Table
land_tables =
    record { topic = 0; name = codes "Z"; role = Main; columns = []; lines = []; idents = [] }
    ∷ record {
      topic = 1;
      name = codes "A_F";
      role = AreaLines 3 1;
      columns = record { name = codes "Q"; optional = false; form = Date } ∷ [];
      lines = line (codes "F") false ∷ [];
      idents = (0 ∷ []) ∷ [];
    }
    ∷ record {
      topic = 1;
      name = codes "A_G";
      role = AreaLines 3 2;
      columns = [];
      lines = line (codes "G") false ∷ [];
      idents = [];
    }
    ∷ record {
      topic = 1;
      name = codes "A";
      role = Main;
      columns = record {
        name = codes "N";
        optional = false;
        form = Text 12;
      } ∷ record {
        name = codes "F";
        optional = true;
        form = AreaPoint window;
      } ∷ record {
        name = codes "G";
        optional = false;
        form = AreaPoint window;
      } ∷ record {
        name = codes "X";
        optional = true;
        form = Reference 3;
      } ∷ [];
      lines = line (codes "P") true ∷ [];
      idents = (0 ∷ []) ∷ (4 ∷ 0 ∷ []) ∷ (1 ∷ []) ∷ [];
    }
    ∷ record {
      topic = 1;
      name = codes "A_S";
      role = SurfaceLines 3;
      columns = record {
        name = codes "A";
        optional = false;
        form = Reference 3;
      } ∷ record {
        name = codes "K";
        optional = true;
        form = Text 3;
      } ∷ record { name = codes "R"; optional = false; form = Reference 5 } ∷ [];
      lines = line (codes "S") false ∷ [];
      idents = (1 ∷ []) ∷ (2 ∷ 1 ∷ []) ∷ [];
    }
    ∷ record {
      topic = 1;
      name = codes "B";
      role = Main;
      columns = record { name = codes "T"; optional = false; form = Reference 3 } ∷ [];
      lines = [];
      idents = [];
    }
    ∷ []

land_laid : tables_from 0 0 land ≡ land_tables
land_laid = refl

land_areas : areas_from land_tables 0 land_tables ≡ record {
  lines = 1;
  main = 3;
  column = 1;
  name = codes "F";
} ∷ record { lines = 2; main = 3; column = 2; name = codes "G" } ∷ []
land_areas = refl
