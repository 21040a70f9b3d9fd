-- What helper table an attribute has.
use Rattle.std.proofs.Common.{◌≡◌, ◌≤◌, ℕ, Bool, List, [], ◌∷◌, ◌++◌, length, refl, ◌∙◌, ap, subst}
use Rattle.std.proofs.Common.{arith}
use Rattle.std.specs.List.{flat_map}
use Rattle.resolver.specs.Resolved.{LineForm, Attribute, an_attribute, Value, Polyline, Area}
use Rattle.resolver.specs.Resolved.{Surface, LinePart, a_part}
use Rattle.resolver.specs.Values.{attributes_in}
use Rattle.resolver.specs.Rules.{helper_name}
use Rattle.resolver.specs.Sound.{listed}
use Rattle.table_layout.specs.Layouts.{Role, AreaLines, SurfaceLines, Column, Table}
use Rattle.table_layout.specs.Attributes.{columns_of, idents_of}
use Rattle.table_layout.specs.Tables.{Owner, boundary, helper_table, owner_column, area_count}
use Rattle.table_layout.specs.Tables.{surface_count, area_table, surface_table}
use Rattle.table_layout.specs.Few.{HasFew, IsSmallPart}
use Rattle.table_layout.proofs.Listed.{listed_in}

-- ---- attributes with a helper table
few_in : (own : List Attribute) → length (listed (attributes_in own)) ≤ 4194304
    → length own ≤ 4194304
few_in own h = omega (arith, ap (length {A = Attribute}) (listed_in own))

pub few_own : (p : LinePart) (own : List Attribute) (lists : List (List ℕ))
    → p ≡ a_part (attributes_in own) lists → IsSmallPart p → length own ≤ 4194304
few_own p own lists e h = few_in own (subst IsSmallPart e h)

pub small_area : (a : Attribute) (n : List ℕ) (o : Bool) (l : LineForm) (p : LinePart)
    → a ≡ an_attribute n o (Area l p) → HasFew a → IsSmallPart p
small_area a n o l p e h = subst HasFew e h

pub small_surface : (a : Attribute) (n : List ℕ) (o : Bool) (l : LineForm) (p : LinePart)
    → a ≡ an_attribute n o (Surface l p) → HasFew a → IsSmallPart p
small_surface a n o l p e h = subst HasFew e h

pub helper_table_is : (w : Owner) (role : Role) (first : List Column) (n : List ℕ) (l : LineForm)
    (p : LinePart) (own : List Attribute) (lists : List (List ℕ))
    → p ≡ a_part (attributes_in own) lists
    → helper_table w role first n l p ≡ record {
      topic = w.topic;
      name = helper_name w.name n;
      role = role;
      columns = first ++ flat_map (columns_of w.mains) own;
      lines = boundary n l;
      idents = idents_of (length first) own lists;
    }
helper_table_is w role first n l p own lists e =
    ap (helper_table w role first n l) e
    ∙ ap (λ (s : List Attribute). let t : Table = record {
      topic = w.topic;
      name = helper_name w.name n;
      role = role;
      columns = first ++ flat_map (columns_of w.mains) s;
      lines = boundary n l;
      idents = idents_of (length first) s lists;
    } in t) (listed_in own)

pub area_table_is : (w : Owner) (column : ℕ) (a : Attribute) (n : List ℕ) (o : Bool) (l : LineForm)
    (p : LinePart)
    → a ≡ an_attribute n o (Area l p)
    → area_table w column a ≡ helper_table w (AreaLines w.main column) [] n l p ∷ []
area_table_is w column a n o l p e = ap (area_table w column) e

pub surface_table_is : (w : Owner) (a : Attribute) (n : List ℕ) (o : Bool) (l : LineForm)
    (p : LinePart)
    → a ≡ an_attribute n o (Surface l p)
    → surface_table w a ≡ helper_table w (SurfaceLines w.main) (owner_column w ∷ []) n l p ∷ []
surface_table_is w a n o l p e = ap (surface_table w) e

-- ---- attributes without
pub no_area_table : (w : Owner) (column : ℕ) (a : Attribute) → area_count a ≡ 0
    → area_table w column a ≡ []
no_area_table w column (an_attribute n o (Area l p)) e = absurd (omega arith)
no_area_table w column (an_attribute n o (Value f)) e = refl
no_area_table w column (an_attribute n o (Polyline l)) e = refl
no_area_table w column (an_attribute n o (Surface l p)) e = refl

pub no_surface_table : (w : Owner) (a : Attribute) → surface_count a ≡ 0 → surface_table w a ≡ []
no_surface_table w (an_attribute n o (Surface l p)) e = absurd (omega arith)
no_surface_table w (an_attribute n o (Value f)) e = refl
no_surface_table w (an_attribute n o (Polyline l)) e = refl
no_surface_table w (an_attribute n o (Area l p)) e = refl
