-- Each table that stands for a declared table is valid.
use Rattle.std.proofs.Common.{false, ◌≡◌, ◌<◌, ◌+◌, ◌≤◌, ℕ, List, [], ◌∷◌, ◌++◌, Some, length, refl}
use Rattle.std.proofs.Common.{◌∙◌, sym, ap, subst, arith, length-append, append_assoc}
use Rattle.std.specs.Prelude.{slice_get}
use Rattle.std.specs.List.{All, flat_map}
use Rattle.std.proofs.lemmas.List.Elements.{All-nil, All-cons, All-head, All-tail, All-append}
use Rattle.std.proofs.lemmas.List.Elements.{All-weaker}
use Rattle.resolver.specs.Resolved.{Form, Reference, AreaPoint, Attribute, an_attribute, Value}
use Rattle.resolver.specs.Resolved.{Polyline, Surface, Area, a_part}
use Rattle.resolver.specs.Sound.{listed, RefersWithin, IsLineAttribute, IsSoundPart}
use Rattle.resolver.specs.Sound.{IsSoundAttribute}
use Rattle.resolver.specs.Rules.{helper_name}
use Rattle.table_layout.specs.Layouts.{Main, Column, Table}
use Rattle.table_layout.specs.Attributes.{form_in, columns_of, lines_of, idents_of}
use Rattle.table_layout.specs.Tables.{Owner, owner_column, area_table, area_tables, surface_table}
use Rattle.table_layout.specs.Tables.{main_table, with_helpers}
use Rattle.table_layout.specs.Valid.{IsMain, NamesMain, IsTable}
use Rattle.table_layout.proofs.Located.{idents_below}

pub get_at : {A : Type 0} (before : List A) (x : A) (after : List A)
    → slice_get (before ++ x ∷ after) (length before) ≡ Some x
get_at [] x after = refl
get_at (y ∷ before) x after = get_at before x after

-- ---- columns
length_each : (mains : List ℕ) (a : Attribute)
    → length (columns_of mains a) ≡ length (columns_of [] a)
length_each mains (an_attribute n o (Value f)) = refl
length_each mains (an_attribute n o (Area l p)) = refl
length_each mains (an_attribute n o (Polyline l)) = refl
length_each mains (an_attribute n o (Surface l p)) = refl

length_columns : (mains : List ℕ) (own : List Attribute)
    → length (flat_map (columns_of mains) own) ≡ length (flat_map (columns_of []) own)
length_columns mains [] = refl
length_columns mains (a ∷ as_) =
    omega (
      arith,
      length-append (columns_of mains a) (flat_map (columns_of mains) as_),
      length-append (columns_of [] a) (flat_map (columns_of []) as_),
      length_each mains a,
      length_columns mains as_,
    )

column_count : (mains : List ℕ) (a : Attribute)
    → length (columns_of mains a) + length (lines_of a) ≤ 1
column_count mains (an_attribute n o (Value f)) = omega arith
column_count mains (an_attribute n o (Area l p)) = omega arith
column_count mains (an_attribute n o (Polyline l)) = omega arith
column_count mains (an_attribute n o (Surface l p)) = omega arith

-- an attribute is a column, a line, or none
columns_few : (mains : List ℕ) (own : List Attribute)
    → length (flat_map (columns_of mains) own) + length (flat_map lines_of own) ≤ length own
columns_few mains [] = omega arith
columns_few mains (a ∷ as_) =
    omega (
      arith,
      length-append (columns_of mains a) (flat_map (columns_of mains) as_),
      length-append (lines_of a) (flat_map lines_of as_),
      column_count mains a,
      columns_few mains as_,
    )

abbrev Within : List Table → ℕ → Column → Type 0
Within tables topic c = NamesMain tables topic c.form

form_within : (n : List Table) (k : ℕ) (mains : List ℕ) (f : Form) → All (IsMain n k) mains
    → RefersWithin (length mains) f → NamesMain n k (form_in mains f)
form_within n k mains (Reference i) all h = all i 0 h
form_within n k mains f all h = tt

each_within : (n : List Table) (k : ℕ) (mains : List ℕ) (a : Attribute) → All (IsMain n k) mains
    → IsSoundAttribute (length mains) a → All (Within n k) (columns_of mains a)
each_within n k mains (an_attribute m o (Value f)) all h =
    All-cons (Within n k) (record { name = m; optional = o; form = form_in mains f }) []
    (form_within n k mains f all h) (All-nil (Within n k))
each_within n k mains (an_attribute m o (Area l p)) all h =
    All-cons (Within n k) (record { name = m; optional = o; form = AreaPoint l.window }) [] tt
    (All-nil (Within n k))
each_within n k mains (an_attribute m o (Polyline l)) all h = All-nil (Within n k)
each_within n k mains (an_attribute m o (Surface l p)) all h = All-nil (Within n k)

columns_within : (n : List Table) (k : ℕ) (mains : List ℕ) (own : List Attribute)
    → All (IsMain n k) mains → All (IsSoundAttribute (length mains)) own
    → All (Within n k) (flat_map (columns_of mains) own)
columns_within n k mains [] all h = All-nil (Within n k)
columns_within n k mains (a ∷ as_) all h =
    All-append (Within n k) (columns_of mains a) (flat_map (columns_of mains) as_)
    (each_within n k mains a all (All-head (IsSoundAttribute (length mains)) a as_ h))
    (columns_within n k mains as_ all (All-tail (IsSoundAttribute (length mains)) a as_ h))

-- ---- the attributes of a boundary's lines
line_sound : (k : ℕ) (a : Attribute) → IsLineAttribute k a → IsSoundAttribute k a
line_sound k (an_attribute n o (Value f)) h = h
line_sound k (an_attribute n o (Area l p)) h = absurd h
line_sound k (an_attribute n o (Polyline l)) h = absurd h
line_sound k (an_attribute n o (Surface l p)) h = absurd h

no_lines : (k : ℕ) (own : List Attribute) → All (IsLineAttribute k) own
    → length (flat_map lines_of own) ≡ 0
no_lines k [] h = refl
no_lines k (an_attribute n o (Value f) ∷ as_) h =
    no_lines k as_ (All-tail (IsLineAttribute k) (an_attribute n o (Value f)) as_ h)
no_lines k (an_attribute n o (Area l p) ∷ as_) h =
    absurd (All-head (IsLineAttribute k) (an_attribute n o (Area l p)) as_ h)
no_lines k (an_attribute n o (Polyline l) ∷ as_) h =
    absurd (All-head (IsLineAttribute k) (an_attribute n o (Polyline l)) as_ h)
no_lines k (an_attribute n o (Surface l p) ∷ as_) h =
    absurd (All-head (IsLineAttribute k) (an_attribute n o (Surface l p)) as_ h)

own_within : (n : List Table) (k : ℕ) (mains : List ℕ) (own : List Attribute)
    (lists : List (List ℕ))
    → All (IsMain n k) mains → IsSoundPart (length mains) own lists
    → All (Within n k) (flat_map (columns_of mains) own)
own_within n k mains own lists all h =
    columns_within n k mains own all
    (All-weaker (IsLineAttribute (length mains)) (IsSoundAttribute (length mains))
    (line_sound (length mains)) own h.attributes)

own_places : (k : ℕ) (mains : List ℕ) (first : ℕ) (own : List Attribute) (lists : List (List ℕ))
    → IsSoundPart k own lists
    → All (All (λ p. p < first + length (flat_map (columns_of mains) own) + 1))
    (idents_of first own lists)
own_places k mains first own lists h =
    idents_below (first + length (flat_map (columns_of mains) own) + 1) first own lists
    (omega (arith, length_columns mains own, no_lines k own h.attributes))

-- ---- helper tables
-- a declared table of its topic and its name
record IsOwner (w : Owner) (t : Table) : Type 0 where
  role : t.role ≡ Main
  in_topic : t.topic ≡ w.topic
  named : t.name ≡ w.name

area_valid : (count : ℕ) (whole : List Table) (w : Owner) (owner : Table)
    (before after : List Column) (a : Attribute)
    → w.topic < count → All (IsMain whole w.topic) w.mains → slice_get whole w.main ≡ Some owner
    → IsOwner w owner
    → owner.columns ≡ before ++ (columns_of w.mains a ++ after)
    → IsSoundAttribute (length w.mains) a
    → All (IsTable count whole) (area_table w (length before) a)
area_valid count whole w owner before after
    (an_attribute n b (Value f)) topic all main o columns h = All-nil (IsTable count whole)
area_valid count whole w owner before after
    (an_attribute n b (Polyline l)) topic all main o columns h = All-nil (IsTable count whole)
area_valid count whole w owner before after
    (an_attribute n b (Surface l p)) topic all main o columns h = All-nil (IsTable count whole)
area_valid count whole w owner before after
    (an_attribute n b (Area l (a_part own lists))) topic all main o columns h =
    let x : Column = record { name = n; optional = b; form = AreaPoint l.window } in
    let at : slice_get owner.columns (length before)
    ≡ Some x = ap (λ (s : List Column). slice_get s (length before)) columns
    ∙ get_at before x after in
    All-cons (IsTable count whole) _ []
    (record {
      topic = topic;
      few = omega (arith, columns_few w.mains (listed own), h.1.few);
      references = own_within whole w.topic w.mains (listed own) lists all h.1;
      idents = subst (λ b. All (All (λ p. p < b)) (idents_of 0 (listed own) lists)) (omega arith)
          (own_places (length w.mains) w.mains 0 (listed own) lists h.1);
      role = record {
        owner = owner;
        point = x;
        line = record l { name = n; optional = false };
        main = main;
        is_main = o.role;
        in_topic = o.in_topic;
        column = at;
        form = refl;
        name = ap (λ (s : List ℕ). helper_name s n) (sym o.named);
        lines = refl;
        line_name = refl;
        mandatory = refl;
        narrow = h.0;
      };
    })
    (All-nil (IsTable count whole))

surface_valid : (count : ℕ) (whole : List Table) (w : Owner) (owner : Table) (a : Attribute)
    → w.topic < count → All (IsMain whole w.topic) w.mains → slice_get whole w.main ≡ Some owner
    → IsOwner w owner → IsSoundAttribute (length w.mains) a
    → All (IsTable count whole) (surface_table w a)
surface_valid count whole w owner (an_attribute n b (Value f)) topic all main o h =
    All-nil (IsTable count whole)
surface_valid count whole w owner (an_attribute n b (Polyline l)) topic all main o h =
    All-nil (IsTable count whole)
surface_valid count whole w owner (an_attribute n b (Area l p)) topic all main o h =
    All-nil (IsTable count whole)
surface_valid count whole w owner (an_attribute n b (Surface l (a_part own lists))) topic all main o
    h =
    All-cons (IsTable count whole) _ []
    (record {
      topic = topic;
      few = omega (arith, columns_few w.mains (listed own), h.few);
      references =
          All-cons (Within whole w.topic) (owner_column w)
          (flat_map (columns_of w.mains) (listed own)) (record {
            table = owner;
            at = main;
            role = o.role;
            in_topic = o.in_topic;
          })
          (own_within whole w.topic w.mains (listed own) lists all h);
      idents = subst (λ b. All (All (λ p. p < b)) (idents_of 1 (listed own) lists)) (omega arith)
          (own_places (length w.mains) w.mains 1 (listed own) lists h);
      role = record {
        owner = owner;
        reference = owner_column w;
        line = record l { name = n; optional = false };
        main = main;
        is_main = o.role;
        in_topic = o.in_topic;
        column = refl;
        form = refl;
        named = sym o.named;
        needed = refl;
        name = ap (λ (s : List ℕ). helper_name s n) (sym o.named);
        lines = refl;
        mandatory = refl;
      };
    })
    (All-nil (IsTable count whole))

areas_valid : (count : ℕ) (whole : List Table) (w : Owner) (owner : Table) (before : List Column)
    (c : ℕ) (as_ : List Attribute)
    → w.topic < count → All (IsMain whole w.topic) w.mains → slice_get whole w.main ≡ Some owner
    → IsOwner w owner
    → owner.columns ≡ before ++ flat_map (columns_of w.mains) as_ → length before ≡ c
    → All (IsSoundAttribute (length w.mains)) as_
    → All (IsTable count whole) (area_tables w c as_)
areas_valid count whole w owner before c [] topic all main o columns l h =
    All-nil (IsTable count whole)
areas_valid count whole w owner before c (a ∷ as_) topic all main o columns l h =
    let one = area_valid count whole w owner before
    (flat_map (columns_of w.mains) as_) a topic all main o columns
    (All-head (IsSoundAttribute (length w.mains)) a as_ h) in
    let far : length (before ++ columns_of w.mains a)
    ≡ c + length (columns_of [] a) =
    omega (arith, length-append before (columns_of w.mains a), length_each w.mains a) in
    All-append (IsTable count whole) (area_table w c a)
    (area_tables w (c + length (columns_of [] a)) as_)
    (subst (λ n. All (IsTable count whole) (area_table w n a)) l one)
    (areas_valid count whole w owner (before ++ columns_of w.mains a)
    (c + length (columns_of [] a)) as_ topic all main o (columns
    ∙ sym (append_assoc before (columns_of w.mains a) (flat_map (columns_of w.mains) as_))) far
    (All-tail (IsSoundAttribute (length w.mains)) a as_ h))

surfaces_valid : (count : ℕ) (whole : List Table) (w : Owner) (owner : Table) (as_ : List Attribute)
    → w.topic < count → All (IsMain whole w.topic) w.mains → slice_get whole w.main ≡ Some owner
    → IsOwner w owner → All (IsSoundAttribute (length w.mains)) as_
    → All (IsTable count whole) (flat_map (surface_table w) as_)
surfaces_valid count whole w owner [] topic all main o h = All-nil (IsTable count whole)
surfaces_valid count whole w owner (a ∷ as_) topic all main o h =
    All-append (IsTable count whole) (surface_table w a) (flat_map (surface_table w) as_)
    (surface_valid count whole w owner a topic all main o
    (All-head (IsSoundAttribute (length w.mains)) a as_ h))
    (surfaces_valid count whole w owner as_ topic all main o
    (All-tail (IsSoundAttribute (length w.mains)) a as_ h))

pub with_helpers_valid : (count : ℕ) (whole : List Table) (w : Owner) (own : List Attribute)
    (lists : List (List ℕ))
    → w.topic < count → length own ≤ 4194304 → All (IsMain whole w.topic) w.mains
    → slice_get whole w.main ≡ Some (main_table w own lists)
    → All (IsSoundAttribute (length w.mains)) own
    → All (IsTable count whole) (with_helpers w own lists)
with_helpers_valid count whole w own lists topic few all main h =
    let t : Table = main_table w own lists in
    let valid : IsTable count whole t = record {
      topic = topic;
      few = omega (arith, columns_few w.mains own, few);
      references = columns_within whole w.topic w.mains own all h;
      idents = idents_below (length (flat_map (columns_of w.mains) own)
          + length (flat_map lines_of own)) 0 own lists (omega (arith, length_columns w.mains own));
      role = tt;
    } in
    let is : IsOwner w t = record { role = refl; in_topic = refl; named = refl } in
    All-append (IsTable count whole) (area_tables w 0 own) (t ∷ flat_map (surface_table w) own)
    (areas_valid count whole w t [] 0 own topic all main is refl refl h)
    (All-cons (IsTable count whole) t (flat_map (surface_table w) own) valid
    (surfaces_valid count whole w t own topic all main is h))
