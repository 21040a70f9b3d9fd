-- The rules that a file of links states are good.
use Rattle.std.proofs.Common.{◌≡◌, ℕ, suc, ◌+◌, Bool, true, false, ◌&&◌, List, [], ◌∷◌}
use Rattle.std.proofs.Common.{Option, Some, None, Result, Ok, Err, refl, sym, ap, ◌∙◌, subst, arith}
use Rattle.std.proofs.Common.{if◌then◌else◌}
use Rattle.std.specs.Prelude.{◌==◌, codes, option_and_then, slice_get}
use Rattle.std.specs.List.{All, position_from}
use Rattle.std.proofs.lemmas.Bool.{eqb-true}
use Rattle.std.proofs.lemmas.List.Elements.{All-nil, All-cons}
use Rattle.itf_lines.specs.Fields.{fields, physical_lines}
use Rattle.resolver.specs.Resolved.{AreaPoint, Coord2, Coord3, Date, Degrees, Dim1, Dim2}
use Rattle.resolver.specs.Resolved.{Enumeration, Form, Grads, HAlignment, Radians, Range, Reference}
use Rattle.resolver.specs.Resolved.{Text, VAlignment, Window}
use Rattle.table_layout.specs.Layouts.{AreaLines, AreaOf, Column, Layout, Main, Role, SurfaceLines}
use Rattle.table_layout.specs.Layouts.{Table}
use Rattle.area_links.specs.Rules.{Rule, area_number, area_window, column_number, has_scales}
use Rattle.area_links.specs.Rules.{line_rules, links_from, links_of, main_at, main_only}
use Rattle.area_links.specs.Rules.{point_window}
use Rattle.area_links.specs.Rules.{rule_in, rule_of, rule_of_area, rule_of_columns, rule_of_table}
use Rattle.area_links.specs.Rules.{rule_with, same, scaled_rule, table_number, table_of_form}
use Rattle.area_links.specs.Rules.{target}
use Rattle.area_links.specs.Rules.{then_rules, window_of_form}
use Rattle.delivery.specs.LinkRows.{IsGoodRule}

-- ---- chains
-- where a chain gives something, so does its first link
pub record IsThrough {A B : Type 0} (f : A → Option B) (o : Option A) (b : B) : Type 0 where
  pub value : A
  pub first : o ≡ Some value
  pub next : f value ≡ Some b

through : {A B : Type 0} (f : A → Option B) (o : Option A) (b : B)
    → option_and_then f o ≡ Some b → IsThrough f o b
through f None b e = absurd (cc)
through f (Some a) b e = record { value = a; first = refl; next = e }

one : {A : Type 0} (a b : A) → Some a ≡ Some b → a ≡ b
one a b e = cc

-- what is found in a list
pub record IsFound {X : Type 0} (p : X → Bool) (xs : List X) (n i : ℕ) : Type 0 where
  pub place : ℕ
  pub value : X
  pub number : i ≡ n + place
  pub at : slice_get xs place ≡ Some value
  pub passes : p value ≡ true

found : {X : Type 0} (p : X → Bool) (n : ℕ) (xs : List X) (i : ℕ)
    → position_from p n xs ≡ Some i → IsFound p xs n i
found p n [] i e = absurd (cc)
found {X} p n (x ∷ xs) i e = by (found p (n + 1) xs i) (p x) refl e
  where
    by : (position_from p (n + 1) xs ≡ Some i → IsFound p xs (n + 1) i) → (b : Bool) → p x ≡ b
        → (if b then Some n else position_from p (n + 1) xs) ≡ Some i → IsFound p (x ∷ xs) n i
    by later true q e =
        record {
          place = 0;
          value = x;
          number = (let a = one n i e in omega (arith, a));
          at = refl;
          passes = q;
        }
    by later false q e =
        let k = later e in
        record {
          place = suc k.place;
          value = k.value;
          number = (let a = k.number in omega (arith, a));
          at = k.at;
          passes = k.passes;
        }

both : (a b : Bool) → (a && b) ≡ true → a ≡ true
both true b e = refl
both false b e = absurd (cc)

-- ---- forms and tables
reference_of : (form : Form) (m : ℕ) → table_of_form form ≡ Some m → form ≡ Reference m
reference_of (Reference k) m e = ap Reference (one k m e)
reference_of (Range x) m e = absurd (cc)
reference_of (Dim1 x) m e = absurd (cc)
reference_of (Dim2 x) m e = absurd (cc)
reference_of (Radians x) m e = absurd (cc)
reference_of (Grads x) m e = absurd (cc)
reference_of (Degrees x) m e = absurd (cc)
reference_of (Coord2 x) m e = absurd (cc)
reference_of (AreaPoint x) m e = absurd (cc)
reference_of (Coord3 x) m e = absurd (cc)
reference_of (Text x) m e = absurd (cc)
reference_of (Enumeration x) m e = absurd (cc)
reference_of Date m e = absurd (cc)
reference_of HAlignment m e = absurd (cc)
reference_of VAlignment m e = absurd (cc)

coordinate_of : (form : Form) (w : Window) → window_of_form form ≡ Some w → form ≡ Coord2 w
coordinate_of (Coord2 v) w e = ap Coord2 (one v w e)
coordinate_of (Range x) w e = absurd (cc)
coordinate_of (Dim1 x) w e = absurd (cc)
coordinate_of (Dim2 x) w e = absurd (cc)
coordinate_of (Radians x) w e = absurd (cc)
coordinate_of (Grads x) w e = absurd (cc)
coordinate_of (Degrees x) w e = absurd (cc)
coordinate_of (AreaPoint x) w e = absurd (cc)
coordinate_of (Coord3 x) w e = absurd (cc)
coordinate_of (Text x) w e = absurd (cc)
coordinate_of (Enumeration x) w e = absurd (cc)
coordinate_of (Reference x) w e = absurd (cc)
coordinate_of Date w e = absurd (cc)
coordinate_of HAlignment w e = absurd (cc)
coordinate_of VAlignment w e = absurd (cc)

itself : (r : Role) (t u : Table) → main_only r t ≡ Some u → t ≡ u
itself Main t u e = one t u e
itself (AreaLines m c) t u e = absurd (cc)
itself (SurfaceLines m) t u e = absurd (cc)

table_there : (l : Layout) (n : ℕ) (t : Table) → main_at l n ≡ Some t
    → slice_get l.tables n ≡ Some t
table_there l n t e =
    let k = through (λ (u : Table). main_only u.role u) (slice_get l.tables n) t e in
    k.first ∙ ap (λ (u : Table). Some u) (itself k.value.role k.value t k.next)

-- ---- the rule of a line
module _ (l : Layout) (line n : ℕ) (t : Table) (there : slice_get l.tables n ≡ Some t) where
  abbrev made : ℕ → ℕ → ℕ → Rule
  made point reference area =
      record { line = line; table = n; point = point; reference = reference; area = area }

  good_made : (point reference area m : ℕ) (w : Window) → point_window t point ≡ Some w
      → target t reference ≡ Some m → (a : AreaOf) → slice_get l.areas area ≡ Some a
      → a.main ≡ m → IsGoodRule l (made point reference area)
  good_made point reference area m w p r a at_ e =
      let c = through (λ (x : Column). window_of_form x.form) (slice_get t.columns point) w p in
      let d = through (λ (x : Column). table_of_form x.form) (slice_get t.columns reference) m r in
      record {
        t = t;
        point = c.value;
        reference = d.value;
        a = a;
        window = w;
        table_is = there;
        point_is = c.first;
        of_points = coordinate_of c.value.form w c.next;
        reference_is = d.first;
        area_is = at_;
        refers = reference_of d.value.form m d.next ∙ ap Reference (sym e);
      }

  good_scaled : (point reference area m : ℕ) → target t reference ≡ Some m → (a : AreaOf)
      → slice_get l.areas area ≡ Some a → a.main ≡ m → (o p : Option Window)
      → point_window t point ≡ o → (r : Rule)
      → scaled_rule (made point reference area) o p ≡ Some r → IsGoodRule l r
  good_scaled point reference area m g a at_ e None p q r h = absurd (cc)
  good_scaled point reference area m g a at_ e (Some w) None q r h = absurd (cc)
  good_scaled point reference area m g a at_ e (Some w) (Some v) q r h =
      by (has_scales w v) h
    where
      by : (b : Bool) → (if b then Some (made point reference area) else None) ≡ Some r
          → IsGoodRule l r
      by false h = absurd (cc)
      by true h =
          subst (IsGoodRule l) (one (made point reference area) r h)
          (good_made point reference area m w q g a at_ e)

  good_area : (point reference : ℕ) (name : List ℕ) (o : Option ℕ) → target t reference ≡ o
      → (r : Rule) → rule_of_area l line n t point reference name o ≡ Some r → IsGoodRule l r
  good_area point reference name None g r h = absurd (cc)
  good_area point reference name (Some m) g r h =
      let k = through (λ (a : ℕ). rule_with l line n t point reference a) (area_number l m name)
      r h in
      let f = found (λ (a : AreaOf). (a.main == m) && same a.name name) 0 l.areas k.value k.first in
      good_scaled point reference k.value m g f.value
      (ap (slice_get l.areas)
      (let e = f.number in let z : k.value ≡ f.place = omega (arith, e) in z)
      ∙ f.at)
      (eqb-true f.value.main m (both (f.value.main == m) (same f.value.name name) f.passes))
      (point_window t point) (area_window l k.value) refl r k.next

  good_columns : (name : List ℕ) (o p : Option ℕ) (r : Rule)
      → rule_of_columns l line n t name o p ≡ Some r → IsGoodRule l r
  good_columns name None p r h = absurd (cc)
  good_columns name (Some point) None r h = absurd (cc)
  good_columns name (Some point) (Some reference) r h =
      good_area point reference name (target t reference) refl r h

good_table : (l : Layout) (line n : ℕ) (point reference area : List ℕ) (o : Option Table)
    → main_at l n ≡ o → (r : Rule) → rule_of_table l line n o point reference area ≡ Some r
    → IsGoodRule l r
good_table l line n point reference area None e r h = absurd (cc)
good_table l line n point reference area (Some t) e r h =
    good_columns l line n t (table_there l n t e) area (column_number t point)
    (column_number t reference) r h

good_line : (l : Layout) (line : ℕ) (fs : List (List ℕ)) (r : Rule) → rule_of l line fs ≡ Some r
    → IsGoodRule l r
good_line l line (word ∷ topic ∷ table ∷ point ∷ reference ∷ area ∷ []) r h =
    by (same word (codes "LINK")) h
  where
    by : (b : Bool) → (if b then rule_in l line topic table point reference area else None) ≡ Some r
        → IsGoodRule l r
    by false h = absurd (cc)
    by true h =
        let k = through
        (λ (n : ℕ). rule_of_table l line n (main_at l n) point reference area)
        (table_number l topic table) r h in
        good_table l line k.value point reference area (main_at l k.value) refl r k.next
good_line l line [] r h = absurd (cc)
good_line l line (a ∷ []) r h = absurd (cc)
good_line l line (a ∷ b ∷ []) r h = absurd (cc)
good_line l line (a ∷ b ∷ c ∷ []) r h = absurd (cc)
good_line l line (a ∷ b ∷ c ∷ d ∷ []) r h = absurd (cc)
good_line l line (a ∷ b ∷ c ∷ d ∷ e ∷ []) r h = absurd (cc)
good_line l line (a ∷ b ∷ c ∷ d ∷ e ∷ f ∷ g ∷ fs) r h = absurd (cc)

-- ---- all lines
abbrev stated : List Rule → Result (List Rule) ℕ
stated rules = Ok rules

same_rules : (a b : List Rule) → stated a ≡ stated b → a ≡ b
same_rules a b e = cc

good_rules_of : (l : Layout) (n : ℕ) (fs : List (List ℕ)) (rest : Result (List Rule) ℕ)
    (rules : List Rule) → ((more : List Rule) → rest ≡ Ok more → All (IsGoodRule l) more)
    → line_rules l n fs rest ≡ Ok rules → All (IsGoodRule l) rules
good_rules_of l n [] rest rules k h = k rules h
good_rules_of l n (f ∷ fs) rest rules k h = by (rule_of l n (f ∷ fs)) refl rest k h
  where
    by : (o : Option Rule) → rule_of l n (f ∷ fs) ≡ o → (rest : Result (List Rule) ℕ)
        → ((more : List Rule) → rest ≡ Ok more → All (IsGoodRule l) more)
        → then_rules n o rest ≡ Ok rules → All (IsGoodRule l) rules
    by None e rest k h = absurd (cc)
    by (Some r) e (Err line) k h = absurd (cc)
    by (Some r) e (Ok more) k h =
        subst (All (IsGoodRule l)) (same_rules (r ∷ more) rules h)
        (All-cons (IsGoodRule l) r more (good_line l n (f ∷ fs) r e) (k more refl))

good_from : (l : Layout) (n : ℕ) (lines : List (List ℕ)) (rules : List Rule)
    → links_from l n lines ≡ Ok rules → All (IsGoodRule l) rules
good_from l n [] rules h =
    subst (All (IsGoodRule l)) (same_rules [] rules h) (All-nil (IsGoodRule l))
good_from l n (text ∷ lines) rules h =
    good_rules_of l n (fields text) (links_from l (n + 1) lines) rules
    (λ more e. good_from l (n + 1) lines more e) h

pub good_rules : (l : Layout) (bytes : List ℕ) (rules : List Rule)
    → links_of l bytes ≡ Ok rules → All (IsGoodRule l) rules
good_rules l bytes rules h = good_from l 1 (physical_lines bytes) rules h
