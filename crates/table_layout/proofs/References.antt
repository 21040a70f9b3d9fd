-- A reference that is written is the number of the table of that name in its topic.
use Rattle.std.proofs.Common.{◌≡◌, ◌+◌, inl, inr, ℕ, zero, suc, List, [], ◌∷◌, ◌++◌, length, map}
use Rattle.std.proofs.Common.{Bool, true, false, cond, Option, Some, unwrap_or, refl, ◌∙◌, sym, ap}
use Rattle.std.proofs.Common.{subst, arith, length-append, append_assoc}
use Rattle.std.specs.Prelude.{Contains, slice_get, slice_index_or}
use Rattle.std.specs.List.{AllZip, flat_map, position_from}
use Rattle.std.proofs.lemmas.Option.{slice_get-get_or, get_or_from_slice_get}
use Rattle.ili_grammar.specs.Syntax.{Ident, Attributes, no_attributes, and_attribute}
use Rattle.ili_grammar.specs.Syntax.{AttributeSyntax, an_attribute, Reference, DomainSyntax}
use Rattle.ili_grammar.specs.Syntax.{TableSyntax, TopicSyntax, ModelSyntax}
use Rattle.resolver.specs.First.{BreaksNone}
use Rattle.resolver.specs.Occurring.{HasAttribute}
use Rattle.resolver.specs.Resolved as resolved
use Rattle.resolver.specs.Resolved.{Attribute, ModelTable, Topic, ResolvedModel}
use Rattle.resolver.specs.Scopes.{Scope, same, place, texts, table_names, everywhere, inside}
use Rattle.resolver.specs.Sound.{listed}
use Rattle.resolver.specs.Standing.{IsContent, AreAttributes, IsTable, IsTopic, IsModel}
use Rattle.resolver.proofs.ListLemmas.Members.{In, contains, in_each, same_is}
use Rattle.table_layout.specs.Attributes.{columns_of}
use Rattle.table_layout.specs.Layouts.{Column, Table, Layout}
use Rattle.table_layout.specs.Names.{IsFoundByName}
use Rattle.table_layout.specs.References.{HasReferenceTo}
use Rattle.table_layout.specs.Tables.{Owner, areas_in, surfaces_in, numbers_from, area_tables}
use Rattle.table_layout.specs.Tables.{surface_table, main_table, with_helpers, tables_beside}
use Rattle.table_layout.specs.Tables.{topic_tables, tables_from, layout_of}
use Rattle.table_layout.proofs.Counts.{length-areas, length-with_helpers}
use Rattle.table_layout.proofs.Named.{found_by_name}
use Rattle.table_layout.proofs.OwnNames.{own_names}
use Rattle.table_layout.proofs.Validity.{got_at, regroup_main, regroup}

-- ---- lists
-- what is found at a position passes the test
abbrev IsFound : {X : Type 0} → (X → Bool) → ℕ → ℕ → List X → Type 0
IsFound {X} p k from xs =
    (i : ℕ) × (x : X) × (k ≡ from + i) × (slice_get xs i ≡ Some x) × (p x ≡ true)

at_position : {X : Type 0} (p : X → Bool) (from k : ℕ) (xs : List X)
    → position_from p from xs ≡ Some k → IsFound p k from xs
at_position p from k [] e = absurd (cc)
at_position {X} p from k (x ∷ xs) e = by_test (p x) refl (λ h. at_position p (from + 1) k xs h) e
  where
    by_test : (b : Bool) → p x ≡ b
        → (position_from p (from + 1) xs ≡ Some k → IsFound p k (from + 1) xs)
        → cond b (Some from) (position_from p (from + 1) xs) ≡ Some k → IsFound p k from (x ∷ xs)
    by_test true q further h =
        let here : from ≡ k = ap (λ (o : Option ℕ). unwrap_or o k) h in
        (0, x, omega (arith, here), refl, q)
    by_test false q further h = let w = further h in (suc w.0, w.1, omega (arith, w.2), w.3, w.4)

map_at : {X Y : Type 0} (f : X → Y) (xs : List X) (i : ℕ) (y : Y) → slice_get (map f xs) i ≡ Some y
    → (x : X) × (slice_get xs i ≡ Some x) × (f x ≡ y)
map_at f [] i y e = absurd (cc)
map_at f (x ∷ xs) zero y e = (x, refl, ap (λ o. unwrap_or o y) e)
map_at f (x ∷ xs) (suc i) y e = map_at f xs i y e

zip_at : {X Y : Type 0} (R : X → Y → Type 0) (xs : List X) (ys : List Y) (i : ℕ) (x : X)
    → AllZip R xs ys → slice_get xs i ≡ Some x → (y : Y) × (slice_get ys i ≡ Some y) × R x y
zip_at R [] [] i x h e = absurd (cc)
zip_at R [] (y ∷ ys) i x h e = absurd h
zip_at R (z ∷ zs) [] i x h e = absurd h
zip_at {X} R (z ∷ zs) (y ∷ ys) zero x h e =
    (y, refl, subst (λ (w : X). R w y) (ap (λ (o : Option X). unwrap_or o x) e) h.0)
zip_at R (z ∷ zs) (y ∷ ys) (suc i) x h e = zip_at R zs ys i x h.1 e

-- ---- what is written
abbrev IsKept : Scope → resolved.Attributes → AttributeSyntax → Type 0
IsKept s fs (an_attribute n o c) =
    (f : resolved.AttributeForm) × IsContent n.text o s c f
    × In (listed fs) (resolved.an_attribute n.text o f)

attribute_kept : (s : Scope) (as_ : Attributes) (fs : resolved.Attributes) (a : AttributeSyntax)
    → AreAttributes s as_ fs → HasAttribute as_ a → IsKept s fs a
attribute_kept s no_attributes fs a h k = absurd k
attribute_kept s (and_attribute (an_attribute n o c) as_) fs a h (inl e) =
    subst (λ (gs : resolved.Attributes). IsKept s gs a) (sym h.2)
    (subst (IsKept s (resolved.and_attribute (resolved.an_attribute n.text o h.0) h.1)) e
    (h.0, h.3, inl refl))
attribute_kept s (and_attribute (an_attribute n o c) as_) fs a h (inr k) =
    subst (λ (gs : resolved.Attributes). IsKept s gs a) (sym h.2)
    (further a (attribute_kept s as_ h.1 a h.4 k))
  where
    further : (a : AttributeSyntax) → IsKept s h.1 a
        → IsKept s (resolved.and_attribute (resolved.an_attribute n.text o h.0) h.1) a
    further (an_attribute m p d) w = (w.0, w.1, inr w.2)

-- the attribute of a reference has the number of the table that is named
reference_kept : (s : Scope) (as_ : Attributes) (fs : resolved.Attributes) (a r : Ident) (o : Bool)
    → AreAttributes s as_ fs → HasAttribute as_ (an_attribute a o (Reference r))
    → (k : ℕ) × (place r.text s.tables ≡ Some k)
    × In (listed fs) (resolved.an_attribute a.text o (resolved.Value (resolved.Reference k)))
reference_kept s as_ fs a r o h k =
    let w = attribute_kept s as_ fs (an_attribute a o (Reference r)) h k in
    let v = w.1 in
    let is : w.0 ≡ resolved.Value (resolved.Reference v.2.0) = v.1
    ∙ ap (λ (f : resolved.Form). resolved.Value f) v.2.1 in (
      v.2.0,
      v.2.2,
      subst (λ (f : resolved.AttributeForm). In (listed fs) (resolved.an_attribute a.text o f)) is
          w.2,
    )

table_of_name : (ts : List TableSyntax) (name : List ℕ) (k : ℕ)
    → place name (texts (table_names ts)) ≡ Some k
    → (t : TableSyntax) × (slice_get ts k ≡ Some t) × (t.name.text ≡ name)
table_of_name ts name k e =
    let w = at_position (same name) 0 k (texts (table_names ts)) e in
    let here : w.0 ≡ k = omega (arith, w.2) in
    let a = map_at (λ (n : Ident). n.text) (table_names ts) w.0 w.1 w.3 in
    let b = map_at (λ (t : TableSyntax). t.name) ts w.0 a.0 a.1 in (
      b.0,
      subst (λ (i : ℕ). slice_get ts i ≡ Some b.0) here b.1,
      ap (λ (n : Ident). n.text) b.2
          ∙ a.2 ∙ sym (same_is name w.1 w.4),
    )

-- ---- where a declared table stands
record StandsIn (whole : List Table) (topic : ℕ) (mains : List ℕ) (numbers : List ℕ) (k : ℕ)
    (t : ModelTable) : Type 0 where
  number : ℕ
  listed_at : slice_get numbers k ≡ Some number
  there : slice_get whole number ≡ Some
      (main_table (record { topic = topic; mains = mains; main = number; name = t.name })
      (listed t.attributes) t.idents)

main_at : (n : ℕ) (whole : List Table) (mains : List ℕ) (first : ℕ) (ts : List ModelTable)
    (pre post : List Table) (k : ℕ) (t : ModelTable)
    → whole ≡ pre ++ (tables_beside n mains (numbers_from first ts) ts ++ post) → length pre ≡ first
    → slice_get ts k ≡ Some t
    → StandsIn whole n mains (numbers_from first ts) k t
main_at n whole mains first [] pre post k t e l h = absurd (cc)
main_at n whole mains first (x ∷ ts) pre post zero t e l h =
    let own : List Attribute = listed x.attributes in
    let w : Owner = record {
      topic = n;
      mains = mains;
      main = first + areas_in own;
      name = x.name;
    } in
    let next : ℕ = first + areas_in own + 1 + surfaces_in own in
    let rest : List Table = tables_beside n mains (numbers_from next ts) ts in
    let areas : List Table = area_tables w 0 own in
    let surfaces : List Table = flat_map (surface_table w) own in
    let far : length (pre ++ areas) ≡ first
    + areas_in own = omega (arith, length-append pre areas, length-areas w 0 own) in
    let there = got_at whole (pre ++ areas) (main_table w own x.idents) (surfaces ++ (rest ++ post))
    (first + areas_in own) (e
    ∙ regroup_main pre areas (main_table w own x.idents) surfaces rest post) far in
    let here : x ≡ t = ap (λ (o : Option ModelTable). unwrap_or o t) h in
    subst (StandsIn whole n mains (numbers_from first (x ∷ ts)) 0) here
    (record { number = first + areas_in own; listed_at = refl; there = there })
main_at n whole mains first (x ∷ ts) pre post (suc j) t e l h =
    let own : List Attribute = listed x.attributes in
    let w : Owner = record {
      topic = n;
      mains = mains;
      main = first + areas_in own;
      name = x.name;
    } in
    let next : ℕ = first + areas_in own + 1 + surfaces_in own in
    let block : List Table = with_helpers w own x.idents in
    let rest : List Table = tables_beside n mains (numbers_from next ts) ts in
    let further : length (pre ++ block)
    ≡ next = omega (arith, length-append pre block, length-with_helpers w own x.idents) in
    let s = main_at n whole mains next ts (pre ++ block) post j t (e
    ∙ regroup pre block rest post) further h in
    record { number = s.number; listed_at = s.listed_at; there = s.there }

record HasTopic (whole : List Table) (n : ℕ) (t : Topic) : Type 0 where
  first : ℕ
  pre : List Table
  post : List Table
  tables : whole
      ≡ pre ++ (tables_beside n (numbers_from first t.tables) (numbers_from first t.tables) t.tables
      ++ post)
  long : length pre ≡ first

topic_at : (whole : List Table) (n first : ℕ) (ts : List Topic) (pre : List Table) (i : ℕ)
    (t : Topic)
    → whole ≡ pre ++ tables_from n first ts → length pre ≡ first → slice_get ts i ≡ Some t
    → HasTopic whole (n + i) t
topic_at whole n first [] pre i t e l h = absurd (cc)
topic_at whole n first (x ∷ ts) pre zero t e l h =
    let here : x ≡ t = ap (λ (o : Option Topic). unwrap_or o t) h in
    let plain : n ≡ n + 0 = omega arith in
    subst (λ (k : ℕ). HasTopic whole k t) plain
    (subst (HasTopic whole n) here (record {
      first = first;
      pre = pre;
      post = tables_from (n + 1) (first + length (topic_tables n first x.tables)) ts;
      tables = e;
      long = l;
    }))
topic_at whole n first (x ∷ ts) pre (suc i) t e l h =
    let one : List Table = topic_tables n first x.tables in
    let rest : List Table = tables_from (n + 1) (first + length one) ts in
    let further : length (pre ++ one) ≡ first + length one = omega (arith, length-append pre one) in
    let step : n + 1 + i ≡ n + suc i = omega arith in
    subst (λ (k : ℕ). HasTopic whole k t) step
    (topic_at whole (n + 1) (first + length one) ts (pre ++ one) i t (e
    ∙ sym (append_assoc pre one rest)) further h)

-- the numbers of the declared tables of a topic
abbrev mains_of : (whole : List Table) (n : ℕ) (t : Topic) → HasTopic whole n t → List ℕ
mains_of whole n t h = numbers_from h.first t.tables

stands_in : (whole : List Table) (n : ℕ) (t : Topic) (h : HasTopic whole n t) (k : ℕ)
    (x : ModelTable)
    → slice_get t.tables k ≡ Some x
    → StandsIn whole n (mains_of whole n t h) (mains_of whole n t h) k x
stands_in whole n t h k x e =
    main_at n whole (mains_of whole n t h) h.first t.tables h.pre h.post k x h.tables h.long e

-- of two tables of a topic the one refers to the other
refers : (l : Layout) (n : ℕ) (mains : List ℕ) (i k : ℕ) (x y : ModelTable) (name : List ℕ)
    (o : Bool)
    → IsFoundByName l → StandsIn l.tables n mains mains i x → StandsIn l.tables n mains mains k y
    → In (listed x.attributes)
    (resolved.an_attribute name o (resolved.Value (resolved.Reference k)))
    → HasReferenceTo l n x.name name o y.name
refers l n mains i k x y name o by_name owner target h =
    let columns : List Column = flat_map (columns_of mains) (listed x.attributes) in
    let number : slice_index_or mains k 0
    ≡ target.number = get_or_from_slice_get mains k target.number 0 target.listed_at in
    let column : In columns (record {
      name = name;
      optional = o;
      form = resolved.Reference (slice_index_or mains k 0);
    }) =
    in_each (columns_of mains) (listed x.attributes)
    (resolved.an_attribute name o (resolved.Value (resolved.Reference k))) _ h (inl refl) in
    record {
      number = owner.number;
      target = target.number;
      owner = main_table (record { topic = n; mains = mains; main = owner.number; name = x.name })
          (listed x.attributes) x.idents;
      found = by_name.tables owner.number _ owner.there;
      there = owner.there;
      named = by_name.tables target.number _ target.there;
      column = contains columns (record {
        name = name;
        optional = o;
        form = resolved.Reference target.number;
      })
          (subst (λ (j : ℕ). In columns (record {
            name = name;
            optional = o;
            form = resolved.Reference j;
          })) number column);
    }

-- ---- the whole
module _ (above : List DomainSyntax) (l : Layout) (n : ℕ) (t : TopicSyntax) (rt : Topic)
    (by_name : IsFoundByName l) (placed : HasTopic l.tables n rt) (is : IsTopic above t rt) where
  in_topic : (i : ℕ) (x : TableSyntax) (a r : Ident) (o : Bool) → slice_get t.tables i ≡ Some x
      → HasAttribute x.attributes (an_attribute a o (Reference r))
      → HasReferenceTo l n x.name.text a.text o r.text
  in_topic i x a r o at has =
      let s : Scope = inside above t in
      let own = zip_at (IsTable s) t.tables rt.tables i x is.tables at in
      let reference = reference_kept s x.attributes own.0.attributes a r o own.2.attributes has in
      let other = table_of_name t.tables r.text reference.0 reference.1 in
      let named = zip_at (IsTable s) t.tables rt.tables reference.0 other.0 is.tables other.1 in
      let kept : HasReferenceTo l n own.0.name a.text o named.0.name =
      refers l n (mains_of l.tables n rt placed) i reference.0 own.0 named.0 a.text o by_name
      (stands_in l.tables n rt placed i own.0 own.1)
      (stands_in l.tables n rt placed reference.0 named.0 named.1) reference.2 in
      subst (λ (w : List ℕ). HasReferenceTo l n w a.text o r.text) own.2.name
      (subst (HasReferenceTo l n own.0.name a.text o) (named.2.name ∙ other.2) kept)

pub reference_found : (written : ModelSyntax) (m : ResolvedModel) (n : ℕ) (t : TopicSyntax)
    (x : TableSyntax) (a r : Ident) (o : Bool)
    → BreaksNone written → IsModel written m → slice_get written.topics n ≡ Some t
    → Contains t.tables x → HasAttribute x.attributes (an_attribute a o (Reference r))
    → HasReferenceTo (layout_of m) n x.name.text a.text o r.text
reference_found written m n t x a r o none stands e c has =
    let topic = zip_at (IsTopic (everywhere written)) written.topics m.topics n t stands.topics e in
    let plain : 0 + n ≡ n = omega arith in
    let placed : HasTopic (tables_from 0 0 m.topics) n topic.0 = subst
    (λ (i : ℕ). HasTopic (tables_from 0 0 m.topics) i topic.0) plain
    (topic_at (tables_from 0 0 m.topics) 0 0 m.topics [] n topic.0 refl refl topic.1) in
    let at : slice_get t.tables c.0 ≡ Some x = slice_get-get_or t.tables c.0 x c.1
    ∙ ap (λ (y : TableSyntax). Some y) c.2 in
    in_topic (everywhere written) (layout_of m) n t topic.0
    (found_by_name m (own_names written none m stands)) placed topic.2 c.0 x a r o at has
