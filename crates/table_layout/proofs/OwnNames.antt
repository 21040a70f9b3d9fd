-- A model that breaks no rule has different names.
use Rattle.std.proofs.Common.{◌≡◌, ◌≤◌, ◌+◌, inl, inr, ℕ, List, [], ◌∷◌, ◌++◌, length, map, Bool}
use Rattle.std.proofs.Common.{true, false, cond, refl, ◌∙◌, sym, ap, subst, arith, nat_eq}
use Rattle.std.proofs.Common.{append_assoc, append-nil}
use Rattle.std.specs.Prelude.{Contains}
use Rattle.std.specs.List.{All, AllZip, flat_map}
use Rattle.std.specs.Cmp.Lexicographic.{pointwise}
use Rattle.std.proofs.lemmas.Bool.{true≢false, or_parts}
use Rattle.std.proofs.lemmas.Slice.Eq.{bytes_eq-Decides}
use Rattle.std.proofs.lemmas.List.Sums.{sum_by-cons, sum_by-append}
use Rattle.std.proofs.lemmas.List.Elements.{All-nil, All-cons}
use Rattle.ili_grammar.specs.Syntax.{Ident, Attributes, no_attributes, and_attribute, an_attribute}
use Rattle.ili_grammar.specs.Syntax.{Content, Value, Reference, TypeSyntax, Named, Coord2, Coord3}
use Rattle.ili_grammar.specs.Syntax.{Dim1, Dim2, Radians, Grads, Degrees, Range, Text, Date}
use Rattle.ili_grammar.specs.Syntax.{Enumeration, HAlignment, VAlignment, Polyline, Surface, Area}
use Rattle.ili_grammar.specs.Syntax.{DomainSyntax, TableSyntax, TopicSyntax, ModelSyntax}
use Rattle.resolver.specs.declared.faults.ModelCode.TheVariants as code
use Rattle.resolver.specs.Breaking.{StandsAgain, AreHelpers, AreTableNames, topic_twice}
use Rattle.resolver.specs.Breaking.{table_twice}
use Rattle.resolver.specs.Faults.{Fault, fault_if}
use Rattle.resolver.specs.First.{BreaksNone}
use Rattle.resolver.specs.Lines.{is_boundary}
use Rattle.resolver.specs.Resolved as resolved
use Rattle.resolver.specs.Resolved.{ModelTable, Topic, ResolvedModel}
use Rattle.resolver.specs.Rules.{Entry, entry, twice, helper_name}
use Rattle.resolver.specs.Scopes.{Scope, Meaning, is_among, same, everywhere, inside}
use Rattle.resolver.specs.Sound.{listed}
use Rattle.resolver.specs.Standing.{IsTypeForm, IsContent, AreAttributes, IsTable, IsTopic, IsModel}
use Rattle.resolver.proofs.RuleLemmas.FaultParts.{told_again}
use Rattle.resolver.proofs.ListLemmas.Members.{In, contains}
use Rattle.resolver.proofs.TextLemmas.OneStanding.{one_meaning}
use Rattle.table_layout.specs.Names.{times, AreDifferent, helper_names, names_taken}
use Rattle.table_layout.specs.Names.{topic_names_taken, HasOwnNames}
use Rattle.table_layout.specs.Tables.{topic_names_of}

-- two lists that make none together are none
none_of : (fs gs : List Fault) → fs ++ gs ≡ [] → (fs ≡ []) × (gs ≡ [])
none_of [] gs e = (refl, e)
none_of (f ∷ fs) gs e = absurd (omega (arith, ap (λ (l : List Fault). length l) e))

-- ---- what is not reported as twice is different
-- 1 for what passes
abbrev once : Bool → ℕ
once b = cond b 1 0

abbrev keys : List Entry → List (List ℕ)
keys es = map (λ (e : Entry). e.key) es

among : (name x : List ℕ) → pointwise nat_eq x name ≡ true → same name x ≡ true
among name x h = (bytes_eq-Decides name x).1 (sym ((bytes_eq-Decides x name).0 h))

no_times : (name : List ℕ) (names : List (List ℕ)) → is_among name names ≡ false
    → times name names ≡ 0
no_times name [] h = refl
no_times name (x ∷ xs) h =
    let p = or_parts (same name x) (is_among name xs) h in
    omega (
      arith,
      sum_by-cons (λ n. once (pointwise nat_eq n name)) x xs,
      none (pointwise nat_eq x name) refl p.0,
      no_times name xs p.1,
    )
  where
    none : (t : Bool) → pointwise nat_eq x name ≡ t → same name x ≡ false → once t ≡ 0
    none true e f = absurd (true≢false (sym (among name x e) ∙ f))
    none false e f = refl

one_more : (names : List (List ℕ)) (k : List ℕ) → AreDifferent names → is_among k names ≡ false
    → AreDifferent (names ++ k ∷ [])
one_more names k all h name = go (pointwise nat_eq k name) refl
  where
    both : times name (names ++ k ∷ []) ≡ times name names + once (pointwise nat_eq k name)
    both = sum_by-append (λ n. once (pointwise nat_eq n name)) names (k ∷ [])
        ∙ ap (λ (n : ℕ). times name names + n)
        (sum_by-cons (λ n. once (pointwise nat_eq n name)) k []
        ∙ plain (once (pointwise nat_eq k name)))
      where
        plain : (n : ℕ) → n + 0 ≡ n
        plain n = omega arith

    go : (t : Bool) → pointwise nat_eq k name ≡ t → times name (names ++ k ∷ []) ≤ 1
    go true e =
        let same_name : k ≡ name = (bytes_eq-Decides k name).0 e in
        let z : times name names ≡ 0 = subst (λ (x : List ℕ). times x names ≡ 0) same_name
        (no_times k names h) in
        let one : once (pointwise nat_eq k name) ≡ 1 = rw e refl in
        omega (arith, both, z, one)
    go false e =
        let z : once (pointwise nat_eq k name) ≡ 0 = rw e refl in
        omega (arith, both, all name, z)

different : (before : List (List ℕ)) (es : List Entry) → AreDifferent before → twice before es ≡ []
    → AreDifferent (before ++ keys es)
different before [] all e = subst AreDifferent (sym (append-nil before)) all
different before (x ∷ es) all e =
    let none = none_of _ (twice (before ++ x.key ∷ []) es) e in
    let fresh : is_among x.key before ≡ false = not_told (is_among x.key before) none.0 in
    subst AreDifferent (append_assoc before (x.key ∷ []) (keys es))
    (different (before ++ x.key ∷ []) es (one_more before x.key all fresh) none.1)
  where
    not_told : (b : Bool) → fault_if b code.Twice x.name ≡ [] → b ≡ false
    not_told false e = refl
    not_told true e = absurd (omega (arith, ap (λ (l : List Fault). length l) e))

no_names : AreDifferent []
no_names name = omega arith

-- names of which none stands again are not reported as twice
not_twice : (before : List (List ℕ)) (es : List Entry) → ((n : Ident) → StandsAgain before es n → ⊥)
    → twice before es ≡ []
not_twice before es none = go (twice before es) refl
  where
    go : (fs : List Fault) → twice before es ≡ fs → twice before es ≡ []
    go [] e = e
    go (f ∷ fs) e =
        absurd (none f.name
        (told_again before es f (subst (λ (l : List Fault). In l f) (sym e) (inl refl))).1)

different_names : (es : List Entry) → ((n : Ident) → StandsAgain [] es n → ⊥)
    → AreDifferent (keys es)
different_names es none = different [] es no_names (not_twice [] es none)

-- ---- the names that tables take are those that the rule compares
keys_append : (es fs : List Entry) → keys (es ++ fs) ≡ keys es ++ keys fs
keys_append [] fs = refl
keys_append (e ∷ es) fs = ap (λ (xs : List (List ℕ)). e.key ∷ xs) (keys_append es fs)

-- an attribute has a helper table where its type is a SURFACE or an AREA
abbrev Decided : List ℕ → List ℕ → Bool → Bool → resolved.AttributeForm → Type 0
Decided table name o b f =
    helper_names table (resolved.an_attribute name o f) ≡ cond b (helper_name table name ∷ []) []

by_kind : (table name : List ℕ) (o : Bool) (s : Scope) (k : TypeSyntax) (f : resolved.AttributeForm)
    → IsTypeForm name o s k f → Decided table name o (is_boundary k) f
by_kind table name o s (Polyline l) f h =
    ap (λ (x : resolved.AttributeForm). helper_names table (resolved.an_attribute name o x)) h.1
by_kind table name o s (Surface l) f h =
    ap (λ (x : resolved.AttributeForm). helper_names table (resolved.an_attribute name o x)) h.2
by_kind table name o s (Area l) f h =
    ap (λ (x : resolved.AttributeForm). helper_names table (resolved.an_attribute name o x)) h.2
by_kind table name o s (Named n) f h =
    ap (λ (x : resolved.AttributeForm). helper_names table (resolved.an_attribute name o x)) h.1
by_kind table name o s (Coord2 c) f h =
    ap (λ (x : resolved.AttributeForm). helper_names table (resolved.an_attribute name o x)) h.1
by_kind table name o s (Coord3 c) f h =
    ap (λ (x : resolved.AttributeForm). helper_names table (resolved.an_attribute name o x)) h.1
by_kind table name o s (Dim1 p) f h =
    ap (λ (x : resolved.AttributeForm). helper_names table (resolved.an_attribute name o x)) h.1
by_kind table name o s (Dim2 p) f h =
    ap (λ (x : resolved.AttributeForm). helper_names table (resolved.an_attribute name o x)) h.1
by_kind table name o s (Radians p) f h =
    ap (λ (x : resolved.AttributeForm). helper_names table (resolved.an_attribute name o x)) h.1
by_kind table name o s (Grads p) f h =
    ap (λ (x : resolved.AttributeForm). helper_names table (resolved.an_attribute name o x)) h.1
by_kind table name o s (Degrees p) f h =
    ap (λ (x : resolved.AttributeForm). helper_names table (resolved.an_attribute name o x)) h.1
by_kind table name o s (Range p) f h =
    ap (λ (x : resolved.AttributeForm). helper_names table (resolved.an_attribute name o x)) h.1
by_kind table name o s (Text d) f h =
    ap (λ (x : resolved.AttributeForm). helper_names table (resolved.an_attribute name o x)) h.1
by_kind table name o s Date f h =
    ap (λ (x : resolved.AttributeForm). helper_names table (resolved.an_attribute name o x)) h.1
by_kind table name o s HAlignment f h =
    ap (λ (x : resolved.AttributeForm). helper_names table (resolved.an_attribute name o x)) h.1
by_kind table name o s VAlignment f h =
    ap (λ (x : resolved.AttributeForm). helper_names table (resolved.an_attribute name o x)) h.1
by_kind table name o s (Enumeration es) f h =
    ap (λ (x : resolved.AttributeForm). helper_names table (resolved.an_attribute name o x)) h.1

-- the names of the helper tables of some attributes
record HasHelpers (s : Scope) (table : List ℕ) (as_ : Attributes)
    (fs : resolved.Attributes) : Type 0 where
  names : List Entry
  are : AreHelpers s table as_ names
  taken : keys names ≡ flat_map (helper_names table) (listed fs)

one_helper : (s : Scope) (table : List ℕ) (n : Ident) (o : Bool) (c : Content) (as_ : Attributes)
    (f : resolved.AttributeForm) (rest : resolved.Attributes)
    → IsContent n.text o s c f → HasHelpers s table as_ rest
    → HasHelpers s table (and_attribute (an_attribute n o c) as_)
    (resolved.and_attribute (resolved.an_attribute n.text o f) rest)
one_helper s table n o (Reference r) as_ f rest h more =
    record {
      names = more.names;
      are = inr (λ w. w, more.are);
      taken = more.taken
          ∙ ap (λ (x : resolved.AttributeForm). helper_names table
          (resolved.an_attribute n.text o x) ++ flat_map (helper_names table) (listed rest))
          (sym h.1);
    }
one_helper s table n o (Value t) as_ f rest h more = by_test (is_boundary h.0.kind) refl
  where
    decided : Decided table n.text o (is_boundary h.0.kind) f
    decided = by_kind table n.text o h.0.scope h.0.kind f h.2

    by_test : (b : Bool) → is_boundary h.0.kind ≡ b
        → HasHelpers s table (and_attribute (an_attribute n o (Value t)) as_)
        (resolved.and_attribute (resolved.an_attribute n.text o f) rest)
    by_test true e =
        record {
          names = record { key = helper_name table n.text; name = n } ∷ more.names;
          are = inl (more.names, (h.0, h.1, e), refl, more.are);
          taken = ap (λ (l : List (List ℕ)). helper_name table n.text ∷ l) more.taken
              ∙ ap (λ (l : List (List ℕ)). l ++ flat_map (helper_names table) (listed rest))
              (sym (subst (λ (b : Bool). Decided table n.text o b f) e decided));
        }
    by_test false e =
        record {
          names = more.names;
          are = inr (
            λ w. true≢false (sym w.2
                ∙ ap (λ (m : Meaning). is_boundary m.kind) (one_meaning w.0 h.0 s t w.1 h.1) ∙ e),
            more.are,
          );
          taken = more.taken
              ∙ ap (λ (l : List (List ℕ)). l ++ flat_map (helper_names table) (listed rest))
              (sym (subst (λ (b : Bool). Decided table n.text o b f) e decided));
        }

helpers_there : (s : Scope) (table : List ℕ) (as_ : Attributes) (fs : resolved.Attributes)
    → AreAttributes s as_ fs → HasHelpers s table as_ fs
helpers_there s table no_attributes fs h =
    subst (HasHelpers s table no_attributes) (sym h) (record {
      names = [];
      are = refl;
      taken = refl;
    })
helpers_there s table (and_attribute (an_attribute n o c) as_) fs h =
    subst (HasHelpers s table (and_attribute (an_attribute n o c) as_)) (sym h.2)
    (one_helper s table n o c as_ h.0 h.1 h.3 (helpers_there s table as_ h.1 h.4))

record HasTableNames (s : Scope) (ts : List TableSyntax) (ms : List ModelTable) : Type 0 where
  names : List Entry
  are : AreTableNames s ts names
  taken : keys names ≡ flat_map names_taken ms

tables_there : (s : Scope) (ts : List TableSyntax) (ms : List ModelTable) → AllZip (IsTable s) ts ms
    → HasTableNames s ts ms
tables_there s [] [] h = record { names = []; are = refl; taken = refl }
tables_there s [] (m ∷ ms) h = absurd h
tables_there s (t ∷ ts) [] h = absurd h
tables_there s (t ∷ ts) (m ∷ ms) h =
    let own : HasHelpers s t.name.text t.attributes m.attributes = helpers_there s t.name.text
    t.attributes m.attributes h.0.attributes in
    let rest : HasTableNames s ts ms = tables_there s ts ms h.1 in
    record {
      names = entry t.name ∷ (own.names ++ rest.names);
      are = (own.names, rest.names, refl, own.are, rest.are);
      taken =
          ap (λ (l : List (List ℕ)). t.name.text ∷ l) (keys_append own.names rest.names)
          ∙ ap (λ (l : List (List ℕ)). t.name.text ∷ (l ++ keys rest.names)) own.taken
          ∙ ap (λ (l : List (List ℕ)). t.name.text
          ∷ (flat_map (helper_names t.name.text) (listed m.attributes) ++ l)) rest.taken
          ∙ ap (λ (n : List ℕ). (n ∷ flat_map (helper_names n) (listed m.attributes))
          ++ flat_map names_taken ms) (sym h.0.name);
    }

topic_names_there : (above : List DomainSyntax) (ts : List TopicSyntax) (rs : List Topic)
    → AllZip (IsTopic above) ts rs → keys (map entry (map (λ t. t.name) ts)) ≡ topic_names_of rs
topic_names_there above [] [] h = refl
topic_names_there above [] (r ∷ rs) h = absurd h
topic_names_there above (t ∷ ts) [] h = absurd h
topic_names_there above (t ∷ ts) (r ∷ rs) h =
    ap (λ (n : List ℕ). n ∷ keys (map entry (map (λ t. t.name) ts))) (sym h.0.name)
    ∙ ap (λ (l : List (List ℕ)). r.name ∷ l) (topic_names_there above ts rs h.1)

-- ---- the whole
module _ (m : ModelSyntax) (none : BreaksNone m) where
  topic_different : (t : TopicSyntax) (r : Topic) → Contains m.topics t → IsTopic (everywhere m) t r
      → AreDifferent (topic_names_taken r)
  topic_different t r c h =
      let there : HasTableNames (inside (everywhere m) t) t.tables r.tables = tables_there
      (inside (everywhere m) t) t.tables r.tables h.tables in
      subst AreDifferent there.taken
      (different_names there.names
      (λ n w. none (record { code = code.Twice; name = n })
      (table_twice t there.names n c there.are w)))

  each_different : (ts : List TopicSyntax) (rs : List Topic)
      → ((t : TopicSyntax) → In ts t → In m.topics t) → AllZip (IsTopic (everywhere m)) ts rs
      → All (λ r. AreDifferent (topic_names_taken r)) rs
  each_different [] [] sub h = All-nil (λ r. AreDifferent (topic_names_taken r))
  each_different [] (r ∷ rs) sub h = absurd h
  each_different (t ∷ ts) [] sub h = absurd h
  each_different (t ∷ ts) (r ∷ rs) sub h =
      All-cons (λ r. AreDifferent (topic_names_taken r)) r rs
      (topic_different t r (contains m.topics t (sub t (inl refl))) h.0)
      (each_different ts rs (λ x k. sub x (inr k)) h.1)

  pub own_names : (r : ResolvedModel) → IsModel m r → HasOwnNames r
  own_names r h =
      record {
        topics = subst AreDifferent (topic_names_there (everywhere m) m.topics r.topics h.topics)
            (different_names (map entry (map (λ t. t.name) m.topics))
            (λ n w. none (record { code = code.Twice; name = n }) (topic_twice n w)));
        tables = each_different m.topics r.topics (λ t k. k) h.topics;
      }
