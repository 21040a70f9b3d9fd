-- What a type stands for is what the way from its name gives.
use Rattle.std.proofs.Common.{◌≡◌, ℕ, zero, suc, ◌+◌, ◌<◌, ◌≤◌, inl, inr, Bool, true, false, cond}
use Rattle.std.proofs.Common.{◌||◌, ◌==◌, List, [], ◌∷◌, length, slice_get, Option, Some, None}
use Rattle.std.proofs.Common.{refl, ap, sym, ◌∙◌, subst, arith, true≢false, eq-eqb}
use Rattle.std.proofs.lemmas.List.{length-map}
use Rattle.std.proofs.lemmas.Bool.{cases_eq, ne_eqb}
use Rattle.std.specs.List.{list_any, position_from}
use Rattle.std.specs.Option.{is_some, option_map, option_map_or, option_and_then, unwrap_or, IfSome}
use Rattle.ili_grammar.specs.Syntax.{Ident, TypeSyntax, Named, DomainSyntax, Content, Value}
use Rattle.ili_grammar.specs.Syntax.{Reference}
use Rattle.resolver.specs.Lines.{stands_for}
use Rattle.resolver.specs.Scopes.{Scope, Meaning, same, is_among, place, names_of, domain_names}
use Rattle.resolver.specs.Scopes.{declared_in, leads, reached, comes_to, longest, last_type}
use Rattle.resolver.specs.Scopes.{name_alone, outside, written, followed, meaning_outside, meaning}
use Rattle.resolver.specs.Scopes.{meant}
use Rattle.resolver.specs.Standing.{StandsFor, as_written, as_outside, as_declared}
use Rattle.resolver.specs.Breaking.{LeadsAtOnce, LeadsTo, at_once, by_way_of, Means}
use Rattle.resolver.proofs.ScopeLemmas.EndedWays.{AreWithin, ended, back_in_few}
use Rattle.resolver.proofs.ListLemmas.Members.{In, in_contained, contains, not_in, not_among}
use Rattle.resolver.proofs.ListLemmas.Members as members

-- ---- places
no_some : {X Y : Type 0} (x : X) → None ≡ Some x → Y
no_some {X} {Y} x e = absurd (true≢false (sym (ap (λ (o : Option X). is_some o) e)))

one_item : {X : Type 0} (o : Option X) (x y : X) → o ≡ Some x → o ≡ Some y → x ≡ y
one_item {X} o x y a b = ap (λ (p : Option X). unwrap_or p x) (sym a ∙ b)

place_under : (test : List ℕ → Bool) (k j : ℕ) (ns : List (List ℕ))
    → position_from test k ns ≡ Some j → j < k + length ns
place_under test k j [] e = no_some j e
place_under test k j (n ∷ ns) e = by_test (λ h. place_under test (k + 1) j ns h) (test n) e
  where
    by_test : (position_from test (k + 1) ns ≡ Some j → j < k + 1 + length ns) → (b : Bool)
        → cond b (Some k) (position_from test (k + 1) ns) ≡ Some j → j < k + length (n ∷ ns)
    by_test later true h =
        let same_place : k ≡ j = ap (λ (o : Option ℕ). unwrap_or o k) h in omega (arith, same_place)
    by_test later false h = omega (arith, later h)

among_placed : (test : List ℕ → Bool) (j : ℕ) (ns : List (List ℕ))
    → list_any test ns ≡ is_some (position_from test j ns)
among_placed test j [] = refl
among_placed test j (n ∷ ns) =
    elim (test n) as (λ b. (b || list_any test ns)
    ≡ is_some (cond b (Some j) (position_from test (j + 1) ns))) [
      | true ↦ refl
      | false ↦ among_placed test (j + 1) ns
    ]

names_long : (ds : List DomainSyntax) → length (names_of ds) ≡ length ds
names_long ds = length-map (domain_names ds) (λ (n : Ident). n.text)
    ∙ length-map ds (λ (d : DomainSyntax). d.name)

placed_below : (name : List ℕ) (ds : List DomainSyntax) (j : ℕ) → place name (names_of ds) ≡ Some j
    → j < length ds
placed_below name ds j e = omega (arith, place_under (same name) 0 j (names_of ds) e, names_long ds)

item_at : {X : Type 0} (xs : List X) (i : ℕ) → i < length xs → (x : X) × (slice_get xs i ≡ Some x)
item_at [] i lt = absurd (omega (arith, lt))
item_at (x ∷ xs) zero lt = (x, refl)
item_at (x ∷ xs) (suc i) lt = item_at xs i (omega (arith, lt))

pub item_below : {X : Type 0} (xs : List X) (i : ℕ) (x : X) → slice_get xs i ≡ Some x
    → i < length xs
item_below [] i x e = no_some x e
item_below (y ∷ ys) zero x e = omega arith
item_below (y ∷ ys) (suc i) x e = omega (arith, item_below ys i x e)

alone_named : (t : TypeSyntax) (n : Ident) → name_alone t ≡ Some n → t ≡ Named n
alone_named (Named k) n e = ap (λ (x : Ident). Named x) (one_item (Some k) k n refl e)
alone_named _ n e = no_some n e

-- ---- steps
step_of_name : (s : Scope) (t : TypeSyntax) (n : Ident) → name_alone t ≡ Some n
    → is_among n.text (names_of s.above) ≡ false
    → option_and_then (declared_in (names_of s.above) (names_of s.own)) (name_alone t)
    ≡ place n.text (names_of s.own)
step_of_name s t n q out =
    ap (λ (o : Option Ident). option_and_then (declared_in (names_of s.above) (names_of s.own)) o) q
    ∙ ap (λ (b : Bool). cond b None (place n.text (names_of s.own))) out

step_at : (s : Scope) (i : ℕ) (d : DomainSyntax) → slice_get s.own i ≡ Some d
    → leads s i ≡ option_and_then (declared_in (names_of s.above) (names_of s.own))
    (name_alone d.kind)
step_at s i d at =
    ap (λ (o : Option DomainSyntax). option_and_then
    (λ x. option_and_then (declared_in (names_of s.above) (names_of s.own)) (name_alone x.kind)) o)
    at

leads_named : (s : Scope) (i j : ℕ) (d : DomainSyntax) (n : Ident) → slice_get s.own i ≡ Some d
    → name_alone d.kind ≡ Some n → is_among n.text (names_of s.above) ≡ false
    → place n.text (names_of s.own) ≡ Some j → leads s i ≡ Some j
leads_named s i j d n at q out p = step_at s i d at ∙ step_of_name s d.kind n q out ∙ p

pub names_lead : (s : Scope) (i j : ℕ) → LeadsAtOnce s i j → leads s i ≡ Some j
names_lead s i j w =
    leads_named s i j w.domain w.name w.declared (ap name_alone w.kind)
    (not_among w.name.text (names_of s.above)
    (λ h. w.here (contains (names_of s.above) w.name.text h))) w.first

pub leads_name : (s : Scope) (i j : ℕ) → leads s i ≡ Some j → LeadsAtOnce s i j
leads_name s i j e = by_domain (slice_get s.own i) refl e
  where
    by_place : (d : DomainSyntax) → slice_get s.own i ≡ Some d → (n : Ident)
        → name_alone d.kind ≡ Some n → (b : Bool) → is_among n.text (names_of s.above) ≡ b
        → cond b None (place n.text (names_of s.own)) ≡ Some j → LeadsAtOnce s i j
    by_place d at n q true k h = no_some j h
    by_place d at n q false k h = record {
      domain = d;
      name = n;
      declared = at;
      kind = alone_named d.kind n q;
      here = λ c. not_in n.text (names_of s.above) k (in_contained (names_of s.above) n.text c);
      first = h;
    }

    by_name : (d : DomainSyntax) → slice_get s.own i ≡ Some d → (o : Option Ident)
        → name_alone d.kind ≡ o
        → option_and_then (declared_in (names_of s.above) (names_of s.own)) o ≡ Some j
        → LeadsAtOnce s i j
    by_name d at None q h = no_some j h
    by_name d at (Some n) q h = by_place d at n q (is_among n.text (names_of s.above)) refl h

    by_domain : (o : Option DomainSyntax) → slice_get s.own i ≡ o
        → option_and_then
        (λ x. option_and_then (declared_in (names_of s.above) (names_of s.own))
        (name_alone x.kind)) o ≡ Some j
        → LeadsAtOnce s i j
    by_domain None at h = no_some j h
    by_domain (Some d) at h = by_name d at (name_alone d.kind) refl h

leads_within : (s : Scope) → AreWithin (leads s) (length s.own)
leads_within s i = below (leads s i) refl
  where
    below : (o : Option ℕ) → leads s i ≡ o → IfSome o (λ k. k < length s.own)
    below None e = tt
    below (Some j) e =
        placed_below (leads_name s i j e).name.text s.own j (leads_name s i j e).first

-- ---- domains that lead back to themselves
pub comes_leads : (s : Scope) (i k from : ℕ) → comes_to (leads s) i k from ≡ true → LeadsTo s i from
unfolding comes_to
comes_leads s i zero from e = absurd (true≢false (sym e))
comes_leads s i (suc k) from e = by_step (λ next h. comes_leads s i k next h) (leads s from) refl e
  where
    by_step : ((next : ℕ) → comes_to (leads s) i k next ≡ true → LeadsTo s i next) → (o : Option ℕ)
        → leads s from ≡ o
        → option_map_or (λ next. (next == i) || comes_to (leads s) i k next) o false ≡ true
        → LeadsTo s i from
    by_step again None q h = absurd (true≢false (sym h))
    by_step again (Some next) q h = elim (cases_eq next i) as (λ _. LeadsTo s i from) [
      | inl at ↦ at_once from (leads_name s from i (q ∙ ap (λ (x : ℕ). Some x) at))
      | inr other ↦ by_way_of from next (leads_name s from next q)
          (again next (sym
          (ap (λ (b : Bool). b || comes_to (leads s) i k next) (ne_eqb next i other)) ∙ h))
    ]

leads_comes : (s : Scope) (i from : ℕ) → LeadsTo s i from
    → (k : ℕ) × (comes_to (leads s) i k from ≡ true)
unfolding comes_to
leads_comes s i _ (at_once from w) = (
  1,
  ap (λ (o : Option ℕ). option_map_or (λ next. (next == i) || false) o false)
      (names_lead s from i w) ∙ ap (λ (b : Bool). b || false) (eq-eqb i i refl),
)
leads_comes s i _ (by_way_of from next w h) =
    let k = leads_comes s i next h in (
      suc k.0,
      ap
          (λ (o : Option ℕ). option_map_or (λ x. (x == i) || comes_to (leads s) i k.0 x) o false)
          (names_lead s from next w)
          ∙ members.or-right (next == i) (comes_to (leads s) i k.0 next) k.1,
    )

pub back_comes : (s : Scope) (i : ℕ) → length s.own ≤ longest → i < length s.own → LeadsTo s i i
    → comes_to (leads s) i longest i ≡ true
back_comes s i few lt h =
    let k = leads_comes s i i h in
    back_in_few (leads s) (length s.own) longest k.0 i (leads_within s) few lt k.1

-- ---- what is found is what a type stands for
abbrev NameStands : Meaning → Scope → List ℕ → Type 0
NameStands m s name = (n : Ident) (t : TypeSyntax) → n.text ≡ name → name_alone t ≡ Some n
    → StandsFor m s t

written_stands : (look : List ℕ → Option Meaning) (m : Meaning) (s : Scope) (t : TypeSyntax)
    → ((n : Ident) → look n.text ≡ Some m → NameStands m s n.text) → written look s t ≡ Some m
    → StandsFor m s t
written_stands look m s t further e = by_name (name_alone t) refl e
  where
    by_name : (o : Option Ident) → name_alone t ≡ o
        → option_map_or (λ n. look n.text) o (Some (record { scope = s; kind = t })) ≡ Some m
        → StandsFor m s t
    by_name None q h =
        as_written s t q
        (sym (one_item (Some (record { scope = s; kind = t })) (record {
          scope = s;
          kind = t;
        }) m refl h))
    by_name (Some n) q h = further n h n t refl q

-- what the end of a way stands for, the domain where it begins stands for
along : (m : Meaning) (s : Scope) (k i : ℕ) (d e : DomainSyntax) → slice_get s.own i ≡ Some d
    → slice_get s.own (reached (leads s) k i) ≡ Some e → StandsFor m s e.kind → StandsFor m s d.kind
unfolding reached
along m s zero i d e at end h =
    subst (λ (x : DomainSyntax). StandsFor m s x.kind) (one_item (slice_get s.own i) e d end at) h
along m s (suc k) i d e at end h = by_step (λ j x a b. along m s k j x e a b h) (leads s i) refl
  where
    by_step : ((j : ℕ) (x : DomainSyntax) → slice_get s.own j ≡ Some x
        → slice_get s.own (reached (leads s) k j) ≡ Some e → StandsFor m s x.kind)
        → (o : Option ℕ) → leads s i ≡ o → StandsFor m s d.kind
    by_step again None q =
        again i d at
        (ap (λ (o : Option ℕ). slice_get s.own (reached (leads s) k (unwrap_or o i))) (sym q) ∙ end)
    by_step again (Some j) q =
        let w = leads_name s i j q in
        let same_domain : w.domain ≡ d = one_item (slice_get s.own i) w.domain d w.declared at in
        let named : name_alone d.kind ≡ Some w.name = ap (λ (x : DomainSyntax). name_alone x.kind)
        (sym same_domain) ∙ ap name_alone w.kind in
        let out : is_among w.name.text (names_of s.above)
        ≡ false = not_among w.name.text (names_of s.above)
        (λ c. w.here (contains (names_of s.above) w.name.text c)) in
        let x = item_at s.own j (placed_below w.name.text s.own j w.first) in
        as_declared s d.kind w.name j x.0 named out w.first x.1
        (again j x.0 x.1
        (ap (λ (o : Option ℕ). slice_get s.own (reached (leads s) k (unwrap_or o i))) (sym q)
        ∙ end))

followed_stands : (look : List ℕ → Option Meaning) (m : Meaning) (s : Scope) (name : List ℕ)
    → ((n : Ident) → look n.text ≡ Some m → NameStands m s n.text)
    → is_among name (names_of s.above) ≡ false
    → followed look s name ≡ Some m → NameStands m s name
followed_stands look m s name further out e n t at q = by_place (place name (names_of s.own)) refl e
  where
    by_end : (i : ℕ) → place name (names_of s.own) ≡ Some i → (o : Option DomainSyntax)
        → slice_get s.own (reached (leads s) longest i) ≡ o
        → option_and_then (written look s) (option_map (λ x. x.kind) o) ≡ Some m → StandsFor m s t
    by_end i p None r h = no_some m h
    by_end i p (Some x) r h =
        let d = item_at s.own i (placed_below name s.own i p) in
        as_declared s t n i d.0 q (ap (λ (l : List ℕ). is_among l (names_of s.above)) at ∙ out)
        (ap (λ (l : List ℕ). place l (names_of s.own)) at ∙ p) d.1
        (along m s longest i d.0 x d.1 r (written_stands look m s x.kind further h))

    by_place : (o : Option ℕ) → place name (names_of s.own) ≡ o
        → option_and_then (written look s) (option_and_then (last_type s) o) ≡ Some m
        → StandsFor m s t
    by_place None p h = no_some m h
    by_place (Some i) p h = by_end i p (slice_get s.own (reached (leads s) longest i)) refl h

outside_stands : (m : Meaning) (ds : List DomainSyntax) (name : List ℕ)
    → meaning_outside ds name ≡ Some m → NameStands m (outside ds) name
outside_stands m ds name e =
    followed_stands (λ _. None) m (outside ds) name (λ n h. no_some m h) refl e

-- a name that is found outside is declared there
outside_among : (m : Meaning) (ds : List DomainSyntax) (name : List ℕ)
    → meaning_outside ds name ≡ Some m → is_among name (names_of ds) ≡ true
outside_among m ds name e = by_place (place name (names_of ds)) refl e
  where
    by_place : (o : Option ℕ) → place name (names_of ds) ≡ o
        → option_and_then (written (λ _. None) (outside ds))
        (option_and_then (last_type (outside ds)) o) ≡ Some m
        → is_among name (names_of ds) ≡ true
    by_place None p h = no_some m h
    by_place (Some i) p h = among_placed (same name) 0 (names_of ds)
        ∙ ap (λ (o : Option ℕ). is_some o) p

further_stands : (m : Meaning) (s : Scope) (name : List ℕ) → meaning_outside s.above name ≡ Some m
    → NameStands m s name
further_stands m s name e n t at q =
    as_outside s t n q (ap (λ (l : List ℕ). is_among l (names_of s.above)) at
    ∙ outside_among m s.above name e) (outside_stands m s.above name e n t at q)

pub meaning_stands : (m : Meaning) (s : Scope) (name : List ℕ) → meaning s name ≡ Some m
    → NameStands m s name
meaning_stands m s name e = by_among (is_among name (names_of s.above)) refl e
  where
    by_among : (b : Bool) → is_among name (names_of s.above) ≡ b
        → cond b (meaning_outside s.above name) (followed (meaning_outside s.above) s name) ≡ Some m
        → NameStands m s name
    by_among true q h = further_stands m s name h
    by_among false q h =
        followed_stands (meaning_outside s.above) m s name (λ n g. further_stands m s n.text g) q h

pub meant_stands : (m : Meaning) (s : Scope) (t : TypeSyntax) → meant s t ≡ Some m → StandsFor m s t
meant_stands m s t e = written_stands (meaning s) m s t (λ n h. meaning_stands m s n.text h) e

-- ---- what a type stands for is found
-- no more domains than a way may have steps
pub record AreShort (s : Scope) : Type 0 where
  pub above : length s.above ≤ longest
  pub own : length s.own ≤ longest

short_outside : (s : Scope) → AreShort s → AreShort (outside s.above)
short_outside s f = record { above = omega arith; own = f.above }

-- the way from a domain ends at one whose type gives what is meant
record EndsAt (m : Meaning) (s : Scope) (i : ℕ) : Type 0 where
  steps : ℕ
  end : ℕ
  last : DomainSyntax
  reaches : reached (leads s) steps i ≡ end
  stops : leads s end ≡ None
  declared : slice_get s.own end ≡ Some last
  gives : written (meaning_outside s.above) s last.kind ≡ Some m

found_by_name : (s : Scope) (t : TypeSyntax) (n : Ident) → name_alone t ≡ Some n
    → meant s t ≡ meaning s n.text
found_by_name s t n q =
    ap (λ (o : Option Ident). option_map_or (λ k. meaning s k.text) o
    (Some (record { scope = s; kind = t }))) q

found_outside : (s : Scope) (n : List ℕ) → is_among n (names_of s.above) ≡ true
    → meaning s n ≡ meaning_outside s.above n
found_outside s n a =
    ap (λ (b : Bool). cond b (meaning_outside s.above n) (followed (meaning_outside s.above) s n)) a

found_here : (s : Scope) (n : List ℕ) → is_among n (names_of s.above) ≡ false
    → meaning s n ≡ followed (meaning_outside s.above) s n
found_here s n a =
    ap (λ (b : Bool). cond b (meaning_outside s.above n) (followed (meaning_outside s.above) s n)) a

mutual
  unfolding reached

  ends_at : (m : Meaning) (s : Scope) (t : TypeSyntax) → StandsFor m s t → AreShort s
      → (i : ℕ) (d : DomainSyntax) → slice_get s.own i ≡ Some d → d.kind ≡ t → EndsAt m s i
  ends_at m _ _ (as_written s t q e) f i d at k =
      let alone : name_alone d.kind ≡ None = ap name_alone k ∙ q in
      record {
        steps = 0;
        end = i;
        last = d;
        reaches = refl;
        declared = at;
        stops = step_at s i d at
            ∙ ap (λ (o : Option Ident). option_and_then
            (declared_in (names_of s.above) (names_of s.own)) o) alone;
        gives = ap (written (meaning_outside s.above) s) k
            ∙ ap (λ (o : Option Ident). option_map_or (λ n. meaning_outside s.above n.text) o
            (Some (record { scope = s; kind = t }))) q ∙ ap (λ (x : Meaning). Some x) (sym e);
      }
  ends_at m _ _ (as_outside s t n q a h) f i d at k =
      let alone : name_alone d.kind ≡ Some n = ap name_alone k ∙ q in
      record {
        steps = 0;
        end = i;
        last = d;
        reaches = refl;
        declared = at;
        stops = step_at s i d at
            ∙ ap (λ (o : Option Ident). option_and_then
            (declared_in (names_of s.above) (names_of s.own)) o) alone
            ∙ ap (λ (b : Bool). cond b None (place n.text (names_of s.own))) a;
        gives = ap (λ (o : Option Ident). option_map_or (λ x. meaning_outside s.above x.text) o
            (Some (record { scope = s; kind = d.kind }))) alone
            ∙ sym (found_by_name (outside s.above) t n q)
            ∙ stands_meant m (outside s.above) t h (short_outside s f);
      }
  ends_at m _ _ (as_declared s t n j x q out p there h) f i d at k =
      let w = ends_at m s x.kind h f j x there refl in
      let goes : leads s i ≡ Some j = leads_named s i j d n at (ap name_alone k ∙ q) out p in
      record {
        steps = suc w.steps;
        end = w.end;
        last = w.last;
        declared = w.declared;
        stops = w.stops;
        gives = w.gives;
        reaches = ap (λ (o : Option ℕ). reached (leads s) w.steps (unwrap_or o i)) goes ∙ w.reaches;
      }

  pub stands_meant : (m : Meaning) (s : Scope) (t : TypeSyntax) → StandsFor m s t → AreShort s
      → meant s t ≡ Some m
  stands_meant m _ _ (as_written s t q e) f =
      ap (λ (o : Option Ident). option_map_or (λ n. meaning s n.text) o
      (Some (record { scope = s; kind = t }))) q ∙ ap (λ (x : Meaning). Some x) (sym e)
  stands_meant m _ _ (as_outside s t n q a h) f =
      found_by_name s t n q ∙ found_outside s n.text a ∙ sym (found_by_name (outside s.above) t n q)
      ∙ stands_meant m (outside s.above) t h (short_outside s f)
  stands_meant m _ _ (as_declared s t n i d q out p at h) f =
      let w = ends_at m s d.kind h f i d at refl in
      let far : reached (leads s) longest i
      ≡ w.end = ended (leads s) (length s.own) longest w.steps i w.end (leads_within s) f.own
      (item_below s.own i d at) w.reaches w.stops in
      found_by_name s t n q ∙ found_here s n.text out
      ∙ ap (λ (o : Option ℕ). option_and_then (written (meaning_outside s.above) s)
      (option_and_then (last_type s) o)) p
      ∙ ap (λ (x : ℕ). option_and_then (written (meaning_outside s.above) s)
      (option_map (λ y. y.kind) (slice_get s.own x))) far
      ∙ ap (λ (o : Option DomainSyntax). option_and_then (written (meaning_outside s.above) s)
      (option_map (λ y. y.kind) o)) w.declared
      ∙ w.gives

-- ---- tests of what an attribute stands for
pub test_means : (test : TypeSyntax → Bool) (s : Scope) (c : Content) → stands_for test s c ≡ true
    → Means test s c
test_means test s (Reference n) e = true≢false (sym e)
test_means test s (Value t) e = by_meaning (meant s t) refl e
  where
    by_meaning : (o : Option Meaning) → meant s t ≡ o
        → option_map_or (λ m. test m.kind) o false ≡ true → Means test s (Value t)
    by_meaning None q h = absurd (true≢false (sym h))
    by_meaning (Some m) q h = (m, meant_stands m s t q, h)

pub means_test : (test : TypeSyntax → Bool) (s : Scope) (c : Content) → AreShort s → Means test s c
    → stands_for test s c ≡ true
means_test test s (Reference n) f h = absurd h
means_test test s (Value t) f (m, h, e) =
    ap (λ (o : Option Meaning). option_map_or (λ x. test x.kind) o false) (stands_meant m s t h f)
    ∙ e
