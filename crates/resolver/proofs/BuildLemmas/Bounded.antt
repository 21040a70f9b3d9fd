-- Types, attributes and scopes as in a model that is read.
use Rattle.std.proofs.Common.{◌≡◌, ℕ, ◌+◌, ◌<◌, ◌≤◌, List, length, drop, get_or, Option, Some, refl}
use Rattle.std.proofs.Common.{ap, sym, ◌∙◌, subst, arith}
use Rattle.std.proofs.lemmas.List.{length-map}
use Rattle.std.specs.Option.{IfSome, option_map}
use denote.Hole.Carrier.{roll}
use Rattle.ili_grammar.specs.declared.syntax.AttributeSyntax as attribute
use Rattle.ili_grammar.specs.declared.syntax.LineSyntax as line
use Rattle.ili_grammar.specs.declared.syntax.Content as content
use Rattle.ili_grammar.specs.declared.syntax.Content.TheVariants as contents
use Rattle.ili_grammar.specs.declared.syntax.Content.TheOpen as opened
use Rattle.ili_grammar.specs.declared.syntax.Content.TheViews.{out-AttributeSyntax, out-LineSyntax}
use Rattle.ili_grammar.specs.declared.syntax.Content.TheViews.{roll-Content}
use Rattle.ili_grammar.specs.declared.syntax.Content.TheFolds.{fold-roll-Content}
use Rattle.ili_grammar.specs.declared.syntax.TypeSyntax as kind
use Rattle.ili_grammar.specs.Syntax.{Ident, AttributeSyntax, an_attribute, Attributes}
use Rattle.ili_grammar.specs.Syntax.{no_attributes, and_attribute, LineHead, LineSyntax, a_line}
use Rattle.ili_grammar.specs.Syntax.{Content, Value, TypeSyntax, DomainSyntax, TableSyntax}
use Rattle.ili_grammar.specs.Syntax.{TopicSyntax}
use Rattle.ili_grammar.specs.Limits.{IsSmallType, IsSmallLine, line_names, attributes_names}
use Rattle.ili_grammar.specs.Values.{ident_of, decimal_of, lists_of, attribute_of, attributes_of}
use Rattle.ili_grammar.specs.Values.{content_of, line_of, type_of, content_step, type_step}
use Rattle.ili_grammar.specs.Values.{attribute_step, line_step}
use Rattle.resolver.specs.declared.scope.Meaning as meanings
use Rattle.resolver.specs.Limits.{IsBounded, AreBounded, AreBoundedDomains, IsBoundedAttribute}
use Rattle.resolver.specs.Limits.{IsBoundedContent, IsBoundedScope, IsBoundedTopic}
use Rattle.resolver.specs.Rules.{attribute_names}
use Rattle.resolver.specs.Scopes.{Scope, Meaning, table_names, outside, inside, meaning, meant}
use Rattle.resolver.specs.ScopeViews.{meaning_of, scope_of}
use Rattle.resolver.proofs.ListLemmas.Folds.{list_from}
use Rattle.resolver.proofs.ScopeLemmas.Kept.{meaning_kept, meant_kept, meant_scoped}
use Rattle.resolver.proofs.BuildLemmas.Types.{attribute_out, line_out}

names_counted : (as_ : Attributes) → length (attribute_names as_) ≤ attributes_names as_
names_counted no_attributes = omega arith
names_counted (and_attribute (an_attribute n o c) as_) = omega (arith, names_counted as_)

pub few_named : (names : List Ident) (as_ : Attributes) → names ≡ attribute_names as_
    → AreBounded as_ → length names ≤ 4194304
few_named names as_ e m = omega (arith, ap length e, names_counted as_, m.names)

pub bounded_content : (a : attribute.AttributeSyntax) → IsBoundedAttribute (attribute_of a)
    → IsBoundedContent (content_of (out-AttributeSyntax a).content)
bounded_content a m = subst IsBoundedAttribute (attribute_out a) m

bounded_parts : (a : AttributeSyntax) (as_ : Attributes) → AreBounded (and_attribute a as_)
    → IsBoundedAttribute a × AreBounded as_
bounded_parts (an_attribute n o c) as_ m = (
  record { numbers = m.numbers.0; names = omega (arith, m.names) },
  record { numbers = m.numbers.1; names = omega (arith, m.names) },
)

pub bounded_behind : (i : ℕ) (xs : List attribute.AttributeSyntax) (x : attribute.AttributeSyntax)
    → i < length xs → x ≡ get_or xs i x → AreBounded (attributes_of (drop i xs))
    → IsBoundedAttribute (attribute_of x) × AreBounded (attributes_of (drop (i + 1) xs))
bounded_behind i xs x lt at m =
    bounded_parts (attribute_of x) (attributes_of (drop (i + 1) xs))
    (subst (λ (l : List attribute.AttributeSyntax). AreBounded (attributes_of l))
    (list_from i xs xs x refl lt at) m)

bounded_own : (head : LineHead) (as_ : Attributes) (lists : List (List Ident))
    → IsSmallLine (a_line head as_ lists) → line_names (a_line head as_ lists) ≤ 4194304
    → AreBounded as_
bounded_own head as_ lists s f = record { numbers = s.1; names = omega (arith, f) }

pub bounded_line : (l : line.LineSyntax) → IsSmallLine (line_of l)
    → line_names (line_of l) ≤ 4194304
    → AreBounded (attributes_of (out-LineSyntax l).attributes.items)
bounded_line l s f =
    bounded_own (record {
      straights = (out-LineSyntax l).straights;
      arcs = (out-LineSyntax l).arcs;
      vertex = ident_of (out-LineSyntax l).vertex;
      overlap = option_map decimal_of (out-LineSyntax l).overlap;
    })
    (attributes_of (out-LineSyntax l).attributes.items) (lists_of (out-LineSyntax l).idents.items)
    (subst IsSmallLine (line_out l) s)
    (subst (λ (k : LineSyntax). line_names k ≤ 4194304) (line_out l) f)

-- ---- scopes
pub bounded_outside : (ds : List DomainSyntax) → AreBoundedDomains ds → IsBoundedScope (outside ds)
bounded_outside ds b =
    record {
      above = record { each = λ i d lt. absurd (omega (arith, lt)); few = omega arith };
      own = b;
      tables = omega arith;
    }

pub bounded_inside : (above : List DomainSyntax) (t : TopicSyntax) → AreBoundedDomains above
    → IsBoundedTopic t → IsBoundedScope (inside above t)
bounded_inside above t a b = record {
  above = a;
  own = b.domains;
  tables = omega (
    arith,
    b.few,
    length-map (table_names t.tables) (λ (x : Ident). x.text),
    length-map t.tables (λ (x : TableSyntax). x.name),
  );
}

-- ---- what a name or a type stands for
pub name_small : (s : Scope) (name : List ℕ) (m : meanings.Meaning)
    → option_map meaning_of (Some m) ≡ meaning s name → IsBoundedScope s
    → IsSmallType (type_of m.counted.kind.now)
name_small s name m e b =
    let k : IfSome (meaning s name) (λ f. IsBounded f.kind) = meaning_kept IsBounded s name
    b.above.each b.own.each in
    (subst (λ (o : Option Meaning). IfSome o (λ f. IsBounded f.kind)) (sym e) k).numbers

pub type_bounded : (s : Scope) (t : TypeSyntax) (m : meanings.Meaning)
    → option_map meaning_of (Some m) ≡ meant s t → IsBoundedScope s → IsBounded t
    → IsBounded (type_of m.counted.kind.now)
type_bounded s t m e b k =
    subst (λ (o : Option Meaning). IfSome o (λ f. IsBounded f.kind)) (sym e)
    (meant_kept IsBounded s t b.above.each b.own.each k)

pub scope_bounded : (s : Scope) (t : TypeSyntax) (m : meanings.Meaning)
    → option_map meaning_of (Some m) ≡ meant s t → IsBoundedScope s
    → IsBoundedScope (scope_of m.scope)
scope_bounded s t m e b =
    subst (λ (o : Option Meaning). IfSome o (λ f. IsBoundedScope f.scope)) (sym e)
    (meant_scoped IsBoundedScope s t (bounded_outside s.above b.above) b)

pub value_bounded : (x : content.Content) (k : kind.TypeSyntax) → x ≡ contents.Value k
    → IsBoundedContent (content_of x) → IsBounded (type_of k)
unfolding roll-Content roll
value_bounded x k e b =
    let seen : content_of x ≡ Value (type_of k) = ap content_of e
    ∙ fold-roll-Content Content TypeSyntax AttributeSyntax LineSyntax content_step type_step
    attribute_step line_step (opened.Value k) in
    let v = subst IsBoundedContent seen b in
    record { numbers = v.numbers; names = v.names }
