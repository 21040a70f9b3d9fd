-- Attributes that are resolved one after the other.
use Rattle.std.proofs.Common.{◌≡◌, ℕ, ◌+◌, ◌<◌, ◌≤◌, List, [], ◌∷◌, ◌++◌, map, length, drop, get_or}
use Rattle.std.proofs.Common.{refl, ap, ◌∙◌}
use Rattle.ili_grammar.specs.declared.syntax.AttributeSyntax as written
use Rattle.ili_grammar.specs.Syntax.{AttributeSyntax, Attributes, no_attributes, and_attribute}
use Rattle.ili_grammar.specs.Values.{attribute_of, attributes_of}
use Rattle.resolver.specs.declared.models.Attribute as attribute
use Rattle.resolver.specs.Resolved as resolved
use Rattle.resolver.specs.Values.{attributes_in, attribute_of as resolved_attribute}
use Rattle.resolver.specs.Values.{attributes_of as resolved_attributes}
use Rattle.resolver.specs.Sound.{listed}
use Rattle.resolver.proofs.ListLemmas.Folds.{next_viewed, all_pushed}

-- one more attribute is resolved
pub next_resolved : (f : AttributeSyntax → resolved.Attribute) (g : Attributes
    → resolved.Attributes) (i : ℕ) (xs : List written.AttributeSyntax) (x : written.AttributeSyntax)
    (done more : List attribute.Attribute) (a : attribute.Attribute)
    → ((t : AttributeSyntax) (rest : Attributes)
    → g (and_attribute t rest) ≡ resolved.and_attribute (f t) (g rest)) → i < length xs
    → x ≡ get_or xs i x → more ≡ done ++ (a ∷ []) → resolved_attribute a ≡ f (attribute_of x)
    → map resolved_attribute more ++ listed (g (attributes_of (drop (i + 1) xs)))
    ≡ map resolved_attribute done ++ listed (g (attributes_of (drop i xs)))
next_resolved f g i xs x done more a step lt at e same =
    next_viewed (λ (l : List written.AttributeSyntax). listed (g (attributes_of l)))
    resolved_attribute i xs xs x done more a (f (attribute_of x))
    (λ rest. ap listed (step (attribute_of x) (attributes_of rest))) refl lt at e same

listed_back : (as_ : resolved.Attributes) → attributes_in (listed as_) ≡ as_
listed_back resolved.no_attributes = refl
listed_back (resolved.and_attribute a as_) =
    ap (λ (t : resolved.Attributes). resolved.and_attribute a t) (listed_back as_)

-- all are
pub all_resolved : (g : Attributes → resolved.Attributes) (i : ℕ)
    (xs : List written.AttributeSyntax) (done : List attribute.Attribute)
    → g no_attributes ≡ resolved.no_attributes → length xs ≤ i
    → map resolved_attribute done ++ listed (g (attributes_of (drop i xs)))
    ≡ listed (g (attributes_of xs)) → resolved_attributes done ≡ g (attributes_of xs)
all_resolved g i xs done none le e =
    ap attributes_in
    (all_pushed (λ (l : List written.AttributeSyntax). listed (g (attributes_of l))) i xs
    (map resolved_attribute done) (ap listed none) le e) ∙ listed_back (g (attributes_of xs))
