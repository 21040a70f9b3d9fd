-- The types of numbers have one span each.
use Rattle.std.proofs.Common.{◌≡◌, ◌⊎◌, inl, inr, [], ◌∷◌, ap, ◌∙◌}
use denote.Hole.Carrier.{roll}
use Rattle.ili_grammar.specs.declared.syntax.Content.TheOpen as opened
use Rattle.ili_grammar.specs.declared.syntax.Content.TheViews.{roll-TypeSyntax}
use Rattle.ili_grammar.specs.declared.syntax.Content.TheFolds.{fold-roll-TypeSyntax}
use Rattle.ili_grammar.specs.declared.syntax.Span as span
use Rattle.ili_grammar.specs.declared.syntax.TypeSyntax as kind
use Rattle.ili_grammar.specs.declared.syntax.TypeSyntax.TheVariants as kinds
use Rattle.ili_grammar.specs.Syntax.{TypeSyntax, LineSyntax, AttributeSyntax, Content, Dim1, Dim2}
use Rattle.ili_grammar.specs.Syntax.{Radians, Grads, Degrees, Range}
use Rattle.ili_grammar.specs.Values.{type_of, span_of, content_step, type_step, attribute_step}
use Rattle.ili_grammar.specs.Values.{line_step}
use Rattle.resolver.specs.Numbers.{spans}

-- a type as it is kept, seen by one step
seen : (k : kind.TypeSyntax) (t : TypeSyntax) (l : kind.TypeSyntax) → k ≡ l → type_of l ≡ t
    → spans (type_of k) ≡ spans t
seen k t l e f = ap (λ (x : kind.TypeSyntax). spans (type_of x)) e ∙ ap spans f

pub one_span : (k : kind.TypeSyntax) (s : span.Span)
    → (k ≡ kinds.Dim1 s)
    ⊎ ((k ≡ kinds.Dim2 s)
    ⊎ ((k ≡ kinds.Radians s)
    ⊎ ((k ≡ kinds.Grads s) ⊎ ((k ≡ kinds.Degrees s) ⊎ (k ≡ kinds.Range s)))))
    → spans (type_of k) ≡ span_of s ∷ []
unfolding roll-TypeSyntax roll
one_span k s (inl e) =
    seen k (Dim1 (span_of s)) _ e
    (fold-roll-TypeSyntax Content TypeSyntax AttributeSyntax LineSyntax content_step type_step
    attribute_step line_step (opened.Dim1 s))
one_span k s (inr (inl e)) =
    seen k (Dim2 (span_of s)) _ e
    (fold-roll-TypeSyntax Content TypeSyntax AttributeSyntax LineSyntax content_step type_step
    attribute_step line_step (opened.Dim2 s))
one_span k s (inr (inr (inl e))) =
    seen k (Radians (span_of s)) _ e
    (fold-roll-TypeSyntax Content TypeSyntax AttributeSyntax LineSyntax content_step type_step
    attribute_step line_step (opened.Radians s))
one_span k s (inr (inr (inr (inl e)))) =
    seen k (Grads (span_of s)) _ e
    (fold-roll-TypeSyntax Content TypeSyntax AttributeSyntax LineSyntax content_step type_step
    attribute_step line_step (opened.Grads s))
one_span k s (inr (inr (inr (inr (inl e))))) =
    seen k (Degrees (span_of s)) _ e
    (fold-roll-TypeSyntax Content TypeSyntax AttributeSyntax LineSyntax content_step type_step
    attribute_step line_step (opened.Degrees s))
one_span k s (inr (inr (inr (inr (inr e))))) =
    seen k (Range (span_of s)) _ e
    (fold-roll-TypeSyntax Content TypeSyntax AttributeSyntax LineSyntax content_step type_step
    attribute_step line_step (opened.Range s))
