-- The leaves of enumerations, one element after the other.
use Rattle.std.proofs.Common.{◌≡◌, ℕ, ◌+◌, ◌≤◌, ◌<◌, List, length, drop, get_or, max, arith, ap}
use Rattle.std.proofs.Common.{sym, subst}
use Rattle.ili_grammar.specs.declared.syntax.Element as element
use Rattle.ili_grammar.specs.declared.syntax.Element.TheViews.{out-Element}
use Rattle.ili_grammar.specs.Syntax.{Element, an_element, Elements, no_elements, and_element}
use Rattle.ili_grammar.specs.Syntax.{TypeSyntax, Enumeration}
use Rattle.ili_grammar.specs.Limits.{element_names, elements_names, type_names}
use Rattle.ili_grammar.specs.Values.{element_of, elements_of}
use Rattle.resolver.specs.Models.{form}
use Rattle.resolver.specs.Numbers.{counted_leaves, leaves, leaves_in}
use Rattle.resolver.specs.Resolved as resolved
use Rattle.resolver.proofs.ListLemmas.Folds.{list_from}
use Rattle.resolver.proofs.BuildLemmas.Types.{element_out}

mutual
  -- each leaf has a name
  pub leaves_named : (es : Elements) → leaves es ≤ elements_names es
  leaves_named no_elements = omega arith
  leaves_named (and_element e es) = omega (arith, leaf_named e, leaves_named es)

  pub leaf_named : (e : Element) → leaves_in e ≤ element_names e
  leaf_named (an_element n es) = omega (arith, leaves_named es)

-- one more element of a list
pub leaves_behind : (i : ℕ) (xs read : List element.Element) (x : element.Element) → read ≡ xs
    → i < length read → x ≡ get_or read i x
    → leaves (elements_of (drop i xs))
    ≡ leaves_in (element_of x) + leaves (elements_of (drop (i + 1) xs))
leaves_behind i xs read x r lt at =
    ap (λ (l : List element.Element). leaves (elements_of l)) (list_from i xs read x r lt at)

-- the leaves of an element, its parts counted
pub leaves_out : (e : element.Element)
    → leaves_in (element_of e) ≡ max 1 (leaves (elements_of (out-Element e).parts.items))
leaves_out e = ap (λ (x : Element). leaves_in x) (element_out e)

-- an enumeration with few names has the leaves that were counted
pub counted_form : (t : TypeSyntax) (es : Elements) (n : ℕ) → t ≡ Enumeration es
    → n ≡ counted_leaves t → type_names t ≤ 4194304 → resolved.Enumeration n ≡ form t
counted_form t es n e counted few =
    subst (λ (k : TypeSyntax). n ≡ counted_leaves k → type_names k ≤ 4194304
    → resolved.Enumeration n ≡ form k) (sym e)
    (λ c f. ap (λ (m : ℕ). resolved.Enumeration m) (omega (arith, c, f, leaves_named es))) counted
    few
