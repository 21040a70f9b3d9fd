-- The list of faults has exactly the rules that are broken, and the fault that counts is the first
-- of them.
use Rattle.std.proofs.Common.{◌≡◌, List, [], Option, Some, None, refl, sym, subst, arith}
use Rattle.std.specs.Prelude.{Contains}
use Rattle.std.proofs.lemmas.List.Elements.{All-contains}
use Rattle.ili_grammar.specs.Limits.{IsWithinLimits}
use Rattle.resolver.specs.Limits.{IsBoundedTopic}
use Rattle.resolver.proofs.BuildLemmas.Within.{bounded_everywhere, bounded_topics}
use Rattle.ili_grammar.specs.Syntax.{Ident, ModelSyntax}
use Rattle.ili_grammar.specs.Values.{ident_of}
use Rattle.resolver.specs.declared.faults.ModelCode.{ModelCode}
use Rattle.resolver.specs.declared.faults.ModelFault.{ModelFault}
use Rattle.resolver.specs.declared.faults.ModelFault.TheVariants.{At, Memory}
use Rattle.resolver.specs.Faults.{Fault, NamesFault}
use Rattle.resolver.specs.First.{IsLeast, IsFirstBroken, BreaksNone, NamesFirstBroken}
use Rattle.resolver.specs.Rules.{faults, first_fault}
use Rattle.resolver.specs.Scopes.{Scope, longest, everywhere, inside}
use Rattle.resolver.specs.Occurring.{IsScope, of_model, of_topic}
use Rattle.resolver.specs.Breaking.{Breaks}
use Rattle.resolver.proofs.ListLemmas.Members.{in_contained, contains}
use Rattle.resolver.proofs.RuleLemmas.Meant.{AreShort}
use Rattle.resolver.proofs.RuleLemmas.Least.{least}
use Rattle.resolver.proofs.SoundLemmas.NoFault.{none_broken}
use Rattle.resolver.proofs.RuleLemmas.ListedRules.{listed_broken}
use Rattle.resolver.proofs.RuleLemmas.BrokenRules.{broken_listed}

-- a model within the limits has no more domains than a way may have steps
abbrev pub AreAllShort : ModelSyntax → Type 0
AreAllShort m = (s : Scope) → IsScope m s → AreShort s

pub listed_is_broken : (m : ModelSyntax) (c : ModelCode) (n : Ident) → AreAllShort m
    → Contains (faults m) (record { code = c; name = n }) → Breaks m c n
listed_is_broken m c n short h =
    listed_broken m (record { code = c; name = n })
    (λ t k. short (inside (everywhere m) t) (of_topic (inside (everywhere m) t) t k refl))
    (in_contained (faults m) (record { code = c; name = n }) h)

pub broken_is_listed : (m : ModelSyntax) (c : ModelCode) (n : Ident) → AreAllShort m → Breaks m c n
    → Contains (faults m) (record { code = c; name = n })
broken_is_listed m c n short h =
    contains (faults m) (record { code = c; name = n }) (broken_listed m c n short h)

pub first_broken : (m : ModelSyntax) (f : Fault) → AreAllShort m → first_fault m ≡ Some f
    → IsFirstBroken m f
first_broken m f short e =
    let w : IsLeast (faults m) f = least (faults m) f e in
    record {
      broken = listed_is_broken m f.code f.name short w.listed;
      first = λ g b c. w.first g (broken_is_listed m g.code g.name short b) c;
    }

-- an answer that names the fault that counts names the first broken rule
pub first_named : (m : ModelSyntax) (f : ModelFault) → AreAllShort m → NamesFault f (first_fault m)
    → NamesFirstBroken m f
first_named m (At code name) short e =
    first_broken m (record { code = code; name = ident_of name }) short e
first_named m Memory short e = tt

pub none_is_broken : (m : ModelSyntax) → AreAllShort m → first_fault m ≡ None → BreaksNone m
none_is_broken m short e f b =
    none_listed f
    (subst (λ (l : List Fault). Contains l f) (none_broken (faults m) e)
    (broken_is_listed m f.code f.name short b))
  where
    none_listed : (f : Fault) → Contains [] f → ⊥
    none_listed f c = in_contained [] f c

pub none_counts : (m : ModelSyntax) → AreAllShort m → BreaksNone m → first_fault m ≡ None
none_counts m short none = by_fault (first_fault m) refl
  where
    by_fault : (o : Option Fault) → first_fault m ≡ o → first_fault m ≡ None
    by_fault None e = e
    by_fault (Some f) e = let w = first_broken m f short e in absurd (none f w.broken)

short_one : (m : ModelSyntax) (s : Scope) → IsWithinLimits m → IsScope m s → AreShort s
unfolding longest
short_one m _ w (of_model s e) =
    subst AreShort (sym e) (record { above = omega arith; own = (bounded_everywhere m w).few })
short_one m _ w (of_topic s t c e) =
    subst AreShort (sym e) (record {
      above = (bounded_everywhere m w).few;
      own = (All-contains IsBoundedTopic m.topics t (bounded_topics m w) c).domains.few;
    })

pub all_short : (m : ModelSyntax) → IsWithinLimits m → AreAllShort m
all_short m w s is = short_one m s w is
