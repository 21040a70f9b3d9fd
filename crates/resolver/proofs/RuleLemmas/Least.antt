-- The fault that counts is the least of the list.
use Rattle.std.proofs.Common.{◌≡◌, ◌⊎◌, inl, inr, Bool, true, false, cond, List, [], ◌∷◌, Option}
use Rattle.std.proofs.Common.{Some, None, refl, ap, sym, ◌∙◌, subst, arith, true≢false}
use Rattle.std.specs.Option.{unwrap_or, is_some}
use Rattle.std.proofs.lemmas.Bool.Decides.{nat_tests}
use Rattle.resolver.specs.Faults.{Fault, is_before, first_from}
use Rattle.resolver.specs.First.{ComesBefore, IsLeast}
use Rattle.resolver.proofs.ListLemmas.Members.{In, in_contained, contains}

-- ---- the order
comes : (f g : Fault) → ComesBefore f g → is_before f g ≡ true
comes f g h = grind (arith, nat_tests, h)

before_itself : (f : Fault) → ComesBefore f f → ⊥
before_itself f h = grind (arith, h)

then_before : (f best g : Fault) → is_before f best ≡ true → ComesBefore g f → ComesBefore g best
then_before f best g e h = grind (arith, nat_tests, e, h)

asymmetric : (f best : Fault) → is_before f best ≡ true → ComesBefore best f → ⊥
asymmetric f best e h = grind (arith, nat_tests, e, h)

-- ---- the least of the one so far and the others
record IsLeastOf (best : Fault) (fs : List Fault) (f : Fault) : Type 0 where
  listed : (best ≡ f) ⊎ In fs f
  before_best : ComesBefore best f → ⊥
  before_all : (g : Fault) → In fs g → ComesBefore g f → ⊥
  kept : (g : Fault) → ComesBefore g f → ComesBefore g best

least_of : (best : Fault) (fs : List Fault) (f : Fault) → first_from (Some best) fs ≡ Some f
    → IsLeastOf best fs f
least_of best [] f e =
    let same : best ≡ f = ap (λ (o : Option Fault). unwrap_or o best) e in
    subst (IsLeastOf best []) same (record {
      listed = inl refl;
      before_best = before_itself best;
      before_all = λ g h. absurd h;
      kept = λ g h. h;
    })
least_of best (x ∷ xs) f e = by_order (λ b h. least_of b xs f h) (is_before x best) refl e
  where
    by_order : ((b : Fault) → first_from (Some b) xs ≡ Some f → IsLeastOf b xs f) → (b : Bool)
        → is_before x best ≡ b → first_from (Some (cond b x best)) xs ≡ Some f
        → IsLeastOf best (x ∷ xs) f
    by_order again true q h =
        let w = again x h in
        record {
          listed = inr w.listed;
          before_best = λ c. asymmetric x best q (w.kept best c);
          before_all =
              λ g i. elim i as (λ _. ComesBefore g f
              → ⊥) [
                | inl at ↦ λ c. w.before_best (subst (λ (y : Fault). ComesBefore y f) (sym at) c)
                | inr rest ↦ w.before_all g rest
              ];
          kept = λ g c. then_before x best g q (w.kept g c);
        }
    by_order again false q h =
        let w = again best h in
        record {
          listed = elim w.listed as (λ _. (best ≡ f) ⊎ ((x ≡ f) ⊎ In xs f)) [
            | inl at ↦ inl at
            | inr rest ↦ inr (inr rest)
          ];
          before_best = w.before_best;
          before_all = λ g i. elim i as (λ _. ComesBefore g f → ⊥) [
            | inl at ↦ λ c. true≢false
                (sym (comes x best (w.kept x (subst (λ (y : Fault). ComesBefore y f) (sym at) c)))
                ∙ q)
            | inr rest ↦ w.before_all g rest
          ];
          kept = w.kept;
        }

pub least : (fs : List Fault) (f : Fault) → first_from None fs ≡ Some f → IsLeast fs f
least [] f e = absurd (true≢false (sym (ap (λ (o : Option Fault). is_some o) e)))
least (x ∷ xs) f e =
    let w = least_of x xs f e in
    record {
      listed = contains (x ∷ xs) f w.listed;
      first = λ g c. elim (in_contained (x ∷ xs) g c) as (λ _. ComesBefore g f
          → ⊥) [
            | inl at ↦ λ b. w.before_best (subst (λ (y : Fault). ComesBefore y f) (sym at) b)
            | inr rest ↦ w.before_all g rest
          ];
    }
