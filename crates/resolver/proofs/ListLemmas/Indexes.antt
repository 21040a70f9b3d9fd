-- Places of names in a list.
use Rattle.std.proofs.Common.{◌≡◌, ℕ, suc, zero, ◌+◌, ◌<◌, ◌≤◌, Bool, true, false, cond, nat_eq}
use Rattle.std.proofs.Common.{nat_lt, ◌||◌, List, [], ◌∷◌, ◌++◌, length, take, drop, get_or, Option}
use Rattle.std.proofs.Common.{Some, refl, sym, ap, ◌∙◌, arith, add-one, zero-add, drop-cons}
use Rattle.std.specs.Borrow.{Bor}
use Rattle.std.specs.List.{list_any, position_from}
use Rattle.std.specs.Option.{option_map_or, is_some}
use Rattle.std.specs.Cmp.Lexicographic.{pointwise, nat_list_eq_equiv}
use Rattle.ili_grammar.specs.declared.syntax.Ident as ident
use Rattle.resolver.specs.Scopes.{same}
use Rattle.resolver.specs.Scopes.{texts}
use Rattle.resolver.specs.Indexed.{idents}

-- the name at i is put in front of the names behind it
pub place_down : (name key : List ℕ) (i p : ℕ) (ns : List (Bor ident.Ident)) (n : Bor ident.Ident)
    (got new : Option ℕ)
    → p ≡ i + 1 → i < length ns → n ≡ get_or ns i n → key ≡ n.now.text
    → got ≡ position_from (same name) p (texts (idents (drop p ns)))
    → new ≡ cond (pointwise nat_eq key name) (Some i) got
    → new ≡ position_from (same name) i (texts (idents (drop i ns)))
place_down name key i p ns n got new e lt at k g u =
    let d : drop i ns ≡ n ∷ drop p ns = drop-cons ns i n lt
    ∙ ap (λ (x : Bor ident.Ident). x ∷ drop (suc i) ns) (sym at)
    ∙ ap (λ (q : ℕ). n ∷ drop q ns) (sym (e ∙ add-one i)) in
    u ∙ ap (λ (t : Bool). cond t (Some i) got) (nat_list_eq_equiv.symm key name ∙ ap (same name) k)
    ∙ ap (λ (o : Option ℕ). cond (same name n.now.text) (Some i) o) (g
    ∙ ap (λ (q : ℕ). position_from (same name) q (texts (idents (drop p ns)))) e)
    ∙ ap (λ (l : List (Bor ident.Ident)). position_from (same name) i (texts (idents l))) (sym d)

-- a name is among some where it has a place
pub among_place : (test : List ℕ → Bool) (j : ℕ) (ns : List (List ℕ))
    → list_any test ns ≡ is_some (position_from test j ns)
among_place test j [] = refl
among_place test j (n ∷ ns) =
    elim (test n) as (λ b. (b || list_any test ns)
    ≡ is_some (cond b (Some j) (position_from test (j + 1) ns))) [
      | true ↦ refl
      | false ↦ among_place test (j + 1) ns
    ]

-- a place is not before the first that is counted
pub place_from : (test : List ℕ → Bool) (j k : ℕ) (ns : List (List ℕ)) → k ≤ j
    → option_map_or (λ p. nat_lt p k) (position_from test j ns) false ≡ false
place_from test j k [] le = refl
place_from test j k (n ∷ ns) le =
    elim (test n) as
    (λ b. option_map_or (λ p. nat_lt p k) (cond b (Some j) (position_from test (j + 1) ns)) false
    ≡ false)
    [ true ↦ grind arith | false ↦ place_from test (j + 1) k ns (omega arith) ]

-- a name is among the first i where its place is below i
pub among_take : (test : List ℕ → Bool) (j i : ℕ) (ns : List (List ℕ))
    → list_any test (take i ns) ≡ option_map_or (λ p. nat_lt p (j + i))
    (position_from test j ns) false
among_take test j zero [] = refl
among_take test j (suc i) [] = refl
among_take test j zero (n ∷ ns) = sym (place_from test j (j + 0) (n ∷ ns) (omega arith))
among_take test j (suc i) (n ∷ ns) =
    elim (test n) as (λ b. (b || list_any test (take i ns))
    ≡ option_map_or (λ p. nat_lt p (j + suc i))
    (cond b (Some j) (position_from test (j + 1) ns)) false) [
      | true ↦ grind arith
      | false ↦ among_take test (j + 1) i ns
          ∙ ap (λ (q : ℕ). option_map_or (λ p. nat_lt p q) (position_from test (j + 1) ns) false)
          (omega arith)
    ]

pub any_append : (test : List ℕ → Bool) (xs ys : List (List ℕ))
    → list_any test (xs ++ ys) ≡ (list_any test xs || list_any test ys)
any_append test [] ys = refl
any_append test (x ∷ xs) ys =
    elim (test x) as (λ b. (b || list_any test (xs ++ ys))
    ≡ ((b || list_any test xs) || list_any test ys)) [ true ↦ refl | false ↦ any_append test xs ys ]

pub among_first : (test : List ℕ → Bool) (i : ℕ) (ns : List (List ℕ))
    → list_any test (take i ns) ≡ option_map_or (λ p. nat_lt p i) (position_from test 0 ns) false
among_first test i ns = among_take test 0 i ns
    ∙ ap (λ (q : ℕ). option_map_or (λ p. nat_lt p q) (position_from test 0 ns) false) (zero-add i)
