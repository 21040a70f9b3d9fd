-- Names that are kept once, and the names that stand before others.
use Rattle.std.proofs.Common.{◌≡◌, ℕ, Bool, true, false, cond, ◌||◌, List, [], ◌∷◌, ◌++◌, Option}
use Rattle.std.proofs.Common.{refl, ap, sym, ◌∙◌, nat_eq, append_assoc}
use Rattle.std.specs.Cmp.Lexicographic.{pointwise, nat_list_eq_equiv}
use Rattle.indexmap.specs.IndexSet.{insert_key}
use Rattle.ili_grammar.specs.Syntax.{Ident}
use Rattle.resolver.specs.declared.faults.ModelCode.TheVariants as code
use Rattle.resolver.specs.Faults.{Fault, first_from, fault_if}
use Rattle.resolver.specs.Scopes.{same, is_among}
use Rattle.resolver.specs.Rules.{Entry, twice}
use Rattle.resolver.proofs.ListLemmas.Folds.{first_append}
use Rattle.resolver.proofs.ListLemmas.Indexes.{any_append}

pub among_same : (q k : List ℕ) (ks : List (List ℕ)) → same q k ≡ true
    → is_among q ks ≡ is_among k ks
among_same q k [] e = refl
among_same q k (x ∷ ks) e = ap (λ (b : Bool). b || is_among q ks) (nat_list_eq_equiv.congr q k x e)
    ∙ ap (λ (b : Bool). same k x || b) (among_same q k ks e)

pub or-here : (a b : Bool) → (b ≡ true → a ≡ true) → a ≡ (a || (b || false))
or-here true b h = refl
or-here false true h = h refl
or-here false false h = refl

-- a name that is kept once is among the same names as one that is put behind them
pub among_insert : (ks : List (List ℕ)) (k q : List ℕ)
    → is_among q (insert_key (pointwise nat_eq) ks k) ≡ is_among q (ks ++ (k ∷ []))
among_insert ks k q = by (is_among k ks) refl
  where
    by : (b : Bool) → is_among k ks ≡ b
        → is_among q (cond b ks (ks ++ (k ∷ []))) ≡ is_among q (ks ++ (k ∷ []))
    by true e = or-here (is_among q ks) (same q k) (λ h. among_same q k ks h ∙ e)
        ∙ sym (any_append (same q) ks (k ∷ []))
    by false e = refl

pub twice_alike : (b d : List (List ℕ)) (es : List Entry)
    → ((q : List ℕ) → is_among q b ≡ is_among q d) → twice b es ≡ twice d es
twice_alike b d [] h = refl
twice_alike b d (e ∷ es) h =
    ap (λ (t : Bool). fault_if t code.Twice e.name ++ twice (b ++ (e.key ∷ [])) es) (h e.key)
    ∙ ap (λ (fs : List Fault). fault_if (is_among e.key d) code.Twice e.name ++ fs)
    (twice_alike (b ++ (e.key ∷ [])) (d ++ (e.key ∷ [])) es (λ q. any_append (same q) b (e.key ∷ [])
    ∙ ap (λ (t : Bool). t || is_among q (e.key ∷ [])) (h q)
    ∙ sym (any_append (same q) d (e.key ∷ []))))

-- one more name was judged, and is kept
pub key_told : (before kept : List (List ℕ)) (key : List ℕ) (name : Ident)
    (best after : Option Fault) (rest : List Entry)
    → after ≡ first_from best (fault_if (is_among key before) code.Twice name)
    → kept ≡ insert_key (pointwise nat_eq) before key
    → first_from after (twice kept rest)
    ≡ first_from best (twice before (record { key = key; name = name } ∷ rest))
key_told before kept key name best after rest t k =
    ap (λ (o : Option Fault). first_from o (twice kept rest)) t
    ∙ ap (λ (l : List (List ℕ)). first_from
    (first_from best (fault_if (is_among key before) code.Twice name)) (twice l rest)) k
    ∙ ap (first_from (first_from best (fault_if (is_among key before) code.Twice name)))
    (twice_alike (insert_key (pointwise nat_eq) before key) (before ++ (key ∷ [])) rest
    (λ q. among_insert before key q))
    ∙ sym (first_append best (fault_if (is_among key before) code.Twice name)
    (twice (before ++ (key ∷ [])) rest))

-- one more part of a list of names was judged
pub entries_told : (here behind rest : List Entry) (kept before : List (List ℕ))
    (best after : Option Fault)
    → ((more : List Entry) → first_from after (twice kept more)
    ≡ first_from best (twice before (here ++ more)))
    → first_from after (twice kept (behind ++ rest))
    ≡ first_from best (twice before ((here ++ behind) ++ rest))
entries_told here behind rest kept before best after h =
    h (behind ++ rest)
    ∙ ap (λ (l : List Entry). first_from best (twice before l))
    (sym (append_assoc here behind rest))
