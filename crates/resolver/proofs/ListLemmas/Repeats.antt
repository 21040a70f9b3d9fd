-- Names that are declared twice, one name after the other.
use Rattle.std.proofs.Common.{◌≡◌, ℕ, ◌+◌, ◌<◌, Bool, List, [], ◌∷◌, ◌++◌, map, length, take, drop}
use Rattle.std.proofs.Common.{get_or, Option, sym, ap, ◌∙◌, add-one, append_assoc, take-suc, subst}
use Rattle.std.proofs.lemmas.List.{length-map}
use Rattle.std.proofs.Math.ListN.{get_or-map}
use Rattle.std.specs.Borrow.{Bor}
use Rattle.ili_grammar.specs.declared.syntax.Ident as ident
use Rattle.ili_grammar.specs.Syntax.{Ident}
use Rattle.ili_grammar.specs.Values.{ident_of}
use Rattle.resolver.specs.declared.faults.ModelCode.TheVariants as code
use Rattle.resolver.specs.Faults.{Fault, first_from, fault_if}
use Rattle.resolver.specs.Scopes.{is_among}
use Rattle.resolver.specs.Scopes.{texts}
use Rattle.resolver.specs.Rules.{twice, entry, Entry}
use Rattle.resolver.specs.Indexed.{idents}
use Rattle.resolver.proofs.ListLemmas.Folds.{first_append, list_behind}

pub names_before : (i : ℕ) (ns : List (Bor ident.Ident)) (n : Bor ident.Ident) → i < length ns
    → n ≡ get_or ns i n
    → take (i + 1) (texts (idents ns)) ≡ take i (texts (idents ns)) ++ (n.now.text ∷ [])
names_before i ns n lt at =
    let ts : List (List ℕ) = texts (idents ns) in
    let long : length ts ≡ length ns = length-map (idents ns) (λ (m : Ident). m.text)
    ∙ length-map ns (λ (m : Bor ident.Ident). ident_of m.now) in
    let here : get_or ts i n.now.text ≡ n.now.text =
    get_or-map (λ (m : Ident). m.text) (idents ns) i (ident_of n.now)
    ∙ ap (λ (m : Ident). m.text) (get_or-map (λ (m : Bor ident.Ident). ident_of m.now) ns i n)
    ∙ ap (λ (m : Bor ident.Ident). m.now.text) (sym at) in
    ap (λ (q : ℕ). take q ts) (add-one i)
    ∙ take-suc ts i n.now.text (subst (λ (q : ℕ). i < q) (sym long) lt)
    ∙ ap (λ (x : List ℕ). take i ts ++ (x ∷ [])) here

-- one more name is gone over, of a list that is read as another that is equal
pub twice_over : (above : List (List ℕ)) (i : ℕ) (items ns : List (Bor ident.Ident))
    (n : Bor ident.Ident) (best after : Option Fault) (again : Bool) (key : List ℕ)
    → items ≡ ns → i < length items → n ≡ get_or items i n → key ≡ n.now.text
    → again ≡ is_among key (above ++ take i (texts (idents ns)))
    → after ≡ first_from best (fault_if again code.Twice (ident_of n.now))
    → first_from after
    (twice (above ++ take (i + 1) (texts (idents ns))) (map entry (idents (drop (i + 1) ns))))
    ≡ first_from best
    (twice (above ++ take i (texts (idents ns))) (map entry (idents (drop i ns))))
twice_over above i items ns n best after again key s less found k a e =
    let lt : i < length ns = subst (λ (l : List (Bor ident.Ident)). i < length l) s less in
    let at : n ≡ get_or ns i n = found ∙ ap (λ (l : List (Bor ident.Ident)). get_or l i n) s in
    let before : List (List ℕ) = above ++ take i (texts (idents ns)) in
    let rest : List Entry = map entry (idents (drop (i + 1) ns)) in
    let known : again ≡ is_among n.now.text before = a ∙ ap (λ (b : List ℕ). is_among b before) k in
    let more : above ++ take (i + 1) (texts (idents ns))
    ≡ before ++ (n.now.text ∷ []) =
    ap (λ (l : List (List ℕ)). above ++ l) (names_before i ns n lt at)
    ∙ sym (append_assoc above (take i (texts (idents ns))) (n.now.text ∷ [])) in
    ap (λ (l : List (List ℕ)). first_from after (twice l rest)) more
    ∙ ap (λ (b : Option Fault). first_from b (twice (before ++ (n.now.text ∷ [])) rest)) (e
    ∙ ap (λ (t : Bool). first_from best (fault_if t code.Twice (ident_of n.now))) known)
    ∙ sym (first_append best (fault_if (is_among n.now.text before) code.Twice (ident_of n.now))
    (twice (before ++ (n.now.text ∷ [])) rest))
    ∙ ap (λ (l : List (Bor ident.Ident)). first_from best (twice before (map entry (idents l))))
    (sym (list_behind i ns n lt at))
