-- The bytes of a vertex.
use Rattle.std.proofs.Common.{◌≡◌, ℕ, ◌+◌, List, [], ◌∷◌, ◌++◌, length, Option, Some, None, ℤ}
use Rattle.std.proofs.Common.{Result, Ok, Err, OnOk, refl, sym, ap, ◌∙◌, append_assoc}
use Rattle.std.specs.Option.{option_to_list}
use Rattle.itf_reader.specs.declared.transfer.VertexKind.{VertexKind}
use Rattle.itf_reader.specs.declared.transfer.VertexKind.TheVariants as kinds
use Rattle.itf_reader.specs.VertexLists.{kind_of}
use Rattle.ident_refs.specs.declared.key_values.KeyVertex.{KeyVertex as CodeKeyVertex}
use Rattle.ident_refs.specs.ValueViews.{key_vertex_view, rank_of}
use Rattle.ident_refs.specs.KeyBytes.{number_code, numbers_code, kind_code, key_vertex_code}
use Rattle.ident_refs.proofs.KeptRefs.{flat_map_more}

pub on_then : {X E P Q : Type 0} (r : Result X E) → (P → Q) → OnOk r P → OnOk r Q
on_then (Ok x) f p = f p
on_then (Err e) f p = tt

kind_rank : (k : VertexKind) → rank_of k ≡ kind_code (kind_of k)
kind_rank kinds.Start = refl
kind_rank kinds.Straight = refl
kind_rank kinds.OnArc = refl

axes_count : (x y : ℤ) (h : Option ℤ)
    → 2 + length (option_to_list h) ≡ length (x ∷ y ∷ option_to_list h)
axes_count x y None = refl
axes_count x y (Some z) = refl

pub corner_added : (c : CodeKeyVertex) (start p1 p2 p3 p4 : List ℕ) (k a : ℕ) → k ≡ rank_of c.kind
    → a ≡ 2 + length (option_to_list c.height)
    → p1 ≡ start ++ k ∷ [] → p2 ≡ p1 ++ a ∷ [] → p3 ≡ p2 ++ numbers_code (c.x ∷ c.y ∷ [])
    → p4 ≡ p3 ++ numbers_code (option_to_list c.height)
    → p4 ≡ start ++ key_vertex_code (key_vertex_view c)
corner_added c start p1 p2 p3 p4 k a e f h1 h2 h3 h4 =
    let own = numbers_code (c.x ∷ c.y ∷ []) in
    let rest = numbers_code (option_to_list c.height) in
    h4 ∙ ap (λ (l : List ℕ). l ++ rest) h3
    ∙ append_assoc p2 own rest
    ∙ ap (λ (l : List ℕ). p2 ++ l)
    (sym (flat_map_more number_code (c.x ∷ c.y ∷ []) (option_to_list c.height)))
    ∙ ap (λ (l : List ℕ). l ++ numbers_code (c.x ∷ c.y ∷ option_to_list c.height)) h2
    ∙ append_assoc p1 (a ∷ []) _
    ∙ ap (λ (l : List ℕ). l ++ a ∷ numbers_code (c.x ∷ c.y ∷ option_to_list c.height)) h1
    ∙ append_assoc start (k ∷ []) _
    ∙ ap (λ (n : ℕ). start ++ n ∷ a ∷ numbers_code (c.x ∷ c.y ∷ option_to_list c.height)) (e
    ∙ kind_rank c.kind)
    ∙ ap (λ (n : ℕ). start ++ kind_code (kind_of c.kind) ∷ n
    ∷ numbers_code (c.x ∷ c.y ∷ option_to_list c.height)) (f ∙ axes_count c.x c.y c.height)
