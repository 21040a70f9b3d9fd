-- What is kept of a table without rows.
use Rattle.std.proofs.Common.{◌≡◌, ℕ, List, [], Option, ap, ◌∙◌}
use Rattle.ili_grammar.specs.Syntax.{Codes}
use Rattle.table_layout.specs.Layouts.{Table}
use Rattle.ident_refs.specs.KeptRows.{Ref, KeptList, Kept, kept_table, kept_lists}

abbrev the_kept : Codes → Table → List ℕ → List (Option (List ℕ)) → List KeptList → List Ref → Kept
the_kept c t lines ids lists refs =
    record { codes = c; table = t; lines = lines; ids = ids; lists = lists; refs = refs }

pub kept_none : (c d : Codes) (t u : Table) (lines : List ℕ) (ids : List (Option (List ℕ)))
    (lists : List KeptList) (refs : List Ref)
    → c ≡ d → t ≡ u → lines ≡ [] → ids ≡ [] → lists ≡ kept_lists d u [] u.idents → refs ≡ []
    → ◌≡◌ {A = Kept} (record {
      codes = c;
      table = t;
      lines = lines;
      ids = ids;
      lists = lists;
      refs = refs;
    }) (kept_table d u [])
kept_none c d t u lines ids lists refs p q l i e r =
    ap (λ (x : Codes). the_kept x t lines ids lists refs) p
    ∙ (ap (λ (x : Table). the_kept d x lines ids lists refs) q
    ∙ (ap (λ (x : List ℕ). the_kept d u x ids lists refs) l
    ∙ (ap (λ (x : List (Option (List ℕ))). the_kept d u [] x lists refs) i
    ∙ (ap (λ (x : List KeptList). the_kept d u [] [] x refs) e
    ∙ ap (λ (x : List Ref). the_kept d u [] [] (kept_lists d u [] u.idents) x) r))))
