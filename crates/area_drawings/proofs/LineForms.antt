-- The form of an area's lines.
use Rattle.std.proofs.Common.{◌≡◌, List, [], ◌∷◌, get_or, sym, ap, ◌∙◌, subst}
use Rattle.resolver.specs.Resolved.{LineForm}
use Rattle.resolver.specs.Sound.{IsNarrow}
use Rattle.resolver.specs.Values.{line_of}
use Rattle.resolver.specs.declared.models.LineForm as code
use Rattle.table_layout.specs.Values.{lines_view}

-- the one form of lines
module _ (forms : List code.LineForm) (form : code.LineForm) (ls : List LineForm) (l : LineForm)
    (e : lines_view forms ≡ ls) (o : ls ≡ l ∷ []) (f : form ≡ get_or forms 0 form) where
  same_form : l ≡ line_of form
  same_form = by forms f (e ∙ o)
    where
      by : (fs : List code.LineForm) → form ≡ get_or fs 0 form → lines_view fs ≡ l ∷ []
          → l ≡ line_of form
      by [] f h = absurd (cc)
      by (g ∷ fs) f h = first (line_of g) (lines_view fs) h ∙ ap line_of (sym f)
        where
          first : (a : LineForm) (as_ : List LineForm) → a ∷ as_ ≡ l ∷ [] → l ≡ a
          first a as_ h = cc

  pub one_form : ls ≡ line_of form ∷ []
  one_form = o ∙ ap (λ (x : LineForm). x ∷ []) same_form

  pub narrow_form : IsNarrow l.window → IsNarrow (line_of form).window
  narrow_form n = subst (λ (x : LineForm). IsNarrow x.window) same_form n
