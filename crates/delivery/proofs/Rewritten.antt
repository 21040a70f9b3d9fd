-- A canonical text is its own.
use Rattle.std.proofs.Common.{◌≡◌, ◌≤◌, ◌+◌, ℕ, List, [], ◌∷◌, Option, Some, None, length, refl}
use Rattle.std.proofs.Common.{ap, sym, subst, ◌∙◌}
use Rattle.std.specs.Prelude.{◌≢◌}
use Rattle.std.proofs.lemmas.List.{length-map}
use Rattle.itf_lines.specs.LogicalLines.{logical}
use Rattle.itf_reader.specs.Forms.{Form, Row}
use Rattle.itf_reader.specs.Layouts.{form_of}
use Rattle.itf_reader.specs.Readings.{IsRead}
use Rattle.itf_reader.proofs.Readings.{one_transfer, never_both}
use Rattle.itf_writer.specs.Canonical.{canon_text}
use Rattle.itf_writer.specs.Same.{Same, bare, bare_row}
use Rattle.table_layout.specs.Layouts.{Layout}
use Rattle.table_layout.specs.Valid.{IsValid}
use Rattle.reports.specs.Outcomes.{Filing, Outcome, canonical}
use Rattle.delivery.specs.Judging.{IsTextOf, lines_of, objects}
use Rattle.delivery.specs.Rewriting.{IsRewritten, misread, without_text, written, canon_of}

-- the text that is filed
abbrev text_in : Option Filing → List ℕ
text_in None = []
text_in (Some f) = f.text

-- the numbers of lines do not count
objects_bare : (t : List (List Row)) → objects (bare t) ≡ objects t
objects_bare [] = refl
objects_bare (rows ∷ t) =
    ap (λ (n : ℕ). n + objects (bare t)) (length-map rows bare_row)
    ∙ ap (λ (n : ℕ). length rows + n) (objects_bare t)

module _
    (again : (form : Form) (code : ℕ) (bytes : List ℕ) (a : List (List Row)) → 33 ≤ code
    → code ≢ 84 → IsRead form (logical code bytes) a → (b : List (List Row))
    × IsRead form (logical code (canon_text code form a)) b × Same a b)
    (one : (form : Form) (code : ℕ) (a b : List (List Row)) → Same a b
    → canon_text code form a ≡ canon_text code form b)
    (l : Layout) (v : IsValid l) (name text left : List ℕ) (n : ℕ) (p : Outcome) where
  pub rewritten_again : IsRewritten name l text (canonical name n left) → IsRewritten name l left p
      → p ≡ canonical name n left
  rewritten_again (misread m code h e) g = absurd (let q = ap (λ (o : Outcome). o.status) e in cc)
  rewritten_again (without_text rows t k e) g =
      absurd (let q = ap (λ (o : Outcome). o.status) e in cc)
  rewritten_again (written rows t k e) g =
      let is : left ≡ canon_of l rows = ap (λ (o : Outcome). text_in o.filing) e in
      let b = again (form_of l) l.codes.continued text rows v.codes.continued.0 k t in
      by_case rows k e b.0 (subst (λ (x : List ℕ). IsTextOf l x b.0) (sym is) b.1) b.2 g
    where
      by_case : (rows : List (List Row)) → l.codes.continued ≢ 84
          → canonical name n left ≡ canonical name (objects rows) (canon_of l rows)
          → (b : List (List Row)) → IsTextOf l left b → Same rows b → IsRewritten name l left p
          → p ≡ canonical name n left
      by_case rows k e b r s (misread m code h f) =
          absurd (never_both (form_of l) (lines_of l left) b m code r h)
      by_case rows k e b r s (without_text more t j f) = absurd (k j)
      by_case rows k e b r s (written more t j f) =
          let same = one_transfer (form_of l) (lines_of l left).lines more b t.1 r.1 in
          let count : objects more ≡ objects rows =
          ap objects same ∙ (sym (objects_bare b) ∙ (ap objects (sym s) ∙ objects_bare rows)) in
          let canon : canon_of l more ≡ canon_of l rows =
          ap (canon_of l) same ∙ sym (one (form_of l) l.codes.continued rows b s) in
          f
          ∙ (ap (λ (m : ℕ). canonical name m (canon_of l more)) count
          ∙ (ap (λ (x : List ℕ). canonical name (objects rows) x) canon ∙ sym e))
