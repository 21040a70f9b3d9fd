-- What a certificate claims is known by its text.
use Rattle.std.proofs.Common.{◌≡◌, ℕ, zero, suc, ◌*◌, List, [], ◌∷◌, length, refl, sym, ap, subst}
use Rattle.std.proofs.Common.{arith}
use Rattle.certificate.specs.Spelling.{ArePaired, pairs, view}
use Rattle.certificate.specs.declared.notes.Certificate.{Certificate}
use Rattle.certificate.specs.declared.notes.HalfNote.{HalfNote}
use Rattle.certificate_checker.specs.Subjects.{Claims, claims}
use Rattle.certificate_checker.specs.Verdicts.{Proves}
use Rattle.area_search.specs.Chosen.{IsChosen}
use Rattle.plane.specs.Rule.Plans.{Plan}
use Rattle.delivery.specs.AreaCertificates.{claims_of, notes_of}

-- notes that have partners are those of their pairs
notes_paired : (notes : List HalfNote) → ArePaired notes → notes_of (pairs notes) ≡ notes
notes_paired [] h = refl
notes_paired (a ∷ []) h = absurd h
notes_paired (a ∷ b ∷ notes) h = ap (λ (ns : List HalfNote). a ∷ b ∷ ns) (notes_paired notes h)

pub claims_paired : (c : Certificate) → ArePaired c.notes.items → claims c ≡ claims_of (view c)
claims_paired c h =
    ap (λ (ns : List HalfNote). (let claims : Claims = record {
      level = c.level;
      positions = c.positions.items;
      notes = ns;
      places = c.places.items;
    } in claims))
    (sym (notes_paired c.notes.items h))

-- so many notes have partners where their number is even
even_paired : (notes : List HalfNote) (n : ℕ) → length notes ≡ 2 * n → ArePaired notes
even_paired [] n h = tt
even_paired (a ∷ []) n h = absurd (omega (arith, h))
even_paired (a ∷ b ∷ notes) zero h = absurd (omega (arith, h))
even_paired (a ∷ b ∷ notes) (suc n) h = even_paired notes n (omega (arith, h))

pub proved_paired : (d : Plan) (c : Certificate) → Proves d (claims c) → ArePaired c.notes.items
proved_paired d c p = even_paired c.notes.items _ p.rules.counts.notes

-- what proves a drawing as it lies in memory proves it by its text
pub proved_view : (d : Plan) (c : Certificate) → Proves d (claims c) → Proves d (claims_of (view c))
proved_view d c p = subst (Proves d) (claims_paired c (proved_paired d c p)) p

-- and what is chosen as it lies in memory is chosen by its text
pub chosen_view : (d : Plan) (c : Certificate) → Proves d (claims c) → IsChosen d (claims c)
    → IsChosen d (claims_of (view c))
chosen_view d c p x = subst (IsChosen d) (claims_paired c (proved_paired d c p)) x
