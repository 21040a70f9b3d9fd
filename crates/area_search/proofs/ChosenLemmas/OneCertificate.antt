-- Of the claims that prove a drawing at a level one is chosen.
use Rattle.std.proofs.Common.{◌≡◌, ℕ, ◌<◌, List, length, sym, ◌∙◌, subst}
use Rattle.plane.specs.Rule.Plans.{Plan}
use Rattle.plane.specs.Runs.Timetables.{Timed}
use Rattle.plane.proofs.MoveLemmas.OneTimetable.{one_timetable}
use Rattle.tubes.specs.Settled.{edge_at, edges_at}
use Rattle.certificate.specs.declared.notes.HalfNote.{HalfNote}
use Rattle.certificate.specs.declared.notes.PointPlace.{PointPlace}
use Rattle.certificate_checker.specs.Subjects.{Claims}
use Rattle.certificate_checker.specs.Verdicts.{AllRules, IsTableOf, Proves, subject_of}
use Rattle.area_search.specs.Chosen.{AreChosen, IsChosen}
use Rattle.area_search.proofs.ChosenLemmas.OneNotes.{notes_are}
use Rattle.area_search.proofs.ChosenLemmas.OnePlaces.{places_are}
use Rattle.area_search.proofs.ChosenLemmas.OnePositions.{positions_are, told}

-- the same claims, which have this level
at_level : (c : Claims) (l : ℕ) → c.level ≡ l
    → c ≡ record { level = l; positions = c.positions; notes = c.notes; places = c.places }
at_level c l q = λ i. record
    { level = q i; positions = c.positions; notes = c.notes; places = c.places }

pub one_table : (d : Plan) (level : ℕ) (ts us : List Timed) → IsTableOf d level ts
    → IsTableOf d level us → ts ≡ us
one_table d level ts us t u = one_timetable (length (edges_at d (λ n. level))) (edge_at d (λ n. level)) ts us t u

-- claims by their parts
abbrev Parts : ℕ → List ℕ → List HalfNote → List PointPlace → Claims
Parts level ps ns xs = record { level = level; positions = ps; notes = ns; places = xs }

by_table : (d : Plan) (table : List Timed) (level : ℕ) (ps qs : List ℕ) (ns ms : List HalfNote)
    (xs ys : List PointPlace) → IsTableOf d level table
    → AllRules (told d table level ps ns xs) → AllRules (told d table level qs ms ys)
    → AreChosen (told d table level ps ns xs) → AreChosen (told d table level qs ms ys)
    → Parts level ps ns xs ≡ Parts level qs ms ys
by_table d table level ps qs ns ms xs ys t a b f g =
    let p : ps ≡ qs = positions_are d table level t ps qs ns ms xs ys a b in
    let b1 = subst (λ (rs : List ℕ). AllRules (told d table level rs ms ys)) (sym p) b in
    let g1 = subst (λ (rs : List ℕ). AreChosen (told d table level rs ms ys)) (sym p) g in
    let q : xs ≡ ys = places_are d table level t ps ns ms xs ys a b1 f.places g1.places in
    let b2 = subst (λ (zs : List PointPlace). AllRules (told d table level ps ms zs)) (sym q) b1 in
    let g2 = subst (λ (zs : List PointPlace). AreChosen (told d table level ps ms zs)) (sym q) g1 in
    let r : ns ≡ ms = notes_are d table level t ps ns ms xs a b2 f.notes g2.notes in
    λ i. record { level = level; positions = p i; notes = r i; places = q i }

of_one_level : (d : Plan) (level : ℕ) (ps qs : List ℕ) (ns ms : List HalfNote)
    (xs ys : List PointPlace) → Proves d (Parts level ps ns xs) → Proves d (Parts level qs ms ys)
    → IsChosen d (Parts level ps ns xs) → IsChosen d (Parts level qs ms ys)
    → Parts level ps ns xs ≡ Parts level qs ms ys
of_one_level d level ps qs ns ms xs ys p q x y =
    by_table d p.table level ps qs ns ms xs ys p.is_table p.rules
    (subst (λ (ts : List Timed). AllRules (told d ts level qs ms ys))
    (one_table d level q.table p.table q.is_table p.is_table) q.rules)
    (subst (λ (ts : List Timed). AreChosen (told d ts level ps ns xs))
    (one_table d level x.table p.table x.is_table p.is_table) x.chosen)
    (subst (λ (ts : List Timed). AreChosen (told d ts level qs ms ys))
    (one_table d level y.table p.table y.is_table p.is_table) y.chosen)

pub one_chosen : (d : Plan) (c e : Claims) → Proves d c → Proves d e → c.level ≡ e.level
    → IsChosen d c → IsChosen d e → c ≡ e
one_chosen d c e p q l x y =
    let same = at_level e c.level (sym l) in
    of_one_level d c.level c.positions e.positions c.notes e.notes c.places e.places p
    (subst (λ (z : Claims). Proves d z) same q) x (subst (λ (z : Claims). IsChosen d z) same y)
    ∙ sym same
