-- A corner of a tube that lies in one of its triangles is a corner of that triangle: corners
-- strictly rise along the chord.
use Rattle.std.proofs.Common.{◌≡◌, ◌⊎◌, inl, inr, List, [], ◌∷◌, ℤ, ◌<ℤ◌, ◌≤ℤ◌, arith, ap}
use Rattle.std.proofs.lemmas.Int.{ints}
use Rattle.plane.specs.declared.kinds.Point.{Point}
use Rattle.plane.specs.Forms.Vectors.{point}
use Rattle.plane.specs.Forms.Arcs.{HalfArc, along, seen}
use Rattle.plane.specs.Tubes.Regions.{seen_point}
use Rattle.plane.specs.Tubes.Bays.{Bay, AreBays, InTriangle}
use Rattle.plane.proofs.Caps.Pictures.{triangle_seen}
use Rattle.plane.proofs.Caps.CapTriangles.{triangle_low, triangle_high}

-- p is a corner from the inner corner v on
abbrev pub FromCorner : Point → Point → List Bay → Type 0
FromCorner p v [] = p ≡ v
FromCorner p v (b ∷ rest) = (p ≡ v) ⊎ ((p ≡ b.outer) ⊎ FromCorner p b.inner rest)

-- in each triangle between neighbours of the inner chain, and in each one between neighbours of the
-- outer chain, p is a corner
abbrev pub OnlyInBays : Point → Point → List Bay → Type 0
OnlyInBays p v [] = Unit {0}
OnlyInBays p v (b ∷ rest) =
    (InTriangle (point p) (point v) (point b.inner) (point b.outer)
    → (p ≡ v) ⊎ ((p ≡ b.inner) ⊎ (p ≡ b.outer))) × OnlyInBays p b.inner rest

abbrev pub OnlyInGaps : Point → List Bay → Type 0
OnlyInGaps p [] = Unit {0}
OnlyInGaps p (b ∷ []) = Unit {0}
OnlyInGaps p (b ∷ (d ∷ rest)) =
    (InTriangle (point p) (point b.inner) (point b.outer) (point d.outer)
    → (p ≡ b.inner) ⊎ ((p ≡ b.outer) ⊎ (p ≡ d.outer))) × OnlyInGaps p (d ∷ rest)

-- a corner from v on is not before v
not_before : (h : HalfArc) (p v : Point) (bs : List Bay) → AreBays h v bs → FromCorner p v bs
    → along h (point v) ≤ℤ along h (point p)
not_before h p v [] are e =
    let k = ap (λ (q : Point). along h (point q)) e in omega (arith, ints, k)
not_before h p v (b ∷ rest) are c =
    let up = are.0.up in
    let on = are.0.on in
    elim c [
      | inl e ↦ (let k = ap (λ (q : Point). along h (point q)) e in omega (arith, ints, k))
      | inr (inl e) ↦ (let k = ap (λ (q : Point). along h (point q)) e in
          omega (arith, ints, k, up))
      | inr (inr r) ↦ (let k = not_before h p b.inner rest are.1 r in
          omega (arith, ints, k, up, on))
    ]

-- the span of a triangle along the chord
span : (h : HalfArc) (p a b c : Point) (l m : ℤ)
    → InTriangle (point p) (point a) (point b) (point c) → l ≤ℤ along h (point a)
    → l ≤ℤ along h (point b) → l ≤ℤ along h (point c) → along h (point a) ≤ℤ m
    → along h (point b) ≤ℤ m → along h (point c) ≤ℤ m
    → (l ≤ℤ along h (point p)) × (along h (point p) ≤ℤ m)
span h p a b c l m t la lb lc ma mb mc =
    let s = triangle_seen h (point p) (point a) (point b) (point c) t in
    let low = triangle_low l (seen h (point p)) (seen_point h a) (seen_point h b) (seen_point h c)
    (omega (arith, ints)) s la lb lc in
    let high = triangle_high m (seen h (point p)) (seen_point h a) (seen_point h b) (seen_point h c)
    (omega (arith, ints)) s ma mb mc in
    (omega (arith, ints, low), omega (arith, ints, high))

-- of a place before v no triangle from v on is one
bays_after : (h : HalfArc) (p v : Point) (bs : List Bay) → AreBays h v bs
    → along h (point p) <ℤ along h (point v) → OnlyInBays p v bs
bays_after h p v [] are before = tt
bays_after h p v (b ∷ rest) are before =
    let up = are.0.up in
    let on = are.0.on in (
      (λ t. absurd
          (let s = span h p v b.inner b.outer (along h (point v)) (along h (point b.inner)) t
          (omega (arith, ints)) (omega (arith, ints, up, on)) (omega (arith, ints, up))
          (omega (arith, ints, up, on)) (omega (arith, ints)) (omega (arith, ints, on)) in
          omega (arith, ints, s, before))),
      bays_after h p b.inner rest are.1 (omega (arith, ints, up, on, before)),
    )

pub corners_in_bays : (h : HalfArc) (p v : Point) (bs : List Bay) → AreBays h v bs
    → FromCorner p v bs → OnlyInBays p v bs
corners_in_bays h p v [] are c = tt
corners_in_bays h p v (b ∷ rest) are c =
    let up = are.0.up in
    let on = are.0.on in
    elim c [
      | inl e ↦ (
        (λ t. inl e),
        bays_after h p b.inner rest are.1
            (let k = ap (λ (q : Point). along h (point q)) e in omega (arith, ints, k, up, on)),
      )
      | inr (inl e) ↦ (
        (λ t. inr (inr e)),
        bays_after h p b.inner rest are.1 (let k = ap (λ (q : Point). along h (point q)) e in
            omega (arith, ints, k, on)),
      )
      | inr (inr r) ↦ (first h p v b rest are r, corners_in_bays h p b.inner rest are.1 r)
    ]
  where
    first : (h : HalfArc) (p v : Point) (b : Bay) (rest : List Bay) → AreBays h v (b ∷ rest)
        → FromCorner p b.inner rest → InTriangle (point p) (point v) (point b.inner) (point b.outer)
        → (p ≡ v) ⊎ ((p ≡ b.inner) ⊎ (p ≡ b.outer))
    first h p v b [] are r t = inr (inl r)
    first h p v b (d ∷ rest) are r t =
        let up = are.0.up in
        let on = are.0.on in
        let s = span h p v b.inner b.outer (along h (point v)) (along h (point b.inner)) t
        (omega (arith, ints)) (omega (arith, ints, up, on)) (omega (arith, ints, up))
        (omega (arith, ints, up, on)) (omega (arith, ints)) (omega (arith, ints, on)) in
        let u2 = are.1.0.up in
        let o2 = are.1.0.on in
        elim r [
          | inl e ↦ inr (inl e)
          | inr (inl e) ↦ absurd (let k = ap (λ (q : Point). along h (point q)) e in
              omega (arith, ints, k, s, u2))
          | inr (inr q) ↦ absurd (let k = not_before h p d.inner rest are.1.1 q in
              omega (arith, ints, k, s, u2, o2))
        ]

-- ---- the triangles between neighbours of the outer chain
gaps_after : (h : HalfArc) (p v : Point) (bs : List Bay) → AreBays h v bs
    → along h (point p) <ℤ along h (point v) → OnlyInGaps p bs
gaps_after h p v [] are before = tt
gaps_after h p v (b ∷ []) are before = tt
gaps_after h p v (b ∷ (d ∷ rest)) are before =
    let up = are.0.up in
    let on = are.0.on in
    let u2 = are.1.0.up in (
      (λ t. absurd
          (let s = span h p b.inner b.outer d.outer (along h (point b.outer))
          (along h (point d.outer)) t (omega (arith, ints, on)) (omega (arith, ints))
          (omega (arith, ints, on, u2)) (omega (arith, ints, u2)) (omega (arith, ints, on, u2))
          (omega (arith, ints)) in omega (arith, ints, s, before, up))),
      gaps_after h p b.inner (d ∷ rest) are.1 (omega (arith, ints, up, on, before)),
    )

pub corners_in_gaps : (h : HalfArc) (p v : Point) (bs : List Bay) → AreBays h v bs
    → FromCorner p v bs → OnlyInGaps p bs
corners_in_gaps h p v [] are c = tt
corners_in_gaps h p v (b ∷ []) are c = tt
corners_in_gaps h p v (b ∷ (d ∷ rest)) are c =
    let up = are.0.up in
    let on = are.0.on in
    let u2 = are.1.0.up in
    let o2 = are.1.0.on in
    let spans = λ (t : InTriangle (point p) (point b.inner) (point b.outer) (point d.outer)).
    span h p b.inner b.outer d.outer (along h (point b.outer)) (along h (point d.outer)) t
    (omega (arith, ints, on)) (omega (arith, ints)) (omega (arith, ints, on, u2))
    (omega (arith, ints, u2)) (omega (arith, ints, on, u2)) (omega (arith, ints)) in
    elim c [
      | inl e ↦ (let k = ap (λ (q : Point). along h (point q)) e in (
        (λ t. absurd (let s = spans t in omega (arith, ints, s, k, up))),
        gaps_after h p b.inner (d ∷ rest) are.1 (omega (arith, ints, k, up, on)),
      ))
      | inr (inl e) ↦ (let k = ap (λ (q : Point). along h (point q)) e in (
        (λ t. inr (inl e)),
        gaps_after h p b.inner (d ∷ rest) are.1
            (omega (arith, ints, k, on)),
      ))
      | inr (inr (inl e)) ↦ ((λ t. inl e), corners_in_gaps h p b.inner (d ∷ rest) are.1 (inl e))
      | inr (inr (inr (inl e))) ↦ (
        (λ t. inr (inr e)),
        corners_in_gaps h p b.inner (d ∷ rest) are.1 (inr (inl e)),
      )
      | inr (inr (inr (inr q))) ↦ (let k = not_before h p d.inner rest are.1.1 q in (
        (λ t. absurd (let s = spans t in omega (arith, ints, s, k, o2))),
        corners_in_gaps h p b.inner (d ∷ rest) are.1 (inr (inr q)),
      ))
    ]
