use Rattle.std.proofs.Common.{◌≡◌, ℕ, zero, suc, ◌<◌, ◌≤◌, ◌-◌, List, length, get_or, arith, ap}
use Rattle.std.proofs.Common.{sym, ◌∙◌}
use Rattle.half_edges.specs.HalfEdges.{HalfEdges, size, next_of, twin_of}
use Rattle.half_edges.specs.Meshes.{IsMesh, AgreesAlong}
use Rattle.half_edges.specs.Stars.{IsStar, TurnsThrough, before, turned}
use Rattle.half_edges.specs.Cycles.{steps, Leads, Parts}
use Rattle.half_edges.proofs.Twins.{twin-twin, twin_within}
use Rattle.half_edges.proofs.Cycles.{cycles_part, leads_onward, kept_along}

pub turned_within : (m : HalfEdges) (h : ℕ) → IsMesh m → h < size m → turned m h < size m
turned_within m h mesh l = mesh.next_within _ (twin_within (size m) h mesh.pairs l)

pub turned_origin : (m : HalfEdges) (h : ℕ) → IsMesh m → h < size m
    → get_or m.origin (turned m h) 0 ≡ get_or m.origin h 0
turned_origin m h mesh l = mesh.joined _ (twin_within (size m) h mesh.pairs l)
    ∙ ap (λ k. get_or m.origin k 0) (twin-twin h)

pub faces_part : (m : HalfEdges) → IsMesh m → Parts (next_of m) (size m)
faces_part m mesh =
    cycles_part (next_of m) (λ h. get_or m.prev h 0) (size m) mesh.next_within mesh.prev_next

pub stars_part : (m : HalfEdges) → IsMesh m → Parts (turned m) (size m)
stars_part m mesh = cycles_part (turned m) (λ h. twin_of (get_or m.prev h 0)) (size m)
    (λ h l. turned_within m h mesh l)
    (λ h l. ap twin_of (mesh.prev_next _ (twin_within (size m) h mesh.pairs l)) ∙ twin-twin h)

pub agrees_along_cycle : (m : HalfEdges) (numbers : List ℕ) (g h : ℕ) → IsMesh m
    → AgreesAlong m.next numbers → g < size m → Leads (next_of m) g h
    → get_or numbers g 0 ≡ get_or numbers h 0
agrees_along_cycle m numbers g h mesh agrees l leads =
    sym (kept_along (next_of m) (λ k. get_or numbers k 0)
    (size m) mesh.next_within agrees.same leads.count g l)
    ∙ ap (λ k. get_or numbers k 0) leads.there

-- i turns from the place j
turns_down : (m : HalfEdges) (around : List ℕ) → TurnsThrough m around → (i j : ℕ) → i ≤ j
    → j < length around
    → steps (turned m) i (get_or around j 0) ≡ get_or around (j - i) 0
turns_down m around through zero j l k =
    let e : j ≡ j - 0 = omega arith in ap (λ n. get_or around n 0) e
turns_down m around through (suc i) j l k =
    let e : j - i ≡ suc (j - suc i) = omega arith in
    let before_is : before (length around) (j - i) ≡ j - suc i = ap (before (length around)) e in
    ap (turned m) (turns_down m around through i j (omega arith) k)
    ∙ (through.turns (j - i) (omega arith) ∙ ap (λ n. get_or around n 0) before_is)

places_lead : (m : HalfEdges) (around : List ℕ) → TurnsThrough m around → (j k : ℕ)
    → j < length around → k < length around
    → Leads (turned m) (get_or around j 0) (get_or around k 0)
places_lead m around through j k lj lk =
    let at : ℕ → ℕ = λ n. get_or around n 0 in
    let last = length around - 1 in
    let f = turned m in
    let at_first : j - j ≡ 0 = omega arith in
    let at_end : last - (last - k) ≡ k = omega arith in
    let down : Leads f (at j) (at 0) = record {
      count = j;
      there = turns_down m around through j j (omega arith) lj ∙ ap at at_first;
    } in
    let over : Leads f (at 0) (at last) = record {
      count = 1;
      there = through.turns 0 (omega arith);
    } in
    let on : Leads f (at last) (at k) = record {
      count = last - k;
      there = turns_down m around through (last - k) last (omega arith) (omega arith)
          ∙ ap at at_end;
    } in
    leads_onward f _ _ _ down (leads_onward f _ _ _ over on)

pub star_one_cycle : (m : HalfEdges) (around : List ℕ) (g h : ℕ) → IsStar m around
    → TurnsThrough m around → g < size m → h < size m
    → get_or m.origin g 0 ≡ get_or m.origin (get_or around 0 0) 0
    → get_or m.origin h 0 ≡ get_or m.origin (get_or around 0 0) 0 → Leads (turned m) g h
star_one_cycle m around g h star through lg lh og oh =
    let p = star.whole g lg og in
    let q = star.whole h lh oh in
    rw (← p.2, ← q.2) (places_lead m around through p.0 q.0 p.1 q.1)
