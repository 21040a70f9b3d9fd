-- All cells beside one half-edge are linked.
-- An edge keeps its cell from strip to strip, as far as it is live.
use Rattle.std.proofs.Common.{◌≡◌, ℕ, zero, suc, ◌+◌, ◌<◌, ◌≤◌, List, ◌++◌, length, refl, arith, ap}
use Rattle.std.proofs.Common.{sym, ◌∙◌, inl, inr, subst}
use Rattle.std.proofs.lemmas.Int.{ints}
use Rattle.plane.specs.declared.kinds.Point.{Point}
use Rattle.plane.specs.Lists.{Has}
use Rattle.plane.specs.Forms.Vectors.{point, sweep}
use Rattle.plane.specs.Faces.Replays.{Replay}
use Rattle.plane.proofs.Runs.RunWords.{IsRun, IsLawful}
use Rattle.plane.specs.Faces.Cells.{Sector, IsSector, Linked, stays, onward}
use Rattle.plane.specs.Faces.Halves.{Half, under, over, edge_of, At, Beside}
use Rattle.plane.proofs.Strips.OneStrip.{linked_back, linked_join, by_order}
use Rattle.plane.proofs.Linear.Vectors.{rise-is}
use Rattle.plane.proofs.Strips.ToTheRight.{cells_eq, reach_most}
use Rattle.plane.proofs.Strips.OneCut.{sides}
use Rattle.plane.proofs.Strips.Centres.{centre}
use Rattle.plane.proofs.Strips.Columns.{by_less}
use Rattle.plane.proofs.Strips.Joins.{lengths_before}
use Rattle.plane.proofs.Turning.ListPlaces.{at_front, at_back, at_append, at_less, at_has, has_at}
use Rattle.plane.proofs.Turning.ListPlaces.{parts_under, parts_over}

-- the index of the cell beside h where the edge stands at place i
abbrev pub spot : Half → ℕ → ℕ
spot (under e) i = i
spot (over e) i = suc i

abbrev pub cell_by : Half → ℕ → ℕ → Sector
cell_by h k i = record { strip = k; index = spot h i }

pub spot_least : (h : Half) (i n : ℕ) → i < n → spot h i ≤ n
spot_least (under e) i n l = omega arith
spot_least (over e) i n l = omega arith

pub beside_at : (r : Replay) (h : Half) (c : Sector) → Beside r h c
    → (i : ℕ) × At (r.list c.strip) i (edge_of h) × (c ≡ cell_by h c.strip i)
beside_at r (under e) c b = (c.index, b, refl)
beside_at r (over e) c b = split c.index refl b
  where
    split : (n : ℕ) → c.index ≡ n → Beside r (over e) (record { strip = c.strip; index = n })
        → (i : ℕ) × At (r.list c.strip) i e × (c ≡ cell_by (over e) c.strip i)
    split zero q b = absurd b
    split (suc n) q b = (n, b, cells_eq c (cell_by (over e) c.strip n) refl q)

pub at_beside : (r : Replay) (h : Half) (k i : ℕ) → At (r.list k) i (edge_of h)
    → Beside r h (cell_by h k i)
at_beside r (under e) k i a = a
at_beside r (over e) k i a = a

pub spot_shift : (h : Half) (i j a b : ℕ) → j + a ≡ i + b → spot h j + a ≡ spot h i + b
spot_shift (under e) i j a b l = l
spot_shift (over e) i j a b l = omega arith

pub spot_most : (h : Half) (i n : ℕ) → n ≤ i → n ≤ spot h i
spot_most (under e) i n l = l
spot_most (over e) i n l = omega arith

module _ (r : Replay) (run : IsRun r) (law : IsLawful r) where
  -- no edge stands at two places of a live list
  pub at_unique : (k i j e : ℕ) → k ≤ r.steps → At (r.list k) i e → At (r.list k) j e → i ≡ j
  at_unique k i j e h a b =
      by_less i j (λ l. absurd (apart i j a b l))
      (λ m. by_less j i (λ l. absurd (apart j i b a l)) (λ n. omega arith))
    where
      apart : (i j : ℕ) → At (r.list k) i e → At (r.list k) j e → i < j → ⊥
      apart i j a b l =
          let n = at_less (r.list k) j e b in
          let z = centre r run law (record { strip = k; index = j }) record {
            strip = h;
            index = omega arith;
          } in
          let u = parts_under (sides r z.0) j i e (r.list k) z.1.parts a l in
          let o = parts_over (sides r z.0) j j e (r.list k) z.1.parts b (omega arith) in
          omega (arith, ints, u, o)

  -- one step on, where the edge does not end
  onward_by : (h : Half) (k i : ℕ) → k < r.steps → At (r.list k) i (edge_of h)
      → Has (edge_of h) (r.list (suc k))
      → (j : ℕ) × At (r.list (suc k)) j (edge_of h) × Linked r (cell_by h k i) (cell_by h (suc k) j)
  onward_by h k i l a n =
      let e = edge_of h in
      let s = r.step k in
      let all : At (s.below ++ (s.ending ++ s.above)) i e = subst (λ (es : List ℕ). At es i e)
      (run.before k l) a in
      let size = lengths_before r run law k l in
      let after : (j : ℕ) → At (s.below ++ (s.starting ++ s.above)) j e
      → At (r.list (suc k)) j e =
      λ (j : ℕ) m. subst (λ (es : List ℕ). At es j e) (sym (run.after k l)) m in
      elim (at_append s.below (s.ending ++ s.above) i e all) [
        | inl m ↦ (
          i,
          after i (at_front s.below (s.starting ++ s.above) i e m),
          onward (cell_by h k i) (cell_by h (suc k) i) (cell_by h (suc k) i)
              (inl record {
                fits = l;
                next = refl;
                low = spot_least h i (length s.below) (at_less s.below i e m);
                kept = refl;
              })
              (stays _ _ refl),
        )
        | inr m ↦ elim (at_append s.ending s.above m.0 e m.2) [
          | inl q ↦ absurd (ended (at_has s.ending m.0 e q))
          | inr q ↦ (
              let p = m.1 in
              let o = q.1 in
              let f = at_less s.above q.0 e q.2 in
              let j = length s.below + (length s.starting + q.0) in (
                j,
                after j (at_back s.below (s.starting ++ s.above) j (length s.starting + q.0) e refl
                    (at_back s.starting s.above (length s.starting + q.0) q.0 e refl q.2)),
                onward (cell_by h k i) (cell_by h (suc k) j) (cell_by h (suc k) j)
                    (inr record {
                      fits = l;
                      next = refl;
                      top = spot_least h i (length (r.list k)) (omega (arith, p, o, f, size));
                      high = spot_most h i (length s.below + length s.ending) (omega (arith, p, o));
                      kept = spot_shift h i j (length s.ending) (length s.starting)
                          (omega (arith, p, o));
                    }) (stays _ _ refl),
              ))
        ]
      ]
    where
      ended : Has (edge_of h) (r.step k).ending → ⊥
      ended m =
          let o = law.open_still (suc k) (edge_of h) (omega arith) n in
          let f = run.rising k o.0 (omega (arith, o.1)) o.2 in
          let g = ap (λ (p : Point). sweep r.weight (point p)) (o.3
          ∙ run.ending k l (edge_of h) m) in
          omega (arith, ints, f, g)

  far_by : (h : Half) (n k m i j : ℕ) → m ≡ k + n → m ≤ r.steps → At (r.list k) i (edge_of h)
      → At (r.list m) j (edge_of h) → Linked r (cell_by h k i) (cell_by h m j)
  far_by h zero k m i j q l a b =
      let f : m ≡ k = omega arith in
      let b2 : At (r.list k) j (edge_of h) = subst (λ (x : ℕ). At (r.list x) j (edge_of h)) f b in
      stays _ _ (cells_eq _ _ (sym f)
      (ap (spot h) (at_unique k i j (edge_of h) (omega arith) a b2)))
  far_by h (suc n) k m i j q l a b =
      let e = edge_of h in
      let here = at_has (r.list k) i e a in
      let there = at_has (r.list m) j e b in
      let s = law.begun k e (omega arith) here in
      let o = law.open_still m e l there in
      let s1 = s.1 in
      let o1 = o.1 in
      let still : Has e (r.list (suc k)) = law.alive (suc k) e s.0 o.0 (law.live m e l there)
      (omega (arith, s1)) s.2 (omega (arith, o1)) o.2 o.3 in
      let x = onward_by h k i (omega arith) a still in
      linked_join r (cell_by h k i) (cell_by h (suc k) x.0) (cell_by h m j) x.2
      (far_by h n (suc k) m x.0 j (omega arith) l x.1 b)

  -- two cells beside one half-edge
  pub beside_linked : (h : Half) (c d : Sector) → IsSector r c → IsSector r d → Beside r h c
      → Beside r h d → Linked r c d
  beside_linked h c d C D b k =
      let x = beside_at r h c b in
      let y = beside_at r h d k in
      let q : Linked r (cell_by h c.strip x.0) (cell_by h d.strip y.0) = by_order c.strip d.strip
      (λ (n : ℕ) e. far_by h n c.strip d.strip x.0 y.0 e D.strip x.1 y.1)
      (λ (n : ℕ) e. linked_back r _ _ (far_by h n d.strip c.strip y.0 x.0 e C.strip y.1 x.1)) in
      subst (λ (u : Sector). Linked r u d) (sym x.2)
      (subst (λ (u : Sector). Linked r (cell_by h c.strip x.0) u) (sym y.2) q)

  -- each half-edge has a cell beside it
  pub some_beside : (h : Half) → edge_of h < r.edges → (c : Sector) × IsSector r c × Beside r h c
  some_beside h l =
      let e = edge_of h in
      let b = run.begins e l in
      let d = run.ends e l in
      let k = suc b.0 in
      let b1 = b.1 in
      let m : b.0 < d.0 = by_less b.0 d.0 (λ (x : b.0 < d.0). x) (λ (x : d.0 ≤ b.0).
      let f = reach_most r run d.0 b.0 x b.1 in
      let g = ap (λ (p : Point). sweep r.weight (point p)) b.2 in
      let t = ap (λ (p : Point). sweep r.weight (point p)) d.2 in
      let u = run.rise e l in
      let v = rise-is r.weight (r.edge e) in
      absurd (omega (arith, ints, f, g, t, u, v))) in
      let a = has_at (r.list k) e
      (law.alive k e b.0 d.0 l (omega arith) b.2 (omega (arith, m)) d.1 d.2) in (
        cell_by h k a.0,
        record {
          strip = omega (arith, b1);
          index = spot_least h a.0 (length (r.list k)) (at_less (r.list k) a.0 e a.1);
        },
        at_beside r h k a.0 a.1,
      )
