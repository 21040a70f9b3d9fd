-- Curves that break the last level with no other one, from the first drawing that is looked at to
-- the last.
use Rattle.std.proofs.Common.{◌≡◌, ◌⊎◌, inl, inr, ℕ, zero, suc, ◌+◌, ◌<◌, ◌≤◌, Bool, true, false}
use Rattle.std.proofs.Common.{List, [], ◌∷◌, ◌++◌, length, map, get_or, arith, refl, ap, sym, ◌∙◌}
use Rattle.std.proofs.Common.{subst, All}
use Rattle.std.proofs.lemmas.List.{length-map}
use Rattle.near_pairs.specs.Boxes.{mark_of}
use Rattle.plane.specs.Rule.Plans.{Plan, curve, plan}
use Rattle.plane.specs.declared.kinds.Placed.{Placed}
use Rattle.tubes.specs.Settled.{Breaks, corners, edges, missing}
use Rattle.level_breaks.specs.LevelLists.{AreAlone, AreBreaksMarked}
use Rattle.level_breaks.proofs.Unbroken.{breaks_back}
use Rattle.area_search.specs.declared.unsettled.rest.SubDrawing.{SubDrawing}
use Rattle.area_search.specs.declared.unsettled.standing.SearchState.{SearchState}
use Rattle.area_search.specs.declared.unsettled.standing.SearchState.TheVariants.{Alone, Tried}
use Rattle.area_search.specs.declared.unsettled.standing.SearchState.TheVariants.{Waiting, Seen}
use Rattle.area_search.specs.Unsettled.Alone.{AreApart, AreFirstTo, AreLeftTo, IsBare, IsFirst}
use Rattle.area_search.specs.Unsettled.Alone.{IsSeen, after_leaving, after_settling, is_alone}
use Rattle.area_search.specs.Unsettled.Alone.{is_left_out, standing_of}
use Rattle.area_search.specs.Unsettled.SetAside.{HasNoBreak, IsRest}
use Rattle.area_search.proofs.UnsettledLemmas.SetAsideCurves.{no_break}
use Rattle.area_search.proofs.Small.{by_lt, one_more, one_more_size}

no_mark : {P : Type 0} → false ≡ true → P
no_mark e = cc

-- ---- lists of one entry for each curve
at_map : {A B : Type 0} (f : A → B) (xs : List A) (i : ℕ) (a : A)
    → get_or (map f xs) i (f a) ≡ f (get_or xs i a)
at_map f [] i a = refl
at_map f (x ∷ xs) zero a = refl
at_map f (x ∷ xs) (suc i) a = at_map f xs i a

at_map_within : {A B : Type 0} (f : A → B) (xs : List A) (i : ℕ) (b : B) (a : A) → i < length xs
    → get_or (map f xs) i b ≡ f (get_or xs i a)
at_map_within f [] i b a l = absurd (omega (arith, l))
at_map_within f (x ∷ xs) zero b a l = refl
at_map_within f (x ∷ xs) (suc i) b a l = at_map_within f xs i b a (omega (arith, l))

-- ---- how curves stood before
was_alone : (s : SearchState) → after_settling s ≡ Alone → s ≡ Alone
was_alone Alone e = refl
was_alone Tried e = cc
was_alone Waiting e = cc
was_alone Seen e = cc

was_seen : (s : SearchState) → IsSeen (after_settling s) → IsSeen s ⊎ (s ≡ Tried)
was_seen Alone h = inl tt
was_seen Tried h = inr refl
was_seen Waiting h = absurd h
was_seen Seen h = inl tt

left_alone : (s : SearchState) → after_leaving s ≡ Alone → s ≡ Alone
left_alone Alone e = cc
left_alone Tried e = cc
left_alone Waiting e = cc
left_alone Seen e = cc

left_seen : (s : SearchState) → IsSeen (after_leaving s) → IsSeen s
left_seen Alone h = tt
left_seen Tried h = absurd h
left_seen Waiting h = absurd h
left_seen Seen h = tt

-- ---- two curves in either order
-- two curves without a mark
record AreUnmarked (d : Plan) (marks : List Bool) (i j : ℕ) : Type 0 where
  first : i < length d.curves
  second : j < length d.curves
  mark_first : mark_of marks i ≡ false
  mark_second : mark_of marks j ≡ false

turned : (d : Plan) (marks : List Bool) (i j : ℕ) → AreUnmarked d marks i j
    → AreUnmarked d marks j i
turned d marks i j p = record {
  first = p.second;
  second = p.first;
  mark_first = p.mark_second;
  mark_second = p.mark_first;
}

either_order : (d : Plan) (P : ℕ → ℕ → Type 0) → ((i j : ℕ) → P i j → P j i)
    → ((i j : ℕ) → i < j → P i j → Breaks d (λ n. 5) i j → ⊥) → (i j : ℕ) → (i ≡ j → ⊥) → P i j
    → Breaks d (λ n. 5) i j → ⊥
either_order d P turn f i j n p b =
    by_lt i j (λ (l : i < j). f i j l p b)
    (λ (m : j ≤ i). by_lt j i (λ (k : j < i). f j i k (turn i j p) (breaks_back d (λ n. 5) i j b))
    (λ (k : i ≤ j). n (omega (arith, m, k))))

-- ---- at first
bare_breaks_none : (d : Plan) (i j : ℕ) → (i ≡ j → ⊥) → IsBare (curve d j) → Breaks d (λ n. 5) i j → ⊥
bare_breaks_none d i j n b (missing e h m) = n e
bare_breaks_none d i j n b (edges m g h w) =
    let t = h.tube (record { there = h.there; kind = b.half_arc }) in b.no_tube t.0 t.1 t.2
bare_breaks_none d i j n b (corners m g h w) =
    let t = h.tube (record { there = h.there; kind = b.half_arc }) in b.no_tube t.0 t.1 t.2

pub apart_at_first : (d : Plan) (aside : List Bool) (ss : List SearchState)
    → AreFirstTo d aside (length d.curves) ss → AreBreaksMarked d (λ n. 5) aside → AreApart d ss
apart_at_first d aside ss f marked =
    record {
      size = f.size;
      apart = λ i j n li lj ai sj b. by i j n li lj b ((f.each i li).alone ai)
          ((f.each j lj).seen sj);
    }
  where
    unmarked : (i j : ℕ) → i < j → AreUnmarked d aside i j → Breaks d (λ n. 5) i j → ⊥
    unmarked i j l p b =
        elim (marked i j l p.second b) as (λ z. ⊥) [
          | inl e ↦ no_mark (sym p.mark_first ∙ e)
          | inr e ↦ no_mark (sym p.mark_second ∙ e)
        ]

    by : (i j : ℕ) → (i ≡ j → ⊥) → i < length d.curves → j < length d.curves → Breaks d (λ n. 5) i j
        → mark_of aside i ≡ false → (mark_of aside j ≡ false) ⊎ IsBare (curve d j) → ⊥
    by i j n li lj b u (inl v) =
        either_order d (AreUnmarked d aside) (turned d aside) unmarked i j n (record {
          first = li;
          second = lj;
          mark_first = u;
          mark_second = v;
        }) b
    by i j n li lj b u (inr v) = bare_breaks_none d i j n v b

-- one curve more
pub first_more : (d : Plan) (aside : List Bool) (k : ℕ) (xs ys : List SearchState) (s : SearchState)
    → AreFirstTo d aside k xs → ys ≡ xs ++ s ∷ [] → IsFirst (curve d k) (mark_of aside k) s
    → AreFirstTo d aside (k + 1) ys
first_more d aside k xs ys s f e h = record {
  size = one_more_size xs ys s k f.size e;
  each = one_more (λ i t. IsFirst (curve d i) (mark_of aside i) t) xs ys s Alone k f.size e f.each
      h;
}

pub left_more : (old : List SearchState) (k : ℕ) (xs ys : List SearchState) (s : SearchState)
    → AreLeftTo old k xs → ys ≡ xs ++ s ∷ []
    → (s ≡ standing_of old k) ⊎ (s ≡ after_leaving (standing_of old k)) → AreLeftTo old (k + 1) ys
left_more old k xs ys s f e h = record {
  size = one_more_size xs ys s k f.size e;
  each = one_more (λ i t. (t ≡ standing_of old i) ⊎ (t ≡ after_leaving (standing_of old i))) xs ys s
      Alone k f.size e f.each h;
}

-- ---- after a drawing that the last level settles
module _ (d : Plan) (ss next : List SearchState) (marks : List Bool) (points : List Placed)
    (r : SubDrawing) (is : IsRest d marks points r) (out : marks ≡ map is_left_out ss)
    (after : next ≡ map after_settling ss)
    (law : (i j a b : ℕ) → a < length (plan r.drawing).curves → b < length (plan r.drawing).curves
    → curve d i ≡ curve (plan r.drawing) a → curve d j ≡ curve (plan r.drawing) b → (i ≡ j → ⊥)
    → (a ≡ b → ⊥) → Breaks d (λ n. 5) i j → Breaks (plan r.drawing) (λ n. 5) a b)
    (none : HasNoBreak (plan r.drawing)) (a : AreApart d ss) where
  mark_at : (i : ℕ) → mark_of marks i ≡ is_left_out (standing_of ss i)
  mark_at i = ap (λ (ms : List Bool). mark_of ms i) out ∙ at_map is_left_out ss i Alone

  next_at : (i : ℕ) → standing_of next i ≡ after_settling (standing_of ss i)
  next_at i = ap (λ (ts : List SearchState). standing_of ts i) after
      ∙ at_map after_settling ss i Alone

  in_drawing : (i j : ℕ) → i < j → AreUnmarked d marks i j → Breaks d (λ n. 5) i j → ⊥
  in_drawing i j l p b =
      no_break d marks points r is law none i j l p.second b p.mark_first p.mark_second

  both_there : (i j : ℕ) → (i ≡ j → ⊥) → i < length d.curves → j < length d.curves
      → standing_of ss i ≡ Alone → standing_of ss j ≡ Tried → Breaks d (λ n. 5) i j → ⊥
  both_there i j n li lj e t b =
      either_order d (AreUnmarked d marks) (turned d marks) in_drawing i j n
      (record {
        first = li;
        second = lj;
        mark_first = mark_at i ∙ ap is_left_out e;
        mark_second = mark_at j ∙ ap is_left_out t;
      }) b

  pub apart_when_settled : AreApart d next
  apart_when_settled = record {
    size = ap length after ∙ length-map ss after_settling ∙ a.size;
    apart = λ i j n li lj ai sj b.
        let e = was_alone (standing_of ss i) (sym (next_at i) ∙ ai) in
        elim (was_seen (standing_of ss j) (subst IsSeen (next_at j) sj)) as (λ z. ⊥) [
          | inl s ↦ a.apart i j n li lj e s b
          | inr t ↦ both_there i j n li lj e t b
        ];
  }

-- ---- after some were near others
pub apart_when_left : (d : Plan) (ss next : List SearchState) → AreLeftTo ss (length ss) next
    → AreApart d ss → AreApart d next
apart_when_left d ss next l a = record {
  size = l.size ∙ a.size;
  apart = λ i j n li lj ai sj b. a.apart i j n li lj (alone i li ai) (seen j lj sj) b;
}
  where
    within : (i : ℕ) → i < length d.curves → i < length ss
    within i m = let s = a.size in omega (arith, s, m)

    alone : (i : ℕ) → i < length d.curves → standing_of next i ≡ Alone → standing_of ss i ≡ Alone
    alone i m e =
        elim (l.each i (within i m)) as (λ z. standing_of ss i ≡ Alone) [
          | inl q ↦ sym q ∙ e
          | inr q ↦ left_alone (standing_of ss i) (sym q ∙ e)
        ]

    seen : (j : ℕ) → j < length d.curves → IsSeen (standing_of next j) → IsSeen (standing_of ss j)
    seen j m h =
        elim (l.each j (within j m)) as (λ z. IsSeen (standing_of ss j)) [
          | inl q ↦ subst IsSeen q h
          | inr q ↦ left_seen (standing_of ss j) (subst IsSeen q h)
        ]

-- ---- in the end
pub alone_in_the_end : (d : Plan) (ss : List SearchState) (marks : List Bool) → AreApart d ss
    → All IsSeen ss → marks ≡ map is_alone ss → AreAlone d (λ n. 5) marks
alone_in_the_end d ss marks a seen e = λ i j l m b.
    let li : i < length d.curves = omega (arith, l, m) in (
      mark_at i li ∙ not_alone i j (λ q. omega (arith, q, l)) li m b,
      mark_at j m
          ∙ not_alone j i (λ q. omega (arith, q, l)) m li (breaks_back d (λ n. 5) i j b),
    )
  where
    within : (i : ℕ) → i < length d.curves → i < length ss
    within i m = let s = a.size in omega (arith, s, m)

    mark_at : (i : ℕ) → i < length d.curves → mark_of marks i ≡ is_alone (standing_of ss i)
    mark_at i m = ap (λ (ms : List Bool). mark_of ms i) e
        ∙ at_map_within is_alone ss i false Alone (within i m)

    not_alone : (i j : ℕ) → (i ≡ j → ⊥) → i < length d.curves → j < length d.curves → Breaks d (λ n. 5) i j
        → is_alone (standing_of ss i) ≡ false
    not_alone i j n li lj b = by (standing_of ss i) refl
      where
        by : (s : SearchState) → standing_of ss i ≡ s → is_alone (standing_of ss i) ≡ false
        by Alone q = absurd (a.apart i j n li lj q (seen j Alone (within j lj)) b)
        by Tried q = ap is_alone q
        by Waiting q = ap is_alone q
        by Seen q = ap is_alone q
