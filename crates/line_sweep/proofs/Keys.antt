-- Cells under keys: what taking some out and putting others in leaves.
use Rattle.std.proofs.Common.{◌≡◌, ℕ, zero, suc, ◌+◌, ◌<◌, ◌≤◌, inl, inr, Option, Some, None}
use Rattle.std.proofs.Common.{IsSome}
use Rattle.std.proofs.Common.{List, [], ◌∷◌, ◌++◌, length, take, drop, filter, get_or, refl, arith}
use Rattle.std.proofs.Common.{ap, sym, ◌∙◌, subst, append_assoc, append-nil, add-one}
use Rattle.std.proofs.lemmas.List.{length-append, length-drop, length-take-le, map-append}
use Rattle.std.proofs.lemmas.List.{take-append-drop, take_more}
use Rattle.std.specs.List.{take-map, drop-map}
use Rattle.std.proofs.lemmas.Grind.{common_steps}
use Rattle.plane.specs.Lists.{Has, Once}
use Rattle.plane.specs.Runs.Gaps.{Gap, is_real}
use Rattle.slab.specs.Slab.{Slab, ContainsKey, Updates, get, slab_len}
use Rattle.line_sweep.specs.declared.kinds.Cell.{Cell}
use Rattle.line_sweep.specs.Held.{AreClosed, ArePut, IsHeld, IsPut, gap_in, gaps_held}
use Rattle.line_sweep.specs.Kinds.{gap_of}
use Rattle.line_sweep.proofs.Parts.{drop_twice}
use Rattle.line_sweep.proofs.PlaneLaws.{has_append, has_at, has_back, has_front, once_apart}
use Rattle.line_sweep.proofs.PlaneLaws.{once_append, once_back, once_front}

none_some : {X : Type 0} (o : Option X) → o ≡ None → IsSome o → ⊥
none_some None e s = cc
none_some (Some x) e s = cc

no_more : {X : Type 0} (o : Option X) → (IsSome o → ⊥) → o ≡ None
no_more None f = refl
no_more (Some x) f = absurd (f refl)

-- ---- the same cells under keys
held_same : (old new : Slab Cell) (keys : List ℕ)
    → ((k : ℕ) → Has k keys → get new k ≡ get old k) → gaps_held new keys ≡ gaps_held old keys
held_same old new [] f = refl
held_same old new (k ∷ keys) f =
    let e = f k (inl refl) in
    let r = held_same old new keys (λ j h. f j (inr h)) in
    λ i. gap_in (e i) ∷ r i

-- ---- taking out
first_of : (keys : List ℕ) (i : ℕ) → i < length keys → Has (get_or keys i 0) (drop i keys)
first_of [] i l = absurd (omega (arith, l))
first_of (k ∷ keys) zero l = inl refl
first_of (k ∷ keys) (suc i) l = first_of keys i (omega (arith, l))

not_before : (keys : List ℕ) (i : ℕ) → i < length keys → Once keys
    → Has (get_or keys i 0) (take i keys) → ⊥
not_before keys i l o h =
    once_apart (take i keys) (drop i keys) (get_or keys i 0)
    (subst Once (sym (take-append-drop i keys)) o) h (first_of keys i l)

filter_more : (gs hs : List Gap)
    → filter is_real (gs ++ hs) ≡ filter is_real gs ++ filter is_real hs
filter_more gs hs = grind (arith, common_steps)

pub none_closed : (slab : Slab Cell) (before : List Gap) → AreClosed slab slab [] before before
none_closed slab before = record {
  closed = sym (append-nil before);
  others = λ k f. refl;
  count = omega arith;
}

module _ (old now : Slab Cell) (keys : List ℕ) (i : ℕ) (before after : List Gap)
    (l : i < length keys) (once : Once keys)
    (a : AreClosed old now (take i keys) before after) where
  same : get now (get_or keys i 0) ≡ get old (get_or keys i 0)
  same = a.others (get_or keys i 0) (not_before keys i l once)

  pub still_there : ((k : ℕ) → Has k keys → ContainsKey old k) → ContainsKey now (get_or keys i 0)
  still_there all =
      subst (λ (o : Option Cell). IsSome o) (sym same) (all (get_or keys i 0) (has_at keys i 0 l))

  pub one_closed : (new : Slab Cell) (c : Cell) (later : List Gap)
      → get now (get_or keys i 0) ≡ Some c → Updates now new (get_or keys i 0) None
      → slab_len new + 1 ≡ slab_len now → later ≡ after ++ filter is_real (gap_of c ∷ [])
      → AreClosed old new (take (i + 1) keys) before later
  one_closed new c later v u n e =
      let key = get_or keys i 0 in
      let more = take_more keys i 0 l in
      let first : List Gap = filter is_real (gaps_held old (take i keys)) in
      record {
        closed = e ∙ ap (λ gs. gs ++ filter is_real (gap_of c ∷ [])) a.closed
            ∙ append_assoc before first (filter is_real (gap_of c ∷ []))
            ∙ ap (λ (o : Option Cell). before ++ (first ++ filter is_real (gap_in o ∷ [])))
            (sym v ∙ same)
            ∙ ap (λ gs. before ++ gs)
            (sym (filter_more (gaps_held old (take i keys)) (gap_in (get old key) ∷ [])))
            ∙ ap (λ gs. before ++ filter is_real gs)
            (sym (map-append (λ (k : ℕ). gap_in (get old k)) (take i keys) (key ∷ [])))
            ∙ ap (λ (ks : List ℕ). before ++ filter is_real (gaps_held old ks)) (sym more);
        others = λ k f.
            (let g : Has k (take i keys ++ key ∷ []) → ⊥ =
            λ h. f (subst (λ (ks : List ℕ). Has k ks) (sym more) h) in
            u.others k (λ q. g (has_back k (take i keys) (key ∷ []) (inl q)))
            ∙ a.others k (λ h. g (has_front k (take i keys) (key ∷ []) h)));
        count =
            (let m = a.count in
            let x = ap length more in
            let y = length-append (take i keys) (key ∷ []) in
            omega (arith, n, m, x, y));
      }

-- ---- putting in
pub none_put : (slab : Slab Cell) (keys : List ℕ) → keys ≡ [] → ArePut slab slab keys
none_put slab keys e = subst (λ (ks : List ℕ). ArePut slab slab ks) (sym e) (record {
  once = tt;
  fresh = λ k h. absurd h;
  all = λ k h. absurd h;
  others = λ k h. refl;
  count = omega arith;
})

module _ (now new : Slab Cell) (c : Cell) (keys later : List ℕ)
    (u : IsPut now new c keys later) where
  apart : (k : ℕ) → ContainsKey now k → k ≡ u.key → ⊥
  apart k s q = none_some (get now k) (ap (λ (j : ℕ). get now j) q ∙ u.vacant) s

  kept : (k : ℕ) → ContainsKey now k → get new k ≡ get now k
  kept k s = u.updates.others k (apart k s)

  pub one_put : (old : Slab Cell) → ArePut old now keys → ArePut old new later
  one_put old p = subst (λ (ks : List ℕ). ArePut old new ks) (sym u.keys) (record {
    once = once_append keys (u.key ∷ []) p.once ((λ h. h), tt)
        (λ k h g. elim g [ inl q ↦ apart k (p.all k h) q | inr n ↦ n ]);
    fresh = λ k h. elim (has_append k keys (u.key ∷ []) h) [
      | inl i ↦ p.fresh k i
      | inr i ↦ elim i [
        | inl q ↦ no_more (get old k) (λ s. none_some (get now k)
            (ap (λ (j : ℕ). get now j) q ∙ u.vacant)
            (subst (λ (o : Option Cell). IsSome o) (sym (p.others k s)) s))
        | inr n ↦ absurd n
      ]
    ];
    all = λ k h. elim (has_append k keys (u.key ∷ []) h) [
      | inl i ↦ subst (λ (o : Option Cell). IsSome o) (sym (kept k (p.all k i))) (p.all k i)
      | inr i ↦ elim i [
        | inl q ↦ subst (λ (o : Option Cell). IsSome o)
            (sym (ap (λ (j : ℕ). get new j) q ∙ u.updates.changed)) refl
        | inr n ↦ absurd n
      ]
    ];
    others = λ k s.
        (let t : ContainsKey now k = subst (λ (o : Option Cell). IsSome o) (sym (p.others k s)) s in
        kept k t ∙ p.others k s);
    count = (let m = p.count in let n = u.count in let x = length-append keys (u.key ∷ []) in
        omega (arith, m, n, x));
  })

  pub put_gaps : (old : Slab Cell) → ArePut old now keys
      → gaps_held new later ≡ gaps_held now keys ++ gap_of c ∷ []
  put_gaps old p =
      ap (λ (ks : List ℕ). gaps_held new ks) u.keys
      ∙ map-append (λ (k : ℕ). gap_in (get new k)) keys (u.key ∷ [])
      ∙ ap (λ gs. gs ++ gap_in (get new u.key) ∷ [])
      (held_same now new keys (λ k h. kept k (p.all k h)))
      ∙ ap (λ (o : Option Cell). gaps_held now keys ++ gap_in o ∷ []) u.updates.changed

-- ---- both
module _ (old now new : Slab Cell) (keys fresh : List ℕ) (p n : ℕ) (before after : List Gap)
    (w : p + n ≤ length keys) (h : IsHeld old keys (gaps_held old keys))
    (a : AreClosed old now (take n (drop p keys)) before after) (put : ArePut now new fresh) where
  parts : Once (take p keys ++ drop p keys)
  parts = subst Once (sym (take-append-drop p keys)) h.once

  inner : Once (take n (drop p keys) ++ drop n (drop p keys))
  inner = subst Once (sym (take-append-drop n (drop p keys)))
      (once_back (take p keys) (drop p keys) parts)

  back_once : Once (drop (p + n) keys)
  back_once = subst Once (drop_twice p n keys)
      (once_back (take n (drop p keys)) (drop n (drop p keys)) inner)

  back_is : (k : ℕ) → Has k (drop (p + n) keys) → Has k (drop n (drop p keys))
  back_is k h = subst (λ (ks : List ℕ). Has k ks) (sym (drop_twice p n keys)) h

  back_in : (k : ℕ) → Has k (drop (p + n) keys) → Has k (drop p keys)
  back_in k h = subst (λ (ks : List ℕ). Has k ks) (take-append-drop n (drop p keys))
      (has_back k (take n (drop p keys)) (drop n (drop p keys)) (back_is k h))

  block_in : (k : ℕ) → Has k (take n (drop p keys)) → Has k (drop p keys)
  block_in k h = subst (λ (ks : List ℕ). Has k ks) (take-append-drop n (drop p keys))
      (has_front k (take n (drop p keys)) (drop n (drop p keys)) h)

  front_all : (k : ℕ) → Has k (take p keys) → ContainsKey old k
  front_all k m = h.all k (subst (λ (ks : List ℕ). Has k ks) (take-append-drop p keys)
      (has_front k (take p keys) (drop p keys) m))

  back_all : (k : ℕ) → Has k (drop (p + n) keys) → ContainsKey old k
  back_all k m = h.all k (subst (λ (ks : List ℕ). Has k ks) (take-append-drop p keys)
      (has_back k (take p keys) (drop p keys) (back_in k m)))

  front_out : (k : ℕ) → Has k (take p keys) → Has k (take n (drop p keys)) → ⊥
  front_out k h g = once_apart (take p keys) (drop p keys) k parts h (block_in k g)

  back_out : (k : ℕ) → Has k (drop (p + n) keys) → Has k (take n (drop p keys)) → ⊥
  back_out k h g = once_apart (take n (drop p keys)) (drop n (drop p keys)) k inner g (back_is k h)

  known : (k : ℕ) → ContainsKey old k → (Has k (take n (drop p keys)) → ⊥) → ContainsKey now k
  known k s f = subst (λ (o : Option Cell). IsSome o) (sym (a.others k f)) s

  stays : (k : ℕ) → ContainsKey old k → (Has k (take n (drop p keys)) → ⊥) → get new k ≡ get old k
  stays k s f = put.others k (known k s f) ∙ a.others k f

  held : (k : ℕ) → ContainsKey old k → (Has k (take n (drop p keys)) → ⊥) → ContainsKey new k
  held k s f = subst (λ (o : Option Cell). IsSome o) (sym (stays k s f)) s

  differ : (k : ℕ) → Has k fresh → ContainsKey old k → (Has k (take n (drop p keys)) → ⊥) → ⊥
  differ k h s f = none_some (get now k) (put.fresh k h) (known k s f)

  moved : IsHeld new (take p keys ++ (fresh ++ drop (p + n) keys))
      (take p (gaps_held old keys) ++ (gaps_held new fresh ++ drop (p + n) (gaps_held old keys)))
  moved = record {
    gaps = map-append (λ (k : ℕ). gap_in (get new k)) (take p keys) (fresh ++ drop (p + n) keys)
        ∙ ap (λ gs. gaps_held new (take p keys) ++ gs)
        (map-append (λ (k : ℕ). gap_in (get new k)) fresh (drop (p + n) keys))
        ∙ ap (λ gs. gs ++ (gaps_held new fresh ++ gaps_held new (drop (p + n) keys)))
        (held_same old new (take p keys) (λ k h. stays k (front_all k h) (front_out k h))
        ∙ sym (take-map (λ (k : ℕ). gap_in (get old k)) p keys))
        ∙ ap (λ gs. take p (gaps_held old keys) ++ (gaps_held new fresh ++ gs))
        (held_same old new (drop (p + n) keys) (λ k h. stays k (back_all k h) (back_out k h))
        ∙ sym (drop-map (λ (k : ℕ). gap_in (get old k)) (p + n) keys));
    once = once_append (take p keys) (fresh ++ drop (p + n) keys)
        (once_front (take p keys) (drop p keys) parts)
        (once_append fresh (drop (p + n) keys) put.once back_once
        (λ k h g. differ k h (back_all k g) (back_out k g)))
        (λ k h g. elim (has_append k fresh (drop (p + n) keys) g) [
          | inl i ↦ differ k i (front_all k h) (front_out k h)
          | inr i ↦ once_apart (take p keys) (drop p keys) k parts h (back_in k i)
        ]);
    all = λ k h. elim (has_append k (take p keys) (fresh ++ drop (p + n) keys) h) [
      | inl i ↦ held k (front_all k i) (front_out k i)
      | inr i ↦ elim (has_append k fresh (drop (p + n) keys) i)
          [ inl j ↦ put.all k j | inr j ↦ held k (back_all k j) (back_out k j) ]
    ];
    count =
        (let b = h.count in
        let c = a.count in
        let d = put.count in
        let drops = length-drop p keys in
        let taken = length-take-le n (drop p keys) (omega (arith, drops, w)) in
        let front = length-take-le p keys (omega (arith, w)) in
        let back = length-drop (p + n) keys in
        let all = length-append (take p keys) (fresh ++ drop (p + n) keys) in
        let rest = length-append fresh (drop (p + n) keys) in
        omega (arith, w, b, c, d, taken, front, back, all, rest));
  }

-- ---- a block as a program takes it
closing_is : (closing keys : List ℕ) (p n : ℕ) → closing ≡ take (n + 1) (drop p keys)
    → closing ≡ take (suc n) (drop p keys)
closing_is closing keys p n e = e ∙ ap (λ (i : ℕ). take i (drop p keys)) (add-one n)

pub once_block : (closing keys : List ℕ) (p n : ℕ) → closing ≡ take (n + 1) (drop p keys)
    → Once keys → Once closing
once_block closing keys p n e o =
    subst Once (sym (closing_is closing keys p n e))
    (once_front (take (suc n) (drop p keys)) (drop (suc n) (drop p keys))
    (subst Once (sym (take-append-drop (suc n) (drop p keys)))
    (once_back (take p keys) (drop p keys) (subst Once (sym (take-append-drop p keys)) o))))

pub all_block : (slab : Slab Cell) (closing keys : List ℕ) (p n : ℕ)
    → closing ≡ take (n + 1) (drop p keys) → ((k : ℕ) → Has k keys → ContainsKey slab k) → (k : ℕ)
    → Has k closing → ContainsKey slab k
all_block slab closing keys p n e all k h =
    let i = has_front k (take (n + 1) (drop p keys)) (drop (n + 1) (drop p keys))
    (subst (λ (ks : List ℕ). Has k ks) e h) in
    let j = has_back k (take p keys) (drop p keys)
    (subst (λ (ks : List ℕ). Has k ks) (take-append-drop (n + 1) (drop p keys)) i) in
    all k (subst (λ (ks : List ℕ). Has k ks) (take-append-drop p keys) j)

pub closed_after : (old now : Slab Cell) (closing keys : List ℕ) (p n : ℕ) (before after : List Gap)
    → closing ≡ take (n + 1) (drop p keys) → AreClosed old now closing before after
    → after ≡ before ++ filter is_real (take (suc n) (drop p (gaps_held old keys)))
closed_after old now closing keys p n before after e a =
    let gap_at = λ (k : ℕ). gap_in (get old k) in
    a.closed
    ∙ ap (λ (ks : List ℕ). before ++ filter is_real (gaps_held old ks))
    (closing_is closing keys p n e)
    ∙ ap (λ gs. before ++ filter is_real gs) (sym (take-map gap_at (suc n) (drop p keys))
    ∙ ap (λ gs. take (suc n) gs) (sym (drop-map gap_at p keys)))

pub held_after : (old now new : Slab Cell) (closing keys keys' fresh : List ℕ) (p n : ℕ)
    (opened before after : List Gap)
    → closing ≡ take (n + 1) (drop p keys) → p + n + 1 ≤ length keys
    → IsHeld old keys (gaps_held old keys) → AreClosed old now closing before after
    → ArePut now new fresh → gaps_held new fresh ≡ opened
    → keys' ≡ take p keys ++ (fresh ++ drop (p + (n + 1)) keys)
    → IsHeld new keys'
    (take p (gaps_held old keys) ++ (opened ++ drop (suc (p + n)) (gaps_held old keys)))
held_after old now new closing keys keys' fresh p n opened before after e w h a put g q =
    let gaps = gaps_held old keys in
    let keys_are = q
    ∙ ap (λ (k : ℕ). take p keys ++ (fresh ++ drop k keys)) (one p n) in
    subst (λ (ks : List ℕ). IsHeld new ks (take p gaps ++ (opened ++ drop (suc (p + n)) gaps)))
    (sym keys_are)
    (subst (λ (gs : List Gap). IsHeld new (take p keys ++ (fresh ++ drop (p + suc n) keys))
    (take p gaps ++ (gs ++ drop (suc (p + n)) gaps))) g
    (subst (λ (k : ℕ). IsHeld new (take p keys ++ (fresh ++ drop (p + suc n) keys))
    (take p gaps ++ (gaps_held new fresh ++ drop k gaps))) (two p n)
    (moved old now new keys fresh p (suc n) before after (omega (arith, w)) h
    (subst (λ (ks : List ℕ). AreClosed old now ks before after) (closing_is closing keys p n e) a)
    put)))
  where
    one : (p n : ℕ) → p + (n + 1) ≡ p + suc n
    one p n = omega arith

    two : (p n : ℕ) → p + suc n ≡ suc (p + n)
    two p n = omega arith
