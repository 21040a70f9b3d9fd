-- The ends of a list at one point, as a loop copies them.
use Rattle.std.proofs.Common.{◌≡◌, ℕ, ◌+◌, ◌-◌, ◌<◌, ◌≤◌, List, [], ◌∷◌, ◌++◌, length, take, drop}
use Rattle.std.proofs.Common.{get_or, arith, ap, sym, ◌∙◌, subst}
use Rattle.std.proofs.lemmas.List.{get_or-drop, length-drop, length-take-le, take_more}
use Rattle.plane.specs.declared.kinds.Point.{Point}
use Rattle.straight_predicates.specs.Tables.{IsGroup}
use Rattle.straight_predicates.specs.declared.slots.End.{End}
use Rattle.straight_predicates.proofs.Orders.{by_lt}

pub one_copied : (ends : List End) (from n : ℕ) (group new : List End) (z : End)
    → from + n < length ends → group ≡ take n (drop from ends)
    → ((d : End) → z ≡ get_or ends (from + n) d) → new ≡ group ++ z ∷ []
    → new ≡ take (n + 1) (drop from ends)
one_copied ends from n group new z l e f h =
    h ∙ ap (λ zs. zs ++ z ∷ []) e
    ∙ ap (λ (y : End). take n (drop from ends) ++ y ∷ []) (f z ∙ sym (get_or-drop from ends n z))
    ∙ sym (take_more (drop from ends) n z (let s = length-drop from ends in omega (arith, l, s)))

-- the first n of the ends from a place on lie at the point
abbrev pub AreAt : List End → ℕ → ℕ → Point → Type 0
AreAt ends from n at = (k : ℕ) (d : End) → k < n → (get_or (drop from ends) k d).at ≡ at

pub one_more : (ends : List End) (from n : ℕ) (at : Point) (z : End) → AreAt ends from n at
    → ((d : End) → z ≡ get_or ends (from + n) d) → z.at ≡ at → AreAt ends from (n + 1) at
one_more ends from n at z f g e k d l =
    by_lt k n (λ h. f k d h)
    (λ h.
    let q : k ≡ n = omega (arith, h, l) in
    subst (λ (j : ℕ). (get_or (drop from ends) j d).at ≡ at) (sym q)
    (ap (λ (y : End). y.at) (get_or-drop from ends n d ∙ sym (g d)) ∙ e))

-- so many were copied, and all lie at the point
pub record AreCopied (ends group : List End) (from n : ℕ) (at : Point) : Type 0 where
  pub copied : group ≡ take n (drop from ends)
  pub place : AreAt ends from n at

pub none_copied : (ends group : List End) (from : ℕ) (at : Point) → group ≡ []
    → AreCopied ends group from 0 at
none_copied ends group from at e = record { copied = e; place = λ k d l. absurd (omega (arith, l)) }

sized : (ends group : List End) (from n : ℕ) (at : Point) → from < length ends
    → n ≤ length ends - from → AreCopied ends group from n at → length group ≡ n
sized ends group from n at l m c =
    ap length c.copied ∙ length-take-le n (drop from ends) (let q = length-drop from ends in
    omega (arith, l, m, q))

pub as_long : (ends group : List End) (from n : ℕ) (at : Point) → from < length ends
    → n ≤ length ends - from → AreCopied ends group from n at
    → group ≡ take (length group) (drop from ends)
as_long ends group from n at l m c =
    c.copied ∙ ap (λ (k : ℕ). take k (drop from ends)) (sym (sized ends group from n at l m c))

pub ends_at : (ends group : List End) (from n : ℕ) (first z : End)
    → ((d : End) → first ≡ get_or ends from d) → from < length ends → n < length ends - from
    → AreCopied ends group from n first.at → ((d : End) → z ≡ get_or ends (from + n) d)
    → (z.at ≡ first.at → ⊥) → IsGroup (drop from ends) (length group)
ends_at ends group from n first z s l m c g bad =
    subst (IsGroup (drop from ends)) (sym (sized ends group from n first.at l (omega (arith, m)) c))
    (record {
      some = some;
      within = let q = length-drop from ends in omega (arith, l, m, q);
      one = λ k d h. c.place k d h ∙ sym (c.place 0 d some);
      next = λ d h e. bad (ap (λ (y : End). y.at) (g d ∙ sym (get_or-drop from ends n d)) ∙ e
          ∙ c.place 0 d some);
    })
  where
    none : (m : ℕ) → m ≡ 0 → from + m ≡ from
    none m q = omega (arith, q)

    some : 0 < n
    some =
        by_lt 0 n (λ h. h)
        (λ h.
        let q : n ≡ 0 = omega (arith, h) in
        absurd (bad (ap (λ (y : End). y.at) (g z ∙ ap (λ (k : ℕ). get_or ends k z) (none n q)
        ∙ sym (s z)))))

pub ends_left : (ends group : List End) (from n : ℕ) (at : Point) → from < length ends
    → n ≤ length ends - from → length ends - from ≤ n → AreCopied ends group from n at
    → IsGroup (drop from ends) (length group)
ends_left ends group from n at l m w c =
    subst (IsGroup (drop from ends)) (sym (sized ends group from n at l m c))
    (record {
      some = omega (arith, l, w);
      within = let q = length-drop from ends in omega (arith, m, q);
      one = λ k d h. c.place k d h ∙ sym (c.place 0 d (omega (arith, l, w)));
      next = λ d h e. absurd (let q = length-drop from ends in omega (arith, h, q, w));
    })
