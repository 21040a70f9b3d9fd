-- Marks of the curves of the first pairs of a list.
use Rattle.std.proofs.Common.{◌≡◌, ◌↔◌, ◌⊎◌, inl, inr, ℕ, suc, ◌+◌, ◌<◌, ◌≤◌, ◌≢◌, Bool, true}
use Rattle.std.proofs.Common.{false, List, length, zero, get_or, set, sym, ◌∙◌, ap, subst, arith}
use Rattle.std.proofs.lemmas.List.{get_or_default, get_or-set_other, get_or-set_same}
use Rattle.fault_lists.specs.FaultLists.{IsMet}
use Rattle.near_pairs.specs.Boxes.{mark_of}
use Rattle.fault_lists.specs.declared.kinds.MeetingAt.{MeetingAt}

by_lt : {P : Type 0} (i j : ℕ) → (i < j → P) → (j ≤ i → P) → P
by_lt zero zero f g = g (omega arith)
by_lt zero (suc j) f g = f (omega arith)
by_lt (suc i) zero f g = g (omega arith)
by_lt (suc i) (suc j) f g = by_lt i j (λ l. f (omega (arith, l))) (λ l. g (omega (arith, l)))

-- ---- one mark
pub marked_one : (marks : List Bool) (n i : ℕ) → n < length marks
    → (mark_of (set marks n true) i ≡ true) ↔ ((mark_of marks i ≡ true) ⊎ (n ≡ i))
marked_one marks n i l =
    by_lt n i (λ (a : n < i). other (λ e. omega (arith, a, e)))
    (λ (b : i ≤ n). by_lt i n (λ (a : i < n). other (λ e. omega (arith, a, e)))
    (λ (a : n ≤ i). same (omega (arith, a, b))))
  where
    same : n ≡ i → (mark_of (set marks n true) i ≡ true) ↔ ((mark_of marks i ≡ true) ⊎ (n ≡ i))
    same e = (
      (λ x. inr e),
      (λ y. subst (λ (j : ℕ). get_or (set marks n true) j false ≡ true) e
          (get_or-set_same marks n true false l)),
    )

    other : n ≢ i → (mark_of (set marks n true) i ≡ true) ↔ ((mark_of marks i ≡ true) ⊎ (n ≡ i))
    other d = (
      (λ x. inl (sym (get_or-set_other marks n i true false (λ e. d (sym e))) ∙ x)),
      (λ y. elim y [
        | inl a ↦ get_or-set_other marks n i true false (λ e. d (sym e)) ∙ a
        | inr e ↦ absurd (d e)
      ]),
    )

-- ---- the curves of the first n pairs
pub record IsAmong (ms : List MeetingAt) (n : ℕ) (m : MeetingAt) : Type 0 where
  pub k : ℕ
  pub first : k < n
  pub there : k < length ms
  pub is : get_or ms k m ≡ m

abbrev pub IsOf : MeetingAt → ℕ → Type 0
IsOf m i = (m.first ≡ i) ⊎ (m.second ≡ i)

abbrev pub IsMetBelow : List MeetingAt → ℕ → ℕ → Type 0
IsMetBelow ms n i = (m : MeetingAt) × IsAmong ms n m × IsOf m i

abbrev pub AreMarked : List MeetingAt → ℕ → List Bool → Type 0
AreMarked ms n marks = (i : ℕ) → (mark_of marks i ≡ true) ↔ IsMetBelow ms n i

pub none_marked : (ms : List MeetingAt) (marks : List Bool) → ((i : ℕ) → mark_of marks i ≡ false)
    → AreMarked ms 0 marks
none_marked ms marks e i = ((λ x. absurd (unmarked (sym (e i) ∙ x))), (λ x. none_below x))
  where
    unmarked : false ≡ true → ⊥
    unmarked q = cc

    none_below : IsMetBelow ms 0 i → mark_of marks i ≡ true
    none_below x = let l = x.1.first in absurd (omega (arith, l))

-- one pair more
pub marked_next : (ms : List MeetingAt) (n : ℕ) (d : MeetingAt) (marks once both : List Bool)
    → n < length ms
    → ((i : ℕ) → (mark_of once i ≡ true) ↔ ((mark_of marks i ≡ true) ⊎ ((get_or ms n d).first ≡ i)))
    → ((i : ℕ) → (mark_of both i ≡ true) ↔ ((mark_of once i ≡ true) ⊎ ((get_or ms n d).second ≡ i)))
    → AreMarked ms n marks → AreMarked ms (n + 1) both
marked_next ms n d marks once both l f s m i = ((λ x. into ((s i).0 x)), (λ x. out x))
  where
    here : IsAmong ms (n + 1) (get_or ms n d)
    here = record {
      k = n;
      first = omega arith;
      there = l;
      is = get_or_default ms n (get_or ms n d) d l;
    }

    later : (p : MeetingAt) → IsAmong ms n p → IsAmong ms (n + 1) p
    later p a = record {
      k = a.k;
      first = (let b = a.first in omega (arith, b));
      there = a.there;
      is = a.is;
    }

    before : (mark_of once i ≡ true) → IsMetBelow ms (n + 1) i
    before x = elim ((f i).0 x) [
      | inl a ↦ (let b = (m i).0 a in (b.0, later b.0 b.1, b.2))
      | inr e ↦ (get_or ms n d, here, inl e)
    ]

    into : (mark_of once i ≡ true) ⊎ ((get_or ms n d).second ≡ i) → IsMetBelow ms (n + 1) i
    into (inl x) = before x
    into (inr e) = (get_or ms n d, here, inr e)

    old : IsMetBelow ms n i → mark_of both i ≡ true
    old x = (s i).1 (inl ((f i).1 (inl ((m i).1 x))))

    last : (p : MeetingAt) → get_or ms n d ≡ p → IsOf p i → mark_of both i ≡ true
    last p e (inl q) = (s i).1 (inl ((f i).1 (inr (ap (λ (o : MeetingAt). o.first) e ∙ q))))
    last p e (inr q) = (s i).1 (inr (ap (λ (o : MeetingAt). o.second) e ∙ q))

    out : IsMetBelow ms (n + 1) i → mark_of both i ≡ true
    out x =
        let a = x.1.first in
        by_lt x.1.k n
        (λ (b : x.1.k < n). old (
          x.0,
          record {
            k = x.1.k;
            first = b;
            there = x.1.there;
            is = x.1.is;
          },
          x.2,
        ))
        (λ (b : n ≤ x.1.k). last x.0 (get_or_default ms n d x.0 l
        ∙ (ap (λ (j : ℕ). get_or ms j x.0) (omega (arith, a, b)) ∙ x.1.is)) x.2)

pub all_marked : (ms : List MeetingAt) (n : ℕ) (marks : List Bool) → length ms ≤ n
    → AreMarked ms n marks
    → (i : ℕ) → (mark_of marks i ≡ true) ↔ IsMet ms i
all_marked ms n marks l m i = (
  (λ x. let a = (m i).0 x in (a.0, (a.1.k, a.1.there, a.1.is), a.2)),
  (λ a. (m i).1 (
    a.0,
    record {
      k = a.1.0;
      first = (let b = a.1.1 in omega (arith, l, b));
      there = a.1.1;
      is = a.1.2;
    },
    a.2,
  )),
)
