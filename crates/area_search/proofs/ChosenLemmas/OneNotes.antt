-- Where the labels are the same, so are the roots, the least ranks and the first links.
use Rattle.std.proofs.Common.{◌≡◌, ◌⊎◌, ◌↔◌, inl, inr, ℕ, suc, ◌*◌, ◌<◌, ◌≤◌, pos, List, [], length}
use Rattle.std.proofs.Common.{get_or, refl, arith, ap, sym, ◌∙◌, subst}
use Rattle.std.specs.Prelude.{⊤}
use Rattle.std.proofs.lemmas.List.{same_lists}
use Rattle.plane.specs.Faces.Classes.{Across, Next}
use Rattle.plane.specs.Faces.Halves.{Half, edge_of, half_of, mark, number, over, under}
use Rattle.plane.specs.Rule.Plans.{Plan}
use Rattle.plane.specs.Runs.Moves.{steps_from}
use Rattle.plane.specs.Runs.Steps.{Run}
use Rattle.plane.specs.Runs.Timetables.{Timed}
use Rattle.plane.proofs.Turning.FanNumbers.{below_number}
use Rattle.plane.proofs.Turning.Numbering.{number_half}
use Rattle.certificate.specs.declared.notes.HalfNote.{HalfNote}
use Rattle.certificate.specs.declared.notes.Link.{Link}
use Rattle.certificate.specs.declared.notes.Link.TheVariants as link
use Rattle.certificate.specs.declared.notes.PointPlace.{PointPlace}
use Rattle.certificate_checker.specs.Rules.{IsRootOf}
use Rattle.certificate_checker.specs.Subjects.{Subject, edge, labels, moves, note_at, rank}
use Rattle.certificate_checker.specs.Subjects.{replay_of}
use Rattle.certificate_checker.specs.Verdicts.{AllRules, IsTableOf}
use Rattle.certificate_checker.proofs.Entries.{by_lt, entry}
use Rattle.certificate_checker.proofs.Proving.{tubed}
use Rattle.area_search.specs.Chosen.{AcrossIsLess, IsChosenNote, IsFirstLink, IsOneLess, MayBeRoot}
use Rattle.area_search.specs.Chosen.{NextIsLess, PreviousIsLess}
use Rattle.area_search.proofs.ChosenLemmas.KeptLabels.{across_fits, next_fits, previous_fits}
use Rattle.area_search.proofs.ChosenLemmas.OneLabels.{one_label}
use Rattle.area_search.proofs.ChosenLemmas.OnePositions.{told}

abbrev no_note : HalfNote
no_note = record { label = 0; link = link.Root; rank = 0 }

-- a note by its three parts
same_note : (n k : HalfNote) → n.label ≡ k.label → n.link ≡ k.link → n.rank ≡ k.rank → n ≡ k
same_note n k p q r = λ i. record { label = p i; link = q i; rank = r i }

-- ---- the first of N, P and C of which something holds is one
abbrev Leads : Type 0 → Type 0 → (ℕ → Type 0) → Link → Type 0
Leads N P C link.Root = ⊤
Leads N P C link.Next = N
Leads N P C link.Prev = P × (N → ⊥)
Leads N P C (link.Across n) = C n × (N → ⊥) × (P → ⊥) × ((m : ℕ) → m < n → C m → ⊥)

next_root : link.Next ≡ link.Root → ⊥
next_root e = cc

prev_root : link.Prev ≡ link.Root → ⊥
prev_root e = cc

across_root : (n : ℕ) → link.Across n ≡ link.Root → ⊥
across_root n e = cc

same_link : (N P : Type 0) (C : ℕ → Type 0) (M Q : Type 0) (D : ℕ → Type 0) → N ↔ M → P ↔ Q
    → ((n : ℕ) → C n ↔ D n) → (k l : Link) → (k ≡ link.Root) ↔ (l ≡ link.Root) → Leads N P C k
    → Leads M Q D l → k ≡ l
same_link N P C M Q D n p c link.Root l r x y = sym (r.0 refl)
same_link N P C M Q D n p c link.Next link.Root r x y = absurd (next_root (r.1 refl))
same_link N P C M Q D n p c link.Next link.Next r x y = refl
same_link N P C M Q D n p c link.Next link.Prev r x y = absurd (y.1 (n.0 x))
same_link N P C M Q D n p c link.Next (link.Across j) r x y = absurd (y.1 (n.0 x))
same_link N P C M Q D n p c link.Prev link.Root r x y = absurd (prev_root (r.1 refl))
same_link N P C M Q D n p c link.Prev link.Next r x y = absurd (x.1 (n.1 y))
same_link N P C M Q D n p c link.Prev link.Prev r x y = refl
same_link N P C M Q D n p c link.Prev (link.Across j) r x y = absurd (y.2 (p.0 x.0))
same_link N P C M Q D n p c (link.Across i) link.Root r x y = absurd (across_root i (r.1 refl))
same_link N P C M Q D n p c (link.Across i) link.Next r x y = absurd (x.1 (n.1 y))
same_link N P C M Q D n p c (link.Across i) link.Prev r x y = absurd (x.2 (p.1 y.0))
same_link N P C M Q D n p c (link.Across i) (link.Across j) r x y =
    by_lt i j (λ (l : i < j). absurd (y.3 i l ((c i).0 x.0)))
    (λ (l : j ≤ i). by_lt j i (λ (h : j < i). absurd (x.3 j h ((c j).1 y.0)))
    (λ (h : i ≤ j). ap (λ (n : ℕ). link.Across n) (equal i j l h)))
  where
    equal : (i j : ℕ) → j ≤ i → i ≤ j → i ≡ j
    equal i j l h = omega (arith, l, h)

-- ---- what one says of the other, where the labels of both are one
module _ (d : Plan) (table : List Timed) (level : ℕ) (is_table : IsTableOf d level table)
    (ps : List ℕ) (ns ms : List HalfNote) (xs : List PointPlace) where
  abbrev s : Subject
  s = told d table level ps ns xs

  abbrev t : Subject
  t = told d table level ps ms xs

  module _ (a : AllRules s) (b : AllRules t) where
    abbrev m : ℕ
    m = length s.edges

    run : Run m (edge s) (steps_from [] (moves s))
    run = (tubed d s.claims table is_table a).run

    root_by : (h : Half) → edge_of h < m → IsRootOf s h → IsRootOf t h
    root_by h l (inl f) = inl (record { of_tube = f.of_tube; is = f.is })
    root_by h l (inr (inl (z, k))) = inr
        (inl (one_label d table level is_table ps ns ms xs a b h l ∙ z, k))
    root_by h l (inr (inr (j, k, e, inl c))) =
        inr (inr (
          j,
          k,
          one_label d table level is_table ps ns ms xs a b h l ∙ e,
          inl
              (record { cell = c.cell; beside = c.beside }),
        ))
    root_by h l (inr (inr (j, k, e, inr c))) =
        inr (inr (
          j,
          k,
          one_label d table level is_table ps ns ms xs a b h l ∙ e,
          inr (record {
            curve = c.curve;
            inside = c.inside;
            tube = c.tube;
            outside = record
                { of_curve = c.outside.of_curve; part = c.outside.part; is = c.outside.is };
          }),
        ))

    pub root_to : (h : Half) → MayBeRoot s h → MayBeRoot t h
    root_to h k = (k.0, root_by h k.0 k.1)

    -- the rank of the second is not greater
    pub rank_most : (h : Half) → edge_of h < m → IsChosenNote s h → IsChosenNote t h
        → rank t h ≤ rank s h
    rank_most h l f g = g.rank_is.least (rank s h) f.rank_is.root
        (root_to f.rank_is.root f.rank_is.may_be) f.rank_is.leads

    -- ---- ranks of both are one
    module _ (ranks : (h : Half) → edge_of h < m → rank s h ≡ rank t h) where
      less_to : (h g : Half) → edge_of h < m → edge_of g < m → IsOneLess s h g → IsOneLess t h g
      less_to h g l k e = let p = ranks h l in let q = ranks g k in omega (arith, e, p, q)

      pub next_to : (h : Half) → edge_of h < m → NextIsLess s h → NextIsLess t h
      next_to h l
          (g, y, e) = (
            g,
            y,
            less_to h g l
                (next_fits (pos 0) m (edge s) (steps_from [] (moves s)) run h g y) e,
          )

      pub previous_to : (h : Half) → edge_of h < m → PreviousIsLess s h → PreviousIsLess t h
      previous_to h l
          (g, y, e) = (
            g,
            y,
            less_to h g l
                (previous_fits (pos 0) m (edge s) (steps_from [] (moves s)) run g h y) e,
          )

      pub across_to : (h g : Half) → edge_of h < m → AcrossIsLess s h g → AcrossIsLess t h g
      across_to h g l
          (y, e) = (
            y,
            less_to h g l
                (across_fits (pos 0) m (edge s) (steps_from [] (moves s)) run h g y) e,
          )

-- ---- the notes of both
module _ (d : Plan) (table : List Timed) (level : ℕ) (is_table : IsTableOf d level table)
    (ps : List ℕ) (ns ms : List HalfNote) (xs : List PointPlace) where
  abbrev first : Subject
  first = told d table level ps ns xs

  abbrev second : Subject
  second = told d table level ps ms xs

  as_leads : (s : Subject) (h : Half) (k : Link) → IsFirstLink s h k
      → Leads (NextIsLess s h) (PreviousIsLess s h) (λ n. AcrossIsLess s h (half_of n)) k
  as_leads s h link.Root x = x
  as_leads s h link.Next x = x
  as_leads s h link.Prev x = x
  as_leads s h (link.Across n) x = x

  module _ (a : AllRules first) (b : AllRules second)
      (f : (h : Half) → edge_of h < length first.edges → IsChosenNote first h)
      (g : (h : Half) → edge_of h < length first.edges → IsChosenNote second h) where
    abbrev n : ℕ
    n = length first.edges

    ranks : (h : Half) → edge_of h < n → rank first h ≡ rank second h
    ranks h l =
        let p = rank_most d table level is_table ps ns ms xs a b h l (f h l) (g h l) in
        let q = rank_most d table level is_table ps ms ns xs b a h l (g h l) (f h l) in
        omega (arith, p, q)

    ranks_back : (h : Half) → edge_of h < n → rank second h ≡ rank first h
    ranks_back h l = sym (ranks h l)

    links : (h : Half) → edge_of h < n → (note_at first h).link ≡ (note_at second h).link
    links h l =
        same_link (NextIsLess first h) (PreviousIsLess first h)
        (λ x. AcrossIsLess first h (half_of x)) (NextIsLess second h) (PreviousIsLess second h)
        (λ x. AcrossIsLess second h (half_of x)) (
          next_to d table level is_table ps ns ms xs a b ranks h l,
          next_to d table level is_table ps
              ms ns xs b a ranks_back h l,
        ) (
          previous_to d table level is_table ps ns ms xs a b ranks h l,
          previous_to d table level
              is_table ps ms ns xs b a ranks_back h l,
        )
        (λ x. (
          across_to d table level is_table ps ns ms xs a b ranks h
              (half_of x) l,
          across_to d table level is_table ps ms ns xs b a ranks_back h (half_of x) l,
        ))
        (note_at first h).link (note_at second h).link (
          (λ e. (g h l).root.1
              (root_to d table level is_table ps ns ms xs a b h ((f h l).root.0 e))),
          (λ e. (f h l).root.1
              (root_to d table level is_table ps ms ns xs b a h ((g h l).root.0 e))),
        )
        (as_leads first h (note_at first h).link (f h l).first)
        (as_leads second h (note_at second h).link (g h l).first)

    label_of : (s : Subject) (h : Half) → mark (labels s) h ≡ (note_at s h).label
    label_of s (under e) = refl
    label_of s (over e) = refl

    one_note : (h : Half) → edge_of h < n → note_at first h ≡ note_at second h
    one_note h l =
        same_note (note_at first h) (note_at second h)
        (sym (label_of first h) ∙ sym (one_label d table level is_table ps ns ms xs a b h l)
        ∙ label_of second h) (links h l) (ranks h l)

    pub notes_are : ns ≡ ms
    notes_are =
        same_lists ns ms (a.counts.notes ∙ sym b.counts.notes)
        (λ k x l. entry ns k x no_note l ∙ at_number k l ∙ entry ms k no_note x
        (let i = a.counts.notes in let j = b.counts.notes in omega (arith, l, i, j)))
      where
        at_number : (k : ℕ) → k < length ns → get_or ns k no_note ≡ get_or ms k no_note
        at_number k l =
            let i : k < 2 * n = (let e = a.counts.notes in omega (arith, l, e)) in
            let c = one_note (half_of k)
            (below_number (half_of k) n (subst (λ (x : ℕ). x < 2 * n) (sym (number_half k)) i)) in
            sym (ap (λ (x : ℕ). get_or ns x no_note) (number_half k)) ∙ c ∙ ap
            (λ (x : ℕ). get_or ms x no_note) (number_half k)
