-- The ends of one point: which edges end and start there.
use Rattle.std.proofs.Common.{◌≡◌, ℕ, zero, suc, ◌+◌, ◌-◌, ◌<◌, ◌≤◌, inl, inr, Bool, true, false}
use Rattle.std.proofs.Common.{cond, List, [], ◌∷◌, ◌++◌, length, take, drop, get_or, refl, arith}
use Rattle.std.proofs.Common.{ap, sym, ◌∙◌, subst, append_assoc, append-nil, All}
use Rattle.std.proofs.Common.{Option, Some, None}
use Rattle.std.proofs.lemmas.List.{take_more, take-append-drop, get_or-take}
use Rattle.std.proofs.lemmas.List.{length-append, length-take-le}
use Rattle.std.proofs.Math.Seq.{take-append_seam, drop-append_seam, drop-nil}
use Rattle.std.specs.Option.{is_some}
use Rattle.std.specs.List.Sorted.{IsPermutation, IsSortedBy}
use Rattle.std.proofs.lemmas.List.Sorted.{IsPermutation-sym, IsPermutation-map, All-permutation}
use Rattle.std.proofs.lemmas.List.Sorted.{IsPermutation-refl, length_permutation}
use Rattle.plane.specs.declared.kinds.Point.{Point}
use Rattle.plane.specs.declared.kinds.Edge.{Edge}
use Rattle.plane.specs.Forms.Vectors.{Before}
use Rattle.plane.specs.Lists.{Has, Neighbours, Once}
use Rattle.plane.specs.Runs.Timetables.{Timed, BySlope}
use Rattle.plane.proofs.ListLemmas.Lists.{each_has, each_from, first_from, has_front, has_back}
use Rattle.plane.proofs.ListLemmas.Lists.{neighbours_map, neighbours_front, neighbours_back}
use Rattle.plane.proofs.ListLemmas.SortedLists.{first_before}
use Rattle.plane.proofs.MoveLemmas.OneTimetable.{before_trans}
use Rattle.straight_predicates.specs.EdgeLists.{edge_of}
use Rattle.straight_predicates.specs.Slopes.{IsRayOf, ray_edges, ray_lt}
use Rattle.straight_predicates.specs.Slots.{part_of, timed_at}
use Rattle.straight_predicates.specs.Tables.{AddsEvent, AddsStarting, AreEndsOf, ComesFirst}
use Rattle.straight_predicates.specs.Tables.{IsEndOf, IsGroup, IsGroupOf, IsTimedBy, ending_of}
use Rattle.straight_predicates.specs.Tables.{starting_of}
use Rattle.straight_predicates.specs.declared.rays.Ray.{Ray}
use Rattle.straight_predicates.specs.declared.slots.End.{End}
use Rattle.straight_predicates.specs.declared.slots.Slot.{Slot}
use Rattle.straight_predicates.proofs.Ends.{never}
use Rattle.straight_predicates.proofs.Filling.{map_has}
use Rattle.straight_predicates.proofs.Permutations.{contains, has_permutation, once_permutation}
use Rattle.straight_predicates.proofs.Permutations.{sorted_neighbours}
use Rattle.straight_predicates.proofs.RayOrder.{rays_by_slope}

-- ---- one end more
ending_more : (zs : List End) (z : End)
    → ending_of (zs ++ z ∷ []) ≡ ending_of zs ++ cond z.starts [] (z.edge ∷ [])
ending_more [] z = refl
ending_more (y ∷ zs) z = by_side y.starts (ending_more zs z)
  where
    by_side : (b : Bool) → ending_of (zs ++ z ∷ []) ≡ ending_of zs ++ cond z.starts [] (z.edge ∷ [])
        → cond b (ending_of (zs ++ z ∷ [])) (y.edge ∷ ending_of (zs ++ z ∷ []))
        ≡ cond b (ending_of zs) (y.edge ∷ ending_of zs) ++ cond z.starts [] (z.edge ∷ [])
    by_side true r = r
    by_side false r = ap (λ (es : List ℕ). y.edge ∷ es) r

starting_more : (zs : List End) (z : End)
    → starting_of (zs ++ z ∷ []) ≡ starting_of zs ++ cond z.starts (z.edge ∷ []) []
starting_more [] z = refl
starting_more (y ∷ zs) z = by_side y.starts (starting_more zs z)
  where
    by_side : (b : Bool)
        → starting_of (zs ++ z ∷ []) ≡ starting_of zs ++ cond z.starts (z.edge ∷ []) []
        → cond b (y.edge ∷ starting_of (zs ++ z ∷ [])) (starting_of (zs ++ z ∷ []))
        ≡ cond b (y.edge ∷ starting_of zs) (starting_of zs) ++ cond z.starts (z.edge ∷ []) []
    by_side false r = r
    by_side true r = ap (λ (es : List ℕ). y.edge ∷ es) r

pub edges_more : (rays : List Ray) (r : Ray)
    → ray_edges (rays ++ r ∷ []) ≡ ray_edges rays ++ r.edge ∷ []
edges_more [] r = refl
edges_more (s ∷ rays) r = ap (λ (es : List ℕ). s.edge ∷ es) (edges_more rays r)

module _ (group : List End) (i : ℕ) (d : End) (l : i < length group) (now new : List ℕ) where
  ending_step : (old : List ℕ) → now ≡ old ++ ending_of (take i group)
      → new ≡ now ++ cond (get_or group i d).starts [] ((get_or group i d).edge ∷ [])
      → new ≡ old ++ ending_of (take (i + 1) group)
  ending_step old e f =
      let z = get_or group i d in
      f ∙ ap (λ (es : List ℕ). es ++ cond z.starts [] (z.edge ∷ [])) e
      ∙ append_assoc old (ending_of (take i group)) (cond z.starts [] (z.edge ∷ []))
      ∙ ap (λ (es : List ℕ). old ++ es)
      (sym (ap ending_of (take_more group i d l) ∙ ending_more (take i group) z))

  starting_step : now ≡ starting_of (take i group)
      → new ≡ now ++ cond (get_or group i d).starts ((get_or group i d).edge ∷ []) []
      → new ≡ starting_of (take (i + 1) group)
  starting_step e f =
      let z = get_or group i d in
      f ∙ ap (λ (es : List ℕ). es ++ cond z.starts (z.edge ∷ []) []) e
      ∙ sym (ap starting_of (take_more group i d l) ∙ starting_more (take i group) z)

  -- at an end that starts an edge, and at one that ends it
  pub ending_low : (old : List ℕ) → (get_or group i d).starts ≡ true
      → now ≡ old ++ ending_of (take i group) → new ≡ now
      → new ≡ old ++ ending_of (take (i + 1) group)
  ending_low old side e f =
      ending_step old e (f ∙ sym (append-nil now)
      ∙ ap (λ (b : Bool). now ++ cond b [] ((get_or group i d).edge ∷ [])) (sym side))

  pub ending_high : (old : List ℕ) → (get_or group i d).starts ≡ false
      → now ≡ old ++ ending_of (take i group) → new ≡ now ++ (get_or group i d).edge ∷ []
      → new ≡ old ++ ending_of (take (i + 1) group)
  ending_high old side e f =
      ending_step old e (f
      ∙ ap (λ (b : Bool). now ++ cond b [] ((get_or group i d).edge ∷ [])) (sym side))

  pub starting_low : (get_or group i d).starts ≡ true → now ≡ starting_of (take i group)
      → new ≡ now ++ (get_or group i d).edge ∷ [] → new ≡ starting_of (take (i + 1) group)
  starting_low side e f =
      starting_step e (f
      ∙ ap (λ (b : Bool). now ++ cond b ((get_or group i d).edge ∷ []) []) (sym side))

  pub starting_high : (get_or group i d).starts ≡ false → now ≡ starting_of (take i group)
      → new ≡ now → new ≡ starting_of (take (i + 1) group)
  starting_high side e f =
      starting_step e (f ∙ sym (append-nil now)
      ∙ ap (λ (b : Bool). now ++ cond b ((get_or group i d).edge ∷ []) []) (sym side))

-- the edge that was found, or none
abbrev pub found_as : Option ℕ → List ℕ
found_as None = []
found_as (Some e) = e ∷ []

pub found_more : (found : Option ℕ) (e : ℕ) → is_some found ≡ false
    → e ∷ [] ≡ found_as found ++ e ∷ []
found_more None e q = refl
found_more (Some f) e q = cc

-- ---- elements
ending_has : (e : ℕ) (zs : List End) → Has e (ending_of zs)
    → (z : End) × Has z zs × (z.edge ≡ e) × (z.starts ≡ false)
ending_has e [] h = absurd h
ending_has e (z ∷ zs) h = by_side (ending_has e zs) z.starts refl h
  where
    by_side : (Has e (ending_of zs) → (y : End) × Has y zs × (y.edge ≡ e) × (y.starts ≡ false))
        → (b : Bool) → z.starts ≡ b → Has e (cond b (ending_of zs) (z.edge ∷ ending_of zs))
        → (y : End) × Has y (z ∷ zs) × (y.edge ≡ e) × (y.starts ≡ false)
    by_side r true q h = let (y, i, k, m) = r h in (y, inr i, k, m)
    by_side r false q (inl k) = (z, inl refl, sym k, q)
    by_side r false q (inr h) = let (y, i, k, m) = r h in (y, inr i, k, m)

starting_has : (e : ℕ) (zs : List End) → Has e (starting_of zs)
    → (z : End) × Has z zs × (z.edge ≡ e) × (z.starts ≡ true)
starting_has e [] h = absurd h
starting_has e (z ∷ zs) h = by_side (starting_has e zs) z.starts refl h
  where
    by_side : (Has e (starting_of zs) → (y : End) × Has y zs × (y.edge ≡ e) × (y.starts ≡ true))
        → (b : Bool) → z.starts ≡ b → Has e (cond b (z.edge ∷ starting_of zs) (starting_of zs))
        → (y : End) × Has y (z ∷ zs) × (y.edge ≡ e) × (y.starts ≡ true)
    by_side r false q h = let (y, i, k, m) = r h in (y, inr i, k, m)
    by_side r true q (inl k) = (z, inl refl, sym k, q)
    by_side r true q (inr h) = let (y, i, k, m) = r h in (y, inr i, k, m)

has_ending : (z : End) (zs : List End) → Has z zs → z.starts ≡ false → Has z.edge (ending_of zs)
has_ending z [] h q = absurd h
has_ending z (y ∷ zs) (inl e) q = by_side y.starts (ap (λ (x : End). x.starts) (sym e) ∙ q)
  where
    by_side : (b : Bool) → b ≡ false → Has z.edge (cond b (ending_of zs) (y.edge ∷ ending_of zs))
    by_side true k = cc
    by_side false k = inl (ap (λ (x : End). x.edge) e)
has_ending z (y ∷ zs) (inr h) q = by_side (has_ending z zs h q) y.starts
  where
    by_side : Has z.edge (ending_of zs) → (b : Bool)
        → Has z.edge (cond b (ending_of zs) (y.edge ∷ ending_of zs))
    by_side r true = r
    by_side r false = inr r

has_starting : (z : End) (zs : List End) → Has z zs → z.starts ≡ true → Has z.edge (starting_of zs)
has_starting z [] h q = absurd h
has_starting z (y ∷ zs) (inl e) q = by_side y.starts (ap (λ (x : End). x.starts) (sym e) ∙ q)
  where
    by_side : (b : Bool) → b ≡ true → Has z.edge (cond b (y.edge ∷ starting_of zs) (starting_of zs))
    by_side false k = cc
    by_side true k = inl (ap (λ (x : End). x.edge) e)
has_starting z (y ∷ zs) (inr h) q = by_side (has_starting z zs h q) y.starts
  where
    by_side : Has z.edge (starting_of zs) → (b : Bool)
        → Has z.edge (cond b (y.edge ∷ starting_of zs) (starting_of zs))
    by_side r false = r
    by_side r true = inr r

-- ---- by number
abbrev Less : End → End → Type 0
Less y z = y.edge < z.edge

least : (z : End) (zs : List End) → Neighbours Less (z ∷ zs) → (y : End) → Has y zs
    → z.edge < y.edge
least z zs h y k =
    first_before Less (λ x. Unit {0}) (λ x u l. omega (arith, l))
    (λ x y z a b c l m. omega (arith, l, m)) z y zs (λ x i. tt) h k

ending_rises : (zs : List End) → Neighbours Less zs → Neighbours (λ (a b : ℕ). a < b) (ending_of zs)
ending_rises [] h = tt
ending_rises (z ∷ zs) h = by_side (ending_rises zs h.1) z.starts
  where
    by_side : Neighbours (λ (a b : ℕ). a < b) (ending_of zs) → (b : Bool)
        → Neighbours (λ (a b : ℕ). a < b) (cond b (ending_of zs) (z.edge ∷ ending_of zs))
    by_side r true = r
    by_side r false = (
      first_from (λ (b : ℕ). z.edge < b) (ending_of zs)
          (each_from (λ (b : ℕ). z.edge < b) (ending_of zs)
          (λ e k. let (y, i, q, m) = ending_has e zs k in
          subst (λ (b : ℕ). z.edge < b) q (least z zs h y i))),
      r,
    )

starting_once : (zs : List End) → Neighbours Less zs → Once (starting_of zs)
starting_once [] h = tt
starting_once (z ∷ zs) h = by_side (starting_once zs h.1) z.starts
  where
    by_side : Once (starting_of zs) → (b : Bool)
        → Once (cond b (z.edge ∷ starting_of zs) (starting_of zs))
    by_side r false = r
    by_side r true = (
      (λ k. let (y, i, q, m) = starting_has z.edge zs k in let l = least z zs h y i in
          omega (arith, l, q)),
      r,
    )

-- ---- the event of a group
part_first : (old ending starting : List ℕ) (from middle : ℕ) → from ≡ length old
    → middle ≡ length (old ++ ending) → part_of ((old ++ ending) ++ starting) from middle ≡ ending
part_first old ending starting from middle e f =
    let n : middle - from ≡ length ending = omega (arith, e, f, length-append old ending) in
    ap (λ (k : ℕ). take (middle - from) (drop k ((old ++ ending) ++ starting))) e
    ∙ ap (λ (k : ℕ). take k (drop (length old) ((old ++ ending) ++ starting))) n
    ∙ ap (λ (ns : List ℕ). take (length ending) (drop (length old) ns))
    (append_assoc old ending starting)
    ∙ ap (λ (ns : List ℕ). take (length ending) ns) (drop-append_seam old (ending ++ starting))
    ∙ take-append_seam ending starting

part_second : (front starting : List ℕ) (middle upto : ℕ) → middle ≡ length front
    → upto ≡ length (front ++ starting) → part_of (front ++ starting) middle upto ≡ starting
part_second front starting middle upto e f =
    let n : upto - middle ≡ length starting = omega (arith, e, f, length-append front starting) in
    ap (λ (k : ℕ). take (upto - middle) (drop k (front ++ starting))) e
    ∙ ap (λ (k : ℕ). take k (drop (length front) (front ++ starting))) n
    ∙ ap (λ (ns : List ℕ). take (length starting) ns) (drop-append_seam front starting)
    ∙ ap (λ (ns : List ℕ). take (length starting) ns) (sym (append-nil starting))
    ∙ take-append_seam starting []

pub sizes_add : (zs : List End) → length (ending_of zs) + length (starting_of zs) ≡ length zs
sizes_add [] = refl
sizes_add (z ∷ zs) = by_side (sizes_add zs) z.starts
  where
    by_side : length (ending_of zs) + length (starting_of zs) ≡ length zs → (b : Bool)
        → length (cond b (ending_of zs) (z.edge ∷ ending_of zs))
        + length (cond b (z.edge ∷ starting_of zs) (starting_of zs)) ≡ length (z ∷ zs)
    by_side r true = omega (arith, r)
    by_side r false = omega (arith, r)

module _ (edges : List Edge) (group : List End) (at : Point) (g : IsGroupOf edges at group)
    (rays sorted : List Ray) (split : ray_edges rays ≡ starting_of group)
    (directions : All (IsRayOf edges) rays)
    (perm : IsPermutation rays sorted) (up : IsSortedBy ray_lt sorted) where
  start_has : (e : ℕ) → Has e (ray_edges sorted) → Has e (starting_of group)
  start_has e k =
      subst (λ (es : List ℕ). Has e es) split
      (has_permutation (ray_edges sorted) (ray_edges rays) e
      (IsPermutation-map (λ (r : Ray). r.edge) sorted rays (IsPermutation-sym rays sorted perm)) k)

  has_start : (e : ℕ) → Has e (starting_of group) → Has e (ray_edges sorted)
  has_start e k =
      has_permutation (ray_edges rays) (ray_edges sorted) e
      (IsPermutation-map (λ (r : Ray). r.edge) rays sorted perm)
      (subst (λ (es : List ℕ). Has e es) (sym split) k)

  ray_low : (r : Ray) → Has r sorted → IsRayOf edges r × ((edge_of edges r.edge).low ≡ at)
  ray_low r k =
      let (z, i, q, m) = starting_has r.edge group
      (start_has r.edge (map_has (λ (s : Ray). s.edge) r sorted k)) in
      let (a, b) = each_has (λ (z : End). IsEndOf edges z × (z.at ≡ at)) group z g.only i in
      let (n, l, e) = contains r sorted k in (
        subst (IsRayOf edges) e (All-permutation (IsRayOf edges) rays sorted perm directions n r l),
        ap (λ (n : ℕ). (edge_of edges n).low) (sym q)
            ∙ sym (a.at ∙ ap
            (λ (t : Bool). cond t (edge_of edges z.edge).low (edge_of edges z.edge).high) m) ∙ b,
      )

  pub rays_rise : Neighbours (BySlope (edge_of edges)) (ray_edges sorted)
  rays_rise =
      rays_by_slope edges at sorted ray_low (sorted_neighbours ray_lt sorted up)
      (once_permutation (λ (r : Ray). r.edge) rays sorted perm
      (subst Once (sym split) (starting_once group g.rising)))

module _ (edges : List Edge) (group : List End) (at : Point) (g : IsGroupOf edges at group)
    (more : List ℕ) (perm : IsPermutation (starting_of group) more)
    (up : Neighbours (BySlope (edge_of edges)) more) where
  same_end : (z : End) (e : ℕ) (b : Bool) → Has z group → z.edge ≡ e → z.starts ≡ b
      → Has (record { at = at; edge = e; starts = b }) group
  same_end z e b i q m =
      let (a, p) = each_has (λ (z : End). IsEndOf edges z × (z.at ≡ at)) group z g.only i in
      subst (λ y. Has y group) (λ j. record { at = p j; edge = q j; starts = m j }) i

  pub group_timed : (t : Timed) → t.at ≡ at → t.ending ≡ ending_of group → t.starting ≡ more
      → IsTimedBy (edge_of edges) group t
  group_timed t ea ee es = record {
    starting = λ e. (
      (λ k. let (z, i, q, m) = starting_has e group
          (has_permutation more (starting_of group) e
          (IsPermutation-sym (starting_of group) more perm)
          (subst (λ (ns : List ℕ). Has e ns) es k)) in
          subst (λ p. Has (record { at = p; edge = e; starts = true }) group) (sym ea)
          (same_end z e true i q m)),
      (λ k. subst (λ (ns : List ℕ). Has e ns) (sym es)
          (has_permutation (starting_of group) more e perm (has_starting _ group k refl))),
    );
    by_slope = subst (λ (ns : List ℕ). Neighbours (BySlope (edge_of edges)) ns) (sym es) up;
    ending = λ e. (
      (λ k. let (z, i, q, m) = ending_has e group (subst (λ (ns : List ℕ). Has e ns) ee k) in
          subst (λ p. Has (record { at = p; edge = e; starts = false }) group) (sym ea)
          (same_end z e false i q m)),
      (λ k. subst (λ (ns : List ℕ). Has e ns) (sym ee) (has_ending _ group k refl)),
    );
    by_number = subst (λ (ns : List ℕ). Neighbours (λ (a b : ℕ). a < b) ns) (sym ee)
        (ending_rises group g.rising);
  }

pub same_first : (zs : List End) (b d : End) → 0 < length zs
    → (get_or zs 0 d).at ≡ (get_or zs 0 b).at
same_first [] b d l = absurd (omega (arith, l))
same_first (z ∷ zs) b d l = refl

pub event_made : (edges : List Edge) (group : List End) (d : End) (old mid new : List ℕ)
    (old_slots new_slots : List Slot) (at : Point) (from middle upto : ℕ)
    → IsGroupOf edges (get_or group 0 d).at group → mid ≡ old ++ ending_of group
    → AddsStarting edges group mid new
    → at ≡ (get_or group 0 d).at → from ≡ length old → middle ≡ length mid
    → upto ≡ length new → new_slots ≡ old_slots ++ record {
      at = at;
      from = from;
      middle = middle;
      upto = upto;
    } ∷ []
    → AddsEvent (edge_of edges) group old_slots old new_slots new
event_made edges group d old mid new old_slots new_slots at from middle upto g m s ea ef em eu es =
    let slot : Slot = record { at = at; from = from; middle = middle; upto = upto } in
    let whole : new ≡ (old ++ ending_of group) ++ s.more = s.numbers
    ∙ ap (λ (ns : List ℕ). ns ++ s.more) m in
    let sized = length_permutation (starting_of group) s.more s.permutation in
    let front = ap length m ∙ length-append old (ending_of group) in
    let size = ap length s.numbers ∙ length-append mid s.more in
    let adds = sizes_add group in
    record {
      slot = slot;
      more = ending_of group ++ s.more;
      slots = es;
      numbers = whole ∙ append_assoc old (ending_of group) s.more;
      size = omega (arith, size, front, sized, adds);
      within = record {
        first = omega (arith, ef, em, front);
        second = omega (arith, em, eu, size);
        last = omega (arith, eu);
      };
      at = λ b. ea ∙ same_first group b d g.some;
      timed = group_timed edges group (get_or group 0 d).at g s.more s.permutation s.by_slope
          (timed_at new slot) ea
          (ap (λ (ns : List ℕ). part_of ns from middle) whole
          ∙ part_first old (ending_of group) s.more from middle ef (em ∙ ap length m))
          (ap (λ (ns : List ℕ). part_of ns middle upto) s.numbers
          ∙ part_second mid s.more middle upto em (eu ∙ ap length s.numbers));
    }

pub sizes_after : (group : List End) (old mid : List ℕ) → mid ≡ old ++ ending_of group
    → length mid ≤ length old + length group
sizes_after group old mid m =
    let h = ap length m ∙ length-append old (ending_of group) in
    let k = sizes_add group in omega (arith, h, k)

pub sizes_at_end : (edges : List Edge) (group : List End) (old mid new : List ℕ)
    → mid ≡ old ++ ending_of group → AddsStarting edges group mid new
    → length new ≡ length old + length group
sizes_at_end edges group old mid new m s =
    let h = ap length m ∙ length-append old (ending_of group) in
    let k = sizes_add group in
    let n = ap length s.numbers ∙ length-append mid s.more in
    let same = length_permutation (starting_of group) s.more s.permutation in
    omega (arith, h, k, n, same)

-- one edge that starts is in order, and so are the edges of sorted rays
pub one_starts : (edges : List Edge) (group : List End) (e : ℕ) (old new : List ℕ)
    → starting_of group ≡ e ∷ [] → new ≡ old ++ e ∷ [] → AddsStarting edges group old new
one_starts edges group e old new s f = record {
  more = e ∷ [];
  numbers = f;
  permutation = subst (λ (ns : List ℕ). IsPermutation ns (e ∷ [])) (sym s)
      (IsPermutation-refl (e ∷ []));
  by_slope = (tt, tt);
}

pub rays_start : (edges : List Edge) (group : List End) (at : Point) (rays sorted : List Ray)
    (old new : List ℕ)
    → IsGroupOf edges at group → ray_edges rays ≡ starting_of group → All (IsRayOf edges) rays
    → IsPermutation rays sorted → IsSortedBy ray_lt sorted → new ≡ old ++ ray_edges sorted
    → AddsStarting edges group old new
rays_start edges group at rays sorted old new g split directions perm up f = record {
  more = ray_edges sorted;
  numbers = f;
  permutation = subst (λ (ns : List ℕ). IsPermutation ns (ray_edges sorted)) split
      (IsPermutation-map (λ (r : Ray). r.edge) rays sorted perm);
  by_slope = rays_rise edges group at g rays sorted split directions perm up;
}

-- ---- a group of the ends that are left
not_itself : (z : End) → ComesFirst z z → ⊥
not_itself z (inl b) = never z.at b
not_itself z (inr e) = let l = e.1 in omega (arith, l)

comes_trans : (x y z : End) → ComesFirst x y → ComesFirst y z → ComesFirst x z
comes_trans x y z (inl a) (inl b) = inl (before_trans x.at y.at z.at a b)
comes_trans x y z (inl a) (inr b) = inl (subst (λ p. Before x.at p) b.0 a)
comes_trans x y z (inr a) (inl b) = inl (subst (λ p. Before p z.at) (sym a.0) b)
comes_trans x y z (inr a) (inr b) =
    let l = a.1 in let m = b.1 in inr (a.0 ∙ b.0, omega (arith, l, m))

after_group : (v : Point) (xs : List End) (n : ℕ) → Neighbours ComesFirst xs
    → ((k : ℕ) (d : End) → k < n → (get_or xs k d).at ≡ v)
    → ((d : End) → n < length xs → (get_or xs n d).at ≡ v → ⊥)
    → 0 < n → (z : End) → Has z (drop n xs) → Before v z.at
after_group v xs zero h f g l z k = absurd (omega (arith, l))
after_group v [] (suc n) h f g l z k = absurd k
after_group v (x ∷ []) (suc zero) h f g l z k = absurd k
after_group v (x ∷ (y ∷ ys)) (suc zero) h f g l z k =
    let here : x.at ≡ v = f 0 x (omega arith) in
    let next : Before v y.at = elim h.0 [
      | inl b ↦ subst (λ p. Before p y.at) here b
      | inr e ↦ absurd (g y (omega arith) (sym e.0 ∙ here))
    ] in
    elim k [
      | inl e ↦ subst (λ (w : End). Before v w.at) (sym e) next
      | inr j ↦ elim (first_before ComesFirst (λ w. Unit {0}) (λ w u c. not_itself w c)
          (λ a b c p q r m o. comes_trans a b c m o) y z ys (λ w i. tt) h.1 j) [
            | inl b ↦ before_trans v y.at z.at next b
            | inr e ↦ subst (λ p. Before v p) e.0 next
          ]
    ]
after_group v (x ∷ xs) (suc (suc n)) h f g l z k =
    after_group v xs (suc n) h.1 (λ i d m. f (suc i) d (omega (arith, m)))
    (λ d m e. g d (omega (arith, m)) e) (omega arith) z k

-- what is known of a group of the ends from i on
pub record IsCut (edges : List Edge) (ends : List End) (i n : ℕ) (d : End) : Type 0 where
  pub group : IsGroupOf edges (get_or (take n (drop i ends)) 0 d).at (take n (drop i ends))
  pub here : (z : End) → Has z (take n (drop i ends))
      → z.at ≡ (get_or (take n (drop i ends)) 0 d).at
  pub some : (z : End) × Has z (take n (drop i ends))
  pub later : (z : End) → Has z (drop (i + n) ends)
      → Before (get_or (take n (drop i ends)) 0 d).at z.at

first_of : (xs : List End) → 0 < length xs → (z : End) × Has z xs
first_of [] l = absurd (omega (arith, l))
first_of (x ∷ xs) l = (x, inl refl)

pub drop_twice : {X : Type 0} (i n : ℕ) (xs : List X) → drop (i + n) xs ≡ drop n (drop i xs)
drop_twice zero n xs = ap (λ (k : ℕ). drop k xs) (none n)
  where
    none : (n : ℕ) → 0 + n ≡ n
    none n = omega arith
drop_twice (suc i) n [] = drop-nil (suc i + n) ∙ sym (drop-nil n)
drop_twice (suc i) n (x ∷ xs) = ap (λ (k : ℕ). drop k (x ∷ xs)) (shift i n) ∙ drop_twice i n xs
  where
    shift : (i n : ℕ) → suc i + n ≡ suc (i + n)
    shift i n = omega arith

pub cut_group : (edges : List Edge) (ends : List End) (i n : ℕ) (d : End) → AreEndsOf edges ends
    → IsGroup (drop i ends) n → IsCut edges ends i n d
cut_group edges ends i n d a g = record {
  group = record {
    some = let l = size in let m = g.some in omega (arith, l, m);
    only = each_from (λ (z : End). IsEndOf edges z × (z.at ≡ (get_or group 0 d).at)) group
        (λ z k. (a.only z (in_all z k), at_here z k));
    rising = neighbours_map ComesFirst (λ (y z : End). y.edge < z.edge) group
        (λ y z j k c. by_edge y z j k c) rising;
  };
  here = at_here;
  some = first_of group (let l = size in let m = g.some in omega (arith, l, m));
  later = λ z k. after_group (get_or group 0 d).at (drop i ends) n left (λ j b l. g.one j b l
      ∙ first_same b) (λ b l e. g.next b l (e ∙ sym (first_same b))) g.some z
      (subst (λ zs. Has z zs) (drop_twice i n ends) k);
}
  where
    group : List End
    group = take n (drop i ends)

    size : length (take n (drop i ends)) ≡ n
    size = length-take-le n (drop i ends) g.within

    left : Neighbours ComesFirst (drop i ends)
    left = neighbours_back ComesFirst (take i ends) (drop i ends)
        (subst (Neighbours ComesFirst) (sym (take-append-drop i ends)) a.rising)

    rising : Neighbours ComesFirst (take n (drop i ends))
    rising = neighbours_front ComesFirst (take n (drop i ends)) (drop n (drop i ends))
        (subst (Neighbours ComesFirst) (sym (take-append-drop n (drop i ends))) left)

    in_all : (z : End) → Has z (take n (drop i ends)) → Has z ends
    in_all z k =
        subst (λ zs. Has z zs) (take-append-drop i ends)
        (has_back z (take i ends) (drop i ends)
        (subst (λ zs. Has z zs) (take-append-drop n (drop i ends))
        (has_front z (take n (drop i ends)) (drop n (drop i ends)) k)))

    first_same : (b : End) → (get_or (drop i ends) 0 b).at ≡ (get_or (take n (drop i ends)) 0 d).at
    first_same b = first_at (drop i ends) g.within
        ∙ ap (λ (z : End). z.at) (sym (get_or-take n (drop i ends) 0 d g.some))
      where
        first_at : (xs : List End) → n ≤ length xs → (get_or xs 0 b).at ≡ (get_or xs 0 d).at
        first_at [] l = absurd (let m = g.some in omega (arith, l, m))
        first_at (x ∷ xs) l = refl

    at_here : (z : End) → Has z (take n (drop i ends))
        → z.at ≡ (get_or (take n (drop i ends)) 0 d).at
    at_here z k =
        let (j, l, e) = contains z (take n (drop i ends)) k in
        let m : j < n = let s = size in omega (arith, l, s) in
        ap (λ (y : End). y.at) (sym e ∙ get_or-take n (drop i ends) j z m) ∙ g.one j z m
        ∙ first_same z

    by_edge : (y z : End) → Has y (take n (drop i ends)) → Has z (take n (drop i ends))
        → ComesFirst y z → y.edge < z.edge
    by_edge y z j k (inl b) =
        absurd (never z.at (subst (λ p. Before p z.at) (at_here y j ∙ sym (at_here z k)) b))
    by_edge y z j k (inr e) = e.1
