-- Reading on in a certificate whose lines come.
use Rattle.std.proofs.Common.{◌≡◌, ℕ, ◌≤◌, ◌<◌, List, length, Ok, sym, ap, ◌∙◌, arith}
use Rattle.std.proofs.lemmas.List.{append-nil}
use Rattle.certificate.specs.declared.fault.CertFault.{CertFault}
use Rattle.certificate.specs.declared.forms.Counts.{Counts}
use Rattle.certificate.specs.declared.notes.HalfNote.{HalfNote}
use Rattle.certificate.specs.declared.notes.PointPlace.{PointPlace}
use Rattle.certificate.specs.Spelling.{Plain}
use Rattle.certificate.specs.Parts.{event_at, edge_at, place_at, end_at}
use Rattle.certificate.specs.Reading.{◌>>=◌, Text, Lines, Fails, line_at, many_at}
use Rattle.certificate.specs.Feeding.{LeadsTo, FailsOn, more_at, points_on, edges_on, body_on}
use Rattle.certificate.specs.Feeding.{with_edges, with_positions}
use Rattle.certificate.proofs.Local.{end_local}
use Rattle.certificate.proofs.Resuming.{leads_then, leads_on, leads_by, leads_to, fails_on, fails_by}
use Rattle.certificate.proofs.Resuming.{fails_later, line_leads, line_fails}

abbrev pub with_places : Plain → List PointPlace → Plain
with_places c places = record {
  topic = c.topic;
  table = c.table;
  attribute = c.attribute;
  level = c.level;
  bent = c.bent;
  positions = c.positions;
  edges = c.edges;
  places = places;
}

abbrev pub counts : ℕ → ℕ → ℕ → Counts
counts edges events points = record { edges = edges; events = events; points = points }

no_more : {A : Type 0} (one : Text → Lines A) (front : List A) (n : ℕ) (t : Text) → n ≤ 0
    → more_at one front n t ≡ Ok (front, t)
unfolding many_at
no_more {A = A} one front n t h =
    let e : n ≡ 0 = omega arith in
    rw e (ap (λ (xs : List A). Ok (xs, t)) (append-nil front))

-- ---- events

pub events_lead : (c : Plain) (left : Counts) (positions : List ℕ) (n : ℕ) (t u : Text)
    → LeadsTo (more_at (line_at event_at) c.positions left.events)
    (more_at (line_at event_at) positions n) t u
    → LeadsTo (body_on c left)
    (body_on (with_positions c positions) (counts left.edges n left.points)) t u
unfolding body_on edges_on points_on
events_lead c left positions n t u h =
    leads_then (more_at (line_at event_at) c.positions left.events)
    (more_at (line_at event_at) positions n)
    (λ p. edges_on (with_positions c p.0) left p.1) t u h

pub events_read : (c : Plain) (left : Counts) (t : Text) → left.events ≤ 0
    → body_on c left t ≡ edges_on c left t
unfolding body_on
events_read c left t h =
    ap (λ (r : Lines (List ℕ)). r >>= λ p. edges_on (with_positions c p.0) left p.1)
    (no_more (line_at event_at) c.positions left.events t h)

pub events_fail : (e : CertFault) (c : Plain) (left : Counts) (t : Text)
    → FailsOn e (more_at (line_at event_at) c.positions left.events) t
    → FailsOn e (body_on c left) t
unfolding body_on
events_fail e c left t h =
    fails_on e (more_at (line_at event_at) c.positions left.events)
    (λ p. edges_on (with_positions c p.0) left p.1) t h

pub after_events : (c : Plain) (left : Counts) (positions : List ℕ) (n : ℕ) (t u : Text) → n ≤ 0
    → LeadsTo (more_at (line_at event_at) c.positions left.events)
    (more_at (line_at event_at) positions n) t u
    → LeadsTo (body_on c left)
    (edges_on (with_positions c positions) (counts left.edges n left.points)) t u
after_events c left positions n t u z h =
    let d = with_positions c positions in
    let l = counts left.edges n left.points in
    leads_to (body_on c left) (body_on d l) (edges_on d l) t u (λ y. events_read d l y z)
    (events_lead c left positions n t u h)

-- ---- edges

pub edges_lead : (c : Plain) (left : Counts) (edges : List (HalfNote × HalfNote)) (n : ℕ)
    (t u : Text)
    → LeadsTo (more_at (line_at edge_at) c.edges left.edges) (more_at (line_at edge_at) edges n) t u
    → LeadsTo (edges_on c left) (edges_on (with_edges c edges) (counts n left.events left.points)) t
    u
unfolding edges_on points_on
edges_lead c left edges n t u h =
    leads_then (more_at (line_at edge_at) c.edges left.edges) (more_at (line_at edge_at) edges n)
    (λ p. points_on (with_edges c p.0) left p.1) t u h

pub edges_read : (c : Plain) (left : Counts) (t : Text) → left.edges ≤ 0
    → edges_on c left t ≡ points_on c left t
unfolding edges_on
edges_read c left t h =
    ap (λ (r : Lines (List (HalfNote × HalfNote))). r >>= λ p. points_on
    (with_edges c p.0) left p.1) (no_more (line_at edge_at) c.edges left.edges t h)

pub edges_fail : (e : CertFault) (c : Plain) (left : Counts) (t : Text)
    → FailsOn e (more_at (line_at edge_at) c.edges left.edges) t → FailsOn e (edges_on c left) t
unfolding edges_on
edges_fail e c left t h =
    fails_on e (more_at (line_at edge_at) c.edges left.edges)
    (λ p. points_on (with_edges c p.0) left p.1) t h

pub after_edges : (c : Plain) (left : Counts) (edges : List (HalfNote × HalfNote)) (n : ℕ)
    (t u : Text) → n ≤ 0
    → LeadsTo (more_at (line_at edge_at) c.edges left.edges) (more_at (line_at edge_at) edges n) t u
    → LeadsTo (edges_on c left) (points_on (with_edges c edges) (counts n left.events left.points))
    t u
after_edges c left edges n t u z h =
    let d = with_edges c edges in
    let l = counts n left.events left.points in
    leads_to (edges_on c left) (edges_on d l) (points_on d l) t u (λ y. edges_read d l y z)
    (edges_lead c left edges n t u h)

-- ---- points

pub points_lead : (c : Plain) (left : Counts) (places : List PointPlace) (n : ℕ) (t u : Text)
    → LeadsTo (more_at (line_at place_at) c.places left.points)
    (more_at (line_at place_at) places n) t u
    → LeadsTo (points_on c left)
    (points_on (with_places c places) (counts left.edges left.events n)) t u
unfolding points_on
points_lead c left places n t u h =
    leads_then (more_at (line_at place_at) c.places left.points)
    (more_at (line_at place_at) places n)
    (λ p. line_at end_at p.1 >>= λ end. Ok (with_places c p.0, end.1)) t u h

pub points_fail : (e : CertFault) (c : Plain) (left : Counts) (t : Text)
    → FailsOn e (more_at (line_at place_at) c.places left.points) t → FailsOn e (points_on c left) t
unfolding points_on
points_fail e c left t h =
    fails_on e (more_at (line_at place_at) c.places left.points)
    (λ p. line_at end_at p.1 >>= λ end. Ok (with_places c p.0, end.1)) t h

abbrev end_on : Plain → Text → Lines Plain
end_on c t = line_at end_at t >>= λ end. Ok (c, end.1)

points_read : (c : Plain) (left : Counts) (t : Text) → left.points ≤ 0
    → points_on c left t ≡ end_on c t
unfolding points_on
points_read c left t h =
    ap (λ (r : Lines (List PointPlace)). r >>= λ p. line_at end_at p.1 >>= λ end. Ok
    (with_places c p.0, end.1)) (no_more (line_at place_at) c.places left.points t h)

-- the last line
pub end_leads : (c : Plain) (left : Counts) (t u : Text) (x : Unit {0}) → left.points ≤ 0
    → 0 < length t.rest
    → line_at end_at t ≡ Ok (x, u) → LeadsTo (points_on c left) (λ y. Ok (c, y)) t u
end_leads c left t u x z s h =
    leads_by (points_on c left) (end_on c) (λ y. Ok (c, y)) t u (λ y. points_read c left y z)
    (line_leads end_at end_local t x u (λ end. Ok (c, end.1)) s h)

pub end_fails : (e : CertFault) (c : Plain) (left : Counts) (t : Text) → left.points ≤ 0
    → 0 < length t.rest
    → Fails e (line_at end_at t) → FailsOn e (points_on c left) t
end_fails e c left t z s h =
    fails_by e (points_on c left) (end_on c) t (λ y. points_read c left y z)
    (line_fails end_at end_local t e (λ end. Ok (c, end.1)) s h)

-- ---- one kind of line after the other

-- the events are read, and then edges
pub edges_next : (c : Plain) (left : Counts) (positions : List ℕ) (n : ℕ) (t u : Text) → n ≤ 0
    → LeadsTo (more_at (line_at event_at) c.positions left.events)
    (more_at (line_at event_at) positions n) t u
    → (edges : List (HalfNote × HalfNote)) (m : ℕ) (v : Text)
    → LeadsTo (more_at (line_at edge_at) c.edges left.edges) (more_at (line_at edge_at) edges m) u v
    → LeadsTo (body_on c left)
    (body_on (with_edges (with_positions c positions) edges) (counts m n left.points)) t v
edges_next c left positions n t u z h edges m v k =
    let c1 = with_positions c positions in
    let l1 = counts left.edges n left.points in
    let c2 = with_edges c1 edges in
    let l2 = counts m n left.points in
    let step = leads_on (body_on c left) (edges_on c1 l1) (edges_on c2 l2) t u v
    (after_events c left positions n t u z h) (edges_lead c1 l1 edges m u v k) in
    leads_to (body_on c left) (edges_on c2 l2) (body_on c2 l2) t v
    (λ y. sym (events_read c2 l2 y z)) step

pub edges_next_fail : (e : CertFault) (c : Plain) (left : Counts) (positions : List ℕ) (n : ℕ)
    (t u : Text) → n ≤ 0
    → LeadsTo (more_at (line_at event_at) c.positions left.events)
    (more_at (line_at event_at) positions n) t u
    → FailsOn e (more_at (line_at edge_at) c.edges left.edges) u → FailsOn e (body_on c left) t
edges_next_fail e c left positions n t u z h k =
    let c1 = with_positions c positions in
    let l1 = counts left.edges n left.points in
    fails_later e (body_on c left) (edges_on c1 l1) t u (after_events c left positions n t u z h)
    (edges_fail e c1 l1 u k)

-- the events and the edges are read
pub to_points : (c : Plain) (left : Counts) (positions : List ℕ) (n : ℕ) (t u : Text) → n ≤ 0
    → LeadsTo (more_at (line_at event_at) c.positions left.events)
    (more_at (line_at event_at) positions n) t u
    → (edges : List (HalfNote × HalfNote)) (m : ℕ) (v : Text) → m ≤ 0
    → LeadsTo (more_at (line_at edge_at) c.edges left.edges) (more_at (line_at edge_at) edges m) u v
    → LeadsTo (body_on c left)
    (points_on (with_edges (with_positions c positions) edges) (counts m n left.points)) t v
to_points c left positions n t u z h edges m v y k =
    let c1 = with_positions c positions in
    let l1 = counts left.edges n left.points in
    leads_on (body_on c left) (edges_on c1 l1)
    (points_on (with_edges c1 edges) (counts m n left.points)) t u v
    (after_events c left positions n t u z h) (after_edges c1 l1 edges m u v y k)

-- nothing but points is left
points_left : (c : Plain) (left : Counts) (t : Text) → left.events ≤ 0 → left.edges ≤ 0
    → points_on c left t ≡ body_on c left t
points_left c left t h k = sym (events_read c left t h ∙ edges_read c left t k)

pub points_next : (a : Text → Lines Plain) (c : Plain) (left : Counts) (t u v : Text)
    → LeadsTo a (points_on c left) t u
    → left.events ≤ 0 → left.edges ≤ 0 → (places : List PointPlace) (n : ℕ)
    → LeadsTo (more_at (line_at place_at) c.places left.points)
    (more_at (line_at place_at) places n) u v
    → LeadsTo a (body_on (with_places c places) (counts left.edges left.events n)) t v
points_next a c left t u v h x y places n k =
    let d = with_places c places in
    let l = counts left.edges left.events n in
    leads_to a (points_on d l) (body_on d l) t v (λ z. points_left d l z x y)
    (leads_on a (points_on c left) (points_on d l) t u v h (points_lead c left places n u v k))

pub points_next_fail : (e : CertFault) (a : Text → Lines Plain) (c : Plain) (left : Counts)
    (t u : Text) → LeadsTo a (points_on c left) t u
    → FailsOn e (more_at (line_at place_at) c.places left.points) u → FailsOn e a t
points_next_fail e a c left t u h k =
    fails_later e a (points_on c left) t u h (points_fail e c left u k)

-- the last line
pub to_end : (a : Text → Lines Plain) (c : Plain) (left : Counts) (t u v : Text)
    → LeadsTo a (points_on c left) t u
    → (places : List PointPlace) (n : ℕ)
    → LeadsTo (more_at (line_at place_at) c.places left.points)
    (more_at (line_at place_at) places n) u v
    → n ≤ 0 → 0 < length v.rest → (x : Unit {0}) (w : Text) → line_at end_at v ≡ Ok (x, w)
    → LeadsTo a (λ y. Ok (with_places c places, y)) t w
to_end a c left t u v h places n k z s x w f =
    let d = with_places c places in
    let l = counts left.edges left.events n in
    let step = leads_on a (points_on c left) (points_on d l) t u v h
    (points_lead c left places n u v k) in
    leads_on a (points_on d l) (λ y. Ok (d, y)) t v w step (end_leads d l v w x z s f)

pub to_end_fail : (e : CertFault) (a : Text → Lines Plain) (c : Plain) (left : Counts)
    (t u v : Text) → LeadsTo a (points_on c left) t u
    → (places : List PointPlace) (n : ℕ)
    → LeadsTo (more_at (line_at place_at) c.places left.points)
    (more_at (line_at place_at) places n) u v
    → n ≤ 0 → 0 < length v.rest → Fails e (line_at end_at v) → FailsOn e a t
to_end_fail e a c left t u v h places n k z s f =
    let d = with_places c places in
    let l = counts left.edges left.events n in
    let step = leads_on a (points_on c left) (points_on d l) t u v h
    (points_lead c left places n u v k) in
    fails_later e a (points_on d l) t v step (end_fails e d l v z s f)
