-- Sectors of a run, what opens from one to the next, and places joined by segments that hit no
-- edge.
-- A cell is made of sectors, one in each strip that it goes through; border sectors lie under all
-- edges or over all.
use Rattle.std.specs.Prelude.{◌≡◌, ℕ, zero, suc, ◌+◌, ◌<◌, ◌≤◌, ◌⊎◌, Bool, true, false, cond, List}
use Rattle.std.specs.Prelude.{[], ◌∷◌, length, ℤ, pos, negsuc, ◌*ℤ◌, ◌-ℤ◌}
use Rattle.plane.specs.Forms.Vectors.{Vector, Place, Same, side, sweep, HitsEdge}
use Rattle.plane.specs.Faces.Labels.{Labels, label_at}
use Rattle.plane.specs.Faces.Replays.{Replay, reach}

-- above 0
abbrev pub is_positive : ℤ → Bool
is_positive (pos zero) = false
is_positive (pos (suc n)) = true
is_positive (negsuc n) = false

-- how many of the first k events have a sweep value at most that of z
abbrev pub passed : Replay → Vector → ℕ → ℕ
passed r z zero = 0
passed r z (suc k) =
    cond (is_positive ((reach r k *ℤ z.n) -ℤ sweep r.weight z)) (passed r z k) (suc (passed r z k))

-- how many edges of the list are strictly below z
abbrev pub raised : Replay → Vector → List ℕ → ℕ
raised r z [] = 0
raised r z (e ∷ es) = cond (is_positive (side (r.edge e) z)) (suc (raised r z es)) (raised r z es)

-- A piece of a cell in one strip: how many events come before it, and how many edges of the live
-- list lie under it.
pub record Sector : Type 0 where
  pub strip : ℕ
  pub index : ℕ

-- the piece of a cell in strip k above i edges
abbrev pub position : ℕ → ℕ → Sector
position k i = record { strip = k; index = i }

abbrev pub strip : Replay → Vector → ℕ
strip r z = passed r z r.steps

abbrev pub sector_at : Replay → Vector → ℕ → Sector
sector_at r z k = record { strip = k; index = raised r z (r.list k) }

abbrev pub sector : Replay → Vector → Sector
sector r z = sector_at r z (strip r z)

-- a sector of the run
pub record IsSector (r : Replay) (c : Sector) : Type 0 where
  pub strip : c.strip ≤ r.steps
  pub index : c.index ≤ length (r.list c.strip)

-- the sector before all events
abbrev pub corner : Sector
corner = record { strip = 0; index = 0 }

-- a sector under all edges, or over all
abbrev pub IsBorder : Replay → Sector → Type 0
IsBorder r c = (c.index ≡ 0) ⊎ (c.index ≡ length (r.list c.strip))

-- the sector goes on below the event, with the same edges under it
pub record OpensBelow (r : Replay) (c d : Sector) : Type 0 where
  pub fits : c.strip < r.steps
  pub next : d.strip ≡ suc c.strip
  pub low : c.index ≤ length (r.step c.strip).below
  pub kept : d.index ≡ c.index

-- the sector goes on above the event, with the same edges over it
pub record OpensAbove (r : Replay) (c d : Sector) : Type 0 where
  pub fits : c.strip < r.steps
  pub next : d.strip ≡ suc c.strip
  pub top : c.index ≤ length (r.list c.strip)
  pub high : length (r.step c.strip).below + length (r.step c.strip).ending ≤ c.index
  pub kept : d.index + length (r.step c.strip).ending ≡ c.index + length (r.step c.strip).starting

abbrev pub Opens : Replay → Sector → Sector → Type 0
Opens r c d = OpensBelow r c d ⊎ OpensAbove r c d

-- the least equivalence of sectors that holds what opens
pub data Linked (r : Replay) : Sector → Sector → Type 0 where
  stays : (c d : Sector) → c ≡ d → Linked r c d
  onward : (c d e : Sector) → Opens r c d → Linked r d e → Linked r c e
  back : (c d e : Sector) → Opens r d c → Linked r d e → Linked r c e

-- the segment from p to q hits no edge
abbrev pub IsFree : Replay → Vector → Vector → Type 0
IsFree r p q = (e : ℕ) → e < r.edges → HitsEdge r.weight p q (r.edge e) → ⊥

-- a list of places from p to q whose segments hit no edge
pub data JoinedByEdges (r : Replay) : Vector → Vector → Type 0 where
  arrives : (p q : Vector) → Same p q → JoinedByEdges r p q
  goes : (p q s : Vector) → Place q → IsFree r p q → JoinedByEdges r q s → JoinedByEdges r p s

-- the label of a sector: that of the side above the edge under it, or 0 at the bottom
abbrev pub label_of : Labels → Replay → Sector → ℕ
label_of a r c = label_at a 0 c.index (r.list c.strip)
