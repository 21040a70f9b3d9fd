-- One call after another: counts, and what is left of a room.
use Rattle.std.proofs.Common.{◌≡◌, ℕ, ◌+◌, ◌≤◌, List, Option, Some, None, refl, ◌∙◌, subst, arith}
use Rattle.ports.specs.Faults.{CountsStay}
use Rattle.ports.specs.Rooms.{HasRoom, FellBy, StaysReady}

pub stay_none : (reads : List ℕ → ℕ) (writes : ℕ) → CountsStay reads writes reads writes
stay_none reads writes = record { reads = λ q. refl; writes = refl }

pub stay_then : (reads : List ℕ → ℕ) (writes : ℕ) (reads_mid : List ℕ → ℕ) (writes_mid : ℕ)
    (reads_now : List ℕ → ℕ) (writes_now : ℕ)
    → CountsStay reads writes reads_mid writes_mid
    → CountsStay reads_mid writes_mid reads_now writes_now
    → CountsStay reads writes reads_now writes_now
stay_then reads writes reads_mid writes_mid reads_now writes_now h k =
    record { reads = λ q. k.reads q ∙ h.reads q; writes = k.writes ∙ h.writes }

-- no less room than before
no_less : (room : Option ℕ) → FellBy 0 room room
no_less None = tt
no_less (Some n) = omega arith

no_less_then : (room mid now : Option ℕ) → FellBy 0 room mid → FellBy 0 mid now → FellBy 0 room now
no_less_then None mid now h k = tt
no_less_then (Some n) None now h k = absurd h
no_less_then (Some n) (Some m) None h k = absurd k
no_less_then (Some n) (Some m) (Some l) h k = omega (arith, h, k)

pub ready_none : (readable : List ℕ → Type 0) (space : List ℕ → Option ℕ)
    → StaysReady readable space readable space
ready_none readable space = record { readable = λ q h. h; space = λ q. no_less (space q) }

pub ready_then : (readable : List ℕ → Type 0) (space : List ℕ → Option ℕ) (readable_mid : List ℕ
    → Type 0) (space_mid : List ℕ → Option ℕ) (readable_now : List ℕ → Type 0) (space_now : List ℕ
    → Option ℕ)
    → StaysReady readable space readable_mid space_mid
    → StaysReady readable_mid space_mid readable_now space_now
    → StaysReady readable space readable_now space_now
ready_then readable space readable_mid space_mid readable_now space_now h k = record {
  readable = λ q r. k.readable q (h.readable q r);
  space = λ q. no_less_then (space q) (space_mid q) (space_now q) (h.space q) (k.space q);
}

pub same_room : (m n : ℕ) (room : Option ℕ) → m ≡ n → HasRoom m room → HasRoom n room
same_room m n room e h = subst (λ (k : ℕ). HasRoom k room) e h

pub less_room : (m n : ℕ) (room : Option ℕ) → n ≤ m → HasRoom m room → HasRoom n room
less_room m n None l h = absurd h
less_room m n (Some r) l h = omega (arith, l, h)

-- what is left of a room
pub room_left : (n more : ℕ) (room now : Option ℕ) → HasRoom (n + more) room → FellBy n room now
    → HasRoom more now
room_left n more None now h f = absurd h
room_left n more (Some r) None h f = absurd f
room_left n more (Some r) (Some s) h f = omega (arith, h, f)

-- as much room as before
pub same_space : (n : ℕ) (room now : Option ℕ) → FellBy 0 room now → HasRoom n room → HasRoom n now
same_space n None now f h = absurd h
same_space n (Some r) None f h = absurd f
same_space n (Some r) (Some s) f h = omega (arith, f, h)
