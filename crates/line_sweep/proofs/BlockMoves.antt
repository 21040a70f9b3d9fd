-- The moves of a timetable with blocks: how many they are, each of them, and one more.
use Rattle.std.proofs.Common.{◌≡◌, ℕ, zero, suc, ◌<◌, ◌≤◌, List, [], ◌∷◌, ◌++◌, length, get_or}
use Rattle.std.proofs.Common.{refl, arith, ap, sym, ◌∙◌}
use Rattle.plane.specs.declared.kinds.Point.{Point}
use Rattle.plane.specs.Runs.Moves.{Move, no_move}
use Rattle.plane.specs.Runs.Timetables.{Timed, no_event}
use Rattle.line_sweep.specs.declared.events.EndingBlock.{EndingBlock}
use Rattle.line_sweep.specs.Kinds.{move_at_block, moves_at_blocks}

pub no_moves : (table : List Timed) → moves_at_blocks table [] ≡ []
no_moves [] = refl
no_moves (t ∷ table) = refl

pub moves_size : (table : List Timed) (blocks : List EndingBlock) → length table ≤ length blocks
    → length (moves_at_blocks table blocks) ≡ length table
moves_size [] blocks l = refl
moves_size (t ∷ table) [] l = absurd (omega (arith, l))
moves_size (t ∷ table) (b ∷ blocks) l =
    ap (λ (n : ℕ). suc n) (moves_size table blocks (omega (arith, l)))

pub move_is : (table : List Timed) (blocks : List EndingBlock) (k : ℕ) (d : EndingBlock)
    → k < length table → length table ≤ length blocks
    → get_or (moves_at_blocks table blocks) k no_move
    ≡ move_at_block (get_or table k no_event) (get_or blocks k d).position
    (get_or blocks k d).count
move_is [] blocks k d l m = absurd (omega (arith, l))
move_is (t ∷ table) [] k d l m = absurd (omega (arith, m))
move_is (t ∷ table) (b ∷ blocks) zero d l m = refl
move_is (t ∷ table) (b ∷ blocks) (suc k) d l m =
    move_is table blocks k d (omega (arith, l)) (omega (arith, m))

abbrev pub no_block : EndingBlock
no_block = record { position = 0; count = 0 }

-- a number of the moves is one of the timetable
pub number_within : (table : List Timed) (blocks : List EndingBlock) (moves : List Move) (k : ℕ)
    → moves_at_blocks table blocks ≡ moves → length table ≤ length blocks → k < length moves
    → k < length table
number_within table blocks moves k e m l =
    let n = moves_size table blocks m in let q = ap length e in omega (arith, n, q, l)

-- the event of a number, from the timetable and its block
pub event_is : (table : List Timed) (blocks : List EndingBlock) (moves : List Move) (k : ℕ)
    (b : EndingBlock) (at : Point) (starting : List ℕ)
    → moves_at_blocks table blocks ≡ moves → length table ≤ length blocks → k < length table
    → b ≡ get_or blocks k b → at ≡ (get_or table k no_event).at
    → starting ≡ (get_or table k no_event).starting
    → record {
      at = at;
      position = b.position;
      ending = b.count;
      starting = starting;
    } ≡ get_or moves k no_move
event_is table blocks moves k b at starting e m l f p q =
    ap (λ (x : Point). record {
      at = x;
      position = b.position;
      ending = b.count;
      starting = starting;
    }) p
    ∙ ap (λ (es : List ℕ). record {
      at = (get_or table k no_event).at;
      position = b.position;
      ending = b.count;
      starting = es;
    }) q
    ∙ ap (λ (x : EndingBlock). move_at_block (get_or table k no_event) x.position x.count) f
    ∙ sym (move_is table blocks k b l m)
    ∙ ap (λ (vs : List Move). get_or vs k no_move) e

pub all_have_blocks : (table : List Timed) (blocks : List EndingBlock)
    → length (moves_at_blocks table blocks) ≡ length table → length table ≤ length blocks
all_have_blocks [] blocks e = omega arith
all_have_blocks (t ∷ table) [] e = absurd (omega (arith, e))
all_have_blocks (t ∷ table) (b ∷ blocks) e =
    let l = all_have_blocks table blocks (omega (arith, e)) in omega (arith, l)

pub moves_more : (table : List Timed) (blocks : List EndingBlock) (k : ℕ) (b : EndingBlock)
    → length (moves_at_blocks table blocks) ≡ k → k < length table
    → moves_at_blocks table (blocks ++ b ∷ [])
    ≡ moves_at_blocks table blocks ++ move_at_block (get_or table k no_event) b.position b.count
    ∷ []
moves_more [] blocks k b e l = absurd (omega (arith, l))
moves_more (t ∷ []) [] zero b e l = refl
moves_more (t ∷ (u ∷ table)) [] zero b e l = refl
moves_more (t ∷ table) [] (suc k) b e l = absurd (omega (arith, e))
moves_more (t ∷ table) (a ∷ blocks) zero b e l = absurd (omega (arith, e))
moves_more (t ∷ table) (a ∷ blocks) (suc k) b e l =
    ap (λ (vs : List Move). move_at_block t a.position a.count ∷ vs)
    (moves_more table blocks k b (omega (arith, e)) (omega (arith, l)))
