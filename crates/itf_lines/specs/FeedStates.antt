-- What is known of a text that has come in part.
use Rattle.std.specs.Prelude.{ℕ, Bool, true, false, not, ◌&&◌, ◌==◌, List, [], ◌∷◌}
use Rattle.itf_lines.specs.PassStates.{PassState, in_the_head}

-- Whether a call ran out of memory, of which nothing else is said then; the continue code; how many
-- physical lines ended; the bytes of the physical line that has begun; and the state of the pass
-- before it.
pub record FeedState : Type 0 where
  pub failed : Bool
  pub code : ℕ
  pub ended : ℕ
  pub begun : List ℕ
  pub state : PassState

-- before a text
abbrev pub opening : ℕ → FeedState
opening code = record { failed = false; code = code; ended = 0; begun = []; state = in_the_head }

-- no byte is a LF
abbrev pub has_no_lf : List ℕ → Bool
has_no_lf [] = true
has_no_lf (c ∷ text) = not (c == 10) && has_no_lf text
