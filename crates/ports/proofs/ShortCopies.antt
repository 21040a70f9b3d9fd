-- Bytes that were copied to the front of others.
use Rattle.std.proofs.Common.{◌≡◌, ℕ, ◌+◌, ◌-◌, ◌≤◌, List, ◌++◌, length, take, drop, ◌∙◌, arith}
use Rattle.std.proofs.Common.{length-append, length-take, length-drop}
use Rattle.std.proofs.lemmas.List.{take-append-drop, take-append-le, take-take, take_all}
use Rattle.std.proofs.lemmas.Slice.{take-put_mid}
use borrow.Rule.Slice.PartMut.{put_mid}

-- two pieces of one length, the first bytes and the last ones, that touch or overlap
pub two_pieces : (p : ℕ) (bytes into first last : List ℕ)
    → first ≡ take p bytes
    → last ≡ take (length bytes - (length bytes - p)) (drop (length bytes - p) bytes)
    → p ≤ length bytes → length bytes ≤ p + p → length bytes ≤ length into
    → take (length bytes)
    (put_mid (length bytes - p) (length bytes - (length bytes - p)) (first ++ drop p into) last)
    ≡ bytes
two_pieces p bytes into first last e h within twice room =
    let at = length bytes - p in
    let f : length first ≡ p = rw e (omega (arith, length-take p bytes)) in
    let g : last ≡ drop at bytes = h
    ∙ take_all (length bytes - at) (drop at bytes) (omega (arith, length-drop at bytes)) in
    let l : length last ≡ p = rw g (omega (arith, length-drop at bytes)) in
    let w : at ≤ length (first ++ drop p into) = omega
    (arith, length-append first (drop p into), length-drop p into, f) in
    let t : take at first ≡ take at bytes = rw e (take-take at p bytes (omega arith)) in
    take-put_mid at _ (first ++ drop p into) last (length bytes) (omega (arith, l)) w
    ∙ rw (take-append-le at first (drop p into) (omega (arith, f)), t, g)
    (take-append-drop at bytes)
