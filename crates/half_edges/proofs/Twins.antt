use Rattle.std.proofs.Common.{◌≡◌, ℕ, ◌<◌, ◌+◌, ◌%◌, ◌*◌, arith}
use Rattle.half_edges.specs.HalfEdges.{twin_of}

pub twin-twin : (h : ℕ) → twin_of (twin_of h) ≡ h
twin-twin h = omega arith

pub twin_same : (g h : ℕ) → twin_of g ≡ twin_of h → g ≡ h
twin_same g h e = omega arith

pub twin_within : (n h : ℕ) → n % 2 ≡ 0 → h < n → twin_of h < n
twin_within n h even l = omega arith

pub twin_low : (e : ℕ) → twin_of (2 * e) ≡ 2 * e + 1
twin_low e = omega arith

pub twin_high : (e : ℕ) → twin_of (2 * e + 1) ≡ 2 * e
twin_high e = omega arith
