-- Lines at the front of a piece.
use Rattle.std.proofs.Common.{◌≡◌, ℕ, zero, suc, ◌-◌, ◌<◌, List, [], ◌∷◌, ◌++◌, length, take, drop}
use Rattle.std.proofs.Common.{get_or, refl, sym, ap, ◌∙◌, subst, arith, append_assoc}
use Rattle.std.proofs.Common.{Result, Err}
use Rattle.std.proofs.Common.{length-drop}
use Rattle.std.proofs.lemmas.List.{take-append-drop, append-nil, take_all}
use Rattle.certificate.specs.declared.fault.CertFault.{CertFault}
use Rattle.certificate.specs.declared.fault.CertFault.TheVariants as faults
use Rattle.certificate.specs.declared.stages.Stage.{Stage}
use Rattle.certificate.specs.Spelling.{Plain}
use Rattle.certificate.specs.Reading.{Text, Fails}
use Rattle.certificate.specs.Feeding.{EndsLine, MayFollow, FailsOn, onto, stage_on}
use Rattle.certificate.specs.Feeds.{IsOfText}

pub ends_at : (n : ℕ) (bytes : List ℕ) → n < length bytes → get_or bytes n 0 ≡ 10
    → EndsLine (take (suc n) bytes)
ends_at n [] l e = absurd (omega (arith, l))
ends_at zero (c ∷ bytes) l e = e
ends_at (suc n) (c ∷ []) l e = absurd (omega (arith, l))
ends_at (suc n) (c ∷ d ∷ bytes) l e = ends_at n (d ∷ bytes) (omega (arith, l)) e

pub ends_with : (a b : List ℕ) → 0 < length b → EndsLine b → EndsLine (a ++ b)
ends_with [] b h l = l
ends_with (c ∷ []) [] h l = absurd (omega (arith, h))
ends_with (c ∷ []) (d ∷ b) h l = l
ends_with (c ∷ d ∷ a) b h l = ends_with (d ∷ a) b h l

pub may_follow : (bytes rest : List ℕ) → EndsLine bytes → MayFollow bytes rest
may_follow bytes [] l = tt
may_follow bytes (c ∷ rest) l = l

-- what a text gives whose front is kept
pub begun_gives : (s : Stage) (line : ℕ) (begun bytes rest : List ℕ)
    → stage_on s (record { rest = begun ++ (bytes ++ rest); line = line })
    ≡ stage_on s (record { rest = (begun ++ bytes) ++ rest; line = line })
begun_gives s line begun bytes rest =
    ap (λ (x : List ℕ). stage_on s (record { rest = x; line = line })) (simp append_assoc)

-- the same, at the end of a text
pub ended_gives : (s : Stage) (line : ℕ) (begun : List ℕ)
    → stage_on s (record { rest = begun; line = line })
    ≡ stage_on s (record { rest = begun ++ []; line = line })
ended_gives s line begun =
    ap (λ (x : List ℕ). stage_on s (record { rest = x; line = line })) (sym (append-nil begun))

fault_is : (A : Type 0) (e : CertFault) (r : Result A CertFault) → IsOfText e → Fails e r
    → r ≡ Err e
fault_is A faults.Memory r n h = absurd n
fault_is A (faults.Line k) r n h = h
fault_is A (faults.Number k) r n h = h
fault_is A (faults.Short k) r n h = h

-- a fault stands, whatever follows
pub fault_stays : (e d : CertFault) (s : Stage) (t : Text) → d ≡ e → IsOfText d
    → FailsOn e (stage_on s) t
    → (rest : List ℕ) → MayFollow t.rest rest → stage_on s (onto t rest) ≡ Err d
fault_stays e d s t i n h rest m =
    let f : IsOfText e = subst IsOfText i n in
    fault_is (List Plain) e (stage_on s (onto t rest)) f (h rest m)
    ∙ ap (λ (x : CertFault). let r : Result (List Plain) CertFault = Err x in r) (sym i)

-- whole lines are read behind the front of one
pub lines_give : (s z y : Stage) (line next : ℕ) (begun bytes whole kept rest : List ℕ) → z ≡ s
    → whole ≡ begun ++ bytes → kept ≡ []
    → ((rest : List ℕ) → MayFollow whole rest
    → stage_on z (record { rest = whole ++ rest; line = line })
    ≡ stage_on y (record { rest = rest; line = next }))
    → 0 < length bytes → EndsLine bytes
    → stage_on s (record { rest = begun ++ (bytes ++ rest); line = line })
    ≡ stage_on y (record { rest = kept ++ rest; line = next })
lines_give s z y line next begun bytes whole kept rest e w k h n l =
    let m : MayFollow whole rest = may_follow whole rest
    (subst EndsLine (sym w) (ends_with begun bytes n l)) in
    let first : stage_on s (record { rest = begun ++ (bytes ++ rest); line = line })
    ≡ stage_on z (record { rest = whole ++ rest; line = line }) =
    rw (e, w) (begun_gives s line begun bytes rest) in
    let last : stage_on y (record { rest = rest; line = next })
    ≡ stage_on y (record { rest = kept ++ rest; line = next }) = rw k refl in
    first ∙ h rest m ∙ last

pub cut_piece : (n : ℕ) (piece rest : List ℕ)
    → piece ++ rest ≡ take n piece ++ (drop n piece ++ rest)
cut_piece n piece rest = ap (λ (p : List ℕ). p ++ rest) (sym (take-append-drop n piece))
    ∙ simp append_assoc

pub rest_of : (n : ℕ) (piece : List ℕ) → take (length piece - n) (drop n piece) ≡ drop n piece
rest_of n piece = take_all (length piece - n) (drop n piece) (omega (arith, length-drop n piece))
