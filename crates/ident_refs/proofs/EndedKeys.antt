-- The keys by the parts of a list, joined one after another.
use Rattle.std.proofs.Common.{◌≡◌, ℕ, zero, suc, ◌+◌, ◌<◌, ◌≤◌, List, [], ◌∷◌, ◌++◌, length, map}
use Rattle.std.proofs.Common.{drop, get_or, Option, Some, None, refl, arith, sym, ap, ◌∙◌}
use Rattle.std.proofs.Common.{append_assoc, append-nil}
use Rattle.std.specs.Option.{option_map}
use Rattle.ident_refs.specs.KeyBytes.{key_in, with_end}
use Rattle.ident_refs.specs.RowKeys.{numbered_key, and_ended, all_ended}
use Rattle.ident_refs.proofs.FlatSteps.{got_again}
use Rattle.ident_refs.proofs.Splits.{split}

-- bytes, and the ended keys after them
abbrev pub ended_after : List ℕ → Option (List ℕ) → Option (List ℕ)
ended_after bytes rest = option_map (λ (more : List ℕ). bytes ++ more) rest

after_step : (bytes key : List ℕ) (rest : Option (List ℕ))
    → ended_after (bytes ++ with_end key) rest ≡ ended_after bytes (and_ended (Some key) rest)
after_step bytes key None = refl
after_step bytes key (Some more) = ap Some (append_assoc bytes (with_end key) more)

pub ended_more : (keys : List (Option (List ℕ))) (numbers : List ℕ) (i d : ℕ) (old new key : List ℕ)
    (all : Option (List ℕ))
    → i < length numbers
    → Some key ≡ numbered_key keys (get_or numbers i d) → new ≡ old ++ with_end key
    → ended_after old (all_ended (drop i (map (numbered_key keys) numbers))) ≡ all
    → ended_after new (all_ended (drop (i + 1) (map (numbered_key keys) numbers))) ≡ all
ended_more keys numbers i d old new key all lt k e inv =
    let rest = all_ended (drop (i + 1) (map (numbered_key keys) numbers)) in
    ap (λ (b : List ℕ). ended_after b rest) e
    ∙ after_step old key rest
    ∙ ap (λ (o : Option (List ℕ)). ended_after old (and_ended o rest)) k
    ∙ ap (λ (ks : List (Option (List ℕ))). ended_after old (all_ended ks))
    (sym (split (numbered_key keys) i numbers (get_or numbers i d) lt
    (got_again numbers i d lt)).0)
    ∙ inv

pub none_ended : (keys : List (Option (List ℕ))) (numbers : List ℕ) (i d : ℕ) (old : List ℕ)
    (all : Option (List ℕ))
    → i < length numbers → None ≡ numbered_key keys (get_or numbers i d)
    → ended_after old (all_ended (drop i (map (numbered_key keys) numbers))) ≡ all → None ≡ all
none_ended keys numbers i d old all lt k inv =
    ap (λ (o : Option (List ℕ)). ended_after old
    (and_ended o (all_ended (drop (i + 1) (map (numbered_key keys) numbers))))) k
    ∙ ap (λ (ks : List (Option (List ℕ))). ended_after old (all_ended ks))
    (sym (split (numbered_key keys) i numbers (get_or numbers i d) lt
    (got_again numbers i d lt)).0)
    ∙ inv

-- bytes that are a key
pub key_longer : (old new more : List ℕ) → new ≡ old ++ more → key_in old ≡ Some old
    → key_in new ≡ Some new
key_longer [] new more e h = absurd cc
key_longer (b ∷ old) new more e h = ap key_in e ∙ ap Some (sym e)

pub all_joined : (keys : List (Option (List ℕ))) (numbers : List ℕ) (i : ℕ) (bytes : List ℕ)
    (all : Option (List ℕ))
    → length numbers ≤ i → key_in bytes ≡ Some bytes
    → ended_after bytes (all_ended (drop i (map (numbered_key keys) numbers))) ≡ all
    → key_in bytes ≡ all
all_joined keys numbers i bytes all le h inv =
    h ∙ ap Some (sym (append-nil bytes))
    ∙ ap (λ (ks : List (Option (List ℕ))). ended_after bytes (all_ended ks))
    (sym (dropped numbers i le))
    ∙ inv
  where
    dropped : (ns : List ℕ) (i : ℕ) → length ns ≤ i → drop i (map (numbered_key keys) ns) ≡ []
    dropped [] zero le = refl
    dropped [] (suc i) le = refl
    dropped (n ∷ ns) zero le = absurd (omega (arith, le))
    dropped (n ∷ ns) (suc i) le = dropped ns i (omega (arith, le))
