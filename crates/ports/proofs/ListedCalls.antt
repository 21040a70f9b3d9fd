-- Listed calls that are over: none of them comes, and they stay over.
use Rattle.std.proofs.Common.{◌≡◌, ℕ, ◌+◌, ◌≤◌, List, [], ◌∷◌, true, false, ◌&&◌, ◌||◌, Option}
use Rattle.std.proofs.Common.{Some, None, refl, ap, subst, sym, ◌∙◌, arith, IsSome, nat_lt, nat_eq}
use Rattle.std.proofs.Common.{cond}
use Rattle.std.proofs.lemmas.Bool.Decides.{nat_tests}
use Rattle.std.specs.List.{list_all, list_any}
use Rattle.ports.specs.Calls.{is_listed, are_over, once_over}
use Rattle.ports.specs.Faults.{raised}
use Rattle.ports.specs.MemoryFiles.{files, room, calls, listed, space, IsReadable}
use Rattle.ports.specs.MemoryOutput.{Output, sure_room}
use Rattle.ports.specs.Rooms.{HasRoom, FellBy}
use Rattle.ports.specs.declared.memory_shelf.MemoryShelf.{MemoryShelf}
use Rattle.std.specs.FinMap as map

below_is_other : (n r : ℕ) → nat_lt n r ≡ true → nat_eq n r ≡ false
below_is_other n r h = grind (arith, nat_tests)

none_listed : (r : ℕ) (listed : List ℕ) → list_all (λ n. nat_lt n r) listed ≡ true
    → list_any (λ n. nat_eq n r) listed ≡ false
none_listed r [] h = refl
none_listed r (n ∷ ns) h =
    elim (nat_lt n r) as (λ b. nat_lt n r ≡ b → (b && list_all (λ m. nat_lt m r) ns) ≡ true
    → (nat_eq n r || list_any (λ m. nat_eq m r) ns) ≡ false) [
      | true ↦ λ e k. ap (λ b. b || list_any (λ m. nat_eq m r) ns) (below_is_other n r e)
          ∙ none_listed r ns k
      | false ↦ λ e k. absurd (cc)
    ] refl h

-- the next call is not listed
pub over_unlisted : (calls : ℕ) (listed : List ℕ) → are_over calls listed ≡ true
    → is_listed calls listed ≡ false
over_unlisted calls listed h = none_listed (raised calls) listed h

below_more : (n r s : ℕ) → r ≤ s → nat_lt n r ≡ true → nat_lt n s ≡ true
below_more n r s l h = grind (arith, nat_tests)

all_below : (r s : ℕ) (listed : List ℕ) → r ≤ s → list_all (λ n. nat_lt n r) listed ≡ true
    → list_all (λ n. nat_lt n s) listed ≡ true
all_below r s [] l h = refl
all_below r s (n ∷ ns) l h =
    elim (nat_lt n r) as (λ b. nat_lt n r ≡ b → (b && list_all (λ m. nat_lt m r) ns) ≡ true
    → (nat_lt n s && list_all (λ m. nat_lt m s) ns) ≡ true) [
      | true ↦ λ e k. ap (λ b. b && list_all (λ m. nat_lt m s) ns) (below_more n r s l e)
          ∙ all_below r s ns l k
      | false ↦ λ e k. absurd (cc)
    ] refl h

-- after one more call they still are over
pub over_stays : (calls now : ℕ) (listed : List ℕ) → now ≡ raised calls
    → are_over calls listed ≡ true → are_over now listed ≡ true
over_stays calls now listed e h = all_below (raised calls) (raised now) listed (omega (arith, e)) h

-- a room that is sure stays so, as far as it goes
pub sure_fell : (n calls now : ℕ) (listed : List ℕ) (room left : Option ℕ) → now ≡ raised calls
    → FellBy n room left → FellBy n (once_over calls listed room) (once_over now listed left)
sure_fell n calls now listed room left e f =
    elim (are_over calls listed) as (λ b. are_over calls listed ≡ b
    → FellBy n (cond b room None) (once_over now listed left)) [
      | true ↦ λ o. subst (λ b. FellBy n room (cond b left None))
          (sym (over_stays calls now listed e o)) f
      | false ↦ λ o. tt
    ] refl

-- the room that is sure is room
pub room_sure : (n calls : ℕ) (listed : List ℕ) (room : Option ℕ)
    → HasRoom n (once_over calls listed room) → (is_listed calls listed ≡ false) × HasRoom n room
room_sure n calls listed room h =
    elim (are_over calls listed) as (λ b. are_over calls listed ≡ b → HasRoom n (cond b room None)
    → (is_listed calls listed ≡ false) × HasRoom n room) [
      | true ↦ λ o k. (over_unlisted calls listed o, k)
      | false ↦ λ o k. absurd k
    ] refl h

pub space_sure : (calls : ℕ) (listed : List ℕ) (room : Option ℕ)
    → IsSome (once_over calls listed room) → (is_listed calls listed ≡ false) × IsSome room
space_sure calls listed room h =
    elim (are_over calls listed) as (λ b. are_over calls listed ≡ b → IsSome (cond b room None)
    → (is_listed calls listed ≡ false) × IsSome room) [
      | true ↦ λ o k. (over_unlisted calls listed o, k)
      | false ↦ λ o k. absurd (cc)
    ] refl h

-- ---- a shelf before a call and after it
pub still_readable : (old now : MemoryShelf) → calls now ≡ raised (calls old)
    → listed now ≡ listed old → files now ≡ files old → (q : List ℕ) → IsReadable old q
    → IsReadable now q
still_readable old now e l f q h = record {
  over = subst (λ ns. are_over (calls now) ns ≡ true) (sym l)
      (over_stays (calls old) (calls now) (listed old) e h.over);
  there = subst (λ fs. IsSome (map.get fs q)) (sym f) h.there;
}

pub space_fell : (n : ℕ) (old now : MemoryShelf) (q : List ℕ) → calls now ≡ raised (calls old)
    → listed now ≡ listed old → FellBy n (room old q) (room now q)
    → FellBy n (space old q) (space now q)
space_fell n old now q e l f =
    subst (λ ns. FellBy n (space old q) (once_over (calls now) ns (room now q))) (sym l)
    (sure_fell n (calls old) (calls now) (listed old) (room old q) (room now q) e f)

no_less_at : (room now : Option ℕ) → now ≡ room → FellBy 0 room now
no_less_at None now e = tt
no_less_at (Some n) None e = absurd (cc)
no_less_at (Some n) (Some m) e = let e2 : n ≡ m = cc in omega (arith, e2)

pub space_stays : (old now : MemoryShelf) (q : List ℕ) → calls now ≡ raised (calls old)
    → listed now ≡ listed old → room now q ≡ room old q → FellBy 0 (space old q) (space now q)
space_stays old now q e l r = space_fell 0 old now q e l (no_less_at (room old q) (room now q) r)

-- ---- an output before a call and after it
pub output_fell : (n : ℕ) (old now : Output) → now.calls ≡ raised old.calls
    → now.listed ≡ old.listed → old.room ≤ now.room + n → FellBy n (sure_room old) (sure_room now)
output_fell n old now e l f =
    subst (λ ns. FellBy n (sure_room old) (once_over now.calls ns (Some now.room))) (sym l)
    (sure_fell n old.calls now.calls old.listed (Some old.room) (Some now.room) e f)
