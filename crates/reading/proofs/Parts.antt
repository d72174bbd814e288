-- Bytes laid into a buffer one part behind the other.
use Rattle.std.proofs.Common.{◌≡◌, ℕ, ◌+◌, ◌-◌, ◌*◌, ◌≤◌, min, List, ◌++◌, length, take, drop, sym, ap, ◌∙◌, ap₂, inl, inr, append_assoc, append-nil, arith}
use Rattle.std.proofs.lemmas.Bool.{cases_lt}
use Rattle.std.proofs.lemmas.List.{length-take, length-take-le, take_all, take-take, take_at, drop_at, drop_all, drop-drop, take-append-drop, take_min, drop-append-le}
use Rattle.std.proofs.lemmas.Slice.{between_is}
use borrow.Rule.Slice.PartMut.{put_mid}
use Rattle.reading.specs.Buffers.{over, PartRead}

-- what lies between two places
pub take_split : {X : Type 0} (a e : ℕ) (xs : List X) → a ≤ e → take e xs ≡ take a xs ++ take (e - a) (drop a xs)
take_split a e xs h = sym (take-append-drop a (take e xs)) ∙ ap₂ ◌++◌ (take-take a e xs h) (sym (between_is xs a e))

-- as many of the first as there are
pub take_least : {X : Type 0} (n k : ℕ) (xs : List X) → n ≡ min k (length xs) → take n xs ≡ take k xs
take_least n k xs e = ap (λ (i : ℕ). take i xs) e ∙ take_min k xs

pub over_take : (x b : List ℕ) (i j : ℕ) → i ≡ j → over (take i x) b ≡ over (take j x) b
over_take x b i j e = ap (λ (k : ℕ). over (take k x) b) e

-- the next part behind those that are there
pub laid : (x b : List ℕ) (a e : ℕ) → a ≤ e → e ≤ length x → put_mid a (e - a) (over (take a x) b) (take (e - a) (drop a x)) ≡ over (take e x) b
laid x b a e h l =
    let na : length (take a x) ≡ a = length-take-le a x (omega arith) in
    let ne : length (take e x) ≡ e = length-take-le e x l in
    let o : over (take a x) b ≡ take a x ++ drop a b = ap (λ (k : ℕ). take a x ++ drop k b) na in
    let f = take_at (take a x) (drop a b) a na in
    let g = drop_at (take a x) (drop a b) a na in
    let s : a + (e - a) ≡ e = omega arith in
    let d : drop (e - a) (drop a b) ≡ drop e b = drop-drop (e - a) a b ∙ ap (λ (k : ℕ). drop k b) s in
    let t = take_split a e x h in
    let y = append_assoc (take a x) (take (e - a) (drop a x)) (drop e b) in
    let z : over (take e x) b ≡ take e x ++ drop e b = ap (λ (k : ℕ). take e x ++ drop k b) ne in
    cc

-- a part put back as it was
pub put_back : {X : Type 0} (a k : ℕ) (xs : List X) → put_mid a k xs (take k (drop a xs)) ≡ xs
put_back a k xs = ap (λ (z : List _). take a xs ++ z) (take-append-drop k (drop a xs)) ∙ take-append-drop a xs

-- none yet, and all
pub over_none : (x b : List ℕ) (i : ℕ) → i ≡ 0 → b ≡ over (take i x) b
over_none x b i e = ap (λ (k : ℕ). over (take k x) b) (sym e)

pub over_all : (x b : List ℕ) (i : ℕ) → length x ≡ length b → length b ≤ i → over (take i x) b ≡ x
over_all x b i l h =
    ap (λ (z : List ℕ). over z b) (take_all i x (omega arith))
    ∙ ap (λ (z : List ℕ). x ++ z) (drop_all (length x) b (omega arith)) ∙ append-nil x

-- INTO A BUFFER'S FRONT

behind : (b : List ℕ) (j n : ℕ) → j ≤ n → n ≤ length b → drop j (take n b) ++ drop n b ≡ drop j b
behind b j n h l =
    sym (drop-append-le j (take n b) (drop n b) (omega (arith, length-take-le n b l))) ∙ ap (drop j) (take-append-drop n b)

pub front_read : (x b p : List ℕ) (n : ℕ) → length x ≡ n → p ≡ x → p ++ drop n b ≡ over x b
front_read x b p n l e = ap₂ (λ (z : List ℕ) (k : ℕ). z ++ drop k b) e (sym l)

pub front_part : (x b p : List ℕ) (n skip : ℕ) → length x ≡ n → n ≤ length b → PartRead x skip (take n b) p → PartRead x skip b (p ++ drop n b)
front_part x b p n skip l h r =
    let y : List ℕ = take (512 * r.sectors - skip) x in
    let j : length y ≤ n = omega (arith, length-take (512 * r.sectors - skip) x) in
    record {
      sectors = r.sectors;
      unfinished = r.unfinished;
      holds =
          ap (λ (z : List ℕ). z ++ drop n b) r.holds
          ∙ append_assoc y (drop (length y) (take n b)) (drop n b)
          ∙ ap (λ (z : List ℕ). y ++ z) (behind b (length y) n j h);
    }

-- the bytes from a place on, as far as there is room, of the first bytes of y
pub part_counted : (y : List ℕ) (size place room n : ℕ) → n ≡ min (size - place) room → take room (drop place (take size y)) ≡ take n (drop place y)
part_counted y size place room n e =
    let z = drop place y in
    let f : take room (take (size - place) z) ≡ take n z =
    elim (cases_lt (size - place) room) [
      | inl h ↦
          let k : size - place ≡ n = omega arith in
          let m : length (take (size - place) z) ≤ room = omega (arith, length-take (size - place) z) in
          take_all room (take (size - place) z) m ∙ ap (λ (i : ℕ). take i z) k
      | inr h ↦
          let k : room ≡ n = omega arith in
          take-take room (size - place) z h ∙ ap (λ (i : ℕ). take i z) k
    ] in
    ap (take room) (sym (between_is y place size)) ∙ f
