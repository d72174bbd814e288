-- What a write leaves: the entries and the blocks that it does not concern.
use Rattle.std.proofs.Common.{◌≡◌, ℕ, zero, suc, ◌+◌, ◌-◌, ◌*◌, ◌/◌, ◌%◌, ◌<◌, ◌≤◌, ◌≢◌, ◌⊎◌, List, [], ◌∷◌, ◌++◌, length, get_or, take, drop, set, sym, refl, ap, ◌∙◌, inl, inr, zero-add, arith}
use Rattle.std.proofs.Math.Seq.{take-set-lt}
use Rattle.device.proofs.ByteLists.{take-bytes, drop-bytes, append-bytes}
use Rattle.std.proofs.lemmas.List.{get_or-set_same, get_or-set_other, length-set, drop-set-lt, drop-set-add, take-set-le, length-take-le, length-drop, get_or-take, get_or-drop}
use Rattle.std.proofs.lemmas.Bool.{cases_eq, cases_lt}
use Rattle.device.specs.Meaning.{Sectors, Bytes}
use Rattle.layout.specs.Sizes.{place_of}
use Rattle.layout.specs.declared.sizes.Layout.{Layout}
use Rattle.places.specs.SlotWrites.{SlotAct, SlotWrite, enter, fill, spliced, written, all_written}
use Rattle.places.specs.Places.{Sound, Shaped, Place, place, places, no_place, acted, moved, all_moved, FitsAct, LayoutsSound, WritesRefine}
use Rattle.places.proofs.Lists.{spliced_here, spliced_below, spliced_above, length-spliced, counted_set, length-counted, get_or-counted}

-- the entry of a slot lies in the directory
pub dir_below : (c : Layout) → Sound c → (k : ℕ) → k < c.slots → (place_of k).sector < c.area
dir_below c v k h = omega arith

pub dir_in : (c : Layout) → Sound c → (s : Sectors) → Shaped c s → (k : ℕ) → k < c.slots → 1 + k / 16 < length s
dir_in c v s w k h = let some : 0 < c.slots = omega arith in omega (arith, v.room some, w.many)

dir_wide : (c : Layout) → Sound c → (s : Sectors) → Shaped c s → (k : ℕ) → k < c.slots → length (get_or s (1 + k / 16) []) ≡ 512
dir_wide c v s w k h = w.whole (1 + k / 16) (dir_in c v s w k h)

bytes_set : (s : Sectors) (i j : ℕ) (x : List ℕ) → Bytes x → ((k : ℕ) → Bytes (get_or s k [])) → Bytes (get_or (set s i x) j [])
bytes_set [] i j x b h = h j
bytes_set (y ∷ ys) zero zero x b h = b
bytes_set (y ∷ ys) zero (suc j) x b h = h (suc j)
bytes_set (y ∷ ys) (suc i) zero x b h = h 0
bytes_set (y ∷ ys) (suc i) (suc j) x b h = bytes_set ys i j x b (λ k. h (suc k))

bytes_spliced : (x e : List ℕ) (o : ℕ) → Bytes x → Bytes e → Bytes (spliced x o e)
unfolding spliced
bytes_spliced x e o p q =
    append-bytes (take o x) (e ++ drop 32 (drop o x)) (take-bytes o x p)
    (append-bytes e (drop 32 (drop o x)) q (drop-bytes 32 (drop o x) (drop-bytes o x p)))

shaped_set : (c : Layout) (s : Sectors) (i : ℕ) (x : List ℕ) → Shaped c s → length x ≡ 512 → Bytes x → Shaped c (set s i x)
shaped_set c s i x w e b =
    record {
      bytes = λ j. bytes_set s i j x b w.bytes;
      many = omega (arith, length-set s i x, w.many);
      whole = λ j h. elim (cases_eq j i) [
        | inl q ↦ rw (q, get_or-set_same s i x [] (omega (arith, length-set s i x))) e
        | inr n ↦ rw (get_or-set_other s i j x [] n) (w.whole j (omega (arith, length-set s i x)))
      ];
    }

-- the sectors after an act on slot k
abbrev act_written : Layout → Sectors → ℕ → SlotAct → Sectors
act_written c s k a = written c s (record { slot = k; act = a })

shaped_act : (c : Layout) → Sound c → (s : Sectors) → Shaped c s → (k : ℕ) → k < c.slots → (a : SlotAct) → FitsAct a → Shaped c (act_written c s k a)
shaped_act c v s w k h (enter e) l =
    let q : length (get_or s (1 + k / 16) []) ≡ 512 = dir_wide c v s w k h in
    shaped_set c s _ _ w (length-spliced (get_or s (1 + k / 16) []) e (32 * (k % 16)) (omega arith) l.0 ∙ q)
    (bytes_spliced (get_or s (1 + k / 16) []) e (32 * (k % 16)) (w.bytes (1 + k / 16)) l.1)
shaped_act c v s w k h (fill i x) l = shaped_set c s _ x w l.0 l.1

same_place : (p q : Place) → p.slot ≡ q.slot → p.first ≡ q.first → p.entry ≡ q.entry → p.sectors ≡ q.sectors → p ≡ q
same_place p q n a e f = λ i. record { slot = n i; first = a i; entry = e i; sectors = f i }

place_here : (c : Layout) → Sound c → (s : Sectors) → Shaped c s → (k : ℕ) → k < c.slots → (a : SlotAct) → FitsAct a → place c (act_written c s k a) k ≡ acted (place c s k) a
unfolding place
place_here c v s w k h (enter e) l =
    let q : length (get_or s (1 + k / 16) []) ≡ 512 = dir_wide c v s w k h in
    same_place _ _ refl refl
    (rw (get_or-set_same s (1 + k / 16) (spliced (get_or s (1 + k / 16) []) (32 * (k % 16)) e) [] (dir_in c v s w k h))
    (spliced_here (get_or s (1 + k / 16) []) e (32 * (k % 16)) l.0 (omega arith)))
    (ap (take 128) (drop-set-lt (c.area + 128 * k) s (1 + k / 16) _ (omega (arith, dir_below c v k h))))
place_here c v s w k h (fill i x) l =
    same_place _ _ refl refl
    (rw (get_or-set_other s (c.area + 128 * k + i) (1 + k / 16) x [] (omega (arith, dir_below c v k h))))
    (rw (drop-set-add (c.area + 128 * k) s i x) (take-set-lt 128 (drop (c.area + 128 * k) s) i x l.2))

place_other : (c : Layout) → Sound c → (s : Sectors) → Shaped c s → (k : ℕ) → k < c.slots → (a : SlotAct) → FitsAct a → (j : ℕ) → j < c.slots → j ≢ k → place c (act_written c s k a) j ≡ place c s j
unfolding place
place_other c v s w k h (enter e) l j _ n =
    let q : length (get_or s (1 + k / 16) []) ≡ 512 = dir_wide c v s w k h in
    same_place _ _ refl refl
    (elim (cases_eq (j / 16) (k / 16)) [
      | inr d ↦ rw (get_or-set_other s (1 + k / 16) (1 + j / 16) (spliced (get_or s (1 + k / 16) []) (32 * (k % 16)) e) [] (omega arith))
      | inl d ↦ rw (d, get_or-set_same s (1 + k / 16) (spliced (get_or s (1 + k / 16) []) (32 * (k % 16)) e) [] (dir_in c v s w k h))
          (elim (cases_lt (j % 16) (k % 16)) [
            | inl b ↦ spliced_below (get_or s (1 + k / 16) []) e (32 * (k % 16)) (32 * (j % 16)) (omega arith) (omega arith)
            | inr b ↦ spliced_above (get_or s (1 + k / 16) []) e (32 * (k % 16)) (32 * (j % 16)) (omega arith) (omega arith) l.0
          ])
    ])
    (ap (take 128) (drop-set-lt (c.area + 128 * j) s (1 + k / 16) _ (omega (arith, dir_below c v k h))))
place_other c v s w k h (fill i x) l j m n =
    let f : i < 128 = l.2 in
    same_place _ _ refl refl
    (rw (get_or-set_other s (c.area + 128 * k + i) (1 + j / 16) x [] (omega (arith, dir_below c v j m))))
    (take-drop-set s (c.area + 128 * j) 128 (c.area + 128 * k + i) x (elim (cases_lt j k) [ inl b ↦ inr (omega arith) | inr b ↦ inl (omega arith) ]))
  where
    take-drop-set : {X : Type 0} (s : List X) (m n i : ℕ) (x : X) → (i < m) ⊎ (m + n ≤ i) → take n (drop m (set s i x)) ≡ take n (drop m s)
    take-drop-set s m n i x (inl h) = ap (take n) (drop-set-lt m s i x h)
    take-drop-set s m n i x (inr h) =
        let q : i ≡ m + (i - m) = omega arith in
        rw (q, drop-set-add m s (i - m) x, take-set-le n (drop m s) (i - m) x (omega arith))

pub place_at : (c : Layout) (s : Sectors) (k : ℕ) → k < c.slots → get_or (places c s) k no_place ≡ place c s k
unfolding places
place_at c s k h = get_or-counted (place c s) 0 c.slots k no_place h ∙ rw zero-add

pub length-places : (c : Layout) (s : Sectors) → length (places c s) ≡ c.slots
unfolding places
length-places c s = length-counted (place c s) 0 c.slots

-- a write moves its place, and no other
pub places_put : (c : Layout) → Sound c → (s : Sectors) → Shaped c s → (w : SlotWrite) → w.slot < c.slots → FitsAct w.act → places c (written c s w) ≡ moved (places c s) w
unfolding places
places_put c v s g w h f =
    counted_set _ _ 0 c.slots w.slot _ h
    (λ j a b n. place_other c v s g w.slot h w.act f j (omega arith) (omega arith))
    (rw zero-add (place_here c v s g w.slot h w.act f ∙ ap (λ p. acted p w.act) (sym (place_at c s w.slot h))))

pub layouts_sound : LayoutsSound
layouts_sound s = record { directory = omega arith; listed = omega arith; room = λ h. omega arith }

pub writes_refine_lem : WritesRefine
writes_refine_lem c v s g [] f = (g, refl)
writes_refine_lem c v s g (w ∷ ws) f =
    let r = writes_refine_lem c v (written c s w) (shaped_act c v s g w.slot f.0 w.act f.1) ws f.2 in
    (r.0, r.1 ∙ ap (λ ps. all_moved ps ws) (places_put c v s g w f.0 f.1))

-- every place of a shaped card has an entry of 32 bytes and a block of 128 whole sectors
pub record Full (p : Place) : Type 0 where
  pub entry_long : length p.entry ≡ 32
  pub entry_bytes : Bytes p.entry
  pub many : length p.sectors ≡ 128
  pub whole : (i : ℕ) → i < 128 → length (get_or p.sectors i []) ≡ 512
  pub bytes : (i : ℕ) → i < 128 → Bytes (get_or p.sectors i [])

place_full : (c : Layout) → Sound c → (s : Sectors) → Shaped c s → (k : ℕ) → k < c.slots → Full (place c s k)
unfolding place
place_full c v s w k h =
    let q : length (get_or s (1 + k / 16) []) ≡ 512 = dir_wide c v s w k h in
    let some : 0 < c.slots = omega arith in
    let room = v.room some in
    let many = w.many in
    let d : List ℕ = get_or s (1 + k / 16) [] in
    record {
      entry_long = length-take-le 32 (drop (32 * (k % 16)) d) (simp length-drop (omega arith));
      entry_bytes = take-bytes 32 (drop (32 * (k % 16)) d) (drop-bytes (32 * (k % 16)) d (w.bytes (1 + k / 16)));
      many = length-take-le 128 (drop (c.area + 128 * k) s) (simp length-drop (omega arith));
      whole = λ i l. rw (get_or-take 128 (drop (c.area + 128 * k) s) i [] l, get_or-drop (c.area + 128 * k) s i []) (w.whole (c.area + 128 * k + i) (omega arith));
      bytes = λ i l. rw (get_or-take 128 (drop (c.area + 128 * k) s) i [] l, get_or-drop (c.area + 128 * k) s i []) (w.bytes (c.area + 128 * k + i));
    }

pub places_full : (c : Layout) → Sound c → (s : Sectors) → Shaped c s → (k : ℕ) → k < c.slots → Full (get_or (places c s) k no_place)
places_full c v s w k h = rw (place_at c s k h) (place_full c v s w k h)

-- a place's own number and first sector
pub place_slot : (c : Layout) (s : Sectors) (k : ℕ) → k < c.slots → (get_or (places c s) k no_place).slot ≡ k
unfolding place
place_slot c s k h = ap (λ (p : Place). p.slot) (place_at c s k h)

pub place_first : (c : Layout) (s : Sectors) (k : ℕ) → k < c.slots → (get_or (places c s) k no_place).first ≡ c.area + 128 * k
unfolding place
place_first c s k h = ap (λ (p : Place). p.first) (place_at c s k h)

-- writes to slots leave the number of sectors, and sector 0
pub length-all_written : (c : Layout) (s : Sectors) (ws : List SlotWrite) → length (all_written c s ws) ≡ length s
length-all_written c s [] = refl
length-all_written c s (w ∷ ws) = length-all_written c (written c s w) ws ∙ length-set s _ _

label_kept_by : (c : Layout) → Sound c → (s : Sectors) (k : ℕ) (a : SlotAct) → get_or (act_written c s k a) 0 [] ≡ get_or s 0 []
label_kept_by c v s k (enter e) = get_or-set_other s (1 + k / 16) 0 _ [] (omega arith)
label_kept_by c v s k (fill i x) = let h = v.directory in get_or-set_other s (c.area + 128 * k + i) 0 x [] (omega arith)

pub label_kept : (c : Layout) → Sound c → (s : Sectors) (ws : List SlotWrite) → get_or (all_written c s ws) 0 [] ≡ get_or s 0 []
label_kept c v s [] = refl
label_kept c v s (w ∷ ws) = label_kept c v (written c s w) ws ∙ label_kept_by c v s w.slot w.act
