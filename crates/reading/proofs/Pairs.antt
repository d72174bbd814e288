-- Two blocks compared sector by sector.
use Rattle.std.proofs.Common.{◌≡◌, ℕ, ◌+◌, ◌-◌, ◌*◌, ◌/◌, ◌<◌, ◌≤◌, ◌≢◌, min, true, false, List, ◌++◌, length, take, drop, Ok, Err, sym, refl, ap, ◌∙◌, ap₂, arith}
use Rattle.std.proofs.lemmas.Bool.{false_from_ne_true}
use Rattle.std.proofs.lemmas.List.{length-take-le, length-drop, take_all}
use Rattle.std.proofs.lemmas.Slice.Eq.{bytes_eq-Decides}
use Rattle.std.specs.Str.{bytes_eq}
use Rattle.device.specs.Faults.{Faults, Within}
use Rattle.device.specs.Meaning.{Meaning, Lawful, sector}
use Rattle.device.specs.Transfers.{Reads}
use Rattle.device.specs.declared.faults.Fault.{Fault}
use Rattle.layout.specs.Sizes.{block_of}
use Rattle.layout.specs.declared.sizes.Layout.{Layout}
use Rattle.volume.specs.Directory.{Room, ReadRefused}
use Rattle.reading.specs.Blocks.{block_bytes}
use Rattle.reading.proofs.BlockReads.{length-block, sector_front, refused_from}
use Rattle.reading.proofs.Parts.{take_split, take_least}

-- sector i of slot k's block is to be read, of the sectors that so many bytes take
pub record Turn (c : Layout) (m : Meaning) (k size i : ℕ) : Type 0 where
  pub room : Room c m
  pub lawful : Lawful m
  pub inside : k < c.slots
  pub small : size ≤ 65535
  pub left : 512 * i < size

pub turn_of : {c : Layout} {m : Meaning} {k size i e : ℕ} → size ≤ 65535 → e ≡ (size + 511) / 512 → i < e → k < c.slots → Room c m → Lawful m → Turn c m k size i
turn_of s d l k h w = record { room = h; lawful = w; inside = k; small = s; left = omega arith }

turn_in : {c : Layout} {m m₁ : Meaning} {k size i j : ℕ} → Turn c m k size i → m₁ ≡ m → j ≡ block_of c k + i → j < length m₁.sectors
turn_in {k = k} {i = i} x e d =
    let y = x.room.blocks k i x.inside (omega (arith, x.small, x.left)) in
    omega (arith, d, y, ap (λ (z : Meaning). length z.sectors) e)

pub turn_read : {u : Faults} {c : Layout} {m m₁ m₂ : Meaning} {k size i n j : ℕ} {b b' : List ℕ} → Turn c m k size i → n ≡ min (size - 512 * i) 512 → m₁ ≡ m → length b ≡ 512 → j ≡ block_of c k + i →
    Reads u m₁ m₂ j b b' (Ok tt) → (m₂ ≡ m) × (take n (drop (512 * i) (take size (block_bytes c m.sectors k))) ≡ take n b')
turn_read {c = c} {m = m} {k = k} {size = size} {i = i} {n = n} x q e l d r =
    let a = r.otherwise l (turn_in x e d) in (
      a.2 ∙ e,
      sector_front c m k size i n x.room x.lawful x.inside x.small x.left q
          ∙ ap (take n) (sym (a.1 ∙ ap₂ (λ (z : Meaning) (p : ℕ). sector z p) e d)),
    )

pub turn_refused : {t u : Faults} {c : Layout} {m m₁ m₂ : Meaning} {k size i j : ℕ} {b b' : List ℕ} {f : Fault} → Turn c m k size i → Within u t → m₁ ≡ m → length b ≡ 512 → j ≡ block_of c k + i →
    Reads u m₁ m₂ j b b' (Err f) → ReadRefused t m m₂ j f
turn_refused x w e l d r =
    let a = r.otherwise l (turn_in x e d) in
    refused_from w e (record { refusable = a.0; names = a.1; leaves = a.3 })

-- THE BYTES

pub length-front : (c : Layout) (m : Meaning) (k size : ℕ) → Room c m → Lawful m → k < c.slots → size ≤ 65535 → length (take size (block_bytes c m.sectors k)) ≡ size
length-front c m k size h w l f = length-take-le size (block_bytes c m.sectors k) (omega (arith, length-block c m k h w l))

next_same : (x y : List ℕ) (i n : ℕ) → length x ≡ length y → n ≡ min (length x - 512 * i) 512 → take (512 * i) x ≡ take (512 * i) y → take n (drop (512 * i) x) ≡ take n (drop (512 * i) y) →
    take (512 * (i + 1)) x ≡ take (512 * (i + 1)) y
next_same x y i n l e f t =
    let k = 512 * (i + 1) - 512 * i in
    let le : 512 * i ≤ 512 * (i + 1) = omega arith in
    let cut : (z : List ℕ) → length z ≡ length x → take n (drop (512 * i) z) ≡ take k (drop (512 * i) z) =
    λ z d. take_least n k (drop (512 * i) z) (omega (arith, length-drop (512 * i) z, d)) in
    take_split (512 * i) (512 * (i + 1)) x le ∙ ap₂ ◌++◌ f (sym (cut x refl) ∙ t ∙ cut y (sym l)) ∙ sym (take_split (512 * i) (512 * (i + 1)) y le)

-- the sectors read, x' and y', begin with the same bytes
pub same_so_far : (x y x' y' : List ℕ) (size i n : ℕ) → length x ≡ size → length y ≡ size → n ≡ min (size - 512 * i) 512 → take (512 * i) x ≡ take (512 * i) y →
    take n (drop (512 * i) x) ≡ take n x' → take n (drop (512 * i) y) ≡ take n y' → bytes_eq (take n x') (take n y') ≡ true → take (512 * (i + 1)) x ≡ take (512 * (i + 1)) y
same_so_far x y x' y' size i n lx ly e f dx dy b =
    next_same x y i n (lx ∙ sym ly) (e ∙ ap (λ (j : ℕ). min (j - 512 * i) 512) (sym lx)) f (dx ∙ (bytes_eq-Decides (take n x') (take n y')).0 b ∙ sym dy)

unequal : (x y : List ℕ) → (x ≡ y → ⊥) → bytes_eq x y ≡ false
unequal x y h = false_from_ne_true (bytes_eq x y) (λ e. h ((bytes_eq-Decides x y).0 e))

-- or they do not
pub differ_here : (x y x' y' : List ℕ) (i n : ℕ) → take n (drop (512 * i) x) ≡ take n x' → take n (drop (512 * i) y) ≡ take n y' → bytes_eq (take n x') (take n y') ≡ false → false ≡ bytes_eq x y
differ_here x y x' y' i n dx dy b =
    sym (unequal x y λ e.
    let z = (bytes_eq-Decides (take n x') (take n y')).1 (sym dx ∙ ap (λ (v : List ℕ). take n (drop (512 * i) v)) e ∙ dy) in
    let w : true ≡ false = sym z ∙ b in cc)

pub all_same : (x y : List ℕ) (i : ℕ) → length x ≤ i → length y ≤ i → take i x ≡ take i y → true ≡ bytes_eq x y
all_same x y i h l e = sym ((bytes_eq-Decides x y).1 (sym (take_all i x h) ∙ e ∙ take_all i y l))

-- of different lengths
pub differ_long : (x y : List ℕ) → length x ≢ length y → bytes_eq x y ≡ false
differ_long x y h = unequal x y (λ e. h (ap length e))
