-- The bytes of a slot's block, read sector by sector.
use Rattle.std.proofs.Common.{◌≡◌, ℕ, ◌+◌, ◌-◌, ◌*◌, ◌/◌, ◌%◌, ◌<◌, ◌≤◌, min, List, [], length, get_or, take, drop, Ok, Err, sym, refl, ap, ◌∙◌, ap₂, subst, arith}
use Rattle.std.proofs.lemmas.List.{length-take-le, length-drop, take-take, drop-drop, get_or-take, get_or-drop}
use Rattle.std.proofs.lemmas.Slice.{between_is}
use borrow.Rule.Slice.PartMut.{put_mid}
use Rattle.device.specs.Faults.{Faults, Within}
use Rattle.device.specs.Meaning.{Meaning, Sectors, Lawful, MayAccept, sector}
use Rattle.device.specs.declared.faults.Act.TheVariants.{Read}
use Rattle.device.specs.declared.faults.Fault.{Fault}
use Rattle.layout.specs.Bytes.{part}
use Rattle.layout.specs.Sizes.{block_of}
use Rattle.layout.specs.declared.sizes.Layout.{Layout}
use Rattle.places.specs.Places.{places}
use Rattle.plans.specs.Plans.{place_in}
use Rattle.plans.proofs.Blocks.{Wide, wide_from, length-bytes_in, bytes_in_part}
use Rattle.volume.specs.Directory.{Room, ReadRefused}
use Rattle.volume.proofs.Glue.{sectors_at}
use Rattle.reading.specs.Buffers.{over, PartRead}
use Rattle.reading.specs.Blocks.{block_bytes, BytesRead, BytesCut, ReadsPart}
use Rattle.reading.proofs.Parts.{laid, put_back, over_all}

-- THE BLOCK

-- the sectors of a block: 128 whole ones, from the block's first on
pub record Block (c : Layout) (s : Sectors) (k : ℕ) (xs : Sectors) : Type 0 where
  pub many : length xs ≡ 128
  pub wide : Wide xs
  pub at : (q : ℕ) → q < 128 → get_or xs q [] ≡ get_or s (block_of c k + q) []

block_taken : (c : Layout) (m : Meaning) (k : ℕ) → Room c m → Lawful m → k < c.slots → Block c m.sectors k (take 128 (drop (block_of c k) m.sectors))
block_taken c m k h w l =
    let s = m.sectors in
    let b = block_of c k in
    let last = h.blocks k 127 l (omega arith) in
    let n : length (take 128 (drop b s)) ≡ 128 = length-take-le 128 (drop b s) (omega (arith, length-drop b s)) in
    let a : (q : ℕ) → q < 128 → get_or (take 128 (drop b s)) q [] ≡ get_or s (b + q) [] =
    λ q i. get_or-take 128 (drop b s) q [] i ∙ get_or-drop b s q [] in
    record {
      many = n;
      wide = wide_from (take 128 (drop b s)) (λ q i. ap length (a q (omega arith)) ∙ w.whole (b + q) (h.blocks k q l (omega arith)));
      at = a;
    }

pub block_is : (c : Layout) (m : Meaning) (k : ℕ) → Room c m → Lawful m → k < c.slots → Block c m.sectors k (place_in (places c m.sectors) k).sectors
block_is c m k h w l = subst (Block c m.sectors k) (sym (sectors_at c m.sectors k l)) (block_taken c m k h w l)

pub length-block : (c : Layout) (m : Meaning) (k : ℕ) → Room c m → Lawful m → k < c.slots → length (block_bytes c m.sectors k) ≡ 65536
length-block c m k h w l =
    let b = block_is c m k h w l in
    length-bytes_in (place_in (places c m.sectors) k).sectors b.wide ∙ omega (arith, b.many)

pub length-part : (c : Layout) (m : Meaning) (k place room : ℕ) → Room c m → Lawful m → k < c.slots → place + room ≤ 65535 → length (part (block_bytes c m.sectors k) place room) ≡ room
length-part c m k place room h w l f =
    let y = block_bytes c m.sectors k in
    length-take-le room (drop place y) (omega (arith, length-drop place y, length-block c m k h w l))

-- the bytes between two places of a part, out of their sector
sector_part : (c : Layout) (m : Meaning) (k place room a e : ℕ) → Room c m → Lawful m → k < c.slots → place + room ≤ 65535 → a < room →
    e ≡ min room (a + (512 - (place + a) % 512)) →
    take (e - a) (drop a (part (block_bytes c m.sectors k) place room)) ≡ part (sector m (block_of c k + (place + a) / 512)) ((place + a) % 512) (e - a)
sector_part c m k place room a e h w l f i d =
    let xs = (place_in (places c m.sectors) k).sectors in
    let y = block_bytes c m.sectors k in
    let b = block_is c m k h w l in
    let q = (place + a) / 512 in
    let skip = (place + a) % 512 in
    let n : place + a ≡ 512 * q + skip = omega arith in
    let q128 : q < 128 = omega arith in
    ap (take (e - a)) (sym (between_is (drop place y) a room))
    ∙ take-take (e - a) (room - a) (drop a (drop place y)) (omega arith)
    ∙ ap (take (e - a)) (drop-drop a place y ∙ ap (λ (z : ℕ). drop z y) n)
    ∙ bytes_in_part xs b.wide q skip (e - a) (omega (arith, b.many)) (omega arith)
    ∙ ap (λ (z : List ℕ). take (e - a) (drop skip z)) (b.at q q128)

-- the first bytes of sector i of a block
pub sector_front : (c : Layout) (m : Meaning) (k size i n : ℕ) → Room c m → Lawful m → k < c.slots → size ≤ 65535 → 512 * i < size → n ≡ min (size - 512 * i) 512 →
    take n (drop (512 * i) (take size (block_bytes c m.sectors k))) ≡ take n (sector m (block_of c k + i))
sector_front c m k size i n h w l f d e =
    let xs = (place_in (places c m.sectors) k).sectors in
    let y = block_bytes c m.sectors k in
    let b = block_is c m k h w l in
    let i128 : i < 128 = omega arith in
    let z : 512 * i ≡ 512 * i + 0 = omega arith in
    ap (take n) (sym (between_is y (512 * i) size))
    ∙ take-take n (size - 512 * i) (drop (512 * i) y) (omega arith)
    ∙ ap (λ (j : ℕ). take n (drop j y)) z
    ∙ bytes_in_part xs b.wide i 0 n (omega (arith, b.many)) (omega arith)
    ∙ ap (take n) (b.at i i128)

-- ONE PART FURTHER

-- the numbers that the code has for the next part: of a buffer of the length `room` that is filled up to a
pub record Next (c : Layout) (k place room a skip e n : ℕ) : Type 0 where
  pub left : a < room
  pub few : place + room ≤ 65535
  pub skipped : skip ≡ (place + a) % 512
  pub end : e ≡ min room (a + (512 - skip))
  pub sector : n ≡ block_of c k + (place + a) / 512

pub next_of : {c : Layout} {k place room : ℕ} (buf : List ℕ) {a e n : ℕ} → length buf ≡ room → place + room ≤ 65535 → a < length buf → e ≡ min (length buf) (a + (512 - (place + a) % 512)) →
    n ≡ block_of c k + (place + a) / 512 → Next c k place room a ((place + a) % 512) e n
next_of {place = place} buf {a = a} g f l d s =
    record { left = omega arith; few = f; skipped = refl; end = d ∙ ap (λ (j : ℕ). min j (a + (512 - (place + a) % 512))) g; sector = s }

-- its sector is on the device
pub next_in : (c : Layout) {m m₁ : Meaning} {k place room a skip e n : ℕ} → Room c m → k < c.slots → Next c k place room a skip e n → m₁ ≡ m → n < length m₁.sectors
next_in c {m = m} {m₁ = m₁} {k = k} {place = place} {a = a} h l x i =
    let y = h.blocks k ((place + a) / 512) l (omega (arith, x.few, x.left)) in
    omega (arith, x.sector, y, ap (λ (z : Meaning). length z.sectors) i)

pub part_more : (u : Faults) (c : Layout) {m m₁ m₂ : Meaning} (k place : ℕ) (b : List ℕ) {buf new : List ℕ} {a skip e n : ℕ} → Room c m → Lawful m → k < c.slots →
    Next c k place (length b) a skip e n → length buf ≡ length b → m₁ ≡ m → buf ≡ over (take a (part (block_bytes c m.sectors k) place (length b))) b →
    ReadsPart u m₁ m₂ n skip (take (e - a) (drop a buf)) new (Ok tt) →
    (m₂ ≡ m) × MayAccept m.condition × (put_mid a (e - a) buf new ≡ over (take e (part (block_bytes c m.sectors k) place (length b))) b)
part_more u c {m = m} {m₁ = m₁} k place b {buf = buf} {new = new} {a = a} {skip = skip} {e = e} {n = n} h w l x g i o r =
    let y = part (block_bytes c m.sectors k) place (length b) in
    let t : length (take (e - a) (drop a buf)) ≡ e - a = length-take-le (e - a) (drop a buf) (omega (arith, length-drop a buf, x.end)) in
    let d : new ≡ take (e - a) (drop a y) =
    r.2 ∙ ap₂ (λ (z : Meaning) (j : ℕ). part (sector z n) skip j) i t
    ∙ ap₂ (λ (j p : ℕ). part (sector m j) p (e - a)) x.sector x.skipped
    ∙ sym (sector_part c m k place (length b) a e h w l x.few x.left (x.end ∙ ap (λ (p : ℕ). min (length b) (a + (512 - p))) x.skipped)) in (
      r.1 ∙ i,
      subst (λ (z : Meaning). MayAccept z.condition) i r.0,
      ap₂ (put_mid a (e - a)) o d ∙ laid y b a e (omega (arith, x.end, x.left)) (omega (arith, x.end, length-part c m k place (length b) h w l x.few)),
    )

-- the same reads, as the device was at first
pub refused_from : {t u : Faults} {m m₁ m' : Meaning} {n : ℕ} {f : Fault} → Within u t → m₁ ≡ m → ReadRefused u m₁ m' n f → ReadRefused t m m' n f
refused_from {u = u} {m' = m'} {n = n} {f = f} w e r =
    let q = subst (λ (x : Meaning). ReadRefused u x m' n f) e r in
    record { refusable = q.refusable; names = w Read n f q.names; leaves = q.leaves }

pub part_cut : {t u : Faults} (c : Layout) {m m₁ m₂ : Meaning} (k place : ℕ) (b : List ℕ) {buf new : List ℕ} {a skip e n : ℕ} {f : Fault} → Within u t → Room c m → Lawful m → k < c.slots →
    Next c k place (length b) a skip e n → a ≡ 512 * ((place + a) / 512 - place / 512) - place % 512 → m₁ ≡ m →
    buf ≡ over (take a (part (block_bytes c m.sectors k) place (length b))) b → ReadsPart u m₁ m₂ n skip (take (e - a) (drop a buf)) new (Err f) →
    BytesCut t m m₂ f (PartRead (part (block_bytes c m.sectors k) place (length b)) (place % 512) b (put_mid a (e - a) buf new))
part_cut c {m = m} k place b {buf = buf} {new = new} {a = a} {e = e} {n = n} v h w l x z i o r =
    let y = part (block_bytes c m.sectors k) place (length b) in
    record {
      sector = n;
      refused = refused_from v i r.0;
      holds = record {
        sectors = (place + a) / 512 - place / 512;
        unfinished = omega (arith, x.left, length-part c m k place (length b) h w l x.few);
        holds = ap (put_mid a (e - a) buf) r.1 ∙ put_back a (e - a) buf ∙ o ∙ ap (λ (j : ℕ). over (take j y) b) z;
      };
    }

-- the whole part
pub part_read : (c : Layout) {m m₁ : Meaning} (k place : ℕ) (b : List ℕ) {buf : List ℕ} {a : ℕ} → Room c m → Lawful m → k < c.slots → place + length b ≤ 65535 → length b ≤ a → m₁ ≡ m →
    (0 < a → MayAccept m.condition) → buf ≡ over (take a (part (block_bytes c m.sectors k) place (length b))) b →
    BytesRead m m₁ (part (block_bytes c m.sectors k) place (length b)) buf
part_read c {m = m} k place b {a = a} h w l f d i v o =
    let n = length-part c m k place (length b) h w l f in
    record { same = i; was_read = λ j. v (omega (arith, n, j)); holds = o ∙ over_all _ b a n d }
