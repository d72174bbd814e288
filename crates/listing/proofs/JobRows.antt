-- The rows of a listing, slot by slot.
use Rattle.std.proofs.Common.{◌≡◌, ℕ, zero, suc, ◌+◌, ◌-◌, ◌<◌, ◌≤◌, List, [], ◌∷◌, length, map, take, drop, Some, Ok, Err, Option, sym, refl, ap, ◌∙◌, subst, arith}
use Rattle.std.proofs.lemmas.List.{length-drop, length-take-le, get_or-take, get_or-drop}
use Rattle.device.specs.Faults.{Faults, Within}
use Rattle.device.specs.Meaning.{Meaning, Sectors, Lawful}
use Rattle.device.specs.declared.faults.Fault.{Fault}
use Rattle.layout.specs.Sizes.{layout_of, place_of, block_of}
use Rattle.layout.specs.declared.sizes.Layout.{Layout}
use Rattle.entries.specs.declared.entry.Entry.{Entry}
use Rattle.entries.specs.declared.state.EntryState.{EntryState}
use Rattle.places.specs.Places.{place, places, counted_up}
use Rattle.places.proofs.Frames.{place_at}
use Rattle.plans.specs.Calls.{Answer, jobs, list}
use Rattle.plans.specs.Memory.{Memory, card_layout}
use Rattle.plans.specs.Plans.{place_in, card_places}
use Rattle.plans.specs.Rows.{job_row, row_of, rows_from, kept, job_rows}
use Rattle.plans.specs.Slots.{as_slot, bytes_in, decoded, job_in, slots_in}
use Rattle.plans.proofs.Blocks.{wide_from, length-bytes_in}
use Rattle.refusals.specs.declared.Refusal.TheVariants.{Device}
use Rattle.rows.specs.declared.job_row.JobRow.{JobRow}
use Rattle.rows.specs.declared.table.RowTable.{RowTable}
use Rattle.volume.specs.Directory.{Room, ReadRefused}
use Rattle.volume.specs.Outcomes.{Performs}
use Rattle.volume.proofs.Glue.{room, sectors_at}
use Rattle.volume.proofs.Passes.{Looked, ReadOff, looked_in, passed}
use Rattle.listing.specs.Tables.{Holds, HoldsFirst, Lists}
use Rattle.listing.proofs.Endings.{refused_from, reading_ends, reading_refused}
use Rattle.listing.proofs.Tables.{rows_below, holds_first}

-- the row of slot k
abbrev pub slot_row : Layout → Sectors → ℕ → Option JobRow
slot_row c s k = row_of k (decoded (place c s k))

rows_counted : (c : Layout) (s : Sectors) (k n : ℕ) → rows_from k (map decoded (counted_up (place c s) k n)) ≡ counted_up (slot_row c s) k n
rows_counted c s k zero = refl
rows_counted c s k (suc n) = ap (λ (t : List (Option JobRow)). slot_row c s k ∷ t) (rows_counted c s (suc k) n)

pub all_rows : (c : Layout) (s : Sectors) → job_rows (slots_in (places c s)) ≡ rows_below (slot_row c s) c.slots
unfolding job_rows places
all_rows c s = ap kept (rows_counted c s 0 c.slots)

-- a block has room for every job
block_bytes : (c : Layout) (m : Meaning) (k : ℕ) → Room c m → Lawful m → k < c.slots → length (bytes_in (take 128 (drop (block_of c k) m.sectors))) ≡ 65536
block_bytes c m k r w h =
    let s = m.sectors in
    let a = block_of c k in
    let l : a + 127 < length s = r.blocks k 127 h (omega arith) in
    let d : length (drop a s) ≡ length s - a = length-drop a s in
    let n : length (take 128 (drop a s)) ≡ 128 = length-take-le 128 (drop a s) (omega arith) in
    length-bytes_in (take 128 (drop a s))
    (wide_from (take 128 (drop a s))
    (λ i j. ap length (get_or-take 128 (drop a s) i [] (omega arith) ∙ get_or-drop a s i []) ∙ w.whole (a + i) (omega arith)))
    ∙ omega (arith, n)

-- the row that the code makes of the entry
pub row_read : (c : Layout) (m : Meaning) (k : ℕ) {e : Entry} {x : EntryState} {o : Option JobRow} → Room c m → Lawful m → k < c.slots → ReadOff c m.sectors k e x →
    ((s : Sectors) → 65535 ≤ length (bytes_in s) → o ≡ row_of k (as_slot x (job_in e s))) → o ≡ slot_row c m.sectors k
row_read c m k r w h y f =
    let b = (place_in (places c m.sectors) k).sectors in
    let n : length (bytes_in b) ≡ 65536 = ap (λ (s : Sectors). length (bytes_in s)) (sectors_at c m.sectors k h) ∙ block_bytes c m k r w h in
    f b (omega arith) ∙ ap (row_of k) (sym y.slot ∙ ap decoded (place_at c m.sectors k h))

abbrev some_row : JobRow → Option JobRow
some_row r = Some r

-- the row of a live or erased job
pub made_row : (k : ℕ) (e : Entry) (s : Sectors) → e.size ≤ length (bytes_in s) →
    Some (record { slot = k; name = e.name; kind = e.kind; address = e.address; size = e.size }) ≡ Some (job_row k (job_in e s))
unfolding job_in
made_row k e s h =
    ap (λ (n : ℕ). some_row (record { slot = k; name = e.name; kind = e.kind; address = e.address; size = n })) (sym (length-take-le e.size (bytes_in s) h))

-- THE CALL

-- its layout is that of the mounted card
pub listed : (t : Faults) (m m' : Meaning) (q : Memory) {l : Layout} {k n : ℕ} {b : List ℕ} {old : List JobRow} {r : RowTable JobRow} → l ≡ layout_of q.size → k ≡ l.slots → n ≡ r.total →
    (Room l m → Looked m m' k b × Holds (rows_below (slot_row l m.sectors) k) old r) → Performs t (Lists old r) list m m' q q (Ok n)
listed t m m' q {l = l} {k = k} {n = n} {b = b} {old = old} {r = r} a e f w =
    record {
      ends = λ h.
          let c = layout_of q.size in
          let x = subst (λ (y : Layout). Room y m → Looked m m' k b × Holds (rows_below (slot_row y m.sectors) k) old r) a w (room q.size m h) in
          let i : k ≡ c.slots = e ∙ ap (λ (y : Layout). y.slots) a in
          let rs = job_rows (slots_in (places c m.sectors)) in
          let y : Holds rs old r = subst (λ (ys : List JobRow). Holds ys old r) (ap (rows_below (slot_row c m.sectors)) i ∙ sym (all_rows c m.sectors)) x.1 in
          reading_ends c (Lists old r) (jobs rs) q
          (record { rows = rs; answer = refl; total = f ∙ y.total; holds = y })
          (passed x.0 (λ z. omega (arith, i, z)));
    }

pub list_refused : (t u : Faults) (m m₁ m' : Meaning) (q : Memory) {A : Type 0} (V : A → Answer → Type 0) {l : Layout} {k : ℕ} {b : List ℕ} {f : Fault} {P : Type 0} → l ≡ layout_of q.size → k < l.slots → Within u t →
    (Room l m → Looked m m₁ k b × P) → ((place_of k).sector < length m₁.sectors → ((place_of k).offset ≡ 0) × ReadRefused u m₁ m' (place_of k).sector f) →
    Performs t V list m m' q q (Err (Device f))
list_refused t u m m₁ m' q V {l = l} {k = k} {b = b} a h w x y =
    record {
      ends = λ i.
          let r : Room l m = subst (λ (c : Layout). Room c m) (sym a) (room q.size m i) in
          let z = (x r).0 in
          reading_refused t (card_layout q) (jobs (job_rows (slots_in (card_places q m.sectors)))) q (refused_from w z.same (y (looked_in z r h)).1);
    }

pub list_first : (m : Meaning) (q : Memory) {l : Layout} {k : ℕ} {old : List JobRow} {r : RowTable JobRow} {P : Type 0} → l ≡ layout_of q.size → k < l.slots →
    (Room l m → P × Holds (rows_below (slot_row l m.sectors) k) old r) → q.size ≤ length m.sectors → HoldsFirst (job_rows (slots_in (card_places q m.sectors))) old r
list_first m q {l = l} {k = k} {old = old} {r = r} {P = P} a h x i =
    let c = layout_of q.size in
    let y = subst (λ (z : Layout). Room z m → P × Holds (rows_below (slot_row z m.sectors) k) old r) a x (room q.size m i) in
    let j : k < c.slots = subst (λ (z : Layout). k < z.slots) a h in
    holds_first (slot_row c m.sectors) k c.slots (omega arith) (all_rows c m.sectors) y.1
