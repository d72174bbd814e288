-- Entries that calls write: they fit their 32 bytes, and what they make of a slot.
use Rattle.std.proofs.Common.{◌≡◌, ℕ, zero, suc, ◌+◌, ◌*◌, ◌/◌, ◌%◌, ◌<◌, ◌≤◌, min, Bool, true, false, cond, ◌&&◌, eqb, leb, List, [], ◌∷◌, ◌++◌, length, get_or, drop, set, refl, ap, ◌∙◌, inl, inr, arith}
use Rattle.std.proofs.lemmas.List.{length-append, length-set, length-take-le, length-drop}
use Rattle.std.proofs.lemmas.Bool.{eqb-true, ne_eqb, leb-true, and_parts, or_cases}
use Rattle.device.specs.Meaning.{Sectors, Bytes, zeros}
use Rattle.device.proofs.ByteLists.{no_bytes, take-bytes, drop-bytes, append-bytes}
use Rattle.device.proofs.Zeros.{length-zeros}
use Rattle.layout.specs.Names.{lawful_name, name_char, name_chars, some_shown}
use Rattle.layout.specs.Words.{word_bytes, double_bytes}
use Rattle.entries.specs.Entry.{entry_in, entry_rest, entry_bytes, new_entry, hold_entry, renamed, first_set, resized}
use Rattle.entries.specs.State.{lawful_fields, state_by}
use Rattle.entries.specs.declared.entry.Entry.{Entry}
use Rattle.entries.specs.declared.state.EntryState.TheVariants.{Empty, Held, Erased, Live, Damaged}
use Rattle.entries.proofs.Entries.{entry_back}
use Rattle.places.specs.Places.{Place, acted, FitsAct}
use Rattle.places.specs.SlotWrites.{enter}
use Rattle.plans.specs.Slots.{Job, Slot, empty, held, live, erased, damaged, job_in, as_slot, slot_by, decoded}

-- fields of the widths that an entry stores
pub record FitsEntry (e : Entry) : Type 0 where
  pub name_long : length e.name ≡ 16
  pub name_bytes : Bytes e.name
  pub kind : e.kind < 256
  pub attributes : e.attributes < 256
  pub slot : e.slot < 65536
  pub first : e.first < 4294967296
  pub size : e.size < 65536
  pub sectors : e.sectors < 256
  pub address : e.address < 65536
  pub reserved_long : length e.reserved ≡ 3
  pub reserved_bytes : Bytes e.reserved

pub cons_bytes : (x : ℕ) (xs : List ℕ) → x < 256 → Bytes xs → Bytes (x ∷ xs)
cons_bytes x xs h b zero = h
cons_bytes x xs h b (suc i) = b i

pub zeros_bytes : (n : ℕ) → Bytes (zeros n)
unfolding zeros
zeros_bytes zero i = omega arith
zeros_bytes (suc n) zero = omega arith
zeros_bytes (suc n) (suc i) = zeros_bytes n i

low : (w : ℕ) → w % 256 < 256
low w = omega arith

high : (w : ℕ) → w < 65536 → w / 256 < 256
high w h = omega arith

-- each of some numbers is a byte, one by one
abbrev EachByte : List ℕ → List ℕ → Type 0
EachByte [] ys = Bytes ys
EachByte (x ∷ xs) ys = (x < 256) × EachByte xs ys

each_bytes : (xs ys : List ℕ) → EachByte xs ys → Bytes (xs ++ ys)
each_bytes [] ys h = h
each_bytes (x ∷ xs) ys h = cons_bytes x (xs ++ ys) h.0 (each_bytes xs ys h.1)

rest_bytes : (e : Entry) → FitsEntry e → Bytes (entry_rest e)
unfolding entry_rest
rest_bytes e f =
    let h1 : e.first / 65536 < 65536 = let z = f.first in omega arith in
    let h2 : e.first % 65536 < 65536 = omega arith in
    each_bytes
    ((e.kind ∷ e.attributes ∷ []) ++ (word_bytes e.slot ++ (double_bytes e.first ++ (word_bytes e.size ++ ((e.sectors ∷ []) ++ word_bytes e.address)))))
    e.reserved (
      f.kind,
      (
        f.attributes,
        (
          low e.slot,
          (
            high e.slot f.slot,
            (
              low (e.first / 65536),
              (
                high (e.first / 65536) h1,
                (
                  low (e.first % 65536),
                  (
                    high (e.first % 65536) h2,
                    (
                      low e.size,
                      (
                        high e.size f.size,
                        (
                          f.sectors,
                          (
                            low e.address,
                            (high e.address f.address, f.reserved_bytes),
                          ),
                        ),
                      ),
                    ),
                  ),
                ),
              ),
            ),
          ),
        ),
      ),
    )

rest_long : (e : Entry) → FitsEntry e → length (entry_rest e) ≡ 16
unfolding entry_rest
rest_long e f = let h = f.reserved_long in omega arith

pub entered_fits : (e : Entry) → FitsEntry e → FitsAct (enter (entry_bytes e))
entered_fits e f = (
  length-append e.name (entry_rest e) ∙ (let h = f.name_long in let g = rest_long e f in omega arith),
  append-bytes e.name (entry_rest e) f.name_bytes (rest_bytes e f),
)

word_small : (b : List ℕ) → Bytes b → (k : ℕ) → get_or b k 0 + get_or b (k + 1) 0 * 256 < 65536
word_small b h k = omega (arith, h k, h (k + 1))

pub in_fits : (b : List ℕ) → length b ≡ 32 → Bytes b → FitsEntry (entry_in b)
unfolding entry_in
in_fits b n h = record {
  name_long = length-take-le 16 b (omega arith);
  name_bytes = take-bytes 16 b h;
  kind = h 16;
  attributes = h 17;
  slot = word_small b h 18;
  first = omega (arith, word_small b h 20, word_small b h 22);
  size = word_small b h 24;
  sectors = h 26;
  address = word_small b h 27;
  reserved_long = length-take-le 3 (drop 29 b) (simp length-drop (omega arith));
  reserved_bytes = take-bytes 3 (drop 29 b) (drop-bytes 29 b h);
}

pub renamed_fits : (e : Entry) → FitsEntry e → (n : List ℕ) → length n ≡ 16 → Bytes n → FitsEntry (renamed e n)
renamed_fits e f n l b = record {
  name_long = l;
  name_bytes = b;
  kind = f.kind;
  attributes = f.attributes;
  slot = f.slot;
  first = f.first;
  size = f.size;
  sectors = f.sectors;
  address = f.address;
  reserved_long = f.reserved_long;
  reserved_bytes = f.reserved_bytes;
}

set-bytes : (n : List ℕ) (i x : ℕ) → Bytes n → x < 256 → Bytes (set n i x)
set-bytes [] i x b h = b
set-bytes (y ∷ ys) zero x b h = cons_bytes x ys h (λ i. b (suc i))
set-bytes (y ∷ ys) (suc i) x b h = cons_bytes y (set ys i x) (b 0) (set-bytes ys i x (λ j. b (suc j)) h)

pub first_fits : (e : Entry) → FitsEntry e → (x : ℕ) → x < 256 → FitsEntry (first_set e x)
first_fits e f x h = renamed_fits e f (set e.name 0 x) (length-set e.name 0 x ∙ f.name_long) (set-bytes e.name 0 x f.name_bytes h)

pub resized_fits : (e : Entry) → FitsEntry e → (z : ℕ) → z < 65536 → FitsEntry (resized e z)
resized_fits e f z h = record {
  name_long = f.name_long;
  name_bytes = f.name_bytes;
  kind = f.kind;
  attributes = f.attributes;
  slot = f.slot;
  first = f.first;
  size = h;
  sectors = omega arith;
  address = f.address;
  reserved_long = f.reserved_long;
  reserved_bytes = f.reserved_bytes;
}

pub hold_fits : (n : ℕ) → n < 256 → FitsEntry (hold_entry n)
unfolding hold_entry
hold_fits n h = record {
  name_long = length-zeros 16;
  name_bytes = zeros_bytes 16;
  kind = omega arith;
  attributes = omega arith;
  slot = omega arith;
  first = omega arith;
  size = omega arith;
  sectors = h;
  address = omega arith;
  reserved_long = length-zeros 3;
  reserved_bytes = zeros_bytes 3;
}

pub new_fits : (name : List ℕ) (kind slot first size address : ℕ) → length name ≡ 16 → Bytes name → kind < 256 → slot < 65536 → first < 4294967296 → size < 65536 →
    address < 65536 → FitsEntry (new_entry name kind slot first size address)
unfolding new_entry
new_fits name kind slot first size address l b k s f z a = record {
  name_long = l;
  name_bytes = b;
  kind = k;
  attributes = omega arith;
  slot = s;
  first = f;
  size = z;
  sectors = omega arith;
  address = a;
  reserved_long = length-zeros 3;
  reserved_bytes = zeros_bytes 3;
}

-- WHAT AN ENTRY MAKES OF ITS SLOT

pub entered : (p : Place) (e : Entry) → FitsEntry e → decoded (acted p (enter (entry_bytes e))) ≡ slot_by p.slot p.first e p.sectors
unfolding decoded
entered p e f = ap (λ (x : Entry). slot_by p.slot p.first x p.sectors) (entry_back e f.name_long f.reserved_long)

-- a byte of a name is neither $00 nor $7F
name_byte : (c : ℕ) → name_char c ≡ true → (0 < c) × (c < 127)
name_byte c e = elim (or_cases (leb 65 c && leb c 90) _ e) [
  | inl h ↦ let p = and_parts (leb 65 c) (leb c 90) h in (omega (arith, leb-true 65 c p.0), omega (arith, leb-true c 90 p.1))
  | inr g ↦ elim (or_cases (leb 48 c && leb c 57) _ g) [
    | inl h ↦ let p = and_parts (leb 48 c) (leb c 57) h in (omega (arith, leb-true 48 c p.0), omega (arith, leb-true c 57 p.1))
    | inr i ↦ elim (or_cases (eqb c 32) (eqb c 45) i) [
      | inl h ↦ let p = eqb-true c 32 h in (omega arith, omega arith)
      | inr h ↦ let p = eqb-true c 45 h in (omega arith, omega arith)
    ]
  ]
]

pub lawful_first : (n : List ℕ) → lawful_name n ≡ true → (0 < get_or n 0 0) × (get_or n 0 0 < 127)
lawful_first [] e = let z = (and_parts (leb 0 16) false e).1 in cc
lawful_first (x ∷ xs) e =
    let p = and_parts (leb (length (x ∷ xs)) 16) _ e in
    let q = and_parts (name_chars (x ∷ xs)) _ p.1 in
    name_byte x (and_parts (name_char x) (name_chars xs) q.0).0

pub lawful_short : (n : List ℕ) → lawful_name n ≡ true → length n ≤ 16
lawful_short n e = leb-true (length n) 16 (and_parts (leb (length n) 16) _ e).0

chars_bytes : (n : List ℕ) → name_chars n ≡ true → Bytes n
chars_bytes [] e = no_bytes
chars_bytes (x ∷ xs) e =
    let p = and_parts (name_char x) (name_chars xs) e in
    cons_bytes x xs (omega (arith, name_byte x p.0)) (chars_bytes xs p.1)

pub lawful_bytes : (n : List ℕ) → lawful_name n ≡ true → Bytes n
lawful_bytes n e = chars_bytes n (and_parts (name_chars n) (some_shown n) (and_parts (leb (length n) 16) _ e).1).0

-- the tests that tell a slot's state: first byte $00, no sectors, first byte $7F; and the sectors to be wiped
abbrev no_name : Entry → Bool
no_name e = eqb (get_or e.name 0 0) 0

abbrev no_sectors : Entry → Bool
no_sectors e = eqb e.sectors 0

abbrev marked : Entry → Bool
marked e = eqb (get_or e.name 0 0) 127

abbrev mark : Entry → ℕ
mark e = min 128 e.sectors

-- a lawful entry is live
pub live_by : (k a : ℕ) (e : Entry) (s : Sectors) → lawful_fields k a e ≡ true → slot_by k a e s ≡ live (job_in e s)
unfolding slot_by state_by lawful_fields
live_by k a e s h =
    let n = (and_parts (lawful_name e.name) _ h).0 in
    let b = lawful_first e.name n in
    let z : eqb (get_or e.name 0 0) 0 ≡ false = ne_eqb (get_or e.name 0 0) 0 (λ q. omega (arith, b)) in
    let x : eqb (get_or e.name 0 0) 127 ≡ false = ne_eqb (get_or e.name 0 0) 127 (λ q. omega (arith, b)) in
    rw (z, x, h)

pub erased_by : (k a : ℕ) (e : Entry) (s : Sectors) → get_or e.name 0 0 ≡ 127 → slot_by k a e s ≡ erased (job_in e s)
unfolding slot_by state_by
erased_by k a e s h = rw h

-- what a live slot says of its entry
pub record IsLive (k a : ℕ) (e : Entry) (s : Sectors) (j : Job) : Type 0 where
  pub lawful : lawful_fields k a e ≡ true
  pub job : job_in e s ≡ j

live_cases : (z n x l : Bool) (m : ℕ) (i j : Job) → as_slot (cond z (cond n Empty (Held m)) (cond x Erased (cond l Live Damaged))) i ≡ live j → (l ≡ true) × (i ≡ j)
live_cases true true x l m i j e = cc
live_cases true false x l m i j e = cc
live_cases false n true l m i j e = cc
live_cases false n false true m i j e = (refl, cc)
live_cases false n false false m i j e = cc

pub is_live_by : (k a : ℕ) (e : Entry) (s : Sectors) (j : Job) → slot_by k a e s ≡ live j → IsLive k a e s j
unfolding slot_by state_by
is_live_by k a e s j h =
    let r = live_cases (no_name e) (no_sectors e) (marked e) (lawful_fields k a e) (mark e) (job_in e s) j h in
    record { lawful = r.0; job = r.1 }

erased_cases : (z n x l : Bool) (m : ℕ) (i j : Job) → as_slot (cond z (cond n Empty (Held m)) (cond x Erased (cond l Live Damaged))) i ≡ erased j → (x ≡ true) × (i ≡ j)
erased_cases true true x l m i j e = cc
erased_cases true false x l m i j e = cc
erased_cases false n true l m i j e = (refl, cc)
erased_cases false n false true m i j e = cc
erased_cases false n false false m i j e = cc

pub is_erased_by : (k a : ℕ) (e : Entry) (s : Sectors) (j : Job) → slot_by k a e s ≡ erased j → (get_or e.name 0 0 ≡ 127) × (job_in e s ≡ j)
unfolding slot_by state_by
is_erased_by k a e s j h =
    let r = erased_cases (no_name e) (no_sectors e) (marked e) (lawful_fields k a e) (mark e) (job_in e s) j h in
    (eqb-true (get_or e.name 0 0) 127 r.0, r.1)

-- a slot without a job goes by its entry alone
pub data HasNoJob : Slot → Type 0 where
  empty_none : HasNoJob empty
  held_none : {n : ℕ} → HasNoJob (held n)

quiet_cases : (z n x l : Bool) (m : ℕ) (i j : Job) (y : Slot) → HasNoJob y → as_slot (cond z (cond n Empty (Held m)) (cond x Erased (cond l Live Damaged))) i ≡ y →
    as_slot (cond z (cond n Empty (Held m)) (cond x Erased (cond l Live Damaged))) j ≡ y
quiet_cases true true x l m i j y q e = e
quiet_cases true false x l m i j y q e = e
quiet_cases false n true l m i j y q e = by y q e
  where
    by : (y : Slot) → HasNoJob y → erased i ≡ y → erased j ≡ y
    by empty q e = cc
    by (held m) q e = cc
    by (live k) q e = elim q [ ]
    by (erased k) q e = elim q [ ]
    by damaged q e = elim q [ ]
quiet_cases false n false true m i j y q e = by y q e
  where
    by : (y : Slot) → HasNoJob y → live i ≡ y → live j ≡ y
    by empty q e = cc
    by (held m) q e = cc
    by (live k) q e = elim q [ ]
    by (erased k) q e = elim q [ ]
    by damaged q e = elim q [ ]
quiet_cases false n false false m i j y q e = e

pub quiet : (k a : ℕ) (e : Entry) (s t : Sectors) (y : Slot) → HasNoJob y → slot_by k a e s ≡ y → slot_by k a e t ≡ y
unfolding slot_by state_by
quiet k a e s t y q h = quiet_cases (no_name e) (no_sectors e) (marked e) (lawful_fields k a e) (mark e) (job_in e s) (job_in e t) y q h

pub held_by : (k a n : ℕ) (s : Sectors) → slot_by k a (hold_entry (suc n)) s ≡ held (min 128 (suc n))
unfolding slot_by state_by hold_entry zeros
held_by k a n s = let h : eqb (suc n) 0 ≡ false = ne_eqb (suc n) 0 (λ q. omega arith) in rw h

pub emptied_by : (k a : ℕ) (s : Sectors) → slot_by k a (hold_entry 0) s ≡ empty
unfolding slot_by state_by hold_entry zeros
emptied_by k a s = refl
