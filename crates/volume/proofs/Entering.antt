-- One write, and the entry of a slot read and written.
use Rattle.std.proofs.Common.{◌≡◌, ℕ, ◌<◌, List, [], ◌∷◌, length, get_or, set, Ok, Err, Result, sym, ap, ◌∙◌, subst, ap₂, inl, inr, arith, lit<}
use Rattle.device.specs.Faults.{Faults, Within}
use Rattle.device.specs.Meaning.{Meaning}
use Rattle.device.specs.Transfers as transfers
use Rattle.device.specs.declared.faults.Act.TheVariants.{Write}
use Rattle.device.specs.declared.faults.Fault.{Fault}
use Rattle.layout.specs.Bytes.{part}
use Rattle.layout.specs.Sizes.{place_of}
use Rattle.layout.specs.declared.sizes.Layout.{Layout}
use Rattle.runs.specs.Writes.{with_sectors, failed_with}
use Rattle.entries.specs.Entry.{entry_in, entry_bytes}
use Rattle.entries.specs.declared.entry.Entry.{Entry}
use Rattle.places.specs.Places.{places}
use Rattle.places.specs.SlotWrites.{SlotWrite, written, spliced}
use Rattle.plans.specs.Plans.{Reads, for_entries, entering, entry_of, place_in}
use Rattle.volume.specs.Directory.{ReadEntry}
use Rattle.volume.specs.Performing.{sector_of, at_write, Runs}
use Rattle.volume.proofs.Glue.{entry_at}

-- one write: sector n and the bytes b are what the layout says of it
pub one_runs : {t u : Faults} (c : Layout) (rs : Reads) {m m' : Meaning} {n : ℕ} {b : List ℕ} (w : SlotWrite) (r : Result (Unit {0}) Fault) → Within u t →
    set m.sectors n b ≡ written c m.sectors w → n ≡ sector_of c w → length b ≡ 512 → n < length m.sectors →
    transfers.Writes u m m' n b r → Runs t c rs m m' (w ∷ []) r
one_runs c rs {m = m} w (Ok v) y e i l h x =
    let a = x.otherwise l h in
    record { leaves = a.1 ∙ ap (with_sectors m) e; accepted = λ _. a.0 }
one_runs {t = t} c rs {m = m} {n = n} w (Err f) y e i l h x =
    let a = x.otherwise l h in
    at_write (record {
      which = 0;
      is_one = lit< tt;
      accepted = λ z. absurd (omega arith);
      refusable = a.0;
      names = subst (λ (k : ℕ). t Write k f) i (y Write n f a.1);
      leaves = elim a.2 [ inl o ↦ inl o | inr o ↦ inr (o.0, o.1 ∙ ap (failed_with m) e) ];
    })

-- the same transfer, of the same sector by another name
pub reads_at : {t : Faults} {m m' : Meaning} {n n' : ℕ} {b b' : List ℕ} {r : Result (Unit {0}) Fault} → n ≡ n' → transfers.Reads t m m' n b b' r → transfers.Reads t m m' n' b b' r
reads_at {t = t} {m = m} {m' = m'} {b = b} {b' = b'} {r = r} e x = subst (λ (k : ℕ). transfers.Reads t m m' k b b' r) e x

pub writes_at : {t : Faults} {m m' : Meaning} {n n' : ℕ} {b : List ℕ} {r : Result (Unit {0}) Fault} → n ≡ n' → transfers.Writes t m m' n b r → transfers.Writes t m m' n' b r
writes_at {t = t} {m = m} {m' = m'} {b = b} {r = r} e x = subst (λ (k : ℕ). transfers.Writes t m m' k b r) e x

-- the entry of a slot, out of its directory sector
pub entry_read : {t : Faults} (c : Layout) {m m₁ : Meaning} (k : ℕ) {b₀ b₁ : List ℕ} {e : Entry} → k < c.slots → length b₀ ≡ 512 → (place_of k).sector < length m.sectors →
    transfers.Reads t m m₁ (place_of k).sector b₀ b₁ (Ok tt) → e ≡ entry_in (part b₁ (place_of k).offset 32) → ReadEntry c m m₁ k e
entry_read c {m = m} k i l h x e =
    let a = x.otherwise l h in
    record {
      same = a.2;
      accepted = a.0;
      value = e ∙ ap (λ (z : List ℕ). entry_in (part z (place_of k).offset 32)) a.1 ∙ sym (entry_at c m.sectors k i);
    }

-- the entry of a slot read, changed by f and written
pub entry_changed : {t u : Faults} (c : Layout) {m m₁ m₂ : Meaning} (k : ℕ) (f : Entry → Entry) {n : ℕ} {b₀ b₁ b₂ : List ℕ} {e x : Entry} (r : Result (Unit {0}) Fault) → Within u t → k < c.slots → n < length m.sectors →
    length b₀ ≡ 512 → n ≡ (place_of k).sector → transfers.Reads t m m₁ n b₀ b₁ (Ok tt) → e ≡ entry_in (part b₁ (place_of k).offset 32) → x ≡ f e → b₂ ≡ spliced b₁ (place_of k).offset (entry_bytes x) →
    length b₂ ≡ 512 → transfers.Writes u m₁ m₂ n b₂ r → Runs t c for_entries m m₂ (entering k (f (entry_of (place_in (places c m.sectors) k))) ∷ []) r
entry_changed {u = u} c {m = m} {m₂ = m₂} k f {n = n} {b₁ = b₁} {b₂ = b₂} {e = e} {x = x} r y l h j i v g z s d w =
    let a = v.otherwise j h in
    let was : e ≡ entry_of (place_in (places c m.sectors) k) =
    g ∙ ap (λ (p : List ℕ). entry_in (part p (place_of k).offset 32)) (a.1 ∙ ap (λ (q : ℕ). get_or m.sectors q []) i) ∙ sym (entry_at c m.sectors k l) in
    let to : f (entry_of (place_in (places c m.sectors) k)) ≡ x = ap f (sym was) ∙ sym z in
    let same : b₂ ≡ spliced (get_or m.sectors (place_of k).sector []) (place_of k).offset (entry_bytes x) =
    s ∙ ap (λ (p : List ℕ). spliced p (place_of k).offset (entry_bytes x)) (a.1 ∙ ap (λ (q : ℕ). get_or m.sectors q []) i) in
    rw to
    (one_runs c for_entries (entering k x) r y (ap₂ (λ (q : ℕ) (p : List ℕ). set m.sectors q p) i same) i d h
    (subst (λ (q : Meaning). transfers.Writes u q m₂ n b₂ r) a.2 w))
