-- The rows of a list, against the slots that they show.
use Rattle.std.proofs.Common.{◌≡◌, ℕ, zero, suc, ◌+◌, ◌<◌, true, ◌⊎◌, List, [], ◌∷◌, map, length, get_or, set, sym, refl, ap, ◌∙◌, subst, inl, inr, add-zero, arith}
use Rattle.layout.specs.Names.{lawful_name, padded}
use Rattle.rows.specs.declared.job_row.JobRow.{JobRow}
use Rattle.plans.specs.Slots.{Job, Slot, empty, held, live, erased, damaged}
use Rattle.plans.specs.Rows.{kept, job_row, rows_from, job_rows}
use Rattle.plans.proofs.Entries.{lawful_first, lawful_short}
use Rattle.history.specs.Agreement.{seen}
use Rattle.history.proofs.Agreeing.{seen_live, get_or-seen}
use Rattle.history.proofs.OneSlot.{length-padded, padded_lawful}
use Rattle.histories.specs.Theorem.{Shows}

abbrev Member : JobRow → List JobRow → Type 0
Member r [] = ⊥
Member r (x ∷ xs) = (r ≡ x) ⊎ Member r xs

member_at : (rows : List JobRow) (r : JobRow) (i : ℕ) → i < length rows → get_or rows i r ≡ r → Member r rows
member_at [] r i h e = absurd (omega arith)
member_at (x ∷ xs) r zero h e = inl (sym e)
member_at (x ∷ xs) r (suc i) h e = inr (member_at xs r i (omega arith) e)

at_member : (rows : List JobRow) (r : JobRow) → Member r rows → (i : ℕ) × (i < length rows) × (get_or rows i r ≡ r)
at_member [] r m = absurd m
at_member (x ∷ xs) r (inl e) = (0, omega arith, sym e)
at_member (x ∷ xs) r (inr m) = let t = at_member xs r m in (suc t.0, (let h = t.1 in omega arith), t.2)

-- the slot that a row shows
pub record Shown (ys : List Slot) (b : ℕ) (r : JobRow) : Type 0 where
  pub index : ℕ
  pub job : Job
  pub slot : (get_or ys index empty ≡ live job) ⊎ (get_or ys index empty ≡ erased job)
  pub row : r ≡ job_row (b + index) job

shown_up : (y : Slot) (ys : List Slot) (b : ℕ) (r : JobRow) → Shown ys (suc b) r → Shown (y ∷ ys) b r
shown_up y ys b r s = record {
  index = suc s.index;
  job = s.job;
  slot = s.slot;
  row = s.row ∙ (let e : suc b + s.index ≡ b + suc s.index = omega arith in ap (λ (k : ℕ). job_row k s.job) e);
}

shown_here : (y : Slot) (ys : List Slot) (b : ℕ) (r : JobRow) (j : Job) → (y ≡ live j) ⊎ (y ≡ erased j) → r ≡ job_row b j → Shown (y ∷ ys) b r
shown_here y ys b r j o e = record { index = 0; job = j; slot = o; row = e ∙ ap (λ (k : ℕ). job_row k j) (sym (add-zero b)) }

rows_shown : (ys : List Slot) (b : ℕ) (r : JobRow) → Member r (kept (rows_from b ys)) → Shown ys b r
rows_shown [] b r m = absurd m
rows_shown (empty ∷ ys) b r m = shown_up empty ys b r (rows_shown ys (suc b) r m)
rows_shown (held n ∷ ys) b r m = shown_up (held n) ys b r (rows_shown ys (suc b) r m)
rows_shown (live j ∷ ys) b r (inl e) = shown_here (live j) ys b r j (inl refl) e
rows_shown (live j ∷ ys) b r (inr m) = shown_up (live j) ys b r (rows_shown ys (suc b) r m)
rows_shown (erased j ∷ ys) b r (inl e) = shown_here (erased j) ys b r j (inr refl) e
rows_shown (erased j ∷ ys) b r (inr m) = shown_up (erased j) ys b r (rows_shown ys (suc b) r m)
rows_shown (damaged ∷ ys) b r m = shown_up damaged ys b r (rows_shown ys (suc b) r m)

-- a live job has its row
member_up : (y : Slot) (ys : List Slot) (b : ℕ) (r : JobRow) → Member r (kept (rows_from (suc b) ys)) → Member r (kept (rows_from b (y ∷ ys)))
member_up empty ys b r m = m
member_up (held n) ys b r m = m
member_up (live j) ys b r m = inr m
member_up (erased j) ys b r m = inr m
member_up damaged ys b r m = m

live_row : (ys : List Slot) (b k : ℕ) (j : Job) → get_or ys k empty ≡ live j → Member (job_row (b + k) j) (kept (rows_from b ys))
live_row [] b k j e = cc
live_row (y ∷ ys) b zero j e =
    subst (λ (x : Slot). Member (job_row (b + 0) j) (kept (rows_from b (x ∷ ys)))) (sym e) (inl (ap (λ (k : ℕ). job_row k j) (add-zero b)))
live_row (y ∷ ys) b (suc k) j e =
    let q : suc b + k ≡ b + suc k = omega arith in
    subst (λ (i : ℕ). Member (job_row i j) (kept (rows_from b (y ∷ ys)))) q (member_up y ys b (job_row (suc b + k) j) (live_row ys (suc b) k j e))

-- an erased job shows no lawful name
erased_unlawful : (j : Job) (x : Slot) (n : List ℕ) → lawful_name n ≡ true → seen x ≡ erased j → j.name ≡ padded n → ⊥
erased_unlawful j empty n l e f = cc
erased_unlawful j (held k) n l e f = cc
erased_unlawful j (live i) n l e f = cc
erased_unlawful j damaged n l e f = cc
erased_unlawful j (erased i) n l e f =
    let name : set i.name 0 0x7F ≡ padded n = ap (λ (z : Job). z.name) (same e) ∙ f in
    marked i.name (padded n) (length-padded n (lawful_short n l)) (lawful_first (padded n) (padded_lawful n l)).1 name
  where
    same : {a c : Job} → erased a ≡ erased c → a ≡ c
    same e = cc

    marked : (a b : List ℕ) → length b ≡ 16 → get_or b 0 0 < 127 → set a 0 0x7F ≡ b → ⊥
    marked [] b l h e = let z : length b ≡ 0 = ap length (sym e) in omega arith
    marked (x ∷ xs) b l h e = let z : get_or b 0 0 ≡ 0x7F = ap (λ (y : List ℕ). get_or y 0 0) (sym e) in omega arith

-- a slot is shown under a lawful name exactly if a live job of that name is there
pub shows_live : (xs : List Slot) (k : ℕ) (n : List ℕ) → lawful_name n ≡ true → Shows (job_rows (map seen xs)) k (padded n) → (j : Job) × (get_or xs k empty ≡ live j) × (j.name ≡ padded n)
unfolding job_rows
shows_live xs k n l w =
    let r : JobRow = w.1 in
    let s = rows_shown (map seen xs) 0 r (member_at (kept (rows_from 0 (map seen xs))) r w.0 w.2 w.3) in
    let i : s.index ≡ k = (let z : 0 + s.index ≡ s.index = omega arith in sym z) ∙ (sym (ap (λ (x : JobRow). x.slot) s.row) ∙ w.4) in
    let name : s.job.name ≡ padded n = sym (ap (λ (x : JobRow). x.name) s.row) ∙ w.5 in
    elim s.slot [
      | inl e ↦ (s.job, seen_live (get_or xs k empty) s.job (sym (get_or-seen xs k) ∙ (ap (λ (z : ℕ). get_or (map seen xs) z empty) (sym i) ∙ e)), name)
      | inr e ↦ absurd (erased_unlawful s.job (get_or xs s.index empty) n l (sym (get_or-seen xs s.index) ∙ e) name)
    ]

pub live_shows : (xs : List Slot) (k : ℕ) (n : List ℕ) (j : Job) → get_or xs k empty ≡ live j → j.name ≡ padded n → Shows (job_rows (map seen xs)) k (padded n)
unfolding job_rows
live_shows xs k n j e f =
    let g : get_or (map seen xs) k empty ≡ live j = get_or-seen xs k ∙ ap seen e in
    let r : JobRow = job_row (0 + k) j in
    let t = at_member (kept (rows_from 0 (map seen xs))) r (live_row (map seen xs) 0 k j g) in
    (t.0, r, t.1, t.2, (let z : 0 + k ≡ k = omega arith in z), f)
