-- A label read, as the end of a mount.
use Rattle.std.proofs.Common.{◌≡◌, ℕ, suc, ◌<◌, ◌⊎◌, List, [], ◌∷◌, length, get_or, Some, None, Ok, Err, Option, Result, sym, refl, ap, ◌∙◌, subst, inl, inr, arith}
use Rattle.device.specs.Faults.{Faults}
use Rattle.device.specs.Meaning.{Meaning, Sectors, MayAccept, MayRefuse, now_failed, sector}
use Rattle.device.specs.declared.faults.Act.TheVariants.{Read}
use Rattle.device.specs.declared.faults.Fault.{Fault}
use Rattle.layout.specs.Label.{bad_field, label_in, read_label, answered}
use Rattle.layout.specs.Words.{double_at}
use Rattle.layout.specs.declared.label.Label.{Label}
use Rattle.refusals.specs.declared.Refusal.{Refusal}
use Rattle.refusals.specs.declared.Refusal.TheVariants.{Device}
use Rattle.formatting.specs.Format.{labelled, ReadsLabel}
use Rattle.plans.specs.Calls.{mount}
use Rattle.plans.specs.Memory.{Memory, mounted, card_layout}
use Rattle.plans.specs.Plans.{mount_plan, mount_by}
use Rattle.volume.specs.Outcomes.{Ended, Performs, Plain}
use Rattle.volume.proofs.Glue.{read_cut}

-- what is kept once a mount has ended
abbrev pub kept_by : Memory → Result Label Refusal → Memory
kept_by q (Ok l) = mounted l.layout.sectors
kept_by q (Err x) = q

abbrev pub plainly : Result Label Refusal → Result (Unit {0}) Refusal
plainly (Ok l) = Ok tt
plainly (Err x) = Err x

same_error : {x y : Refusal} → ◌≡◌ {A = Result Label Refusal} (Err x) (Err y) → x ≡ y
same_error e = cc

same_label : {x y : Label} → ◌≡◌ {A = Result Label Refusal} (Ok x) (Ok y) → x ≡ y
same_label e = cc

-- the master sector b of a device of n sectors was read
by_sector : (t : Faults) (m m' : Meaning) (q : Memory) (r : Result Label Refusal) (n : ℕ) (b : List ℕ) (o : Option ℕ) → bad_field n b ≡ o →
    (MayAccept m.condition × (r ≡ labelled (answered o (label_in b))) × (m' ≡ m))
    ⊎ ((f : Fault) × (r ≡ Err (Device f)) × MayRefuse m.condition × t Read 0 f × (m' ≡ now_failed m)) →
    Ended t (card_layout q) Plain (mount_by o (double_at b 15)) m m' q (kept_by q r) (plainly r)
unfolding label_in
by_sector t m m' q (Ok l) n b None e (inl x) =
    record {
      answer = refl;
      writes = record { leaves = x.2; accepted = λ h. absurd (omega arith) };
      was_read = λ _. x.0;
      memory = ap (λ (y : Label). mounted y.layout.sectors) (same_label x.1);
    }
by_sector t m m' q (Err y) n b None e (inl x) = cc
by_sector t m m' q (Ok l) n b (Some k) e (inl x) = cc
by_sector t m m' q (Err y) n b (Some k) e (inl x) =
    inl (record { with_it = same_error x.1; was_read = λ _. x.0; device = x.2; memory = refl })
by_sector t m m' q (Ok l) n b o e (inr x) = cc
by_sector t m m' q (Err y) n b None e (inr x) =
    subst (λ (z : Refusal). Ended t (card_layout q) Plain (mount_by None (double_at b 15)) m m' q q (Err z)) (sym (same_error x.1))
    (record { by_device = read_cut (record { refusable = x.2; names = x.3; leaves = x.4 }); memory = refl })
by_sector t m m' q (Err y) n b (Some k) e (inr x) =
    subst (λ (z : Refusal). Ended t (card_layout q) Plain (mount_by (Some k) (double_at b 15)) m m' q q (Err z)) (sym (same_error x.1))
    (inr (record { by_device = read_cut (record { refusable = x.2; names = x.3; leaves = x.4 }); memory = refl }))

by_sectors : (t : Faults) (m m' : Meaning) (q : Memory) (r : Result Label Refusal) (s : Sectors) → m.sectors ≡ s → ReadsLabel t m m' r →
    Ended t (card_layout q) Plain (mount_plan s) m m' q (kept_by q r) (plainly r)
unfolding mount_plan
by_sectors t m m' q (Ok l) [] e x = let z = (x.no_sectors (ap length e)).0 in cc
by_sectors t m m' q (Err y) [] e x =
    let z = x.no_sectors (ap length e) in
    (same_error z.0, record { device = z.1; memory = refl })
by_sectors t m m' q r (b ∷ s) e x =
    let some : 0 < length m.sectors = omega (arith, ap length e) in
    let same : labelled (read_label (length m.sectors) (sector m 0)) ≡ labelled (answered (bad_field (suc (length s)) b) (label_in b)) =
    ap (λ (z : Sectors). labelled (read_label (length z) (get_or z 0 []))) e in
    by_sector t m m' q r (suc (length s)) b (bad_field (suc (length s)) b) refl
    (elim (x.otherwise some) [ inl y ↦ inl (y.0, y.1 ∙ same, y.2) | inr y ↦ inr y ])

pub mount_ends : (t : Faults) (m m' : Meaning) (q : Memory) (r : Result Label Refusal) → ReadsLabel t m m' r → Performs t Plain mount m m' q (kept_by q r) (plainly r)
mount_ends t m m' q r x = record { ends = λ _. by_sectors t m m' q r m.sectors refl x }
