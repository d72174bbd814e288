-- Looking for a job by its name, as the calls on a job do before anything else.
use Rattle.std.specs.Prelude.{◌≡◌, ℕ, ◌<◌, Bool, false, cond, List, Some, None, Ok, Err, Option, Result}
use Rattle.std.specs.Str.{bytes_eq}
use Rattle.device.specs.Faults.{Faults}
use Rattle.device.specs.Meaning.{Meaning}
use Rattle.layout.specs.Names.{lawful_name, padded}
use Rattle.places.specs.Places.{Place}
use Rattle.refusals.specs.declared.Refusal.{Refusal}
use Rattle.refusals.specs.declared.Refusal.TheVariants.{Name, NoJob}
use Rattle.plans.specs.Memory.{OpenJob, Memory, card_layout}
use Rattle.plans.specs.Plans.{Plan, tell, decline, refuse, go, never, for_entries, at_first, between, unless, found, named_shut, card_places, place_in, entry_of}
use Rattle.plans.specs.Slots.{named, live, decoded, slots_in, lowest, job_in}
use Rattle.volume.specs.Directory.{Passed}
use Rattle.volume.specs.Outcomes.{RefusedBy}
use Rattle.volume.specs.declared.found.Found.{Found}

-- whether the open job has the padded name n
abbrev pub open_named : Option OpenJob → List ℕ → Bool
open_named None n = false
open_named (Some o) n = bytes_eq n o.name

-- the padded bytes of a name, which has to be lawful
abbrev pub padded_name : List ℕ → Result (List ℕ) Refusal
padded_name n = cond (lawful_name n) (Ok (padded n)) (Err Name)

-- the plans of calls on a job by its name, which go on by g with the job's slot: by the padded name; by a name that has
-- to be lawful; and by one that may not be that of the open job o either
abbrev pub padded_plan : List Place → List ℕ → (ℕ → Plan) → Plan
padded_plan ps n g = found (lowest (named n) (slots_in ps)) NoJob g

abbrev pub named_plan : List Place → List ℕ → (ℕ → Plan) → Plan
named_plan ps n g = unless (lawful_name n) Name (padded_plan ps (padded n) g)

abbrev pub shut_plan : List Place → Option OpenJob → List ℕ → (ℕ → Plan) → Plan
shut_plan ps o n g = unless (lawful_name n) Name (named_shut o (padded n) (padded_plan ps (padded n) g))

-- a plan that reads before anything else
abbrev pub ReadsFirst : Plan → Type 0
ReadsFirst (tell a q) = ⊥
ReadsFirst (decline r) = ⊥
ReadsFirst (refuse r) = Unit {0}
ReadsFirst (go never ws a q) = ⊥
ReadsFirst (go for_entries ws a q) = ⊥
ReadsFirst (go at_first ws a q) = Unit {0}
ReadsFirst (go between ws a q) = Unit {0}

-- the job is there: its slot and its entry, and where the plans P go on
pub record FoundJob (P : (ℕ → Plan) → Plan) (m m' : Meaning) (q : Memory) (v : Found) : Type 0 where
  pub passed : Passed (card_layout q) m m'
  pub inside : v.slot < (card_layout q).slots
  pub entry : v.entry ≡ entry_of (place_in (card_places q m.sectors) v.slot)
  pub lives : decoded (place_in (card_places q m.sectors) v.slot) ≡ live (job_in v.entry (place_in (card_places q m.sectors) v.slot).sectors)
  pub goes_on : (g : ℕ → Plan) → P g ≡ g v.slot

-- refused as every such plan refuses there
abbrev pub Finds : ((ℕ → Plan) → Plan) → Faults → (m m' : Meaning) (q : Memory) → Result Found Refusal → Type 0
Finds P t m m' q (Ok v) = FoundJob P m m' q v
Finds P t m m' q (Err r) = (g : ℕ → Plan) → ((k : ℕ) → ReadsFirst (g k)) → RefusedBy t (card_layout q) (P g) r m m' q q
