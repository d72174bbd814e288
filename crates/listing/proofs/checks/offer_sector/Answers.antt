use Rattle.std.proofs.Common.{◌≡◌, ℕ, ◌+◌, false, get_or, refl, ◌∙◌, subst, ap₂, rules, arith}
use Rattle.entries.specs.declared.entry.Entry.{Entry}
use Rattle.layout.specs.Sizes.{block_of}
use Rattle.plans.specs.Rows.{finding, fault_in}
use Rattle.listing.specs.Faults.{findings_in}
use Rattle.listing.specs.Tables.{OfferedAll}
use Rattle.listing.proofs.FindingRows.{offered_none, offered_more}
use Rattle.listing.proofs.checks.offer_sector.Goals as goal

pub loop-i-init : goal.loop-i-init
loop-i-init c = record {
  lender = refl;
  offered = offered_none c.args.layout.now c.args.sector.now c.args.taken.now c.args.first refl;
}

pub loop-i-preserved : goal.loop-i-preserved
loop-i-preserved c =
    let y = c.args.layout.now in
    let k = c.args.first + c.loop-i.i in
    record {
      lender = search rules;
      offered =
          offered_more y c.args.sector.now c.args.taken.now c.args.first c.loop-i.i c.loop-i-test.true
          (c.finding.ensures
          ∙ ap₂ (λ (j : ℕ) (e : Entry). finding k (fault_in y.slots (get_or c.args.taken.now j false) k (block_of y k) e)) c.from.ensures c.entry_in-entry.ensures)
          c.loop-i.invariant.offered c.offer.ensures.offered;
    }

pub returns-clause-offered : goal.returns-clause-offered
returns-clause-offered c =
    let e : c.loop-i.i ≡ 16 = omega arith in
    subst (λ (n : ℕ). OfferedAll (findings_in c.args.layout.now c.args.sector.now c.args.taken.now c.args.first n) c.args.rows.now c.loop-i.rows) e c.loop-i.invariant.offered
