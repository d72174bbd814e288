use Rattle.std.proofs.Common.{◌≡◌, ℕ, ◌+◌, ◌-◌, ◌*◌, ◌%◌, List, sym, ap, ◌∙◌, arith}
use Rattle.std.specs.Str.{bytes_eq}
use Rattle.layout.specs.declared.sizes.EntryPlace.{EntryPlace}
use Rattle.listing.proofs.Taken.{name_at}
use Rattle.listing.proofs.names.has_name.Goals as goal

pub returns : goal.returns
returns c =
    let o = 32 * (c.args.slot % 16) in
    let p : c.entry_place-at.result.offset ≡ o = ap (λ (x : EntryPlace). x.offset) c.entry_place-at.ensures in
    let e : o + 16 - o ≡ 16 = omega arith in
    c.eq.ensures ∙ ap (λ (x : List ℕ). bytes_eq x c.args.name.now) (rw (p, e) (sym (name_at c.args.sector.now c.args.slot)))
