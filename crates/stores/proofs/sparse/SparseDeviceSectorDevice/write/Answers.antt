use Rattle.std.proofs.Common.{◌≡◌, ℕ, ◌≢◌, List, length, set, Some, sym, refl, ap, ◌∙◌, subst, rules}
use Rattle.std.proofs.lemmas.Result.{err_from_is_err_and}
use Rattle.std.proofs.lemmas.Bool.{both_ways}
use Rattle.device.specs.Meaning.{Bytes, zeros}
use Rattle.device.proofs.Checks.{passed, refused_write}
use Rattle.kept.specs.Kept.{Places}
use Rattle.stores.specs.Sparse.{sparse_sectors, SparseSound}
use Rattle.stores.proofs.SparseTables.{length_sparse, sectors_given_back, sound_given_back, sectors_placed, sound_placed, not_full}
use Rattle.stores.proofs.SparseTransfers.{sparse_write, sparse_write_refused, begins_elsewhere, begins_unchecked, begins_not, begins_here}
use Rattle.stores.proofs.sparse.SparseDeviceSectorDevice.write.Goals as goal

pub returns-in_err-check_transfer : goal.returns-in_err-check_transfer
returns-in_err-check_transfer c =
    let d = c.args.self.now in
    let p = err_from_is_err_and c.from_residual.result c.from_residual.ensures.1 in
    let t = c.in_err-check_transfer.ensures in
    record {
      stays = λ u. u;
      faults = λ u a k f z. z;
      writes = λ u. rw (p.1, p.2) (refused_write (sym (length_sparse d.size d.places.now)) t);
      begins = begins_unchecked d.places.now d.size c.args.n c.args.buf.now d.failed _ _ t;
      table = rw p.1 refl;
    }

pub returns-then-self : goal.returns-then-self
returns-then-self c =
    let d = c.args.self.now in
    let p = passed c.in_ok-check_transfer.ensures in
    record {
      stays = λ u. u;
      faults = λ u a k f z. z;
      writes = λ u.
          sparse_write_refused d.places.now d.size d.geometry d.failed d.failed c.args.n _ _ c.if-self.true c.new.ensures p.1 p.0;
      begins =
          begins_elsewhere d.places.now d.size c.args.n c.args.buf.now d.failed _
          (λ w l m. both_ways d.failed w c.if-self.true);
      table = refl;
    }

pub invariant_of-self : goal.invariant_of-self
invariant_of-self c =
    let d = c.args.self.now in
    record {
      sound = subst (λ (v : Places). SparseSound v d.size) (sym c.give_back.ensures) (sound_given_back d.size c.args.n d.places.now d.sound);
    }

pub returns-then-is_zero : goal.returns-then-is_zero
returns-then-is_zero c =
    let d = c.args.self.now in
    let xs = d.places.now in
    let p = passed c.in_ok-check_transfer.ensures in
    let z = c.if-is_zero.ensures.0 refl in
    let e = c.give_back.ensures in
    record {
      stays = λ u. u;
      faults = λ u a k f q. q;
      writes = λ u.
          sparse_write xs _ d.size d.geometry d.failed c.args.n c.args.buf.now c.if-self.false p.1 p.0
          (ap (sparse_sectors d.size) e ∙ sectors_given_back d.size c.args.n xs
          ∙ ap (λ (v : List ℕ). set (sparse_sectors d.size xs) c.args.n v) (sym z));
      begins = begins_not xs d.size c.args.n c.args.buf.now d.failed (λ o f. o z);
      table = record { of_zeros = λ _. e; of_others = λ o. absurd (o z) };
    }

pub invariant_of-self-in-Some : goal.invariant_of-self-in-Some
invariant_of-self-in-Some c =
    let d = c.args.self.now in
    let xs = d.places.now in
    let n = c.args.n in
    let i = c.in-Some.i in
    let p = passed c.in_ok-check_transfer.ensures in
    let own : c.unwrap.result ≡ c.args.buf.now = search rules in
    let o : c.unwrap.result ≢ zeros 512 = λ z. both_ways c.is_zero.result c.if-is_zero.false (c.is_zero.ensures.1 (sym own ∙ z)) in
    record {
      sound =
          sound_placed d.size i n xs c.unwrap.result d.sound c.in-Some.ensures
          (record { there = p.1; whole = ap length own ∙ p.0; bytes = subst Bytes (sym own) (λ k. (c.type_inv.buf k).fits); needed = o });
    }

pub returns-in-Some : goal.returns-in-Some
returns-in-Some c =
    let d = c.args.self.now in
    let xs = d.places.now in
    let n = c.args.n in
    let i = c.in-Some.i in
    let b = c.args.buf.now in
    let p = passed c.in_ok-check_transfer.ensures in
    let o : b ≢ zeros 512 = λ z. both_ways c.is_zero.result c.if-is_zero.false (c.is_zero.ensures.1 z) in
    let place = c.in-Some.ensures in
    let own : c.unwrap.result ≡ b = search rules in
    let e : set xs i (Some (record { sector = n; bytes = c.unwrap.result })) ≡ set xs i (Some (record { sector = n; bytes = b })) =
    ap (λ (v : List ℕ). set xs i (Some (record { sector = n; bytes = v }))) own in
    record {
      stays = λ u. u;
      faults = λ u a k f q. q;
      writes = λ u.
          sparse_write xs _ d.size d.geometry d.failed n b c.if-self.false p.1 p.0
          (ap (sparse_sectors d.size) e ∙ sectors_placed d.size i n xs b place);
      begins = begins_not xs d.size n b d.failed (λ z f. not_full xs n i place f);
      table = record { of_zeros = λ z. absurd (o z); of_others = λ _. (i, place, e) };
    }

pub returns-in-None : goal.returns-in-None
returns-in-None c =
    let d = c.args.self.now in
    let p = passed c.in_ok-check_transfer.ensures in
    let o : c.args.buf.now ≢ zeros 512 = λ z. both_ways c.is_zero.result c.if-is_zero.false (c.is_zero.ensures.1 z) in
    record {
      stays = λ u. u;
      faults = λ u a k f z. z;
      writes = λ u.
          sparse_write_refused d.places.now d.size d.geometry d.failed _ c.args.n _ _ refl c.new-in-None.ensures p.1 p.0;
      begins = begins_here d.places.now d.size c.args.n c.args.buf.now d.failed _ c.new-in-None.ensures p.0 p.1 o c.in-None.ensures;
      table = refl;
    }
