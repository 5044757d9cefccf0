use Rattle.std.proofs.Common.{◌≡◌, ◌≤◌, ◌+◌, ◌∷◌, ℕ, List, length, drop, ap, arith}
use Rattle.std.specs.List.{enumerate_from}
use Rattle.std.proofs.Math.ListN.{drop_of_length-le}
use Rattle.class_table.specs.declared.record.Place.TheVariants as place
use Rattle.use_index.specs.declared.found.Found.{Found}
use Rattle.use_index.specs.declared.found.Owner.TheVariants as owner
use Rattle.use_index.specs.Found.{found_in_row}
use Rattle.use_index.specs.Rows.{used_of}
use Rattle.use_index.proofs.Walks.{flat-step, flat-end, drop-next}
use Rattle.use_index.proofs.found.put_methods.Goals as goal

pub loop-number-preserved : goal.loop-number-preserved
loop-number-preserved c =
    let k = c.loop-number.number in
    let x = c.index-methods-number.result in
    let f : ℕ × ℕ → List Found = λ e. found_in_row c.args.name c.args.what (owner.Method e.0) (used_of c.args.index.now.uses (place.Method e.1)) in
    let next : drop k c.args.methods.now ≡ x ∷ drop (k + 1) c.args.methods.now = drop-next c.args.methods.now k x c.loop-number-test.true c.index-methods-number.is in
    flat-step f (k, x) (enumerate_from (k + 1) (drop (k + 1) c.args.methods.now)) c.loop-number.found.items c.put_row.new.found.items _
    (rw c.used-row.ensures at c.in_ok-put_row.ensures)
    (rw next at c.loop-number.invariant)

pub returns : goal.returns
returns c =
    let k = c.loop-number.number in
    let end : length c.args.methods.now ≤ k = omega arith in
    let f : ℕ × ℕ → List Found = λ e. found_in_row c.args.name c.args.what (owner.Method e.0) (used_of c.args.index.now.uses (place.Method e.1)) in
    flat-end f (enumerate_from k (drop k c.args.methods.now)) c.loop-number.found.items _ (ap (enumerate_from k) (drop_of_length-le c.args.methods.now end)) c.loop-number.invariant
